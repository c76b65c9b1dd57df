-- The number of an end's conversations: it stays but where a text of the greeting lets the caller in.
use Rattle.std.proofs.Common.{◌≡◌, ◌⊎◌, ℕ, ◌+◌, nat_lt, if◌then◌else◌, Bool, true, false, List, [], ◌∷◌, codes, Option, inl, inr, refl, sym, ap, subst, ◌∙◌}
use Rattle.std.specs.Prelude.{drop}
use Rattle.std.specs.Str.{bytes_eq}
use Rattle.uug_link.specs.declared.limits.TheConstants.{TIMEOUTS_MAX}
use Rattle.uug_link.specs.State.{State}
use Rattle.uug_talk.specs.Call.{call_text, number_in_call}
use Rattle.uug_talk.specs.StreamTexts.{TextsEnd, Rest, TooLong}
use Rattle.uug_session.specs.declared.end.End.{End}
use Rattle.uug_session.specs.declared.end.End.TheVariants.{BadTalk, NoProtocol}
use Rattle.uug_session.specs.declared.greeting.AwaitedText.{AwaitedText}
use Rattle.uug_session.specs.declared.greeting.AwaitedText.TheVariants.{CalledName, CallerName, Admission, Protocols, Choice}
use Rattle.uug_session.specs.declared.greeting.Greeted.{Greeted}
use Rattle.uug_session.specs.declared.greeting.Greeted.TheVariants.{GoesOn, LinkBegins, Ended}
use Rattle.uug_session.specs.declared.greeting.Greeting.{Greeting}
use Rattle.uug_session.specs.EndStep.{Stage, hailing, linked, ended, Emitted, EndEvent, EndState, Identity, text_found, long_text_found, packet_found_whole, broken_found, time_ran_out, line_lost, begins_link, end_step, greeted_so, hailing_step, linked_step, rises_at, stage_step}
use Rattle.uug_session.specs.Greeting.{GreetingStep, begins_with, goes_on, is_expected, name_in_caller_text, number_by, number_came, offers_g, risen, text_came, timed_out as greeting_timed_out}
use Rattle.uug_conversation.specs.Keeper.{Keeper}
use Rattle.uug_conversation.specs.declared.side.Side.{Side}
use Rattle.uug_conversation.specs.declared.side.Side.TheVariants.{Caller, Called}
use Rattle.uug_session.specs.WholeGreeting.{GreetingRun, Greets, IsRefusal, has_let_in, step_behind, texts_came}
use Rattle.uug_session.proofs.StepKeeps.{linked_leads}

-- ---- on the link

linked_number : {C : Type 0} (k : Keeper C) (id : Identity) (event : EndEvent) (e : EndState C)
    → (linked_step k id event e).state.number ≡ e.number
linked_number k id event e =
    linked_leads k id e (λ x. x.state.number ≡ e.number) (λ took x c. refl) (λ parted how x c took none. refl) refl refl refl event

-- ---- in the greeting

pub begun_number : {C : Type 0} (number : Option ℕ) (side : Side) (s : State) (c : C) (said : List Emitted)
    → (begins_link number side s c said).state.number ≡ number
begun_number number Caller s c said = refl
begun_number number Called s c said = refl

greeted_number : {C : Type 0} (number : Option ℕ) (id : Identity) (greeted : Greeted) (said : List Emitted) (s : State) (c : C)
    → (greeted_so number id greeted said s c).state.number ≡ number
greeted_number number id (GoesOn g) said s c = refl
greeted_number number id LinkBegins said s c = begun_number number id.side s c said
greeted_number number id (Ended how) said s c = refl

either : {A : Type 0} (P : A → Type 0) (b : Bool) (x y : A) → P x → P y → P (if b then x else y)
either P true x y h k = h
either P false x y h k = k

-- a timeout raises no number
quiet_timeout : (g : Greeting) → (greeting_timed_out g).rises ≡ false
quiet_timeout g = either (λ (x : GreetingStep). x.rises ≡ false) (nat_lt (g.timeouts + 1) TIMEOUTS_MAX) _ _ refl refl

hailing_number : {C : Type 0} (id : Identity) (g : Greeting) (event : EndEvent) (e : EndState C)
    → (hailing_step id g event e).state.number ≡ number_by (rises_at id e.number (hailing g) event) e.number
hailing_number id g (text_found text) e =
    let came = text_came id.me id.peer e.number g text in
    greeted_number (number_by came.rises e.number) id came.greeted _ e.link e.keeper
hailing_number id g long_text_found e = refl
hailing_number id g time_ran_out e =
    let came = greeting_timed_out g in
    greeted_number (number_by came.rises e.number) id came.greeted _ e.link e.keeper
    ∙ ap (λ (b : Bool). number_by b e.number) (quiet_timeout g)
hailing_number id g line_lost e = refl
hailing_number id g (packet_found_whole failed p) e = refl
hailing_number id g broken_found e = refl

stage_number : {C : Type 0} (k : Keeper C) (id : Identity) (stage : Stage) (event : EndEvent) (e : EndState C)
    → (stage_step k id stage event e).state.number ≡ number_by (rises_at id e.number stage event) e.number
stage_number k id (hailing g) event e = hailing_number id g event e
stage_number k id linked event e = linked_number k id event e
stage_number k id (ended how) event e = refl

pub step_number : {C : Type 0} (k : Keeper C) (id : Identity) (event : EndEvent) (e : EndState C)
    → (end_step k id event e).state.number ≡ number_by (rises_at id e.number e.stage event) e.number
step_number k id event e = stage_number k id e.stage event e

-- ---- over a whole greeting

abbrev at : AwaitedText → ℕ → Greeting
at awaited timeouts = record { awaited = awaited; timeouts = timeouts }

abbrev Runs : Type 0
Runs = Option ℕ → Greeting → GreetingRun

-- what a text led to, and what then came
abbrev behind : Runs → Option ℕ → GreetingStep → GreetingRun
behind more number s = step_behind more s.says (number_by s.rises number) s.greeted

-- behind the admission nothing rises, nothing is refused, and nobody is let in
record IsQuiet (number : Option ℕ) (run : GreetingRun) : Type 0 where
  same : run.number ≡ number
  unrefused : (how : End) → run.greeted ≡ Ended how → IsRefusal how → ⊥
  silent : has_let_in run.says ≡ false

no_refusal : (how was : End) → (IsRefusal was → ⊥) → Ended was ≡ Ended how → IsRefusal how → ⊥
no_refusal how was none e is = let same : was ≡ how = cc in none (subst IsRefusal (sym same) is)

quiet_end : (end : TextsEnd) (number : Option ℕ) (g : Greeting) → IsQuiet number (texts_came [] [] [] end number g)
quiet_end (Rest bytes) number g = record { same = refl; unrefused = λ how e is. cc; silent = refl }
quiet_end TooLong number g = record { same = refl; unrefused = λ how e is. no_refusal how BadTalk (λ none. none) e is; silent = refl }

chosen : (me peer : List ℕ) (texts : List (List ℕ)) (end : TextsEnd) (number : Option ℕ) (t : ℕ)
    → IsQuiet number (texts_came me peer texts end number (at Choice t))
chosen me peer [] end number t = quiet_end end number (at Choice t)
chosen me peer (text ∷ texts) end number t =
    let more : Runs = texts_came me peer texts end in
    let h = chosen me peer texts end number t in
    let P : GreetingStep → Type 0 = λ s. IsQuiet number (behind more number s) in
    either P (bytes_eq text (codes "Ug")) _ _ (record { same = refl; unrefused = λ how e is. cc; silent = refl })
    (either P (begins_with text (codes "U")) _ _
    (record { same = refl; unrefused = λ how e is. no_refusal how NoProtocol (λ none. none) e is; silent = refl })
    (record { same = h.same; unrefused = h.unrefused; silent = h.silent }))

offered : (me peer : List ℕ) (texts : List (List ℕ)) (end : TextsEnd) (number : Option ℕ) (t : ℕ)
    → IsQuiet number (texts_came me peer texts end number (at Protocols t))
offered me peer [] end number t = quiet_end end number (at Protocols t)
offered me peer (text ∷ texts) end number t =
    let more : Runs = texts_came me peer texts end in
    let h = offered me peer texts end number t in
    let P : GreetingStep → Type 0 = λ s. IsQuiet number (behind more number s) in
    either P (begins_with text (codes "P")) _ _
    (either P (offers_g text) _ _ (record { same = refl; unrefused = λ how e is. cc; silent = refl })
    (record { same = refl; unrefused = λ how e is. no_refusal how NoProtocol (λ none. none) e is; silent = refl }))
    (record { same = h.same; unrefused = h.unrefused; silent = h.silent })

-- ---- the called end

pub record CalledNumber (number : Option ℕ) (run : GreetingRun) : Type 0 where
  pub let_in : run.number ≡ number_by (has_let_in run.says) number
  pub refused : (how : End) → run.greeted ≡ Ended how → IsRefusal how → run.number ≡ number
  pub begun : run.greeted ≡ LinkBegins → run.number ≡ risen number

called_end : (end : TextsEnd) (number : Option ℕ) (g : Greeting) → CalledNumber number (texts_came [] [] [] end number g)
called_end (Rest bytes) number g = record { let_in = refl; refused = λ how e is. refl; begun = λ e. cc }
called_end TooLong number g = record { let_in = refl; refused = λ how e is. refl; begun = λ e. cc }

by_number : (more : Runs) (number : Option ℕ) (expected : Bool) → IsQuiet (risen number) (more (risen number) (at Choice 0))
    → CalledNumber number (behind more number (number_came expected))
by_number more number false h = record { let_in = refl; refused = λ how e is. refl; begun = λ e. cc }
by_number more number true h = record { let_in = h.same; refused = λ how e is. absurd (h.unrefused how e is); begun = λ e. h.same }

called_runs : (me peer : List ℕ) (texts : List (List ℕ)) (end : TextsEnd) (number : Option ℕ) (t : ℕ)
    → CalledNumber number (texts_came me peer texts end number (at CallerName t))
called_runs me peer [] end number t = called_end end number (at CallerName t)
called_runs me peer (text ∷ texts) end number t =
    let more : Runs = texts_came me peer texts end in
    let h = called_runs me peer texts end number t in
    let P : GreetingStep → Type 0 = λ s. CalledNumber number (behind more number s) in
    either P (begins_with text (codes "S")) _ _
    (either P (bytes_eq (name_in_caller_text text) peer) _ _
    (by_number more number (is_expected number (number_in_call text)) (chosen me peer texts end (risen number) 0))
    (record { let_in = refl; refused = λ how e is. refl; begun = λ e. cc }))
    (record { let_in = h.let_in; refused = h.refused; begun = h.begun })

-- ---- the caller

pub record CallerNumber (number : Option ℕ) (run : GreetingRun) : Type 0 where
  pub once : (run.number ≡ number) ⊎ (run.number ≡ risen number)
  pub refused : (how : End) → run.greeted ≡ Ended how → IsRefusal how → run.number ≡ number
  pub begun : run.greeted ≡ LinkBegins → run.number ≡ risen number

caller_end : (end : TextsEnd) (number : Option ℕ) (g : Greeting) → CallerNumber number (texts_came [] [] [] end number g)
caller_end (Rest bytes) number g = record { once = inl refl; refused = λ how e is. refl; begun = λ e. cc }
caller_end TooLong number g = record { once = inl refl; refused = λ how e is. refl; begun = λ e. cc }

admitted : (me peer : List ℕ) (texts : List (List ℕ)) (end : TextsEnd) (number : Option ℕ) (t : ℕ)
    → CallerNumber number (texts_came me peer texts end number (at Admission t))
admitted me peer [] end number t = caller_end end number (at Admission t)
admitted me peer (text ∷ texts) end number t =
    let more : Runs = texts_came me peer texts end in
    let h = admitted me peer texts end number t in
    let q = offered me peer texts end (risen number) 0 in
    let P : GreetingStep → Type 0 = λ s. CallerNumber number (behind more number s) in
    either P (begins_with text (codes "ROK")) _ _
    (record { once = inr q.same; refused = λ how e is. absurd (q.unrefused how e is); begun = λ e. q.same })
    (either P (begins_with text (codes "RBADSEQ")) _ _ (record { once = inl refl; refused = λ how e is. refl; begun = λ e. cc })
    (either P (begins_with text (codes "R")) _ _ (record { once = inl refl; refused = λ how e is. refl; begun = λ e. cc })
    (record { once = h.once; refused = h.refused; begun = h.begun })))

caller_runs : (me peer : List ℕ) (texts : List (List ℕ)) (end : TextsEnd) (number : Option ℕ) (t : ℕ)
    → CallerNumber number (texts_came me peer texts end number (at CalledName t))
caller_runs me peer [] end number t = caller_end end number (at CalledName t)
caller_runs me peer (text ∷ texts) end number t =
    let more : Runs = texts_came me peer texts end in
    let h = caller_runs me peer texts end number t in
    let a = admitted me peer texts end number 0 in
    let P : GreetingStep → Type 0 = λ s. CallerNumber number (behind more number s) in
    let told : P (goes_on (call_text me number ∷ []) Admission) = record { once = a.once; refused = a.refused; begun = a.begun } in
    either P (bytes_eq text (codes "Shere")) _ _ told
    (either P (begins_with text (codes "Shere=")) _ _
    (either P (bytes_eq (drop 6 text) peer) _ _ told (record { once = inl refl; refused = λ how e is. refl; begun = λ e. cc }))
    (record { once = h.once; refused = h.refused; begun = h.begun }))

-- ---- from the start

pub called_number : (me peer : List ℕ) (number : Option ℕ) (delivered left : List ℕ) (run : GreetingRun)
    → Greets Called me peer number delivered run left → CalledNumber number run
called_number me peer number delivered left run m =
    let heard : CalledNumber number m.heard =
    subst (CalledNumber number) (sym m.greets.came) (called_runs me peer m.greets.found.texts m.greets.found.end number 0) in
    subst (CalledNumber number) (sym m.whole) (record { let_in = heard.let_in; refused = heard.refused; begun = heard.begun })

pub caller_number : (me peer : List ℕ) (number : Option ℕ) (delivered left : List ℕ) (run : GreetingRun)
    → Greets Caller me peer number delivered run left → CallerNumber number run
caller_number me peer number delivered left run m =
    let heard : CallerNumber number m.heard =
    subst (CallerNumber number) (sym m.greets.came) (caller_runs me peer m.greets.found.texts m.greets.found.end number 0) in
    subst (CallerNumber number) (sym m.whole) (record { once = heard.once; refused = heard.refused; begun = heard.begun })

pub begun_risen : (side : Side) (me peer : List ℕ) (number : Option ℕ) (delivered left : List ℕ) (run : GreetingRun)
    → Greets side me peer number delivered run left → run.greeted ≡ LinkBegins → run.number ≡ risen number
begun_risen Caller me peer number delivered left run m = (caller_number me peer number delivered left run m).begun
begun_risen Called me peer number delivered left run m = (called_number me peer number delivered left run m).begun

pub refused_stays : (side : Side) (me peer : List ℕ) (number : Option ℕ) (delivered left : List ℕ) (run : GreetingRun) (how : End)
    → Greets side me peer number delivered run left → run.greeted ≡ Ended how → IsRefusal how → run.number ≡ number
refused_stays Caller me peer number delivered left run how m = (caller_number me peer number delivered left run m).refused how
refused_stays Called me peer number delivered left run how m = (called_number me peer number delivered left run m).refused how
