-- What an end emits is bytes, where its name is and its packets carry bytes.
use Rattle.std.proofs.Common.{ℕ, zero, suc, Bool, true, false, nat_lt, ◌<◌, ◌+◌, ◌/◌, ◌%◌, ◌==◌, if◌then◌else◌, List, [], ◌∷◌, ◌++◌, drop, map, codes, All, Option, None, Some, arith}
use Rattle.std.specs.Bool.{⊤}
use Rattle.std.specs.Fmt.{decimal, digit_glyph, digits, digits_onto}
use Rattle.std.specs.Str.{bytes_eq}
use Rattle.std.proofs.Math.Nat.{mod-lt}
use Rattle.std.proofs.lemmas.Bool.Decides.{nat_tests}
use Rattle.uug_talk.specs.Call.{call_text, number_in_call, number_word}
use Rattle.std.proofs.lemmas.List.Elements.{All-nil, All-cons, All-head, All-tail, All-append, All-replicate}
use Rattle.uug_link.specs.declared.limits.TheConstants.{TIMEOUTS_MAX}
use Rattle.uug_link.specs.Step.{Effect, Emission, step, timed_out, to_begin}
use Rattle.uug_link.specs.State.{State}
use Rattle.uug_packet.specs.Packet.{PacketValue}
use Rattle.uug_packet.specs.Spelling.{canonical}
use Rattle.uug_packet.specs.WellFormed.{IsWellFormed}
use Rattle.uug_session.specs.declared.end.End.TheVariants as ends
use Rattle.uug_session.specs.declared.greeting.AwaitedText.{AwaitedText}
use Rattle.uug_session.specs.declared.greeting.AwaitedText.TheVariants.{CalledName, CallerName, Admission, Protocols, Choice}
use Rattle.uug_session.specs.declared.greeting.Greeted.{Greeted}
use Rattle.uug_session.specs.declared.greeting.Greeted.TheVariants.{GoesOn, LinkBegins, Ended}
use Rattle.uug_session.specs.declared.greeting.Greeting.{Greeting}
use Rattle.uug_session.specs.EndStep.{EndEvent, EndState, Emitted, Identity, Stage, begins_link, broken_found, ended, first_words, goes_on as link_goes_on, greeted_so, hailing, hailing_step, is_up, leave, line_lost, linked, linked_step, long_text_found, packet_found_whole, packets, says_text, sends_packet, speaks_by, stage_step, text_found, time_ran_out}
use Rattle.uug_session.specs.Greeting.{GreetingStep, begins_with, called_text, came_for, fails, goes_on, begins, is_expected, lets_in, name_in_caller_text, number_by, number_came, offers_g, passes_over, text_came, timed_out as greeting_timed_out}
use Rattle.uug_conversation.specs.Keeper.{Keeper}
use Rattle.uug_talk.specs.Texts.{written_text}
use Rattle.uug_conversation.specs.declared.side.Side.{Side}
use Rattle.uug_conversation.specs.declared.side.Side.TheVariants.{Caller, Called}
use Rattle.uug_line.specs.LineEndState.{bytes_in, packets_in}
use Rattle.uug_line.proofs.ByteLemmas.{AllBytes, CarriesBytes, IsByte, bytewise, canonical_bytes}
use Rattle.uug_session.proofs.StepKeeps.{linked_leads}

-- ---- texts

abbrev TextsOfBytes : List (List ℕ) → Type 0
TextsOfBytes [] = ⊤
TextsOfBytes (text ∷ texts) = AllBytes text × TextsOfBytes texts

-- of all that is emitted
abbrev pub SaysBytes : List Emitted → Type 0
SaysBytes [] = ⊤
SaysBytes (says_text text ∷ es) = AllBytes text × SaysBytes es
SaysBytes (sends_packet e ∷ es) = SaysBytes es

texts_say : (texts : List (List ℕ)) → TextsOfBytes texts → SaysBytes (map says_text texts)
texts_say [] all = tt
texts_say (text ∷ texts) all = (all.0, texts_say texts all.1)

packets_say : (emissions : List Emission) → SaysBytes (packets emissions)
packets_say [] = tt
packets_say (e ∷ emissions) = packets_say emissions

both_say : (xs ys : List Emitted) → SaysBytes xs → SaysBytes ys → SaysBytes (xs ++ ys)
both_say [] ys x y = y
both_say (says_text text ∷ xs) ys x y = (x.0, both_say xs ys x.1 y)
both_say (sends_packet e ∷ xs) ys x y = both_say xs ys x y

-- ---- on the link

leave_says : (parted : Bool) (side : Side) → SaysBytes (leave parted side)
leave_says true Caller = (All-replicate IsByte 6 79 (omega arith), tt)
leave_says true Called = (All-replicate IsByte 7 79 (omega arith), tt)
leave_says false side = tt

ends_say : (emissions : List Emission) (parted : Bool) (side : Side) → SaysBytes (packets emissions ++ leave parted side)
ends_say emissions parted side =
    both_say (packets emissions) (leave parted side) (packets_say emissions) (leave_says parted side)

module _ {C : Type 0} (k : Keeper C) (id : Identity) where
  on_says : (number : Option ℕ) (took : Bool) (e : Effect) (c : C) → SaysBytes (link_goes_on number k took e c).emitted
  on_says number took e c = packets_say (e.emitted ++ (speaks_by (is_up e.state.phase) k e.state c).emissions)

  linked_says : (event : EndEvent) (e : EndState C) → SaysBytes (linked_step k id event e).emitted
  linked_says event e =
      linked_leads k id e (λ x. SaysBytes x.emitted) (λ took x c. on_says e.number took x c) (λ parted how x c took none. ends_say x.emitted parted id.side)
      (packets_say ((step e.link timed_out).emitted ++ [])) tt tt event

-- ---- in the greeting

abbrev GreetsInBytes : GreetingStep → Type 0
GreetsInBytes g = TextsOfBytes g.says

either_greets : (b : Bool) (x y : GreetingStep) → GreetsInBytes x → GreetsInBytes y → GreetsInBytes (if b then x else y)
either_greets true x y s t = s
either_greets false x y s t = t

-- a decimal digit is a byte, and so is all that a number writes
digit_is : (d : ℕ) → d < 10 → IsByte (digit_glyph false d)
digit_is d less = grind (arith, nat_tests, less)

either_bytes : (b : Bool) (xs ys : List ℕ) → AllBytes xs → AllBytes ys → AllBytes (if b then xs else ys)
either_bytes true xs ys x y = x
either_bytes false xs ys x y = y

digits_are : (k n : ℕ) (behind : List ℕ) → AllBytes behind → AllBytes (digits_onto k 10 false n behind)
digits_are zero n behind is = is
digits_are (suc k) n behind is =
    let digit = digit_glyph false (n % 10) in
    let with_digit : AllBytes (digit ∷ behind) = All-cons IsByte digit behind (digit_is (n % 10) (mod-lt n (omega arith))) is in
    either_bytes (n / 10 == 0) (digit ∷ behind) (digits_onto k 10 false (n / 10) (digit ∷ behind)) with_digit
    (digits_are k (n / 10) (digit ∷ behind) with_digit)

decimal_bytes : (n : ℕ) → AllBytes (decimal n)
unfolding digits
decimal_bytes n = digits_are 64 n [] (All-nil IsByte)

named_bytes : (me : List ℕ) → AllBytes me → AllBytes (codes "S" ++ me)
named_bytes me is = All-append IsByte (codes "S") me (bytewise (codes "S") (omega arith, tt)) is

caller_says : (me : List ℕ) (number : Option ℕ) → AllBytes me → TextsOfBytes (call_text me number ∷ [])
caller_says me None is = (named_bytes me is, tt)
caller_says me (Some number) is = (
  All-append IsByte (codes "S" ++ me) (32 ∷ number_word number) (named_bytes me is)
      (All-append IsByte (32 ∷ codes "-Q") (decimal number)
      (bytewise (32 ∷ codes "-Q") (omega arith, (omega arith, (omega arith, tt)))) (decimal_bytes number)),
  tt,
)

called_says : (me : List ℕ) → AllBytes me → TextsOfBytes (called_text me ∷ [])
called_says me is = (
  All-append IsByte (codes "Shere=") me
      (bytewise (codes "Shere=")
      (omega arith, (omega arith, (omega arith, (omega arith, (omega arith, (omega arith, tt))))))) is,
  tt,
)

two_letters : (a b : ℕ) → IsByte a → IsByte b → AllBytes (a ∷ b ∷ [])
two_letters a b is is_too = bytewise (a ∷ b ∷ []) (is, (is_too, tt))

admitted : TextsOfBytes (codes "ROK" ∷ codes "Pg" ∷ [])
admitted = (bytewise (codes "ROK") (omega arith, (omega arith, (omega arith, tt))), (two_letters 80 103 (omega arith) (omega arith), tt))

refused : TextsOfBytes (codes "RYou are unknown to me" ∷ [])
refused = (each, tt)
  where
    each : AllBytes (codes "RYou are unknown to me")
    each = bytewise (codes "RYou are unknown to me") (
      omega arith,
      (
        omega arith,
        (
          omega arith,
          (
            omega arith,
            (
              omega arith,
              (
                omega arith,
                (
                  omega arith,
                  (
                    omega arith,
                    (
                      omega arith,
                      (
                        omega arith,
                        (
                          omega arith,
                          (
                            omega arith,
                            (
                              omega arith,
                              (
                                omega arith,
                                (
                                  omega arith,
                                  (
                                    omega arith,
                                    (omega arith, (omega arith, (omega arith, (omega arith, (omega arith, (omega arith, tt)))))),
                                  ),
                                ),
                              ),
                            ),
                          ),
                        ),
                      ),
                    ),
                  ),
                ),
              ),
            ),
          ),
        ),
      ),
    )

seven_letters : (a b c d e f g : ℕ) → IsByte a → IsByte b → IsByte c → IsByte d → IsByte e → IsByte f → IsByte g → AllBytes (a ∷ b ∷ c ∷ d ∷ e ∷ f ∷ g ∷ [])
seven_letters a b c d e f g ia ib ic id ie if_ ig = bytewise (a ∷ b ∷ c ∷ d ∷ e ∷ f ∷ g ∷ []) (ia, (ib, (ic, (id, (ie, (if_, (ig, tt)))))))

number_says : (expected : Bool) → GreetsInBytes (number_came expected)
number_says false =
    (seven_letters 82 66 65 68 83 69 81 (omega arith) (omega arith) (omega arith) (omega arith) (omega arith) (omega arith) (omega arith), tt)
number_says true = admitted

greeting_says : (awaited : AwaitedText) (me peer : List ℕ) (number : Option ℕ) (g : Greeting) (text : List ℕ) → AllBytes me
    → GreetsInBytes (came_for awaited me peer number g text)
greeting_says CalledName me peer number g text is =
    let told : GreetingStep = goes_on (call_text me number ∷ []) Admission in
    either_greets (bytes_eq text (codes "Shere")) told
    (if begins_with text (codes "Shere=")
    then (if bytes_eq (drop 6 text) peer then told else fails [] ends.WrongName)
    else passes_over g)
    (caller_says me number is)
    (either_greets (begins_with text (codes "Shere="))
    (if bytes_eq (drop 6 text) peer then told else fails [] ends.WrongName) (passes_over g)
    (either_greets (bytes_eq (drop 6 text) peer) told (fails [] ends.WrongName)
    (caller_says me number is) tt) tt)
greeting_says CallerName me peer number g text is =
    let expected = is_expected number (number_in_call text) in
    either_greets (begins_with text (codes "S"))
    (if bytes_eq (name_in_caller_text text) peer
    then number_came expected
    else fails (codes "RYou are unknown to me" ∷ []) ends.Refused)
    (passes_over g)
    (either_greets (bytes_eq (name_in_caller_text text) peer) (number_came expected)
    (fails (codes "RYou are unknown to me" ∷ []) ends.Refused) (number_says expected) refused)
    tt
greeting_says Admission me peer number g text is =
    let bad : GreetingStep = fails [] ends.BadSequence in
    let other : GreetingStep = if begins_with text (codes "R") then fails [] ends.Refused else passes_over g in
    either_greets (begins_with text (codes "ROK")) (lets_in [] Protocols)
    (if begins_with text (codes "RBADSEQ") then bad else other) tt
    (either_greets (begins_with text (codes "RBADSEQ")) bad other tt
    (either_greets (begins_with text (codes "R")) (fails [] ends.Refused) (passes_over g) tt tt))
greeting_says Protocols me peer number g text is =
    either_greets (begins_with text (codes "P"))
    (if offers_g text then begins (codes "Ug" ∷ []) else fails (codes "UN" ∷ []) ends.NoProtocol) (passes_over g)
    (either_greets (offers_g text) (begins (codes "Ug" ∷ [])) (fails (codes "UN" ∷ []) ends.NoProtocol)
    (two_letters 85 103 (omega arith) (omega arith), tt) (two_letters 85 78 (omega arith) (omega arith), tt)) tt
greeting_says Choice me peer number g text is =
    either_greets (bytes_eq text (codes "Ug")) (begins [])
    (if begins_with text (codes "U") then fails [] ends.NoProtocol else passes_over g) tt
    (either_greets (begins_with text (codes "U")) (fails [] ends.NoProtocol) (passes_over g) tt tt)

late_greets : (g : Greeting) → GreetsInBytes (greeting_timed_out g)
late_greets g =
    either_greets (nat_lt (g.timeouts + 1) TIMEOUTS_MAX)
    (record { says = []; greeted = GoesOn (record { awaited = g.awaited; timeouts = g.timeouts + 1 }); rises = false })
    (fails [] ends.GaveUp) tt tt

begin_says : {C : Type 0} (number : Option ℕ) (side : Side) (s : State) (c : C) (said : List Emitted) → SaysBytes said
    → SaysBytes (begins_link number side s c said).emitted
begin_says number Caller s c said is = both_say said (packets (step s to_begin).emitted) is (packets_say (step s to_begin).emitted)
begin_says number Called s c said is = is

greeted_says : {C : Type 0} (number : Option ℕ) (id : Identity) (how : Greeted) (said : List Emitted) (s : State) (c : C) → SaysBytes said
    → SaysBytes (greeted_so number id how said s c).emitted
greeted_says number id (GoesOn g) said s c is = is
greeted_says number id LinkBegins said s c is = begin_says number id.side s c said is
greeted_says number id (Ended how) said s c is = is

hail_says : {C : Type 0} (id : Identity) (g : Greeting) (event : EndEvent) (e : EndState C) → AllBytes id.me
    → SaysBytes (hailing_step id g event e).emitted
hail_says id g (text_found text) e is =
    let came : GreetingStep = text_came id.me id.peer e.number g text in
    greeted_says (number_by came.rises e.number) id came.greeted (map says_text came.says) e.link e.keeper
    (texts_say came.says (greeting_says g.awaited id.me id.peer e.number g text is))
hail_says id g long_text_found e is = tt
hail_says id g time_ran_out e is =
    let came : GreetingStep = greeting_timed_out g in
    greeted_says (number_by came.rises e.number) id came.greeted (map says_text came.says) e.link e.keeper (texts_say came.says (late_greets g))
hail_says id g line_lost e is = tt
hail_says id g (packet_found_whole failed p) e is = tt
hail_says id g broken_found e is = tt

-- ---- each step, and the first words

pub step_says : {C : Type 0} (k : Keeper C) (id : Identity) (stage : Stage) (event : EndEvent) (e : EndState C) → AllBytes id.me
    → SaysBytes (stage_step k id stage event e).emitted
step_says k id (hailing g) event e is = hail_says id g event e is
step_says k id linked event e is = linked_says k id event e
step_says k id (ended how) event e is = tt

pub first_says : (side : Side) (me : List ℕ) → AllBytes me → SaysBytes (first_words side me)
first_says Caller me is = tt
first_says Called me is = texts_say (called_text me ∷ []) (called_says me is)

-- ---- as it goes out

text_bytes : (text : List ℕ) → AllBytes text → AllBytes (written_text text)
text_bytes text all =
    All-cons IsByte 16 (text ++ 0 ∷ []) (omega arith) (All-append IsByte text (0 ∷ []) all (bytewise (0 ∷ []) (omega arith, tt)))

-- a packet of bytes
abbrev pub IsRight : PacketValue → Type 0
IsRight p = IsWellFormed p × CarriesBytes p

pub emitted_bytes : (es : List Emitted) → SaysBytes es → All IsRight (packets_in es) → AllBytes (bytes_in es)
emitted_bytes [] says right = All-nil IsByte
emitted_bytes (says_text text ∷ es) says right =
    All-append IsByte (written_text text) (bytes_in es) (text_bytes text says.0) (emitted_bytes es says.1 right)
emitted_bytes (sends_packet e ∷ es) says right =
    let first : IsRight e.packet = All-head IsRight e.packet (packets_in es) right in
    All-append IsByte (canonical e.packet) (bytes_in es) (canonical_bytes e.packet first.0 first.1)
    (emitted_bytes es says (All-tail IsRight e.packet (packets_in es) right))
