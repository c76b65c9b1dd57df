-- The search for texts where more bytes come behind.
use Rattle.std.proofs.Common.{◌≡◌, ℕ, ◌+◌, ◌-◌, ◌<◌, ◌≤◌, true, false, List, [], ◌∷◌, ◌++◌, length, take, drop, Option, Some, None, option_and_then, refl, sym, ap, subst, ◌∙◌, append_assoc, arith, length-append, length-drop}
use Rattle.std.proofs.Math.Seq.{drop-append-add}
use Rattle.std.proofs.lemmas.List.{drop_at, drop-append-le, take_all}
use Rattle.uug_talk.specs.Texts.{Heard, Passing, Open, Whole, Holds, is_whole, waiting_of, hear, heard_byte, one_used, used_before}
use Rattle.uug_session.specs.declared.greeting.Greeting.{Greeting}
use Rattle.uug_session.specs.EndStep.{hailing, text_found, long_text_found}
use Rattle.uug_session.specs.Finding.{finds, behind_byte, behind_long_text, text_finding, finding, found_with, LeavesFewer}
use Rattle.uug_talk.specs.declared.hail.TheConstants.{TEXT_START}
use Rattle.uug_session.specs.TextsHeld.{TextSearch, text_waits, text_stands, text_too_long, size_of_text, search_heard, search_text}
use Rattle.uug_session.proofs.TextsHeldLemmas.{cut_at_text, found_waiting, nothing_heard}
use Rattle.uug_talk.proofs.TextLemmas.{took, took_of, goes_on, stays_whole, stays_too_long}

-- ---- where a text becomes too long

abbrev hears_behind : List ℕ → Option Heard → Option (ℕ × Heard)
hears_behind bytes next = option_and_then (λ heard. option_and_then one_used (hear heard bytes)) next

none_used : (o : Option (ℕ × Heard)) → option_and_then one_used o ≡ None → o ≡ None
none_used None e = refl
none_used (Some found) e = cc

some_used : (o : Option (ℕ × Heard)) (used : ℕ) (next : Heard) → option_and_then one_used o ≡ Some (used, next) → (before : ℕ) × (o ≡ Some (before, next))
some_used None used next e = cc
some_used (Some found) used next e =
    let same : ◌≡◌ {A = ℕ × Heard} (1 + found.0, found.1) (used, next) = cc in
    (found.0, ap (λ (heard : Heard). Some (found.0, heard)) (ap (λ (z : ℕ × Heard). z.1) same))

pub record PassesLong (heard : Heard) (bytes : List ℕ) : Type 0 where
  pub more : (more : List ℕ) → behind_long_text heard (bytes ++ more) ≡ behind_long_text heard bytes ++ more
  pub fewer : length (behind_long_text heard bytes) < length bytes

long_step : (o : Option Heard) (bytes : List ℕ) → ((next : Heard) → hear next bytes ≡ None → PassesLong next bytes) → hears_behind bytes o ≡ None
    → ((more : List ℕ) → behind_byte (λ next. behind_long_text next (bytes ++ more)) (bytes ++ more) o ≡ behind_byte (λ next. behind_long_text next bytes) bytes o ++ more)
    × (length (behind_byte (λ next. behind_long_text next bytes) bytes o) < length bytes + 1)
long_step None bytes h e = (λ more. refl, omega arith)
long_step (Some next) bytes h e =
    let later = h next (none_used (hear next bytes) e) in
    (later.more, let fewer = later.fewer in omega arith)

-- its bytes end at the same place with more behind them
pub passes_long : (heard : Heard) (bytes : List ℕ) → hear heard bytes ≡ None → PassesLong heard bytes
passes_long heard [] e = cc
passes_long Passing (b ∷ bytes) e =
    let step = long_step (heard_byte Passing b) bytes (λ next none. passes_long next bytes none) e in
    record { more = step.0; fewer = let fewer = step.1 in omega arith }
passes_long (Open text) (b ∷ bytes) e =
    let step = long_step (heard_byte (Open text) b) bytes (λ next none. passes_long next bytes none) e in
    record { more = step.0; fewer = let fewer = step.1 in omega arith }
passes_long (Whole text) (b ∷ bytes) e = cc

behind_step : (o : Option Heard) (bytes more : List ℕ) (used : ℕ) (next : Heard)
    → ((heard : Heard) (before : ℕ) → hear heard bytes ≡ Some (before, next) → behind_long_text heard (bytes ++ more) ≡ behind_long_text next more)
    → hears_behind bytes o ≡ Some (used, next) → behind_byte (λ heard. behind_long_text heard (bytes ++ more)) (bytes ++ more) o ≡ behind_long_text next more
behind_step None bytes more used next h e = cc
behind_step (Some heard) bytes more used next h e =
    let later = some_used (hear heard bytes) used next e in
    h heard later.0 later.1

-- what was heard before says the same as the bytes themselves
pub behind_heard : (heard next : Heard) (bytes more : List ℕ) (used : ℕ) → hear heard bytes ≡ Some (used, next) → is_whole next ≡ false
    → behind_long_text heard (bytes ++ more) ≡ behind_long_text next more
behind_heard heard next [] more used e partial =
    let same : ◌≡◌ {A = ℕ × Heard} (0, heard) (used, next) = cc in
    ap (λ (h : Heard). behind_long_text h more) (ap (λ (z : ℕ × Heard). z.1) same)
behind_heard Passing next (b ∷ bytes) more used e partial =
    behind_step (heard_byte Passing b) bytes more used next (λ heard before is. behind_heard heard next bytes more before is partial) e
behind_heard (Open text) next (b ∷ bytes) more used e partial =
    behind_step (heard_byte (Open text) b) bytes more used next (λ heard before is. behind_heard heard next bytes more before is partial) e
behind_heard (Whole text) next (b ∷ bytes) more used e partial =
    let same : ◌≡◌ {A = ℕ × Heard} (0, Whole text) (used, next) = cc in
    absurd (let whole : true ≡ false = ap (λ (z : ℕ × Heard). is_whole z.1) same ∙ partial in cc)

-- ---- a start byte begins anew

hears_anew : (heard : Heard) (rest : List ℕ) → is_whole heard ≡ false → hear heard (TEXT_START ∷ rest) ≡ hear Passing (TEXT_START ∷ rest)
hears_anew Passing rest w = refl
hears_anew (Open text) rest w = refl
hears_anew (Whole text) rest w = absurd cc

passes_anew : (heard : Heard) (rest : List ℕ) → is_whole heard ≡ false
    → behind_long_text heard (TEXT_START ∷ rest) ≡ behind_long_text Passing (TEXT_START ∷ rest)
passes_anew Passing rest w = refl
passes_anew (Open text) rest w = refl
passes_anew (Whole text) rest w = absurd cc

-- ---- what is skipped changes nothing

same_finding : (a b : List ℕ) (x : TextSearch) → behind_long_text Passing a ≡ behind_long_text Passing b → text_finding a x ≡ text_finding b x
same_finding a b (text_waits rest) e = refl
same_finding a b (text_stands text others) e = refl
same_finding a b text_too_long e = ap (finds long_text_found) e

drop_passed : (passed bytes : List ℕ) (used size : ℕ) → size ≤ used → drop (length passed + used - size) (passed ++ bytes) ≡ drop (used - size) bytes
drop_passed passed bytes used size within =
    let n : length passed + used - size ≡ length passed + (used - size) = omega arith in
    ap (λ (k : ℕ). drop k (passed ++ bytes)) n ∙ drop-append-add passed bytes (used - size)

shifted : (passed bytes : List ℕ) (o : Option (ℕ × Heard)) → hear Passing bytes ≡ o
    → search_heard (passed ++ bytes) (used_before (length passed) o) ≡ search_heard bytes o
shifted passed bytes None e = refl
shifted passed bytes (Some (used, Passing)) e = refl
shifted passed bytes (Some (used, Open text)) e =
    let h : Holds (Open text) (take used bytes) = took bytes Passing (Open text) [] used (nothing_heard Passing refl) e in
    let w = found_waiting bytes (Open text) used refl ((took_of bytes Passing (Open text) used e).1 refl) h in
    ap text_waits (drop_passed passed bytes used (waiting_of (Open text)) w.within)
shifted passed bytes (Some (used, Whole text)) e =
    let h : Holds (Whole text) (take used bytes) = took bytes Passing (Whole text) [] used (nothing_heard Passing refl) e in
    let c = cut_at_text bytes text used (took_of bytes Passing (Whole text) used e).0 h in
    ap (text_stands text) (drop_passed passed bytes used (size_of_text text) c.size)

-- behind bytes that are skipped the same is found
found_behind : (g : Greeting) (passed bytes : List ℕ) (used : ℕ) (heard : Heard) → hear Passing passed ≡ Some (used, heard) → is_whole heard ≡ false
    → hear heard bytes ≡ hear Passing bytes → behind_long_text heard bytes ≡ behind_long_text Passing bytes
    → finding (hailing g) (passed ++ bytes) ≡ finding (hailing g) bytes
found_behind g passed bytes used heard e partial same behind =
    let all : used ≡ length passed = (took_of passed Passing heard used e).1 partial in
    let there : hear Passing (passed ++ bytes) ≡ used_before (length passed) (hear Passing bytes) =
    goes_on passed bytes Passing heard used e partial ∙ ap (λ (k : ℕ). used_before k (hear heard bytes)) all ∙ ap (used_before (length passed)) same in
    let search : search_text (passed ++ bytes) ≡ search_text bytes =
    ap (search_heard (passed ++ bytes)) there ∙ shifted passed bytes (hear Passing bytes) refl in
    ap (text_finding (passed ++ bytes)) search
    ∙ same_finding (passed ++ bytes) bytes (search_text bytes) (behind_heard Passing heard passed bytes used e partial ∙ behind)

-- what is heard in front of the bytes, where no text is whole with them and none too long
record HearsBefore (passed : List ℕ) : Type 0 where
  used : ℕ
  heard : Heard
  is : hear Passing passed ≡ Some (used, heard)
  partial : is_whole heard ≡ false

hears_before : (passed bytes text : List ℕ) (used : ℕ) → hear Passing (passed ++ bytes) ≡ Some (used, Open text) → HearsBefore passed
hears_before passed bytes text used e = by_heard (hear Passing passed) refl where
  by_heard : (o : Option (ℕ × Heard)) → hear Passing passed ≡ o → HearsBefore passed
  by_heard None is = absurd (let no : ◌≡◌ {A = Option (ℕ × Heard)} None (Some (used, Open text)) = sym (stays_too_long passed bytes Passing is) ∙ e in cc)
  by_heard (Some (n, Passing)) is = record { used = n; heard = Passing; is = is; partial = refl }
  by_heard (Some (n, Open other)) is = record { used = n; heard = Open other; is = is; partial = refl }
  by_heard (Some (n, Whole other)) is =
      let no : ◌≡◌ {A = Option (ℕ × Heard)} (Some (n, Whole other)) (Some (used, Open text)) = sym (stays_whole passed bytes Passing (Whole other) n is refl) ∙ e in
      let same : ◌≡◌ {A = ℕ × Heard} (n, Whole other) (used, Open text) = cc in
      absurd (let whole : true ≡ false = ap (λ (z : ℕ × Heard). is_whole z.1) same in cc)

-- the front of a text that is not whole: what came before it is skipped
open_more : (g : Greeting) (bytes more text : List ℕ) (used : ℕ) → hear Passing bytes ≡ Some (used, Open text)
    → finding (hailing g) (bytes ++ more) ≡ finding (hailing g) (drop (used - waiting_of (Open text)) bytes ++ more)
open_more g bytes more text used e =
    ap (λ z. finding (hailing g) (z ++ more)) spelled
    ∙ ap (finding (hailing g)) (append_assoc h.before (TEXT_START ∷ text) more)
    ∙ found_behind g h.before (TEXT_START ∷ (text ++ more)) k.used k.heard k.is k.partial (hears_anew k.heard (text ++ more) k.partial) (passes_anew k.heard (text ++ more) k.partial)
    ∙ ap (λ z. finding (hailing g) (z ++ more)) (sym rest) where
      all : used ≡ length bytes
      all = (took_of bytes Passing (Open text) used e).1 refl

      h : Holds (Open text) bytes
      h = subst (Holds (Open text)) (take_all used bytes (omega (arith, all))) (took bytes Passing (Open text) [] used (nothing_heard Passing refl) e)

      spelled : bytes ≡ h.before ++ TEXT_START ∷ text
      spelled = h.spelled

      k : HearsBefore h.before
      k = hears_before h.before (TEXT_START ∷ text) text used (ap (hear Passing) (sym spelled) ∙ e)

      rest : drop (used - waiting_of (Open text)) bytes ≡ TEXT_START ∷ text
      rest = ap (drop (used - waiting_of (Open text))) spelled
          ∙ drop_at h.before (TEXT_START ∷ text) (used - waiting_of (Open text)) (omega (arith, all, ap length spelled, length-append h.before (TEXT_START ∷ text)))

whole_more : (bytes more text : List ℕ) (used : ℕ) → hear Passing bytes ≡ Some (used, Whole text)
    → drop (size_of_text text) (drop (used - size_of_text text) (bytes ++ more)) ≡ drop (size_of_text text) (drop (used - size_of_text text) bytes) ++ more
whole_more bytes more text used e =
    let within : used ≤ length bytes = (took_of bytes Passing (Whole text) used e).0 in
    let c = cut_at_text bytes text used within (took bytes Passing (Whole text) [] used (nothing_heard Passing refl) e) in
    let size : size_of_text text ≤ used = c.size in
    ap (drop (size_of_text text)) (drop-append-le (used - size_of_text text) bytes more (omega arith))
    ∙ drop-append-le (size_of_text text) (drop (used - size_of_text text) bytes) more (omega (arith, length-drop (used - size_of_text text) bytes))

pub text_more : (g : Greeting) (bytes more : List ℕ) → finding (hailing g) (bytes ++ more) ≡ found_with (hailing g) more (finding (hailing g) bytes)
text_more g bytes more = by_heard (hear Passing bytes) refl where
  by_heard : (o : Option (ℕ × Heard)) → hear Passing bytes ≡ o
      → finding (hailing g) (bytes ++ more) ≡ found_with (hailing g) more (text_finding bytes (search_heard bytes o))
  by_heard None e =
      ap (λ o. text_finding (bytes ++ more) (search_heard (bytes ++ more) o)) (stays_too_long bytes more Passing e)
      ∙ ap (finds long_text_found) ((passes_long Passing bytes e).more more)
  by_heard (Some (used, Passing)) e = found_behind g bytes more used Passing e refl refl refl
  by_heard (Some (used, Open text)) e = open_more g bytes more text used e
  by_heard (Some (used, Whole text)) e =
      ap (λ o. text_finding (bytes ++ more) (search_heard (bytes ++ more) o)) (stays_whole bytes more Passing (Whole text) used e refl)
      ∙ ap (finds (text_found text)) (whole_more bytes more text used e)

pub text_fewer : (g : Greeting) (bytes : List ℕ) → LeavesFewer (finding (hailing g) bytes) bytes
text_fewer g bytes = by_heard (hear Passing bytes) refl where
  by_heard : (o : Option (ℕ × Heard)) → hear Passing bytes ≡ o → LeavesFewer (text_finding bytes (search_heard bytes o)) bytes
  by_heard None e = (passes_long Passing bytes e).fewer
  by_heard (Some (used, Passing)) e = omega arith
  by_heard (Some (used, Open text)) e = omega (arith, length-drop (used - waiting_of (Open text)) bytes)
  by_heard (Some (used, Whole text)) e =
      let within : used ≤ length bytes = (took_of bytes Passing (Whole text) used e).0 in
      let c = cut_at_text bytes text used within (took bytes Passing (Whole text) [] used (nothing_heard Passing refl) e) in
      let size : size_of_text text ≤ used = c.size in
      omega (arith, length-drop (used - size_of_text text) bytes, length-drop (size_of_text text) (drop (used - size_of_text text) bytes))
