-- An end says few texts at once.
use Rattle.std.proofs.Common.{ℕ, ◌≤◌, Bool, true, false, if◌then◌else◌, List, length, drop, codes, Option, arith}
use Rattle.std.specs.Str.{bytes_eq}
use Rattle.uug_session.specs.declared.greeting.AwaitedText.{AwaitedText}
use Rattle.uug_session.specs.declared.greeting.AwaitedText.TheVariants.{CalledName, CallerName, Admission, Protocols, Choice}
use Rattle.uug_session.specs.declared.greeting.Greeting.{Greeting}
use Rattle.uug_session.specs.Greeting.{GreetingStep, begins_with, came_for, is_expected, name_in_caller_text, number_came, offers_g, text_came}
use Rattle.uug_talk.specs.Call.{number_in_call}

record IsShort (step : GreetingStep) : Type 0 where
  few : length step.says ≤ 2

says_none : 0 ≤ 2
says_none = omega arith

says_one : 1 ≤ 2
says_one = omega arith

by_either : (b : Bool) (x y : GreetingStep) → IsShort x → IsShort y → IsShort (if b then x else y)
by_either true x y short_x short_y = short_x
by_either false x y short_x short_y = short_y

by_number : (b : Bool) → IsShort (number_came b)
by_number true = record { few = omega arith }
by_number false = record { few = says_one }

by_awaited : (awaited : AwaitedText) (me peer : List ℕ) (number : Option ℕ) (g : Greeting) (text : List ℕ)
    → IsShort (came_for awaited me peer number g text)
by_awaited CalledName me peer number g text =
    by_either (bytes_eq text (codes "Shere")) _ _ (record { few = says_one })
    (by_either (begins_with text (codes "Shere=")) _ _ (by_either (bytes_eq (drop 6 text) peer) _ _ (record { few = says_one }) (record { few = says_none })) (record { few = says_none }))
by_awaited CallerName me peer number g text =
    by_either (begins_with text (codes "S")) _ _
    (by_either (bytes_eq (name_in_caller_text text) peer) _ _ (by_number (is_expected number (number_in_call text))) (record { few = says_one })) (record { few = says_none })
by_awaited Admission me peer number g text =
    by_either (begins_with text (codes "ROK")) _ _ (record { few = says_none })
    (by_either (begins_with text (codes "RBADSEQ")) _ _ (record { few = says_none }) (by_either (begins_with text (codes "R")) _ _ (record { few = says_none }) (record { few = says_none })))
by_awaited Protocols me peer number g text =
    by_either (begins_with text (codes "P")) _ _ (by_either (offers_g text) _ _ (record { few = says_one }) (record { few = says_one })) (record { few = says_none })
by_awaited Choice me peer number g text =
    by_either (bytes_eq text (codes "Ug")) _ _ (record { few = says_none }) (by_either (begins_with text (codes "U")) _ _ (record { few = says_none }) (record { few = says_none }))

pub says_few : (me peer : List ℕ) (number : Option ℕ) (g : Greeting) (text : List ℕ) → length (text_came me peer number g text).says ≤ 2
says_few me peer number g text = (by_awaited g.awaited me peer number g text).few
