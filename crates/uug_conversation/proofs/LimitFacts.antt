-- What an end gives and takes that was given another limit of files: worked out by hand.
use Rattle.std.proofs.Common.{◌≡◌, [], ◌∷◌, codes, Some, None, Ok, refl}
use Rattle.uug_talk.specs.declared.answer.Answer.TheVariants as answer
use Rattle.uug_talk.specs.Gathering.{OfFile}
use Rattle.uug_conversation.specs.declared.awaits.Awaits.TheVariants as awaits
use Rattle.uug_conversation.specs.Holdings.{Holdings, to_give}
use Rattle.uug_conversation.specs.Machine.{State, kind_awaited, on_order, on_text, replies, step}
use Rattle.uug_conversation.specs.Turns.{the_answer, the_consent}
use Rattle.uug_conversation.proofs.FactParties.{x, y, six_bytes, small_file}
use Rattle.uug_conversation.proofs.LenientFacts.{lenient_x, order_of_y, told_size}
use Rattle.uug_conversation.proofs.MachineFacts.{asking, two}

-- the greatest file that it gives or takes has five bytes, or six
abbrev of_five : Holdings
of_five = record lenient_x { limit = 5 }

abbrev of_six : Holdings
of_six = record lenient_x { limit = 6 }

abbrev awaiting_five : State
awaiting_five = record { lists = two; awaits = awaits.SentFile x y 384 None 5; gathered = [] }

record AreLimited : Type 0 where
  given : to_give of_six x ≡ small_file
  not_given : to_give of_five x ≡ None
  taken : on_order of_five None (Some (told_size 5)) (Ok order_of_y) two ≡
      replies two (awaits.SentFile x y 384 (Some (told_size 5)) 5) (the_consent 0 ∷ [])
  refused : on_order of_five None (Some (told_size 6)) (Ok order_of_y) two ≡ replies two awaits.Order (the_answer answer.SendNever ∷ [])
  asked : on_text of_five awaits.RequestAnswer (codes "RY 0600") asking ≡ replies asking (awaits.AskedFile 384 None 5) []
  gathered : kind_awaited awaiting_five.awaits ≡ OfFile 5
  dropped : step of_five awaiting_five six_bytes ≡ replies two (awaits.DroppedSentFile 5) []

limited : AreLimited
limited = record { given = refl; not_given = refl; taken = refl; refused = refl; asked = refl; gathered = refl; dropped = refl }
