-- One end, given the other's messages of the conversation, says its own and moves its jobs as the conversation says.
use Rattle.std.proofs.Common.{◌≡◌, ℕ, ◌<◌, List, [], ◌∷◌, Option, Some, None, refl, subst}
use Rattle.uug_talk.specs.Chunks.{Measure}
use Rattle.uug_talk.specs.declared.answer.Answer.TheVariants as answer
use Rattle.uug_talk.specs.declared.order.Order.{Order}
use Rattle.uug_conversation.specs.declared.awaits.Awaits.TheVariants as awaits
use Rattle.uug_conversation.specs.declared.job.Job.{Job}
use Rattle.uug_conversation.specs.Choice.{choice}
use Rattle.uug_conversation.specs.Conversation.{exchanges, both_agree, last_turns, after_hang_up, hang_up, conversation}
use Rattle.uug_conversation.specs.Holdings.{Holdings}
use Rattle.uug_conversation.specs.Jobs.{Lists, at_start, moved}
use Rattle.uug_conversation.specs.Left.{IsLeft, left_of}
use Rattle.uug_conversation.specs.Machine.{between, replies, commands, on_hang_up, order_or_hang_up, opening}
use Rattle.uug_conversation.specs.Messages.{measures}
use Rattle.uug_conversation.specs.Party.{Suit, Party, IsSound}
use Rattle.uug_conversation.specs.ReadBack.{IsReadBack, EachTurn}
use Rattle.uug_conversation.specs.Runs.{IsAt, progress_at}
use Rattle.uug_conversation.specs.Turns.{other, the_answer, all_messages, plain}
use Rattle.uug_conversation.specs.declared.side.Side.{Side}
use Rattle.uug_conversation.specs.declared.side.Side.TheVariants.{Caller, Called}
use Rattle.uug_conversation.specs.View.{party, conversation_view}
use Rattle.uug_conversation.proofs.Accord.{Accords, stands}
use Rattle.uug_conversation.proofs.ExchangeLemmas.{FitsReply, Masters, say, hear_text, behind_exchanges, as_master, as_slave}
use Rattle.uug_conversation.proofs.TurnLemmas.{Fits, own_says, other_hears}
use Rattle.uug_conversation.proofs.ReadBackLemmas.{conversation_back}

hung_up_lists : (h : Holdings) (next : Option Order) (l : Lists) → (on_hang_up h next l).state.lists ≡ l
hung_up_lists h None l = refl
hung_up_lists h (Some next) l = refl

hung_up_keeps : (h : Holdings) (next : Option Order) (l : Lists) → (on_hang_up h next l).keeps ≡ []
hung_up_keeps h None l = refl
hung_up_keeps h (Some next) l = refl

module _ (measure_of : Side → Measure) (positive : (side : Side) → 0 < (measure_of side).size) where
  -- ---- both agree to hang up

  agree_as_master : (me : Side) (giver : Party) (h : Holdings) (l : Lists) → EachTurn (λ t. IsReadBack h.limit t.said) (both_agree me (other me)) →
      Fits giver h measure_of me (between l awaits.HangUpAnswer) [] (both_agree me (other me))
  agree_as_master me giver h l back =
      hear_text measure_of positive me giver h {r = replies l awaits.NothingMore (the_answer answer.HangYes ∷ [])} back.0 refl
      (λ front rest e. tt) (record { not_over = refl; not_bad = refl; not_parted = refl }) refl refl refl
      (own_says measure_of positive me giver h (the_answer answer.HangYes) [] [] [] (between l awaits.NothingMore) []
      back.1.0 (refl, refl))

  agree_as_slave : (me : Side) (giver : Party) (h : Holdings) (l : Lists) → EachTurn (λ t. IsReadBack h.limit t.said) (both_agree (other me) me) →
      FitsReply measure_of positive me giver h (replies l awaits.LastHangUp (the_answer answer.HangYes ∷ [])) (both_agree (other me) me)
  agree_as_slave me giver h l back =
      own_says measure_of positive me giver h (the_answer answer.HangYes) [] [] (plain (other me) (the_answer answer.HangYes) ∷ [])
      (between l awaits.LastHangUp) [] back.0
      (other_hears measure_of positive me giver h (the_answer answer.HangYes) [] [] [] l awaits.LastHangUp back.1.0 refl (λ front rest e. tt)
      (record { not_over = refl; not_bad = refl; parted = refl }) (replies l awaits.NothingMore []) refl
      (record { lists_moved = refl; kept = refl }) (refl, refl))

  -- ---- the last turns, where the called end is master

  last_at_caller : (giver : Party) (h : Holdings) (passed struck failed : List Job) → EachTurn (λ t. IsReadBack h.limit t.said) last_turns →
      Fits giver h measure_of Caller (between (record { passed = passed; ahead = []; struck = struck; failed = failed }) awaits.Order) [] last_turns
  last_at_caller giver h passed struck failed back =
      let l : Lists = record { passed = passed; ahead = []; struck = struck; failed = failed } in
      hear_text measure_of positive Caller giver h {r = replies l awaits.LastHangUp (the_answer answer.HangYes ∷ [])} back.0 refl
      (λ front rest e. tt) (record { not_over = refl; not_bad = refl; not_parted = refl }) refl refl refl
      (agree_as_slave Caller giver h l back.1)

  last_at_called : (giver : Party) (h : Holdings) → EachTurn (λ t. IsReadBack h.limit t.said) last_turns →
      Masters measure_of positive Called giver h [] last_turns
  last_at_called giver h back passed struck failed =
      say measure_of positive Called giver h back.0
      (agree_as_master Called giver h (record { passed = passed; ahead = []; struck = struck; failed = failed }) back.1)

  -- ---- the caller's H, and what comes behind

  after_at_caller : (next : Option Order) (a b : Party) → (measure_of Called).size ≡ b.measure.size → Suit a b → (passed struck failed : List Job) →
      EachTurn (λ t. IsReadBack a.holdings.limit t.said) (after_hang_up next a b) →
      Fits b a.holdings measure_of Caller
      (between (record { passed = passed; ahead = []; struck = struck; failed = failed }) awaits.HangUpAnswer) [] (after_hang_up next a b)
  after_at_caller None a b measured fronts passed struck failed back =
      agree_as_master Caller b a.holdings (record { passed = passed; ahead = []; struck = struck; failed = failed }) back
  after_at_caller (Some next) a b measured fronts passed struck failed back =
      let l : Lists = record { passed = passed; ahead = []; struck = struck; failed = failed } in
      hear_text measure_of positive Caller b a.holdings {r = replies l awaits.Order []} back.0 refl
      (λ front rest e. tt) (record { not_over = refl; not_bad = refl; not_parted = refl }) refl refl refl
      (as_slave measure_of positive Caller b a.holdings measured fronts.of_called fronts.sizes_of_called b.jobs (λ j i. i) l last_turns back.1
      (last_at_caller b a.holdings passed struck failed
      (behind_exchanges measure_of positive Caller b a.holdings Called Caller b.holdings a.holdings b.jobs last_turns back.1)))

  hang_up_at_caller : (a b : Party) → (measure_of Called).size ≡ b.measure.size → Suit a b → EachTurn (λ t. IsReadBack a.holdings.limit t.said) (hang_up a b) →
      Masters measure_of positive Caller b a.holdings [] (hang_up a b)
  hang_up_at_caller a b measured fronts back passed struck failed =
      say measure_of positive Caller b a.holdings back.0
      (after_at_caller (choice b.holdings b.jobs).next a b measured fronts passed struck failed back.1)

  after_at_called : (next : Option Order) (a b : Party) → Suit a b → (choice b.holdings b.jobs).next ≡ next →
      EachTurn (λ t. IsReadBack b.holdings.limit t.said) (after_hang_up next a b) →
      FitsReply measure_of positive Called a b.holdings
      (on_hang_up b.holdings next (moved (choice b.holdings b.jobs).failing (at_start b.jobs [] []))) (after_hang_up next a b)
  after_at_called None a b fronts e back =
      agree_as_slave Called a b.holdings (moved (choice b.holdings b.jobs).failing (at_start b.jobs [] [])) back
  after_at_called (Some next) a b fronts e back =
      let l = moved (choice b.holdings b.jobs).failing (at_start b.jobs [] []) in
      say measure_of positive Called a b.holdings back.0
      (subst (λ z. FitsReply measure_of positive Called a b.holdings (commands b.holdings l [] (order_or_hang_up z))
      (exchanges Called Caller b.holdings a.holdings b.jobs last_turns)) e
      (as_master measure_of positive Called a b.holdings a.holdings fronts.of_called b.jobs last_turns back.1
      (last_at_called a b.holdings
      (behind_exchanges measure_of positive Called a b.holdings Called Caller b.holdings a.holdings b.jobs last_turns back.1))
      [] [] []))

  hang_up_at_called : (a b : Party) → Suit a b → EachTurn (λ t. IsReadBack b.holdings.limit t.said) (hang_up a b) →
      Fits a b.holdings measure_of Called (between (at_start b.jobs [] []) awaits.Order) [] (hang_up a b)
  hang_up_at_called a b fronts back =
      let c = choice b.holdings b.jobs in
      hear_text measure_of positive Called a b.holdings
      {r = on_hang_up b.holdings c.next (moved c.failing (at_start b.jobs [] []))} back.0 refl
      (λ front rest e. tt) (record { not_over = refl; not_bad = refl; not_parted = refl }) refl
      (hung_up_lists b.holdings c.next (moved c.failing (at_start b.jobs [] []))) (hung_up_keeps b.holdings c.next _)
      (after_at_called c.next a b fronts refl back.1)

  -- ---- the whole conversation

  caller_accords : (a b : Party) → (measure_of Called).size ≡ b.measure.size → Suit a b → EachTurn (λ t. IsReadBack a.holdings.limit t.said) (conversation a b) →
      FitsReply measure_of positive Caller b a.holdings (opening Caller a.holdings (at_start a.jobs [] [])) (conversation a b)
  caller_accords a b measured fronts back =
      as_master measure_of positive Caller b a.holdings b.holdings fronts.of_caller a.jobs (hang_up a b) back
      (hang_up_at_caller a b measured fronts
      (behind_exchanges measure_of positive Caller b a.holdings Caller Called a.holdings b.holdings a.jobs (hang_up a b) back))
      [] [] []

  called_accords : (a b : Party) → (measure_of Caller).size ≡ a.measure.size → Suit a b → EachTurn (λ t. IsReadBack b.holdings.limit t.said) (conversation a b) →
      FitsReply measure_of positive Called a b.holdings (opening Called b.holdings (at_start b.jobs [] [])) (conversation a b)
  called_accords a b measured fronts back =
      as_slave measure_of positive Called a b.holdings measured fronts.of_caller fronts.sizes_of_caller a.jobs (λ j i. i) (at_start b.jobs [] []) (hang_up a b) back
      (hang_up_at_called a b fronts
      (behind_exchanges measure_of positive Called a b.holdings Caller Called a.holdings b.holdings a.jobs (hang_up a b) back))

-- ---- the law

both_positive : (a b : Party) → IsSound a → IsSound b → (side : Side) → 0 < (measures a b side).size
both_positive a b s t Caller = s.size
both_positive a b s t Called = t.size

pub accords_from_opening : (a b : Party) → Suit a b → IsSound a → IsSound b →
    (me : Side) → let r = opening me (party me a b).holdings (at_start (party me a b).jobs [] []) in
    Accords (party (other me) a b) (party me a b).holdings (party me a b).measure r.state (all_messages (party me a b).measure r.says) (conversation_view me a b)
accords_from_opening a b fronts s t Caller = (caller_accords (measures a b) (both_positive a b s t) a b refl fronts (conversation_back a b fronts s t Caller)).accords
accords_from_opening a b fronts s t Called = (called_accords (measures a b) (both_positive a b s t) a b refl fronts (conversation_back a b fronts s t Called)).accords

pub first_law : (a b : Party) → Suit a b → IsSound a → IsSound b →
    (me : Side) (k : ℕ) → IsAt me a b k (progress_at me a b k)
first_law a b fronts s t Caller k =
    let r = opening Caller a.holdings (at_start a.jobs [] []) in
    let x = stands b a (conversation_view Caller a b) k r.state (all_messages a.measure r.says) [] []
    (accords_from_opening a b fronts s t Caller) in
    record { said = x.says_so; lists = x.lists_so; kept = x.keeps_so; not_bad = x.good; over = x.over; parted = x.parted }
first_law a b fronts s t Called k =
    let r = opening Called b.holdings (at_start b.jobs [] []) in
    let x = stands a b (conversation_view Called a b) k r.state (all_messages b.measure r.says) [] []
    (accords_from_opening a b fronts s t Called) in
    record { said = x.says_so; lists = x.lists_so; kept = x.keeps_so; not_bad = x.good; over = x.over; parted = x.parted }

-- what is left where the session ends behind the first k of the other's messages
pub left_law : (a b : Party) → Suit a b → IsSound a → IsSound b → (me : Side) (k : ℕ) →
    IsLeft (party (other me) a b) (party me a b).holdings (left_of (party me a b).holdings (progress_at me a b k).state)
left_law a b fronts s t Caller k =
    let r = opening Caller a.holdings (at_start a.jobs [] []) in
    (stands b a (conversation_view Caller a b) k r.state (all_messages a.measure r.says) [] [] (accords_from_opening a b fronts s t Caller)).fronts
left_law a b fronts s t Called k =
    let r = opening Called b.holdings (at_start b.jobs [] []) in
    (stands a b (conversation_view Called a b) k r.state (all_messages b.measure r.says) [] [] (accords_from_opening a b fronts s t Called)).fronts
