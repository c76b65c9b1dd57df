-- Every text of a conversation of sound parties is a command text, and is read back as itself.
use Rattle.std.proofs.Common.{◌≡◌, ℕ, ◌<◌, ◌≤◌, ◌^◌, Bool, true, false, List, [], ◌∷◌, length, drop, Option, Some, None, refl, arith}
use Rattle.std.proofs.lemmas.List.Elements.{All-head, All-tail}
use Rattle.std.specs.List.{All}
use Rattle.uug_talk.specs.Digests.{IsSend, give_telling_text, order_telling_text}
use Rattle.uug_talk.specs.declared.file_digest.FileDigest.{FileDigest}
use Rattle.uug_talk.proofs.TellingLemmas.{IsSized, digest_is_sized, give_command, give_reads, give_tells, give_tells_none, order_command, order_reads, order_tells_it, order_tells_none}
use Rattle.uug_talk.specs.declared.answer.Answer.{Answer}
use Rattle.uug_talk.specs.declared.answer.Answer.TheVariants as answer
use Rattle.uug_talk.specs.declared.gather.TheConstants.{FILE_LIMIT_MAX}
use Rattle.uug_talk.specs.declared.mode.TheConstants.{MODE_MAX}
use Rattle.uug_talk.specs.declared.order.Order.{Order}
use Rattle.uug_talk.specs.declared.order.Order.TheVariants as order
use Rattle.uug_talk.specs.Answer.{IsWritten, answer_text}
use Rattle.uug_talk.specs.Order.{AreNames, IsCopy, HasMode, order_text}
use Rattle.uug_talk.specs.Order.{HasNames as OrderHasNames}
use Rattle.uug_conversation.specs.declared.job.Job.{Job}
use Rattle.uug_conversation.specs.declared.job.Job.TheVariants as job
use Rattle.uug_conversation.specs.declared.verdict.Verdict.{Verdict}
use Rattle.uug_conversation.specs.declared.verdict.Verdict.TheVariants.{Yes, Never, Later}
use Rattle.uug_conversation.specs.Choice.{choice, fetched_by}
use Rattle.uug_conversation.specs.Conversation.{exchanges, last_turns, after_hang_up, hang_up, conversation}
use Rattle.uug_conversation.specs.Exchange.{send_exchange, request_exchange, exchange}
use Rattle.uug_conversation.specs.Holdings.{File, Holdings, AreModes, to_give}
use Rattle.uug_conversation.specs.Jobs.{Move}
use Rattle.uug_conversation.specs.Party.{Suit, HoldsFronts, Party, HasNames, IsSound}
use Rattle.uug_conversation.specs.ReadBack.{IsReadBack, EachTurn}
use Rattle.uug_conversation.specs.Resuming.{front_held}
use Rattle.uug_conversation.specs.Told.{told_of}
use Rattle.uug_conversation.specs.Turns.{the_order, the_answer, the_consent, the_giving, Turn}
use Rattle.uug_conversation.specs.View.{party}
use Rattle.uug_conversation.specs.declared.side.Side.{Side}
use Rattle.uug_conversation.specs.declared.side.Side.TheVariants.{Caller, Called}
use Rattle.uug_conversation.proofs.LimitLemmas.{given_file}
use Rattle.uug_conversation.proofs.ResumingLemmas.{GoesBehind, front_short, goes_behind, rest_short}
use Rattle.uug_talk.proofs.OrderLemmas.{order_of-spelled}
use Rattle.uug_talk.proofs.AnswerLemmas.{answer_of-spelled}
use Rattle.uug_talk.proofs.WriteLemmas.{IsCommandText-order, IsCommandText-answer, ReadsOrder-written, ReadsAnswer-written}
use Rattle.uug_talk.specs.Positions.{consent_text}
use Rattle.uug_talk.proofs.PositionLemmas.{consent_command, consent_reads, consent_tells}

-- ---- a file that is given is there, and not too large

given_fits : (h : Holdings) (name : List ℕ) (file : File) → to_give h name ≡ Some file → length file.bytes ≤ h.limit
given_fits h name file e = ((given_file h.limit (h.file name) file).0 e).1

pub given_mode : (h : Holdings) (name : List ℕ) (file : File) → AreModes h → to_give h name ≡ Some file → file.mode ≤ MODE_MAX
given_mode h name file m e = m name file ((given_file h.limit (h.file name) file).0 e).0

-- ---- what is told

abbrev IsSizedTold : Option FileDigest → Type 0
IsSizedTold None = Unit {0}
IsSizedTold (Some told) = IsSized told

told_is_sized : (digests : Bool) (file : File) → length file.bytes ≤ FILE_LIMIT_MAX → IsSizedTold (told_of digests (Some file))
told_is_sized true file small = digest_is_sized file.bytes (omega (arith, small))
told_is_sized false file small = tt

module _ (limit : ℕ) (fits : limit ≤ FILE_LIMIT_MAX) where
  -- ---- texts

  order_back : (order : Order) → OrderHasNames order → HasMode order → IsReadBack limit (the_order order None)
  order_back order n m = (
    IsCommandText-order (order_text order) order n refl,
    order_of-spelled (order_text order) order (ReadsOrder-written (order_text order) order n m refl),
    order_tells_none order n,
  )

  telling_back : (order : Order) (told : Option FileDigest) → OrderHasNames order → HasMode order → IsSend order → IsSizedTold told →
      IsReadBack limit (the_order order told)
  telling_back order None n m send sized = order_back order n m
  telling_back order (Some told) n m send sized = (
    order_command order told n sized,
    order_of-spelled (order_telling_text order told) order (order_reads order told n m sized),
    order_tells_it order told n m sized send,
  )

  answer_back : (answer : Answer) → IsWritten answer → IsReadBack limit (the_answer answer)
  answer_back answer w = (
    IsCommandText-answer (answer_text answer) answer w refl,
    answer_of-spelled (answer_text answer) answer (ReadsAnswer-written (answer_text answer) answer w refl),
  )

  consent_back : (position : ℕ) → position < 2 ^ 32 → IsReadBack limit (the_consent position)
  consent_back position h =
      (consent_command position, answer_of-spelled (consent_text position) answer.SendYes (consent_reads position), consent_tells position h)

  giving_back : (mode : ℕ) (told : Option FileDigest) → mode ≤ MODE_MAX → IsSizedTold told → IsReadBack limit (the_giving mode told)
  giving_back mode None m sized =
      let text = answer_text (answer.GiveYes mode) in (
        IsCommandText-answer text (answer.GiveYes mode) m refl,
        answer_of-spelled text (answer.GiveYes mode) (ReadsAnswer-written text (answer.GiveYes mode) m refl),
        give_tells_none mode,
      )
  giving_back mode (Some told) m sized = (
    give_command mode told m sized,
    answer_of-spelled (give_telling_text mode told) (answer.GiveYes mode) (give_reads mode told m sized),
    give_tells mode told sized,
  )

  small_enough : {n : ℕ} → n ≤ limit → n ≤ FILE_LIMIT_MAX
  small_enough small = omega (arith, small, fits)

  rest_fits : {digests : Bool} (file : File) (front : List ℕ) → GoesBehind digests front file → length file.bytes ≤ limit →
      length (drop (length front) file.bytes) ≤ limit
  rest_fits file front well small = omega (arith, rest_short front file.bytes well.is_front, small)

  -- ---- exchanges

  send_back : (master slave : Side) (digests : Bool) (source target user : List ℕ) (temp : Option (List ℕ)) (own : Holdings)
      (found : Option File) → to_give own (fetched_by source temp) ≡ found → AreModes own →
      AreNames source target user × IsCopy temp → (name front : List ℕ) →
      ((file : File) → found ≡ Some file → GoesBehind digests front file) → ((file : File) → found ≡ Some file → length file.bytes ≤ limit) →
      (verdict : Verdict) (immovable : Bool) (next : List Move) (rest : List Turn) →
      EachTurn (λ t. IsReadBack limit t.said) rest →
      EachTurn (λ t. IsReadBack limit t.said) (send_exchange master slave digests source target user temp found name front verdict immovable next rest)
  send_back master slave digests source target user temp own None e m n name front well small verdict immovable next rest r = r
  send_back master slave digests source target user temp own (Some file) e m n name front well small Never immovable next rest r = (
    telling_back (order.Send source target user temp file.mode) (told_of digests (Some file)) n
        (given_mode own (fetched_by source temp) file m e) tt (told_is_sized digests file (small_enough (small file refl))),
    (answer_back answer.SendNever tt, r),
  )
  send_back master slave digests source target user temp own (Some file) e m n name front well small Later immovable next rest r = (
    telling_back (order.Send source target user temp file.mode) (told_of digests (Some file)) n
        (given_mode own (fetched_by source temp) file m e) tt (told_is_sized digests file (small_enough (small file refl))),
    (answer_back answer.SendLater tt, r),
  )
  send_back master slave digests source target user temp own (Some file) e m n name front well small Yes false next rest r = (
    telling_back (order.Send source target user temp file.mode) (told_of digests (Some file)) n
        (given_mode own (fetched_by source temp) file m e) tt (told_is_sized digests file (small_enough (small file refl))),
    (
      consent_back (length front) (omega (arith, front_short front file.bytes (well file refl).is_front, small_enough (small file refl))),
      (rest_fits file front (well file refl) (small file refl), (answer_back answer.DoneYes tt, r)),
    ),
  )
  send_back master slave digests source target user temp own (Some file) e m n name front well small Yes true next rest r = (
    telling_back (order.Send source target user temp file.mode) (told_of digests (Some file)) n
        (given_mode own (fetched_by source temp) file m e) tt (told_is_sized digests file (small_enough (small file refl))),
    (
      consent_back (length front) (omega (arith, front_short front file.bytes (well file refl).is_front, small_enough (small file refl))),
      (rest_fits file front (well file refl) (small file refl), (answer_back answer.DoneNever tt, r)),
    ),
  )

  request_back : (master slave : Side) (digests : Bool) (source target user : List ℕ) (others : Holdings)
      (found : Option File) → to_give others source ≡ found → AreModes others →
      AreNames source target user → ((file : File) → found ≡ Some file → length file.bytes ≤ limit) → (delayed : Bool) (name : List ℕ) (immovable : Bool) (next : List Move) (rest : List Turn) →
      EachTurn (λ t. IsReadBack limit t.said) rest →
      EachTurn (λ t. IsReadBack limit t.said) (request_exchange master slave digests source target user found delayed name immovable next rest)
  request_back master slave digests source target user others None e m n small false name immovable next rest r =
      (order_back (order.Request source target user) n tt, (answer_back answer.GiveNever tt, r))
  request_back master slave digests source target user others None e m n small true name immovable next rest r =
      (order_back (order.Request source target user) n tt, (answer_back answer.GiveLater tt, r))
  request_back master slave digests source target user others (Some file) e m n small delayed name false next rest r = (
    order_back (order.Request source target user) n tt,
    (
      giving_back file.mode (told_of digests (Some file)) (given_mode others source file m e)
          (told_is_sized digests file (small_enough (small file refl))),
      (small file refl, (answer_back answer.DoneYes tt, r)),
    ),
  )
  request_back master slave digests source target user others (Some file) e m n small delayed name true next rest r = (
    order_back (order.Request source target user) n tt,
    (
      giving_back file.mode (told_of digests (Some file)) (given_mode others source file m e)
          (told_is_sized digests file (small_enough (small file refl))),
      (small file refl, (answer_back answer.DoneNever tt, r)),
    ),
  )

  -- no file that is given is too large
  abbrev Within : Holdings → Type 0
  Within h = (source : List ℕ) (file : File) → to_give h source ≡ Some file → length file.bytes ≤ limit

  exchange_back : (master slave : Side) (own others : Holdings) → HoldsFronts own others → Within own → Within others → AreModes own → AreModes others →
      (j : Job) → HasNames j → (next : List Move) (rest : List Turn) → EachTurn (λ t. IsReadBack limit t.said) rest →
      EachTurn (λ t. IsReadBack limit t.said) (exchange master slave own others j next rest)
  exchange_back master slave own others fronts x y m k (job.Send source target user temp) n next rest r =
      send_back master slave own.digests source target user temp own (to_give own (fetched_by source temp)) refl m n
      (others.landing source target) (front_held others own.digests (fetched_by source temp) (to_give own (fetched_by source temp)))
      (goes_behind own others fronts (fetched_by source temp) (to_give own (fetched_by source temp)) refl) (λ file e. x (fetched_by source temp) file e)
      (others.verdict (others.landing source target)) (others.immovable (others.landing source target)) next rest r
  exchange_back master slave own others fronts x y m k (job.Request source target user) n next rest r =
      request_back master slave others.digests source target user others (to_give others source) refl k n (λ file e. y source file e) (others.delayed source) (own.landing source target) (own.immovable (own.landing source target)) next rest r

  exchanges_back : (master slave : Side) (own others : Holdings) → HoldsFronts own others → Within own → Within others → AreModes own → AreModes others →
      (jobs : List Job) → All HasNames jobs → (rest : List Turn) → EachTurn (λ t. IsReadBack limit t.said) rest →
      EachTurn (λ t. IsReadBack limit t.said) (exchanges master slave own others jobs rest)
  exchanges_back master slave own others fronts x y m k [] n rest r = r
  exchanges_back master slave own others fronts x y m k (j ∷ jobs) n rest r =
      exchange_back master slave own others fronts x y m k j (All-head HasNames j jobs n) (choice own jobs).failing
      (exchanges master slave own others jobs rest)
      (exchanges_back master slave own others fronts x y m k jobs (All-tail HasNames j jobs n) rest r)

  -- ---- the whole conversation

  last_back : EachTurn (λ t. IsReadBack limit t.said) last_turns
  last_back = (order_back order.HangUp tt tt, (answer_back answer.HangYes tt, (answer_back answer.HangYes tt, tt)))

  after_back : (next : Option Order) (a b : Party) → Suit a b → Within a.holdings → Within b.holdings → IsSound a → IsSound b →
      EachTurn (λ t. IsReadBack limit t.said) (after_hang_up next a b)
  after_back None a b fronts x y s t = (answer_back answer.HangYes tt, (answer_back answer.HangYes tt, tt))
  after_back (Some o) a b fronts x y s t = (
    answer_back answer.HangNo tt,
    exchanges_back Called Caller b.holdings a.holdings fronts.of_called y x t.modes s.modes b.jobs t.names last_turns last_back,
  )

  back_within : (a b : Party) → Suit a b → Within a.holdings → Within b.holdings → IsSound a → IsSound b →
      EachTurn (λ t. IsReadBack limit t.said) (conversation a b)
  back_within a b fronts x y s t =
      exchanges_back Caller Called a.holdings b.holdings fronts.of_caller x y s.modes t.modes a.jobs s.names (hang_up a b)
      (order_back order.HangUp tt tt, after_back (choice b.holdings b.jobs).next a b fronts x y s t)

-- at each of the two ends
pub conversation_back : (a b : Party) → Suit a b → IsSound a → IsSound b → (me : Side) →
    EachTurn (λ t. IsReadBack (party me a b).holdings.limit t.said) (conversation a b)
conversation_back a b fronts s t Caller =
    back_within a.holdings.limit s.limit.fits a b fronts (given_fits a.holdings) fronts.sizes_of_called s t
conversation_back a b fronts s t Called =
    back_within b.holdings.limit t.limit.fits a b fronts fronts.sizes_of_caller (given_fits b.holdings) s t
