-- What one end does with each text and each file that may come, worked out by hand: a line of the tables that is wrong
-- in the conversation and in the machine alike does not check.
use Rattle.std.proofs.Common.{◌≡◌, ℕ, ◌-◌, List, [], ◌∷◌, ◌++◌, replicate, codes, None, refl}
use Rattle.uug_talk.specs.declared.answer.Answer.TheVariants as answer
use Rattle.uug_talk.specs.declared.order.Order.{Order}
use Rattle.uug_talk.specs.declared.order.Order.TheVariants as order
use Rattle.uug_talk.specs.declared.words.TheConstants.{COMMAND_MAX}
use Rattle.uug_talk.specs.declared.gather.TheConstants.{FILE_MAX}
use Rattle.uug_conversation.specs.declared.awaits.Awaits.{Awaits}
use Rattle.uug_conversation.specs.declared.awaits.Awaits.TheVariants as awaits
use Rattle.uug_conversation.specs.declared.job.Job.{Job}
use Rattle.uug_conversation.specs.Holdings.{Holdings}
use Rattle.uug_conversation.specs.Jobs.{Lists, at_start}
use Rattle.uug_conversation.specs.Machine.{State, Reply, between, replies, keeps, on_text, on_file, step, opening}
use Rattle.uug_conversation.specs.Runs.{progress_after}
use Rattle.uug_conversation.specs.Turns.{the_order, the_answer, the_consent, the_giving, the_file}
use Rattle.uug_conversation.specs.declared.side.Side.TheVariants.{Caller, Called}
use Rattle.uug_conversation.proofs.FactParties.{Exception, no_exception, denied, put_off, fixed, holdings, end_with, q, x, y, z, u, six_bytes, small_file, send, send_again, send_nothing, request, text}

-- has one file, x
abbrev pub has_x : Holdings
has_x = holdings x small_file no_exception

abbrev pub ahead : List Job → Lists
ahead jobs = at_start jobs [] []

abbrev pub two : Lists
two = ahead (send ∷ send_again ∷ [])

-- the first of the two is struck, has failed, or stays pending
abbrev pub first_struck : Lists
first_struck = record { passed = []; ahead = send_again ∷ []; struck = send ∷ []; failed = [] }

abbrev pub first_failed : Lists
first_failed = record { passed = []; ahead = send_again ∷ []; struck = []; failed = send ∷ [] }

abbrev pub first_passed : Lists
first_passed = record { passed = send ∷ []; ahead = send_again ∷ []; struck = []; failed = [] }

abbrev pub order_of_first : Order
order_of_first = order.Send x y u None 420

abbrev pub order_of_second : Order
order_of_second = order.Send x z u None 420

-- ---- the master

pub record AreSendAnswers : Type 0 where
  pub yes : on_text has_x awaits.SendAnswer (codes "SY 0") two ≡ replies two awaits.SentFileDone (the_file six_bytes ∷ [])
  pub never : on_text has_x awaits.SendAnswer (codes "SN2") two ≡
      replies first_failed awaits.SendAnswer (the_order order_of_second None ∷ [])
  pub later : on_text has_x awaits.SendAnswer (codes "SN4") two ≡
      replies first_passed awaits.SendAnswer (the_order order_of_second None ∷ [])
  pub other_number : on_text has_x awaits.SendAnswer (codes "SN9") two ≡
      replies first_passed awaits.SendAnswer (the_order order_of_second None ∷ [])
  pub last : on_text has_x awaits.SendAnswer (codes "SN2") (ahead (send ∷ [])) ≡
      replies (at_start [] [] (send ∷ [])) awaits.HangUpAnswer (the_order order.HangUp None ∷ [])
  pub no_job : on_text has_x awaits.SendAnswer (codes "SY") (ahead []) ≡ replies (ahead []) awaits.Bad []
  pub other_job : on_text has_x awaits.SendAnswer (codes "SY") (ahead (request ∷ [])) ≡ replies (ahead (request ∷ [])) awaits.Bad []
  pub other_file : on_file has_x (awaits.AskedFile 420 None FILE_MAX) six_bytes (ahead (send ∷ [])) ≡ replies (ahead (send ∷ [])) awaits.Bad []
  pub out_of_turn : on_text has_x awaits.SendAnswer (codes "CY") two ≡ replies two awaits.Bad []
  pub an_order : on_text has_x awaits.SendAnswer (codes "H") two ≡ replies two awaits.Bad []

pub send_answers : AreSendAnswers
send_answers = record {
  yes = refl;
  never = refl;
  later = refl;
  other_number = refl;
  last = refl;
  no_job = refl;
  other_job = refl;
  other_file = refl;
  out_of_turn = refl;
  an_order = refl;
}

pub record AreSentFileAnswers : Type 0 where
  pub done : on_text has_x awaits.SentFileDone (codes "CY") two ≡
      replies first_struck awaits.SendAnswer (the_order order_of_second None ∷ [])
  pub done_master : on_text has_x awaits.SentFileDone (codes "CYM") two ≡
      replies first_struck awaits.HangUpAnswer (the_order order.HangUp None ∷ [])
  pub never : on_text has_x awaits.SentFileDone (codes "CN5") two ≡
      replies first_failed awaits.SendAnswer (the_order order_of_second None ∷ [])
  pub later : on_text has_x awaits.SentFileDone (codes "CN4") two ≡
      replies first_passed awaits.SendAnswer (the_order order_of_second None ∷ [])
  pub no_job : on_text has_x awaits.SentFileDone (codes "CY") (ahead []) ≡ replies (ahead []) awaits.Bad []
  pub other_job : on_text has_x awaits.SentFileDone (codes "CY") (ahead (request ∷ [])) ≡ replies (ahead (request ∷ [])) awaits.Bad []
  pub out_of_turn : on_text has_x awaits.SentFileDone (codes "SY") two ≡ replies two awaits.Bad []

pub sent_file_answers : AreSentFileAnswers
sent_file_answers = record { done = refl; done_master = refl; never = refl; later = refl; no_job = refl; other_job = refl; out_of_turn = refl }

abbrev pub asking : Lists
asking = ahead (request ∷ send_nothing ∷ send ∷ [])

pub record AreRequestAnswers : Type 0 where
  pub yes : on_text has_x awaits.RequestAnswer (codes "RY 0600") asking ≡ replies asking (awaits.AskedFile 384 None FILE_MAX) []
  pub no_mode : on_text has_x awaits.RequestAnswer (codes "RY") asking ≡ replies asking (awaits.AskedFile 438 None FILE_MAX) []
  pub never : on_text has_x awaits.RequestAnswer (codes "RN2") asking ≡
      replies (record { passed = []; ahead = send ∷ []; struck = []; failed = request ∷ send_nothing ∷ [] })
      awaits.SendAnswer (the_order order_of_first None ∷ [])
  pub later : on_text has_x awaits.RequestAnswer (codes "RN4") asking ≡
      replies (record { passed = request ∷ []; ahead = send ∷ []; struck = []; failed = send_nothing ∷ [] })
      awaits.SendAnswer (the_order order_of_first None ∷ [])
  pub bad_mode : on_text has_x awaits.RequestAnswer (codes "RY 8") asking ≡ replies asking awaits.Bad []
  pub out_of_turn : on_text has_x awaits.RequestAnswer (codes "SY") asking ≡ replies asking awaits.Bad []

pub request_answers : AreRequestAnswers
request_answers = record { yes = refl; no_mode = refl; never = refl; later = refl; bad_mode = refl; out_of_turn = refl }

pub record AreHangUpAnswers : Type 0 where
  pub agreed : on_text has_x awaits.HangUpAnswer (codes "HY") (ahead []) ≡
      replies (ahead []) awaits.NothingMore (the_answer answer.HangYes ∷ [])
  pub exchanged : on_text has_x awaits.HangUpAnswer (codes "HN") (ahead []) ≡ replies (ahead []) awaits.Order []
  pub out_of_turn : on_text has_x awaits.HangUpAnswer (codes "H") (ahead []) ≡ replies (ahead []) awaits.Bad []
  pub further : on_text has_x awaits.NothingMore (codes "HY") (ahead []) ≡ replies (ahead []) awaits.NothingMore []
  pub nothing_else : on_text has_x awaits.NothingMore (codes "H") (ahead []) ≡ replies (ahead []) awaits.Bad []

pub hang_up_answers : AreHangUpAnswers
hang_up_answers = record { agreed = refl; exchanged = refl; out_of_turn = refl; further = refl; nothing_else = refl }

-- ---- the slave

abbrev pub has_x_but : Exception → Holdings
has_x_but exception = holdings x small_file exception

pub record AreOrders : Type 0 where
  pub send_yes : on_text has_x awaits.Order (codes "S q y u - D.0 0600") (ahead []) ≡
      replies (ahead []) (awaits.SentFile q y 384 None FILE_MAX) (the_consent 0 ∷ [])
  pub send_never : on_text (has_x_but (denied y)) awaits.Order (codes "S q y u - D.0 0600") (ahead []) ≡
      replies (ahead []) awaits.Order (the_answer answer.SendNever ∷ [])
  pub send_later : on_text (has_x_but (put_off y)) awaits.Order (codes "S q y u - D.0 0600") (ahead []) ≡
      replies (ahead []) awaits.Order (the_answer answer.SendLater ∷ [])
  pub source_denied : on_text (has_x_but (denied q)) awaits.Order (codes "S q y u - D.0 0600") (ahead []) ≡
      replies (ahead []) (awaits.SentFile q y 384 None FILE_MAX) (the_consent 0 ∷ [])
  pub request_yes : on_text has_x awaits.Order (codes "R x y u -") (ahead []) ≡
      replies (ahead []) awaits.GivenFileDone (the_giving 420 None ∷ the_file six_bytes ∷ [])
  pub request_never : on_text has_x awaits.Order (codes "R y x u -") (ahead []) ≡
      replies (ahead []) awaits.Order (the_answer answer.GiveNever ∷ [])
  pub hang_up : on_text has_x awaits.Order (codes "H") (ahead []) ≡
      replies (ahead []) awaits.LastHangUp (the_answer answer.HangYes ∷ [])
  pub all_fail : on_text has_x awaits.Order (codes "H") (ahead (send_nothing ∷ [])) ≡
      replies (at_start [] [] (send_nothing ∷ [])) awaits.LastHangUp (the_answer answer.HangYes ∷ [])
  pub has_a_job : on_text has_x awaits.Order (codes "H") (ahead (send_nothing ∷ send ∷ [])) ≡
      replies (at_start (send ∷ []) [] (send_nothing ∷ [])) awaits.SendAnswer
      (the_answer answer.HangNo ∷ the_order order_of_first None ∷ [])
  pub execution : on_text has_x awaits.Order (codes "E x y u - D.0 0644") (ahead []) ≡ replies (ahead []) awaits.Bad []
  pub an_answer : on_text has_x awaits.Order (codes "HY") (ahead []) ≡ replies (ahead []) awaits.Bad []

pub orders : AreOrders
orders = record {
  send_yes = refl;
  send_never = refl;
  send_later = refl;
  source_denied = refl;
  request_yes = refl;
  request_never = refl;
  hang_up = refl;
  all_fail = refl;
  has_a_job = refl;
  execution = refl;
  an_answer = refl;
}

pub record AreLastAnswers : Type 0 where
  pub done : on_text has_x awaits.GivenFileDone (codes "CY") two ≡ replies two awaits.Order []
  pub done_master : on_text has_x awaits.GivenFileDone (codes "CYM") two ≡ replies two awaits.Order []
  pub never : on_text has_x awaits.GivenFileDone (codes "CN5") two ≡ replies two awaits.Order []
  pub later : on_text has_x awaits.GivenFileDone (codes "CN4") two ≡ replies two awaits.Order []
  pub no_answer : on_text has_x awaits.GivenFileDone (codes "SY") two ≡ replies two awaits.Bad []
  pub agreed : on_text has_x awaits.LastHangUp (codes "HY") two ≡ replies two awaits.NothingMore []
  pub not_agreed : on_text has_x awaits.LastHangUp (codes "HN") two ≡ replies two awaits.Bad []
  pub for_ever_bad : on_text has_x awaits.Bad (codes "HY") two ≡ replies two awaits.Bad []

pub last_answers : AreLastAnswers
last_answers = record {
  done = refl;
  done_master = refl;
  never = refl;
  later = refl;
  no_answer = refl;
  agreed = refl;
  not_agreed = refl;
  for_ever_bad = refl;
}

-- ---- files

pub record AreFiles : Type 0 where
  pub sent : on_file has_x (awaits.SentFile q y 384 None FILE_MAX) six_bytes two ≡
      keeps (record { name = y; mode = 384; bytes = six_bytes }) (replies two awaits.Order (the_answer answer.DoneYes ∷ []))
  pub sent_fixed : on_file (has_x_but (fixed y)) (awaits.SentFile q y 384 None FILE_MAX) six_bytes two ≡
      replies two awaits.Order (the_answer answer.DoneNever ∷ [])
  pub asked : on_file has_x (awaits.AskedFile 384 None FILE_MAX) six_bytes asking ≡
      keeps (record { name = y; mode = 384; bytes = six_bytes })
      (replies (record { passed = []; ahead = send ∷ []; struck = request ∷ []; failed = send_nothing ∷ [] })
      awaits.SendAnswer (the_answer answer.DoneYes ∷ the_order order_of_first None ∷ []))
  pub asked_fixed : on_file (has_x_but (fixed y)) (awaits.AskedFile 384 None FILE_MAX) six_bytes asking ≡
      replies (record { passed = []; ahead = send ∷ []; struck = []; failed = request ∷ send_nothing ∷ [] })
      awaits.SendAnswer (the_answer answer.DoneNever ∷ the_order order_of_first None ∷ [])
  pub no_job : on_file has_x (awaits.AskedFile 384 None FILE_MAX) six_bytes (ahead []) ≡ replies (ahead []) awaits.Bad []

pub files : AreFiles
files = record { sent = refl; sent_fixed = refl; asked = refl; asked_fixed = refl; no_job = refl }

-- ---- messages

abbrev pub gathering : Awaits → List ℕ → State
gathering awaited bytes = record { lists = ahead []; awaits = awaited; gathered = bytes }

abbrev pub still : State → Reply
still s = record { state = s; says = []; keeps = [] }

pub record AreMessages : Type 0 where
  pub first_part : step has_x (gathering awaits.Order []) (codes "R y") ≡ still (gathering awaits.Order (codes "R y"))
  pub empty_part : step has_x (gathering awaits.Order (codes "R y")) [] ≡ still (gathering awaits.Order (codes "R y"))
  pub last_part : step has_x (gathering awaits.Order (codes "R y")) (codes " x u -" ++ 0 ∷ 1 ∷ []) ≡
      replies (ahead []) awaits.Order (the_answer answer.GiveNever ∷ [])
  pub too_long : step has_x (gathering awaits.Order (replicate COMMAND_MAX 120)) (120 ∷ []) ≡ replies (ahead []) awaits.Bad []
  -- H and spaces, up to the limit, is read; with one space more it is too long
  pub longest : step has_x (gathering awaits.Order (72 ∷ replicate (COMMAND_MAX - 1) 32)) (0 ∷ []) ≡
      replies (ahead []) awaits.LastHangUp (the_answer answer.HangYes ∷ [])
  pub one_more : step has_x (gathering awaits.Order (72 ∷ replicate (COMMAND_MAX - 1) 32)) (32 ∷ 0 ∷ []) ≡ replies (ahead []) awaits.Bad []
  pub first_piece : step has_x (gathering (awaits.SentFile q y 384 None FILE_MAX) []) six_bytes ≡
      still (gathering (awaits.SentFile q y 384 None FILE_MAX) six_bytes)
  pub last_piece : step has_x (gathering (awaits.SentFile q y 384 None FILE_MAX) six_bytes) [] ≡
      keeps (record { name = y; mode = 384; bytes = six_bytes })
      (replies (ahead []) awaits.Order (the_answer answer.DoneYes ∷ []))

pub messages : AreMessages
messages = record {
  first_part = refl;
  empty_part = refl;
  last_part = refl;
  too_long = refl;
  longest = refl;
  one_more = refl;
  first_piece = refl;
  last_piece = refl;
}

-- ---- the start, and a peer that wants to be master: after CYM no job is chosen, until the roles are exchanged back

pub record AreStarts : Type 0 where
  pub caller_start : opening Caller has_x (ahead (send_nothing ∷ send ∷ [])) ≡
      replies (at_start (send ∷ []) [] (send_nothing ∷ [])) awaits.SendAnswer (the_order order_of_first None ∷ [])
  pub caller_idle : opening Caller has_x (ahead []) ≡ replies (ahead []) awaits.HangUpAnswer (the_order order.HangUp None ∷ [])
  pub called_start : opening Called has_x (ahead (send_nothing ∷ send ∷ [])) ≡
      replies (ahead (send_nothing ∷ send ∷ [])) awaits.Order []
  pub after_master : progress_after Caller (end_with (send ∷ send_again ∷ []) x small_file no_exception)
      (text (codes "SY") ∷ text (codes "CYM") ∷ text (codes "HN") ∷ text (codes "H") ∷ []) ≡
      record {
        state = between first_struck awaits.SendAnswer;
        said = text (codes "S x y u - D.0 0644") ∷ six_bytes ∷ [] ∷ text (codes "H") ∷ text (codes "HN") ∷
            text (codes "S x z u - D.0 0644") ∷ [];
        kept = [];
      }
  pub not_again : progress_after Caller (end_with (send ∷ []) x small_file no_exception)
      (text (codes "SY") ∷ text (codes "CN4") ∷ text (codes "HN") ∷ text (codes "H") ∷ text (codes "HY") ∷ []) ≡
      record {
        state = between (record { passed = send ∷ []; ahead = []; struck = []; failed = [] }) awaits.NothingMore;
        said = text (codes "S x y u - D.0 0644") ∷ six_bytes ∷ [] ∷ text (codes "H") ∷ text (codes "HY") ∷ [];
        kept = [];
      }

pub starts : AreStarts
starts = record { caller_start = refl; caller_idle = refl; called_start = refl; after_master = refl; not_again = refl }
