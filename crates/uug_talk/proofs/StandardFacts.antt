-- Texts and messages whose reading is known, so that a wrong definition does not check.
use Rattle.std.proofs.Common.{◌≡◌, ◌+◌, [], ◌∷◌, ◌++◌, length, map, replicate, codes, Some, None, Ok, Err, true, false, refl}
use Rattle.uug_talk.specs.declared.answer.Answer.TheVariants.{SendYes, SendNever, SendLater, GiveYes, GiveNever, GiveLater, DoneYes, DoneYesMaster, DoneNever, DoneLater, HangYes, HangNo}
use Rattle.uug_talk.specs.declared.error.BadText.TheVariants as fault
use Rattle.uug_talk.specs.declared.hail.TheConstants.{HAIL_MAX}
use Rattle.uug_talk.specs.declared.name.TheConstants.{NAME_MAX}
use Rattle.uug_talk.specs.declared.order.Order.TheVariants.{Send, Request, HangUp}
use Rattle.uug_talk.specs.declared.words.TheConstants.{COMMAND_MAX}
use Rattle.uug_talk.specs.Answer.{answer_of, answer_text}
use Rattle.uug_talk.specs.Call.{call_text, first_told, number_in_call}
use Rattle.uug_talk.specs.Chunks.{Measure, command_messages, file_messages}
use Rattle.uug_talk.specs.Gathering.{OfCommand, OfFile, gathered}
use Rattle.uug_talk.specs.Lenient.{is_held, or_wished, refusal_text, refused_letter_of}
use Rattle.uug_talk.specs.Name.{name_read}
use Rattle.uug_talk.specs.Order.{order_of, order_text}
use Rattle.uug_talk.specs.StreamTexts.{Rest, TooLong, texts_of}
use Rattle.uug_talk.specs.Texts.{Passing, Open, Whole, hear}

-- commands
pub record AreOrders : Type 0 where
  pub plain : order_of (codes "S x y u - D.0 0644") ≡ Ok (Send (codes "x") (codes "y") (codes "u") None 420)
  pub copied : order_of (codes "S x y u -C q 0644 n 12") ≡ Ok (Send (codes "x") (codes "y") (codes "u") (Some (codes "q")) 420)
  pub later_option : order_of (codes "S  x y   u -dC q 10000644") ≡ Err fault.Mode
  pub cut_mode : order_of (codes "  S  x y   u -dC q 7770644 ") ≡ Ok (Send (codes "x") (codes "y") (codes "u") (Some (codes "q")) 420)
  pub request : order_of (codes "R q y u - more") ≡ Ok (Request (codes "q") (codes "y") (codes "u"))
  pub hang_up : order_of (codes "H more") ≡ Ok HangUp
  pub few_words : order_of (codes "S x y u - D.0") ≡ Err fault.Fields
  pub no_dash : order_of (codes "R x y u C") ≡ Err fault.Fields
  pub bad_name : order_of (83 ∷ 32 ∷ 1 ∷ codes " y u - D.0 0698") ≡ Err fault.Name
  pub bad_mode : order_of (codes "S x y u - D.0 0698") ≡ Err fault.Mode
  pub unknown : order_of (codes "E x y u - D.0 0644") ≡ Err fault.Unknown
  pub longer_word : order_of (codes "HY") ≡ Err fault.Unknown
  pub too_long : order_of (replicate (COMMAND_MAX + 1) 120) ≡ Err fault.TooLong
  pub long : order_of (replicate COMMAND_MAX 120) ≡ Err fault.Unknown

pub orders : AreOrders
orders = record {
  plain = refl;
  copied = refl;
  later_option = refl;
  cut_mode = refl;
  request = refl;
  hang_up = refl;
  few_words = refl;
  no_dash = refl;
  bad_name = refl;
  bad_mode = refl;
  unknown = refl;
  longer_word = refl;
  too_long = refl;
  long = refl;
}

-- answers
pub record AreAnswers : Type 0 where
  pub send_yes : answer_of (codes "SY 0") ≡ Ok SendYes
  pub send_never : answer_of (codes " SN22") ≡ Ok SendNever
  pub send_held : answer_of (codes "SN80") ≡ Ok SendLater
  pub send_later : answer_of (codes "SN9") ≡ Ok SendLater
  pub give_yes : answer_of (codes "RYx 0600 0777") ≡ Ok (GiveYes 384)
  pub give_default : answer_of (codes "RY0600") ≡ Ok (GiveYes 438)
  pub give_no_mode : answer_of (codes "RY 8") ≡ Err fault.Mode
  pub give_never : answer_of (codes "RN2") ≡ Ok GiveNever
  pub give_later : answer_of (codes "RN") ≡ Ok GiveLater
  pub done_yes : answer_of (codes "CY M") ≡ Ok DoneYes
  pub done_master : answer_of (codes "CYM") ≡ Ok DoneYesMaster
  pub done_never : answer_of (codes "CN5") ≡ Ok DoneNever
  pub done_later : answer_of (codes "CN4") ≡ Ok DoneLater
  pub hang_yes : answer_of (codes "HYes") ≡ Ok HangYes
  pub hang_no : answer_of (codes "HN") ≡ Ok HangNo
  pub work_no : answer_of (codes "XN") ≡ Err fault.Unknown
  pub run_never : answer_of (codes "EN2") ≡ Err fault.Unknown
  pub unknown : answer_of (codes "XY") ≡ Err fault.Unknown
  pub split : answer_of (codes "S Y") ≡ Err fault.Unknown
  pub too_long : answer_of (replicate (COMMAND_MAX + 1) 120) ≡ Err fault.TooLong

pub answers : AreAnswers
answers = record {
  send_yes = refl;
  send_never = refl;
  send_held = refl;
  send_later = refl;
  give_yes = refl;
  give_default = refl;
  give_no_mode = refl;
  give_never = refl;
  give_later = refl;
  done_yes = refl;
  done_master = refl;
  done_never = refl;
  done_later = refl;
  hang_yes = refl;
  hang_no = refl;
  work_no = refl;
  run_never = refl;
  unknown = refl;
  split = refl;
  too_long = refl;
}

-- texts as they are written
pub record AreWritten : Type 0 where
  pub plain : order_text (Send (codes "x") (codes "y") (codes "u") None 420) ≡ codes "S x y u - D.0 0644"
  pub copied : order_text (Send (codes "x") (codes "y") (codes "u") (Some (codes "q")) 420) ≡ codes "S x y u -C q 0644"
  pub request : order_text (Request (codes "q") (codes "y") (codes "u")) ≡ codes "R q y u -"
  pub hang_up : order_text HangUp ≡ codes "H"
  pub give_yes : answer_text (GiveYes 420) ≡ codes "RY 0644"
  pub send_later : answer_text SendLater ≡ codes "SN4"
  pub done_never : answer_text DoneNever ≡ codes "CN5"
  pub give_later : answer_text GiveLater ≡ codes "RN6"
  pub hang_no : answer_text HangNo ≡ codes "HN"

pub written : AreWritten
written = record {
  plain = refl;
  copied = refl;
  request = refl;
  hang_up = refl;
  give_yes = refl;
  send_later = refl;
  done_never = refl;
  give_later = refl;
  hang_no = refl;
}

-- what only a lenient end reads
pub record AreLenient : Type 0 where
  pub held : is_held (codes "SN80 x") ≡ true
  pub other : is_held (codes "SN4") ≡ false
  pub wished : or_wished (answer_of (codes "RY 0644M 0x12")) true (codes "RY 0644M 0x12") ≡ Ok (GiveYes 420)
  pub strict : or_wished (answer_of (codes "RY 0644M")) false (codes "RY 0644M") ≡ Err fault.Mode
  pub plain : or_wished (answer_of (codes "RY 0644")) true (codes "RY 0644") ≡ Ok (GiveYes 420)
  pub no_mode : or_wished (answer_of (codes "RY M")) true (codes "RY M") ≡ Err fault.Mode
  pub other_letter : or_wished (answer_of (codes "RY 0644N")) true (codes "RY 0644N") ≡ Err fault.Mode

pub lenient : AreLenient
lenient = record { held = refl; other = refl; wished = refl; strict = refl; plain = refl; no_mode = refl; other_letter = refl }

-- how a command is refused that can't be read
pub record AreRefusals : Type 0 where
  pub send : refused_letter_of (codes "S x") ≡ Some 83
  pub request : refused_letter_of (codes "  R x y u -") ≡ Some 82
  pub work : refused_letter_of (codes "X a/* b u -") ≡ Some 88
  pub run : refused_letter_of (codes "E D.1 D.2 u - D.0 0644 n 12 rmail") ≡ Some 69
  pub other : refused_letter_of (codes "Q x") ≡ Some 81
  pub hang_up : refused_letter_of (codes "H") ≡ None
  pub small : refused_letter_of (codes "q x") ≡ None
  pub longer : refused_letter_of (codes "SS x") ≡ None
  pub none : refused_letter_of [] ≡ None
  pub text : refusal_text 83 ≡ codes "SN2"

pub refusals : AreRefusals
refusals = record {
  send = refl;
  request = refl;
  work = refl;
  run = refl;
  other = refl;
  hang_up = refl;
  small = refl;
  longer = refl;
  none = refl;
  text = refl;
}

-- with messages of 64 bytes, and commands filled up or short
abbrev filled_64 : Measure
filled_64 = record { size = 64; short = false }

abbrev short_64 : Measure
short_64 = record { size = 64; short = true }

-- the lengths of messages
pub record AreMessages : Type 0 where
  pub whole_multiple : map length (file_messages 64 (replicate 128 7)) ≡ 64 ∷ 64 ∷ 0 ∷ []
  pub shorter : map length (file_messages 64 (replicate 100 7)) ≡ 64 ∷ 36 ∷ 0 ∷ []
  pub empty : file_messages 64 [] ≡ [] ∷ []
  pub filled : command_messages filled_64 (codes "SY") ≡ (83 ∷ 89 ∷ replicate 62 0) ∷ []
  pub filled_one : command_messages filled_64 (replicate 63 7) ≡ (replicate 63 7 ++ 0 ∷ []) ∷ []
  pub filled_two : command_messages filled_64 (replicate 64 7) ≡ replicate 64 7 ∷ replicate 64 0 ∷ []
  pub short : command_messages short_64 (codes "SY") ≡ (83 ∷ 89 ∷ 0 ∷ []) ∷ []
  pub short_one : command_messages short_64 (replicate 63 7) ≡ (replicate 63 7 ++ 0 ∷ []) ∷ []
  pub short_two : command_messages short_64 (replicate 64 7) ≡ replicate 64 7 ∷ (0 ∷ []) ∷ []

pub messages : AreMessages
messages = record {
  whole_multiple = refl;
  shorter = refl;
  empty = refl;
  filled = refl;
  filled_one = refl;
  filled_two = refl;
  short = refl;
  short_one = refl;
  short_two = refl;
}

-- handshake texts
pub record AreTexts : Type 0 where
  pub chatter : hear Passing (codes "login:" ++ 16 ∷ codes "Shere=b" ++ 10 ∷ codes "zz") ≡ Some (15, Whole (codes "Shere=b"))
  pub anew : hear Passing (16 ∷ 83 ∷ 16 ∷ 83 ∷ 97 ∷ 0 ∷ []) ≡ Some (6, Whole (codes "Sa"))
  pub second_piece : hear (Open (codes "S")) (97 ∷ 0 ∷ []) ≡ Some (2, Whole (codes "Sa"))
  pub longest : hear Passing (16 ∷ replicate HAIL_MAX 120) ≡ Some (HAIL_MAX + 1, Open (replicate HAIL_MAX 120))
  pub too_long : hear Passing (16 ∷ replicate (HAIL_MAX + 1) 120) ≡ None

pub texts : AreTexts
texts = record { chatter = refl; anew = refl; second_piece = refl; longest = refl; too_long = refl }

-- all the texts of a stream
pub record AreAllTexts : Type 0 where
  pub two : texts_of (codes "login:" ++ 16 ∷ codes "Shere=b" ++ 10 ∷ codes "z" ++ 16 ∷ codes "ROK" ++ 0 ∷ codes "zz") ≡ record { texts = codes "Shere=b" ∷ codes "ROK" ∷ []; end = Rest (codes "zz") }
  pub begun : texts_of (16 ∷ 83 ∷ 0 ∷ 16 ∷ 82 ∷ []) ≡ record { texts = codes "S" ∷ []; end = Rest (16 ∷ 82 ∷ []) }
  pub too_long : texts_of (16 ∷ 83 ∷ 0 ∷ 16 ∷ replicate (HAIL_MAX + 1) 120) ≡ record { texts = codes "S" ∷ []; end = TooLong }
  pub none : texts_of [] ≡ record { texts = []; end = Rest [] }

pub all_texts : AreAllTexts
all_texts = record { two = refl; begun = refl; too_long = refl; none = refl }

-- what is gathered
pub record AreGathered : Type 0 where
  pub short_message : (gathered (OfFile 9) ((1 ∷ 2 ∷ []) ∷ (3 ∷ []) ∷ [])).whole ≡ false
  pub empty_message : gathered (OfFile 9) ((1 ∷ 2 ∷ []) ∷ [] ∷ []) ≡ record { kind = OfFile 9; bytes = 1 ∷ 2 ∷ []; whole = true }
  pub behind_a_zero : gathered OfCommand ((72 ∷ []) ∷ (89 ∷ 0 ∷ 7 ∷ []) ∷ []) ≡ record { kind = OfCommand; bytes = codes "HY"; whole = true }

pub gathered_messages : AreGathered
gathered_messages = record { short_message = refl; empty_message = refl; behind_a_zero = refl }

-- names
pub record AreNameWords : Type 0 where
  pub longest : name_read (replicate NAME_MAX 120) ≡ Ok (replicate NAME_MAX 120)
  pub too_long : name_read (replicate (NAME_MAX + 1) 120) ≡ Err fault.Name
  pub none : name_read [] ≡ Err fault.Name
  pub space : name_read (codes "a b") ≡ Err fault.Name

pub name_words : AreNameWords
name_words = record { longest = refl; too_long = refl; none = refl; space = refl }

-- a caller's text, and the number in one
pub record AreCalls : Type 0 where
  pub without : call_text (codes "a") None ≡ codes "Sa"
  pub greatest : number_in_call (codes "Sa -Q4294967295") ≡ Some 4294967295
  pub too_great : number_in_call (codes "Sa -Q4294967296") ≡ None
  pub eleven_digits : number_in_call (codes "Sa -Q00000000007 -Q5") ≡ Some 5
  pub ten_digits : number_in_call (codes "Sa  -Q0000000007 -Q5") ≡ Some 7
  pub behind_an_option : number_in_call (codes "Sa -p -Q7 -R") ≡ Some 7
  pub in_an_option : number_in_call (codes "Sa -p-Q7") ≡ None
  pub no_digit : number_in_call (codes "Sa -Q") ≡ None
  pub signed : number_in_call (codes "Sa -Q+7") ≡ None
  pub in_the_name : number_in_call (codes "-Q7") ≡ None

pub calls : AreCalls
unfolding first_told
calls = record {
  without = refl;
  greatest = refl;
  too_great = refl;
  eleven_digits = refl;
  ten_digits = refl;
  behind_an_option = refl;
  in_an_option = refl;
  no_digit = refl;
  signed = refl;
  in_the_name = refl;
}
