-- The messages of a conversation are bytes, where names are names and files hold bytes.
use Rattle.std.proofs.Common.{◌≡◌, ℕ, zero, suc, ◌+◌, ◌<◌, Bool, true, false, subst, List, [], ◌∷◌, ◌++◌, length, take, drop, replicate, codes, Option, Some, None, All, refl, arith}
use Rattle.std.specs.Bool.{⊤}
use Rattle.std.specs.List.{join_with_byte}
use Rattle.std.proofs.lemmas.Bool.Decides.{nat_tests}
use Rattle.std.proofs.lemmas.List.Elements.{All-nil, All-cons, All-head, All-tail, All-append, All-take, All-drop, All-replicate, All-weaker}
use Rattle.std.specs.Int.{to_be_bytes, w32}
use Rattle.hex.specs.Hex.{IsBytes, encode_lower, is_hex_digit}
use Rattle.uug_talk.proofs.DigitLemmas.{encoded_digits, size_bytes}
use Rattle.uug_talk.proofs.HashLemmas.{sha256_bytes}
use Rattle.uug_talk.proofs.TellingLemmas.{give_joined, order_joined}
use Rattle.uug_talk.specs.Digests.{digest_text, digest_words}
use Rattle.uug_talk.specs.declared.file_digest.FileDigest.{FileDigest}
use Rattle.uug_packet.specs.Bytes.{AreBytes}
use Rattle.uug_talk.specs.declared.answer.Answer.{Answer}
use Rattle.uug_talk.specs.declared.answer.Answer.TheVariants as answer
use Rattle.uug_talk.specs.declared.order.Order.{Order}
use Rattle.uug_talk.specs.declared.order.Order.TheVariants as order
use Rattle.uug_talk.specs.Answer.{answer_text}
use Rattle.uug_talk.specs.Chunks.{Measure, command_messages, cut_up_to, file_messages, filling}
use Rattle.uug_talk.specs.Lenient.{refusal_text}
use Rattle.uug_talk.specs.Mode.{mode_digits}
use Rattle.uug_talk.specs.Name.{IsName}
use Rattle.uug_talk.specs.Order.{AreNames, HasNames as OrderHasNames, IsCopy, order_text}
use Rattle.uug_conversation.specs.declared.job.Job.{Job}
use Rattle.uug_conversation.specs.declared.job.Job.TheVariants as job
use Rattle.uug_conversation.specs.declared.verdict.Verdict.{Verdict}
use Rattle.uug_conversation.specs.declared.verdict.Verdict.TheVariants.{Yes, Never, Later}
use Rattle.uug_conversation.specs.Choice.{choice, fetched_by}
use Rattle.uug_conversation.specs.Conversation.{after_hang_up, conversation, exchanges, hang_up, last_turns}
use Rattle.uug_conversation.specs.Exchange.{exchange, request_exchange, send_exchange}
use Rattle.uug_conversation.specs.HeldBytes.{HoldsBytes}
use Rattle.uug_conversation.specs.Holdings.{File, Holdings, Kept, to_give}
use Rattle.uug_conversation.specs.Jobs.{Move}
use Rattle.uug_conversation.specs.Messages.{Message, messages, measures, turn_messages}
use Rattle.uug_conversation.specs.Party.{HasNames, Party}
use Rattle.uug_conversation.specs.ReadBack.{EachTurn}
use Rattle.uug_conversation.specs.Told.{giving_said, order_said, told_of}
use Rattle.uug_conversation.specs.Resuming.{front_held}
use Rattle.uug_conversation.specs.Turns.{Said, Turn, said_messages, the_answer, the_consent, the_file, the_giving, the_order, the_refusal}
use Rattle.uug_conversation.specs.declared.side.Side.{Side}
use Rattle.uug_conversation.specs.declared.side.Side.TheVariants.{Caller, Called}
use Rattle.uug_conversation.specs.View.{conversation_view, own_messages, view}
use Rattle.uug_conversation.proofs.LimitLemmas.{given_file}
use Rattle.uug_talk.specs.Positions.{consent_text, resuming_words}

abbrev IsByte : ℕ → Type 0
IsByte b = b < 256

abbrev AllBytes : List ℕ → Type 0
AllBytes bytes = All IsByte bytes

are_bytes : (bytes : List ℕ) → AllBytes bytes → AreBytes bytes
are_bytes [] all i = omega arith
are_bytes (b ∷ bytes) all zero = All-head IsByte b bytes all
are_bytes (b ∷ bytes) all (suc i) = are_bytes bytes (All-tail IsByte b bytes all) i

all_bytes : (bytes : List ℕ) → AreBytes bytes → AllBytes bytes
all_bytes [] are = All-nil IsByte
all_bytes (b ∷ bytes) are = All-cons IsByte b bytes (are zero) (all_bytes bytes (λ i. are (suc i)))

-- ---- the messages of a text and of a file

cut_bytes : (n size : ℕ) (bytes : List ℕ) → AllBytes bytes → All AreBytes (cut_up_to n size bytes)
cut_bytes zero size bytes all = All-nil AreBytes
cut_bytes (suc n) size [] all = All-nil AreBytes
cut_bytes (suc n) size (b ∷ bytes) all =
    All-cons AreBytes (take size (b ∷ bytes)) (cut_up_to n size (drop size (b ∷ bytes)))
    (are_bytes (take size (b ∷ bytes)) (All-take IsByte size (b ∷ bytes) all))
    (cut_bytes n size (drop size (b ∷ bytes)) (All-drop IsByte size (b ∷ bytes) all))

command_bytes : (measure : Measure) (text : List ℕ) → AllBytes text → All AreBytes (command_messages measure text)
command_bytes measure text all =
    let fill : ℕ = filling measure (length text + 1) in
    let whole : List ℕ = text ++ 0 ∷ replicate fill 0 in
    cut_bytes (length whole) measure.size whole
    (All-append IsByte text (0 ∷ replicate fill 0) all
    (All-cons IsByte 0 (replicate fill 0) (omega arith) (All-replicate IsByte fill 0 (omega arith))))

file_bytes : (size : ℕ) (bytes : List ℕ) → AllBytes bytes → All AreBytes (file_messages size bytes)
file_bytes size bytes all =
    All-append AreBytes (cut_up_to (length bytes) size bytes) ([] ∷ []) (cut_bytes (length bytes) size bytes all)
    (All-cons AreBytes [] [] (are_bytes [] (All-nil IsByte)) (All-nil AreBytes))

-- ---- texts

-- a short text, byte by byte
abbrev Bytewise : List ℕ → Type 0
Bytewise [] = ⊤
Bytewise (b ∷ bytes) = IsByte b × Bytewise bytes

bytewise : (bytes : List ℕ) → Bytewise bytes → AllBytes bytes
bytewise [] each = All-nil IsByte
bytewise (b ∷ bytes) each = All-cons IsByte b bytes each.0 (bytewise bytes each.1)

letter : (b : ℕ) → IsByte b → AllBytes (b ∷ [])
letter b is = bytewise (b ∷ []) (is, tt)

letters : (a b : ℕ) → IsByte a → IsByte b → AllBytes (a ∷ b ∷ [])
letters a b is is_too = bytewise (a ∷ b ∷ []) (is, (is_too, tt))

three_letters : (a b c : ℕ) → IsByte a → IsByte b → IsByte c → AllBytes (a ∷ b ∷ c ∷ [])
three_letters a b c is is_too is_third = bytewise (a ∷ b ∷ c ∷ []) (is, (is_too, (is_third, tt)))

name_bytes : (name : List ℕ) → IsName name → AllBytes name
name_bytes name is = λ k d within. omega (arith, (is.printing k d within).1)

digit_bytes : (mode : ℕ) → AllBytes (mode_digits mode)
digit_bytes mode =
    bytewise (mode_digits mode) (omega arith, (omega arith, (omega arith, (omega arith, tt))))

abbrev AllWords : List (List ℕ) → Type 0
AllWords [] = ⊤
AllWords (word ∷ words) = AllBytes word × AllWords words

joined_bytes : (words : List (List ℕ)) → AllWords words → AllBytes (join_with_byte 32 words)
joined_bytes [] all = All-nil IsByte
joined_bytes (word ∷ []) all = all.0
joined_bytes (word ∷ next ∷ words) all =
    All-append IsByte word (32 ∷ join_with_byte 32 (next ∷ words)) all.0
    (All-cons IsByte 32 (join_with_byte 32 (next ∷ words)) (omega arith) (joined_bytes (next ∷ words) all.1))

order_bytes : (order : Order) → OrderHasNames order → AllBytes (order_text order)
order_bytes (order.Send source target user None mode) (names, copy) =
    joined_bytes (codes "S" ∷ source ∷ target ∷ user ∷ codes "-" ∷ codes "D.0" ∷ mode_digits mode ∷ []) (
      letter 83 (omega arith),
      (
        name_bytes source names.0,
        (
          name_bytes target names.1,
          (
            name_bytes user names.2,
            (
              letter 45 (omega arith),
              (three_letters 68 46 48 (omega arith) (omega arith) (omega arith), (digit_bytes mode, tt)),
            ),
          ),
        ),
      ),
    )
order_bytes (order.Send source target user (Some temp) mode) (names, copy) =
    joined_bytes (codes "S" ∷ source ∷ target ∷ user ∷ codes "-C" ∷ temp ∷ mode_digits mode ∷ []) (
      letter 83 (omega arith),
      (
        name_bytes source names.0,
        (
          name_bytes target names.1,
          (
            name_bytes user names.2,
            (letters 45 67 (omega arith) (omega arith), (name_bytes temp copy, (digit_bytes mode, tt))),
          ),
        ),
      ),
    )
order_bytes (order.Request source target user) names =
    joined_bytes (codes "R" ∷ source ∷ target ∷ user ∷ codes "-" ∷ []) (
      letter 82 (omega arith),
      (
        name_bytes source names.0,
        (name_bytes target names.1, (name_bytes user names.2, (letter 45 (omega arith), tt))),
      ),
    )
order_bytes order.HangUp names = letter 72 (omega arith)

answer_bytes : (said : Answer) → AllBytes (answer_text said)
answer_bytes answer.SendYes = letters 83 89 (omega arith) (omega arith)
answer_bytes answer.SendNever = three_letters 83 78 50 (omega arith) (omega arith) (omega arith)
answer_bytes answer.SendLater = three_letters 83 78 52 (omega arith) (omega arith) (omega arith)
answer_bytes (answer.GiveYes mode) =
    joined_bytes (codes "RY" ∷ mode_digits mode ∷ []) (letters 82 89 (omega arith) (omega arith), (digit_bytes mode, tt))
answer_bytes answer.GiveNever = three_letters 82 78 50 (omega arith) (omega arith) (omega arith)
answer_bytes answer.GiveLater = three_letters 82 78 54 (omega arith) (omega arith) (omega arith)
answer_bytes answer.DoneYes = letters 67 89 (omega arith) (omega arith)
answer_bytes answer.DoneYesMaster = All-nil IsByte
answer_bytes answer.DoneNever = three_letters 67 78 53 (omega arith) (omega arith) (omega arith)
answer_bytes answer.DoneLater = three_letters 67 78 52 (omega arith) (omega arith) (omega arith)
answer_bytes answer.HangYes = letters 72 89 (omega arith) (omega arith)
answer_bytes answer.HangNo = letters 72 78 (omega arith) (omega arith)

-- ---- what is told

abbrev HasBytes : Option FileDigest → Type 0
HasBytes None = ⊤
HasBytes (Some told) = IsBytes told.hash

told_has_bytes : (digests : Bool) (file : File) → HasBytes (told_of digests (Some file))
told_has_bytes true file = sha256_bytes file.bytes
told_has_bytes false file = tt

digit_is_byte : (c : ℕ) → is_hex_digit c ≡ true → IsByte c
digit_is_byte c h = grind (arith, nat_tests)

encoded_bytes : (bytes : List ℕ) → IsBytes bytes → AllBytes (encode_lower bytes)
encoded_bytes bytes h = All-weaker (λ c. is_hex_digit c ≡ true) IsByte digit_is_byte (encode_lower bytes) (encoded_digits bytes h)

told_bytes : (told : FileDigest) → IsBytes told.hash → AllBytes (digest_text told)
told_bytes told h = joined_bytes (digest_words told) (
  letters 34 34 (omega arith) (omega arith),
  (
    All-append IsByte (codes "0x") (encode_lower (to_be_bytes w32 told.size)) (letters 48 120 (omega arith) (omega arith))
        (encoded_bytes (to_be_bytes w32 told.size) (size_bytes told.size)),
    (
      All-append IsByte (codes "sha256:") (encode_lower told.hash)
          (bytewise (codes "sha256:") (omega arith, (omega arith, (omega arith, (omega arith, (omega arith, (omega arith, (omega arith, tt))))))))
          (encoded_bytes told.hash h),
      tt,
    ),
  ),
)

behind_text : (text : List ℕ) (told : FileDigest) → AllBytes text → IsBytes told.hash → AllBytes (text ++ 32 ∷ digest_text told)
behind_text text told all h =
    All-append IsByte text (32 ∷ digest_text told) all (All-cons IsByte 32 (digest_text told) (omega arith) (told_bytes told h))

order_said_bytes : (order : Order) (told : Option FileDigest) → OrderHasNames order → HasBytes told → AllBytes (order_said order told)
order_said_bytes order None names h = order_bytes order names
order_said_bytes order (Some told) names h =
    subst AllBytes (order_joined order told) (behind_text (order_text order) told (order_bytes order names) h)

giving_said_bytes : (mode : ℕ) (told : Option FileDigest) → HasBytes told → AllBytes (giving_said mode told)
giving_said_bytes mode None h = answer_bytes (answer.GiveYes mode)
giving_said_bytes mode (Some told) h =
    subst AllBytes (give_joined mode told) (behind_text (answer_text (answer.GiveYes mode)) told (answer_bytes (answer.GiveYes mode)) h)

consent_bytes : (position : ℕ) → AllBytes (consent_text position)
consent_bytes zero = answer_bytes answer.SendYes
consent_bytes (suc n) = joined_bytes (resuming_words (suc n)) (
  letters 83 89 (omega arith) (omega arith),
  (
    All-append IsByte (codes "0x") (encode_lower (to_be_bytes w32 (suc n))) (letters 48 120 (omega arith) (omega arith))
        (encoded_bytes (to_be_bytes w32 (suc n)) (size_bytes (suc n))),
    tt,
  ),
)

-- ---- what is said

abbrev SaysBytes : Said → Type 0
SaysBytes (the_order order told) = AllBytes (order_said order told)
SaysBytes (the_answer said) = AllBytes (answer_text said)
SaysBytes (the_consent position) = AllBytes (consent_text position)
SaysBytes (the_giving mode told) = AllBytes (giving_said mode told)
SaysBytes (the_file bytes) = AllBytes bytes
SaysBytes (the_refusal letter) = AllBytes (refusal_text letter)

said_bytes : (measure : Measure) (said : Said) → SaysBytes said → All AreBytes (said_messages measure said)
said_bytes measure (the_order order told) all = command_bytes measure (order_said order told) all
said_bytes measure (the_answer said) all = command_bytes measure (answer_text said) all
said_bytes measure (the_consent position) all = command_bytes measure (consent_text position) all
said_bytes measure (the_giving mode told) all = command_bytes measure (giving_said mode told) all
said_bytes measure (the_file bytes) all = file_bytes measure.size bytes all
said_bytes measure (the_refusal letter) all = command_bytes measure (refusal_text letter) all

-- ---- turns

abbrev TurnsAreBytes : List Turn → Type 0
TurnsAreBytes turns = EachTurn (λ t. SaysBytes t.said) turns

given_bytes : (h : Holdings) (name : List ℕ) (file : File) → HoldsBytes h → to_give h name ≡ Some file → AllBytes file.bytes
given_bytes h name file holds is = all_bytes file.bytes (holds name file ((given_file h.limit (h.file name) file).0 is).0)

send_bytes : (master slave : Side) (digests : Bool) (source target user : List ℕ) (temp : Option (List ℕ)) (own : Holdings)
    (found : Option File) → to_give own (fetched_by source temp) ≡ found → HoldsBytes own →
    AreNames source target user × IsCopy temp → (name front : List ℕ) (verdict : Verdict) (immovable : Bool) (next : List Move) (rest : List Turn) →
    TurnsAreBytes rest →
    TurnsAreBytes (send_exchange master slave digests source target user temp found name front verdict immovable next rest)
send_bytes master slave digests source target user temp own None is holds names name front verdict immovable next rest all = all
send_bytes master slave digests source target user temp own (Some file) is holds names name front Never immovable next rest all =
    (order_said_bytes (order.Send source target user temp file.mode) (told_of digests (Some file)) names (told_has_bytes digests file), (answer_bytes answer.SendNever, all))
send_bytes master slave digests source target user temp own (Some file) is holds names name front Later immovable next rest all =
    (order_said_bytes (order.Send source target user temp file.mode) (told_of digests (Some file)) names (told_has_bytes digests file), (answer_bytes answer.SendLater, all))
send_bytes master slave digests source target user temp own (Some file) is holds names name front Yes false next rest all = (
  order_said_bytes (order.Send source target user temp file.mode) (told_of digests (Some file)) names (told_has_bytes digests file),
  (
    consent_bytes (length front),
    (All-drop IsByte (length front) file.bytes (given_bytes own (fetched_by source temp) file holds is), (answer_bytes answer.DoneYes, all)),
  ),
)
send_bytes master slave digests source target user temp own (Some file) is holds names name front Yes true next rest all = (
  order_said_bytes (order.Send source target user temp file.mode) (told_of digests (Some file)) names (told_has_bytes digests file),
  (
    consent_bytes (length front),
    (All-drop IsByte (length front) file.bytes (given_bytes own (fetched_by source temp) file holds is), (answer_bytes answer.DoneNever, all)),
  ),
)

request_bytes : (master slave : Side) (digests : Bool) (source target user : List ℕ) (others : Holdings) (found : Option File) →
    to_give others source ≡ found → HoldsBytes others → AreNames source target user → (delayed : Bool) (name : List ℕ) (immovable : Bool) (next : List Move)
    (rest : List Turn) → TurnsAreBytes rest →
    TurnsAreBytes (request_exchange master slave digests source target user found delayed name immovable next rest)
request_bytes master slave digests source target user others None is holds names false name immovable next rest all =
    (order_bytes (order.Request source target user) names, (answer_bytes answer.GiveNever, all))
request_bytes master slave digests source target user others None is holds names true name immovable next rest all =
    (order_bytes (order.Request source target user) names, (answer_bytes answer.GiveLater, all))
request_bytes master slave digests source target user others (Some file) is holds names delayed name false next rest all = (
  order_bytes (order.Request source target user) names,
  (giving_said_bytes file.mode (told_of digests (Some file)) (told_has_bytes digests file), (given_bytes others source file holds is, (answer_bytes answer.DoneYes, all))),
)
request_bytes master slave digests source target user others (Some file) is holds names delayed name true next rest all = (
  order_bytes (order.Request source target user) names,
  (giving_said_bytes file.mode (told_of digests (Some file)) (told_has_bytes digests file), (given_bytes others source file holds is, (answer_bytes answer.DoneNever, all))),
)

exchange_bytes : (master slave : Side) (own others : Holdings) → HoldsBytes own → HoldsBytes others → (j : Job) → HasNames j →
    (next : List Move) (rest : List Turn) → TurnsAreBytes rest → TurnsAreBytes (exchange master slave own others j next rest)
exchange_bytes master slave own others holds theirs (job.Send source target user temp) names next rest all =
    send_bytes master slave own.digests source target user temp own (to_give own (fetched_by source temp)) refl holds names
    (others.landing source target)
    (front_held others own.digests (fetched_by source temp) (to_give own (fetched_by source temp))) (others.verdict (others.landing source target)) (others.immovable (others.landing source target)) next rest all
exchange_bytes master slave own others holds theirs (job.Request source target user) names next rest all =
    request_bytes master slave others.digests source target user others (to_give others source) refl theirs names (others.delayed source) (own.landing source target) (own.immovable (own.landing source target)) next rest
    all

exchanges_bytes : (master slave : Side) (own others : Holdings) → HoldsBytes own → HoldsBytes others → (jobs : List Job) →
    All HasNames jobs → (rest : List Turn) → TurnsAreBytes rest → TurnsAreBytes (exchanges master slave own others jobs rest)
exchanges_bytes master slave own others holds theirs [] names rest all = all
exchanges_bytes master slave own others holds theirs (j ∷ jobs) names rest all =
    exchange_bytes master slave own others holds theirs j (All-head HasNames j jobs names) (choice own jobs).failing
    (exchanges master slave own others jobs rest)
    (exchanges_bytes master slave own others holds theirs jobs (All-tail HasNames j jobs names) rest all)

agree_bytes : TurnsAreBytes last_turns
agree_bytes = (order_bytes order.HangUp tt, (answer_bytes answer.HangYes, (answer_bytes answer.HangYes, tt)))

hang_up_bytes : (next : Option Order) (a b : Party) → HoldsBytes a.holdings → HoldsBytes b.holdings → All HasNames b.jobs →
    TurnsAreBytes (after_hang_up next a b)
hang_up_bytes None a b a_holds b_holds names = (answer_bytes answer.HangYes, (answer_bytes answer.HangYes, tt))
hang_up_bytes (Some order) a b a_holds b_holds names = (
  answer_bytes answer.HangNo,
  exchanges_bytes Called Caller b.holdings a.holdings b_holds a_holds b.jobs names last_turns agree_bytes,
)

conversation_bytes : (a b : Party) → All HasNames a.jobs → All HasNames b.jobs → HoldsBytes a.holdings → HoldsBytes b.holdings →
    TurnsAreBytes (conversation a b)
conversation_bytes a b a_names b_names a_holds b_holds =
    exchanges_bytes Caller Called a.holdings b.holdings a_holds b_holds a.jobs a_names (hang_up a b)
    (order_bytes order.HangUp tt, hang_up_bytes (choice b.holdings b.jobs).next a b a_holds b_holds b_names)

-- ---- the messages of turns

message_bytes : (me speaker : Side) (bytes : List ℕ) (moves : List Move) (keeps : List Kept) (ms : List Message) → AreBytes bytes →
    All AreBytes (own_messages (view me ms)) →
    All AreBytes (own_messages (view me (record { speaker = speaker; bytes = bytes; moves = moves; keeps = keeps } ∷ ms)))
message_bytes Caller Caller bytes moves keeps ms are more = All-cons AreBytes bytes (own_messages (view Caller ms)) are more
message_bytes Called Called bytes moves keeps ms are more = All-cons AreBytes bytes (own_messages (view Called ms)) are more
message_bytes Caller Called bytes moves keeps ms are more = more
message_bytes Called Caller bytes moves keeps ms are more = more

turn_bytes : (me : Side) (t : Turn) (chunks : List (List ℕ)) (ms : List Message) → All AreBytes chunks →
    All AreBytes (own_messages (view me ms)) → All AreBytes (own_messages (view me (turn_messages t chunks ms)))
turn_bytes me t [] ms are more = more
turn_bytes me t (bytes ∷ []) ms are more =
    message_bytes me t.speaker bytes t.moves t.keeps ms (All-head AreBytes bytes [] are) more
turn_bytes me t (bytes ∷ next ∷ chunks) ms are more =
    message_bytes me t.speaker bytes [] [] (turn_messages t (next ∷ chunks) ms) (All-head AreBytes bytes (next ∷ chunks) are)
    (turn_bytes me t (next ∷ chunks) ms (All-tail AreBytes bytes (next ∷ chunks) are) more)

turns_bytes : (measures : Side → Measure) (me : Side) (ts : List Turn) → TurnsAreBytes ts →
    All AreBytes (own_messages (view me (messages measures ts)))
turns_bytes measures me [] all = All-nil AreBytes
turns_bytes measures me (t ∷ ts) all =
    turn_bytes me t (said_messages (measures t.speaker) t.said) (messages measures ts) (said_bytes (measures t.speaker) t.said all.0)
    (turns_bytes measures me ts all.1)

pub own_bytes : (me : Side) (a b : Party) → All HasNames a.jobs → All HasNames b.jobs → HoldsBytes a.holdings →
    HoldsBytes b.holdings → All AreBytes (own_messages (conversation_view me a b))
own_bytes me a b a_names b_names a_holds b_holds =
    turns_bytes (measures a b) me (conversation a b) (conversation_bytes a b a_names b_names a_holds b_holds)
