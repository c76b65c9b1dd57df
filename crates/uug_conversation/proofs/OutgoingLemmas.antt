-- What is to be said, as the messages in which it goes out.
use Rattle.std.proofs.Common.{◌≡◌, ◌≢◌, ℕ, suc, ◌+◌, ◌<◌, ◌≤◌, false, List, [], ◌∷◌, ◌++◌, length, map, drop, get_or, All, refl, sym, ap, subst, ◌∙◌, add-one, drop-cons, arith}
use Rattle.std.proofs.lemmas.List.{append_assoc, drop_all, drop-append-le, drop-drop, length-append}
use Rattle.std.proofs.lemmas.List.Elements.{All-append, All-drop, All-head}
use Rattle.uug_talk.specs.Answer.{answer_text}
use Rattle.uug_talk.specs.Lenient.{refusal_text}
use Rattle.uug_talk.specs.Chunks.{Measure, cut, command_messages}
use Rattle.uug_conversation.specs.Told.{giving_said, order_said}
use Rattle.uug_conversation.specs.declared.reaction.Saying.{Saying}
use Rattle.uug_conversation.specs.declared.reaction.Saying.TheVariants as saying
use Rattle.uug_conversation.specs.declared.reaction.Says.{Says}
use Rattle.uug_conversation.specs.declared.reaction.Says.TheVariants.{Nothing, One, Two}
use Rattle.uug_conversation.specs.Holdings.{Holdings}
use Rattle.uug_conversation.specs.Outgoing.{Outgoing, IsSayable, IsWithin, is_silent, messages_from, messages_of, outgoing_messages, sayings_of}
use Rattle.uug_conversation.specs.Reactions.{all_said, said_by}
use Rattle.uug_conversation.specs.DialogueState.{is_empty}
use Rattle.uug_conversation.specs.Turns.{Said, the_order, the_answer, the_consent, the_giving, the_file, the_refusal, said_messages, all_messages}
use Rattle.uug_talk.specs.Positions.{consent_text}

-- ---- from any offset on there is a message

command_has_one : (measure : Measure) (text : List ℕ) → is_empty (command_messages measure text) ≡ false
command_has_one measure [] = refl
command_has_one measure (b ∷ text) = refl

file_has_one : (messages : List (List ℕ)) → is_empty (messages ++ [] ∷ []) ≡ false
file_has_one [] = refl
file_has_one (message ∷ messages) = refl

said_has_one : (measure : Measure) (offset : ℕ) (said : Said) → is_empty (messages_from measure offset said) ≡ false
said_has_one measure offset (the_order order told) = command_has_one measure (drop offset (order_said order told))
said_has_one measure offset (the_answer answer) = command_has_one measure (drop offset (answer_text answer))
said_has_one measure offset (the_consent position) = command_has_one measure (drop offset (consent_text position))
said_has_one measure offset (the_giving mode told) = command_has_one measure (drop offset (giving_said mode told))
said_has_one measure offset (the_file bytes) = file_has_one (cut measure.size (drop offset bytes))
said_has_one measure offset (the_refusal letter) = command_has_one measure (drop offset (refusal_text letter))

front_has_one : (front behind : List (List ℕ)) → is_empty front ≡ false → is_empty (front ++ behind) ≡ false
front_has_one [] behind e = absurd cc
front_has_one (message ∷ front) behind e = refl

silent_by : (h : Holdings) (measure : Measure) (offset : ℕ) (sayings : List Saying) → is_silent sayings ≡ is_empty (messages_of h measure offset sayings)
silent_by h measure offset [] = refl
silent_by h measure offset (first ∷ more) =
    sym (front_has_one (messages_from measure offset (said_by h first)) (all_messages measure (map (said_by h) more))
    (said_has_one measure offset (said_by h first)))

-- nothing is to be said where no message is to go out
pub silent_is_empty : (h : Holdings) (measure : Measure) (out : Outgoing) → is_silent out.sayings ≡ is_empty (outgoing_messages h measure out)
silent_is_empty h measure out = silent_by h measure out.offset out.sayings

-- ---- what is said behind

said_from_start : (measure : Measure) (said : Said) → messages_from measure 0 said ≡ said_messages measure said
said_from_start measure (the_order order told) = refl
said_from_start measure (the_answer answer) = refl
said_from_start measure (the_consent position) = refl
said_from_start measure (the_giving mode told) = refl
said_from_start measure (the_file bytes) = refl
said_from_start measure (the_refusal letter) = refl

-- the first one from its start on
all_from_start : (h : Holdings) (measure : Measure) (sayings : List Saying) → messages_of h measure 0 sayings ≡ all_messages measure (map (said_by h) sayings)
all_from_start h measure [] = refl
all_from_start h measure (first ∷ more) =
    ap (λ z. z ++ all_messages measure (map (said_by h) more)) (said_from_start measure (said_by h first))

all_behind : (h : Holdings) (measure : Measure) (sayings more : List Saying) →
    all_messages measure (map (said_by h) (sayings ++ more))
    ≡ all_messages measure (map (said_by h) sayings) ++ all_messages measure (map (said_by h) more)
all_behind h measure [] more = refl
all_behind h measure (first ∷ sayings) more =
    ap (λ z. said_messages measure (said_by h first) ++ z) (all_behind h measure sayings more)
    ∙ sym (append_assoc (said_messages measure (said_by h first)) (all_messages measure (map (said_by h) sayings))
    (all_messages measure (map (said_by h) more)))

behind : (h : Holdings) (measure : Measure) (offset : ℕ) (sayings more : List Saying) → IsWithin sayings offset →
    messages_of h measure offset (sayings ++ more)
    ≡ messages_of h measure offset sayings ++ all_messages measure (map (said_by h) more)
behind h measure offset [] more w = ap (λ z. messages_of h measure z more) w ∙ all_from_start h measure more
behind h measure offset (first ∷ sayings) more w =
    ap (λ z. messages_from measure offset (said_by h first) ++ z) (all_behind h measure sayings more)
    ∙ sym (append_assoc (messages_from measure offset (said_by h first)) (all_messages measure (map (said_by h) sayings))
    (all_messages measure (map (said_by h) more)))

pub all_said_is : (h : Holdings) (says : Says) → map (said_by h) (sayings_of says) ≡ all_said h says
all_said_is h Nothing = refl
all_said_is h (One first) = refl
all_said_is h (Two first next) = refl

-- what is said goes out behind all that was to be said
pub said_behind : (h : Holdings) (measure : Measure) (out out_after : Outgoing) (says : Says) → IsWithin out.sayings out.offset →
    out_after.sayings ≡ out.sayings ++ sayings_of says → out_after.offset ≡ out.offset →
    outgoing_messages h measure out_after ≡ outgoing_messages h measure out ++ all_messages measure (all_said h says)
said_behind h measure out out_after says w e o =
    ap (λ z. messages_of h measure z out_after.sayings) o
    ∙ ap (messages_of h measure out.offset) e
    ∙ behind h measure out.offset out.sayings (sayings_of says) w
    ∙ ap (λ z. outgoing_messages h measure out ++ all_messages measure z) (all_said_is h says)

-- ---- what is kept when more is said

-- so many in front of a list of this length were said; the others can be, and the offset lies in the first of them
abbrev pub Holds : (said len : ℕ) → (items : List Saying) → (offset : ℕ) → Type 0
Holds said len items offset = (said ≤ len) × All IsSayable (drop said items) × IsWithin (drop said items) offset

within_at_start : (sayings : List Saying) → IsWithin sayings 0
within_at_start [] = refl
within_at_start (saying.Order order told ∷ more) = omega arith
within_at_start (saying.Answer answer ∷ more) = omega arith
within_at_start (saying.Consent position ∷ more) = omega arith
within_at_start (saying.Giving mode told ∷ more) = omega arith
within_at_start (saying.File name position ∷ more) = tt
within_at_start (saying.Refusal letter ∷ more) = omega arith

within_behind : (sayings more : List Saying) (offset : ℕ) → IsWithin sayings offset → IsWithin (sayings ++ more) offset
within_behind [] more offset w = subst (λ z. IsWithin more z) (sym w) (within_at_start more)
within_behind (saying.Order order told ∷ sayings) more offset w = w
within_behind (saying.Answer answer ∷ sayings) more offset w = w
within_behind (saying.Consent position ∷ sayings) more offset w = w
within_behind (saying.Giving mode told ∷ sayings) more offset w = w
within_behind (saying.File name position ∷ sayings) more offset w = w
within_behind (saying.Refusal letter ∷ sayings) more offset w = w

pub holds_more : (said len len_after offset : ℕ) (items more items_after : List Saying) → len ≡ length items →
    len_after ≡ length items_after → Holds said len items offset → All IsSayable more → items_after ≡ items ++ more →
    Holds said len_after items_after offset
holds_more said len len_after offset items more items_after l m (n, sayable, within) a e =
    let left : drop said items_after ≡ drop said items ++ more =
    ap (drop said) e ∙ drop-append-le said items more (omega (arith, n, l)) in (
      omega (arith, n, l, m, ap length e, length-append items more),
      subst (All IsSayable) (sym left) (All-append IsSayable (drop said items) more sayable a),
      subst (λ z. IsWithin z offset) (sym left) (within_behind (drop said items) more offset within),
    )

-- ---- the first one

pub is_first : (said : ℕ) (items shown : List Saying) (first : Saying) → shown ≡ items → said < length shown →
    first ≡ get_or shown said first → drop said items ≡ first ∷ drop (said + 1) items
is_first said items shown first e n f =
    subst (λ z. drop said z ≡ first ∷ drop (said + 1) z) e
    (drop-cons shown said first n
    ∙ ap (λ z. z ∷ drop (suc said) shown) (sym f)
    ∙ ap (λ k. first ∷ drop k shown) (sym (add-one said)))

pub first_is_sayable : (said : ℕ) (items : List Saying) (first : Saying) → drop said items ≡ first ∷ drop (said + 1) items →
    All IsSayable (drop said items) → IsSayable first
first_is_sayable said items first e a =
    All-head IsSayable first (drop (said + 1) items) (subst (All IsSayable) e a)

-- when it was said
pub holds_behind_first : (said len offset : ℕ) (items : List Saying) → len ≡ length items → drop said items ≢ [] →
    Holds said len items offset → Holds (said + 1) len items 0
holds_behind_first said len offset items l some (n, sayable, within) =
    let more : said ≢ len = λ e. some (drop_all said items (omega (arith, e, l))) in (
      omega (arith, n, more),
      subst (All IsSayable) (drop-drop 1 said items) (All-drop IsSayable 1 (drop said items) sayable),
      within_at_start (drop (said + 1) items),
    )
