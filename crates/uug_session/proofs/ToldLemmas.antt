-- What an end keeps of a conversation is described by two numbers.
use Rattle.std.proofs.Common.{◌≡◌, ◌↔◌, ℕ, zero, suc, ◌≤◌, Bool, true, false, ◌&&◌, ◌||◌, nat_lt, nat_le, if◌then◌else◌, List, [], ◌∷◌, length, take, drop, slice_get, None, refl, ap, ◌∙◌, arith}
use Rattle.uug_conversation.specs.declared.awaits.Awaits.{Awaits}
use Rattle.uug_conversation.specs.declared.awaits.Awaits.TheVariants as awaits
use Rattle.uug_conversation.specs.Count.{message_before}
use Rattle.uug_conversation.specs.Party.{Party}
use Rattle.uug_conversation.specs.Runs.{is_over, has_said_all}
use Rattle.uug_conversation.specs.DialogueState.{first_of, is_empty, has_parted_by}
use Rattle.uug_conversation.specs.declared.side.Side.{Side}
use Rattle.uug_session.specs.TwoEnds.{Talker, IsTold}
use Rattle.uug_conversation.specs.View.{Seen, says, hears, conversation_view, own_messages, others_messages, floor}

-- ---- what is said next

none_after : (n : ℕ) → first_of (drop n []) ≡ None
none_after zero = refl
none_after (suc n) = refl

first_after : (n limit : ℕ) (ms : List (List ℕ)) →
    first_of (drop n (take limit ms)) ≡ (if nat_lt n limit then slice_get ms n else None)
first_after n zero ms = grind (arith, none_after n)
first_after zero (suc limit) [] = grind arith
first_after (suc n) (suc limit) [] = grind arith
first_after zero (suc limit) (m ∷ ms) = grind arith
first_after (suc n) (suc limit) (m ∷ ms) = grind (arith, first_after n limit ms)

pub next_is : (me : Side) (a b : Party) (own others : Talker) → IsTold me a b own others →
    first_of own.waiting
    ≡ message_before (floor (length own.taken) (conversation_view me a b)) (conversation_view me a b) (length own.sent)
next_is me a b own others t =
    ap first_of t.waiting_next
    ∙ first_after (length own.sent) (floor (length own.taken) (conversation_view me a b)) (own_messages (conversation_view me a b))

-- ---- whether HY was sent or taken

none_waits_after : (n limit : ℕ) (ms : List (List ℕ)) → limit ≤ length ms →
    is_empty (drop n (take limit ms)) ≡ nat_le limit n
none_waits_after zero zero ms h = grind arith
none_waits_after (suc n) zero ms h = grind arith
none_waits_after n (suc limit) [] h = absurd (omega (arith, h))
none_waits_after zero (suc limit) (m ∷ ms) h = grind arith
none_waits_after (suc n) (suc limit) (m ∷ ms) h = grind (arith, none_waits_after n limit ms)

floor_within : (k : ℕ) (v : List Seen) → floor k v ≤ length (own_messages v)
floor_within k [] = omega arith
floor_within k (says bytes ∷ v) = omega (arith, floor_within k v)
floor_within zero (hears bytes moves keeps ∷ v) = omega arith
floor_within (suc k) (hears bytes moves keeps ∷ v) = floor_within k v

parted_by : (awaited : Awaits) (none_waits : Bool) →
    has_parted_by awaited none_waits ≡ is_over awaited || (has_said_all awaited && none_waits)
parted_by awaits.NothingMore none_waits = refl
parted_by awaits.LastHangUp none_waits = refl
parted_by _ none_waits = refl

-- all was sent where no more may be said at all and no message waits
all_out : (over parted : Bool) (sent limit own taken others : ℕ) → sent ≤ limit → limit ≤ own →
    (over ≡ true) ↔ (others ≤ taken) → (parted ≡ true) ↔ (limit ≡ own) →
    over || (parted && nat_le limit sent) ≡ nat_le own sent || nat_le others taken
all_out true parted sent limit own taken others h l o p = grind (arith, o.0 refl)
all_out false true sent limit own taken others h l o p = grind (arith, p.0 refl, o.1)
all_out false false sent limit own taken others h l o p = grind (arith, p.1, o.1)

pub parted_is : (me : Side) (a b : Party) (own others : Talker) → IsTold me a b own others →
    has_parted_by own.state.awaits (is_empty own.waiting)
    ≡ nat_le (length (own_messages (conversation_view me a b))) (length own.sent)
    || nat_le (length (others_messages (conversation_view me a b))) (length own.taken)
parted_is me a b own others t =
    let v = conversation_view me a b in
    let limit = floor (length own.taken) v in
    let all = own_messages v in
    ap (has_parted_by own.state.awaits)
    (ap is_empty t.waiting_next ∙ none_waits_after (length own.sent) limit all (floor_within (length own.taken) v))
    ∙ parted_by own.state.awaits (nat_le limit (length own.sent))
    ∙ all_out (is_over own.state.awaits) (has_said_all own.state.awaits) (length own.sent) limit (length all)
    (length own.taken) (length (others_messages v)) t.sent_to_floor (floor_within (length own.taken) v)
    t.stands.over t.stands.parted
