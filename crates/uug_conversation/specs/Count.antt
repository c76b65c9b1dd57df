-- How far an end has come in a conversation that is known as a whole: how many messages it has sent and taken. So the two
-- ends of a session are described by somebody who knows both parties, and spools whose device never fails (this project's
-- profile).
use Rattle.std.specs.Prelude.{ℕ, suc, Bool, true, false, ◌&&◌, ◌||◌, nat_lt, nat_le, List, length, slice_get, Option, None, if◌then◌else◌}
use Rattle.uug_conversation.specs.Keeper.{Keeper}
use Rattle.uug_conversation.specs.View.{Seen, own_messages, others_messages, floor}

pub record Count : Type 0 where
  -- the link has come up in this session
  pub opened : Bool
  pub sent : ℕ
  pub taken : ℕ

abbrev pub nothing_yet : Count
nothing_yet = record { opened = false; sent = 0; taken = 0 }

-- the message at that place, where it stands before the next one of the other end
abbrev pub message_before : (floor : ℕ) → List Seen → ℕ → Option (List ℕ)
message_before floor v n = if nat_lt n floor then slice_get (own_messages v) n else None

abbrev pub all_sent : List Seen → Count → Bool
all_sent v c = nat_le (length (own_messages v)) c.sent

abbrev pub all_taken : List Seen → Count → Bool
all_taken v c = nat_le (length (others_messages v)) c.taken

-- the keeper of the end that sees the conversation so; what it takes is always what stands there
abbrev pub count_keeper : List Seen → Keeper Count
count_keeper v = record {
  opened = λ measure c. record { opened = true; sent = c.sent; taken = c.taken };
  taking = λ message c. record { opened = c.opened; sent = c.sent; taken = suc c.taken };
  asks_spool = λ message c. false;
  next = λ c. if c.opened then message_before (floor c.taken v) v c.sent else None;
  sent = λ c. record { opened = c.opened; sent = suc c.sent; taken = c.taken };
  is_bad = λ c. false;
  is_over = λ c. c.opened && (all_sent v c && all_taken v c);
  has_parted = λ c. c.opened && (all_sent v c || all_taken v c);
}
