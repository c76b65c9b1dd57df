-- The losses that the packets of one direction show (this project's profile).
use Rattle.std.specs.Prelude.{◌≡◌, ℕ, ◌+◌, ◌-◌, ◌%◌, ◌^◌, min, List, [], ◌∷◌, nat_eq, Option, Some, None, if◌then◌else◌}
use Rattle.uug_packet.specs.Packet.{rj, srj, control, carry}
use Rattle.uug_reader.specs.Cut.{Item, found, bad}
use Rattle.uug_reader.specs.Scan.{Finds}
use Rattle.uug_observe_log.specs.declared.passed.Counts.{Counts}
use Rattle.uug_observe_log.specs.declared.passed.Passed.{Passed}

-- one more. The count saturates
abbrev pub one_more : ℕ → ℕ
one_more count = min (count + 1) (2 ^ 64 - 1)

abbrev pub bytes_with : (bytes more : ℕ) → ℕ
bytes_with bytes more = min (bytes + more) (2 ^ 64 - 1)

abbrev pub with_reject : Counts → Counts
with_reject c = record { rejects = one_more c.rejects; repeats = c.repeats; damaged = c.damaged }

abbrev pub with_repeat : Counts → Counts
with_repeat c = record { rejects = c.rejects; repeats = one_more c.repeats; damaged = c.damaged }

abbrev pub with_damage : Counts → Counts
with_damage c = record { rejects = c.rejects; repeats = c.repeats; damaged = one_more c.damaged }

-- the counts after an item. `next` is the number of the next data packet
abbrev pub counted : (next : ℕ) → Counts → Item → Counts
counted next c bad = with_damage c
counted next c (found (control (rj y))) = with_reject c
counted next c (found (control (srj y))) = with_reject c
counted next c (found (control other)) = c
counted next c (found (carry seq ack k message)) = if nat_eq seq next then c else with_repeat c

-- the number of the next data packet after an item, modulo eight
abbrev pub next_behind : (next : ℕ) → Item → ℕ
next_behind next bad = next
next_behind next (found (control other)) = next
next_behind next (found (carry seq ack k message)) = if nat_eq seq next then (next + 1) % 8 else next

-- the message of an item, if it is the next data packet
abbrev pub next_message : (next : ℕ) → Item → Option (List ℕ)
next_message next bad = None
next_message next (found (control other)) = None
next_message next (found (carry seq ack k message)) = if nat_eq seq next then Some message else None

abbrev pub passed_after : Passed → Item → Passed
passed_after p item = record { next = next_behind p.next item; counts = counted p.next p.counts item }

-- after these items, in order
abbrev pub passed_with : Passed → List Item → Passed
passed_with p [] = p
passed_with p (item ∷ items) = passed_with (passed_after p item) items

-- all that is found in the bytes before the others is counted
abbrev pub AddsCounts : (s others : List ℕ) → (before after : Passed) → Type 0
AddsCounts s others before after = (items : List Item) × Finds s items others × (after ≡ passed_with before items)
