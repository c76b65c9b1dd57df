-- What the program writes down of an end, entry by entry, and what that says.
use Rattle.std.proofs.Common.{◌≡◌, ℕ, zero, suc, ◌+◌, List, [], ◌∷◌, ◌++◌, take, slice_get, Some, ap, sym, ◌∙◌, refl, arith}
use Rattle.std.proofs.lemmas.List.{append_assoc}
use Rattle.uug_link.specs.Entries.{EntryValue}
use Rattle.uug_line.specs.JournalValue.{JournalValue, saying, message_of_entry, messages_said, packet_of_entry, packets_said}

-- ---- entry by entry

next_entry : (es : List EntryValue) (i : ℕ) (e : EntryValue) → slice_get es i ≡ Some e → take (suc i) es ≡ take i es ++ e ∷ []
next_entry [] i e at = absurd cc
next_entry (x ∷ es) zero e at = ap (λ (y : EntryValue). y ∷ []) (grind (arith, at))
next_entry (x ∷ es) (suc i) e at = ap (λ (ys : List EntryValue). x ∷ ys) (next_entry es i e at)

messages_behind : (xs ys : List EntryValue) → messages_said (xs ++ ys) ≡ messages_said xs ++ messages_said ys
messages_behind [] ys = refl
messages_behind (x ∷ xs) ys =
    ap (λ (m : List (List ℕ)). message_of_entry x ++ m) (messages_behind xs ys)
    ∙ sym (append_assoc (message_of_entry x) (messages_said xs) (messages_said ys))

packets_behind : (xs ys : List EntryValue) → packets_said (xs ++ ys) ≡ packets_said xs ++ packets_said ys
packets_behind [] ys = refl
packets_behind (x ∷ xs) ys =
    ap (λ (m : List (List ℕ)). packet_of_entry x ++ m) (packets_behind xs ys)
    ∙ sym (append_assoc (packet_of_entry x) (packets_said xs) (packets_said ys))

with_both : JournalValue → (sent packets : List (List ℕ)) → JournalValue
with_both j sent packets = record j { sent = sent; packets = packets }

said_behind : (xs ys : List EntryValue) (j : JournalValue) → saying ys (saying xs j) ≡ saying (xs ++ ys) j
unfolding with_both
said_behind xs ys j =
    ap (λ (m : List (List ℕ)). with_both j m ((j.packets ++ packets_said xs) ++ packets_said ys))
    (append_assoc j.sent (messages_said xs) (messages_said ys)
    ∙ ap (λ (m : List (List ℕ)). j.sent ++ m) (sym (messages_behind xs ys)))
    ∙ ap (λ (m : List (List ℕ)). with_both j (j.sent ++ messages_said (xs ++ ys)) m)
    (append_assoc j.packets (packets_said xs) (packets_said ys)
    ∙ ap (λ (m : List (List ℕ)). j.packets ++ m) (sym (packets_behind xs ys)))

pub next_said : (es : List EntryValue) (i : ℕ) (e : EntryValue) (j before after : JournalValue) → slice_get es i ≡ Some e
    → before ≡ saying (take i es) j → after ≡ saying (e ∷ []) before → after ≡ saying (take (i + 1) es) j
next_said es i e j before after at so then =
    let one_more : suc i ≡ i + 1 = omega arith in
    then ∙ ap (λ (x : JournalValue). saying (e ∷ []) x) so ∙ said_behind (take i es) (e ∷ []) j
    ∙ ap (λ (xs : List EntryValue). saying xs j) (sym (next_entry es i e at))
    ∙ ap (λ (n : ℕ). saying (take n es) j) one_more
