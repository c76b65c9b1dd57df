-- A piece that comes to an end of the program in parts is taken up whole.
use Rattle.std.proofs.Common.{◌≡◌, ℕ, ◌+◌, ◌-◌, ◌<◌, ◌≤◌, min, List, [], ◌++◌, length, map, take, drop, ap, sym, subst, ◌∙◌, refl, arith, length-append, length-drop, length-take}
use Rattle.std.proofs.lemmas.List.{take-append-drop, take_all, take_min}
use Rattle.std.proofs.Math.Seq.{take-append-add}
use Rattle.uug_reader.specs.declared.reader.TheConstants.{READER_SIZE}
use Rattle.uug_session.specs.Arriving.{Arrival, Buffered, Receiver, all_taken, held_in, holds, stopped, takes_all, takes_piece, then_takes}
use Rattle.uug_session.specs.EndStep.{Stage, hailing, linked, ended}
use Rattle.uug_session.specs.Engine.{EngineState}
use Rattle.uug_conversation.specs.MemoryHoldings.{MemoryHoldings}
use Rattle.uug_session.specs.Node.{NodeState, accepted, accepted_at, bytes_at, held_bytes, offered, offered_at}
use Rattle.uug_conversation.specs.DialogueState.{DialogueState, end_keeper}
use Rattle.uug_line.specs.JournalValue.{JournalValue, packet_in}
use Rattle.uug_line.specs.LineEndState.{LineEndState}
use Rattle.uug_line.specs.LineEndValue.{HearsAll, HearsSome, IsOrdered, IsStopped, LineEndValue, Standing, StillHears, StillTakes, TakesAll, TakesOne, hearer_of, line_end_of, standing_of, taker_of}
use Rattle.uug_line.specs.Taking.{line_taker}
use Rattle.uug_line.proofs.ItemLemmas.{ordered_with}
use Rattle.uug_session.proofs.ArrivingLemmas.{in_pieces}

-- ---- one item after the other

-- the receiver is described by what stays
same_taker : (others : List (List ℕ)) (old now : LineEndValue) → standing_of now ≡ standing_of old → taker_of others now ≡ taker_of others old
same_taker others old now same = ap (λ (s : Standing). line_taker (record {
  identity = s.identity;
  keeper = end_keeper s.identity.side s.holdings;
}) (map packet_in others)) same

from_now : (others : List (List ℕ)) (old now new : LineEndValue) → StillTakes others old now
    → takes_all (taker_of others now) (hearer_of now) ≡ takes_all (taker_of others now) (hearer_of new)
    → takes_all (taker_of others old) (hearer_of old) ≡ takes_all (taker_of others old) (hearer_of new)
from_now others old now new still same =
    still.same ∙ subst (λ (t : Receiver (LineEndState DialogueState)). takes_all t (hearer_of now) ≡ takes_all t (hearer_of new)) (same_taker others old now still.standing) same

result_from_now : (others : List (List ℕ)) (old now : LineEndValue) (came : Arrival (LineEndState DialogueState)) → StillTakes others old now
    → takes_all (taker_of others now) (hearer_of now) ≡ came → takes_all (taker_of others old) (hearer_of old) ≡ came
result_from_now others old now came still same =
    still.same ∙ subst (λ (t : Receiver (LineEndState DialogueState)). takes_all t (hearer_of now) ≡ came) (same_taker others old now still.standing) same

pub still_takes : (others : List (List ℕ)) (old now new : LineEndValue) → StillTakes others old now → TakesOne others now new → StillTakes others old new
still_takes others old now new still one = record {
  same = from_now others old now new still one.same;
  ordered = one.ordered;
  standing = one.standing ∙ still.standing;
  no_more = omega (arith, one.fewer, still.no_more);
}

pub then_all : (others : List (List ℕ)) (old now new : LineEndValue) → StillTakes others old now → TakesAll others now new → TakesAll others old new
then_all others old now new still all = record {
  all = result_from_now others old now (all_taken (hearer_of new)) still all.all;
  ordered = all.ordered;
  standing = all.standing ∙ still.standing;
  room = all.room;
}

pub then_stopped : (others : List (List ℕ)) (old now new : LineEndValue) → StillTakes others old now → IsStopped others now new → IsStopped others old new
then_stopped others old now new still is = record {
  stopped = result_from_now others old now (stopped (hearer_of new)) still is.stopped;
  ordered = is.ordered;
  standing = is.standing ∙ still.standing;
  no_more = omega (arith, is.no_more, still.no_more);
}

-- ---- one part after the other

offered_engine : (stage : Stage) (part : List ℕ) (n : NodeState) → (offered_at stage part n).engine ≡ n.engine
offered_engine (hailing g) part n = refl
offered_engine linked part n = refl
offered_engine (ended how) part n = refl

offered_bytes : (stage : Stage) (part : List ℕ) (n : NodeState) → bytes_at stage (offered_at stage part n) ≡ held_in stage (bytes_at stage n ++ part)
offered_bytes (hailing g) part n = refl
offered_bytes linked part n = refl
offered_bytes (ended how) part n = refl

-- an end to which these bytes were offered
abbrev pub with_part : List ℕ → LineEndValue → LineEndValue
with_part part e = record e { node = offered part e.node }

part_held : (others : List (List ℕ)) (part : List ℕ) (e : LineEndValue)
    → hearer_of (with_part part e) ≡ holds (taker_of others e) (held_bytes e.node ++ part) (line_end_of e)
part_held others part e =
    let engine = offered_engine e.node.engine.stage part e.node in
    ap (λ (x : EngineState). record {
      held = bytes_at x.stage (offered part e.node);
      end = line_end_of (record e { node = record e.node { engine = x } });
    }) engine
    ∙ ap (λ (x : List ℕ). record { held = x; end = line_end_of e }) (offered_bytes e.node.engine.stage part e.node)

part_ordered : (part : List ℕ) (e : LineEndValue) → IsOrdered e → IsOrdered (with_part part e)
part_ordered part e ordered = ordered_with e (offered part e.node) (offered_engine e.node.engine.stage part e.node) ordered

part_standing : (part : List ℕ) (e : LineEndValue) → standing_of (with_part part e) ≡ standing_of e
part_standing part e =
    ap (λ (x : EngineState). standing_of (record e { node = record e.node { engine = x } })) (offered_engine e.node.engine.stage part e.node)

-- behind a part that was taken up
part_came : (others : List (List ℕ)) (part rest behind : List ℕ) (now : LineEndValue) (came : Arrival (LineEndState DialogueState)) → rest ≡ part ++ behind
    → takes_all (taker_of others (with_part part now)) (hearer_of (with_part part now)) ≡ came
    → takes_piece (taker_of others now) rest (hearer_of now) ≡ then_takes (taker_of others now) behind came
part_came others part rest behind now came cut is =
    let t = taker_of others now in
    ap (λ (x : List ℕ). takes_piece t x (hearer_of now)) cut
    ∙ in_pieces (LineEndState DialogueState) t part behind (hearer_of now)
    ∙ ap (λ (h : Buffered (LineEndState DialogueState)). then_takes t behind (takes_all t h)) (sym (part_held others part now))
    ∙ ap (λ (x : Receiver (LineEndState DialogueState)). then_takes t behind (takes_all x (hearer_of (with_part part now))))
    (sym (same_taker others now (with_part part now) (part_standing part now)))
    ∙ ap (λ (c : Arrival (LineEndState DialogueState)). then_takes t behind c) is

-- the last part
last_came : (others : List (List ℕ)) (part rest : List ℕ) (now : LineEndValue) (came : Arrival (LineEndState DialogueState)) → rest ≡ part
    → takes_all (taker_of others (with_part part now)) (hearer_of (with_part part now)) ≡ came
    → takes_piece (taker_of others now) rest (hearer_of now) ≡ came
last_came others part rest now came cut is =
    let t = taker_of others now in
    ap (λ (x : List ℕ). takes_piece t x (hearer_of now)) cut
    ∙ ap (λ (h : Buffered (LineEndState DialogueState)). takes_all t h) (sym (part_held others part now))
    ∙ ap (λ (x : Receiver (LineEndState DialogueState)). takes_all x (hearer_of (with_part part now)))
    (sym (same_taker others now (with_part part now) (part_standing part now)))
    ∙ is

piece_from_now : (others : List (List ℕ)) (piece rest : List ℕ) (old now : LineEndValue) (came : Arrival (LineEndState DialogueState)) → StillHears others piece rest old now
    → takes_piece (taker_of others now) rest (hearer_of now) ≡ came → takes_piece (taker_of others old) piece (hearer_of old) ≡ came
piece_from_now others piece rest old now came still same =
    still.same ∙ subst (λ (t : Receiver (LineEndState DialogueState)). takes_piece t rest (hearer_of now) ≡ came) (same_taker others old now still.standing) same

pub still_hears : (others : List (List ℕ)) (piece rest part behind : List ℕ) (old now mid new : LineEndValue) → rest ≡ part ++ behind
    → mid ≡ with_part part now → StillHears others piece rest old now → TakesAll others mid new → StillHears others piece behind old new
still_hears others piece rest part behind old now mid new cut is still taken =
    let all = subst (λ (m : LineEndValue). TakesAll others m new) is taken in
    record {
      same = piece_from_now others piece rest old now (takes_piece (taker_of others old) behind (hearer_of new)) still
          (part_came others part rest behind now (all_taken (hearer_of new)) cut all.all
          ∙ ap (λ (t : Receiver (LineEndState DialogueState)). takes_piece t behind (hearer_of new)) (same_taker others old now still.standing));
      ordered = all.ordered;
      standing = all.standing ∙ part_standing part now ∙ still.standing;
      room = all.room;
    }

pub hears_all : (others : List (List ℕ)) (piece rest part : List ℕ) (old now mid new : LineEndValue) → rest ≡ part
    → mid ≡ with_part part now → StillHears others piece rest old now → TakesAll others mid new → HearsAll others piece old new
hears_all others piece rest part old now mid new cut is still taken =
    let all = subst (λ (m : LineEndValue). TakesAll others m new) is taken in
    record {
      came = piece_from_now others piece rest old now (all_taken (hearer_of new)) still
          (last_came others part rest now (all_taken (hearer_of new)) cut all.all);
      ordered = all.ordered;
      standing = all.standing ∙ part_standing part now ∙ still.standing;
      room = all.room;
    }

-- ---- a packet was found that was not sent

held_offered : (part : List ℕ) (n : NodeState) → held_bytes (offered part n) ≡ held_in n.engine.stage (held_bytes n ++ part)
held_offered part n =
    ap (λ (x : EngineState). bytes_at x.stage (offered part n)) (offered_engine n.engine.stage part n)
    ∙ offered_bytes n.engine.stage part n

-- what was accepted does not overfill
within_size : (stage : Stage) (n : NodeState) (rest : List ℕ) → length (bytes_at stage n) < READER_SIZE
    → length (held_in stage (bytes_at stage n ++ take (accepted_at stage n rest) rest)) ≤ READER_SIZE
within_size (hailing g) n rest room =
    let count = min (READER_SIZE - length n.texts.bytes) (length rest) in
    omega (arith, room, length-append n.texts.bytes (take count rest), length-take count rest)
within_size linked n rest room =
    let count = min (READER_SIZE - length n.packets.bytes) (length rest) in
    omega (arith, room, length-append n.packets.bytes (take count rest), length-take count rest)
within_size (ended how) n rest room = omega arith

pub part_within : (now mid : LineEndValue) (count : ℕ) (rest : List ℕ) → length (held_bytes now.node) < READER_SIZE
    → count ≡ accepted now.node rest → mid ≡ with_part (take count rest) now → length (held_bytes mid.node) ≤ READER_SIZE
part_within now mid count rest room is part =
    let held : held_bytes mid.node ≡ held_in now.node.engine.stage (held_bytes now.node ++ take (accepted now.node rest) rest) =
    ap (λ (m : LineEndValue). held_bytes m.node) part ∙ held_offered (take count rest) now.node
    ∙ ap (λ (c : ℕ). held_in now.node.engine.stage (held_bytes now.node ++ take c rest)) is in
    subst (λ (b : List ℕ). length b ≤ READER_SIZE) (sym held) (within_size now.node.engine.stage now.node rest room)

-- what is accepted fills up
fills : (held behind : List ℕ) → length held ≤ READER_SIZE
    → held ++ take (min (READER_SIZE - length held) (length behind)) behind ≡ take READER_SIZE (held ++ behind)
fills held behind within =
    let all : length held + (READER_SIZE - length held) ≡ READER_SIZE = omega (arith, within) in
    ap (λ (b : List ℕ). held ++ b) (take_min (READER_SIZE - length held) behind)
    ∙ sym (take-append-add held behind (READER_SIZE - length held))
    ∙ ap (λ (n : ℕ). take n (held ++ behind)) all

filled_at : (stage : Stage) (n : NodeState) (behind : List ℕ) → length (bytes_at stage n) ≤ READER_SIZE
    → held_in stage (bytes_at stage n ++ take (accepted_at stage n behind) behind)
    ≡ take READER_SIZE (held_in stage (bytes_at stage n ++ behind))
filled_at (hailing g) n behind within = fills n.texts.bytes behind within
filled_at linked n behind within = fills n.packets.bytes behind within
filled_at (ended how) n behind within = sym (take_all READER_SIZE [] (omega arith))

pub hears_some : (others : List (List ℕ)) (piece rest part behind : List ℕ) (count : ℕ) (old now mid new filled : LineEndValue)
    → rest ≡ part ++ behind → mid ≡ with_part part now → StillHears others piece rest old now → length (held_bytes mid.node) ≤ READER_SIZE
    → IsStopped others mid new → count ≡ accepted new.node behind → filled ≡ with_part (take count behind) new
    → HearsSome others piece old filled
hears_some others piece rest part behind count old now mid new filled cut is still within taken counted fills_so =
    let none = subst (λ (m : LineEndValue). IsStopped others m new) is taken in
    let stage = new.node.engine.stage in
    let held = held_in stage (held_bytes new.node ++ behind) in
    let by_end : LineEndState DialogueState → Arrival (LineEndState DialogueState) = λ x. stopped (record { held = held; end = x }) in
    let same_end : line_end_of filled ≡ line_end_of new =
    ap line_end_of fills_so ∙ ap (λ (h : Buffered (LineEndState DialogueState)). h.end) (part_held others (take count behind) new) in
    record {
      held = held;
      came = piece_from_now others piece rest old now (by_end (line_end_of new)) still
          (part_came others part rest behind now (stopped (hearer_of new)) cut none.stopped)
          ∙ ap by_end (sym same_end);
      fits = ap (λ (m : LineEndValue). held_bytes m.node) fills_so ∙ held_offered (take count behind) new.node
          ∙ ap (λ (c : ℕ). held_in stage (held_bytes new.node ++ take c behind)) counted
          ∙ filled_at stage new.node behind (omega (arith, taken.no_more, within));
      ordered = subst IsOrdered (sym fills_so) (part_ordered (take count behind) new none.ordered);
      standing = ap standing_of fills_so ∙ part_standing (take count behind) new ∙ none.standing ∙ part_standing part now ∙ still.standing;
    }

-- ---- the parts behind an offer, and that the rest gets less

pub parted : (count : ℕ) (rest behind : List ℕ) → behind ≡ drop count rest → rest ≡ take count rest ++ behind
parted count rest behind is = sym (take-append-drop count rest) ∙ ap (λ (x : List ℕ). take count rest ++ x) (sym is)

pub all_parted : (count : ℕ) (rest behind : List ℕ) → behind ≡ drop count rest → length behind ≡ 0 → rest ≡ take count rest
all_parted count rest behind is none =
    let left : length (drop count rest) ≡ 0 = ap (λ (x : List ℕ). length x) (sym is) ∙ none in
    sym (take_all count rest (omega (arith, left, length-drop count rest)))

pub part_is : (now mid : LineEndValue) (part : List ℕ) → mid.node ≡ offered part now.node → mid.spool ≡ now.spool → mid.journal ≡ now.journal
    → mid.line ≡ now.line → mid ≡ with_part part now
part_is now mid part node spool journal line =
    let by_node : NodeState → LineEndValue = λ x. record { node = x; spool = mid.spool; journal = mid.journal; line = mid.line } in
    let by_spool : MemoryHoldings → LineEndValue = λ x. record { node = offered part now.node; spool = x; journal = mid.journal; line = mid.line } in
    let by_journal : JournalValue → LineEndValue = λ x. record { node = offered part now.node; spool = now.spool; journal = x; line = mid.line } in
    let by_line : List ℕ → LineEndValue = λ x. record { node = offered part now.node; spool = now.spool; journal = now.journal; line = x } in
    ap by_node node ∙ ap by_spool spool ∙ ap by_journal journal ∙ ap by_line line
