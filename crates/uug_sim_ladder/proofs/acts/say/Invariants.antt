use Rattle.std.proofs.Common.{◌≡◌, drop}
use Rattle.uug_sim_ladder.specs.Acts.{end_kept, says_texts, text_bytes}
use Rattle.uug_sim_ladder.specs.Rungs.{ladder_shown}
use Rattle.uug_sim_ladder.proofs.acts.say.Given as goal

-- with the bytes that are left, all are said
abbrev pub invariant-loop-byte : goal.invariant-loop-byte
invariant-loop-byte g l =
    (text_bytes l.event l.side (drop l.byte-index l.bytes)
    (record { text = l.text.items; drawn = record { ladder = ladder_shown l.ladder; end = end_kept l.end } })).drawn
    ≡ says_texts l.event l.side l.bytes (record { ladder = ladder_shown l.fn.ladder; end = end_kept l.fn.end })
