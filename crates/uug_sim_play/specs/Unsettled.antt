-- Why a report may not settle (this project's profile).
use Rattle.std.specs.Prelude.{◌≡◌, ℕ, ◌≤◌, false, List, [], codes}
use Rattle.uug_session.specs.declared.phase.Phase.TheVariants.{Talking}
use Rattle.uug_session.specs.Phases.{phase_at}
use Rattle.uug_conversation.specs.declared.side.Side.{Side}
use Rattle.uug_conversation.specs.declared.side.Side.TheVariants.{Caller, Called}
use Rattle.uug_line.specs.declared.verdict.LineVerdict.TheVariants.{Clean}
use Rattle.uug_line.specs.Settled.{EndCanSettle}
use Rattle.uug_conversation.specs.Sides.{at}
use Rattle.uug_line.specs.Told.{EndNow}
use Rattle.uug_line.specs.WholeReport.{WholeReport}
use Rattle.uug_scan.specs.Listing.{ended}
use Rattle.uug_sim_play.specs.declared.unsettled.Unsettled.{Unsettled}
use Rattle.uug_sim_play.specs.declared.unsettled.Unsettled.TheVariants.{Fooled, Silent, Quiet, Late, Holds, OnLine}

abbrev pub Talks : EndNow → Type 0
Talks now = phase_at now.stage now.link.phase ≡ Talking

-- ---- of one end

-- the end may settle where nothing is on the line from it
abbrev pub IsQuietEnd : (now : EndNow) (held : List ℕ) → Type 0
IsQuietEnd now held = EndCanSettle now held []

-- the condition is one of the end on this side, and the first of these that does not hold of it: that it talks, is not quiet on
-- repeats, has not timed out too often, and holds nothing
abbrev pub EndFails : (side : Side) (now : EndNow) (held : List ℕ) → Unsettled → Type 0
EndFails side now held Fooled = ⊥
EndFails side now held (Silent s) = (s ≡ side) × (Talks now → ⊥)
EndFails side now held (Quiet s) = (s ≡ side) × Talks now × (now.link.own.quiet ≡ false → ⊥)
EndFails side now held (Late s) = (s ≡ side) × Talks now × (now.link.own.quiet ≡ false) × (now.link.timeouts ≤ 6 → ⊥)
EndFails side now held (Holds s) =
    (s ≡ side) × Talks now × (now.link.own.quiet ≡ false) × (now.link.timeouts ≤ 6) × (held ≡ [] → ⊥)
EndFails side now held OnLine = ⊥

-- ---- of a report

abbrev pub IsQuietAt : Side → WholeReport → Type 0
IsQuietAt side report = IsQuietEnd (at side report.told.ends) (at side report.held)

abbrev pub FailsAt : Side → Unsettled → WholeReport → Type 0
FailsAt side why report = EndFails side (at side report.told.ends) (at side report.held) why

-- The condition is the first that does not hold of the report: of the verdict, of the caller, of the called end, of the line.
pub data Fails : Unsettled → WholeReport → Type 0 where
  fooled : {report : WholeReport} → (report.told.verdict ≡ Clean → ⊥) → Fails Fooled report
  caller_fails : {why : Unsettled} {report : WholeReport} → report.told.verdict ≡ Clean → FailsAt Caller why report → Fails why report
  called_fails : {why : Unsettled} {report : WholeReport} → report.told.verdict ≡ Clean → IsQuietAt Caller report → FailsAt Called why report
      → Fails why report
  on_line : {report : WholeReport} → report.told.verdict ≡ Clean → IsQuietAt Caller report → IsQuietAt Called report
      → (((side : Side) → (at side report.left).line ≡ []) → ⊥) → Fails OnLine report

-- ---- as it is written

abbrev pub unsettled_words : Unsettled → List ℕ
unsettled_words Fooled = codes "not settled: the line fooled an end"
unsettled_words (Silent Caller) = codes "not settled: caller is not talking"
unsettled_words (Silent Called) = codes "not settled: called is not talking"
unsettled_words (Quiet Caller) = codes "not settled: caller is quiet on repeats"
unsettled_words (Quiet Called) = codes "not settled: called is quiet on repeats"
unsettled_words (Late Caller) = codes "not settled: caller has timed out more than 6 times"
unsettled_words (Late Called) = codes "not settled: called has timed out more than 6 times"
unsettled_words (Holds Caller) = codes "not settled: caller holds part of a packet"
unsettled_words (Holds Called) = codes "not settled: called holds part of a packet"
unsettled_words OnLine = codes "not settled: bytes are on the line"

abbrev pub unsettled_line : Unsettled → List ℕ
unsettled_line why = ended (unsettled_words why)
