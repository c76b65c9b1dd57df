-- Lemmas on the report of an end that has run its session, whichever end that was.
use Rattle.std.proofs.Common.{◌≡◌, ℕ, Bool, List, Option, Result, Ok, Err, sym, subst, ◌∙◌}
use Rattle.std.specs.Prelude.{IfOk, OnOk}
use Rattle.uug_conversation.specs.Holdings.{Holdings, Kept}
use Rattle.uug_conversation.specs.declared.side.Side.{Side}
use Rattle.uug_session.proofs.NodeRunLemmas.{led_on}
use Rattle.uug_session.specs.Beginnings.{EndBeginning, IsSoundBeginning}
use Rattle.uug_session.specs.NodeRuns.{HasRun, IsLedByEvents}
use Rattle.uug_session.specs.Engine.{IsEnded}
use Rattle.uug_session.specs.Node.{NodeState}
use Rattle.uug_stream.specs.Streams.{Appends}
use Rattle.uug_stream.specs.declared.fault.ToolFault.{ToolFault}
use Rattle.uug_transfer.specs.Ends.{phase_of_end, report_of, status_of_phase}
use Rattle.uug_transfer.specs.Moments.{EndNow, IsLed}
use Rattle.uug_transfer.specs.Reported.{HasRunSoundly, IsReported, status_with}

-- a session that was run up to some state goes on from there
pub led_run : (side : Side) (b : EndBeginning) (before after : EndNow) → before.holdings ≡ b.holdings
    → HasRun side b before.kept before.node → IsLed before after → HasRun side b after.kept after.node
led_run side b before after is ran led = record {
  first = ran.first;
  begun = ran.begun;
  led = led_on b.holdings b.kept before.kept after.kept ran.first before.node after.node ran.led
      (subst (λ (held : Holdings). IsLedByEvents held before.kept after.kept before.node after.node) is led.events);
}

-- an end that came so to its session has come soundly to it
pub began_soundly : (side : Side) (b : EndBeginning) (h : Holdings) (kept : List Kept) (end : NodeState)
    → b.holdings ≡ h → IsSoundBeginning b → HasRun side b kept end → HasRunSoundly side h kept end
began_soundly side b h kept end gives sound ran = record { beginning = b; holdings = gives; sound = sound; ran = ran }

led_soundly : (side : Side) (before after : EndNow) → HasRunSoundly side before.holdings before.kept before.node → IsLed before after
    → HasRunSoundly side after.holdings after.kept after.node
led_soundly side before after r l = record {
  beginning = r.beginning;
  holdings = r.holdings ∙ sym l.stays;
  sound = r.sound;
  ran = led_run side r.beginning before after (sym r.holdings) r.ran l;
}

-- an end that has run its session up to here runs it on, to what is shown of it
pub runs_on : (side : Side) (before after : EndNow) (shown : NodeState) → HasRunSoundly side before.holdings before.kept before.node
    → IsLed before after → shown ≡ after.node → HasRunSoundly side after.holdings after.kept shown
runs_on side before after shown r l is =
    subst (λ (end : NodeState). HasRunSoundly side after.holdings after.kept end) (sym is) (led_soundly side before after r l)

pub reported_of : (r : Result ℕ ToolFault) (side : Side) (h : Holdings) (kept : List Kept) (end : NodeState) (is_left : Bool)
    (written written_after : Option (List ℕ)) → HasRunSoundly side h kept end → IsEnded end.engine.stage
    → IfOk r (λ status. status ≡ status_with is_left (status_of_phase (phase_of_end end))) → OnOk r (Appends (report_of side end) written written_after)
    → IfOk r (λ status. IsReported side status written written_after)
reported_of (Ok status) side h kept end is_left written written_after ran over is printed =
    record { end = end; holdings = h; kept = kept; ran = ran; over = over; is_left = is_left; is_status = is; printed = printed }
reported_of (Err fault) side h kept end is_left written written_after ran over is printed = tt
