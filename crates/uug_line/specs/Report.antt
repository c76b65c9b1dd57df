-- What an end tells of itself and of its session (this project's profile).
use Rattle.uug_session.specs.declared.phase.Phase.{Phase}
use Rattle.uug_session.specs.Phases.{phase_at}
use Rattle.uug_line.specs.LineEndState.{LineEndState, Notes}
use Rattle.uug_line.specs.Told.{EndNow, EndReportValue, ToldEnd}

-- what was written down of it, and how far it came
abbrev pub told_by : {P : Type 0} → Notes P → Phase → ToldEnd P
told_by notes phase = record {
  sent = notes.sent;
  taken = notes.taken;
  packets = notes.packets;
  arrivals = notes.arrivals;
  most = notes.most;
  phase = phase;
}

abbrev pub report_of_end : {C : Type 0} → LineEndState C → EndReportValue
report_of_end e = told_by e.log (phase_at e.state.stage e.state.link.phase)

-- how it stands
abbrev pub end_now : {C : Type 0} → LineEndState C → EndNow
end_now e = record { stage = e.state.stage; link = e.state.link }
