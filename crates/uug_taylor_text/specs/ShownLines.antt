-- Lines of logs and statistics as clauses see them: by their words.
use Rattle.uug_taylor_text.specs.LogLines.{Entry, HeadWords, agreed, called, calls, fault, logged_in, over, packets, receives, receives_from, sends, sends_from}
use Rattle.uug_taylor_text.specs.StatsLines.{StatWords}
use Rattle.uug_taylor_text.specs.declared.log_text.LogEvent.{LogEvent}
use Rattle.uug_taylor_text.specs.declared.log_text.LogEvent.TheVariants as events
use Rattle.uug_taylor_text.specs.declared.log_text.LogHead.{LogHead}
use Rattle.uug_taylor_text.specs.declared.stats_text.StatsHead.{StatsHead}

abbrev pub shown_head : LogHead → HeadWords
shown_head h = record { program = h.program.now; system = h.system.now; user = h.user.now; moment = h.moment; process = h.process }

abbrev pub shown_event : LogEvent → Entry
shown_event (events.Calls port) = calls port.now
shown_event events.LoggedIn = logged_in
shown_event (events.Called login port) = called login.now port.now
shown_event (events.Agreed own far) = agreed own.0 own.1 far.0 far.1
shown_event (events.Sends file bytes) = sends file.now bytes
shown_event (events.Receives file bytes) = receives file.now bytes
shown_event (events.SendsFrom file size position) = sends_from file.now size position
shown_event (events.ReceivesFrom file size position) = receives_from file.now size position
shown_event (events.Packets sent resent received) = packets sent resent received
shown_event (events.Over seconds bytes) = over seconds bytes
shown_event (events.Fault text) = fault text.now

abbrev pub shown_stats : StatsHead → StatWords
shown_stats h = record { user = h.user.now; system = h.system.now; moment = h.moment; port = h.port.now }
