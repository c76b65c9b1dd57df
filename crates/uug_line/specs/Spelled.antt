-- What is told of a run as a program tells it: a packet is kept as it is spelled (this project's profile).
use Rattle.std.specs.Prelude.{◌≡◌, map, None}
use Rattle.uug_packet.specs.Spelling.{canonical}
use Rattle.uug_conversation.specs.MemoryHoldings.{MemoryHoldings, holdings_of}
use Rattle.uug_conversation.specs.Partials.{holding}
use Rattle.uug_conversation.specs.declared.side.Side.{Side}
use Rattle.uug_line.specs.Belongings.{SetupValue}
use Rattle.uug_conversation.specs.Sides.{AtBoth, at}
use Rattle.uug_line.specs.Told.{EndReportValue, ReportValue, SpelledEnd, SpelledReport}

abbrev pub spelled_end : EndReportValue → SpelledEnd
spelled_end e = record {
  sent = e.sent;
  taken = e.taken;
  packets = map canonical e.packets;
  arrivals = e.arrivals;
  most = e.most;
  phase = e.phase;
}

abbrev pub spelled_session : AtBoth EndReportValue → AtBoth SpelledEnd
spelled_session s = record { at_caller = spelled_end s.at_caller; at_called = spelled_end s.at_called }

abbrev pub spelled : ReportValue → SpelledReport
spelled r = record {
  sessions = map spelled_session r.sessions;
  ends = r.ends;
  belongings = r.belongings;
  verdict = r.verdict;
}

-- the spools give and accept what they did when the ends were set up, whatever they hold of files that were cut off
abbrev pub GiveAsSetUp : SetupValue → AtBoth MemoryHoldings → Type 0
GiveAsSetUp setup spools = (side : Side) →
    holding None (holdings_of (at side spools)) ≡ holding None (at side setup).holdings
