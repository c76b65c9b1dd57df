-- An end is quiet on repeats only where it was set up so, so settling asks no more of others.
use Rattle.std.proofs.Common.{◌↔◌, ℕ, List, ap, ◌∙◌}
use Rattle.uug_link.specs.Announced.{Announced}
use Rattle.uug_link.specs.State.{IsPlain}
use Rattle.uug_conversation.specs.declared.side.Side.{Side}
use Rattle.uug_conversation.specs.declared.side.Side.TheVariants.{Caller, Called}
use Rattle.uug_conversation.specs.Sides.{at}
use Rattle.uug_line.specs.declared.event.Event.{Event}
use Rattle.uug_line.specs.Belongings.{SetupValue}
use Rattle.uug_line.specs.OfSomeRun.{IsRunOf}
use Rattle.uug_line.specs.Settled.{CanSettle, EndCanSettle}
use Rattle.uug_line.specs.StillReports.{EndIsStill, IsStill, NoneIsQuiet}
use Rattle.uug_line.specs.Told.{EndNow}
use Rattle.uug_line.specs.WholeReport.{WholeReport}
use Rattle.uug_line.proofs.Clean.Law.{owns}
use Rattle.uug_line.proofs.ReportLemmas.{ends_told}

end_asks : (now : EndNow) (held line : List ℕ) → IsPlain now.link → EndCanSettle now held line ↔ EndIsStill now held line
end_asks now held line plain = (
  λ can. record {
    on_link = can.on_link;
    is_up = can.is_up;
    timeouts = can.timeouts;
    holds_none = can.holds_none;
    empty = can.empty;
  },
  λ still. record {
    on_link = still.on_link;
    is_up = still.is_up;
    plain = plain;
    timeouts = still.timeouts;
    holds_none = still.holds_none;
    empty = still.empty;
  },
)

pub asks_no_more : (setup : SetupValue) (events : List Event) (report : WholeReport) → IsRunOf setup events report → NoneIsQuiet setup →
    CanSettle report ↔ IsStill report
asks_no_more setup events report is none = (
  λ can. record { clean = can.clean; caller = caller.0 can.caller; called = called.0 can.called },
  λ still. record { clean = still.clean; caller = caller.1 still.caller; called = called.1 still.called },
)
  where
    plain : (side : Side) → IsPlain (at side report.told.ends).link
    plain side =
        ap (λ (now : EndNow). now.link.own.quiet) (ends_told report.told setup events is.told side)
        ∙ ap (λ (a : Announced). a.quiet) (owns setup events is.types side)
        ∙ none side

    caller : EndCanSettle report.told.ends.at_caller report.held.at_caller report.left.at_caller.line
        ↔ EndIsStill report.told.ends.at_caller report.held.at_caller report.left.at_caller.line
    caller = end_asks report.told.ends.at_caller report.held.at_caller report.left.at_caller.line (plain Caller)

    called : EndCanSettle report.told.ends.at_called report.held.at_called report.left.at_called.line
        ↔ EndIsStill report.told.ends.at_called report.held.at_called report.left.at_called.line
    called = end_asks report.told.ends.at_called report.held.at_called report.left.at_called.line (plain Called)
