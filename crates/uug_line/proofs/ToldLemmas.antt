-- What the headline says of a report, it says of the report as a program tells it.
use Rattle.std.proofs.lemmas.List.Elements.{All-map, All-weaker}
use Rattle.uug_conversation.specs.declared.side.Side.{Side}
use Rattle.uug_conversation.specs.declared.side.Side.TheVariants.{Caller, Called}
use Rattle.uug_line.specs.Belongings.{SetupValue}
use Rattle.uug_line.specs.Headline.{AllKeptToWindows, AllTookFronts, KeptToWindows, StaysInFront, TookFronts}
use Rattle.uug_conversation.specs.Sides.{AtBoth}
use Rattle.uug_line.specs.Spelled.{spelled, spelled_session}
use Rattle.uug_line.specs.Told.{EndReportValue, ReportValue, SpelledEnd}

fronts_of_session : (s : AtBoth EndReportValue) → TookFronts s → TookFronts (spelled_session s)
fronts_of_session s front Caller = front Caller
fronts_of_session s front Called = front Called

pub fronts_spelled : (r : ReportValue) → AllTookFronts r → AllTookFronts (spelled r)
fronts_spelled r fronts =
    All-map (λ (s : AtBoth SpelledEnd). TookFronts s) spelled_session r.sessions
    (All-weaker (λ (s : AtBoth EndReportValue). TookFronts s) (λ (s : AtBoth EndReportValue). TookFronts (spelled_session s))
    fronts_of_session r.sessions fronts)

windows_of_session : (setup : SetupValue) (s : AtBoth EndReportValue) → KeptToWindows setup s →
    KeptToWindows setup (spelled_session s)
windows_of_session setup s kept Caller = kept Caller
windows_of_session setup s kept Called = kept Called

pub windows_spelled : (setup : SetupValue) (r : ReportValue) → AllKeptToWindows setup r → AllKeptToWindows setup (spelled r)
windows_spelled setup r kept =
    All-map (λ (s : AtBoth SpelledEnd). KeptToWindows setup s) spelled_session r.sessions
    (All-weaker (λ (s : AtBoth EndReportValue). KeptToWindows setup s)
    (λ (s : AtBoth EndReportValue). KeptToWindows setup (spelled_session s)) (windows_of_session setup) r.sessions kept)

pub earlier_spelled : (setup : SetupValue) (r : ReportValue) (side : Side) → StaysInFront setup r side →
    StaysInFront setup (spelled r) side
earlier_spelled setup r side stays = record { struck = stays.struck; stored = stays.stored }
