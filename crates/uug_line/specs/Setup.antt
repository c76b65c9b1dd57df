-- Reads the program's set-up of two ends. A run begins with nothing held of files of earlier sessions.
use Rattle.std.specs.Prelude.{None}
use Rattle.uug_link.specs.Announced.{announced}
use Rattle.uug_conversation.specs.MemoryHoldings.{MemoryHoldings, held_by, holdings_of}
use Rattle.uug_conversation.specs.Partials.{holding, none_of}
use Rattle.uug_line.specs.declared.setup.EndSetup.{EndSetup}
use Rattle.uug_line.specs.declared.setup.Setup.{Setup}
use Rattle.uug_line.specs.Belongings.{EndSetupValue, SetupValue}

abbrev pub with_nothing_held : MemoryHoldings → MemoryHoldings
with_nothing_held m = record m { partials = none_of m.partials }

abbrev pub end_setup_of : {A : Type 0} → EndSetup A → EndSetupValue
end_setup_of e = record {
  name = e.name;
  own = announced e.announce;
  holdings = holding None (holdings_of (held_by e.spool));
  belongings = record {
    lists = e.queue;
    kept = (held_by e.spool).stored;
    partials = (with_nothing_held (held_by e.spool)).partials;
    number = e.number;
  };
}

abbrev pub setup_of : {A : Type 0} → Setup A → SetupValue
setup_of s = record { at_caller = end_setup_of s.caller; at_called = end_setup_of s.called }
