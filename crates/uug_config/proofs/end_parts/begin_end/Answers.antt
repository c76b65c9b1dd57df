use Rattle.std.proofs.Common.{refl}
use Rattle.uug_config.proofs.end_parts.begin_end.Goals as goal

pub returns-clause-sound : goal.returns-clause-sound
returns-clause-sound g c = record {
  window = c.note_types.ensures.window;
  modes = g.met.S.Spool.modes c.args.spool;
  limit = g.met.S.Spool.limits c.args.spool;
  names = c.note_types.ensures.names;
  ahead = refl;
}
