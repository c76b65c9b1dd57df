use Rattle.std.proofs.Common.{All, subst}
use Rattle.uug_link.specs.Terms.{IsWindow}
use Rattle.uug_conversation.specs.Party.{HasNames}
use Rattle.uug_session.specs.Code.StoredBytes.{stored_bytes}
use Rattle.uug_conversation.specs.Code.StoredModes.{modes_in_range}
use Rattle.uug_conversation.proofs.ResumingLemmas.{none_again}
use Rattle.uug_talk.specs.Name.{IsName}
use Rattle.uug_line.proofs.ByteLemmas.{name_bytes}
use Rattle.uug_line.proofs.soundness.look_at_end.Goals as goal

pub returns : goal.returns
returns g c = record {
  sound = record {
    window = subst IsWindow c.window.ensures.value c.window.ensures.within;
    modes = modes_in_range c.args.end.now.spool.files.items;
    limit = record { some = c.args.end.now.spool.limit.some; fits = c.args.end.now.spool.limit.fits };
    names = subst (All HasNames) c.pending.ensures.jobs c.pending.ensures.names;
    holds_none = none_again c.args.end.now.spool.partials;
  };
  of_bytes = record {
    name = name_bytes c.args.end.now.name (subst IsName c.as_bytes.ensures.value c.as_bytes.ensures.name);
    files = stored_bytes c.args.end.now.spool.files.items;
    size_code = c.args.end.now.announce.size_code.below;
  };
}
