use Rattle.std.proofs.Common.{ap, rules}
use Rattle.uug_error.proofs.ReadingLemmas.{is_all}
use Rattle.uug_error.proofs.reading.read_within.Goals as goal

pub returns-clause-whole : goal.returns-clause-whole
returns-clause-whole g c =
    is_all c.args.most c.take-front.result.limit (g.R.Read.remaining c.take-front.result.inner) (g.R.Read.remaining c.args.reader)
    c.new-bytes.result.items c.read_to_end.new.buf.items c.take-front.ensures.limit
    (ap g.R.Read.remaining c.take-front.ensures.inner) c.new-bytes.ensures.items c.in_ok-read_to_end.ensures.bytes (search rules)
