use Rattle.std.proofs.Common.{sym, ap, ◌∙◌, Ok, take, length, refl}
use Rattle.std.proofs.lemmas.List.{take_at}
use Rattle.uug_talk.proofs.NameLemmas.{name_read-of}
use Rattle.uug_talk.proofs.name.Name.new.Goals as goal

pub returns-clause-exact : goal.returns-clause-exact
returns-clause-exact c =
    let bytes = c.args.bytes.now in
    ap Ok (ap (take (length bytes)) c.padded.ensures ∙ take_at bytes _ (length bytes) refl)
    ∙ sym (name_read-of bytes (c.is_name.ensures.0 c.if-not-is_name.false))
