use Rattle.std.proofs.Common.{◌∙◌, ◌∷◌, ◌++◌, ap, subst, sym, arith}
use Rattle.uug_talk.proofs.NamedLemmas.{IsLine, named_back, named_line}
use Rattle.uug_talk.proofs.TellingLemmas.{IsSized}
use Rattle.uug_talk.specs.Digests.{digest_text}
use Rattle.uug_talk.specs.Named.{read_named}
use Rattle.uug_talk.specs.Name.{IsName}
use Rattle.uug_talk.proofs.named_digest.NamedDigest.line.Goals as goal

pub returns-clause-back : goal.returns-clause-back
returns-clause-back c =
    let n = c.args.self.now in
    let is = c.with_digest.ensures.text ∙ ap (λ z. z ++ 32 ∷ digest_text n.told) c.as_bytes.ensures.value in
    let sized : IsSized n.told = record { size = omega (arith, c.with_digest.ensures.size); bytes = c.with_digest.ensures.bytes; length = c.with_digest.ensures.length } in
    ap read_named is ∙ named_back n (subst IsName c.as_bytes.ensures.value c.as_bytes.ensures.name) sized

pub returns-clause-line : goal.returns-clause-line
returns-clause-line c =
    let n = c.args.self.now in
    let is = c.with_digest.ensures.text ∙ ap (λ z. z ++ 32 ∷ digest_text n.told) c.as_bytes.ensures.value in
    let sized : IsSized n.told = record { size = omega (arith, c.with_digest.ensures.size); bytes = c.with_digest.ensures.bytes; length = c.with_digest.ensures.length } in
    subst IsLine (sym is) (named_line n (subst IsName c.as_bytes.ensures.value c.as_bytes.ensures.name) sized)
