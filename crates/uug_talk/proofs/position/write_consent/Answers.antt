use Rattle.std.proofs.Common.{◌∙◌, ap, subst, sym, arith}
use Rattle.uug_talk.proofs.PositionLemmas.{consent_command, consent_reads, consent_tells}
use Rattle.uug_talk.specs.Positions.{position_told}
use Rattle.uug_talk.specs.Answer.{ReadsAnswer}
use Rattle.uug_talk.specs.Chunks.{IsCommandText}
use Rattle.uug_talk.specs.declared.answer.Answer.TheVariants.{SendYes}
use Rattle.uug_talk.proofs.position.write_consent.Goals as goal

pub returns-clause-answer : goal.returns-clause-answer
returns-clause-answer c =
    subst (λ t. ReadsAnswer t SendYes) (sym c.spell_consent.ensures.text) (consent_reads c.args.position)

pub returns-clause-told : goal.returns-clause-told
returns-clause-told c =
    ap position_told c.spell_consent.ensures.text ∙ consent_tells c.args.position (omega (arith, c.spell_consent.ensures.fits))

pub returns-clause-command : goal.returns-clause-command
returns-clause-command c = subst IsCommandText (sym c.spell_consent.ensures.text) (consent_command c.args.position)
