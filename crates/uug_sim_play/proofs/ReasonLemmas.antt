-- The lines of both ends' jobs that are not done, told from a report.
use Rattle.std.proofs.Common.{◌≡◌, ℕ, List, ◌++◌, ap, ◌∙◌, append_assoc}
use Rattle.uug_conversation.specs.MemoryHoldings.{MemoryHoldings}
use Rattle.uug_conversation.specs.declared.side.Side.TheVariants.{Caller, Called}
use Rattle.uug_line.specs.Belongings.{Belongings}
use Rattle.uug_conversation.specs.Sides.{AtBoth}
use Rattle.uug_line.specs.Told.{EndNow, SpelledReport}
use Rattle.uug_sim_play.specs.Reasons.{end_reasons, given_by, holdings_in, reasons_text}

abbrev of_both : (a b : Belongings) (n m : EndNow) (s t : MemoryHoldings) → List ℕ
of_both a b n m s t =
    end_reasons Caller a.lists n (given_by s) (given_by t) ++ end_reasons Called b.lists m (given_by t) (given_by s)

-- each part of what is told comes from the report
pub lines_are : (told : SpelledReport) (spools : AtBoth MemoryHoldings) (old first all : List ℕ) (a b : Belongings) (n m : EndNow)
    (s t : MemoryHoldings) → a ≡ told.belongings.at_caller → b ≡ told.belongings.at_called → n ≡ told.ends.at_caller →
    m ≡ told.ends.at_called → s ≡ spools.at_caller → t ≡ spools.at_called →
    first ≡ old ++ end_reasons Caller a.lists n (given_by s) (given_by t) →
    all ≡ first ++ end_reasons Called b.lists m (given_by t) (given_by s) →
    all ≡ old ++ reasons_text told (holdings_in spools)
lines_are told spools old first all a b n m s t ea eb en em es et f e =
    let a' = told.belongings.at_caller in
    let b' = told.belongings.at_called in
    let n' = told.ends.at_caller in
    let m' = told.ends.at_called in
    let s' = spools.at_caller in
    e ∙ ap (λ x. x ++ end_reasons Called b.lists m (given_by t) (given_by s)) f
    ∙ append_assoc old (end_reasons Caller a.lists n (given_by s) (given_by t))
    (end_reasons Called b.lists m (given_by t) (given_by s))
    ∙ ap (λ (x : Belongings). old ++ of_both x b n m s t) ea
    ∙ ap (λ (x : Belongings). old ++ of_both a' x n m s t) eb
    ∙ ap (λ (x : EndNow). old ++ of_both a' b' x m s t) en
    ∙ ap (λ (x : EndNow). old ++ of_both a' b' n' x s t) em
    ∙ ap (λ (x : MemoryHoldings). old ++ of_both a' b' n' m' x t) es
    ∙ ap (λ (x : MemoryHoldings). old ++ of_both a' b' n' m' s' x) et
