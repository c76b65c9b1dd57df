use Rattle.std.proofs.Common.{◌∙◌, [], ◌∷◌, ◌++◌, sym, ap, arith}
use Rattle.uug_talk.specs.Call.{number_word}
use Rattle.uug_talk.proofs.CallLemmas.{call_without_number, call_with_number, hail_with_number}
use Rattle.uug_talk.proofs.call.write_call.Goals as goal

pub returns-in-Some-clause-read_back : goal.returns-in-Some-clause-read_back
returns-in-Some-clause-read_back c =
    let name = c.as_bytes.result.now in
    let spelled =
    c.push_number.ensures.items
    ∙ ap (λ z. z ++ 32 ∷ number_word c.in-Some.number) (c.push_all.ensures ∙ ap (λ z. z ++ name) (c.push.ensures.items ∙ ap (λ z. z ++ 83 ∷ []) c.new-text.ensures)) in
    call_with_number c.push_number.new.text.items name c.in-Some.number c.as_bytes.ensures.name (omega (arith, c.push_number.ensures.within)) spelled
    ∙ sym c.in-Some.is

pub returns-in-Some-clause-hail : goal.returns-in-Some-clause-hail
returns-in-Some-clause-hail c =
    let name = c.as_bytes.result.now in
    let spelled =
    c.push_number.ensures.items
    ∙ ap (λ z. z ++ 32 ∷ number_word c.in-Some.number) (c.push_all.ensures ∙ ap (λ z. z ++ name) (c.push.ensures.items ∙ ap (λ z. z ++ 83 ∷ []) c.new-text.ensures)) in
    hail_with_number c.push_number.new.text.items name c.in-Some.number c.as_bytes.ensures.name (omega (arith, c.push_number.ensures.within)) spelled

pub returns-in_default-clause-read_back : goal.returns-in_default-clause-read_back
returns-in_default-clause-read_back c =
    let name = c.as_bytes.result.now in
    let spelled = c.push_all.ensures ∙ ap (λ z. z ++ name) (c.push.ensures.items ∙ ap (λ z. z ++ 83 ∷ []) c.new-text.ensures) in
    call_without_number c.push_all.new.text.items name c.as_bytes.ensures.name spelled
    ∙ sym c.in_default.is
