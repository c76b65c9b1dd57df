use Rattle.std.proofs.Common.{drop, ap, ◌∙◌, arith}
use Rattle.std.proofs.lemmas.List.{take_rest}
use Rattle.std.proofs.lemmas.Bool.Decides.{nat_tests}
use Rattle.uug_talk.proofs.WordLemmas.{words_of_spaces, words_first}
use Rattle.uug_talk.proofs.words.split_word.Goals as goal

pub returns-then-is_empty : goal.returns-then-is_empty
returns-then-is_empty c =
    let text = c.args.text.now in
    let e = take_rest text c.leading_spaces.result ∙ ap (λ n. drop n text) c.leading_spaces.ensures.value in
    words_of_spaces text _ e (grind (arith, nat_tests))

pub returns : goal.returns
returns c =
    let text = c.args.text.now in
    let e = take_rest text c.leading_spaces.result ∙ ap (λ n. drop n text) c.leading_spaces.ensures.value in
    let front = c.split_at.ensures.front in
    let back = c.split_at.ensures.back in
    words_first text _ c.word_len.result e (grind (arith, nat_tests)) c.word_len.ensures.value
    ∙ cc
