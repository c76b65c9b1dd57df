use Rattle.uug_session.proofs.InRangeLemmas.{end_begins, end_emits, end_stays, first_words_can}
use Rattle.uug_session.proofs.end_laws.what_an_end_emits_can_be_written.Goals as goal

pub returns : goal.returns
returns c = record {
  first = λ id own number talk h. (end_begins id own number talk h, first_words_can id own number talk);
  stays = end_stays;
  emitted = end_emits;
}
