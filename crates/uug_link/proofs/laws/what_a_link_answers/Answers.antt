use Rattle.uug_link.proofs.OutcomeLemmas.{answers_of, moves_of, firsts_of, halted_stays, begin_phase, send_phase, close_phase}
use Rattle.uug_link.proofs.TermsLemmas.{own_stays, size_stays, window_stays}
use Rattle.uug_link.proofs.laws.what_a_link_answers.Goals as goal

pub returns : goal.returns
returns c = record {
  answers = answers_of;
  phases = moves_of;
  begins = begin_phase;
  sends = send_phase;
  closes = close_phase;
  ended = halted_stays;
  firsts = firsts_of;
  own_stays = own_stays;
  size_stays = size_stays;
  window_stays = window_stays;
}
