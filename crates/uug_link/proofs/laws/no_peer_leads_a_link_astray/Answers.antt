use Rattle.uug_link.proofs.StrayLemmas.{strikes, strays, no_number, numbers, next, window}
use Rattle.uug_link.proofs.laws.no_peer_leads_a_link_astray.Goals as goal

pub returns : goal.returns
returns c = record {
  strikes = strikes;
  strays = strays;
  no_number = no_number;
  numbers = numbers;
  next = next;
  window = window;
}
