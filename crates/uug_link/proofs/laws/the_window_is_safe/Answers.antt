use Rattle.uug_link.proofs.WindowMachineRuns.{always_counts, always_numbers, always_acks, always_number_digits, always_ack_digits}
use Rattle.uug_link.proofs.laws.the_window_is_safe.Goals as goal

pub returns : goal.returns
returns c = record {
  counts = always_counts;
  numbers = always_numbers;
  acks = always_acks;
  number_digits = always_number_digits;
  ack_digits = always_ack_digits;
}
