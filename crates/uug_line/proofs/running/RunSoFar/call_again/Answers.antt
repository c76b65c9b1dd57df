use Rattle.uug_session.specs.EndStep.{line_lost}
use Rattle.uug_line.specs.LineEndValue.{BeginsAgain, IsCalled, LineEndValue, live_end_value, told_of}
use Rattle.uug_line.specs.RunValue.{run_value}
use Rattle.uug_conversation.specs.Sides.{AtBoth, at}
use Rattle.uug_line.proofs.RunLemmas.{one_more_shown}
use Rattle.uug_line.proofs.SideLemmas.{each}
use Rattle.uug_line.proofs.running.RunSoFar.call_again.Goals as goal

pub returns : goal.returns
returns g c =
    let old = run_value c.args.self.now in
    let caller = live_end_value c.hang_up.new.self in
    let called = live_end_value c.hang_up-2.new.self in
    let lost : AtBoth LineEndValue = record { at_caller = caller; at_called = called } in
    let new : AtBoth LineEndValue = record {
      at_caller = live_end_value c.call_again.new.self;
      at_called = live_end_value c.call_again-2.new.self;
    } in
    record {
      lost = lost;
      hangs_up = each (λ side. IsCalled line_lost (at side old.ends) (at side lost)) c.in_ok-hang_up.ensures c.in_ok-hang_up-2.ensures;
      begins = each (λ side. BeginsAgain (at side lost) (at side new)) c.in_ok-caller.ensures.begun c.in_ok-called.ensures.begun;
      past = one_more_shown c.args.self.now.past.items c.push.new.self.items c.in_ok-caller.caller c.in_ok-called.called
          (told_of caller) (told_of called) c.in_ok-push.ensures.items c.in_ok-caller.ensures.report c.in_ok-called.ensures.report;
    }
