-- What an end has in its log of sessions and jobs, so that a wrong definition does not check.
use Rattle.std.proofs.Common.{◌≡◌, ◌∷◌, [], true, false, codes, Some, None, refl}
use Rattle.uug_conversation.specs.declared.side.Side.TheVariants.{Caller, Called}
use Rattle.uug_observe_log.specs.declared.transfer.Outcome.TheVariants.{Done, Never, TooLarge, Later, Differs}
use Rattle.uug_observe_log.specs.declared.transfer.Transfer.{Transfer}
use Rattle.uug_observe_log.specs.declared.transfer.Wish.{Wish}
use Rattle.uug_observe_log.specs.declared.transfer.Wish.TheVariants.{Send, Request}
use Rattle.uug_observe_log.specs.declared.way.Way.{Way}
use Rattle.uug_observe_log.specs.declared.way.Way.TheVariants.{Out, In}
use Rattle.uug_observe_log.specs.Logged.{end_text, job_entry, resumed_entry, start_entry}
use Rattle.uug_taylor_text.specs.LogLines.{called, calls, fault, receives, receives_from, sends, sends_from}

abbrev job : Way → Wish → Transfer
job way wish = record { way = way; wish = wish; source = codes "~/x"; target = codes "y" }

record AreLogged : Type 0 where
  a_call : start_entry Caller (codes "unix:line") ≡ calls (codes "unix:line")
  a_caller : start_entry Called (codes "-") ≡ called (codes "-") (codes "-")
  unseen : start_entry Caller (27 ∷ []) ≡ calls (codes "\\x1b")
  our_file : job_entry (job Out Send) Done 20 ≡ sends (codes "~/x") 20
  a_file_for_us : job_entry (job Out Request) Done 20 ≡ receives (codes "y") (Some 20)
  their_file : job_entry (job In Send) Done 20 ≡ receives (codes "y") (Some 20)
  a_file_for_them : job_entry (job In Request) Done 20 ≡ sends (codes "~/x") 20
  ours_goes_on : resumed_entry true (codes "~/x") (codes "y") (Some 60000) 30720 ≡ sends_from (codes "~/x") (Some 60000) 30720
  theirs_goes_on : resumed_entry false (codes "~/x") (codes "y") None 1 ≡ receives_from (codes "y") None 1
  refused : job_entry (job Out Send) Never 20 ≡ fault (codes "send ~/x y: refused")
  too_large : job_entry (job In Send) TooLarge 0 ≡ fault (codes "send ~/x y: refused, maybe for its size")
  put_off : job_entry (job In Request) Later 0 ≡ fault (codes "request ~/x y: put off")
  differs : job_entry (job In Send) Differs 20 ≡ fault (codes "send ~/x y: wrong digest")
  a_word : end_text (codes "hungup") [] ≡ codes "hungup"
  and_why : end_text (codes "gaveup") (codes "heard nothing") ≡ codes "gaveup: heard nothing"

logged : AreLogged
logged = record {
  a_call = refl;
  a_caller = refl;
  unseen = refl;
  our_file = refl;
  a_file_for_us = refl;
  their_file = refl;
  a_file_for_them = refl;
  ours_goes_on = refl;
  theirs_goes_on = refl;
  refused = refl;
  too_large = refl;
  put_off = refl;
  differs = refl;
  a_word = refl;
  and_why = refl;
}
