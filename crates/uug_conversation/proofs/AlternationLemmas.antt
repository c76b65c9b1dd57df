-- Whose turn it is, turn by turn.
use Rattle.std.proofs.Common.{◌≡◌, ℕ, Bool, true, false, List, [], ◌∷◌, Option, Some, None, inl, inr, refl, sym, subst, ◌∙◌}
use Rattle.uug_talk.specs.declared.file_digest.FileDigest.{FileDigest}
use Rattle.uug_conversation.specs.declared.job.Job.{Job}
use Rattle.uug_conversation.specs.declared.job.Job.TheVariants as job
use Rattle.uug_conversation.specs.declared.verdict.Verdict.{Verdict}
use Rattle.uug_conversation.specs.declared.verdict.Verdict.TheVariants.{Yes, Never, Later}
use Rattle.uug_talk.specs.declared.answer.Answer.TheVariants as answer
use Rattle.uug_talk.specs.declared.order.Order.{Order}
use Rattle.uug_talk.specs.declared.order.Order.TheVariants as order
use Rattle.uug_conversation.specs.Alternation.{GoesOn, with_file, after_done, after_never, after_no, IsFollowedBy, Alternate, BeginsWithCommand}
use Rattle.uug_conversation.specs.Choice.{choice, fetched_by}
use Rattle.uug_conversation.specs.Conversation.{exchanges, last_turns, after_hang_up, hang_up, conversation}
use Rattle.uug_conversation.specs.Exchange.{send_exchange, request_exchange}
use Rattle.uug_conversation.specs.Holdings.{File, Holdings, to_give}
use Rattle.uug_conversation.specs.Jobs.{Move, pass, strike, fail}
use Rattle.uug_conversation.specs.Party.{Party}
use Rattle.uug_conversation.specs.Told.{told_of}
use Rattle.uug_conversation.specs.Resuming.{front_held}
use Rattle.uug_conversation.specs.Turns.{other, Said, the_order, the_answer, Turn, plain, moving}
use Rattle.uug_conversation.specs.declared.side.Side.{Side}
use Rattle.uug_conversation.specs.declared.side.Side.TheVariants.{Caller, Called}

-- turns in which a master begins with a command, and then speakers alternate
record AreMasters (master : Side) (ts : List Turn) : Type 0 where
  begins : BeginsWithCommand master ts
  alternate : Alternate ts

-- a turn of the slave before such turns
by_other : (t : Turn) (master : Side) (ts : List Turn) → master ≡ other t.speaker → BeginsWithCommand master ts → IsFollowedBy t ts
by_other t master [] e h = tt
by_other t master (next ∷ ts) e h = inl (h.0 ∙ e)

-- a turn of the master itself, behind which a command may stand
by_same : (t : Turn) (ts : List Turn) → ((o : Order) (told : Option FileDigest) → GoesOn t.said (the_order o told)) → BeginsWithCommand t.speaker ts → IsFollowedBy t ts
by_same t [] g h = tt
by_same t (next ∷ ts) g h = inr (h.0, subst (λ (s : Said). GoesOn t.said s) (sym h.3) (g h.1 h.2))

record AreSides (master slave : Side) : Type 0 where
  to_slave : slave ≡ other master
  to_master : master ≡ other slave

send_alternates : (master slave : Side) (digests : Bool) (source target user : List ℕ) (temp : Option (List ℕ))
    (file : Option File) (name front : List ℕ) (verdict : Verdict) (immovable : Bool) (next : List Move) (rest : List Turn)
    → AreSides master slave → AreMasters master rest
    → AreMasters master (send_exchange master slave digests source target user temp file name front verdict immovable next rest)
send_alternates master slave digests source target user temp None name front verdict immovable next rest s h = h
send_alternates master slave digests source target user temp (Some file) name front Never immovable next rest s h = record {
  begins = (refl, order.Send source target user temp file.mode, told_of digests (Some file), refl);
  alternate = (inl s.to_slave, (by_other (moving slave (the_answer answer.SendNever) (fail ∷ next)) master rest s.to_master h.begins, h.alternate));
}
send_alternates master slave digests source target user temp (Some file) name front Later immovable next rest s h = record {
  begins = (refl, order.Send source target user temp file.mode, told_of digests (Some file), refl);
  alternate = (inl s.to_slave, (by_other (moving slave (the_answer answer.SendLater) (pass ∷ next)) master rest s.to_master h.begins, h.alternate));
}
send_alternates master slave digests source target user temp (Some file) name front Yes false next rest s h = record {
  begins = (refl, order.Send source target user temp file.mode, told_of digests (Some file), refl);
  alternate = (inl s.to_slave, (inl s.to_master, (inl s.to_slave, (by_other (moving slave (the_answer answer.DoneYes) (strike ∷ next)) master rest s.to_master h.begins, h.alternate))));
}
send_alternates master slave digests source target user temp (Some file) name front Yes true next rest s h = record {
  begins = (refl, order.Send source target user temp file.mode, told_of digests (Some file), refl);
  alternate = (inl s.to_slave, (inl s.to_master, (inl s.to_slave, (by_other (moving slave (the_answer answer.DoneNever) (fail ∷ next)) master rest s.to_master h.begins, h.alternate))));
}

request_alternates : (master slave : Side) (digests : Bool) (source target user : List ℕ) (file : Option File) (delayed : Bool) (name : List ℕ) (immovable : Bool)
    (next : List Move) (rest : List Turn)
    → AreSides master slave → AreMasters master rest
    → AreMasters master (request_exchange master slave digests source target user file delayed name immovable next rest)
request_alternates master slave digests source target user None false name immovable next rest s h = record {
  begins = (refl, order.Request source target user, None, refl);
  alternate = (inl s.to_slave, (by_other (moving slave (the_answer answer.GiveNever) (fail ∷ next)) master rest s.to_master h.begins, h.alternate));
}
request_alternates master slave digests source target user None true name immovable next rest s h = record {
  begins = (refl, order.Request source target user, None, refl);
  alternate = (inl s.to_slave, (by_other (moving slave (the_answer answer.GiveLater) (pass ∷ next)) master rest s.to_master h.begins, h.alternate));
}
request_alternates master slave digests source target user (Some file) delayed name false next rest s h = record {
  begins = (refl, order.Request source target user, None, refl);
  alternate = (inl s.to_slave, (inr (refl, with_file), (inl s.to_master, (by_same (plain master (the_answer answer.DoneYes)) rest (λ o told. after_done) h.begins, h.alternate))));
}
request_alternates master slave digests source target user (Some file) delayed name true next rest s h = record {
  begins = (refl, order.Request source target user, None, refl);
  alternate = (inl s.to_slave, (inr (refl, with_file), (inl s.to_master, (by_same (plain master (the_answer answer.DoneNever)) rest (λ o told. after_never) h.begins, h.alternate))));
}

exchanges_alternate : (master slave : Side) (own others : Holdings) (jobs : List Job) (rest : List Turn)
    → AreSides master slave → AreMasters master rest → AreMasters master (exchanges master slave own others jobs rest)
exchanges_alternate master slave own others [] rest s h = h
exchanges_alternate master slave own others (job.Send source target user temp ∷ jobs) rest s h =
    send_alternates master slave own.digests source target user temp (to_give own (fetched_by source temp)) (others.landing source target)
    (front_held others own.digests (fetched_by source temp) (to_give own (fetched_by source temp))) (others.verdict (others.landing source target))
    (others.immovable (others.landing source target)) (choice own jobs).failing (exchanges master slave own others jobs rest) s
    (exchanges_alternate master slave own others jobs rest s h)
exchanges_alternate master slave own others (job.Request source target user ∷ jobs) rest s h =
    request_alternates master slave others.digests source target user (to_give others source) (others.delayed source) (own.landing source target) (own.immovable (own.landing source target))
    (choice own jobs).failing (exchanges master slave own others jobs rest) s
    (exchanges_alternate master slave own others jobs rest s h)

last_alternate : AreMasters Called last_turns
last_alternate = record { begins = (refl, order.HangUp, None, refl); alternate = (inl refl, (inl refl, (tt, tt))) }

hang_up_alternates : (next : Option Order) (moves : List Move) (a b : Party)
    → AreMasters Caller (record { speaker = Caller; said = the_order order.HangUp None; moves = moves; keeps = [] } ∷ after_hang_up next a b)
hang_up_alternates None moves a b = record { begins = (refl, order.HangUp, None, refl); alternate = (inl refl, (inl refl, (tt, tt))) }
hang_up_alternates (Some first) moves a b =
    let h = exchanges_alternate Called Caller b.holdings a.holdings b.jobs last_turns (record { to_slave = refl; to_master = refl }) last_alternate in
    record {
      begins = (refl, order.HangUp, None, refl);
      alternate = (inl refl, (by_same (plain Called (the_answer answer.HangNo)) (exchanges Called Caller b.holdings a.holdings b.jobs last_turns) (λ o told. after_no) h.begins, h.alternate));
    }

whole : (a b : Party) → AreMasters Caller (conversation a b)
whole a b =
    exchanges_alternate Caller Called a.holdings b.holdings a.jobs (hang_up a b) (record { to_slave = refl; to_master = refl })
    (hang_up_alternates (choice b.holdings b.jobs).next (choice b.holdings b.jobs).failing a b)

pub caller_begins : (a b : Party) → BeginsWithCommand Caller (conversation a b)
caller_begins a b = (whole a b).begins

pub take_turns : (a b : Party) → Alternate (conversation a b)
take_turns a b = (whole a b).alternate
