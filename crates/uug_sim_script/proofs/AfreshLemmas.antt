-- What a script says begins afresh.
use Rattle.std.proofs.Common.{◌≡◌, ◌==◌, ℕ, Bool, true, false, if◌then◌else◌, List, [], length, Option, Some, None, Result, Ok, Err, IfOk, refl, subst}
use Rattle.uug_link.specs.Announced.{quiet_as, short_as}
use Rattle.uug_conversation.specs.Jobs.{Lists, at_start, pending, added as job_added}
use Rattle.uug_conversation.specs.declared.job.Job.{Job}
use Rattle.uug_conversation.specs.declared.queue.TheConstants.{JOBS_MAX}
use Rattle.uug_conversation.specs.declared.side.Side.TheVariants.{Caller, Called}
use Rattle.uug_sim_script.specs.declared.fault.ScriptFault.{ScriptFault}
use Rattle.uug_sim_script.specs.declared.script.Script.{Script}
use Rattle.uug_talk.specs.Chained.{◌>>=◌}
use Rattle.uug_sim_script.specs.IsScript.{LinesAdd, no_line, line_more, IsScript, BeginsAfresh, EndBegins}
use Rattle.uug_conversation.specs.Partial.{Partial}
use Rattle.uug_sim_script.specs.Meaning.{EndMeaning, place, file, job, deny, later, immovable, number, quiet, short, lenient, digest, resume, limit, LineMeaning, nothing, of_end, event, flow}
use Rattle.uug_sim_script.specs.Script.{Place, EndSaid, Said, nothing_said, numbered, placed, quieted, shortened, made_lenient, made_limited, made_resuming, made_telling, place_at, end_added, added, with_caller, with_called, EndSays, ScriptSays, are_suited, end_completed}
use Rattle.uug_sim_script.specs.ScriptOf.{script_said}
use Rattle.uug_sim_script.proofs.WordTableLemmas.{bind_some}

-- nothing was skipped, struck, failed or stored
record Fresh (end : EndSaid) : Type 0 where
  passed : end.queue.passed ≡ []
  struck : end.queue.struck ≡ []
  failed : end.queue.failed ≡ []
  stored : end.held.stored ≡ []

record BothFresh (said : Said) : Type 0 where
  caller : Fresh said.caller
  called : Fresh said.called

fresh_as : (x after : EndSaid) → Fresh x → Some x ≡ Some after → Fresh after
fresh_as x after h e = let same : x ≡ after = cc in subst Fresh same h

placed_fresh : (p : Place) (o : Option Place) (before after : EndSaid) → Fresh before → placed p o before ≡ Some after → Fresh after
placed_fresh p None before after h e = fresh_as (record before { place = Some p }) after (record { passed = h.passed; struck = h.struck; failed = h.failed; stored = h.stored }) e
placed_fresh p (Some earlier) before after h e = absurd cc

numbered_fresh : (n : ℕ) (o : Option ℕ) (before after : EndSaid) → Fresh before → numbered n o before ≡ Some after → Fresh after
numbered_fresh n None before after h e = fresh_as (record before { number = Some n }) after (record { passed = h.passed; struck = h.struck; failed = h.failed; stored = h.stored }) e
numbered_fresh n (Some earlier) before after h e = absurd cc

quieted_fresh : (b : Bool) (before after : EndSaid) → Fresh before → quieted b before ≡ Some after → Fresh after
quieted_fresh true before after h e = absurd cc
quieted_fresh false before after h e = fresh_as (record before { quiet = true }) after (record { passed = h.passed; struck = h.struck; failed = h.failed; stored = h.stored }) e

shortened_fresh : (b : Bool) (before after : EndSaid) → Fresh before → shortened b before ≡ Some after → Fresh after
shortened_fresh true before after h e = absurd cc
shortened_fresh false before after h e = fresh_as (record before { short = true }) after (record { passed = h.passed; struck = h.struck; failed = h.failed; stored = h.stored }) e

lenient_fresh : (b : Bool) (before after : EndSaid) → Fresh before → made_lenient b before ≡ Some after → Fresh after
lenient_fresh true before after h e = absurd cc
lenient_fresh false before after h e = fresh_as (record before { held = record before.held { lenient = true } }) after (record { passed = h.passed; struck = h.struck; failed = h.failed; stored = h.stored }) e

telling_fresh : (b : Bool) (before after : EndSaid) → Fresh before → made_telling b before ≡ Some after → Fresh after
telling_fresh true before after h e = absurd cc
telling_fresh false before after h e = fresh_as (record before { held = record before.held { digests = true } }) after (record { passed = h.passed; struck = h.struck; failed = h.failed; stored = h.stored }) e

resuming_fresh : (partials : Option (List Partial)) (before after : EndSaid) → Fresh before → made_resuming partials before ≡ Some after → Fresh after
resuming_fresh (Some ps) before after h e = absurd cc
resuming_fresh None before after h e = fresh_as (record before { held = record before.held { digests = true; partials = Some [] } }) after (record { passed = h.passed; struck = h.struck; failed = h.failed; stored = h.stored }) e

limited_fresh : (n : ℕ) (b : Bool) (before after : EndSaid) → Fresh before → made_limited n b before ≡ Some after → Fresh after
limited_fresh n true before after h e = absurd cc
limited_fresh n false before after h e = fresh_as (record before { held = record before.held { limit = n }; limited = true }) after (record { passed = h.passed; struck = h.struck; failed = h.failed; stored = h.stored }) e

end_fresh : (m : EndMeaning) (before after : EndSaid) → Fresh before → end_added m before ≡ Some after → Fresh after
end_fresh (place name a) before after h e = placed_fresh (place_at name a) before.place before after h e
end_fresh (file f) before after h e = fresh_as _ after (record { passed = h.passed; struck = h.struck; failed = h.failed; stored = h.stored }) e
end_fresh (job j) before after h e = by_room (length (pending before.queue) == JOBS_MAX) e where
  by_room : (b : Bool) → (if b then None else Some (record before { queue = job_added j before.queue })) ≡ Some after → Fresh after
  by_room true f = absurd cc
  by_room false f = fresh_as _ after (record { passed = h.passed; struck = h.struck; failed = h.failed; stored = h.stored }) f
end_fresh (deny name) before after h e = fresh_as _ after (record { passed = h.passed; struck = h.struck; failed = h.failed; stored = h.stored }) e
end_fresh (later name) before after h e = fresh_as _ after (record { passed = h.passed; struck = h.struck; failed = h.failed; stored = h.stored }) e
end_fresh (immovable name) before after h e = fresh_as _ after (record { passed = h.passed; struck = h.struck; failed = h.failed; stored = h.stored }) e
end_fresh (number n) before after h e = numbered_fresh n before.number before after h e
end_fresh quiet before after h e = quieted_fresh before.quiet before after h e
end_fresh short before after h e = shortened_fresh before.short before after h e
end_fresh lenient before after h e = lenient_fresh before.held.lenient before after h e
end_fresh digest before after h e = telling_fresh before.held.digests before after h e
end_fresh resume before after h e = resuming_fresh before.held.partials before after h e
end_fresh (limit n) before after h e = limited_fresh n before.limited before after h e

both_as : (x after : Said) → BothFresh x → Some x ≡ Some after → BothFresh after
both_as x after h e = let same : x ≡ after = cc in subst BothFresh same h

added_fresh : (m : LineMeaning) (before after : Said) → BothFresh before → added m before ≡ Some after → BothFresh after
added_fresh nothing before after h e = both_as before after h e
added_fresh (of_end Caller m) before after h e =
    let end = bind_some (end_added m before.caller) (λ end. Some (with_caller before end)) after e in
    both_as (with_caller before end.0) after (record { caller = end_fresh m before.caller end.0 h.caller end.1; called = h.called }) end.2
added_fresh (of_end Called m) before after h e =
    let end = bind_some (end_added m before.called) (λ end. Some (with_called before end)) after e in
    both_as (with_called before end.0) after (record { caller = h.caller; called = end_fresh m before.called end.0 h.called end.1 }) end.2
added_fresh (event x) before after h e = both_as _ after (record { caller = h.caller; called = h.called }) e
added_fresh (flow n) before after h e = both_as _ after (record { caller = h.caller; called = h.called }) e

lines_fresh : (ls : List (List ℕ)) (before after : Said) → LinesAdd ls before after → BothFresh before → BothFresh after
lines_fresh ls before after no_line h = h
lines_fresh ls before after (line_more {more = more} {between = between} l t) h = lines_fresh more between after t (added_fresh l.meaning before between h l.adds)

lists_fresh : (passed ahead struck failed : List Job) → passed ≡ [] → struck ≡ [] → failed ≡ []
    → ◌≡◌ {A = Lists} (record { passed = passed; ahead = ahead; struck = struck; failed = failed }) (at_start ahead [] [])
lists_fresh passed ahead struck failed p s f = rw (p, s, f) refl

end_begins : (o : Option Place) (end : EndSaid) (says : EndSays) → Fresh end → end_completed o end ≡ Some says → EndBegins says
end_begins None end says h e = absurd cc
end_begins (Some p) end says h e =
    let same : ◌≡◌ {A = EndSays} (record { name = p.name; announced = short_as end.short (quiet_as end.quiet p.announced); queue = end.queue; held = end.held; number = end.number }) says = cc in
    subst EndBegins same
    (record { jobs = lists_fresh end.queue.passed end.queue.ahead end.queue.struck end.queue.failed h.passed h.struck h.failed; stored = h.stored })

is_suited : (suited : Bool) (found script : ScriptSays) → (if suited then Some found else None) ≡ Some script → found ≡ script
is_suited true found script e = cc
is_suited false found script e = absurd cc

script_begins : (text : List ℕ) (script : ScriptSays) → IsScript text script → BeginsAfresh script
script_begins text script h =
    let both = lines_fresh _ nothing_said h.said h.taken
    (record { caller = record { passed = refl; struck = refl; failed = refl; stored = refl }; called = record { passed = refl; struck = refl; failed = refl; stored = refl } }) in
    let a = bind_some (end_completed h.said.caller.place h.said.caller)
    (λ caller. end_completed h.said.called.place h.said.called >>= (λ called. if are_suited caller called then Some (record { caller = caller; called = called; events = h.said.events }) else None)) script h.complete in
    let b = bind_some (end_completed h.said.called.place h.said.called)
    (λ called. if are_suited a.0 called then Some (record { caller = a.0; called = called; events = h.said.events }) else None) script a.2 in
    let same : ◌≡◌ {A = ScriptSays} (record { caller = a.0; called = b.0; events = h.said.events }) script =
    is_suited (are_suited a.0 b.0) (record { caller = a.0; called = b.0; events = h.said.events }) script b.2 in
    subst BeginsAfresh same (record {
      caller = end_begins h.said.caller.place h.said.caller a.0 both.caller a.1;
      called = end_begins h.said.called.place h.said.called b.0 both.called b.1;
    })

pub found_begins : {A : Type 0} (text : List ℕ) (r : Result (Script A) ScriptFault) → IfOk r (λ s. IsScript text (script_said s))
    → IfOk r (λ s. BeginsAfresh (script_said s))
found_begins text (Ok s) h = script_begins text (script_said s) h
found_begins text (Err fault) h = tt
