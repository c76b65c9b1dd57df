-- What the lines of a script say together (this project's profile).
use Rattle.std.specs.Prelude.{◌==◌, ◌&&◌, ℕ, zero, suc, List, [], ◌∷◌, ◌++◌, length, Bool, true, false, Option, Some, None, if◌then◌else◌}
use Rattle.uug_link.specs.Announced.{Announced, quiet_as, short_as}
use Rattle.uug_conversation.specs.Jobs.{Lists, at_start, pending, added as job_added}
use Rattle.uug_conversation.specs.MemoryHoldings.{MemoryHoldings, gives_within, no_holdings}
use Rattle.uug_conversation.specs.declared.queue.TheConstants.{JOBS_MAX}
use Rattle.uug_line.specs.declared.event.Event.{Event}
use Rattle.uug_line.specs.declared.event.Event.TheVariants.{Pass}
use Rattle.uug_sim_script.specs.declared.line.TheConstants.{BYTES_MAX}
use Rattle.uug_conversation.specs.declared.side.Side.TheVariants.{Caller, Called}
use Rattle.uug_talk.specs.Chained.{◌>>=◌}
use Rattle.uug_conversation.specs.Partial.{Partial}
use Rattle.uug_sim_script.specs.Meaning.{EndMeaning, place, file, job, deny, later, immovable, number, quiet, short, lenient, digest, resume, limit, LineMeaning, nothing, of_end, event, flow}

-- an end's name, and what it announces; that it is quiet on repeats, and that its commands are short, is said apart
pub record Place : Type 0 where
  pub name : List ℕ
  pub announced : Announced

-- what was said of an end so far
pub record EndSaid : Type 0 where
  pub place : Option Place
  -- its jobs, all of them pending
  pub queue : Lists
  -- what its spool has
  pub held : MemoryHoldings
  -- the number of its conversations
  pub number : Option ℕ
  -- whether it is quiet on repeats
  pub quiet : Bool
  -- whether its commands are short
  pub short : Bool
  -- whether the limit of its files was said
  pub limited : Bool

pub record Said : Type 0 where
  pub caller : EndSaid
  pub called : EndSaid
  pub events : List Event

abbrev pub nothing_of_end : EndSaid
nothing_of_end = record { place = None; queue = at_start [] [] []; held = no_holdings; number = None; quiet = false; short = false; limited = false }

abbrev pub nothing_said : Said
nothing_said = record { caller = nothing_of_end; called = nothing_of_end; events = [] }

-- an end is placed once
abbrev pub placed : Place → Option Place → EndSaid → Option EndSaid
placed p None end = Some (record end { place = Some p })
placed p (Some earlier) end = None

-- its number is said once
abbrev pub numbered : ℕ → Option ℕ → EndSaid → Option EndSaid
numbered n None end = Some (record end { number = Some n })
numbered n (Some earlier) end = None

-- that it is quiet on repeats is said once
abbrev pub quieted : Bool → EndSaid → Option EndSaid
quieted true end = None
quieted false end = Some (record end { quiet = true })

-- that its commands are short is said once
abbrev pub shortened : Bool → EndSaid → Option EndSaid
shortened true end = None
shortened false end = Some (record end { short = true })

-- that it is lenient is said once; its spool keeps it
abbrev pub made_lenient : Bool → EndSaid → Option EndSaid
made_lenient true end = None
made_lenient false end = Some (record end { held = record end.held { lenient = true } })

-- that it tells digests is said once; its spool keeps it
abbrev pub made_telling : Bool → EndSaid → Option EndSaid
made_telling true end = None
made_telling false end = Some (record end { held = record end.held { digests = true } })

-- that it resumes is said once; its spool keeps it, and that it tells digests
abbrev pub made_resuming : Option (List Partial) → EndSaid → Option EndSaid
made_resuming (Some ps) end = None
made_resuming None end = Some (record end { held = record end.held { digests = true; partials = Some [] } })

-- the limit of its files is said once; its spool keeps it
abbrev pub made_limited : ℕ → Bool → EndSaid → Option EndSaid
made_limited n true end = None
made_limited n false end = Some (record end { held = record end.held { limit = n }; limited = true })

abbrev pub place_at : List ℕ → Announced → Place
place_at name a = record { name = name; announced = a }

-- a line more on an end. A job is bad where the most are pending that may be
abbrev pub end_added : EndMeaning → EndSaid → Option EndSaid
end_added (place name a) end = placed (place_at name a) end.place end
end_added (file f) end = Some (record end { held = record end.held { files = end.held.files ++ f ∷ [] } })
end_added (job j) end =
    if length (pending end.queue) == JOBS_MAX then None else Some (record end { queue = job_added j end.queue })
end_added (deny name) end = Some (record end { held = record end.held { denied = end.held.denied ++ name ∷ [] } })
end_added (later name) end = Some (record end { held = record end.held { postponed = end.held.postponed ++ name ∷ [] } })
end_added (immovable name) end = Some (record end { held = record end.held { immovable = end.held.immovable ++ name ∷ [] } })
end_added (number n) end = numbered n end.number end
end_added quiet end = quieted end.quiet end
end_added short end = shortened end.short end
end_added lenient end = made_lenient end.held.lenient end
end_added digest end = made_telling end.held.digests end
end_added resume end = made_resuming end.held.partials end
end_added (limit n) end = made_limited n end.limited end

-- all bytes for the called end come to it, and then all for the caller, so many times
abbrev pub flow_events : ℕ → List Event
flow_events zero = []
flow_events (suc n) = Pass Called BYTES_MAX ∷ Pass Caller BYTES_MAX ∷ flow_events n

abbrev pub with_caller : Said → EndSaid → Said
with_caller s end = record s { caller = end }

abbrev pub with_called : Said → EndSaid → Said
with_called s end = record s { called = end }

-- a line more, or none where the line is bad behind those before it
abbrev pub added : LineMeaning → Said → Option Said
added nothing s = Some s
added (of_end Caller m) s = end_added m s.caller >>= (λ end. Some (with_caller s end))
added (of_end Called m) s = end_added m s.called >>= (λ end. Some (with_called s end))
added (event e) s = Some (record s { events = s.events ++ e ∷ [] })
added (flow n) s = Some (record s { events = s.events ++ flow_events n })

-- what an end is set up with
pub record EndSays : Type 0 where
  pub name : List ℕ
  pub announced : Announced
  pub queue : Lists
  pub held : MemoryHoldings
  pub number : Option ℕ

-- what a script says: the two ends, and what happens
pub record ScriptSays : Type 0 where
  pub caller : EndSays
  pub called : EndSays
  pub events : List Event

-- no file that one end gives is too large for the other
abbrev pub are_suited : (caller called : EndSays) → Bool
are_suited caller called = gives_within called.held.limit caller.held && gives_within caller.held.limit called.held

-- the end has to be placed
abbrev pub end_completed : Option Place → EndSaid → Option EndSays
end_completed None end = None
end_completed (Some p) end =
    Some (record { name = p.name; announced = short_as end.short (quiet_as end.quiet p.announced); queue = end.queue; held = end.held; number = end.number })

abbrev pub completed : Said → Option ScriptSays
completed s =
    end_completed s.caller.place s.caller >>= (λ caller. end_completed s.called.place s.called >>= (λ called.
    if are_suited caller called then Some (record { caller = caller; called = called; events = s.events }) else None))
