-- Own entries: by places, and those of several sessions.
use Rattle.std.proofs.Common.{◌≡◌, ℕ, zero, suc, pred, List, [], ◌∷◌, ◌++◌, Contains, Option, Some, slice_get, unwrap_or, refl, ap, subst, arith}
use Rattle.std.proofs.lemmas.Option.{none-some}
use Rattle.std.proofs.lemmas.List.Elements.{Contains-append_left, Contains-append_right}
use Rattle.uug_conversation.specs.declared.job.Job.{Job}
use Rattle.uug_conversation.specs.declared.job.Job.TheVariants as job
use Rattle.uug_conversation.specs.Choice.{fetched_by}
use Rattle.uug_conversation.specs.Holdings.{File, Kept, Holdings, to_give, kept_as}
use Rattle.uug_conversation.specs.Partial.{Partial}
use Rattle.uug_conversation.specs.Partials.{holding}
use Rattle.uug_conversation.specs.OwnEntries.{IsOfSendJob, OwnEntries, none, not_struck, sent, asked_for, giver_asked, receiver_sent, Struck, by_giver, by_receiver, Brought, brought, HasOwnEntries}

-- ---- more jobs, and sessions one after the other

pub more_jobs : (h others : Holdings) (jobs more : List Job) → ((job : Job) → Contains jobs job → Contains more job) →
    (g r : List Job) (e : List Kept) → OwnEntries h others jobs g r e → OwnEntries h others more g r e
more_jobs h others jobs more inside g r e none = none
more_jobs h others jobs more inside g r e (not_struck {g = g'} {r = r'} {e = e'} i o) = not_struck (record {
  source = i.source;
  target = i.target;
  user = i.user;
  temp = i.temp;
  file = i.file;
  is_job = inside (job.Send i.source i.target i.user i.temp) i.is_job;
  is_given = i.is_given;
  is_entry = i.is_entry;
}) (more_jobs h others jobs more inside g' r' e' o)
more_jobs h others jobs more inside g r e (sent {g = g'} {r = r'} {e = e'} p o) = sent p (more_jobs h others jobs more inside g' r' e' o)
more_jobs h others jobs more inside g r e (asked_for {g = g'} {r = r'} {e = e'} p o) = asked_for p (more_jobs h others jobs more inside g' r' e' o)
more_jobs h others jobs more inside g r e (giver_asked {g = g'} {r = r'} {e = e'} o) = giver_asked (more_jobs h others jobs more inside g' r' e' o)
more_jobs h others jobs more inside g r e (receiver_sent {g = g'} {r = r'} {e = e'} o) = receiver_sent (more_jobs h others jobs more inside g' r' e' o)

pub joined : (h others : Holdings) (jobs g r g' r' : List Job) (e e' : List Kept) → OwnEntries h others jobs g r e →
    OwnEntries h others jobs g' r' e' → OwnEntries h others jobs (g ++ g') (r ++ r') (e ++ e')
joined h others jobs g r g' r' e e' none q = q
joined h others jobs g r g' r' e e' (not_struck {g = g1} {r = r1} {e = e1} i o) q = not_struck i (joined h others jobs g1 r1 g' r' e1 e' o q)
joined h others jobs g r g' r' e e' (sent {g = g1} {r = r1} {e = e1} p o) q = sent p (joined h others jobs g1 r1 g' r' e1 e' o q)
joined h others jobs g r g' r' e e' (asked_for {g = g1} {r = r1} {e = e1} p o) q = asked_for p (joined h others jobs g1 r1 g' r' e1 e' o q)
joined h others jobs g r g' r' e e' (giver_asked {g = g1} {r = r1} {e = e1} o) q = giver_asked (joined h others jobs g1 r1 g' r' e1 e' o q)
joined h others jobs g r g' r' e e' (receiver_sent {g = g1} {r = r1} {e = e1} o) q = receiver_sent (joined h others jobs g1 r1 g' r' e1 e' o q)

-- over sessions the giver's jobs change
pub of_sessions : (h others : Holdings) (jobs jobs' g r g' r' : List Job) (e e' : List Kept) → OwnEntries h others jobs g r e →
    OwnEntries h others jobs' g' r' e' → OwnEntries h others (jobs ++ jobs') (g ++ g') (r ++ r') (e ++ e')
of_sessions h others jobs jobs' g r g' r' e e' p q =
    joined h others (jobs ++ jobs') g r g' r' e e'
    (more_jobs h others jobs (jobs ++ jobs') (λ job i. Contains-append_left jobs jobs' job i) g r e p)
    (more_jobs h others jobs' (jobs ++ jobs') (λ job i. Contains-append_right jobs jobs' job i) g' r' e' q)

-- ---- by places

-- another entry in front
behind_entry : (h others : Holdings) (g r : List Job) (k : Kept) (e : List Kept) → HasOwnEntries h others g r e → HasOwnEntries h others g r (k ∷ e)
behind_entry h others g r k e o = record {
  place = λ s. suc (o.place s);
  entry = o.entry;
  own = λ s t b c p q same. o.own s t b c p q (ap pred same);
}

abbrev Has : (h others : Holdings) → List Job → List Job → List Kept → (Struck → ℕ) → Type 0
Has h others g r e place = (s : Struck) (b : Brought) → brought others g r s ≡ Some b →
    (file : File) × (to_give h b.source ≡ Some file) × (slice_get e (place s) ≡ Some (kept_as b.target file))

abbrev Own : (others : Holdings) → List Job → List Job → (Struck → ℕ) → Type 0
Own others g r place = (s t : Struck) (b c : Brought) → brought others g r s ≡ Some b → brought others g r t ≡ Some c → place s ≡ place t → s ≡ t

-- a place behind the front
abbrev pub after_giver : Struck → Struck
after_giver (by_giver i) = by_giver (suc i)
after_giver (by_receiver i) = by_receiver i

abbrev pub after_receiver : Struck → Struck
after_receiver (by_giver i) = by_giver i
after_receiver (by_receiver i) = by_receiver (suc i)

-- a job of the giver in front that brought nothing
abbrev giver_place : (Struck → ℕ) → Struck → ℕ
giver_place place (by_giver zero) = 0
giver_place place (by_giver (suc i)) = place (by_giver i)
giver_place place (by_receiver i) = place (by_receiver i)

abbrev receiver_place : (Struck → ℕ) → Struck → ℕ
receiver_place place (by_receiver zero) = 0
receiver_place place (by_receiver (suc i)) = place (by_receiver i)
receiver_place place (by_giver i) = place (by_giver i)

giver_asked_has : (h others : Holdings) (g r : List Job) (e : List Kept) (source target user : List ℕ) (o : HasOwnEntries h others g r e) →
    Has h others (job.Request source target user ∷ g) r e (giver_place o.place)
giver_asked_has h others g r e source target user o (by_giver zero) b p = absurd (none-some b p)
giver_asked_has h others g r e source target user o (by_giver (suc i)) b p = o.entry (by_giver i) b p
giver_asked_has h others g r e source target user o (by_receiver i) b p = o.entry (by_receiver i) b p

giver_asked_own : (h others : Holdings) (g r : List Job) (e : List Kept) (source target user : List ℕ) (o : HasOwnEntries h others g r e) →
    Own others (job.Request source target user ∷ g) r (giver_place o.place)
giver_asked_own h others g r e source target user o (by_giver zero) t b c p q same = absurd (none-some b p)
giver_asked_own h others g r e source target user o (by_giver (suc i)) (by_giver zero) b c p q same = absurd (none-some c q)
giver_asked_own h others g r e source target user o (by_giver (suc i)) (by_giver (suc j)) b c p q same =
    ap after_giver (o.own (by_giver i) (by_giver j) b c p q same)
giver_asked_own h others g r e source target user o (by_giver (suc i)) (by_receiver j) b c p q same =
    ap after_giver (o.own (by_giver i) (by_receiver j) b c p q same)
giver_asked_own h others g r e source target user o (by_receiver i) (by_giver zero) b c p q same = absurd (none-some c q)
giver_asked_own h others g r e source target user o (by_receiver i) (by_giver (suc j)) b c p q same =
    ap after_giver (o.own (by_receiver i) (by_giver j) b c p q same)
giver_asked_own h others g r e source target user o (by_receiver i) (by_receiver j) b c p q same =
    ap after_giver (o.own (by_receiver i) (by_receiver j) b c p q same)

receiver_sent_has : (h others : Holdings) (g r : List Job) (e : List Kept) (source target user : List ℕ) (temp : Option (List ℕ))
    (o : HasOwnEntries h others g r e) → Has h others g (job.Send source target user temp ∷ r) e (receiver_place o.place)
receiver_sent_has h others g r e source target user temp o (by_receiver zero) b p = absurd (none-some b p)
receiver_sent_has h others g r e source target user temp o (by_receiver (suc i)) b p = o.entry (by_receiver i) b p
receiver_sent_has h others g r e source target user temp o (by_giver i) b p = o.entry (by_giver i) b p

receiver_sent_own : (h others : Holdings) (g r : List Job) (e : List Kept) (source target user : List ℕ) (temp : Option (List ℕ))
    (o : HasOwnEntries h others g r e) → Own others g (job.Send source target user temp ∷ r) (receiver_place o.place)
receiver_sent_own h others g r e source target user temp o (by_receiver zero) t b c p q same = absurd (none-some b p)
receiver_sent_own h others g r e source target user temp o (by_receiver (suc i)) (by_receiver zero) b c p q same = absurd (none-some c q)
receiver_sent_own h others g r e source target user temp o (by_receiver (suc i)) (by_receiver (suc j)) b c p q same =
    ap after_receiver (o.own (by_receiver i) (by_receiver j) b c p q same)
receiver_sent_own h others g r e source target user temp o (by_receiver (suc i)) (by_giver j) b c p q same =
    ap after_receiver (o.own (by_receiver i) (by_giver j) b c p q same)
receiver_sent_own h others g r e source target user temp o (by_giver i) (by_receiver zero) b c p q same = absurd (none-some c q)
receiver_sent_own h others g r e source target user temp o (by_giver i) (by_receiver (suc j)) b c p q same =
    ap after_receiver (o.own (by_giver i) (by_receiver j) b c p q same)
receiver_sent_own h others g r e source target user temp o (by_giver i) (by_giver j) b c p q same =
    ap after_receiver (o.own (by_giver i) (by_giver j) b c p q same)

-- a job in front whose entry stands in front
abbrev front_giver_place : (Struck → ℕ) → Struck → ℕ
front_giver_place place (by_giver zero) = 0
front_giver_place place (by_giver (suc i)) = suc (place (by_giver i))
front_giver_place place (by_receiver i) = suc (place (by_receiver i))

abbrev front_receiver_place : (Struck → ℕ) → Struck → ℕ
front_receiver_place place (by_receiver zero) = 0
front_receiver_place place (by_receiver (suc i)) = suc (place (by_receiver i))
front_receiver_place place (by_giver i) = suc (place (by_giver i))

abbrev Given : Holdings → Kept → Brought → Type 0
Given h k b = (file : File) × (to_give h b.source ≡ Some file) × (Some k ≡ Some (kept_as b.target file))

abbrev brought_as : (source target : List ℕ) → Brought
brought_as source target = record { source = source; target = target }

front_given : (h : Holdings) (source target : List ℕ) (file : File) (b : Brought) → to_give h source ≡ Some file →
    Some (brought_as source target) ≡ Some b → Given h (kept_as target file) b
front_given h source target file b given p =
    subst (Given h (kept_as target file)) (ap (λ o. unwrap_or o (brought_as source target)) p) (file, given, refl)

sent_has : (h others : Holdings) (g r : List Job) (e : List Kept) (source target user : List ℕ) (temp : Option (List ℕ)) (file : File) →
    to_give h (fetched_by source temp) ≡ Some file → (o : HasOwnEntries h others g r e) →
    Has h others (job.Send source target user temp ∷ g) r (kept_as (others.landing source target) file ∷ e) (front_giver_place o.place)
sent_has h others g r e source target user temp file given o (by_giver zero) b p = front_given h (fetched_by source temp) (others.landing source target) file b given p
sent_has h others g r e source target user temp file given o (by_giver (suc i)) b p = o.entry (by_giver i) b p
sent_has h others g r e source target user temp file given o (by_receiver i) b p = o.entry (by_receiver i) b p

sent_own : (h others : Holdings) (g r : List Job) (e : List Kept) (source target user : List ℕ) (temp : Option (List ℕ))
    (o : HasOwnEntries h others g r e) → Own others (job.Send source target user temp ∷ g) r (front_giver_place o.place)
sent_own h others g r e source target user temp o (by_giver zero) (by_giver zero) b c p q same = refl
sent_own h others g r e source target user temp o (by_giver zero) (by_giver (suc j)) b c p q same = absurd (omega (arith, same))
sent_own h others g r e source target user temp o (by_giver zero) (by_receiver j) b c p q same = absurd (omega (arith, same))
sent_own h others g r e source target user temp o (by_giver (suc i)) (by_giver zero) b c p q same = absurd (omega (arith, same))
sent_own h others g r e source target user temp o (by_giver (suc i)) (by_giver (suc j)) b c p q same =
    ap after_giver (o.own (by_giver i) (by_giver j) b c p q (ap pred same))
sent_own h others g r e source target user temp o (by_giver (suc i)) (by_receiver j) b c p q same =
    ap after_giver (o.own (by_giver i) (by_receiver j) b c p q (ap pred same))
sent_own h others g r e source target user temp o (by_receiver i) (by_giver zero) b c p q same = absurd (omega (arith, same))
sent_own h others g r e source target user temp o (by_receiver i) (by_giver (suc j)) b c p q same =
    ap after_giver (o.own (by_receiver i) (by_giver j) b c p q (ap pred same))
sent_own h others g r e source target user temp o (by_receiver i) (by_receiver j) b c p q same =
    ap after_giver (o.own (by_receiver i) (by_receiver j) b c p q (ap pred same))

asked_has : (h others : Holdings) (g r : List Job) (e : List Kept) (source target user : List ℕ) (file : File) →
    to_give h source ≡ Some file → (o : HasOwnEntries h others g r e) →
    Has h others g (job.Request source target user ∷ r) (kept_as (others.landing source target) file ∷ e) (front_receiver_place o.place)
asked_has h others g r e source target user file given o (by_receiver zero) b p = front_given h source (others.landing source target) file b given p
asked_has h others g r e source target user file given o (by_receiver (suc i)) b p = o.entry (by_receiver i) b p
asked_has h others g r e source target user file given o (by_giver i) b p = o.entry (by_giver i) b p

asked_own : (h others : Holdings) (g r : List Job) (e : List Kept) (source target user : List ℕ) (o : HasOwnEntries h others g r e) →
    Own others g (job.Request source target user ∷ r) (front_receiver_place o.place)
asked_own h others g r e source target user o (by_receiver zero) (by_receiver zero) b c p q same = refl
asked_own h others g r e source target user o (by_receiver zero) (by_receiver (suc j)) b c p q same = absurd (omega (arith, same))
asked_own h others g r e source target user o (by_receiver zero) (by_giver j) b c p q same = absurd (omega (arith, same))
asked_own h others g r e source target user o (by_receiver (suc i)) (by_receiver zero) b c p q same = absurd (omega (arith, same))
asked_own h others g r e source target user o (by_receiver (suc i)) (by_receiver (suc j)) b c p q same =
    ap after_receiver (o.own (by_receiver i) (by_receiver j) b c p q (ap pred same))
asked_own h others g r e source target user o (by_receiver (suc i)) (by_giver j) b c p q same =
    ap after_receiver (o.own (by_receiver i) (by_giver j) b c p q (ap pred same))
asked_own h others g r e source target user o (by_giver i) (by_receiver zero) b c p q same = absurd (omega (arith, same))
asked_own h others g r e source target user o (by_giver i) (by_receiver (suc j)) b c p q same =
    ap after_receiver (o.own (by_giver i) (by_receiver j) b c p q (ap pred same))
asked_own h others g r e source target user o (by_giver i) (by_giver j) b c p q same =
    ap after_receiver (o.own (by_giver i) (by_giver j) b c p q (ap pred same))

-- no job is struck
no_job : (h others : Holdings) → HasOwnEntries h others [] [] []
no_job h others = record {
  place = λ s. 0;
  entry = nothing_brought;
  own = λ s t b c p q same. absurd (none_brought s b p);
} where
  none_brought : (s : Struck) (b : Brought) → brought others [] [] s ≡ Some b → ⊥
  none_brought (by_giver i) b p = none-some b p
  none_brought (by_receiver i) b p = none-some b p

  nothing_brought : Has h others [] [] [] (λ s. 0)
  nothing_brought s b p = absurd (none_brought s b p)

pub by_places : (h others : Holdings) (jobs g r : List Job) (e : List Kept) → OwnEntries h others jobs g r e → HasOwnEntries h others g r e
by_places h others jobs g r e none = no_job h others
by_places h others jobs g r e (not_struck {g = g1} {r = r1} {e = e1} {entry = k} i o) = behind_entry h others g1 r1 k e1 (by_places h others jobs g1 r1 e1 o)
by_places h others jobs g r e (sent {g = g1} {r = r1} {e = e1} {source = s} {target = t} {user = u} {temp = c} {file = f} p o) =
    let q = by_places h others jobs g1 r1 e1 o in
    record {
      place = front_giver_place q.place;
      entry = sent_has h others g1 r1 e1 s t u c f p q;
      own = sent_own h others g1 r1 e1 s t u c q;
    }
by_places h others jobs g r e (asked_for {g = g1} {r = r1} {e = e1} {source = s} {target = t} {user = u} {file = f} p o) =
    let q = by_places h others jobs g1 r1 e1 o in
    record {
      place = front_receiver_place q.place;
      entry = asked_has h others g1 r1 e1 s t u f p q;
      own = asked_own h others g1 r1 e1 s t u q;
    }
by_places h others jobs g r e (giver_asked {g = g1} {r = r1} {e = e1} {source = s} {target = t} {user = u} o) =
    let q = by_places h others jobs g1 r1 e1 o in
    record {
      place = giver_place q.place;
      entry = giver_asked_has h others g1 r1 e1 s t u q;
      own = giver_asked_own h others g1 r1 e1 s t u q;
    }
by_places h others jobs g r e (receiver_sent {g = g1} {r = r1} {e = e1} {source = s} {target = t} {user = u} {temp = c} o) =
    let q = by_places h others jobs g1 r1 e1 o in
    record {
      place = receiver_place q.place;
      entry = receiver_sent_has h others g1 r1 e1 s t u c q;
      own = receiver_sent_own h others g1 r1 e1 s t u c q;
    }

-- ---- whatever the ends hold of files that were cut off

of_job_for_base : (ps qs : Option (List Partial)) (h others : Holdings) (jobs : List Job) (entry : Kept) →
    IsOfSendJob (holding ps h) (holding qs others) jobs entry → IsOfSendJob h others jobs entry
of_job_for_base ps qs h others jobs entry is = record {
  source = is.source;
  target = is.target;
  user = is.user;
  temp = is.temp;
  file = is.file;
  is_job = is.is_job;
  is_given = is.is_given;
  is_entry = is.is_entry;
}

pub own_for_base : (ps qs : Option (List Partial)) (h others : Holdings) (jobs givers receivers : List Job) (entries : List Kept) →
    OwnEntries (holding ps h) (holding qs others) jobs givers receivers entries → OwnEntries h others jobs givers receivers entries
own_for_base ps qs h others jobs givers receivers entries none = none
own_for_base ps qs h others jobs givers receivers entries (not_struck is more) =
    not_struck (of_job_for_base ps qs h others jobs _ is) (own_for_base ps qs h others jobs givers receivers _ more)
own_for_base ps qs h others jobs givers receivers entries (sent given more) = sent given (own_for_base ps qs h others jobs _ receivers _ more)
own_for_base ps qs h others jobs givers receivers entries (asked_for given more) = asked_for given (own_for_base ps qs h others jobs givers _ _ more)
own_for_base ps qs h others jobs givers receivers entries (giver_asked more) = giver_asked (own_for_base ps qs h others jobs _ receivers entries more)
own_for_base ps qs h others jobs givers receivers entries (receiver_sent more) = receiver_sent (own_for_base ps qs h others jobs givers _ entries more)
