-- The exchange of one job in front of what an end accords with: at the master's side, and at the slave's.
use Rattle.std.proofs.Common.{◌≡◌, ℕ, ◌+◌, ◌<◌, ◌≤◌, Bool, true, false, ◌&&◌, List, [], ◌∷◌, ◌++◌, length, drop, Option, Some, None, Ok, refl, sym, ap, ap₂, subst, subst₂, ◌∙◌, arith}
use Rattle.uug_talk.specs.declared.file_digest.FileDigest.{FileDigest}
use Rattle.uug_talk.specs.Chunks.{Measure}
use Rattle.uug_talk.specs.declared.answer.Answer.TheVariants as answer
use Rattle.uug_talk.specs.declared.order.Order.{Order}
use Rattle.uug_talk.specs.declared.order.Order.TheVariants as order
use Rattle.uug_talk.specs.Gathering.{OfCommand}
use Rattle.uug_conversation.specs.declared.awaits.Awaits.{Awaits}
use Rattle.uug_conversation.specs.declared.awaits.Awaits.TheVariants as awaits
use Rattle.uug_conversation.specs.declared.job.Job.{Job}
use Rattle.uug_conversation.specs.declared.job.Job.TheVariants as job
use Rattle.uug_conversation.specs.declared.verdict.Verdict.{Verdict}
use Rattle.uug_conversation.specs.declared.verdict.Verdict.TheVariants.{Yes, Never, Later}
use Rattle.uug_conversation.specs.Choice.{choice, fetched_by, send_choice}
use Rattle.uug_conversation.specs.Conversation.{exchanges}
use Rattle.uug_conversation.specs.Exchange.{send_exchange, request_exchange, exchange}
use Rattle.uug_conversation.specs.Holdings.{File, Kept, Holdings, to_give, kept_as, kept_file}
use Rattle.uug_conversation.specs.Jobs.{Lists, Move, pass, strike, fail, moved, moved_once}
use Rattle.uug_conversation.specs.Party.{HoldsFronts, Party, TakesSizes}
use Rattle.uug_conversation.specs.Resuming.{IsFront, front_held, front_of, position_heard}
use Rattle.uug_talk.specs.Positions.{consent_text}
use Rattle.uug_talk.specs.Lenient.{is_held, or_wished, refused_letter_of}
use Rattle.uug_conversation.specs.Machine.{State, Reply, between, replies, kind_awaited, on_whole, keeps, chooses, file_verdict, goes_on, on_send, on_request, on_order, on_send_answer, on_text, sends_file, on_request_answer, on_sent_file, on_asked_file}
use Rattle.uug_conversation.specs.ReadBack.{IsReadBack, EachTurn}
use Rattle.uug_conversation.specs.Turns.{other, Said, the_order, the_answer, the_consent, the_giving, the_file, said_messages, all_messages, Turn}
use Rattle.uug_conversation.specs.declared.side.Side.{Side}
use Rattle.uug_conversation.specs.Told.{giving_said, heard, is_too_large, order_said, outcome, told_of, unless_too_large}
use Rattle.std.proofs.lemmas.List.{append_assoc, length-append}
use Rattle.std.proofs.lemmas.List.Folds.{concat-append}
use Rattle.std.specs.List.{Contains, concat}
use Rattle.uug_talk.proofs.GathersBackLemmas.{file_back}
use Rattle.uug_conversation.specs.Left.{Advances, IsLeft, left_by}
use Rattle.uug_conversation.proofs.AdvanceLemmas.{advances_by}
use Rattle.uug_conversation.proofs.StoredLemmas.{Contains-head, Contains-tail}
use Rattle.uug_conversation.proofs.ToldLemmas.{fits_given, given_is_taken}
use Rattle.uug_conversation.proofs.TurnLemmas.{Fits, LeavesFronts, Open, said_kind, said_bytes, own_says, other_says}
use Rattle.uug_conversation.proofs.ResumingLemmas.{GoesBehind, goes_behind, rest_sent, whole_again}

module _ (measure_of : Side → Measure) (positive : (side : Side) → 0 < (measure_of side).size) (me : Side) (giver : Party) (h : Holdings) where
  -- what an end replies accords with these turns
  abbrev pub FitsReply : Reply → List Turn → Type 0
  FitsReply r ts = Fits giver h measure_of me r.state (all_messages (measure_of me) r.says) ts

  -- whatever became of the jobs before these
  abbrev pub Masters : List Job → List Turn → Type 0
  Masters jobs ts = (passed struck failed : List Job) →
      FitsReply (goes_on h (record { passed = passed; ahead = jobs; struck = struck; failed = failed }) []) ts

  abbrev pub lists : (passed jobs struck failed : List Job) → Lists
  lists passed jobs struck failed = record { passed = passed; ahead = jobs; struck = struck; failed = failed }

  pub say : {said : Said} {moves : List Move} {keeps : List Kept} {ts : List Turn} {s : State} {left : List (List ℕ)} →
      IsReadBack h.limit said → Fits giver h measure_of me s left ts →
      Fits giver h measure_of me s (said_messages (measure_of me) said ++ left)
      (record { speaker = me; said = said; moves = moves; keeps = keeps } ∷ ts)
  say {said} {moves} {keeps} {ts} {s} {left} back fits =
      own_says measure_of positive me giver h said moves keeps ts s left back fits.accords

  -- a text or a file, by the reply to it
  pub hear_text : {said : Said} {moves : List Move} {keeps : List Kept} {ts : List Turn} {l : Lists} {w : Awaits} {r : Reply} →
      IsReadBack h.limit said → said_kind h.limit said ≡ kind_awaited w →
      LeavesFronts giver h l w (said_messages (measure_of (other me)) said) → Open w → on_whole (kind_awaited w) h w (said_bytes said) l ≡ r →
      r.state.lists ≡ moved moves l → r.keeps ≡ keeps → FitsReply r ts →
      Fits giver h measure_of me (between l w) [] (record { speaker = other me; said = said; moves = moves; keeps = keeps } ∷ ts)
  hear_text {said} {moves} {keeps} {ts} {l} {w} {r} back kind fronts opened e lists_so keeps_so fits =
      other_says measure_of positive me giver h said moves keeps ts l w back kind fronts opened r e
      (record { lists_moved = lists_so; kept = keeps_so }) fits

  -- a file that comes as it was told of is kept where it can be put in its place
  verdict_is : (digests : Bool) (name : List ℕ) (file : File) (immovable : Bool) → h.immovable name ≡ immovable →
      file_verdict h name (heard h.digests (told_of digests (Some file))) file.bytes ≡ outcome true immovable
  verdict_is digests name file immovable e = ap₂ outcome (fits_given h.digests digests file) e

  -- ---- Send, at the master's

  rest_asked : (source target user : List ℕ) (temp : Option (List ℕ)) (file : File) → to_give h (fetched_by source temp) ≡ Some file →
      (front : List ℕ) → GoesBehind h.digests front file → IsReadBack h.limit (the_consent (length front)) →
      (passed jobs struck failed : List Job) → let l = lists passed (job.Send source target user temp ∷ jobs) struck failed in
      on_text h awaits.SendAnswer (consent_text (length front)) l
      ≡ replies l awaits.SentFileDone (the_file (drop (length front) file.bytes) ∷ [])
  rest_asked source target user temp file e front well back passed jobs struck failed =
      let l = lists passed (job.Send source target user temp ∷ jobs) struck failed in
      let text = consent_text (length front) in
      ap (λ read. on_send_answer h (is_held text && h.lenient) (position_heard h.digests text) read l) back.1
      ∙ ap (λ f. sends_file f l) (rest_sent h.digests front file well back.2 (to_give h (fetched_by source temp)) e)

  send_offered : (source target user : List ℕ) (temp : Option (List ℕ)) (file : File) →
      to_give h (fetched_by source temp) ≡ Some file → (name front : List ℕ) → GoesBehind h.digests front file →
      (verdict : Verdict) (immovable : Bool) → (passed jobs struck failed : List Job) (ts : List Turn) →
      EachTurn (λ t. IsReadBack h.limit t.said) (send_exchange me (other me) h.digests source target user temp (Some file) name front verdict immovable (choice h jobs).failing ts) →
      Masters jobs ts →
      FitsReply (replies (lists passed (job.Send source target user temp ∷ jobs) struck failed) awaits.SendAnswer
      (the_order (order.Send source target user temp file.mode) (told_of h.digests (Some file)) ∷ []))
      (send_exchange me (other me) h.digests source target user temp (Some file) name front verdict immovable (choice h jobs).failing ts)
  send_offered source target user temp file e name front well Never immovable passed jobs struck failed ts back rest =
      let l = lists passed (job.Send source target user temp ∷ jobs) struck failed in
      say back.0
      (hear_text {r = goes_on h (moved_once fail l) []} back.1.0 refl (λ front rest e. tt) (record { not_over = refl; not_bad = refl; not_parted = refl })
      refl refl refl
      (rest passed struck (failed ++ job.Send source target user temp ∷ [])))
  send_offered source target user temp file e name front well Later immovable passed jobs struck failed ts back rest =
      let l = lists passed (job.Send source target user temp ∷ jobs) struck failed in
      say back.0
      (hear_text {r = goes_on h (moved_once pass l) []} back.1.0 refl (λ front rest e. tt) (record { not_over = refl; not_bad = refl; not_parted = refl })
      refl refl refl
      (rest (passed ++ job.Send source target user temp ∷ []) struck failed))
  send_offered source target user temp file e name front well Yes false passed jobs struck failed ts back rest =
      let l = lists passed (job.Send source target user temp ∷ jobs) struck failed in
      say back.0
      (hear_text {r = replies l awaits.SentFileDone (the_file (drop (length front) file.bytes) ∷ [])} back.1.0 refl
      (λ front rest e. tt) (record { not_over = refl; not_bad = refl; not_parted = refl })
      (rest_asked source target user temp file e front well back.1.0 passed jobs struck failed) refl refl
      (say back.1.1.0
      (hear_text {r = goes_on h (moved_once strike l) []} back.1.1.1.0 refl (λ front rest e. tt) (record { not_over = refl; not_bad = refl; not_parted = refl })
      refl refl refl
      (rest passed (struck ++ job.Send source target user temp ∷ []) failed))))
  send_offered source target user temp file e name front well Yes true passed jobs struck failed ts back rest =
      let l = lists passed (job.Send source target user temp ∷ jobs) struck failed in
      say back.0
      (hear_text {r = replies l awaits.SentFileDone (the_file (drop (length front) file.bytes) ∷ [])} back.1.0 refl
      (λ front rest e. tt) (record { not_over = refl; not_bad = refl; not_parted = refl })
      (rest_asked source target user temp file e front well back.1.0 passed jobs struck failed) refl refl
      (say back.1.1.0
      (hear_text {r = goes_on h (moved_once fail l) []} back.1.1.1.0 refl (λ front rest e. tt) (record { not_over = refl; not_bad = refl; not_parted = refl })
      refl refl refl
      (rest passed struck (failed ++ job.Send source target user temp ∷ [])))))

  send_as_master : (source target user : List ℕ) (temp : Option (List ℕ)) (found : Option File) →
      to_give h (fetched_by source temp) ≡ found → (name front : List ℕ) →
      ((file : File) → found ≡ Some file → GoesBehind h.digests front file) → (verdict : Verdict) (immovable : Bool) →
      (passed jobs struck failed : List Job) (ts : List Turn) →
      EachTurn (λ t. IsReadBack h.limit t.said) (send_exchange me (other me) h.digests source target user temp found name front verdict immovable (choice h jobs).failing ts) →
      Masters jobs ts →
      FitsReply (chooses h (send_choice source target user temp found (choice h jobs))
      (lists passed (job.Send source target user temp ∷ jobs) struck failed) [])
      (send_exchange me (other me) h.digests source target user temp found name front verdict immovable (choice h jobs).failing ts)
  send_as_master source target user temp None e name front well verdict immovable passed jobs struck failed ts back rest =
      rest passed struck (failed ++ job.Send source target user temp ∷ [])
  send_as_master source target user temp (Some file) e name front well verdict immovable passed jobs struck failed ts back rest =
      subst (λ z. FitsReply (replies (lists passed (job.Send source target user temp ∷ jobs) struck failed) awaits.SendAnswer
      (the_order (order.Send source target user temp file.mode) (told_of h.digests z) ∷ []))
      (send_exchange me (other me) h.digests source target user temp (Some file) name front verdict immovable (choice h jobs).failing ts))
      (sym e) (send_offered source target user temp file e name front (well file refl) verdict immovable passed jobs struck failed ts back rest)

  -- ---- Request, at the master's

  request_as_master : (digests : Bool) (source target user : List ℕ) (found : Option File) (delayed immovable : Bool) →
      h.immovable (h.landing source target) ≡ immovable →
      (passed jobs struck failed : List Job) (ts : List Turn) →
      EachTurn (λ t. IsReadBack h.limit t.said) (request_exchange me (other me) digests source target user found delayed (h.landing source target) immovable (choice h jobs).failing ts) →
      Masters jobs ts →
      FitsReply (replies (lists passed (job.Request source target user ∷ jobs) struck failed) awaits.RequestAnswer
      (the_order (order.Request source target user) None ∷ []))
      (request_exchange me (other me) digests source target user found delayed (h.landing source target) immovable (choice h jobs).failing ts)
  request_as_master digests source target user None false immovable e passed jobs struck failed ts back rest =
      let l = lists passed (job.Request source target user ∷ jobs) struck failed in
      say back.0
      (hear_text {r = goes_on h (moved_once fail l) []} back.1.0 refl (λ front rest e. tt) (record { not_over = refl; not_bad = refl; not_parted = refl })
      refl refl refl
      (rest passed struck (failed ++ job.Request source target user ∷ [])))
  request_as_master digests source target user None true immovable e passed jobs struck failed ts back rest =
      let l = lists passed (job.Request source target user ∷ jobs) struck failed in
      say back.0
      (hear_text {r = goes_on h (moved_once pass l) []} back.1.0 refl (λ front rest e. tt) (record { not_over = refl; not_bad = refl; not_parted = refl })
      refl refl refl
      (rest (passed ++ job.Request source target user ∷ []) struck failed))
  request_as_master digests source target user (Some file) delayed false e passed jobs struck failed ts back rest =
      let l = lists passed (job.Request source target user ∷ jobs) struck failed in
      say back.0
      (hear_text {r = replies l (awaits.AskedFile file.mode (heard h.digests (told_of digests (Some file))) h.limit) []} back.1.0 refl
      (λ front rest e. tt) (record { not_over = refl; not_bad = refl; not_parted = refl })
      (ap₂ (λ t a. on_request_answer h (heard h.digests t) (or_wished a h.lenient (giving_said file.mode (told_of digests (Some file)))) l) back.1.0.2 back.1.0.1) refl refl
      (hear_text {r = keeps (kept_as (h.landing source target) file) (goes_on h (moved_once strike l) (the_answer answer.DoneYes ∷ []))} back.1.1.0 refl
      (λ front rest e. tt) (record { not_over = refl; not_bad = refl; not_parted = refl })
      (ap (λ z. on_asked_file h z (kept_as (h.landing source target) file) l) (verdict_is digests (h.landing source target) file false e)) refl refl
      (say back.1.1.1.0 (rest passed (struck ++ job.Request source target user ∷ []) failed))))
  request_as_master digests source target user (Some file) delayed true e passed jobs struck failed ts back rest =
      let l = lists passed (job.Request source target user ∷ jobs) struck failed in
      say back.0
      (hear_text {r = replies l (awaits.AskedFile file.mode (heard h.digests (told_of digests (Some file))) h.limit) []} back.1.0 refl
      (λ front rest e. tt) (record { not_over = refl; not_bad = refl; not_parted = refl })
      (ap₂ (λ t a. on_request_answer h (heard h.digests t) (or_wished a h.lenient (giving_said file.mode (told_of digests (Some file)))) l) back.1.0.2 back.1.0.1) refl refl
      (hear_text {r = goes_on h (moved_once fail l) (the_answer answer.DoneNever ∷ [])} back.1.1.0 refl
      (λ front rest e. tt) (record { not_over = refl; not_bad = refl; not_parted = refl })
      (ap (λ z. on_asked_file h z (kept_as (h.landing source target) file) l) (verdict_is digests (h.landing source target) file true e)) refl refl
      (say back.1.1.1.0 (rest passed struck (failed ++ job.Request source target user ∷ [])))))

  -- ---- all jobs of a master, at its side

  job_as_master : (others : Holdings) → HoldsFronts h others → (j : Job) (jobs : List Job) (ts : List Turn) →
      EachTurn (λ t. IsReadBack h.limit t.said) (exchange me (other me) h others j (choice h jobs).failing ts) →
      Masters jobs ts → Masters (j ∷ jobs) (exchange me (other me) h others j (choice h jobs).failing ts)
  job_as_master others fronts (job.Send source target user temp) jobs ts back rest passed struck failed =
      send_as_master source target user temp (to_give h (fetched_by source temp)) refl
      (others.landing source target) (front_held others h.digests (fetched_by source temp) (to_give h (fetched_by source temp)))
      (goes_behind h others fronts (fetched_by source temp) (to_give h (fetched_by source temp)) refl)
      (others.verdict (others.landing source target)) (others.immovable (others.landing source target)) passed jobs struck failed ts back rest
  job_as_master others fronts (job.Request source target user) jobs ts back rest passed struck failed =
      request_as_master others.digests source target user (to_give others source) (others.delayed source) (h.immovable (h.landing source target)) refl passed jobs struck failed ts back rest

  behind_send : (master slave : Side) (digests : Bool) (source target user : List ℕ) (temp : Option (List ℕ)) (found : Option File)
      (name front : List ℕ) (verdict : Verdict) (immovable : Bool) (next : List Move) (ts : List Turn) →
      EachTurn (λ t. IsReadBack h.limit t.said) (send_exchange master slave digests source target user temp found name front verdict immovable next ts) →
      EachTurn (λ t. IsReadBack h.limit t.said) ts
  behind_send master slave digests source target user temp None name front verdict immovable next ts back = back
  behind_send master slave digests source target user temp (Some file) name front Never immovable next ts back = back.1.1
  behind_send master slave digests source target user temp (Some file) name front Later immovable next ts back = back.1.1
  behind_send master slave digests source target user temp (Some file) name front Yes false next ts back = back.1.1.1.1
  behind_send master slave digests source target user temp (Some file) name front Yes true next ts back = back.1.1.1.1

  behind_request : (master slave : Side) (digests : Bool) (source target user : List ℕ) (found : Option File)
      (delayed : Bool) (name : List ℕ) (immovable : Bool) (next : List Move) (ts : List Turn) →
      EachTurn (λ t. IsReadBack h.limit t.said) (request_exchange master slave digests source target user found delayed name immovable next ts) →
      EachTurn (λ t. IsReadBack h.limit t.said) ts
  behind_request master slave digests source target user None false name immovable next ts back = back.1.1
  behind_request master slave digests source target user None true name immovable next ts back = back.1.1
  behind_request master slave digests source target user (Some file) delayed name false next ts back = back.1.1.1.1
  behind_request master slave digests source target user (Some file) delayed name true next ts back = back.1.1.1.1

  behind_exchange : (master slave : Side) (own others : Holdings) (j : Job) (next : List Move) (ts : List Turn) →
      EachTurn (λ t. IsReadBack h.limit t.said) (exchange master slave own others j next ts) → EachTurn (λ t. IsReadBack h.limit t.said) ts
  behind_exchange master slave own others (job.Send source target user temp) next ts back =
      behind_send master slave own.digests source target user temp (to_give own (fetched_by source temp))
      (others.landing source target)
      (front_held others own.digests (fetched_by source temp) (to_give own (fetched_by source temp))) (others.verdict (others.landing source target)) (others.immovable (others.landing source target)) next ts back
  behind_exchange master slave own others (job.Request source target user) next ts back =
      behind_request master slave others.digests source target user (to_give others source) (others.delayed source)
      (own.landing source target) (own.immovable (own.landing source target)) next ts back

  pub behind_exchanges : (master slave : Side) (own others : Holdings) (jobs : List Job) (ts : List Turn) →
      EachTurn (λ t. IsReadBack h.limit t.said) (exchanges master slave own others jobs ts) → EachTurn (λ t. IsReadBack h.limit t.said) ts
  behind_exchanges master slave own others [] ts back = back
  behind_exchanges master slave own others (j ∷ jobs) ts back =
      behind_exchanges master slave own others jobs ts
      (behind_exchange master slave own others j (choice own jobs).failing (exchanges master slave own others jobs ts) back)

  pub as_master : (others : Holdings) → HoldsFronts h others → (jobs : List Job) (ts : List Turn) →
      EachTurn (λ t. IsReadBack h.limit t.said) (exchanges me (other me) h others jobs ts) →
      Masters [] ts → Masters jobs (exchanges me (other me) h others jobs ts)
  as_master others fronts [] ts back rest = rest
  as_master others fronts (j ∷ jobs) ts back rest =
      job_as_master others fronts j jobs (exchanges me (other me) h others jobs ts) back
      (as_master others fronts jobs ts
      (behind_exchange me (other me) h others j (choice h jobs).failing (exchanges me (other me) h others jobs ts) back) rest)

  -- a command is taken as it was said
  order_heard : (o : Order) (told : Option FileDigest) (l : Lists) → IsReadBack h.limit (the_order o told) →
      on_whole OfCommand h awaits.Order (order_said o told) l
      ≡ on_order h (refused_letter_of (order_said o told)) (heard h.digests told) (Ok o) l
  order_heard o told l back =
      ap₂ (λ t a. on_order h (refused_letter_of (order_said o told)) (heard h.digests t) a l) back.2 back.1

  -- ---- Send, at the slave's

  -- the rest behind what is held is asked for
  consent_said : (digests : Bool) (source target user : List ℕ) (temp : Option (List ℕ)) (file : File) (front : List ℕ) →
      front_of h (fetched_by source temp) (heard h.digests (told_of digests (Some file))) ≡ front → length file.bytes ≤ h.limit →
      h.verdict (h.landing source target) ≡ Yes → (l : Lists) →
      IsReadBack h.limit (the_order (order.Send source target user temp file.mode) (told_of digests (Some file))) →
      on_whole OfCommand h awaits.Order (order_said (order.Send source target user temp file.mode) (told_of digests (Some file))) l
      ≡ replies l (awaits.SentFile (fetched_by source temp) (h.landing source target) file.mode (heard h.digests (told_of digests (Some file))) h.limit)
      (the_consent (length front) ∷ [])
  consent_said digests source target user temp file front held small v l back =
      let told = heard h.digests (told_of digests (Some file)) in
      order_heard (order.Send source target user temp file.mode) (told_of digests (Some file)) l back
      ∙ ap₂ (λ b z. on_send h.limit (unless_too_large b z) (front_of h (fetched_by source temp) told) (fetched_by source temp) (h.landing source target) file.mode told l)
      (given_is_taken h.limit h.lenient h.digests digests file small) v
      ∙ ap (λ z. on_send h.limit Yes z (fetched_by source temp) (h.landing source target) file.mode told l) held

  -- the rest comes, and what is held stands in front of it
  rest_taken : (digests : Bool) (source target : List ℕ) (file : File) (front : List ℕ) →
      front_of h source (heard h.digests (told_of digests (Some file))) ≡ front → GoesBehind digests front file →
      (immovable : Bool) → h.immovable target ≡ immovable → (l : Lists) →
      let told = heard h.digests (told_of digests (Some file)) in
      let bytes = front_of h source told ++ drop (length front) file.bytes in
      on_sent_file (file_verdict h target told bytes) (kept_file target file.mode bytes) l
      ≡ on_sent_file (outcome true immovable) (kept_as target file) l
  rest_taken digests source target file front held well immovable i l =
      let told = heard h.digests (told_of digests (Some file)) in
      ap (λ z. on_sent_file (file_verdict h target told z) (kept_file target file.mode z) l)
      (ap (λ z. z ++ drop (length front) file.bytes) held ∙ whole_again front file.bytes well.is_front)
      ∙ ap (λ z. on_sent_file z (kept_as target file) l) (verdict_is digests target file immovable i)

  -- wherever the session ends in the middle of the rest, what was held and what has come is a front of the file
  sent_left : (source target user : List ℕ) (temp : Option (List ℕ)) (file : File) (front : List ℕ) (told : Option FileDigest) →
      heard h.digests (told_of giver.holdings.digests (Some file)) ≡ told → front_of h (fetched_by source temp) told ≡ front →
      GoesBehind giver.holdings.digests front file → (name : List ℕ) (mode : ℕ) → to_give giver.holdings (fetched_by source temp) ≡ Some file →
      Contains giver.jobs (job.Send source target user temp) → (came : List ℕ) → IsFront came (drop (length front) file.bytes) →
      Advances giver.measure.size (length front + length (drop (length front) file.bytes)) (length front) (length front + length came) →
      IsLeft giver h (left_by h (awaits.SentFile (fetched_by source temp) name mode told h.limit) came)
  sent_left source target user temp file front None is held well name mode given inside came is_front advances = tt
  sent_left source target user temp file front (Some told) is held well name mode given inside came is_front advances = record {
    source = source;
    target = target;
    user = user;
    temp = temp;
    file = file;
    is_job = inside;
    is_source = refl;
    is_given = given;
    is_told = is;
    front = (
      is_front.0,
      sym (whole_again front file.bytes well.is_front) ∙ ap (λ z. front ++ z) is_front.1
          ∙ sym (append_assoc front came is_front.0) ∙ ap (λ z. (z ++ came) ++ is_front.0) (sym held),
    );
    advances =
        let bytes : length front + length (drop (length front) file.bytes) ≡ length file.bytes =
        sym (length-append front (drop (length front) file.bytes)) ∙ ap length (whole_again front file.bytes well.is_front) in
        subst (λ z. Advances giver.measure.size (length file.bytes) (length z) (length (z ++ came))) (sym held)
        (subst₂ (λ whole after. Advances giver.measure.size whole (length front) after) bytes (sym (length-append front came)) advances);
  }

  rest_left : (measure_of (other me)).size ≡ giver.measure.size →
      (source target user : List ℕ) (temp : Option (List ℕ)) (file : File) (front : List ℕ) (told : Option FileDigest) →
      heard h.digests (told_of giver.holdings.digests (Some file)) ≡ told → front_of h (fetched_by source temp) told ≡ front →
      GoesBehind giver.holdings.digests front file → (name : List ℕ) (mode : ℕ) (l : Lists) → to_give giver.holdings (fetched_by source temp) ≡ Some file →
      Contains giver.jobs (job.Send source target user temp) →
      LeavesFronts giver h l (awaits.SentFile (fetched_by source temp) name mode told h.limit) (said_messages (measure_of (other me)) (the_file (drop (length front) file.bytes)))
  rest_left measured source target user temp file front told is held well name mode l given inside came rest e =
      let bytes = drop (length front) file.bytes in
      let whole = file_back (measure_of (other me)).size h.limit bytes (positive (other me)) in
      let both : bytes ≡ concat came ++ concat rest = sym (ap (λ g. g.bytes) whole.whole) ∙ ap concat e ∙ concat-append came rest in
      let most : length (concat came) ≤ length bytes = omega (arith, ap length both, length-append (concat came) (concat rest)) in
      sent_left source target user temp file front told is held well name mode given inside (concat came) (concat rest, both)
      (subst (λ size. Advances size (length front + length bytes) (length front) (length front + length (concat came))) measured
      (advances_by (measure_of (other me)).size (length front) bytes came rest (positive (other me)) e most))

  send_as_slave : (measure_of (other me)).size ≡ giver.measure.size → (source target user : List ℕ) (temp : Option (List ℕ)) (found : Option File) →
      to_give giver.holdings (fetched_by source temp) ≡ found → Contains giver.jobs (job.Send source target user temp) → (front : List ℕ) →
      ((file : File) → found ≡ Some file → front_of h (fetched_by source temp) (heard h.digests (told_of giver.holdings.digests (Some file))) ≡ front) →
      ((file : File) → found ≡ Some file → GoesBehind giver.holdings.digests front file) →
      ((file : File) → found ≡ Some file → length file.bytes ≤ h.limit) →
      (verdict : Verdict) → h.verdict (h.landing source target) ≡ verdict → (immovable : Bool) →
      h.immovable (h.landing source target) ≡ immovable →
      (next : List Move) (l : Lists) (ts : List Turn) →
      EachTurn (λ t. IsReadBack h.limit t.said) (send_exchange (other me) me giver.holdings.digests source target user temp found (h.landing source target) front verdict immovable next ts) →
      Fits giver h measure_of me (between l awaits.Order) [] ts →
      Fits giver h measure_of me (between l awaits.Order) []
      (send_exchange (other me) me giver.holdings.digests source target user temp found (h.landing source target) front verdict immovable next ts)
  send_as_slave measured source target user temp None given inside front held well small verdict v immovable i next l ts back rest = rest
  send_as_slave measured source target user temp (Some file) given inside front held well small Never v immovable i next l ts back rest =
      hear_text {r = replies l awaits.Order (the_answer answer.SendNever ∷ [])} back.0 refl
      (λ front rest e. tt) (record { not_over = refl; not_bad = refl; not_parted = refl })
      (order_heard (order.Send source target user temp file.mode) (told_of giver.holdings.digests (Some file)) l back.0
      ∙ ap (λ z. on_send h.limit (unless_too_large (h.lenient && is_too_large h.limit (heard h.digests (told_of giver.holdings.digests (Some file)))) z)
      (front_of h (fetched_by source temp) (heard h.digests (told_of giver.holdings.digests (Some file)))) (fetched_by source temp) (h.landing source target)
      file.mode (heard h.digests (told_of giver.holdings.digests (Some file))) l) v) refl refl
      (say back.1.0 rest)
  send_as_slave measured source target user temp (Some file) given inside front held well small Later v immovable i next l ts back rest =
      hear_text {r = replies l awaits.Order (the_answer answer.SendLater ∷ [])} back.0 refl
      (λ front rest e. tt) (record { not_over = refl; not_bad = refl; not_parted = refl })
      (order_heard (order.Send source target user temp file.mode) (told_of giver.holdings.digests (Some file)) l back.0
      ∙ ap (λ z. on_send h.limit (unless_too_large (h.lenient && is_too_large h.limit (heard h.digests (told_of giver.holdings.digests (Some file)))) z)
      (front_of h (fetched_by source temp) (heard h.digests (told_of giver.holdings.digests (Some file)))) (fetched_by source temp) (h.landing source target)
      file.mode (heard h.digests (told_of giver.holdings.digests (Some file))) l) v) refl refl
      (say back.1.0 rest)
  send_as_slave measured source target user temp (Some file) given inside front held well small Yes v false i next l ts back rest =
      let told = heard h.digests (told_of giver.holdings.digests (Some file)) in
      hear_text {r = replies l (awaits.SentFile (fetched_by source temp) (h.landing source target) file.mode told h.limit) (the_consent (length front) ∷ [])} back.0 refl
      (λ front rest e. tt) (record { not_over = refl; not_bad = refl; not_parted = refl })
      (consent_said giver.holdings.digests source target user temp file front (held file refl) (small file refl) v l back.0) refl refl
      (say back.1.0
      (hear_text {r = keeps (kept_as (h.landing source target) file) (replies l awaits.Order (the_answer answer.DoneYes ∷ []))} back.1.1.0 refl
      (rest_left measured source target user temp file front told refl (held file refl) (well file refl) (h.landing source target) file.mode l given inside)
      (record { not_over = refl; not_bad = refl; not_parted = refl })
      (rest_taken giver.holdings.digests (fetched_by source temp) (h.landing source target) file front (held file refl) (well file refl) false i l) refl refl
      (say back.1.1.1.0 rest)))
  send_as_slave measured source target user temp (Some file) given inside front held well small Yes v true i next l ts back rest =
      let told = heard h.digests (told_of giver.holdings.digests (Some file)) in
      hear_text {r = replies l (awaits.SentFile (fetched_by source temp) (h.landing source target) file.mode told h.limit) (the_consent (length front) ∷ [])} back.0 refl
      (λ front rest e. tt) (record { not_over = refl; not_bad = refl; not_parted = refl })
      (consent_said giver.holdings.digests source target user temp file front (held file refl) (small file refl) v l back.0) refl refl
      (say back.1.0
      (hear_text {r = replies l awaits.Order (the_answer answer.DoneNever ∷ [])} back.1.1.0 refl
      (rest_left measured source target user temp file front told refl (held file refl) (well file refl) (h.landing source target) file.mode l given inside)
      (record { not_over = refl; not_bad = refl; not_parted = refl })
      (rest_taken giver.holdings.digests (fetched_by source temp) (h.landing source target) file front (held file refl) (well file refl) true i l) refl refl
      (say back.1.1.1.0 rest)))

  -- ---- Request, at the slave's

  request_as_slave : (source target user : List ℕ) (found : Option File) → to_give h source ≡ found → (delayed : Bool) →
      h.delayed source ≡ delayed → (name : List ℕ) (immovable : Bool) →
      (next : List Move) (l : Lists) (ts : List Turn) →
      EachTurn (λ t. IsReadBack h.limit t.said) (request_exchange (other me) me h.digests source target user found delayed name immovable next ts) →
      Fits giver h measure_of me (between l awaits.Order) [] ts →
      Fits giver h measure_of me (between l awaits.Order) [] (request_exchange (other me) me h.digests source target user found delayed name immovable next ts)
  request_as_slave source target user None e false d name immovable next l ts back rest =
      hear_text {r = replies l awaits.Order (the_answer answer.GiveNever ∷ [])} back.0 refl
      (λ front rest e. tt) (record { not_over = refl; not_bad = refl; not_parted = refl })
      (order_heard (order.Request source target user) None l back.0 ∙ ap₂ (λ f b. on_request h.digests f b l) e d) refl refl
      (say back.1.0 rest)
  request_as_slave source target user None e true d name immovable next l ts back rest =
      hear_text {r = replies l awaits.Order (the_answer answer.GiveLater ∷ [])} back.0 refl
      (λ front rest e. tt) (record { not_over = refl; not_bad = refl; not_parted = refl })
      (order_heard (order.Request source target user) None l back.0 ∙ ap₂ (λ f b. on_request h.digests f b l) e d) refl refl
      (say back.1.0 rest)
  request_as_slave source target user (Some file) e delayed d name false next l ts back rest =
      hear_text {r = replies l awaits.GivenFileDone (the_giving file.mode (told_of h.digests (Some file)) ∷ the_file file.bytes ∷ [])} back.0 refl
      (λ front rest e. tt) (record { not_over = refl; not_bad = refl; not_parted = refl })
      (order_heard (order.Request source target user) None l back.0 ∙ ap (λ f. on_request h.digests f (h.delayed source) l) e) refl refl
      (say back.1.0 (say back.1.1.0
      (hear_text {r = replies l awaits.Order []} back.1.1.1.0 refl
      (λ front rest e. tt) (record { not_over = refl; not_bad = refl; not_parted = refl }) refl refl refl rest)))
  request_as_slave source target user (Some file) e delayed d name true next l ts back rest =
      hear_text {r = replies l awaits.GivenFileDone (the_giving file.mode (told_of h.digests (Some file)) ∷ the_file file.bytes ∷ [])} back.0 refl
      (λ front rest e. tt) (record { not_over = refl; not_bad = refl; not_parted = refl })
      (order_heard (order.Request source target user) None l back.0 ∙ ap (λ f. on_request h.digests f (h.delayed source) l) e) refl refl
      (say back.1.0 (say back.1.1.0
      (hear_text {r = replies l awaits.Order []} back.1.1.1.0 refl
      (λ front rest e. tt) (record { not_over = refl; not_bad = refl; not_parted = refl }) refl refl refl rest)))

  -- ---- all jobs of the other end, at the slave's side: its own jobs don't move

  job_as_slave : (measure_of (other me)).size ≡ giver.measure.size → HoldsFronts giver.holdings h → TakesSizes giver.holdings h → (j : Job) → Contains giver.jobs j → (next : List Move) (l : Lists) (ts : List Turn) →
      EachTurn (λ t. IsReadBack h.limit t.said) (exchange (other me) me giver.holdings h j next ts) →
      Fits giver h measure_of me (between l awaits.Order) [] ts →
      Fits giver h measure_of me (between l awaits.Order) [] (exchange (other me) me giver.holdings h j next ts)
  job_as_slave measured fronts sizes (job.Send source target user temp) inside next l ts back rest =
      let found = to_give giver.holdings (fetched_by source temp) in
      send_as_slave measured source target user temp found refl inside (front_held h giver.holdings.digests (fetched_by source temp) found)
      (λ file e. ap (λ z. front_held h giver.holdings.digests (fetched_by source temp) z) (sym e))
      (goes_behind giver.holdings h fronts (fetched_by source temp) found refl) (λ file e. sizes (fetched_by source temp) file e) (h.verdict (h.landing source target)) refl
      (h.immovable (h.landing source target)) refl next l ts back rest
  job_as_slave measured fronts sizes (job.Request source target user) inside next l ts back rest =
      request_as_slave source target user (to_give h source) refl (h.delayed source) refl (giver.holdings.landing source target)
      (giver.holdings.immovable (giver.holdings.landing source target)) next l ts back rest

  pub as_slave : (measure_of (other me)).size ≡ giver.measure.size → HoldsFronts giver.holdings h → TakesSizes giver.holdings h → (jobs : List Job) → ((j : Job) → Contains jobs j → Contains giver.jobs j) → (l : Lists) (ts : List Turn) →
      EachTurn (λ t. IsReadBack h.limit t.said) (exchanges (other me) me giver.holdings h jobs ts) →
      Fits giver h measure_of me (between l awaits.Order) [] ts →
      Fits giver h measure_of me (between l awaits.Order) [] (exchanges (other me) me giver.holdings h jobs ts)
  as_slave measured fronts sizes [] inside l ts back rest = rest
  as_slave measured fronts sizes (j ∷ jobs) inside l ts back rest =
      job_as_slave measured fronts sizes j (inside j (Contains-head j jobs)) (choice giver.holdings jobs).failing l (exchanges (other me) me giver.holdings h jobs ts) back
      (as_slave measured fronts sizes jobs (λ k i. inside k (Contains-tail j jobs k i)) l ts
      (behind_exchange (other me) me giver.holdings h j (choice giver.holdings jobs).failing (exchanges (other me) me giver.holdings h jobs ts) back) rest)
