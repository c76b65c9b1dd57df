-- A whole file, in the order in which the code goes about it.
use Rattle.std.proofs.Common.{◌≡◌, ℕ, List, [], ◌∷◌, ◌++◌, Option, Some, None, refl, sym, ap, subst, ◌∙◌, append-nil}
use Rattle.uug_talk.specs.declared.file_digest.FileDigest.{FileDigest}
use Rattle.uug_conversation.specs.declared.awaits.Awaits.{Awaits}
use Rattle.uug_conversation.specs.declared.awaits.Awaits.TheVariants as awaits
use Rattle.uug_conversation.specs.declared.job.Job.{Job}
use Rattle.uug_conversation.specs.declared.job.Job.TheVariants as job
use Rattle.uug_conversation.specs.declared.reaction.Reaction.{Reaction}
use Rattle.uug_conversation.specs.declared.verdict.Verdict.{Verdict}
use Rattle.uug_conversation.specs.declared.verdict.Verdict.TheVariants.{Yes, Never, Later}
use Rattle.uug_conversation.specs.Holdings.{Kept, Holdings, kept_file}
use Rattle.uug_conversation.specs.Jobs.{Lists}
use Rattle.uug_conversation.specs.Machine.{Reply, out_of_turn, file_verdict, on_sent_file, on_asked_file, on_file_of, on_file}
use Rattle.uug_conversation.specs.Resuming.{front_of}
use Rattle.uug_conversation.specs.Reactions.{FileAwaited, IsKept, awaited_verdict, file_of_first, file_awaited, on_kept, on_none_kept, kept_on, reply_of}

-- a reply that keeps these files
abbrev pub keeping : List Kept → Reply → Reply
keeping files r = record { state = r.state; says = r.says; keeps = files }

sent_is : (h : Holdings) (source target : List ℕ) (mode : ℕ) (told : Option FileDigest) (limit : ℕ) (verdict : Verdict) (file : Kept) (l : Lists) →
    on_sent_file verdict file l ≡ keeping (kept_on verdict file) (on_kept h (awaits.SentFile source target mode told limit) verdict l)
sent_is h source target mode told limit Yes file l = refl
sent_is h source target mode told limit Never file l = refl
sent_is h source target mode told limit Later file l = refl

asked_is : (h : Holdings) (mode : ℕ) (told : Option FileDigest) (limit : ℕ) (verdict : Verdict) (file : Kept) (l : Lists) →
    on_asked_file h verdict file l ≡ keeping (kept_on verdict file) (on_kept h (awaits.AskedFile mode told limit) verdict l)
asked_is h mode told limit Yes file l = refl
asked_is h mode told limit Never file l = refl
asked_is h mode told limit Later file l = refl

-- what is done with the file that is awaited
abbrev done_with : Holdings → Awaits → (bytes : List ℕ) → Lists → FileAwaited → Reply
done_with h w bytes l file =
    keeping (kept_on (awaited_verdict h file bytes) (kept_file file.name file.mode (file.front ++ bytes))) (on_kept h w (awaited_verdict h file bytes) l)

asked_of : (h : Holdings) (jobs : List Job) (mode : ℕ) (told : Option FileDigest) (limit : ℕ) (bytes : List ℕ) (l : Lists) (file : FileAwaited) →
    file_of_first h jobs mode told ≡ Some file →
    on_file_of h jobs mode told bytes l ≡ done_with h (awaits.AskedFile mode told limit) bytes l file
asked_of h [] mode told limit bytes l file e = absurd cc
asked_of h (job.Send source target user temp ∷ jobs) mode told limit bytes l file e = absurd cc
asked_of h (job.Request source target user ∷ jobs) mode told limit bytes l file e =
    let made : FileAwaited = record { front = []; name = h.landing source target; mode = mode; told = told } in
    let same : made ≡ file = cc in
    subst (λ f. on_asked_file h (file_verdict h (h.landing source target) told bytes) (kept_file (h.landing source target) mode bytes) l
    ≡ done_with h (awaits.AskedFile mode told limit) bytes l f)
    same (asked_is h mode told limit (file_verdict h (h.landing source target) told bytes) (kept_file (h.landing source target) mode bytes) l)

on_file_is : (h : Holdings) (w : Awaits) (bytes : List ℕ) (l : Lists) (file : FileAwaited) → file_awaited h w l.ahead ≡ Some file →
    on_file h w bytes l ≡ done_with h w bytes l file
on_file_is h (awaits.SentFile source target mode told limit) bytes l file e =
    let made : FileAwaited = record { front = front_of h source told; name = target; mode = mode; told = told } in
    let same : made ≡ file = cc in
    let whole = front_of h source told ++ bytes in
    subst (λ f. on_sent_file (file_verdict h target told whole) (kept_file target mode whole) l
    ≡ done_with h (awaits.SentFile source target mode told limit) bytes l f)
    same (sent_is h source target mode told limit (file_verdict h target told whole) (kept_file target mode whole) l)
on_file_is h (awaits.AskedFile mode told limit) bytes l file e = asked_of h l.ahead mode told limit bytes l file e
on_file_is h _ bytes l file e = absurd cc

-- the reply, and what is kept
pub record Replies (h : Holdings) (w : Awaits) (bytes : List ℕ) (old new : Lists) (r : Reaction) (before after : List Kept) : Type 0 where
  pub reply : on_file h w bytes old ≡ reply_of h new r (on_file h w bytes old).keeps
  pub kept : after ≡ before ++ (on_file h w bytes old).keeps

kept_by : (h : Holdings) (w : Awaits) (bytes : List ℕ) (old new : Lists) (found : Option FileAwaited) (verdict : Verdict) (r : Reaction)
    (before after : List Kept) → file_awaited h w old.ahead ≡ found → IsKept h found bytes (Some verdict) before after →
    on_kept h w verdict old ≡ reply_of h new r [] → Replies h w bytes old new r before after
kept_by h w bytes old new None verdict r before after e k o = absurd k
kept_by h w bytes old new (Some file) verdict r before after e k o =
    let is = on_file_is h w bytes old file e
    ∙ ap (λ z. keeping (kept_on z (kept_file file.name file.mode (file.front ++ bytes))) (on_kept h w z old)) k.0 in
    record {
      reply = is ∙ ap (keeping (kept_on verdict (kept_file file.name file.mode (file.front ++ bytes)))) o
          ∙ ap (λ z. reply_of h new r z) (sym (ap (λ z. z.keeps) is));
      kept = k.1 ∙ ap (λ z. before ++ z) (sym (ap (λ z. z.keeps) is));
    }

pub when_kept : (h : Holdings) (w : Awaits) (bytes : List ℕ) (old new : Lists) (verdict : Verdict) (r : Reaction)
    (before after : List Kept) → IsKept h (file_awaited h w old.ahead) bytes (Some verdict) before after →
    on_kept h w verdict old ≡ reply_of h new r [] → Replies h w bytes old new r before after
when_kept h w bytes old new verdict r before after k o =
    kept_by h w bytes old new (file_awaited h w old.ahead) verdict r before after refl k o

-- the same, by what was told of the file, and by the holdings that are the same
pub when_told : (h h_after : Holdings) (w : Awaits) (bytes : List ℕ) (old new : Lists) (told : Option Verdict) (verdict : Verdict) (r : Reaction)
    (before after : List Kept) → IsKept h (file_awaited h w old.ahead) bytes told before after → told ≡ Some verdict →
    h_after ≡ h → on_kept h_after w verdict old ≡ reply_of h_after new r [] → Replies h w bytes old new r before after
when_told h h_after w bytes old new told verdict r before after k t e o =
    when_kept h w bytes old new verdict r before after
    (subst (λ z. IsKept h (file_awaited h w old.ahead) bytes z before after) t k)
    (subst (λ z. on_kept z w verdict old ≡ reply_of z new r []) e o)

-- ---- no file is awaited that could be kept

abbrev KeepsNone : Reply → Type 0
KeepsNone r = r.keeps ≡ []

none_of_first : (h : Holdings) (jobs : List Job) (mode : ℕ) (told : Option FileDigest) (bytes : List ℕ) (l : Lists) →
    file_of_first h jobs mode told ≡ None → on_file_of h jobs mode told bytes l ≡ out_of_turn l
none_of_first h [] mode told bytes l e = refl
none_of_first h (job.Send source target user temp ∷ jobs) mode told bytes l e = refl
none_of_first h (job.Request source target user ∷ jobs) mode told bytes l e = absurd cc

none_is : (h : Holdings) (w : Awaits) (bytes : List ℕ) (l : Lists) → file_awaited h w l.ahead ≡ None →
    on_file h w bytes l ≡ on_none_kept h w l
none_is h (awaits.SentFile source target mode told limit) bytes l e = absurd cc
none_is h (awaits.AskedFile mode told limit) bytes l e = none_of_first h l.ahead mode told bytes l e
none_is h (awaits.DroppedSentFile limit) bytes l e = refl
none_is h (awaits.DroppedAskedFile limit) bytes l e = refl
none_is h _ bytes l e = refl

none_kept_keeps : (h : Holdings) (w : Awaits) (l : Lists) → KeepsNone (on_none_kept h w l)
none_kept_keeps h (awaits.DroppedSentFile limit) l = refl
none_kept_keeps h (awaits.DroppedAskedFile limit) l = refl
none_kept_keeps h _ l = refl

unkept_by : (h : Holdings) (w : Awaits) (bytes : List ℕ) (old new : Lists) (found : Option FileAwaited) (r : Reaction)
    (before after : List Kept) → file_awaited h w old.ahead ≡ found → IsKept h found bytes None before after →
    on_none_kept h w old ≡ reply_of h new r [] → Replies h w bytes old new r before after
unkept_by h w bytes old new None r before after e k o =
    let is = none_is h w bytes old e in
    let keeps_none : (on_file h w bytes old).keeps ≡ [] = ap (λ (z : Reply). z.keeps) is ∙ none_kept_keeps h w old in
    record {
      reply = is ∙ o ∙ ap (λ z. reply_of h new r z) (sym keeps_none);
      kept = k ∙ sym (append-nil before) ∙ ap (λ z. before ++ z) (sym keeps_none);
    }
unkept_by h w bytes old new (Some file) r before after e k o = absurd k

-- the same, by what was told of the file, and by the holdings that are the same
pub when_none : (h h_after : Holdings) (w : Awaits) (bytes : List ℕ) (old new : Lists) (told : Option Verdict) (r : Reaction)
    (before after : List Kept) → IsKept h (file_awaited h w old.ahead) bytes told before after → told ≡ None →
    h_after ≡ h → on_none_kept h_after w old ≡ reply_of h_after new r [] → Replies h w bytes old new r before after
when_none h h_after w bytes old new told r before after k t e o =
    unkept_by h w bytes old new (file_awaited h w old.ahead) r before after refl
    (subst (λ z. IsKept h (file_awaited h w old.ahead) bytes z before after) t k)
    (subst (λ z. on_none_kept z w old ≡ reply_of z new r []) e o)
