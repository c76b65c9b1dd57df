-- What each of the moments just after a session's writes is.
use Rattle.std.proofs.Common.{◌≡◌, List, [], ◌∷◌, ◌++◌, Option, Some, None, sym, ap, subst, ◌∙◌, append-nil, append_assoc}
use Rattle.std.proofs.lemmas.List.Elements.{All-append, All-nil, All-push, All-weaker}
use Rattle.uug_transfer.specs.Hosts.{AllSince, also_at}
use Rattle.uug_transfer.specs.Moments.{HostNow}

pub all_since_none : (P : HostNow → Type 0) (a : Option (List HostNow)) → AllSince P a a
all_since_none P None = tt
all_since_none P (Some moments) = ([], ap (λ (x : List HostNow). Some x) (sym (append-nil moments)), All-nil P)

-- one write more
pub all_since_one : (P : HostNow → Type 0) (m : HostNow) (a b d : Option (List HostNow)) → AllSince P a b → P m → d ≡ also_at m b
    → AllSince P a d
all_since_one P m None b d h p is = tt
all_since_one P m (Some moments) b d h p is = (
  h.0 ++ m ∷ [],
  is ∙ ap (also_at m) h.1 ∙ ap (λ (x : List HostNow). Some x) (append_assoc moments h.0 (m ∷ [])),
  All-push P h.0 m h.2 p,
)

pub all_since_then : (P : HostNow → Type 0) (a b d : Option (List HostNow)) → AllSince P a b → AllSince P b d → AllSince P a d
all_since_then P None b d h k = tt
all_since_then P (Some moments) b d h k =
    let more = subst (λ (x : Option (List HostNow)). AllSince P x d) h.1 k in (
      h.0 ++ more.0,
      more.1 ∙ ap (λ (x : List HostNow). Some x) (append_assoc moments h.0 more.0),
      All-append P h.0 more.0 h.2 more.2,
    )

pub all_since_weaker : (P Q : HostNow → Type 0) (a b : Option (List HostNow)) → ((m : HostNow) → P m → Q m) → AllSince P a b → AllSince Q a b
all_since_weaker P Q None b f h = tt
all_since_weaker P Q (Some moments) b f h = (h.0, h.1, All-weaker P Q f h.0 h.2)

pub all_since_same : (P : HostNow → Type 0) (a b d : Option (List HostNow)) → AllSince P a b → d ≡ b → AllSince P a d
all_since_same P a b d h same = subst (AllSince P a) (sym same) h
