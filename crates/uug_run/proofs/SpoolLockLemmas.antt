-- What a called end whose caller is locked has written.
use Rattle.std.proofs.Common.{◌≡◌, inl, inr, ℕ, List, [], ◌∷◌, ◌++◌, ◌-◌, drop, length, take, Option, Some, None, refl, sym, ap, ◌∙◌, append_assoc}
use Rattle.std.proofs.lemmas.List.{append-nil, take_rest}
use Rattle.std.specs.Prelude.{⊤}
use Rattle.uug_run.specs.SpoolLocks.{Says, TakesNone}
use Rattle.uug_transfer.proofs.ListeningLemmas.{Wrote, wrote_all, wrote_more}
use Rattle.uug_transfer.proofs.StallLemmas.{wrote_front}
use Rattle.uug_transfer.specs.WriteSilences.{also_wrote}
use Rattle.uug_transfer.specs.Writing.{also_taken}

-- ---- how many bytes its writes took

abbrev pub Since : (before after : Option (List ℕ)) → Type 0
Since None after = ⊤
Since (Some before) after = (since : List ℕ) × (after ≡ Some (before ++ since))

pub since_none : (before : Option (List ℕ)) → Since before before
since_none None = tt
since_none (Some before) = ([], ap (λ (x : List ℕ). Some x) (sym (append-nil before)))

pub since_more : (n : ℕ) (before mid after : Option (List ℕ)) → Since before mid → after ≡ also_wrote n mid → Since before after
since_more n None mid after s wrote = tt
since_more n (Some before) mid after s wrote = (
  s.0 ++ n ∷ [],
  wrote ∙ ap (also_wrote n) s.1 ∙ ap (λ (x : List ℕ). Some x) (append_assoc before s.0 (n ∷ [])),
)

took_none : (before mid after : Option (List ℕ)) → Since before mid → after ≡ also_wrote 0 mid → TakesNone before after
took_none None mid after s wrote = tt
took_none (Some before) mid after s wrote = (s.0, wrote ∙ ap (also_wrote 0) s.1)

-- ---- one write more

pub goes_on : (words rest : List ℕ) (n : ℕ) (u v w : Option (List ℕ)) → Wrote words rest u v → w ≡ also_taken (take n rest) v
    → Wrote words (take (length rest - n) (drop n rest)) u w
goes_on words rest n u v w wrote took =
    wrote_more words rest (take (length rest - n) (drop n rest)) n u v w wrote (take_rest rest n) took

-- ---- the last one

pub says_all : (words rest : List ℕ) (u v writes writes_after : Option (List ℕ)) → Wrote words rest u v → rest ≡ []
    → Says words u v writes writes_after
says_all words rest u v writes writes_after wrote none = record {
  front = wrote_front words rest u v wrote;
  all = inl (wrote_all words rest u v wrote none);
}

pub says_until : (words rest : List ℕ) (n : ℕ) (u v w before mid after : Option (List ℕ)) → Wrote words rest u v
    → n ≡ 0 → w ≡ also_taken (take n rest) v → Since before mid → after ≡ also_wrote n mid → Says words u w before after
says_until words rest n u v w before mid after wrote none took since stalled = record {
  front = wrote_front words (drop n rest) u w (wrote_more words rest (drop n rest) n u v w wrote refl took);
  all = inr (took_none before mid after since (stalled ∙ ap (λ (k : ℕ). also_wrote k mid) none));
}

-- ---- a remark in three parts

pub three_added : (before first second third one two three : List ℕ) → one ≡ before ++ first → two ≡ one ++ second → three ≡ two ++ third
    → three ≡ before ++ (first ++ (second ++ third))
three_added before first second third one two three a b d =
    d ∙ ap (λ (x : List ℕ). x ++ third) (b ∙ ap (λ (x : List ℕ). x ++ second) a)
    ∙ append_assoc (before ++ first) second third
    ∙ append_assoc before first (second ++ third)
