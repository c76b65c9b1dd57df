-- Lines in the order in which they go.
use Rattle.std.proofs.Common.{◌≡◌, ◌<◌, ◌≤◌, ◌+◌, ◌-◌, ℕ, zero, suc, List, [], ◌∷◌, ◌++◌, Option, length, take, drop, refl, ap, subst, ◌∙◌, append_assoc, arith}
use Rattle.std.proofs.Math.Seq.{drop-append_seam, take-append_seam}
use Rattle.std.proofs.lemmas.List.{length-append}
use Rattle.uug_conversation.specs.declared.job.Job.{Job}
use Rattle.uug_taylor_text.specs.Operations.{FrontDone, Op, also_all}
use Rattle.uug_taylor_queue.specs.OpenLines.{lines_gone, lines_left}
use Rattle.uug_taylor_queue.specs.OverOrder.{done_lines, failed_lines, gone_lines, lines_after, over_ops, settled_ops, store_ops}
use Rattle.uug_taylor_queue.specs.Code.Parting.{first_ops}
use Rattle.uug_taylor_queue.specs.declared.open_line.OpenLine.{OpenLine}
use Rattle.uug_taylor_queue.specs.declared.open_line.Outcome.{Outcome}
use Rattle.uug_taylor_queue.specs.declared.open_line.Outcome.TheVariants.{Done, Failed}
use Rattle.uug_taylor_queue.proofs.OverLemmas.{AreLeft, fewer_are_left, some_are_done}

-- ---- one after the other

pub one_and_others : (outcome : Outcome) (n : ℕ) (line : OpenLine) (others : List OpenLine) → 0 < n
    → first_ops outcome n (line ∷ others) ≡ settled_ops outcome line others ++ first_ops outcome (n - 1) others
one_and_others outcome zero line others lt = absurd (omega (arith, lt))
one_and_others outcome (suc n) line others lt =
    let is : n ≡ suc n - 1 = omega arith in
    ap (λ m. settled_ops outcome line others ++ first_ops outcome m others) is

pub none_of_none : (outcome : Outcome) (n : ℕ) → first_ops outcome n [] ≡ []
none_of_none outcome zero = refl
none_of_none outcome (suc n) = refl

pub first_are_over : (outcome : Outcome) (over others : List OpenLine) → first_ops outcome (length over) (over ++ others) ≡ over_ops outcome over others
first_are_over outcome [] others = refl
first_are_over outcome (line ∷ more) others =
    ap (λ (ops : List Op). settled_ops outcome line (more ++ others) ++ ops) (first_are_over outcome more others)

-- ---- on the way

pub one_more_is_over : (outcome : Outcome) (n : ℕ) (line : OpenLine) (others rest : List OpenLine) (all : List Op) (now next before : Option (List Op))
    → 0 < n → rest ≡ line ∷ others → AreLeft (first_ops outcome n rest) now all before → next ≡ also_all (settled_ops outcome line others) now
    → AreLeft (first_ops outcome (n - 1) others) next all before
one_more_is_over outcome n line others rest all now next before lt is h done =
    fewer_are_left (settled_ops outcome line others) (first_ops outcome (n - 1) others) all now next before
    (subst (λ (ops : List Op). AreLeft ops now all before) (ap (first_ops outcome n) is ∙ one_and_others outcome n line others lt) h) done

pub one_is_over_in_part : (outcome : Outcome) (n : ℕ) (line : OpenLine) (others rest : List OpenLine) (all : List Op) (now after before : Option (List Op))
    → 0 < n → rest ≡ line ∷ others → AreLeft (first_ops outcome n rest) now all before → FrontDone (settled_ops outcome line others) now after
    → FrontDone all before after
one_is_over_in_part outcome n line others rest all now after before lt is h done =
    some_are_done (settled_ops outcome line others) (first_ops outcome (n - 1) others) all now after before
    (subst (λ (ops : List Op). AreLeft ops now all before) (ap (first_ops outcome n) is ∙ one_and_others outcome n line others lt) h) done

pub none_are_left : (outcome : Outcome) (n : ℕ) (rest : List OpenLine) (all : List Op) (now before : Option (List Op)) → rest ≡ []
    → AreLeft (first_ops outcome n rest) now all before → now ≡ also_all all before
none_are_left outcome n rest all now before is h =
    (subst (λ (ops : List Op). AreLeft ops now all before) (ap (first_ops outcome n) is ∙ none_of_none outcome n) h).all_done

pub no_more_are_left : (outcome : Outcome) (n : ℕ) (rest : List OpenLine) (all : List Op) (now before : Option (List Op)) → n ≤ 0
    → AreLeft (first_ops outcome n rest) now all before → now ≡ also_all all before
no_more_are_left outcome zero rest all now before le h = h.all_done
no_more_are_left outcome (suc n) rest all now before le h = absurd (omega (arith, le))

-- ---- those that are done, and those that have failed

in_order : (done failed left order : List OpenLine) (n m : ℕ) → order ≡ done ++ (failed ++ left) → n ≡ length done → m ≡ length failed
    → first_ops Done n order ++ first_ops Failed m (drop n order) ≡ over_ops Done done (failed ++ left) ++ over_ops Failed failed left
in_order done failed left order n m is is_n is_m =
    ap (λ (lines : List OpenLine). first_ops Done n lines ++ first_ops Failed m (drop n lines)) is
    ∙ ap (λ k. first_ops Done k (done ++ (failed ++ left)) ++ first_ops Failed m (drop k (done ++ (failed ++ left)))) is_n
    ∙ ap (λ (lines : List OpenLine). first_ops Done (length done) (done ++ (failed ++ left)) ++ first_ops Failed m lines) (drop-append_seam done (failed ++ left))
    ∙ ap (λ k. first_ops Done (length done) (done ++ (failed ++ left)) ++ first_ops Failed k (failed ++ left)) is_m
    ∙ ap (λ (ops : List Op). ops ++ first_ops Failed (length failed) (failed ++ left)) (first_are_over Done done (failed ++ left))
    ∙ ap (λ (ops : List Op). over_ops Done done (failed ++ left) ++ ops) (first_are_over Failed failed left)

pub both_are_over : (done failed left order : List OpenLine) (n m : ℕ) → order ≡ done ++ failed ++ left → n ≡ length done → m ≡ length failed
    → first_ops Done n order ++ first_ops Failed m (drop n order) ≡ over_ops Done done (failed ++ left) ++ over_ops Failed failed left
both_are_over done failed left order n m is is_n is_m = in_order done failed left order n m (is ∙ append_assoc done failed left) is_n is_m

-- so many stand in front of the others
pub they_fit : (done rest order : List OpenLine) (n : ℕ) → order ≡ done ++ rest → n ≡ length done → n ≤ length order
they_fit done rest order n is is_n =
    let all = ap (λ (lines : List OpenLine). length lines) is in let sum = length-append done rest in omega (arith, all, sum, is_n)

-- so many are those that are done and those that have failed
both_counted : (done failed : List OpenLine) (n k : ℕ) → n ≡ length done → k ≡ length done + length failed → n + (k - n) ≡ length (done ++ failed)
both_counted done failed n k is_n is_k = let sum = length-append done failed in omega (arith, is_n, is_k, sum)

-- ---- lines that were divided

pub record IsInOrder (struck failed : List Job) (lines left order : List OpenLine) (n m : ℕ) : Type 0 where
  pub fits : n ≤ length order
  pub fits_both : n + m ≤ length order
  pub gone_is : take (n + m) order ≡ gone_lines struck failed lines
  pub ops : first_ops Done n order ++ first_ops Failed m (drop n order) ≡ store_ops struck failed lines
  pub left_is : left ≡ lines_after struck failed lines

pub divided_in_order : (struck failed : List Job) (lines done others both left order : List OpenLine) (n k : ℕ)
    → done ≡ lines_gone struck lines → others ≡ lines_left struck lines → both ≡ done ++ lines_gone failed others → left ≡ lines_left failed others
    → order ≡ both ++ left → n ≡ length done → k ≡ length both → IsInOrder struck failed lines left order n (k - n)
divided_in_order struck failed lines done others both left order n k is_done is_others is_both is_left is_order is_n is_k =
    let gone = done_lines struck lines in
    let refused = failed_lines struck failed lines in
    let stay = lines_after struck failed lines in
    let all : both ≡ gone ++ refused =
    is_both ∙ ap (λ (ls : List OpenLine). ls ++ lines_gone failed others) is_done ∙ ap (λ (ls : List OpenLine). gone ++ lines_gone failed ls) is_others in
    let rest : left ≡ stay = is_left ∙ ap (lines_left failed) is_others in
    let whole : order ≡ gone ++ refused ++ stay =
    is_order ∙ ap (λ (ls : List OpenLine). ls ++ left) all ∙ ap (λ (ls : List OpenLine). gone ++ refused ++ ls) rest in
    let count : n ≡ length gone = is_n ∙ ap (λ (ls : List OpenLine). length ls) is_done in
    let sum : length both ≡ length gone + length refused = ap (λ (ls : List OpenLine). length ls) all ∙ length-append gone refused in
    record {
      fits = they_fit gone (refused ++ stay) order n (whole ∙ append_assoc gone refused stay) count;
      fits_both = they_fit (gone ++ refused) stay order (n + (k - n)) whole (both_counted gone refused n k count (is_k ∙ sum));
      gone_is = ap (λ m. take m order) (both_counted gone refused n k count (is_k ∙ sum)) ∙ ap (take (length (gone ++ refused))) whole
          ∙ take-append_seam (gone ++ refused) stay;
      ops = both_are_over gone refused stay order n (k - n) whole count (omega (arith, count, sum, is_k));
      left_is = rest;
    }
