-- What is done on the disk in two parts, one after the other.
use Rattle.std.proofs.Common.{◌≡◌, inl, inr, List, [], ◌∷◌, ◌++◌, Option, refl, sym, ap, subst, ◌∙◌}
use Rattle.uug_taylor_text.specs.Operations.{FrontDone, Op, also_all, also_done}

pub all_of_both : (xs ys : List Op) (before : Option (List Op)) → also_all (xs ++ ys) before ≡ also_all ys (also_all xs before)
all_of_both [] ys before = refl
all_of_both (x ∷ xs) ys before = all_of_both xs ys (also_done x before)

pub none_done : (ops : List Op) (before after : Option (List Op)) → after ≡ before → FrontDone ops before after
none_done [] before after h = h
none_done (op ∷ ops) before after h = inl h

-- a front of the first part
pub front_of_first : (xs ys : List Op) (before after : Option (List Op)) → FrontDone xs before after → FrontDone (xs ++ ys) before after
front_of_first [] ys before after h = none_done ys before after h
front_of_first (x ∷ xs) ys before after (inl h) = inl h
front_of_first (x ∷ xs) ys before after (inr h) = inr (front_of_first xs ys (also_done x before) after h)

-- the first part, and a front of the second one
pub front_behind : (xs ys : List Op) (before after : Option (List Op)) → FrontDone ys (also_all xs before) after → FrontDone (xs ++ ys) before after
front_behind [] ys before after h = h
front_behind (x ∷ xs) ys before after h = inr (front_behind xs ys (also_done x before) after h)

pub both_done : (xs ys : List Op) (before between after : Option (List Op)) → between ≡ also_all xs before → after ≡ also_all ys between
    → after ≡ also_all (xs ++ ys) before
both_done xs ys before between after one two = two ∙ ap (also_all ys) one ∙ sym (all_of_both xs ys before)

pub front_of_both : (xs ys : List Op) (before between after : Option (List Op)) → between ≡ also_all xs before → FrontDone ys between after
    → FrontDone (xs ++ ys) before after
front_of_both xs ys before between after one two =
    front_behind xs ys before after (subst (λ (d : Option (List Op)). FrontDone ys d after) one two)

-- ---- on the way

-- these operations are still to be done of all
pub record AreLeft (left : List Op) (now : Option (List Op)) (all : List Op) (before : Option (List Op)) : Type 0 where
  pub all_done : also_all left now ≡ also_all all before
  pub front : (after : Option (List Op)) → FrontDone left now after → FrontDone all before after

pub all_are_left : (all : List Op) (before : Option (List Op)) → AreLeft all before all before
all_are_left all before = record { all_done = refl; front = λ after h. h }

-- a part more is done
pub fewer_are_left : (xs ys all : List Op) (now next before : Option (List Op)) → AreLeft (xs ++ ys) now all before
    → next ≡ also_all xs now → AreLeft ys next all before
fewer_are_left xs ys all now next before h is = record {
  all_done = ap (also_all ys) is ∙ sym (all_of_both xs ys now) ∙ h.all_done;
  front = λ after f. h.front after (front_behind xs ys now after (subst (λ (d : Option (List Op)). FrontDone ys d after) is f));
}

-- a front of a part
pub some_are_done : (xs ys all : List Op) (now after before : Option (List Op)) → AreLeft (xs ++ ys) now all before
    → FrontDone xs now after → FrontDone all before after
some_are_done xs ys all now after before h f = h.front after (front_of_first xs ys now after f)
