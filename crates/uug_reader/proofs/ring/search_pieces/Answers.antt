use Rattle.std.proofs.Common.{◌≡◌, ◌≤◌, ◌++◌, ap, arith, drop, length, length-append, length-drop, List, Option, subst, sym, ℕ, ◌∙◌}
use Rattle.std.proofs.lemmas.Bool.Decides.{nat_tests}
use Rattle.std.proofs.lemmas.List.{take_rest}
use Rattle.uug_reader.specs.declared.place.Standing.{Standing}
use Rattle.uug_reader.specs.Finding.{PassesNoise}
use Rattle.uug_reader.specs.Code.Place.{IsFirst, item_at, item_beside, StandsBeside, StandsThere}
use Rattle.uug_reader.proofs.PlaceLemmas.{laid, nothing_in_piece, passes_joined, passes_piece, stands_in_piece, stands_joined}
use Rattle.uug_reader.proofs.ring.search_pieces.Goals as goal

pub returns-in-Some-clause-passes : goal.returns-in-Some-clause-passes
returns-in-Some-clause-passes c =
    passes_piece c.args.front.now c.args.back.now c.search_in-search.result.passed
    c.search_in-search.ensures.within c.search_in-search.ensures.passes

pub returns-in-Some-clause-stands : goal.returns-in-Some-clause-stands
returns-in-Some-clause-stands c =
    let front = c.args.front.now in
    let passed = c.search_in-search.result.passed in
    let standing = c.in-Some.standing in
    let beside = c.lay.new.beside.items in
    let first : IsFirst standing (drop passed front) =
    subst (λ (f : Option Standing). StandsThere f (drop passed front)) c.in-Some.is c.search_in-search.ensures.stands in
    let is : item_beside standing.place beside ≡ item_at standing.place (drop passed front) =
    c.lay.ensures ∙ ap (item_at standing.place) (take_rest front passed) in
    subst (λ (f : Option Standing). StandsBeside f beside (drop passed (front ++ c.args.back.now))) (sym c.in-Some.is)
    (stands_in_piece front c.args.back.now beside passed standing c.search_in-search.ensures.within
    (laid standing beside (drop passed front) first is))

pub returns-clause-passes : goal.returns-clause-passes
returns-clause-passes c =
    let later = c.search_joined-later.result.passed in
    passes_joined c.args.front.now c.args.back.now c.search_in-search.result.passed later
    c.search_in-search.ensures.within c.search_in-search.ensures.passes
    (subst (λ (r : List ℕ). PassesNoise (r ++ c.args.back.now) (drop later (r ++ c.args.back.now)))
    (take_rest c.args.front.now c.search_in-search.result.passed) c.search_joined-later.ensures.passes)

pub returns-clause-stands : goal.returns-clause-stands
returns-clause-stands c =
    let later = c.search_joined-later.result in
    let beside = c.search_joined-later.new.beside.items in
    stands_joined c.args.front.now c.args.back.now beside c.search_in-search.result.passed later.passed
    later.first c.search_in-search.ensures.within
    (subst (λ (r : List ℕ). StandsBeside later.first beside (drop later.passed (r ++ c.args.back.now)))
    (take_rest c.args.front.now c.search_in-search.result.passed) c.search_joined-later.ensures.stands)

pub returns-in-Some-clause-within : goal.returns-in-Some-clause-within
returns-in-Some-clause-within c =
    omega (arith, c.search_in-search.ensures.within, length-append c.args.front.now c.args.back.now)

pub returns-then-is_empty-clause-within : goal.returns-then-is_empty-clause-within
returns-then-is_empty-clause-within c =
    omega (arith, c.search_in-search.ensures.within, length-append c.args.front.now c.args.back.now)

pub returns-then-is_empty-clause-passes : goal.returns-then-is_empty-clause-passes
returns-then-is_empty-clause-passes c =
    passes_piece c.args.front.now c.args.back.now c.search_in-search.result.passed
    c.search_in-search.ensures.within c.search_in-search.ensures.passes

pub returns-then-is_empty-clause-stands : goal.returns-then-is_empty-clause-stands
returns-then-is_empty-clause-stands c =
    let empty : length c.args.back.now ≡ 0 = grind (arith, nat_tests, c.is_empty.ensures, c.if-is_empty.true) in
    nothing_in_piece c.search_in-search.result.first c.args.front.now c.args.back.now c.args.beside.now.items
    c.search_in-search.result.passed empty c.in_default.is c.search_in-search.ensures.stands

pub returns-clause-within : goal.returns-clause-within
returns-clause-within c =
    let front = c.args.front.now in
    let back = c.args.back.now in
    let passed = c.search_in-search.result.passed in
    let later = c.search_joined-later.result.passed in
    let within : later ≤ length (drop passed front ++ back) =
    subst (λ (r : List ℕ). later ≤ length (r ++ back)) (take_rest front passed) c.search_joined-later.ensures.within in
    omega (arith, c.search_in-search.ensures.within, within, length-append (drop passed front) back, length-append front back, length-drop passed front)
