-- How many touches and applications there are.
use Rattle.std.proofs.Common.{◌≡◌, ℕ, ◌+◌, ◌≤◌, Bool, true, false, cond, not, List, [], ◌∷◌, length, filter, filter_map, Option, Some, None, ap, arith, length-append}
use Rattle.std.specs.List.{sum_by, cons_option}
use Rattle.std.proofs.lemmas.List.Sums.{sum_by-cons}
use Rattle.semantics.specs.Texts.{Text, Range}
use Rattle.semantics.specs.Patterns.{Slots}
use Rattle.semantics.specs.Joins.{is_check, Source, Join}
use Rattle.semantics.specs.Histories.{History}
use Rattle.range_evaluation.specs.Trees.{Need}
use Rattle.kept_ranges.specs.Rules.{source_of, reported_in, touch_of, touches_by, touches, output_of, application_at, applications_by, applications}
use Rattle.range_state.specs.Asking.{ListsWritten, changed_count}
use Rattle.range_state.specs.Laws.{is_check_source, is_value_source, FewTouches, FewApplications}

-- what is given or not adds one element at most
few_more : {A B : Type 0} (o : Option B) (ys : List B) (xs : List A) → length ys ≤ length xs → length (cons_option o ys) ≤ length xs + 1
few_more None ys xs fewer = omega (arith, fewer)
few_more (Some y) ys xs fewer = omega (arith, fewer)

-- a function that may give nothing gives at most one element for each
few_given : {A B : Type 0} (h : A → Option B) (xs : List A) → length (filter_map h xs) ≤ length xs
few_given h [] = omega arith
few_given h (x ∷ xs) = let few = few_more (h x) (filter_map h xs) xs (few_given h xs) in omega (arith, few)

-- a part of a sum that is taken or not
pub sum_taken : {A : Type 0} (f : A → ℕ) (test : A → Bool) (x : A) (xs : List A) → sum_by f (filter test (x ∷ xs)) ≡ cond (test x) (f x) 0 + sum_by f (filter test xs)
sum_taken f test x xs = by_test (test x)
  where
    by_test : (b : Bool) → sum_by f (cond b (x ∷ filter test xs) (filter test xs)) ≡ cond b (f x) 0 + sum_by f (filter test xs)
    by_test true = sum_by-cons f x (filter test xs)
    by_test false = omega arith

-- ---- touches

touches_of_one : (j : Join) (h : History) (q p : ℕ) (reported : List Text) (need : Need) (o : Option Source) → ListsWritten q p h reported need → length (touches_by j reported need o) ≤ cond (is_check_source o) (changed_count q p h need) 0
touches_of_one j h q p reported need None listed = omega arith
touches_of_one j h q p reported need (Some source) listed = by_check (is_check source.operator)
  where
    by_check : (b : Bool) → length (cond b (filter_map (touch_of j need source) (reported_in reported need)) []) ≤ cond b (changed_count q p h need) 0
    by_check false = omega arith
    by_check true = let few = few_given (touch_of j need source) (reported_in reported need) in let e = ap length listed in omega arith

pub few_touches : FewTouches
few_touches j h q p reported [] listed = omega arith
few_touches j h q p reported (need ∷ needs) listed =
    let one = touches_of_one j h q p reported need (source_of j need) listed.0 in
    let others = few_touches j h q p reported needs listed.1 in
    let e = length-append (touches_by j reported need (source_of j need)) (touches j reported needs) in
    let parts = sum_taken (changed_count q p h) (λ (n : Need). is_check_source (source_of j n)) need needs in
    omega arith

-- ---- applications

applications_of_one : (j : Join) (range : Range) (pending : List Slots) (h : History) (q p : ℕ) (reported : List Text) (need : Need) (o : Option Source) → ListsWritten q p h reported need →
    length (applications_by j range pending reported need o) ≤ cond (is_value_source o) (changed_count q p h need) 0
applications_of_one j range pending h q p reported need None listed = omega arith
applications_of_one j range pending h q p reported need (Some source) listed = by_check (is_check source.operator)
  where
    by_check : (b : Bool) → length (cond b [] (filter_map (λ key. application_at j range pending key (output_of j need key)) (reported_in reported need))) ≤ cond (not b) (changed_count q p h need) 0
    by_check true = omega arith
    by_check false = let few = few_given (λ (key : Text). application_at j range pending key (output_of j need key)) (reported_in reported need) in let e = ap length listed in omega arith

pub few_applications : FewApplications
few_applications j range pending h q p reported [] listed = omega arith
few_applications j range pending h q p reported (need ∷ needs) listed =
    let one = applications_of_one j range pending h q p reported need (source_of j need) listed.0 in
    let others = few_applications j range pending h q p reported needs listed.1 in
    let e = length-append (applications_by j range pending reported need (source_of j need)) (applications j range pending reported needs) in
    let parts = sum_taken (changed_count q p h) (λ (n : Need). is_value_source (source_of j n)) need needs in
    omega arith
