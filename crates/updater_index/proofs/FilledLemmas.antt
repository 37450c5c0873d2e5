-- The ranges of first ids, and none of those behind them.
use Rattle.std.proofs.Common.{◌≡◌, ℕ, zero, suc, ◌+◌, ◌-◌, ◌<◌, ◌≤◌, cond, List, [], ◌∷◌, ◌++◌, length, max, set, replicate, Result, Ok, Err, refl, sym, ap, ◌∙◌, subst, arith, append_assoc, length-append}
use Rattle.std.specs.Result.{OnErr, OnOk}
use Rattle.std.proofs.lemmas.List.{length-replicate, length-set, set-append_left}
use Rattle.semantics.specs.Texts.{Text, Range}
use Rattle.updater_index.specs.Registered.{Held, filled, ranges_of, has_range, with_ranges, holds_key, stabbed_from, stabbed}
use Rattle.updater_index.specs.Sides.{Sides, is_registered}
use Rattle.updater_index.specs.Indexed.{are_apart, AreIndexed}

-- ---- the ranges of an id

none_behind : (n id : ℕ) → ranges_of id (replicate n []) ≡ []
none_behind zero id = refl
none_behind (suc n) zero = refl
none_behind (suc n) (suc id) = none_behind n id

as_before : (held : Held) (n id : ℕ) → ranges_of id (held ++ replicate n []) ≡ ranges_of id held
as_before [] n id = none_behind n id
as_before (rs ∷ more) n zero = refl
as_before (rs ∷ more) n (suc id) = as_before more n id

-- each id has the ranges that it has among the first ones
pub ranges_of-filled : (ids : ℕ) (held : Held) (id : ℕ) → ranges_of id (filled ids held) ≡ ranges_of id held
ranges_of-filled ids held id = as_before held (ids - length held) id

-- there are so many ids
pub length-filled : (ids : ℕ) (held : Held) → length held ≤ ids → length (filled ids held) ≡ ids
length-filled ids held h =
    let all = length-append held (replicate (ids - length held) []) in
    let none : List Range = [] in
    let more = length-replicate (ids - length held) none in
    omega arith

-- ---- more first ids

-- those that reach one of all are no more than all
pub reached-within : (ids id : ℕ) (old longer held : Held) → filled ids old ≡ held → id < length held → length old ≤ ids → length longer ≤ max (length old) (id + 1) → length longer ≤ ids
reached-within ids id old longer held is known few upto =
    let all : length held ≡ ids = sym (ap length is) ∙ length-filled ids old few in
    omega arith

-- one more, without ranges
pub filled-more : (ids : ℕ) (held : Held) → length (held ++ [] ∷ []) ≤ ids → filled ids (held ++ [] ∷ []) ≡ filled ids held
filled-more ids held h =
    let long : length (held ++ [] ∷ []) ≡ length held + 1 = length-append held ([] ∷ []) in
    let left : suc (ids - length (held ++ [] ∷ [])) ≡ ids - length held = omega arith in
    append_assoc held ([] ∷ []) (replicate (ids - length (held ++ [] ∷ [])) []) ∙ ap (λ n. held ++ replicate n []) left

-- where they are the same, filled up, each id has the ranges that it had
pub ranges_of-same : (old new : Held) (id : ℕ) → ((ids : ℕ) → length new ≤ ids → filled ids new ≡ filled ids old) → ranges_of id new ≡ ranges_of id old
ranges_of-same old new id same =
    sym (ranges_of-filled (length new) new id) ∙ ap (ranges_of id) (same (length new) (omega arith)) ∙ ranges_of-filled (length new) old id

-- and is found by these
pub indexed-longer : (old new : Held) (sides : Sides) → ((ids : ℕ) → length new ≤ ids → filled ids new ≡ filled ids old) → AreIndexed old sides → AreIndexed new sides
indexed-longer old new sides same x = record {
  agrees = λ r id. subst (λ (rs : List Range). is_registered sides r id ≡ has_range rs r) (sym (ranges_of-same old new id same)) (x.agrees r id);
  apart = λ id. ap are_apart (ranges_of-same old new id same) ∙ x.apart id;
}

-- ---- other ranges of one id

-- of one of the first
pub filled-set : (ids id : ℕ) (held : Held) (rs : List Range) → id < length held → filled ids (set held id rs) ≡ set (filled ids held) id rs
filled-set ids id held rs h =
    ap (λ n. set held id rs ++ replicate (ids - n) []) (length-set held id rs) ∙ sym (set-append_left held (replicate (ids - length held) []) id rs h)

set_again : {X : Type 0} (n i : ℕ) (x : X) → set (replicate n x) i x ≡ replicate n x
set_again zero i x = refl
set_again (suc n) zero x = refl
set_again {X} (suc n) (suc i) x = ap (λ (xs : List X). x ∷ xs) (set_again n i x)

emptied : (held : Held) (n id : ℕ) → set held id [] ++ replicate n [] ≡ set (held ++ replicate n []) id []
emptied [] n id = sym (set_again n id [])
emptied (rs ∷ more) n zero = refl
emptied (rs ∷ more) n (suc id) = ap (λ (held : Held). rs ∷ held) (emptied more n id)

-- of any, where it has none then
pub filled-emptied : (ids id : ℕ) (held : Held) → filled ids (set held id []) ≡ set (filled ids held) id []
filled-emptied ids id held = ap (λ n. set held id [] ++ replicate (ids - n) []) (length-set held id []) ∙ emptied held (ids - length held) id

-- of one that was made one of the first
pub filled-registered : (ids id : ℕ) (old longer new : Held) (ranges : List Range) → id < length longer → length longer ≤ ids → ((n : ℕ) → length longer ≤ n → filled n longer ≡ filled n old) →
    new ≡ set longer id (with_ranges (ranges_of id longer) ranges) → filled ids new ≡ set (filled ids old) id (with_ranges (ranges_of id (filled ids old)) ranges)
filled-registered ids id old longer new ranges there within same is =
    let own : ranges_of id longer ≡ ranges_of id (filled ids old) = ranges_of-same old longer id same ∙ sym (ranges_of-filled ids old id) in
    ap (filled ids) is ∙ filled-set ids id longer (with_ranges (ranges_of id longer) ranges) there ∙ (λ i. set (same ids within i) id (with_ranges (own i) ranges))

-- what is changed there, or is not, leaves the number of the first
pub within-after : {X E : Type 0} (result : Result X E) (ids id : ℕ) (longer new : Held) (rs : List Range) → OnOk result (new ≡ set longer id rs) → OnErr result (new ≡ longer) → length longer ≤ ids → length new ≤ ids
within-after (Ok x) ids id longer new rs ok err within = omega (arith, ap length ok, length-set longer id rs)
within-after (Err e) ids id longer new rs ok err within = omega (arith, ap length err)

-- ---- the ids with a range that contains a key

none_stabbed : (id : ℕ) (key : Text) (n : ℕ) → stabbed_from id key (replicate n []) ≡ []
none_stabbed id key zero = refl
none_stabbed id key (suc n) = none_stabbed (id + 1) key n

stabbed_as_before : (id : ℕ) (key : Text) (held : Held) (n : ℕ) → stabbed_from id key (held ++ replicate n []) ≡ stabbed_from id key held
stabbed_as_before id key [] n = none_stabbed id key n
stabbed_as_before id key (rs ∷ more) n = ap (λ (ids : List ℕ). cond (holds_key key rs) (id ∷ ids) ids) (stabbed_as_before (id + 1) key more n)

-- they are among the first
pub stabbed-filled : (ids : ℕ) (key : Text) (held : Held) → stabbed key (filled ids held) ≡ stabbed key held
stabbed-filled ids key held = stabbed_as_before 0 key held (ids - length held)
