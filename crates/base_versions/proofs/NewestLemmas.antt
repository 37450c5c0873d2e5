-- The newest version of a key beside its older ones.
use Rattle.std.proofs.Common.{◌≡◌, ℕ, ◌+◌, ◌<◌, ◌≤◌, List, [], ◌∷◌, ◌++◌, nat_le, nat_lt, Bool, true, false, ◌||◌, cond, None, refl, sym, ap, ◌∙◌, ⊎_elim, arith}
use Rattle.std.proofs.lemmas.Bool.Decides.{nat_tests}
use Rattle.std.proofs.lemmas.Bool.{cases_lt}
use Rattle.std.proofs.lemmas.List.Sums.{fold-append}
use Rattle.std.proofs.lemmas.List.Folds.{list_any-append}
use Rattle.base_versions.specs.declared.versions.Version.{Version}
use Rattle.base_versions.specs.Positions.{lies_between}
use Rattle.base_versions.specs.Versions.{value_in, has_between, AscendFrom}
use Rattle.base_versions.proofs.VersionLemmas.{taken}

-- the older versions ascend
pub ascend-older : (low : ℕ) (older : List Version) (newest : Version) → AscendFrom low (older ++ newest ∷ []) → AscendFrom low older
ascend-older low [] newest a = tt
ascend-older low (v ∷ older) newest a = (a.0, ascend-older (v.position + 1) older newest a.1)

-- the newest version is not before the position that the versions begin at
newest_from : (low : ℕ) (older : List Version) (newest : Version) → AscendFrom low (older ++ newest ∷ []) → low ≤ newest.position
newest_from low [] newest a = a.0
newest_from low (v ∷ older) newest a =
    let later = newest_from (v.position + 1) older newest a.1 in
    let here : low ≤ v.position = a.0 in
    omega (arith, later, here)

-- where the newest version is later than p, the older ones say what stands at the key
pub value_in-older : (p : ℕ) (older : List Version) (newest : Version) → nat_le newest.position p ≡ false → value_in p (older ++ newest ∷ []) ≡ value_in p older
value_in-older p older newest late = fold-append (taken p) None older (newest ∷ []) ∙ ap (λ t. cond t newest.value (value_in p older)) late

-- otherwise the newest one says it
pub value_in-newest : (p : ℕ) (older : List Version) (newest : Version) → nat_le newest.position p ≡ true → value_in p (older ++ newest ∷ []) ≡ newest.value
value_in-newest p older newest early = fold-append (taken p) None older (newest ∷ []) ∙ ap (λ t. cond t newest.value (value_in p older)) early

or_false : (b : Bool) → (b || false) ≡ b
or_false true = refl
or_false false = refl

or_true : (b : Bool) → (b || true) ≡ true
or_true true = refl
or_true false = refl

-- a version is between where an older one is, or the newest
between-append : (q p : ℕ) (older : List Version) (newest : Version) → has_between q p (older ++ newest ∷ []) ≡ (has_between q p older || (lies_between q p newest.position || false))
between-append q p older newest = list_any-append (λ v. lies_between q p v.position) older (newest ∷ [])

-- where the newest version is later than p, the older ones say whether one is between
pub between-older : (q p : ℕ) (older : List Version) (newest : Version) → p < newest.position → has_between q p (older ++ newest ∷ []) ≡ has_between q p older
between-older q p older newest late =
    let test : lies_between q p newest.position ≡ false = grind (arith, nat_tests) in
    between-append q p older newest ∙ ap (λ b. has_between q p older || (b || false)) test ∙ or_false (has_between q p older)

-- no older version is between where the newest is not after q
none_older : (q p low : ℕ) (older : List Version) (newest : Version) → AscendFrom low (older ++ newest ∷ []) → newest.position ≤ q → has_between q p older ≡ false
none_older q p low [] newest a early = refl
none_older q p low (v ∷ older) newest a early =
    let later : v.position + 1 ≤ newest.position = newest_from (v.position + 1) older newest a.1 in
    let test : lies_between q p v.position ≡ false = grind (arith, nat_tests) in
    ap (λ b. b || has_between q p older) test ∙ none_older q p (v.position + 1) older newest a.1 early

-- where the newest version is not later than p, one is between exactly where the newest is after q
pub between-newest : (q p : ℕ) (older : List Version) (newest : Version) → AscendFrom 0 (older ++ newest ∷ []) → newest.position ≤ p → nat_lt q newest.position ≡ has_between q p (older ++ newest ∷ [])
between-newest q p older newest a early =
    ⊎_elim
    (λ (after : q < newest.position).
    let test : lies_between q p newest.position ≡ true = grind (arith, nat_tests) in
    let is : nat_lt q newest.position ≡ true = grind (arith, nat_tests) in
    is ∙ sym (between-append q p older newest ∙ ap (λ b. has_between q p older || (b || false)) test ∙ or_true (has_between q p older)))
    (λ (before : newest.position ≤ q).
    let test : lies_between q p newest.position ≡ false = grind (arith, nat_tests) in
    let is : nat_lt q newest.position ≡ false = grind (arith, nat_tests) in
    is ∙ sym (between-append q p older newest ∙ ap (λ b. b || (lies_between q p newest.position || false)) (none_older q p 0 older newest a before) ∙ ap (λ b. b || false) test))
    (cases_lt q newest.position)
