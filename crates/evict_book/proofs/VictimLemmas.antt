-- The ids that have to go, and those that are left.
use Rattle.std.proofs.Common.{◌≡◌, ℕ, zero, suc, ◌<◌, ◌≤◌, Bool, true, false, cond, nat_le, List, [], ◌∷◌, length, map, take, drop, refl, ap, arith, leb-true, leb-false}
use Rattle.evict_book.specs.Books.{Used, total_weight, victims_of, left_of, LeftFits, VictimsGoFirst, VictimsAreFewest}

fits_by : (limit : ℕ) (used rest : Used) (x : Bool) → nat_le (total_weight used) limit ≡ x → total_weight (left_of limit rest) ≤ limit → total_weight (cond x used (left_of limit rest)) ≤ limit
fits_by limit used rest true e h = leb-true (total_weight used) limit e
fits_by limit used rest false e h = h

-- what is left weighs no more than the limit together
pub left_fits : LeftFits
left_fits limit [] = omega arith
left_fits limit (e ∷ es) = fits_by limit (e ∷ es) es (nat_le (total_weight (e ∷ es)) limit) refl (left_fits limit es)

-- so many of the ids go first, and the others are left
abbrev GoFirst : Used → List ℕ → Used → Type 0
GoFirst used ids left = (ids ≡ map (λ e. e.0) (take (length ids) used)) × (left ≡ drop (length ids) used)

first_by : (limit : ℕ) (e : ℕ × ℕ) (es : Used) (x : Bool) → GoFirst es (victims_of limit es) (left_of limit es) →
    GoFirst (e ∷ es) (cond x [] (e.0 ∷ victims_of limit es)) (cond x (e ∷ es) (left_of limit es))
first_by limit e es true h = (refl, refl)
first_by limit e es false h = (ap (λ l. e.0 ∷ l) h.0, h.1)

-- the ids that go are the first ones, and the others are left
pub victims_go_first : VictimsGoFirst
victims_go_first limit [] = (refl, refl)
victims_go_first limit (e ∷ es) = first_by limit e es (nat_le (total_weight (e ∷ es)) limit) (victims_go_first limit es)

fewest_by : (limit : ℕ) (e : ℕ × ℕ) (es : Used) (count : ℕ) (x : Bool) → nat_le (total_weight (e ∷ es)) limit ≡ x → count < length (cond x [] (e.0 ∷ victims_of limit es)) →
    ((n : ℕ) → n < length (victims_of limit es) → limit < total_weight (drop n es)) → limit < total_weight (drop count (e ∷ es))
fewest_by limit e es count true m h ih = absurd (omega arith)
fewest_by limit e es zero false m h ih = leb-false (total_weight (e ∷ es)) limit m
fewest_by limit e es (suc n) false m h ih = ih n (omega arith)

-- with fewer gone the others would weigh more than the limit together
pub victims_are_fewest : VictimsAreFewest
victims_are_fewest limit [] count h = absurd (omega arith)
victims_are_fewest limit (e ∷ es) count h = fewest_by limit e es count (nat_le (total_weight (e ∷ es)) limit) refl h (victims_are_fewest limit es)
