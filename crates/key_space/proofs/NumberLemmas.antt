-- The numbers that digits write.
use Rattle.std.proofs.Common.{ℕ, zero, suc, ◌+◌, ◌-◌, ◌*◌, ◌≤◌, List, [], ◌∷◌, take, fold, arith}
use Rattle.semantics.specs.Outputs.{digits_value}

-- a digit more makes no number less
grows : (n : ℕ) (bs : List ℕ) → n ≤ fold (λ m b. 10 * m + (b - 48)) n bs
grows n [] = omega arith
grows n (b ∷ bs) = omega (arith, grows (10 * n + (b - 48)) bs)

-- nor do all, behind a number
part_by : (n : ℕ) (bs : List ℕ) (i : ℕ) → fold (λ m b. 10 * m + (b - 48)) n (take i bs) ≤ fold (λ m b. 10 * m + (b - 48)) n bs
part_by n [] zero = omega arith
part_by n [] (suc i) = omega arith
part_by n (b ∷ bs) zero = grows n (b ∷ bs)
part_by n (b ∷ bs) (suc i) = part_by (10 * n + (b - 48)) bs i

-- the first digits write no greater number than all
pub first_digits : (bs : List ℕ) (i : ℕ) → digits_value (take i bs) ≤ digits_value bs
first_digits bs i = part_by 0 bs i
