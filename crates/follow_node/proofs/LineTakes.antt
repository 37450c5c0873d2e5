-- What taking a line comes to.
use Rattle.std.proofs.Common.{◌≡◌, ℕ, ◌+◌, zero, suc, List, [], ◌∷◌, ◌++◌, length, drop, true, false, cond, ap, ◌∙◌, subst, arith, length-append}
use Rattle.std.specs.Prelude.{Option}
use Rattle.semantics.specs.Histories.{Write, History}
use Rattle.protocol.specs.Batches.{Batch}
use Rattle.follow_node.specs.FedLines.{of_entries, fed_line}
use Rattle.follow_node.specs.Fed.{writes_of}
use Rattle.follow_node.specs.Replicas.{TakesSome}
use Rattle.follow_node.specs.Feeders.{FeederView}
use Rattle.follow_node.specs.Pulls.{takes, is_bad, is_next, heed, heed_line}
use Rattle.follow_node.specs.declared.replica.Taken.{Taken}

-- so many more writes there are
pub taken_length : (ws rest : List Write) (result : Taken) (n : ℕ) (ws' : List Write) → TakesSome ws rest result n ws' → length ws' ≡ length ws + n
taken_length ws [] result n ws' took = let none = took.1 in let same = ap length took.2 in omega arith
taken_length ws (w ∷ rest) result zero ws' took = let same = ap length took.0 in omega arith
taken_length ws (w ∷ rest) result (suc n) ws' took =
    let later = taken_length (ws ++ w ∷ []) rest result n ws' took.1 in let one = length-append ws (w ∷ []) in omega arith

-- entries that may be taken are taken
pub heeds_next : (first : Option ℕ) (f : FeederView) (b : Batch) → fed_line f.line ≡ of_entries b → is_next first f.asked b.from b.position (length b.entries) ≡ true → heed_line first f ≡ takes b
heeds_next first f b is next = ap (heed first f.asked) is ∙ ap (λ t. cond t (takes b) is_bad) next

-- others are bad
pub heeds_other : (first : Option ℕ) (f : FeederView) (b : Batch) → fed_line f.line ≡ of_entries b → is_next first f.asked b.from b.position (length b.entries) ≡ false → heed_line first f ≡ is_bad
heeds_other first f b is next = ap (heed first f.asked) is ∙ ap (λ t. cond t (takes b) is_bad) next

-- from the same place among the writes
pub took_from : (ws ws' : List Write) (es : History) (result : Taken) (n t t' : ℕ) → t ≡ t' → TakesSome ws (drop t (writes_of es)) result n ws' → TakesSome ws (drop t' (writes_of es)) result n ws'
took_from ws ws' es result n t t' same took = subst (λ k. TakesSome ws (drop k (writes_of es)) result n ws') same took
