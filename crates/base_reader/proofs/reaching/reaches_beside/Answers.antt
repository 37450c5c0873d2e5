use Rattle.std.proofs.Common.{◌≡◌, ◌<◌, ◌≤◌, ℕ, slice_get, Some, ⊎_elim, subst, arith}
use Rattle.std.proofs.lemmas.Bool.{cases_lt}
use Rattle.base_reader.proofs.RankLemmas.{unreached_here}
use Rattle.base_reader.proofs.reaching.reaches_beside.Goals as goal

pub loop-k-init : goal.loop-k-init
loop-k-init c = λ place s less stands apart. absurd (omega (arith, less))

pub loop-k-preserved : goal.loop-k-preserved
loop-k-preserved c = λ place s less stands apart.
    let k : ℕ = c.loop-k.k in
    ⊎_elim (λ (before : place < k). c.loop-k.invariant place s before stands apart)
    (λ (from : k ≤ place).
    let here : place ≡ k = omega (arith, less, from) in
    unreached_here c.args.joins.now.standing c.args.range.now k c.args.i s c.is_reached_beside.result c.is_reached_beside.ensures c.if-is_reached_beside.false
    (subst (λ (n : ℕ). slice_get c.args.joins.now.standing n ≡ Some s) here stands) (subst (λ (n : ℕ). n ≡ c.args.i → ⊥) here apart))
    (cases_lt place k)

pub returns : goal.returns
returns c = λ _ place s less stands apart. c.loop-k.invariant place s (omega (arith, less)) stands apart
