use Rattle.std.proofs.Common.{Result, ℕ, subst}
use Rattle.join_rows.specs.Found.{Finds}
use Rattle.join_rows.proofs.WithinLemmas.{parts_at, parts_gap}
use Rattle.join_rows.proofs.leaf.Leaf.count_below.Goals as goal

pub returns-in-Ok : goal.returns-in-Ok
returns-in-Ok c =
    parts_at c.args.key.now c.args.self.now c.in-Ok.place c.find.ensures.rows.ascending
    (subst (λ (r : Result ℕ ℕ). Finds c.args.key.now c.args.self.now r) c.in-Ok.is c.find.ensures.found)

pub returns-in-Err : goal.returns-in-Err
returns-in-Err c =
    parts_gap c.args.key.now c.args.self.now c.in-Err.place (subst (λ (r : Result ℕ ℕ). Finds c.args.key.now c.args.self.now r) c.in-Err.is c.find.ensures.found)
