-- The rank of the join of a cell that is brought forward, and where a read reaches back to.
use Rattle.std.proofs.Common.{ℕ, ◌≤◌, take, Option, sym, ap, subst}
use Rattle.semantics.specs.Histories.{History}
use Rattle.join_set.specs.Sets.{Joins, AreJoins}
use Rattle.write_history.specs.Marks.{reach}
use Rattle.write_history.specs.Passes.{PassView}
use Rattle.write_history.proofs.Marking.{before_near}
use Rattle.base_shards.specs.Reading.{ReachesBack}
use Rattle.cell_slots.specs.Slots.{IsRankIn, IsRankAt}

-- the rank among the joins that stand after p entries is the one that the join has there
pub rank_among : {floor : ℕ} (h : History) (p at : ℕ) (joins : Joins) (rank : Option ℕ) → AreJoins floor joins (take p h) → IsRankIn joins.standing at rank → IsRankAt h p at rank
rank_among h p at joins rank are found = subst (λ js. IsRankIn js at rank) are.standing found

-- a position that a pass reaches back to is not below where it reaches
pub reaches_to : (pass : PassView) (p : ℕ) → ReachesBack pass p → reach pass.mark ≤ p
reaches_to pass p back = subst (λ n. n ≤ p) (sym (ap reach back.pinned)) (before_near back.pin p back.near)
