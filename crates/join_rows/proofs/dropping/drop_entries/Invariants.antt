use Rattle.std.proofs.Common.{is_some}
use Rattle.semantics.specs.Patterns.{bind}
use Rattle.join_rows.proofs.DropLemmas.{Thinned}
use Rattle.join_rows.proofs.dropping.drop_entries.Given as goal

abbrev pub invariant-loop-place : goal.invariant-loop-place
invariant-loop-place l = Thinned (λ key. is_some (bind l.pattern key l.slots)) l.bytes l.fn.entries.items l.entries.items l.place

abbrev pub decreases-loop-place : goal.decreases-loop-place
decreases-loop-place l = l.place
