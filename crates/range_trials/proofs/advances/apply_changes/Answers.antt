use Rattle.std.proofs.Common.{Bool, List, filter, sym, ap, ◌∙◌, subst}
use Rattle.std.specs.List.{AllByRecursion}
use Rattle.semantics.proofs.MemberLemmas.{has_filter}
use Rattle.growing_history.proofs.ElementLemmas.{all_from_has, has_of_all}
use Rattle.range_evaluation.specs.Trees.{Need}
use Rattle.join_rows.specs.Kept.{KeptRows}
use Rattle.range_state.specs.Filling.{CanFill}
use Rattle.range_trials.proofs.advances.apply_changes.Goals as goal

-- what holds of each need holds of those that are left
all_left : (P : Need → Type 0) (test : Need → Bool) (needs : List Need) → AllByRecursion P needs → AllByRecursion P (filter test needs)
all_left P test needs all = all_from_has P (filter test needs) (λ need has. has_of_all P needs need all (has_filter test needs need has).1)

pub applications-requires-clause-fills : goal.applications-requires-clause-fills
applications-requires-clause-fills c =
    let left = c.needs.ensures ∙ ap (λ (r : KeptRows). r.needs) c.drop_needs_by_any.ensures in
    subst (AllByRecursion (CanFill c.args.kept.now.join)) (sym left) (all_left (CanFill c.args.kept.now.join) _ c.args.kept.now.rows.needs c.requires.fills)
