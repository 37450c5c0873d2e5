use Rattle.std.proofs.Common.{◌≡◌, ◌<◌, ◌∙◌, ap, arith}
use Rattle.semantics.specs.Histories.{without}
use Rattle.semantics.specs.States.{ranks_of}
use Rattle.join_set.specs.Sets.{Joins}
use Rattle.join_set.proofs.RemoveLemmas.{admissible_without, ranked_without, up_to_without}
use Rattle.join_set.proofs.set.JoinSet.remove.Goals as goal

pub ranks_of-requires : goal.ranks_of-requires
ranks_of-requires c =
    admissible_without c.args.position c.self.inside.joins.items c.as_slice.result.now c.self.invariant.ranked.admissible
    (c.as_slice.ensures.value ∙ c.in_ok-left.ensures ∙ ap (without c.args.position) c.as_slice-joins.ensures.value)

pub invariant_of-self-2 : goal.invariant_of-self-2
invariant_of-self-2 c =
    let inside = c.self.inside in
    let left = c.in_ok-left.ensures ∙ ap (without c.args.position) c.as_slice-joins.ensures.value in
    let later : inside.changed < c.args.at = omega (arith, c.requires, ap (λ (s : Joins). s.changed) c.self.view_is) in
    record {
      ranked = ranked_without c.args.position inside.joins.items c.in_ok-left.left.items c.in_ok-ranks.ranks.items c.self.invariant.ranked.admissible left (c.in_ok-ranks.ensures ∙ ap ranks_of c.as_slice.ensures.value);
      up_to = up_to_without inside.changed c.args.at c.args.position inside.joins.items c.in_ok-left.left.items later c.self.invariant.up_to left;
    }
