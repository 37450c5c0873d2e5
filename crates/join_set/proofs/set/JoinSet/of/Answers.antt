use Rattle.std.proofs.Common.{◌∙◌, ap, sym, subst}
use Rattle.semantics.specs.States.{IsAdmissible, ranks_of}
use Rattle.join_set.proofs.set.JoinSet.of.Goals as goal

pub invariant_of-result : goal.invariant_of-result
invariant_of-result c = record {
  ranked = record { admissible = c.requires.admissible; exact = c.in_ok-ranks.ensures ∙ ap ranks_of c.as_slice.ensures.value };
  up_to = c.requires.up_to;
}
