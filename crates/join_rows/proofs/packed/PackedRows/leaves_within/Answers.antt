use Rattle.std.proofs.Common.{◌≡◌, List, sym, ap, ◌∙◌, subst}
use Rattle.semantics.specs.Texts.{pairs_within, Table}
use Rattle.join_rows.specs.Leaves.{all_rows, AreLeaves}
use Rattle.join_rows.proofs.WithinLemmas.{within-span}
use Rattle.join_rows.proofs.packed.PackedRows.leaves_within.Goals as goal

pub span_of-span-requires : goal.span_of-span-requires
span_of-span-requires c = subst (λ (ls : List Table). AreLeaves ls) (sym c.as_slice-leaves.ensures.value) c.self.invariant.leaves

pub returns : goal.returns
returns c =
    let span = c.span_of-span.result in
    within-span c.args.range.now c.as_slice-leaves.result.now span.from span.to c.span_of-span.ensures.order c.span_of-span.ensures.below c.span_of-span.ensures.above
    ∙ ap (λ (ls : List Table). pairs_within c.args.range.now (all_rows ls)) c.as_slice-leaves.ensures.value ∙ ap (pairs_within c.args.range.now) c.self.view_is
