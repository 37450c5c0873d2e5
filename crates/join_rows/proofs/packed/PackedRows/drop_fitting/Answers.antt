use Rattle.std.proofs.Common.{◌≡◌, List, take, drop, is_some, not, sym, ap, ◌∙◌, subst, arith}
use Rattle.semantics.specs.Texts.{Text, Table, pairs_where}
use Rattle.semantics.specs.Patterns.{bind}
use Rattle.join_rows.specs.Leaves.{all_rows, AreLeaves}
use Rattle.join_rows.proofs.packed.PackedRows.drop_fitting.Goals as goal

pub span_fitting-span-requires : goal.span_fitting-span-requires
span_fitting-span-requires c = subst (λ (ls : List Table). AreLeaves ls) (sym c.as_slice.ensures.value) c.self.invariant.leaves

pub drop_between-self-inside-requires-clause-inside : goal.drop_between-self-inside-requires-clause-inside
drop_between-self-inside-requires-clause-inside c = omega (arith, c.as_slice.ensures.len, c.span_fitting-span.ensures.inside)

pub drop_between-self-inside-requires-clause-before : goal.drop_between-self-inside-requires-clause-before
drop_between-self-inside-requires-clause-before c =
    let stays = λ (key : Text). not (is_some (bind c.args.pattern.now key c.args.slots.now)) in
    subst (λ (ls : List Table). pairs_where stays (all_rows (take c.span_fitting-span.result.from ls)) ≡ all_rows (take c.span_fitting-span.result.from ls)) c.as_slice.ensures.value c.span_fitting-span.ensures.before

pub drop_between-self-inside-requires-clause-behind : goal.drop_between-self-inside-requires-clause-behind
drop_between-self-inside-requires-clause-behind c =
    let stays = λ (key : Text). not (is_some (bind c.args.pattern.now key c.args.slots.now)) in
    subst (λ (ls : List Table). pairs_where stays (all_rows (drop c.span_fitting-span.result.to ls)) ≡ all_rows (drop c.span_fitting-span.result.to ls)) c.as_slice.ensures.value c.span_fitting-span.ensures.behind

pub returns : goal.returns
returns c =
    let stays = λ (key : Text). not (is_some (bind c.args.pattern.now key c.args.slots.now)) in
    c.drop_between-self-inside.ensures.rows ∙ ap (pairs_where stays) c.self.view_is
