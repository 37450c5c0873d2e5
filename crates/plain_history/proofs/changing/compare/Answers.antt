use Rattle.std.proofs.Common.{◌≡◌, [], map, ap, ◌∙◌}
use Rattle.std.proofs.lemmas.Result.{IfOk-weaker}
use Rattle.semantics.specs.Texts.{pairs_within}
use Rattle.semantics.specs.States.{merged}
use Rattle.growing_history.specs.StateChanges.{changes_among, changes_between}
use Rattle.plain_history.proofs.ComparedLemmas.{compared}
use Rattle.plain_history.proofs.changing.compare.Goals as goal

pub returns : goal.returns
returns c =
    let range = c.args.range.now in
    let before = c.args.before.now in
    let after = c.args.after.now in
    let first : c.put_all.new.table ≡ merged [] (pairs_within range before) = c.in_ok-put_all.ensures ∙ (λ i. merged (c.new-either.ensures i) (c.in_ok-old.ensures i)) in
    let both : c.put_all-2.new.table ≡ merged (merged [] (pairs_within range before)) (pairs_within range after) = c.in_ok-put_all-2.ensures ∙ (λ i. merged (first i) (c.in_ok-new.ensures i)) in
    IfOk-weaker c.changes_at.result (λ found. found.items ≡ changes_among (map (λ p. p.0) c.in_ok-pairs.pairs.items) before after) (λ found. found.items ≡ changes_between range before after)
    (λ found is. is ∙ ap (λ ps. changes_among (map (λ p. p.0) ps) before after) c.in_ok-pairs.ensures ∙ compared range before after c.put_all-2.new.table c.requires.ascends c.requires.other_ascends both)
    c.changes_at.ensures
