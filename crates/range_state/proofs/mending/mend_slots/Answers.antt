use Rattle.std.proofs.Common.{◌≡◌, ◌+◌, ◌≤◌, List, length, not, is_some, take, sym, ◌∙◌, ap, subst, arith}
use Rattle.std.proofs.lemmas.Result.{err_from_is_err_and}
use Rattle.semantics.specs.Texts.{pairs_where}
use Rattle.semantics.specs.Patterns.{Slots, bind}
use Rattle.semantics.specs.Joins.{Join}
use Rattle.semantics.specs.Outputs.{out}
use Rattle.semantics.specs.States.{below, merged}
use Rattle.range_evaluation.specs.Trees.{Need, is_asked, tree}
use Rattle.join_rows.specs.Kept.{AddsEach, AreApart, KeptRows}
use Rattle.join_eval.specs.Bounds.{Allows, Exceeds, most_of}
use Rattle.join_eval.specs.Collecting.{AreBeside}
use Rattle.join_eval.proofs.CollectingLemmas.{exceeds_more, on_too_wide_weaker}
use Rattle.range_state.proofs.MendLemmas.{adds_long}
use Rattle.range_state.proofs.mending.mend_slots.Goals as goal

pub returns-in_err-evaluated-clause-wide : goal.returns-in_err-evaluated-clause-wide
returns-in_err-evaluated-clause-wide g c =
    let s = c.args.subject.now in
    let table = below (take c.args.position (g.R.Reader.list c.args.reader.now)) s.rank in
    let most = most_of c.args.bound in
    let lent = tree s.join c.lend-slots.result s.range table in
    let found = tree s.join c.args.slots.now s.range table in
    let same : length lent ≡ length found = ap (λ (ss : Slots). length (tree s.join ss s.range table)) c.lend-slots.ensures.lent in
    let p = err_from_is_err_and c.from_residual.result c.from_residual.ensures.1 in
    rw (p.1, p.2) (on_too_wide_weaker c.in_err-evaluated.field-0.0
    (λ (many : Exceeds most (length lent)). exceeds_more most (length lent) (length c.args.rows.now.needs + length found) (omega (arith, same)) many) c.in_err-evaluated.ensures.wide)

pub merge_behind-requires-clause-within : goal.merge_behind-requires-clause-within
merge_behind-requires-clause-within g c =
    let left : c.replace-left.result.needs ≡ c.args.rows.now.needs = ap (λ (rows : KeptRows). rows.needs) (c.replace-left.ensures.value ∙ c.drop_fitting.ensures) in
    subst (λ (ks : List Need). c.in_ok-evaluated.evaluated.met ≤ length ks) (c.needs-known.ensures ∙ sym left) c.in_ok-evaluated.ensures.needs.within

pub merge_behind-requires-clause-apart : goal.merge_behind-requires-clause-apart
merge_behind-requires-clause-apart g c =
    let left : c.replace-left.result.needs ≡ c.args.rows.now.needs = ap (λ (rows : KeptRows). rows.needs) (c.replace-left.ensures.value ∙ c.drop_fitting.ensures) in
    subst (λ (ks : List Need). AreApart (take c.in_ok-evaluated.evaluated.met ks) c.in_ok-evaluated.evaluated.rows.needs) (c.needs-known.ensures ∙ sym left) c.in_ok-evaluated.ensures.needs.apart

pub merge_behind-requires-clause-once : goal.merge_behind-requires-clause-once
merge_behind-requires-clause-once g c = c.in_ok-evaluated.ensures.needs.once

pub returns-clause-rows : goal.returns-clause-rows
returns-clause-rows g c =
    let s = c.args.subject.now in
    let table = below (take c.args.position (g.R.Reader.list c.args.reader.now)) s.rank in
    let lent = c.lend-slots.ensures.lent in
    let output : c.join.inside.output ≡ s.join.output = ap (λ (j : Join). j.output) c.join.view_is in
    c.in_ok-rows.ensures.pairs
    ∙ (λ i. merged
    ((ap (λ (rows : KeptRows). rows.pairs) (c.replace-left.ensures.value ∙ c.drop_fitting.ensures) ∙ (λ k. pairs_where (λ key. not (is_some (bind (output k) key (lent k)))) c.args.rows.now.pairs)) i)
    ((c.in_ok-evaluated.ensures.rows ∙ (λ k. pairs_where (is_asked s.join.output (lent k) s.range) (out s.join table))) i))

pub returns-clause-needs : goal.returns-clause-needs
returns-clause-needs g c =
    let s = c.args.subject.now in
    let table = below (take c.args.position (g.R.Reader.list c.args.reader.now)) s.rank in
    let old = c.args.rows.now.needs in
    let fresh = c.in_ok-evaluated.evaluated.rows.needs in
    let left : c.replace-left.result.needs ≡ old = ap (λ (rows : KeptRows). rows.needs) (c.replace-left.ensures.value ∙ c.drop_fitting.ensures) in
    let beside : AreBeside old (tree s.join c.args.slots.now s.range table) c.in_ok-evaluated.evaluated.met fresh =
    subst (λ (w : List Need × Slots). AreBeside w.0 (tree s.join w.1 s.range table) c.in_ok-evaluated.evaluated.met fresh) (λ i. (c.needs-known.ensures i, c.lend-slots.ensures.lent i)) c.in_ok-evaluated.ensures.needs in
    beside.adds c.in_ok-rows.field-0.needs (subst (λ (ks : List Need). AddsEach fresh ks c.in_ok-rows.field-0.needs) left c.in_ok-rows.ensures.needs)

pub returns-clause-long : goal.returns-clause-long
returns-clause-long g c =
    let s = c.args.subject.now in
    let table = below (take c.args.position (g.R.Reader.list c.args.reader.now)) s.rank in
    adds_long (tree s.join c.args.slots.now s.range table) c.args.rows.now.needs c.in_ok-rows.field-0.needs (returns-clause-needs g c)

pub returns-clause-few : goal.returns-clause-few
returns-clause-few g c = subst (λ (needs : List Need). Allows (most_of c.args.bound) (length needs)) c.needs.ensures c.in_ok-check.ensures.few

pub returns-in_err-check-clause-wide : goal.returns-in_err-check-clause-wide
returns-in_err-check-clause-wide g c =
    let s = c.args.subject.now in
    let table = below (take c.args.position (g.R.Reader.list c.args.reader.now)) s.rank in
    let most = most_of c.args.bound in
    let asked = tree s.join c.args.slots.now s.range table in
    let old = c.args.rows.now.needs in
    let fresh = c.in_ok-evaluated.evaluated.rows.needs in
    let merged_needs = c.in_ok-rows.field-0.needs in
    let left : c.replace-left.result.needs ≡ old = ap (λ (rows : KeptRows). rows.needs) (c.replace-left.ensures.value ∙ c.drop_fitting.ensures) in
    let beside : AreBeside old asked c.in_ok-evaluated.evaluated.met fresh =
    subst (λ (w : List Need × Slots). AreBeside w.0 (tree s.join w.1 s.range table) c.in_ok-evaluated.evaluated.met fresh) (λ i. (c.needs-known.ensures i, c.lend-slots.ensures.lent i)) c.in_ok-evaluated.ensures.needs in
    let adds : AddsEach asked old merged_needs = beside.adds merged_needs (subst (λ (ks : List Need). AddsEach fresh ks merged_needs) left c.in_ok-rows.ensures.needs) in
    let long : length merged_needs ≤ length old + length asked = adds_long asked old merged_needs adds in
    let same : length c.needs.result.now ≡ length merged_needs = ap length c.needs.ensures in
    let p = err_from_is_err_and c.from_residual-in_err-check.result c.from_residual-in_err-check.ensures.1 in
    rw (p.1, p.2) (on_too_wide_weaker c.in_err-check.field-0.0
    (λ (many : Exceeds most (length c.needs.result.now)). exceeds_more most (length c.needs.result.now) (length old + length asked) (omega (arith, same, long)) many) c.in_err-check.ensures.wide)
