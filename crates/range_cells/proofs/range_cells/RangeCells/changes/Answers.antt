use Rattle.std.proofs.Common.{take, sym, ap, ◌∙◌, subst, arith}
use Rattle.std.proofs.lemmas.Result.{IfOk-weaker}
use Rattle.layering.specs.Merging.{Ascends}
use Rattle.semantics.specs.States.{state}
use Rattle.semantics.proofs.StateLemmas.{ascending-state}
use Rattle.growing_history.specs.StateChanges.{changes}
use Rattle.growing_history.proofs.ListLemmas.{nothing_between}
use Rattle.base_shards.proofs.ReadingLemmas.{reads_on-refl, reads_on-trans, reaches_still, sees_still}
use Rattle.range_cells.specs.Asked.{pairs_asked}
use Rattle.range_cells.specs.Comparing.{changes_of}
use Rattle.range_cells.proofs.ChangingLemmas.{ascends_asked, asked_changes, joins_still, state_still}
use Rattle.range_cells.proofs.range_cells.RangeCells.changes.Goals as goal

-- ---- from a position to itself

pub returns-then-q-p-clause-exact : goal.returns-then-q-p-clause-exact
returns-then-q-p-clause-exact g c =
    c.new.ensures.items ∙ sym (nothing_between c.args.range.now c.args.pass.now.view c.args.q) ∙ ap (changes c.args.range.now c.args.pass.now.view c.args.q) c.if-q-p.true

pub returns-then-q-p-clause-reads_on : goal.returns-then-q-p-clause-reads_on
returns-then-q-p-clause-reads_on g c = reads_on-refl c.args.pass.now

-- ---- the earlier position

pub read_asked-requires-clause-same_history : goal.read_asked-requires-clause-same_history
read_asked-requires-clause-same_history g c = c.read_later.ensures.reads_on.same_history ∙ c.requires.same_history

pub read_asked-requires-clause-recorded : goal.read_asked-requires-clause-recorded
read_asked-requires-clause-recorded g c = c.read_later.ensures.reads_on.recorded c.requires.recorded

pub read_asked-requires-clause-within : goal.read_asked-requires-clause-within
read_asked-requires-clause-within g c =
    sees_still c.args.pass.now c.read_later.new.pass c.args.q c.read_later.ensures.reads_on (omega (arith, c.requires.order, c.requires.within))

pub read_asked-requires-clause-pinned : goal.read_asked-requires-clause-pinned
read_asked-requires-clause-pinned g c = reaches_still c.args.pass.now c.read_later.new.pass c.args.q c.read_later.ensures.reads_on c.requires.pinned

pub read_asked-requires-clause-joins : goal.read_asked-requires-clause-joins
read_asked-requires-clause-joins g c =
    joins_still c.args.pass.now c.read_later.new.pass c.args.q c.args.old.now c.read_later.ensures.reads_on (omega (arith, c.requires.order, c.requires.within)) c.requires.old_joins

pub returns-in_err-before-clause-reads_on : goal.returns-in_err-before-clause-reads_on
returns-in_err-before-clause-reads_on g c =
    reads_on-trans c.args.pass.now c.read_later.new.pass c.read_asked.new.pass c.read_later.ensures.reads_on c.read_asked.ensures.reads_on

pub returns-clause-reads_on : goal.returns-clause-reads_on
returns-clause-reads_on g c =
    reads_on-trans c.args.pass.now c.read_later.new.pass c.read_asked.new.pass c.read_later.ensures.reads_on c.read_asked.ensures.reads_on

-- ---- both positions

pub compare-requires-clause-ascends : goal.compare-requires-clause-ascends
compare-requires-clause-ascends g c =
    let asked = c.in_ok-asked.asked in
    let then = c.read_later.new.pass.view in
    subst Ascends (sym (c.as_slice.ensures.value ∙ c.in_ok-before.ensures.exact))
    (ascends_asked c.args.pass.now.view c.args.q c.args.p c.args.range.now asked.touched (state (take c.args.q then)) c.in_ok-asked.ensures.touched (ascending-state (take c.args.q then)))

pub compare-requires-clause-other_ascends : goal.compare-requires-clause-other_ascends
compare-requires-clause-other_ascends g c =
    let asked = c.in_ok-asked.asked in
    let seen = c.args.pass.now.view in
    subst Ascends (sym (c.as_slice-2.ensures.value ∙ c.in_ok-asked.ensures.exact))
    (ascends_asked seen c.args.q c.args.p c.args.range.now asked.touched (state (take c.args.p seen)) c.in_ok-asked.ensures.touched (ascending-state (take c.args.p seen)))

pub returns-clause-exact : goal.returns-clause-exact
returns-clause-exact g c =
    let asked = c.in_ok-asked.asked in
    let were =
    c.in_ok-before.ensures.exact
    ∙ ap (pairs_asked asked.touched c.args.range.now) (state_still c.args.pass.now c.read_later.new.pass c.args.q c.read_later.ensures.reads_on (omega (arith, c.requires.order, c.requires.within))) in
    IfOk-weaker c.compare.result _ _
    (λ made is.
    is ∙ (λ i. changes_of ((c.as_slice.ensures.value ∙ were) i) ((c.as_slice-2.ensures.value ∙ c.in_ok-asked.ensures.exact) i))
    ∙ asked_changes c.args.pass.now.view c.args.q c.args.p c.args.range.now asked.touched c.requires.order c.in_ok-asked.ensures.touched) c.compare.ensures
