use Rattle.std.proofs.Common.{ℕ, ◌+◌, ◌≤◌, sym, ◌∙◌, subst, arith}
use Rattle.growing_history.specs.Changes.{changed_keys}
use Rattle.growing_history.proofs.PrefixLemmas.{prefix_length, take_prefix}
use Rattle.join_eval.specs.declared.reading.Changed.{Changed}
use Rattle.join_eval.specs.declared.reading.Changed.TheVariants.{Keys, All}
use Rattle.join_eval.specs.Answers.{CostsOne}
use Rattle.join_eval.proofs.BetweenLemmas.{between_over}
use Rattle.join_eval.proofs.MovesLemmas.{moves_trans}
use Rattle.join_eval.proofs.ValueLemmas.{keys_of_valued}
use Rattle.base_reader.proofs.ReadingLemmas.{base_changes_count, changed_answered, changed_of_bare}
use Rattle.base_reader.proofs.lowest.lowest_changed.Goals as goal

-- an answer after a step
costs_one : (old new : ℕ) (answer : Changed) → old + 1 ≤ new → CostsOne old new answer
costs_one old new (Keys keys) more = more
costs_one old new All more = tt

pub returns-in_err-changes-clause-entered : goal.returns-in_err-changes-clause-entered
returns-in_err-changes-clause-entered g c = c.base_changes.ensures.moves.entered c.base_changes.ensures.entered

pub lowest_between-requires-clause-within : goal.lowest_between-requires-clause-within
lowest_between-requires-clause-within g c = let list = g.S.BaseSource.list in omega (arith, c.requires.within, prefix_length (list c.args.source.now) (list c.base_changes.new.self) c.base_changes.ensures.moves.kept)

pub lowest_between-requires-clause-above : goal.lowest_between-requires-clause-above
lowest_between-requires-clause-above g c = subst (λ n. n ≤ c.args.q) (sym c.base_changes.ensures.moves.same_floor) c.requires.above

pub returns-in_err-joins-clause-moves : goal.returns-in_err-joins-clause-moves
returns-in_err-joins-clause-moves g c =
    moves_trans g.S.BaseSource.list g.S.BaseSource.floor g.S.BaseSource.went c.args.source.now c.base_changes.new.self c.lowest_between.new.source
    (g.met.S.BaseSource.went_trans c.args.source.now c.base_changes.new.self c.lowest_between.new.source) c.base_changes.ensures.moves c.lowest_between.ensures.moves

pub returns-in_err-joins-clause-entered : goal.returns-in_err-joins-clause-entered
returns-in_err-joins-clause-entered g c = c.lowest_between.ensures.moves.entered (c.base_changes.ensures.moves.entered c.base_changes.ensures.entered)

pub returns-in_err-keys-clause-moves : goal.returns-in_err-keys-clause-moves
returns-in_err-keys-clause-moves g c =
    moves_trans g.S.BaseSource.list g.S.BaseSource.floor g.S.BaseSource.went c.args.source.now c.base_changes.new.self c.lowest_between.new.source
    (g.met.S.BaseSource.went_trans c.args.source.now c.base_changes.new.self c.lowest_between.new.source) c.base_changes.ensures.moves c.lowest_between.ensures.moves

pub returns-in_err-keys-clause-entered : goal.returns-in_err-keys-clause-entered
returns-in_err-keys-clause-entered g c = c.lowest_between.ensures.moves.entered (c.base_changes.ensures.moves.entered c.base_changes.ensures.entered)

pub returns-clause-exact : goal.returns-clause-exact
returns-clause-exact g c =
    let list = g.S.BaseSource.list in
    changed_answered (list c.args.source.now) c.args.q c.args.p c.args.rank c.args.range.now c.in_ok-keys.keys.items c.in_ok-joins.joins c.known.result c.base_changes.ensures.entered c.look_at.ensures c.requires.order c.requires.ranked (c.in_ok-keys.ensures ∙ keys_of_valued _ (changed_keys c.args.q c.args.p c.args.range.now (list c.args.source.now)) c.in_ok-changes.changes.items c.in_ok-changes.ensures.exact)
    (between_over (list c.args.source.now) (list c.base_changes.new.self) c.args.q c.args.p c.args.range.now c.in_ok-joins.joins (take_prefix c.args.p (list c.args.source.now) (list c.base_changes.new.self) c.requires.within c.base_changes.ensures.moves.kept) c.in_ok-joins.ensures.said) c.known.ensures

pub returns-clause-moves : goal.returns-clause-moves
returns-clause-moves g c =
    moves_trans g.S.BaseSource.list g.S.BaseSource.floor g.S.BaseSource.went c.args.source.now c.base_changes.new.self c.lowest_between.new.source
    (g.met.S.BaseSource.went_trans c.args.source.now c.base_changes.new.self c.lowest_between.new.source) c.base_changes.ensures.moves c.lowest_between.ensures.moves

pub returns-clause-entered : goal.returns-clause-entered
returns-clause-entered g c = c.lowest_between.ensures.moves.entered (c.base_changes.ensures.moves.entered c.base_changes.ensures.entered)

pub returns-clause-bare : goal.returns-clause-bare
returns-clause-bare g c = λ bare.
    let list = g.S.BaseSource.list in
    changed_of_bare (list c.args.source.now) c.args.q c.args.p c.args.range.now c.in_ok-keys.keys.items (changed_keys c.args.q c.args.p c.args.range.now (list c.args.source.now)) c.in_ok-joins.joins c.known.result (c.in_ok-keys.ensures ∙ keys_of_valued _ (changed_keys c.args.q c.args.p c.args.range.now (list c.args.source.now)) c.in_ok-changes.changes.items c.in_ok-changes.ensures.exact)
    (between_over (list c.args.source.now) (list c.base_changes.new.self) c.args.q c.args.p c.args.range.now c.in_ok-joins.joins (take_prefix c.args.p (list c.args.source.now) (list c.base_changes.new.self) c.requires.within c.base_changes.ensures.moves.kept) c.in_ok-joins.ensures.said) bare c.known.ensures

pub returns-clause-bare_cost : goal.returns-clause-bare_cost
returns-clause-bare_cost g c = λ bare.
    let rows = base_changes_count (g.S.BaseSource.list c.args.source.now) c.args.q c.args.p c.args.range.now c.in_ok-changes.changes.items c.in_ok-changes.ensures.exact in
    let cost = c.in_ok-changes.ensures.cost in
    omega (arith, rows, cost)

pub returns-clause-cost : goal.returns-clause-cost
returns-clause-cost g c = costs_one c.args.steps.now c.base_changes.new.steps c.known.result (let cost = c.in_ok-changes.ensures.cost in omega (arith, cost))
