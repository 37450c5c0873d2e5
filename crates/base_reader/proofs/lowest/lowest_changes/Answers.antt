use Rattle.std.proofs.Common.{◌≤◌, sym, ◌∙◌, subst, arith}
use Rattle.growing_history.specs.Changes.{changed_keys}
use Rattle.growing_history.proofs.PrefixLemmas.{prefix_length, take_prefix}
use Rattle.join_eval.proofs.BetweenLemmas.{between_over}
use Rattle.join_eval.proofs.MovesLemmas.{moves_trans}
use Rattle.join_eval.proofs.ValueLemmas.{keys_of_valued, valued_have_values}
use Rattle.base_reader.proofs.ReadingLemmas.{base_changes_count, changed_listed, changes_seen, known_since, no_value_hidden, unknown_since}
use Rattle.base_reader.proofs.lowest.lowest_changes.Goals as goal

pub returns-in_err-found-clause-entered : goal.returns-in_err-found-clause-entered
returns-in_err-found-clause-entered g c = c.base_changes.ensures.moves.entered c.base_changes.ensures.entered

pub lowest_between-requires-clause-within : goal.lowest_between-requires-clause-within
lowest_between-requires-clause-within g c = let list = g.S.BaseSource.list in omega (arith, c.requires.within, prefix_length (list c.args.source.now) (list c.base_changes.new.self) c.base_changes.ensures.moves.kept)

pub lowest_between-requires-clause-above : goal.lowest_between-requires-clause-above
lowest_between-requires-clause-above g c = subst (λ n. n ≤ c.args.q) (sym c.base_changes.ensures.moves.same_floor) c.requires.above

pub returns-in_err-joins-clause-moves : goal.returns-in_err-joins-clause-moves
returns-in_err-joins-clause-moves g c =
    moves_trans g.S.BaseSource.list g.S.BaseSource.floor g.S.BaseSource.went c.args.source.now c.base_changes.new.self c.lowest_between.new.source
    (g.met.S.BaseSource.went_trans c.args.source.now c.base_changes.new.self c.lowest_between.new.source) c.base_changes.ensures.moves c.lowest_between.ensures.moves

pub returns-in_err-joins-clause-entered : goal.returns-in_err-joins-clause-entered
returns-in_err-joins-clause-entered g c = c.lowest_between.ensures.moves.entered (c.base_changes.ensures.moves.entered c.base_changes.ensures.entered)

pub returns-then-not-is_known-clause-exact : goal.returns-then-not-is_known-clause-exact
returns-then-not-is_known-clause-exact g c =
    let list = g.S.BaseSource.list in
    unknown_since (list c.args.source.now) c.args.q c.args.p c.args.rank c.args.range.now c.in_ok-joins.joins
    (between_over (list c.args.source.now) (list c.base_changes.new.self) c.args.q c.args.p c.args.range.now c.in_ok-joins.joins (take_prefix c.args.p (list c.args.source.now) (list c.base_changes.new.self) c.requires.within c.base_changes.ensures.moves.kept) c.in_ok-joins.ensures.said)
    (sym c.is_known.ensures ∙ c.if-not-is_known.true)

pub returns-then-not-is_known-clause-moves : goal.returns-then-not-is_known-clause-moves
returns-then-not-is_known-clause-moves g c =
    moves_trans g.S.BaseSource.list g.S.BaseSource.floor g.S.BaseSource.went c.args.source.now c.base_changes.new.self c.lowest_between.new.source
    (g.met.S.BaseSource.went_trans c.args.source.now c.base_changes.new.self c.lowest_between.new.source) c.base_changes.ensures.moves c.lowest_between.ensures.moves

pub returns-then-not-is_known-clause-entered : goal.returns-then-not-is_known-clause-entered
returns-then-not-is_known-clause-entered g c = c.lowest_between.ensures.moves.entered (c.base_changes.ensures.moves.entered c.base_changes.ensures.entered)

pub returns-then-not-is_known-clause-bare : goal.returns-then-not-is_known-clause-bare
returns-then-not-is_known-clause-bare g c = λ bare.
    let list = g.S.BaseSource.list in
    absurd ((unknown_since (list c.args.source.now) c.args.q c.args.p c.args.rank c.args.range.now c.in_ok-joins.joins
    (between_over (list c.args.source.now) (list c.base_changes.new.self) c.args.q c.args.p c.args.range.now c.in_ok-joins.joins (take_prefix c.args.p (list c.args.source.now) (list c.base_changes.new.self) c.requires.within c.base_changes.ensures.moves.kept) c.in_ok-joins.ensures.said)
    (sym c.is_known.ensures ∙ c.if-not-is_known.true)).computed bare)

pub returns-then-not-is_known-clause-bare_cost : goal.returns-then-not-is_known-clause-bare_cost
returns-then-not-is_known-clause-bare_cost g c = λ bare.
    let list = g.S.BaseSource.list in
    let rows = base_changes_count (list c.args.source.now) c.args.q c.args.p c.args.range.now c.in_ok-found.found.items c.in_ok-found.ensures.exact in
    let cost = c.in_ok-found.ensures.cost in
    omega (arith, rows, cost)

pub visible_changes-requires-clause-within : goal.visible_changes-requires-clause-within
visible_changes-requires-clause-within g c =
    let list = g.S.BaseSource.list in
    let two = moves_trans g.S.BaseSource.list g.S.BaseSource.floor g.S.BaseSource.went c.args.source.now c.base_changes.new.self c.lowest_between.new.source
    (g.met.S.BaseSource.went_trans c.args.source.now c.base_changes.new.self c.lowest_between.new.source) c.base_changes.ensures.moves c.lowest_between.ensures.moves in
    omega (arith, c.requires.within, prefix_length (list c.args.source.now) (list c.lowest_between.new.source) two.kept)

pub visible_changes-requires-clause-above : goal.visible_changes-requires-clause-above
visible_changes-requires-clause-above g c =
    let two = moves_trans g.S.BaseSource.list g.S.BaseSource.floor g.S.BaseSource.went c.args.source.now c.base_changes.new.self c.lowest_between.new.source
    (g.met.S.BaseSource.went_trans c.args.source.now c.base_changes.new.self c.lowest_between.new.source) c.base_changes.ensures.moves c.lowest_between.ensures.moves in
    let from : g.S.BaseSource.floor c.args.source.now ≤ c.args.p = omega (arith, c.requires.above, c.requires.order) in
    subst (λ n. n ≤ c.args.p) (sym two.same_floor) from

pub visible_changes-requires-clause-bare : goal.visible_changes-requires-clause-bare
visible_changes-requires-clause-bare g c =
    let list = g.S.BaseSource.list in
    let two = moves_trans g.S.BaseSource.list g.S.BaseSource.floor g.S.BaseSource.went c.args.source.now c.base_changes.new.self c.lowest_between.new.source
    (g.met.S.BaseSource.went_trans c.args.source.now c.base_changes.new.self c.lowest_between.new.source) c.base_changes.ensures.moves c.lowest_between.ensures.moves in
    no_value_hidden (list c.args.source.now) (list c.lowest_between.new.source) c.args.q c.args.p c.args.range.now c.in_ok-found.found.items c.requires.within two.kept c.base_changes.ensures.entered c.look_at.ensures c.in_ok-found.ensures.exact

pub returns-in_err-changes-clause-moves : goal.returns-in_err-changes-clause-moves
returns-in_err-changes-clause-moves g c =
    let two = moves_trans g.S.BaseSource.list g.S.BaseSource.floor g.S.BaseSource.went c.args.source.now c.base_changes.new.self c.lowest_between.new.source
    (g.met.S.BaseSource.went_trans c.args.source.now c.base_changes.new.self c.lowest_between.new.source) c.base_changes.ensures.moves c.lowest_between.ensures.moves in
    moves_trans g.S.BaseSource.list g.S.BaseSource.floor g.S.BaseSource.went c.args.source.now c.lowest_between.new.source c.visible_changes.new.source
    (g.met.S.BaseSource.went_trans c.args.source.now c.lowest_between.new.source c.visible_changes.new.source) two c.visible_changes.ensures.moves

pub returns-in_err-changes-clause-entered : goal.returns-in_err-changes-clause-entered
returns-in_err-changes-clause-entered g c = c.visible_changes.ensures.moves.entered (c.lowest_between.ensures.moves.entered (c.base_changes.ensures.moves.entered c.base_changes.ensures.entered))

pub returns-clause-exact : goal.returns-clause-exact
returns-clause-exact g c =
    let list = g.S.BaseSource.list in
    let two = moves_trans g.S.BaseSource.list g.S.BaseSource.floor g.S.BaseSource.went c.args.source.now c.base_changes.new.self c.lowest_between.new.source
    (g.met.S.BaseSource.went_trans c.args.source.now c.base_changes.new.self c.lowest_between.new.source) c.base_changes.ensures.moves c.lowest_between.ensures.moves in
    let seen = changes_seen (list c.args.source.now) (list c.lowest_between.new.source) c.args.q c.args.p c.args.rank c.args.range.now c.in_ok-found.found.items c.in_ok-changes.changes.items c.requires.within two.kept c.requires.ranked c.in_ok-found.ensures.exact c.in_ok-changes.ensures.visible in
    let keys = keys_of_valued _ (changed_keys c.args.q c.args.p c.args.range.now (list c.args.source.now)) c.in_ok-changes.changes.items seen in
    changed_listed (list c.args.source.now) c.args.q c.args.p c.args.rank c.args.range.now _ c.base_changes.ensures.entered c.look_at.ensures c.requires.order c.requires.ranked keys
    (known_since (list c.args.source.now) c.args.q c.args.p c.args.range.now c.in_ok-joins.joins
    (between_over (list c.args.source.now) (list c.base_changes.new.self) c.args.q c.args.p c.args.range.now c.in_ok-joins.joins (take_prefix c.args.p (list c.args.source.now) (list c.base_changes.new.self) c.requires.within c.base_changes.ensures.moves.kept) c.in_ok-joins.ensures.said)
    (sym c.is_known.ensures ∙ c.if-not-is_known.false))

pub returns-clause-values : goal.returns-clause-values
returns-clause-values g c =
    let list = g.S.BaseSource.list in
    let two = moves_trans g.S.BaseSource.list g.S.BaseSource.floor g.S.BaseSource.went c.args.source.now c.base_changes.new.self c.lowest_between.new.source
    (g.met.S.BaseSource.went_trans c.args.source.now c.base_changes.new.self c.lowest_between.new.source) c.base_changes.ensures.moves c.lowest_between.ensures.moves in
    let seen = changes_seen (list c.args.source.now) (list c.lowest_between.new.source) c.args.q c.args.p c.args.rank c.args.range.now c.in_ok-found.found.items c.in_ok-changes.changes.items c.requires.within two.kept c.requires.ranked c.in_ok-found.ensures.exact c.in_ok-changes.ensures.visible in
    valued_have_values _ (changed_keys c.args.q c.args.p c.args.range.now (list c.args.source.now)) c.in_ok-changes.changes.items seen

pub returns-clause-moves : goal.returns-clause-moves
returns-clause-moves g c =
    let two = moves_trans g.S.BaseSource.list g.S.BaseSource.floor g.S.BaseSource.went c.args.source.now c.base_changes.new.self c.lowest_between.new.source
    (g.met.S.BaseSource.went_trans c.args.source.now c.base_changes.new.self c.lowest_between.new.source) c.base_changes.ensures.moves c.lowest_between.ensures.moves in
    moves_trans g.S.BaseSource.list g.S.BaseSource.floor g.S.BaseSource.went c.args.source.now c.lowest_between.new.source c.visible_changes.new.source
    (g.met.S.BaseSource.went_trans c.args.source.now c.lowest_between.new.source c.visible_changes.new.source) two c.visible_changes.ensures.moves

pub returns-clause-entered : goal.returns-clause-entered
returns-clause-entered g c = c.visible_changes.ensures.moves.entered (c.lowest_between.ensures.moves.entered (c.base_changes.ensures.moves.entered c.base_changes.ensures.entered))

pub returns-clause-bare : goal.returns-clause-bare
returns-clause-bare g c = λ bare.
    let list = g.S.BaseSource.list in
    let two = moves_trans g.S.BaseSource.list g.S.BaseSource.floor g.S.BaseSource.went c.args.source.now c.base_changes.new.self c.lowest_between.new.source
    (g.met.S.BaseSource.went_trans c.args.source.now c.base_changes.new.self c.lowest_between.new.source) c.base_changes.ensures.moves c.lowest_between.ensures.moves in
    let seen = changes_seen (list c.args.source.now) (list c.lowest_between.new.source) c.args.q c.args.p c.args.rank c.args.range.now c.in_ok-found.found.items c.in_ok-changes.changes.items c.requires.within two.kept c.requires.ranked c.in_ok-found.ensures.exact c.in_ok-changes.ensures.visible in
    let keys = keys_of_valued _ (changed_keys c.args.q c.args.p c.args.range.now (list c.args.source.now)) c.in_ok-changes.changes.items seen in
    keys

pub returns-clause-bare_cost : goal.returns-clause-bare_cost
returns-clause-bare_cost g c = λ bare.
    let list = g.S.BaseSource.list in
    let rows = base_changes_count (list c.args.source.now) c.args.q c.args.p c.args.range.now c.in_ok-found.found.items c.in_ok-found.ensures.exact in
    let cost = c.in_ok-found.ensures.cost in
    omega (arith, rows, cost)
