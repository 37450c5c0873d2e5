use Rattle.std.proofs.Common.{◌≡◌, length, take, sym, ap, ◌∙◌, subst, arith}
use Rattle.semantics.specs.States.{below}
use Rattle.growing_history.specs.Changes.{changed_keys}
use Rattle.join_eval.specs.Answers.{HaveValues, change_keys}
use Rattle.join_eval.proofs.MovesLemmas.{moves_refl}
use Rattle.range_state.proofs.AskingLemmas.{quiet_answer, quiet_found}
use Rattle.range_state.proofs.asking.ask.Goals as goal

pub returns-then-is_quiet-clause-exact : goal.returns-then-is_quiet-clause-exact
returns-then-is_quiet-clause-exact g c =
    let h = g.R.Reader.list c.args.reader.now in
    quiet_answer h c.args.q c.args.p c.args.rank c.args.range.now (change_keys c.new.result.items) (ap change_keys c.new.ensures.items)
    (quiet_found h c.args.q c.args.p c.args.rank _ c.args.range.now (c.is_quiet.ensures c.if-is_quiet.true) c.requires.quiet)

pub returns-then-is_quiet-clause-values : goal.returns-then-is_quiet-clause-values
returns-then-is_quiet-clause-values g c = subst (HaveValues (below (take c.args.p (g.R.Reader.list c.args.reader.now)) c.args.rank)) (sym c.new.ensures.items) tt

pub returns-then-is_quiet-clause-bare : goal.returns-then-is_quiet-clause-bare
returns-then-is_quiet-clause-bare g c = λ bare.
    let h = g.R.Reader.list c.args.reader.now in
    ap change_keys c.new.ensures.items ∙ sym ((quiet_found h c.args.q c.args.p c.args.rank _ c.args.range.now (c.is_quiet.ensures c.if-is_quiet.true) c.requires.quiet).unwritten bare)

pub returns-then-is_quiet-clause-bare_cost : goal.returns-then-is_quiet-clause-bare_cost
returns-then-is_quiet-clause-bare_cost g c = λ bare.
    let h = g.R.Reader.list c.args.reader.now in
    let none : length (changed_keys c.args.q c.args.p c.args.range.now h) ≡ 0 =
    ap length ((quiet_found h c.args.q c.args.p c.args.rank _ c.args.range.now (c.is_quiet.ensures c.if-is_quiet.true) c.requires.quiet).unwritten bare) in
    omega (arith, none, c.count_call.ensures)

pub returns-then-is_quiet-clause-moves : goal.returns-then-is_quiet-clause-moves
returns-then-is_quiet-clause-moves g c = moves_refl g.R.Reader.list g.R.Reader.floor g.R.Reader.went c.args.reader.now (g.met.R.Reader.went_refl c.args.reader.now)

pub returns-clause-moves : goal.returns-clause-moves
returns-clause-moves g c = record {
  kept = c.changes.ensures.kept;
  entered = λ _. c.changes.ensures.entered;
  same_floor = c.changes.ensures.same_floor;
  on = c.changes.ensures.on;
}
