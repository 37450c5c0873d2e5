use Rattle.std.proofs.Common.{◌≡◌, take, sym, ap, ◌∙◌, subst, inl, inr, arith}
use Rattle.std.proofs.lemmas.Bool.{true≢false}
use Rattle.std.proofs.lemmas.Result.{IfErr-weaker, err_from_is_err_and, on_err_weaker, on_ok_weaker}
use Rattle.semantics.specs.Histories.{History}
use Rattle.semantics.specs.States.{below}
use Rattle.growing_history.proofs.PrefixLemmas.{take_prefix}
use Rattle.join_eval.specs.Bounds.{most_of}
use Rattle.join_eval.proofs.CollectingLemmas.{on_too_wide_weaker}
use Rattle.join_eval.proofs.MovesLemmas.{moves_trans}
use Rattle.kept_ranges.specs.Sound.{KeptRange}
use Rattle.range_state.specs.Ready.{pending_meets}
use Rattle.range_state.specs.Work.{MendsTooMany}
use Rattle.cell_slots.proofs.AdvancedLemmas.{advanced_alone, advanced_and_mended, left_there, mended_over, mended_still, on_err_always, on_ok_always}
use Rattle.cell_slots.proofs.CountingLemmas.{advance_counts, reach_counted, reach_counts}
use Rattle.cell_slots.proofs.UpToLemmas.{fills_wide}
use Rattle.cell_slots.proofs.serving.make_ready.Goals as goal

pub returns-then-pending_meets-clause-moves : goal.returns-then-pending_meets-clause-moves
returns-then-pending_meets-clause-moves g c =
    moves_trans g.R.Reader.list g.R.Reader.floor g.R.Reader.went c.args.reader.now c.reach.new.reader c.mend.new.reader
    (g.met.R.Reader.went_trans c.args.reader.now c.reach.new.reader c.mend.new.reader) c.reach.ensures.moves c.mend.ensures.moves

pub returns-then-pending_meets-clause-behind : goal.returns-then-pending_meets-clause-behind
returns-then-pending_meets-clause-behind g c = λ q stands less bare.
    let mid = c.in_ok-reach.ensures in
    let list = g.R.Reader.list in
    advanced_and_mended c.mend.result (list c.args.reader.now) q c.args.p c.args.range.now c.args.state.now c.reach.new.state c.mend.new.self c.args.steps.now c.reach.new.steps c.mend.new.steps
    mid.same mid.at (sym c.pending_meets.ensures ∙ c.if-pending_meets.true) (mid.little q stands less bare)
    (advance_counts (list c.args.reader.now) c.args.p c.args.state.now c.reach.new.state c.args.steps.now c.reach.new.steps (mid.least q stands less)) (mid.cost q stands less bare)
    (mended_over c.mend.result (list c.args.reader.now) (list c.reach.new.reader) c.args.p c.args.range.now c.reach.new.state c.mend.new.self c.reach.new.steps c.mend.new.steps
    mid.moves.kept c.requires.within mid.at c.mend.ensures.same c.mend.ensures.at c.mend.ensures.left c.mend.ensures.needs c.mend.ensures.notes c.mend.ensures.least c.mend.ensures.cost)

pub returns-then-pending_meets-clause-pending : goal.returns-then-pending_meets-clause-pending
returns-then-pending_meets-clause-pending g c = λ stands meets.
    let mid = c.in_ok-reach.ensures in
    let list = g.R.Reader.list in
    mended_still c.mend.result (list c.args.reader.now) c.args.p c.args.range.now c.args.state.now c.reach.new.state c.mend.new.self c.args.steps.now c.reach.new.steps c.mend.new.steps
    (mid.still stands) (mid.free stands)
    (mended_over c.mend.result (list c.args.reader.now) (list c.reach.new.reader) c.args.p c.args.range.now c.reach.new.state c.mend.new.self c.reach.new.steps c.mend.new.steps
    mid.moves.kept c.requires.within mid.at c.mend.ensures.same c.mend.ensures.at c.mend.ensures.left c.mend.ensures.needs c.mend.ensures.notes c.mend.ensures.least c.mend.ensures.cost)

pub returns-clause-behind : goal.returns-clause-behind
returns-clause-behind g c = λ q stands less bare.
    let mid = c.in_ok-reach.ensures in
    advanced_alone (g.R.Reader.list c.args.reader.now) q c.args.p c.args.range.now c.args.state.now c.reach.new.state c.args.steps.now c.reach.new.steps
    mid.same mid.at (sym c.pending_meets.ensures ∙ c.if-pending_meets.false) (mid.little q stands less bare)
    (advance_counts (g.R.Reader.list c.args.reader.now) c.args.p c.args.state.now c.reach.new.state c.args.steps.now c.reach.new.steps (mid.least q stands less)) (mid.cost q stands less bare)

pub returns-clause-pending : goal.returns-clause-pending
returns-clause-pending g c = λ stands meets.
    let still : c.reach.new.state ≡ c.args.state.now = c.in_ok-reach.ensures.still stands in
    absurd (true≢false (sym meets ∙ ap (λ (s : KeptRange). pending_meets s c.args.range.now) (sym still) ∙ sym c.pending_meets.ensures ∙ c.if-pending_meets.false))

pub returns-then-pending_meets-clause-few : goal.returns-then-pending_meets-clause-few
returns-then-pending_meets-clause-few g c = on_ok_weaker c.mend.result (λ stays few. stays (c.in_ok-reach.ensures.few few)) c.mend.ensures.few

pub returns-in_err-reach-clause-err : goal.returns-in_err-reach-clause-err
returns-in_err-reach-clause-err g c = on_err_always c.from_residual.result (inl c.in_err-reach.ensures.err)

pub returns-then-pending_meets-clause-err : goal.returns-then-pending_meets-clause-err
returns-then-pending_meets-clause-err g c =
    on_err_weaker c.mend.result (λ left. left_there c.args.p c.args.state.now c.reach.new.state c.mend.new.self c.in_ok-reach.ensures.at left) c.mend.ensures.err

pub returns-in_err-reach-clause-wide : goal.returns-in_err-reach-clause-wide
returns-in_err-reach-clause-wide g c =
    let p = err_from_is_err_and c.from_residual.result c.from_residual.ensures.1 in
    let reached = c.in_err-reach.ensures in
    rw (p.1, p.2) (fills_wide c.in_err-reach.field-0.0 (most_of c.args.bound) (g.R.Reader.list c.args.reader.now) c.args.p c.args.range.now c.args.state.now c.reach.new.state reached.wide reached.gone reached.still reached.known)

pub returns-in_err-reach-clause-gone : goal.returns-in_err-reach-clause-gone
returns-in_err-reach-clause-gone g c =
    let p = err_from_is_err_and c.from_residual.result c.from_residual.ensures.1 in
    rw (p.1, p.2) c.in_err-reach.ensures.gone

pub returns-then-pending_meets-clause-wide : goal.returns-then-pending_meets-clause-wide
returns-then-pending_meets-clause-wide g c =
    let h = g.R.Reader.list c.args.reader.now in
    let here = g.R.Reader.list c.reach.new.reader in
    let mid = c.reach.new.state in
    let most = most_of c.args.bound in
    let reached = c.in_ok-reach.ensures in
    IfErr-weaker c.mend.result _ _ (λ fault is.
    on_too_wide_weaker fault (λ (many : MendsTooMany most (below (take c.args.p here) mid.rank) c.args.range.now mid).
    inr (record {
      mid = mid;
      same = reached.same;
      stands = reached.at;
      still = reached.still;
      little = reached.little;
      meets = sym c.pending_meets.ensures ∙ c.if-pending_meets.true;
      many = subst (λ (es : History). MendsTooMany most (below es mid.rank) c.args.range.now mid) (take_prefix c.args.p h here c.requires.within reached.moves.kept) many;
    })) is) (c.mend.ensures.wide c.args.p reached.at)

-- ---- what is counted

pub returns-then-pending_meets-clause-least : goal.returns-then-pending_meets-clause-least
returns-then-pending_meets-clause-least g c =
    let mid = c.in_ok-reach.ensures in
    let h = g.R.Reader.list c.args.reader.now in
    on_ok_always c.mend.result
    (reach_counted h c.args.p c.args.state.now c.args.steps.now c.reach.new.steps c.args.steps.now c.mend.new.steps (λ steps low. omega (arith, low, c.mend.ensures.counted))
    (reach_counts h c.args.p c.args.state.now c.reach.new.state c.args.steps.now c.reach.new.steps mid.least_filled mid.least))

pub returns-clause-least : goal.returns-clause-least
returns-clause-least g c =
    let mid = c.in_ok-reach.ensures in
    reach_counts (g.R.Reader.list c.args.reader.now) c.args.p c.args.state.now c.reach.new.state c.args.steps.now c.reach.new.steps mid.least_filled mid.least
