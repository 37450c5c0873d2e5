use Rattle.std.proofs.Common.{ℕ, ◌≤◌, refl, sym, ◌∙◌, subst, inl, inr, arith}
use Rattle.std.proofs.lemmas.Bool.{false≢true}
use Rattle.std.proofs.lemmas.Option.{none-some}
use Rattle.join_eval.proofs.MovesLemmas.{moves_trans}
use Rattle.growing_history.proofs.PrefixLemmas.{prefix_length}
use Rattle.cell_slots.specs.Serving.{StandsFrom}
use Rattle.cell_slots.proofs.AdvancedLemmas.{on_err_always}
use Rattle.cell_slots.specs.Slots.{StandsAs}
use Rattle.cell_slots.proofs.DeclaredLemmas.{stands_over}
use Rattle.shared_cells.proofs.CellLemmas.{lent_of_kept, lent_of_new, nowhere_from, ready_from, ready_serves, same_place_back, serves_empty, serves_same, taken_from}
use Rattle.shared_cells.proofs.cell.Cell.lend.Goals as goal

pub begin-requires-clause-within : goal.begin-requires-clause-within
begin-requires-clause-within g c =
    let more = prefix_length (g.R.Reader.list c.args.reader.now) (g.R.Reader.list c.meet.new.reader) c.meet.ensures.moves.kept in
    omega (arith, c.requires.within, more)

pub begin-requires-clause-above : goal.begin-requires-clause-above
begin-requires-clause-above g c = subst (λ (n : ℕ). n ≤ c.args.query.p) (sym c.meet.ensures.moves.same_floor) c.requires.above

pub begin-requires-clause-stands : goal.begin-requires-clause-stands
begin-requires-clause-stands g c =
    let list = g.R.Reader.list in
    let stands = c.requires.stands in
    let place = c.take_from.ensures.same_place.at ∙ (c.if-not-can_serve.ensures.yes refl).is_for.is_of in (
      c.args.query.rank,
      stands.0,
      subst (λ (n : ℕ). StandsAs (list c.meet.new.reader) c.args.query.p n c.args.query.rank stands.0) (sym place)
          (stands_over (list c.args.reader.now) (list c.meet.new.reader) c.args.query.p c.args.query.at c.args.query.rank stands.0 c.requires.within c.meet.ensures.moves.kept stands.1),
    )

-- ---- where it cannot serve

pub returns-then-not-can_serve-clause-kept : goal.returns-then-not-can_serve-clause-kept
returns-then-not-can_serve-clause-kept g c = λ s can.
    let same = serves_same c.args.self.now c.meet.new.self c.args.query.at c.args.query.rank c.args.query.p c.args.part.now c.meet.ensures.same_place c.meet.ensures.held can.serves in
    absurd (false≢true (c.if-not-can_serve.ensures.no same))

pub returns-then-not-can_serve-clause-served : goal.returns-then-not-can_serve-clause-served
returns-then-not-can_serve-clause-served g c = λ can.
    let same = serves_same c.args.self.now c.meet.new.self c.args.query.at c.args.query.rank c.args.query.p c.args.part.now c.meet.ensures.same_place c.meet.ensures.held can in
    absurd (false≢true (c.if-not-can_serve.ensures.no same))

pub returns-then-not-can_serve-clause-ready : goal.returns-then-not-can_serve-clause-ready
returns-then-not-can_serve-clause-ready g c = λ ready.
    let can = ready_serves c.args.self.now c.args.query.at c.args.query.rank c.args.query.p c.args.part.now ready in
    let same = serves_same c.args.self.now c.meet.new.self c.args.query.at c.args.query.rank c.args.query.p c.args.part.now c.meet.ensures.same_place c.meet.ensures.held can in
    absurd (false≢true (c.if-not-can_serve.ensures.no same))

-- ---- where something is kept

pub returns-in-Some-clause-lent : goal.returns-in-Some-clause-lent
returns-in-Some-clause-lent g c =
    lent_of_kept c.meet.new.self c.take_from.new.self c.args.query.at c.args.query.rank c.args.query.p c.args.part.now c.in-Some.state c.take_from.ensures.same_place (c.if-not-can_serve.ensures.yes refl)
    c.in-Some.ensures.some c.in-Some.ensures.right

pub returns-in-Some-clause-kept : goal.returns-in-Some-clause-kept
returns-in-Some-clause-kept g c = λ s can. sym c.in-Some.ensures.some ∙ c.meet.ensures.held ∙ can.holds

pub returns-in-Some-clause-whose : goal.returns-in-Some-clause-whose
returns-in-Some-clause-whose g c = inl (sym c.meet.ensures.held ∙ c.in-Some.ensures.some)

pub returns-in-Some-clause-from : goal.returns-in-Some-clause-from
returns-in-Some-clause-from g c = subst (λ (n : ℕ). StandsFrom n c.in-Some.state) c.least_position.ensures c.in-Some.ensures.from

pub returns-in-Some-clause-none : goal.returns-in-Some-clause-none
returns-in-Some-clause-none g c = λ cannot.
    absurd (cannot (serves_same c.meet.new.self c.args.self.now c.args.query.at c.args.query.rank c.args.query.p c.args.part.now (same_place_back c.args.self.now c.meet.new.self c.meet.ensures.same_place) (sym c.meet.ensures.held)
    (c.if-not-can_serve.ensures.yes refl)))

pub returns-in-Some-clause-left : goal.returns-in-Some-clause-left
returns-in-Some-clause-left g c = λ cannot.
    absurd (cannot (serves_same c.meet.new.self c.args.self.now c.args.query.at c.args.query.rank c.args.query.p c.args.part.now (same_place_back c.args.self.now c.meet.new.self c.meet.ensures.same_place) (sym c.meet.ensures.held)
    (c.if-not-can_serve.ensures.yes refl)))

pub returns-in-Some-clause-ready : goal.returns-in-Some-clause-ready
returns-in-Some-clause-ready g c = λ ready. sym c.in-Some.ensures.some ∙ c.meet.ensures.held

-- ---- where nothing is

pub returns-in_err-state-clause-left : goal.returns-in_err-state-clause-left
returns-in_err-state-clause-left g c = λ cannot.
    absurd (cannot (serves_same c.meet.new.self c.args.self.now c.args.query.at c.args.query.rank c.args.query.p c.args.part.now (same_place_back c.args.self.now c.meet.new.self c.meet.ensures.same_place) (sym c.meet.ensures.held)
    (c.if-not-can_serve.ensures.yes refl)))

pub returns-in_err-state-clause-err : goal.returns-in_err-state-clause-err
returns-in_err-state-clause-err g c = on_err_always c.from_residual.result (c.begin.ensures.held ∙ c.take_from.ensures.left)

pub returns-in_err-state-clause-moves : goal.returns-in_err-state-clause-moves
returns-in_err-state-clause-moves g c =
    moves_trans g.R.Reader.list g.R.Reader.floor g.R.Reader.went c.args.reader.now c.meet.new.reader c.begin.new.reader
    (g.met.R.Reader.went_trans c.args.reader.now c.meet.new.reader c.begin.new.reader) c.meet.ensures.moves c.begin.ensures.moves

pub returns-clause-lent : goal.returns-clause-lent
returns-clause-lent g c =
    let can = serves_empty c.meet.new.self c.take_from.new.self c.args.query.at c.args.query.rank c.args.query.p c.args.part.now c.take_from.ensures.same_place c.take_from.ensures.left
    (c.if-not-can_serve.ensures.yes refl) in
    lent_of_new c.take_from.new.self c.begin.new.self c.args.query.at c.args.query.rank c.args.query.p c.args.part.now c.in_ok-state.state c.begin.ensures.same_place can c.in_ok-state.ensures.fresh c.in_ok-state.ensures.right

pub returns-clause-whose : goal.returns-clause-whose
returns-clause-whose g c = inr (c.in_ok-state.ensures.fresh, c.in_ok-state.ensures.empty)

pub returns-clause-from : goal.returns-clause-from
returns-clause-from g c = nowhere_from (g.R.Reader.floor c.begin.new.reader) c.in_ok-state.state c.in_ok-state.ensures.fresh

pub returns-clause-kept : goal.returns-clause-kept
returns-clause-kept g c = λ s can.
    let from = subst (λ (n : ℕ). StandsFrom n s) (sym c.meet.ensures.moves.same_floor ∙ sym c.least_position.ensures) can.from in
    absurd (none-some s (sym c.in_default.is ∙ taken_from c.least_position.result c.meet.new.self.held c.take_from.result s (c.meet.ensures.held ∙ can.holds) from c.take_from.ensures.taken))

pub returns-clause-none : goal.returns-clause-none
returns-clause-none g c = λ cannot.
    absurd (cannot (serves_same c.meet.new.self c.args.self.now c.args.query.at c.args.query.rank c.args.query.p c.args.part.now (same_place_back c.args.self.now c.meet.new.self c.meet.ensures.same_place) (sym c.meet.ensures.held)
    (c.if-not-can_serve.ensures.yes refl)))

pub returns-clause-left : goal.returns-clause-left
returns-clause-left g c = λ cannot.
    absurd (cannot (serves_same c.meet.new.self c.args.self.now c.args.query.at c.args.query.rank c.args.query.p c.args.part.now (same_place_back c.args.self.now c.meet.new.self c.meet.ensures.same_place) (sym c.meet.ensures.held)
    (c.if-not-can_serve.ensures.yes refl)))

pub returns-clause-ready : goal.returns-clause-ready
returns-clause-ready g c = λ ready.
    let from = subst (λ (n : ℕ). StandsFrom n ready.state) (sym c.meet.ensures.moves.same_floor ∙ sym c.least_position.ensures)
    (ready_from (g.R.Reader.floor c.args.reader.now) c.args.query.p c.args.part.now ready.state c.requires.above ready.ready) in
    absurd (none-some ready.state (sym c.in_default.is ∙ taken_from c.least_position.result c.meet.new.self.held c.take_from.result ready.state (c.meet.ensures.held ∙ ready.holds) from c.take_from.ensures.taken))

pub returns-clause-moves : goal.returns-clause-moves
returns-clause-moves g c =
    moves_trans g.R.Reader.list g.R.Reader.floor g.R.Reader.went c.args.reader.now c.meet.new.reader c.begin.new.reader
    (g.met.R.Reader.went_trans c.args.reader.now c.meet.new.reader c.begin.new.reader) c.meet.ensures.moves c.begin.ensures.moves
