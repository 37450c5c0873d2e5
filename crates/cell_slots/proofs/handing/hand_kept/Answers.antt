use Rattle.std.proofs.Common.{◌≡◌, ℕ, ◌+◌, None, length, sym, ap, ◌∙◌, inl, inr, arith}
use Rattle.std.proofs.lemmas.Option.{none-some}
use Rattle.semantics.specs.Texts.{Table, pairs_within}
use Rattle.join_eval.proofs.MovesLemmas.{moves_refl}
use Rattle.kept_ranges.specs.Sound.{KeptRange}
use Rattle.join_types.proofs.SinkLemmas.{got_as}
use Rattle.cell_slots.specs.Serving.{output_within}
use Rattle.cell_slots.proofs.AdvancedLemmas.{advanced_and_read, mended_and_read}
use Rattle.cell_slots.proofs.CountingLemmas.{reach_counted}
use Rattle.cell_slots.proofs.ServingLemmas.{same_output}
use Rattle.cell_slots.proofs.handing.hand_kept.Goals as goal

-- ---- where nothing is kept

pub returns-in_default-clause-gone : goal.returns-in_default-clause-gone
returns-in_default-clause-gone g c = sym c.in_default.ensures

pub returns-in_default-clause-moves : goal.returns-in_default-clause-moves
returns-in_default-clause-moves g c = moves_refl g.R.Reader.list g.R.Reader.floor g.R.Reader.went c.args.reader.now (g.met.R.Reader.went_refl c.args.reader.now)

pub returns-in_default-clause-at_once : goal.returns-in_default-clause-at_once
returns-in_default-clause-at_once g c = λ ready. absurd (none-some c.args.p (c.in_default.ensures ∙ ready.stands))

-- ---- where it would have too many needs

pub returns-in-Err-TooWide-clause-gone : goal.returns-in-Err-TooWide-clause-gone
returns-in-Err-TooWide-clause-gone g c = rw c.in-Err-TooWide.field-0-is at c.in-Err-TooWide.ensures.gone

pub returns-in-Err-TooWide-clause-at_once : goal.returns-in-Err-TooWide-clause-at_once
returns-in-Err-TooWide-clause-at_once g c = λ ready.
    let gone : c.make_ready.new.state.position ≡ None = rw c.in-Err-TooWide.field-0-is at c.in-Err-TooWide.ensures.gone in
    absurd (none-some c.args.p (sym gone ∙ ap (λ (s : KeptRange). s.position) (c.make_ready.ensures.still ready) ∙ ready.stands))

pub returns-in_default-clause-wide : goal.returns-in_default-clause-wide
returns-in_default-clause-wide g c = inl (sym c.in_default.ensures)

pub returns-in-Err-TooWide-clause-wide : goal.returns-in-Err-TooWide-clause-wide
returns-in-Err-TooWide-clause-wide g c = inr (rw c.in-Err-TooWide.field-0-is at c.in-Err-TooWide.ensures.wide)

-- ---- where it is handed out

pub returns-in_ok-hand-in-Ok-clause-least : goal.returns-in_ok-hand-in-Ok-clause-least
returns-in_ok-hand-in-Ok-clause-least g c =
    let list = g.R.Reader.list in
    let made = c.in-Ok.ensures in
    let rows : Table = pairs_within c.args.range.now c.make_ready.new.state.kept.rows in
    let output : Table = output_within c.args.state.now (list c.args.reader.now) c.args.p c.args.range.now in
    let is : rows ≡ output =
    c.in_ok-hand-in-Ok.ensures.output (list c.make_ready.new.reader) c.args.p (made.moves.entered c.requires.entered) made.ready.stands made.sound
    ∙ same_output c.args.state.now c.make_ready.new.state (list c.args.reader.now) (list c.make_ready.new.reader) c.args.p c.args.range.now made.same c.requires.within made.moves.kept in
    let took = c.in_ok-hand-in-Ok.ensures.cost ∙ ap (λ (n : ℕ). c.make_ready.new.steps + 1 + n) (ap length is) in
    reach_counted (list c.args.reader.now) c.args.p c.args.state.now c.args.steps.now c.make_ready.new.steps (c.args.steps.now + 1 + length output) c.hand.new.steps
    (λ steps low. omega (arith, low, took)) made.least

pub returns-in_ok-hand-in-Ok-clause-behind : goal.returns-in_ok-hand-in-Ok-clause-behind
returns-in_ok-hand-in-Ok-clause-behind g c = λ q stands less bare.
    let list = g.R.Reader.list in
    let made = c.in-Ok.ensures in
    let rows : Table = pairs_within c.args.range.now c.make_ready.new.state.kept.rows in
    let output : Table = output_within c.args.state.now (list c.args.reader.now) c.args.p c.args.range.now in
    let is : rows ≡ output =
    c.in_ok-hand-in-Ok.ensures.output (list c.make_ready.new.reader) c.args.p (made.moves.entered c.requires.entered) made.ready.stands made.sound
    ∙ same_output c.args.state.now c.make_ready.new.state (list c.args.reader.now) (list c.make_ready.new.reader) c.args.p c.args.range.now made.same c.requires.within made.moves.kept in
    let took = c.in_ok-hand-in-Ok.ensures.cost ∙ ap (λ (n : ℕ). c.make_ready.new.steps + 1 + n) (ap length is) in
    advanced_and_read (list c.args.reader.now) q c.args.p c.args.range.now c.args.state.now c.make_ready.new.state c.args.steps.now c.make_ready.new.steps c.hand.new.steps (length output)
    (made.behind q stands less bare) took

pub returns-in_ok-hand-in-Ok-clause-pending : goal.returns-in_ok-hand-in-Ok-clause-pending
returns-in_ok-hand-in-Ok-clause-pending g c = λ stands meets.
    let list = g.R.Reader.list in
    let made = c.in-Ok.ensures in
    let rows : Table = pairs_within c.args.range.now c.make_ready.new.state.kept.rows in
    let output : Table = output_within c.args.state.now (list c.args.reader.now) c.args.p c.args.range.now in
    let is : rows ≡ output =
    c.in_ok-hand-in-Ok.ensures.output (list c.make_ready.new.reader) c.args.p (made.moves.entered c.requires.entered) made.ready.stands made.sound
    ∙ same_output c.args.state.now c.make_ready.new.state (list c.args.reader.now) (list c.make_ready.new.reader) c.args.p c.args.range.now made.same c.requires.within made.moves.kept in
    let took = c.in_ok-hand-in-Ok.ensures.cost ∙ ap (λ (n : ℕ). c.make_ready.new.steps + 1 + n) (ap length is) in
    mended_and_read (list c.args.reader.now) c.args.p c.args.range.now c.args.state.now c.make_ready.new.state c.args.steps.now c.make_ready.new.steps c.hand.new.steps (length output)
    (made.pending stands meets) took

pub returns-in_ok-hand-in-Ok-clause-output : goal.returns-in_ok-hand-in-Ok-clause-output
returns-in_ok-hand-in-Ok-clause-output g c =
    let list = g.R.Reader.list in
    let made = c.in-Ok.ensures in
    let rows : Table = pairs_within c.args.range.now c.make_ready.new.state.kept.rows in
    let output : Table = output_within c.args.state.now (list c.args.reader.now) c.args.p c.args.range.now in
    let is : rows ≡ output =
    c.in_ok-hand-in-Ok.ensures.output (list c.make_ready.new.reader) c.args.p (made.moves.entered c.requires.entered) made.ready.stands made.sound
    ∙ same_output c.args.state.now c.make_ready.new.state (list c.args.reader.now) (list c.make_ready.new.reader) c.args.p c.args.range.now made.same c.requires.within made.moves.kept in
    got_as g.K.RowSink.got c.args.sink.now c.hand.new.sink rows output is c.in_ok-hand-in-Ok.ensures.rows

pub returns-in_ok-hand-in-Ok-clause-cost : goal.returns-in_ok-hand-in-Ok-clause-cost
returns-in_ok-hand-in-Ok-clause-cost g c =
    let list = g.R.Reader.list in
    let made = c.in-Ok.ensures in
    let rows : Table = pairs_within c.args.range.now c.make_ready.new.state.kept.rows in
    let output : Table = output_within c.args.state.now (list c.args.reader.now) c.args.p c.args.range.now in
    let is : rows ≡ output =
    c.in_ok-hand-in-Ok.ensures.output (list c.make_ready.new.reader) c.args.p (made.moves.entered c.requires.entered) made.ready.stands made.sound
    ∙ same_output c.args.state.now c.make_ready.new.state (list c.args.reader.now) (list c.make_ready.new.reader) c.args.p c.args.range.now made.same c.requires.within made.moves.kept in
    let size : length rows ≡ length output = ap length is in
    omega (arith, size, c.in_ok-hand-in-Ok.ensures.cost, made.counted)
