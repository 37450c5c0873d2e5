use Rattle.std.proofs.Common.{◌≡◌, ℕ, ◌+◌, ◌≤◌, length, None, Some, sym, ap, ◌∙◌, subst, inl, inr, arith}
use Rattle.std.proofs.lemmas.Option.{none-some}
use Rattle.std.proofs.lemmas.Result.{IfOk-weaker, on_err_weaker, on_ok_weaker}
use Rattle.growing_history.proofs.PrefixLemmas.{prefix_length}
use Rattle.join_eval.proofs.MovesLemmas.{moves_trans}
use Rattle.kept_ranges.specs.Sound.{KeptRange}
use Rattle.cell_slots.specs.Serving.{HasTooMany}
use Rattle.cell_slots.proofs.AdvancedLemmas.{filled_there}
use Rattle.cell_slots.proofs.CountingLemmas.{fill_counted, fill_over, reach_filled}
use Rattle.cell_slots.proofs.UpToLemmas.{served_over, stands_on}
use Rattle.cell_slots.proofs.serving.serve_kept.Goals as goal

pub returns-in-Ok-clause-given : goal.returns-in-Ok-clause-given
returns-in-Ok-clause-given g c = record { output = c.in-Ok.ensures.output; kept = inl c.in-Ok.ensures.ready }

pub returns-in-Ok-clause-least : goal.returns-in-Ok-clause-least
returns-in-Ok-clause-least g c = c.in-Ok.ensures.least

pub returns-in-Ok-clause-behind : goal.returns-in-Ok-clause-behind
returns-in-Ok-clause-behind g c = λ q stands less bare. inl (c.in-Ok.ensures.behind q stands less bare)

pub returns-in-Ok-clause-pending : goal.returns-in-Ok-clause-pending
returns-in-Ok-clause-pending g c = λ stands meets. inl (c.in-Ok.ensures.pending stands meets)

-- ---- where it would have too many needs

pub fill_and_read-requires-clause-forgotten : goal.fill_and_read-requires-clause-forgotten
fill_and_read-requires-clause-forgotten g c = rw c.in-Err-TooWide.field-0-is at c.in-Err-TooWide.ensures.gone

pub fill_and_read-requires-clause-within : goal.fill_and_read-requires-clause-within
fill_and_read-requires-clause-within g c =
    omega (arith, c.requires.within, prefix_length (g.R.Reader.list c.args.reader.now) (g.R.Reader.list c.serve.new.reader) c.serve.ensures.moves.kept)

pub fill_and_read-requires-clause-above : goal.fill_and_read-requires-clause-above
fill_and_read-requires-clause-above g c = subst (λ (n : ℕ). n ≤ c.args.p) (sym c.serve.ensures.moves.same_floor) c.requires.above

pub fill_and_read-requires-clause-entered : goal.fill_and_read-requires-clause-entered
fill_and_read-requires-clause-entered g c = c.serve.ensures.moves.entered c.requires.entered

pub fill_and_read-requires-clause-stands : goal.fill_and_read-requires-clause-stands
fill_and_read-requires-clause-stands g c =
    stands_on (g.R.Reader.list c.args.reader.now) (g.R.Reader.list c.serve.new.reader) c.args.p c.args.state.now c.serve.new.state c.requires.within c.serve.ensures.moves.kept c.serve.ensures.same c.requires.stands

pub fill_and_read-requires-clause-ranked : goal.fill_and_read-requires-clause-ranked
fill_and_read-requires-clause-ranked g c = omega (arith, c.serve.ensures.same.rank, c.requires.ranked)

pub returns-in-Err-TooWide-clause-given : goal.returns-in-Err-TooWide-clause-given
returns-in-Err-TooWide-clause-given g c =
    let list = g.R.Reader.list in
    IfOk-weaker c.fill_and_read.result _ _ (λ pairs given.
    served_over c.args.most c.args.p (list c.args.reader.now) (list c.serve.new.reader) c.args.range.now c.args.state.now c.serve.new.state c.fill_and_read.new.state pairs.items
    c.serve.ensures.same c.requires.within c.serve.ensures.moves.kept given) c.fill_and_read.ensures.given

pub returns-in-Err-TooWide-clause-still : goal.returns-in-Err-TooWide-clause-still
returns-in-Err-TooWide-clause-still g c = λ ready.
    let gone : c.serve.new.state.position ≡ None = rw c.in-Err-TooWide.field-0-is at c.in-Err-TooWide.ensures.gone in
    absurd (none-some c.args.p (sym gone ∙ ap (λ (s : KeptRange). s.position) (c.serve.ensures.still ready) ∙ ready.stands))

pub returns-in-Err-TooWide-clause-unused : goal.returns-in-Err-TooWide-clause-unused
returns-in-Err-TooWide-clause-unused g c = λ ready.
    let gone : c.serve.new.state.position ≡ None = rw c.in-Err-TooWide.field-0-is at c.in-Err-TooWide.ensures.gone in
    absurd (none-some c.args.p (sym gone ∙ ap (λ (s : KeptRange). s.position) (c.serve.ensures.still ready) ∙ ready.stands))

pub returns-in-Err-TooWide-clause-few : goal.returns-in-Err-TooWide-clause-few
returns-in-Err-TooWide-clause-few g c = on_ok_weaker c.fill_and_read.result (λ few _. few) c.fill_and_read.ensures.few

pub returns-in-Err-TooWide-clause-filled : goal.returns-in-Err-TooWide-clause-filled
returns-in-Err-TooWide-clause-filled g c = λ none. c.fill_and_read.ensures.clear

pub returns-in-Err-TooWide-clause-err : goal.returns-in-Err-TooWide-clause-err
returns-in-Err-TooWide-clause-err g c =
    on_err_weaker c.fill_and_read.result (λ left. filled_there c.args.p c.args.state.now c.fill_and_read.new.state left) c.fill_and_read.ensures.err

pub returns-in-Err-TooWide-clause-at_once : goal.returns-in-Err-TooWide-clause-at_once
returns-in-Err-TooWide-clause-at_once g c = λ ready.
    let gone : c.serve.new.state.position ≡ None = rw c.in-Err-TooWide.field-0-is at c.in-Err-TooWide.ensures.gone in
    absurd (none-some c.args.p (sym gone ∙ ap (λ (s : KeptRange). s.position) (c.serve.ensures.still ready) ∙ ready.stands))

pub returns-in-Err-TooWide-clause-moves : goal.returns-in-Err-TooWide-clause-moves
returns-in-Err-TooWide-clause-moves g c =
    moves_trans g.R.Reader.list g.R.Reader.floor g.R.Reader.went c.args.reader.now c.serve.new.reader c.fill_and_read.new.reader
    (g.met.R.Reader.went_trans c.args.reader.now c.serve.new.reader c.fill_and_read.new.reader) c.serve.ensures.moves c.fill_and_read.ensures.moves

pub returns-in-Err-TooWide-clause-cost : goal.returns-in-Err-TooWide-clause-cost
returns-in-Err-TooWide-clause-cost g c =
    IfOk-weaker c.fill_and_read.result _ _ (λ pairs is. omega (arith, is, c.serve.ensures.counted)) c.fill_and_read.ensures.cost

pub returns-in-Err-TooWide-clause-least : goal.returns-in-Err-TooWide-clause-least
returns-in-Err-TooWide-clause-least g c =
    let h = g.R.Reader.list c.args.reader.now in
    let more = g.R.Reader.list c.serve.new.reader in
    let old = c.args.state.now in
    let mid = c.serve.new.state in
    let made = c.fill_and_read.new.steps in
    IfOk-weaker c.fill_and_read.result _ _ (λ pairs counts.
    let from = c.args.steps.now + 1 + length pairs.items in
    reach_filled h c.args.p old from made (fill_over h more c.args.p old mid from made c.serve.ensures.same c.requires.within c.serve.ensures.moves.kept
    (fill_counted more c.args.p mid (c.serve.new.steps + 1 + length pairs.items) made from made (λ steps low. omega (arith, low, c.serve.ensures.counted)) counts))) c.fill_and_read.ensures.least

pub returns-in-Err-TooWide-clause-behind : goal.returns-in-Err-TooWide-clause-behind
returns-in-Err-TooWide-clause-behind g c = λ q stands less bare.
    let many : HasTooMany (Some c.args.most) (g.R.Reader.list c.args.reader.now) c.args.p c.args.range.now c.args.state.now = rw c.in-Err-TooWide.field-0-is at c.in-Err-TooWide.ensures.wide in
    IfOk-weaker c.fill_and_read.result _ _ (λ pairs is. inr many) c.fill_and_read.ensures.cost

pub returns-in-Err-TooWide-clause-pending : goal.returns-in-Err-TooWide-clause-pending
returns-in-Err-TooWide-clause-pending g c = λ stands meets.
    let many : HasTooMany (Some c.args.most) (g.R.Reader.list c.args.reader.now) c.args.p c.args.range.now c.args.state.now = rw c.in-Err-TooWide.field-0-is at c.in-Err-TooWide.ensures.wide in
    IfOk-weaker c.fill_and_read.result _ _ (λ pairs is. inr many) c.fill_and_read.ensures.cost
