use Rattle.std.proofs.Common.{◌≡◌, ◌+◌, ◌*◌, ℕ, suc, [], length, refl, sym, ap, ◌∙◌, subst, arith}
use Rattle.atomic_table.specs.Table.{Allows}
use Rattle.write_history.specs.Rule.{Keeps}
use Rattle.write_history.specs.Steps.{Sat, pinned, held_or}
use Rattle.write_history.specs.declared.known.Mark.TheVariants.{Pinned}
use Rattle.write_history.proofs.Lines.{mark_at}
use Rattle.write_history.proofs.Raising.{pins_down}
use Rattle.write_history.proofs.turn.pin.Goals as goal

pub store-requires : goal.store-requires
store-requires c =
    let board = c.args.board.now in
    let place = c.args.place.now in
    let size = c.requires.sized in
    let less = c.requires.placed in
    let held = c.requires.held in
    let at : mark_at c.args.number ≡ 32 + 8 * c.args.number = omega arith in (
      c.requires.own,
      omega arith,
      subst (λ (x : ℕ × ℕ). Allows (Keeps board.key) board.table_id.slots place.id place.me x.0 (λ n. x.1) (pinned place.me)) (λ i. (at i, sym held.2 i))
          (pins_down board.key board.table_id.slots place.id place.me c.args.number held.0 c.requires.number held.1 c.requires.free),
    )

pub returns-clause-pinned : goal.returns-clause-pinned
returns-clause-pinned c =
    let place = c.args.place.now in
    let held = c.requires.held in
    c.store.ensures.2 ∙ ap (λ n. (record place.me.0 { mark = Pinned n; passed = 0 }, place.me.1)) (ap length (ap (held_or []) held.1) ∙ sym held.2)
