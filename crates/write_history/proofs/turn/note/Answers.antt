use Rattle.std.proofs.Common.{◌≡◌, ◌+◌, ◌*◌, ◌<◌, ◌≤◌, ℕ, suc, List, get_or, refl, sym, ap, ◌∙◌, subst, arith}
use Rattle.atomic_table.specs.Table.{Allows}
use Rattle.write_history.specs.Marks.{pins, words_of, allowed, IsMarked, IsPlaced}
use Rattle.write_history.specs.Rule.{Keeps}
use Rattle.write_history.specs.Steps.{Sat, marked}
use Rattle.write_history.specs.declared.known.Mark.TheVariants.{Noted}
use Rattle.write_history.proofs.Marking.{allowed_note}
use Rattle.write_history.proofs.Lines.{mark_at}
use Rattle.write_history.proofs.Raising.{remarks}
use Rattle.write_history.proofs.turn.note.Goals as goal

pub store-requires : goal.store-requires
store-requires c =
    let board = c.args.board.now in
    let place = c.args.place.now in
    let number = c.args.number in
    let position = c.args.position in
    let size = c.requires.sized in
    let rest = c.requires.resting in
    let noted = c.requires.noted in
    let kinds = place.me.0.kinds in
    let less : (pins kinds ≤ number) × (number < words_of kinds) = subst (IsPlaced kinds number) noted.1 rest.placed in
    let there : number < words_of board.key = subst (λ k. number < words_of k) c.requires.same_kinds less.1 in
    let at : mark_at number ≡ 32 + 8 * number = omega arith in (
      c.requires.own,
      omega arith,
      subst (λ i. Allows (Keeps board.key) board.table_id.slots place.id place.me i (λ n. position) (marked (Noted position) place.me)) at
          (remarks board.key board.table_id.slots place.id place.me number position (Noted position) rest.numbered rest.none_held less.1
          (λ words is.
          let was : IsMarked kinds words number (Noted noted.0) = subst (IsMarked kinds words number) noted.1 is in
          let low : get_or words number 0 ≤ position = omega (arith, was.2, noted.2) in
          subst (λ (x : ℕ × ℕ). x.0 ≤ x.1) (λ i. (sym (allowed_note kinds number (get_or words number 0) less.0) i, sym (allowed_note kinds number position less.0) i)) low)
          (λ words is. (less.0, less.1, is))),
    )
