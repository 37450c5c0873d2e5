use Rattle.std.proofs.Common.{◌≡◌, ◌+◌, ◌*◌, ◌<◌, ◌≤◌, ℕ, suc, List, get_or, refl, sym, ap, ◌∙◌, subst, arith}
use Rattle.atomic_table.specs.Table.{Allows}
use Rattle.write_history.specs.Marks.{no_pin, pins, words_of, allowed, IsMarked, IsPlaced}
use Rattle.write_history.specs.Rule.{Keeps}
use Rattle.write_history.specs.Steps.{Sat, marked}
use Rattle.write_history.specs.declared.known.Mark.TheVariants.{Free, Pinned}
use Rattle.write_history.proofs.Marking.{before_more, allowed_pin, no_pin_is}
use Rattle.write_history.proofs.Lines.{mark_at}
use Rattle.write_history.proofs.Raising.{remarks}
use Rattle.write_history.proofs.turn.unpin.Goals as goal

pub store-requires : goal.store-requires
store-requires c =
    let board = c.args.board.now in
    let place = c.args.place.now in
    let number = c.args.number in
    let size = c.requires.sized in
    let rest = c.requires.resting in
    let pinned = c.requires.pinned in
    let kinds = place.me.0.kinds in
    let placed : (number < pins kinds) × (pinned.0 ≤ no_pin) = subst (IsPlaced kinds number) pinned.1 rest.placed in
    let less : number < pins kinds = placed.0 in
    let bound : pinned.0 ≤ 281474976710656 = subst (λ n. pinned.0 ≤ n) no_pin_is placed.1 in
    let short : number < words_of kinds = omega arith in
    let there : number < words_of board.key = subst (λ k. number < words_of k) c.requires.same_kinds short in
    let at : mark_at number ≡ 32 + 8 * number = omega arith in (
      c.requires.own,
      omega arith,
      subst (λ i. Allows (Keeps board.key) board.table_id.slots place.id place.me i (λ n. 281474976710656) (marked Free place.me)) at
          (remarks board.key board.table_id.slots place.id place.me number 281474976710656 Free rest.numbered rest.none_held short
          (λ words is.
          let is_pinned : IsMarked kinds words number (Pinned pinned.0) = subst (IsMarked kinds words number) pinned.1 is in
          let low : get_or words number 0 ≤ 281474976710656 = omega (arith, is_pinned.1, bound) in
          subst (λ (x : ℕ × ℕ). x.0 ≤ x.1) (λ i. (sym (allowed_pin kinds number (get_or words number 0) less) i, sym (allowed_pin kinds number 281474976710656 less) i))
          (before_more (get_or words number 0) 281474976710656 low))
          (λ words is. (less, is ∙ sym no_pin_is))),
    )
