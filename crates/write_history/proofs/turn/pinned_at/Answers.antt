use Rattle.std.proofs.Common.{◌≡◌, ◌+◌, ◌*◌, ◌<◌, ◌≤◌, ℕ, subst, arith}
use Rattle.atomic_table.specs.Table.{Allows}
use Rattle.write_history.specs.Marks.{pins, words_of, IsPlaced}
use Rattle.write_history.specs.Rule.{Keeps}
use Rattle.write_history.specs.Steps.{Sat, reread}
use Rattle.write_history.proofs.Lines.{mark_at}
use Rattle.write_history.proofs.Raising.{rereads}
use Rattle.write_history.proofs.turn.pinned_at.Goals as goal

pub load-requires : goal.load-requires
load-requires c =
    let board = c.args.board.now in
    let place = c.args.place.now in
    let number = c.args.number in
    let size = c.requires.sized in
    let rest = c.requires.resting in
    let pinned = c.requires.pinned in
    let kinds = place.me.0.kinds in
    let placed = subst (IsPlaced kinds number) pinned.1 rest.placed in
    let less : number < pins kinds = placed.0 in
    let short : number < words_of kinds = omega arith in
    let there : number < words_of board.key = subst (λ k. number < words_of k) c.requires.same_kinds short in
    let at : mark_at number ≡ 32 + 8 * number = omega arith in (
      c.requires.own,
      omega arith,
      subst (λ i. Allows (Keeps board.key) board.table_id.slots place.id place.me i (λ n. n) (reread place.me)) at
          (rereads board.key board.table_id.slots place.id place.me number rest.numbered rest.none_held),
    )

pub returns : goal.returns
returns c = record { own = c.load.ensures.0; unchanged = c.load.ensures.2.1; position = c.load.ensures.2.0 }
