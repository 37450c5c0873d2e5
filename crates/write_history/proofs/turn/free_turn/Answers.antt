use Rattle.std.proofs.Common.{arith}
use Rattle.write_history.proofs.Turning.{frees_turn}
use Rattle.write_history.proofs.turn.free_turn.Goals as goal

pub swap-requires : goal.swap-requires
swap-requires c =
    let has = c.requires.log in
    let board = c.args.board.now in
    let place = c.args.place.now in
    let size = c.requires.sized in
    (c.requires.own, omega arith, frees_turn board.key board.table_id.slots place.id place.me has.0 has.1 has.2.held has.2.carried has.2.is_log)
