use Rattle.std.proofs.Common.{arith}
use Rattle.write_history.proofs.Turning.{looks}
use Rattle.write_history.proofs.turn.look.Goals as goal

pub load-requires : goal.load-requires
load-requires c =
    let board = c.args.board.now in
    let place = c.args.place.now in
    let size = c.requires.sized in
    (c.requires.own, omega arith, looks board.key board.table_id.slots place.id place.me c.requires.held.0 c.requires.held.1)
