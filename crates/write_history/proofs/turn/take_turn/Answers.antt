use Rattle.std.proofs.Common.{◌<◌, ◌∙◌, sym, subst, arith}
use Rattle.write_history.specs.Steps.{Sat, IsResting, TakesTurn}
use Rattle.write_history.proofs.Turning.{takes_turn, exchange_takes}
use Rattle.write_history.proofs.turn.take_turn.Goals as goal

pub compare_exchange-requires : goal.compare_exchange-requires
compare_exchange-requires g c =
    let board = c.args.board.now in
    let place = c.args.place.now in
    let size = c.requires.sized in
    let resting = c.requires.resting.1 in
    (c.requires.own, omega arith, takes_turn board.key board.table_id.slots place.id place.me c.requires.resting.0 _ resting.numbered resting.none_held exchange_takes)

pub swap-requires : goal.swap-requires
swap-requires g c =
    let board = c.args.board.now in
    let place = c.loop.place in
    let size = c.requires.sized in
    let two : 0 < 2 = omega arith in
    let resting = subst (λ (m : Sat). IsResting c.requires.resting.0 m) (sym c.loop.invariant.1) c.requires.resting.1 in
    (c.loop.invariant.0 ∙ c.requires.own, omega arith, takes_turn board.key board.table_id.slots place.id place.me c.requires.resting.0 (λ n. 2) resting.numbered resting.none_held (λ n. two))

pub returns-then-swap-eq-FREE-clause-own : goal.returns-then-swap-eq-FREE-clause-own
returns-then-swap-eq-FREE-clause-own g c = c.swap.ensures.0 ∙ c.loop.invariant.0

pub returns-then-swap-eq-FREE-clause-taken : goal.returns-then-swap-eq-FREE-clause-taken
returns-then-swap-eq-FREE-clause-taken g c = subst (λ (m : Sat). TakesTurn m c.swap.new.seat.me) c.loop.invariant.1 (c.swap.ensures.2.0 c.if-swap-eq-FREE.true)
