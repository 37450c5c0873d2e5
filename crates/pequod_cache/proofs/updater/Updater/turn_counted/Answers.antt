use Rattle.std.proofs.Common.{◌∙◌, sym, subst}
use Rattle.write_history.specs.Passes.{PassView}
use Rattle.range_cells.specs.Turns.{IsWithinView}
use Rattle.pequod_cache.proofs.ClientLemmas.{returned, seated_still}
use Rattle.pequod_cache.proofs.EarlierLemmas.{joins_now}
use Rattle.pequod_cache.proofs.updater.Updater.turn_counted.Goals as goal

pub invariant_of-self : goal.invariant_of-self
invariant_of-self g c = seated_still g.N.Naming.history c.self.inside.pass c.look.new.pass c.self.inside.joins c.look.new.joins c.self.invariant c.in-Err.ensures.goes_on c.look.ensures.kept

pub invariant_of-self-2 : goal.invariant_of-self-2
invariant_of-self-2 g c =
    let back =
    returned g.N.Naming.history c.self.inside.pass c.args.self.now c.look.new.pass c.turn-turn.new.pass c.unpin.new.pass c.in-Ok.position c.self.inside.joins c.look.new.joins
    c.self.invariant c.self.view_is c.in-Ok.ensures.pinned c.look.ensures.own c.look.ensures.kept c.turn-turn.ensures.reads_on c.unpin.ensures in
    back.seated

-- where the pass was not pinned

pub turn-turn-requires-clause-pinned : goal.turn-turn-requires-clause-pinned
turn-turn-requires-clause-pinned g c = c.in-Ok.ensures.pinned.same_mark

pub turn-turn-requires-clause-joins : goal.turn-turn-requires-clause-joins
turn-turn-requires-clause-joins g c = joins_now c.look.new.pass c.in-Ok.position c.look.new.joins c.in-Ok.ensures.length c.in-Ok.ensures.brought

pub unpin-requires-clause-pinned : goal.unpin-requires-clause-pinned
unpin-requires-clause-pinned g c = (c.in-Ok.position, c.turn-turn.ensures.reads_on.same_mark ∙ c.in-Ok.ensures.pinned.same_mark)

pub returns : goal.returns
returns g c =
    let back =
    returned g.N.Naming.history c.self.inside.pass c.args.self.now c.look.new.pass c.turn-turn.new.pass c.unpin.new.pass c.in-Ok.position c.self.inside.joins c.look.new.joins
    c.self.invariant c.self.view_is c.in-Ok.ensures.pinned c.look.ensures.own c.look.ensures.kept c.turn-turn.ensures.reads_on c.unpin.ensures in
    record {
      within = subst (λ (p : PassView). IsWithinView c.turn-turn.result p.view) (sym c.unpin.ensures) c.turn-turn.ensures.within;
      goes_on = back.goes_on;
      own = back.own;
    }
