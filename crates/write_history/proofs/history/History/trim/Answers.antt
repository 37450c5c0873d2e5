use Rattle.std.proofs.Common.{◌≡◌, ◌≤◌, ◌∷◌, [], length, sym, ap, ◌∙◌, subst, arith}
use Rattle.write_history.specs.Passes.{PassView, GoesOn, own}
use Rattle.write_history.specs.Steps.{Sat}
use Rattle.write_history.proofs.Appending.{Trimmed, trims, pass_of, taken_log, looked_log, looked_role, looked_within, raised_log}
use Rattle.write_history.proofs.history.History.trim.Given.{Over}
use Rattle.write_history.proofs.history.History.trim.Goals as goal

pub lowest-low-requires-clause-number : goal.lowest-low-requires-clause-number
lowest-low-requires-clause-number g c =
    (c.pass.inside.number, ap (λ (x : Sat). x.0.role) c.look-count.ensures.seen ∙ ap (λ (x : Sat). x.0.role) c.take_turn.ensures.taken.is ∙ c.pass.invariant.numbered)

pub raise-requires-clause-number : goal.raise-requires-clause-number
raise-requires-clause-number g c = (c.pass.inside.number, looked_role c.pass.inside.place.me c.take_turn.new.place.me c.look-count.new.place.me c.lowest-low.new.place.me c.take_turn.ensures.taken c.pass.invariant.empty c.self.inside.pass_words c.look-count.result c.lowest-low.result c.look-count.ensures.seen c.lowest-low.ensures.lowest ∙ c.pass.invariant.numbered)

pub raise-requires-clause-log : goal.raise-requires-clause-log
raise-requires-clause-log g c =
    let turn = c.take_turn.ensures.taken in (
      turn.history,
      turn.log,
      looked_log c.pass.inside.place.me c.take_turn.new.place.me c.look-count.new.place.me c.lowest-low.new.place.me c.take_turn.ensures.taken c.pass.invariant.empty c.self.inside.pass_words c.look-count.result c.lowest-low.result c.look-count.ensures.seen c.lowest-low.ensures.lowest,
      subst (λ n. n ≤ c.lowest-low.result) (sym (ap (λ (x : Sat). x.0.lacks) c.lowest-low.ensures.lowest)) c.lowest-low.ensures.above,
      looked_within c.pass.inside.place.me c.take_turn.new.place.me c.look-count.new.place.me c.lowest-low.new.place.me c.take_turn.ensures.taken c.pass.invariant.empty c.self.inside.pass_words c.look-count.result c.lowest-low.result c.look-count.ensures.seen c.lowest-low.ensures.lowest c.look-count.ensures.count c.lowest-low.ensures.within,
    )

pub free_turn-requires-clause-log : goal.free_turn-requires-clause-log
free_turn-requires-clause-log g c =
    let turn = c.take_turn.ensures.taken in
    raised_log c.pass.inside.place.me c.take_turn.new.place.me c.look-count.new.place.me c.lowest-low.new.place.me c.take_turn.ensures.taken c.pass.invariant.empty c.self.inside.pass_words c.look-count.result c.lowest-low.result c.look-count.ensures.seen c.lowest-low.ensures.lowest c.raise.new.place.me
    (c.raise.ensures.raised turn.history turn.log (looked_log c.pass.inside.place.me c.take_turn.new.place.me c.look-count.new.place.me c.lowest-low.new.place.me c.take_turn.ensures.taken c.pass.invariant.empty c.self.inside.pass_words c.look-count.result c.lowest-low.result c.look-count.ensures.seen c.lowest-low.ensures.lowest)
    (looked_within c.pass.inside.place.me c.take_turn.new.place.me c.look-count.new.place.me c.lowest-low.new.place.me c.take_turn.ensures.taken c.pass.invariant.empty c.self.inside.pass_words c.look-count.result c.lowest-low.result c.look-count.ensures.seen c.lowest-low.ensures.lowest c.look-count.ensures.count c.lowest-low.ensures.within))

-- the turn is free again, and the floor raised
trimmed : (g : Over) (c : goal.After-free_turn g) → Trimmed c.pass.inside.number c.pass.inside.place.table_id c.free_turn.new.place.table_id c.pass.inside.place.me c.free_turn.new.place.me c.lowest-low.result
trimmed g c =
    let turn = c.take_turn.ensures.taken in
    trims c.pass.inside.number c.pass.inside.place.table_id c.free_turn.new.place.table_id c.pass.inside.place.me c.take_turn.new.place.me c.look-count.new.place.me c.lowest-low.new.place.me c.raise.new.place.me c.free_turn.new.place.me
    c.self.inside.pass_words c.look-count.result c.lowest-low.result (c.free_turn.ensures.own ∙ c.raise.ensures.own ∙ c.lowest-low.ensures.own ∙ c.look-count.ensures.own ∙ c.take_turn.ensures.own)
    c.pass.invariant turn c.look-count.ensures.seen c.lowest-low.ensures.lowest c.look-count.ensures.count c.lowest-low.ensures.within c.lowest-low.ensures.above
    (c.raise.ensures.raised turn.history turn.log (looked_log c.pass.inside.place.me c.take_turn.new.place.me c.look-count.new.place.me c.lowest-low.new.place.me c.take_turn.ensures.taken c.pass.invariant.empty c.self.inside.pass_words c.look-count.result c.lowest-low.result c.look-count.ensures.seen c.lowest-low.ensures.lowest)
    (looked_within c.pass.inside.place.me c.take_turn.new.place.me c.look-count.new.place.me c.lowest-low.new.place.me c.take_turn.ensures.taken c.pass.invariant.empty c.self.inside.pass_words c.look-count.result c.lowest-low.result c.look-count.ensures.seen c.lowest-low.ensures.lowest c.look-count.ensures.count c.lowest-low.ensures.within))
    c.free_turn.ensures.freed

pub invariant_of-pass : goal.invariant_of-pass
invariant_of-pass g c = (trimmed g c).resting

pub returns-clause-goes_on : goal.returns-clause-goes_on
returns-clause-goes_on g c = subst (λ (p : PassView). GoesOn p (pass_of c.free_turn.new.place.table_id c.pass.inside.number c.free_turn.new.place.me)) c.pass.view_is (trimmed g c).goes_on

pub returns-clause-own : goal.returns-clause-own
returns-clause-own g c = (trimmed g c).own ∙ ap own c.pass.view_is

pub returns-clause-floor : goal.returns-clause-floor
returns-clause-floor g c = (trimmed g c).raised

pub returns-clause-within : goal.returns-clause-within
returns-clause-within g c = (trimmed g c).within
