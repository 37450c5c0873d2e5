use Rattle.std.proofs.Common.{ap}
use Rattle.std.proofs.lemmas.Result.{IfOk-weaker}
use Rattle.shared_reader.proofs.GivenLemmas.{asked_joins, asks_from, stays_moves}
use Rattle.shared_reader.proofs.LentLemmas.{same_pass}
use Rattle.shared_reader.proofs.reader.SharedReaderBaseSource.make_joins.Goals as goal

pub joins_at-requires-clause-kept : goal.joins_at-requires-clause-kept
joins_at-requires-clause-kept g c = asks_from c.self.inside.pass.now c.args.self.now.pass c.self.invariant.0.pinned.pin c.args.p c.self.invariant.0.pinned.pinned (same_pass _ _ c.self.view_is) c.requires.above

pub returns-clause-joins : goal.returns-clause-joins
returns-clause-joins g c =
    IfOk-weaker c.joins_at.result _ _
    (λ joins each. asked_joins c.self.inside.pass.now c.args.self.now.pass c.self.invariant.0.pinned.pin c.args.p joins c.self.invariant.0.pinned.pinned (same_pass _ _ c.self.view_is) each) c.joins_at.ensures.joins

pub returns-clause-moves : goal.returns-clause-moves
returns-clause-moves g c = stays_moves (record { pass = c.self.inside.pass.now; lent = c.self.inside.pass.ghost_name }) c.args.self.now (record { pass = c.joins_at.new.pass; lent = c.self.inside.pass.ghost_name }) c.self.invariant.0.recorded c.self.view_is (ap (λ v. record { pass = v; lent = c.self.inside.pass.ghost_name }) c.joins_at.ensures.unchanged)
