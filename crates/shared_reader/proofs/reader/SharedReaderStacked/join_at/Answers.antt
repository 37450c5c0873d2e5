use Rattle.std.proofs.lemmas.Result.{IfOk-weaker}
use Rattle.base_reader.proofs.RankLemmas.{join_among, join_declared}
use Rattle.shared_reader.proofs.GivenLemmas.{asked_joins, asks_from, given_joins}
use Rattle.shared_reader.proofs.LentLemmas.{same_pass}
use Rattle.shared_reader.proofs.reader.SharedReaderStacked.join_at.Goals as goal

pub copy_of-requires : goal.copy_of-requires
copy_of-requires g c =
    let are = given_joins g.N.Naming.history c.self.inside.history.now c.self.inside.joins.now c.self.inside.p c.args.p c.self.inside.pass.now c.args.self.now.pass c.self.invariant.0 (same_pass _ _ c.self.view_is) c.if-p-self.true in
    let stands = c.requires.stands in
    (stands.1, join_among c.args.self.now.pass.view c.args.p c.args.at stands.0 c.self.inside.joins.now stands.1 are stands.2)

pub joins_at-requires-clause-kept : goal.joins_at-requires-clause-kept
joins_at-requires-clause-kept g c = asks_from c.self.inside.pass.now c.args.self.now.pass c.self.invariant.0.pinned.pin c.args.p c.self.invariant.0.pinned.pinned (same_pass _ _ c.self.view_is) c.requires.above

pub copy_of-requires-2 : goal.copy_of-requires-2
copy_of-requires-2 g c =
    let are = asked_joins c.self.inside.pass.now c.args.self.now.pass c.self.invariant.0.pinned.pin c.args.p c.in_ok-joins.joins c.self.invariant.0.pinned.pinned (same_pass _ _ c.self.view_is) c.in_ok-joins.ensures.joins in
    let stands = c.requires.stands in
    (stands.1, join_among c.args.self.now.pass.view c.args.p c.args.at stands.0 c.in_ok-joins.joins stands.1 are stands.2)

pub returns-then-p-self-clause-declared : goal.returns-then-p-self-clause-declared
returns-then-p-self-clause-declared g c =
    let are = given_joins g.N.Naming.history c.self.inside.history.now c.self.inside.joins.now c.self.inside.p c.args.p c.self.inside.pass.now c.args.self.now.pass c.self.invariant.0 (same_pass _ _ c.self.view_is) c.if-p-self.true in
    IfOk-weaker c.copy_of.result _ _ (λ join among. join_declared c.args.self.now.pass.view c.args.p c.args.at c.self.inside.joins.now join are among) c.copy_of.ensures

pub returns-clause-declared : goal.returns-clause-declared
returns-clause-declared g c =
    let are = asked_joins c.self.inside.pass.now c.args.self.now.pass c.self.invariant.0.pinned.pin c.args.p c.in_ok-joins.joins c.self.invariant.0.pinned.pinned (same_pass _ _ c.self.view_is) c.in_ok-joins.ensures.joins in
    IfOk-weaker c.copy_of-2.result _ _ (λ join among. join_declared c.args.self.now.pass.view c.args.p c.args.at c.in_ok-joins.joins join are among) c.copy_of-2.ensures
