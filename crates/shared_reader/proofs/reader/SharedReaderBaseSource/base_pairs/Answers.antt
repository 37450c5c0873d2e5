use Rattle.std.proofs.Common.{◌≡◌, IfOk, take, refl, subst}
use Rattle.semantics.specs.Texts.{pairs_within}
use Rattle.semantics.specs.Histories.{base_of}
use Rattle.growing_history.specs.Entered.{HasEntered}
use Rattle.write_history.specs.Passes.{PassView}
use Rattle.shared_reader.proofs.GivenLemmas.{reaches_back, reads_moves}
use Rattle.shared_reader.proofs.LentLemmas.{same_pass}
use Rattle.shared_reader.proofs.reader.SharedReaderBaseSource.base_pairs.Goals as goal

pub returns-clause-exact : goal.returns-clause-exact
returns-clause-exact g c = subst (λ (v : PassView). IfOk c.pairs_at.result (λ pairs. pairs.items ≡ pairs_within c.args.range.now (base_of (take c.args.p v.view)))) (same_pass _ _ c.self.view_is) c.pairs_at.ensures.exact

pub returns-clause-entered : goal.returns-clause-entered
returns-clause-entered g c = subst (λ (v : PassView). HasEntered v.view) (same_pass _ _ c.self.view_is) c.self.invariant.0.recorded.entered

pub returns-clause-moves : goal.returns-clause-moves
returns-clause-moves g c = reads_moves (record { pass = c.self.inside.pass.now; lent = c.self.inside.pass.ghost_name }) c.args.self.now (record { pass = c.pairs_at.new.pass; lent = c.self.inside.pass.ghost_name }) c.self.invariant.0.recorded c.self.view_is (record { same = refl; on = c.pairs_at.ensures.reads_on })

pub pairs_at-requires-clause-pinned : goal.pairs_at-requires-clause-pinned
pairs_at-requires-clause-pinned g c = reaches_back c.self.inside.pass.now c.args.self.now.pass c.self.invariant.0.pinned.pin c.args.p c.self.invariant.0.pinned.pinned (same_pass _ _ c.self.view_is) c.requires.above
