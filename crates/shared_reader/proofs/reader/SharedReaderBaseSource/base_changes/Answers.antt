use Rattle.std.proofs.Common.{◌≡◌, ◌≤◌, IfOk, IfSome, length, ap, ◌∙◌, refl, sym, subst}
use Rattle.base_versions.specs.Valued.{base_changes}
use Rattle.growing_history.specs.Entered.{HasEntered}
use Rattle.write_history.specs.Marks.{reach}
use Rattle.write_history.specs.Passes.{PassView}
use Rattle.base_shards.proofs.ReadingLemmas.{sees_still}
use Rattle.shared_reader.proofs.GivenLemmas.{reads_moves, stays_moves}
use Rattle.shared_reader.proofs.LentLemmas.{lent_reads_on-trans, same_pass}
use Rattle.shared_reader.proofs.reader.SharedReaderBaseSource.base_changes.Goals as goal

pub known_changes-requires : goal.known_changes-requires
known_changes-requires g c = (c.self.inside.pass.now.view, c.self.invariant.2)

-- from what is known

pub returns-in-Some-clause-exact : goal.returns-in-Some-clause-exact
returns-in-Some-clause-exact g c =
    let known = c.known_changes.ensures c.self.inside.pass.now.view c.self.invariant.2 in
    subst (λ o. IfSome o (λ found. found.items ≡ base_changes c.args.q c.args.p c.args.range.now c.self.inside.pass.now.view)) c.in-Some.is known
    ∙ ap (λ (v : PassView). base_changes c.args.q c.args.p c.args.range.now v.view) (same_pass _ _ c.self.view_is)

pub returns-in-Some-clause-entered : goal.returns-in-Some-clause-entered
returns-in-Some-clause-entered g c = subst (λ (v : PassView). HasEntered v.view) (same_pass _ _ c.self.view_is) c.self.invariant.0.recorded.entered

pub returns-in-Some-clause-moves : goal.returns-in-Some-clause-moves
returns-in-Some-clause-moves g c = stays_moves (record { pass = c.self.inside.pass.now; lent = c.self.inside.pass.ghost_name }) c.args.self.now (record { pass = c.self.inside.pass.now; lent = c.self.inside.pass.ghost_name }) c.self.invariant.0.recorded c.self.view_is refl

-- from the part

pub ask_changes-asked-requires-clause-within : goal.ask_changes-asked-requires-clause-within
ask_changes-asked-requires-clause-within g c = subst (λ (v : PassView). c.args.p ≤ length v.view) (sym (same_pass _ _ c.self.view_is)) c.requires.within

pub ask_changes-asked-requires-clause-above : goal.ask_changes-asked-requires-clause-above
ask_changes-asked-requires-clause-above g c = subst (λ (v : PassView). reach v.mark ≤ c.args.q) (sym (same_pass _ _ c.self.view_is)) c.requires.above

pub look_further-requires-clause-within : goal.look_further-requires-clause-within
look_further-requires-clause-within g c =
    sees_still c.self.inside.pass.now c.ask_changes-asked.new.self.pass c.args.p c.ask_changes-asked.ensures.reads_on.on
    (subst (λ (v : PassView). c.args.p ≤ length v.view) (sym (same_pass _ _ c.self.view_is)) c.requires.within)

pub look_further-requires-clause-above : goal.look_further-requires-clause-above
look_further-requires-clause-above g c = subst (λ m. reach m ≤ c.args.q) (sym c.ask_changes-asked.ensures.reads_on.on.same_mark)
    (subst (λ (v : PassView). reach v.mark ≤ c.args.q) (sym (same_pass _ _ c.self.view_is)) c.requires.above)

pub returns-clause-exact : goal.returns-clause-exact
returns-clause-exact g c =
    subst (λ (v : PassView). IfOk c.ask_changes-asked.result (λ found. found.items ≡ base_changes c.args.q c.args.p c.args.range.now v.view)) (same_pass _ _ c.self.view_is) c.ask_changes-asked.ensures.exact

pub returns-clause-entered : goal.returns-clause-entered
returns-clause-entered g c = subst (λ (v : PassView). HasEntered v.view) (same_pass _ _ c.self.view_is) c.self.invariant.0.recorded.entered

pub returns-clause-moves : goal.returns-clause-moves
returns-clause-moves g c =
    let on = lent_reads_on-trans _ c.ask_changes-asked.new.self c.look_further.new.self c.ask_changes-asked.ensures.reads_on c.look_further.ensures in
    reads_moves _ c.args.self.now c.look_further.new.self c.self.invariant.0.recorded c.self.view_is on
