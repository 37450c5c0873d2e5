use Rattle.std.proofs.Common.{◌≡◌, ℕ, ap, sym, ◌∙◌, subst, length, rules}
use Rattle.updater_index.specs.Sides.{Sides}
use Rattle.updater_index.proofs.WindowLemmas.{IsSearching, searching_begins, searching_is_short, searching_goes, searching_ends}
use Rattle.updater_index.proofs.forks.Forks.find.Goals as goal

pub loop-length-init : goal.loop-length-init
loop-length-init c =
    subst (λ (ss : Sides). IsSearching ss c.into_iter-length-iterator.result c.args.key.now c.args.found.now c.args.found.now) c.self.view_is
    (searching_begins c.self.inside.sides.entries c.self.inside.lengths c.into_iter-length-iterator.result c.args.key.now (length c.text.result.now) c.args.found.now c.self.invariant
    (ap length c.text.ensures.text) (c.into_iter-length-iterator.ensures.into_iter_gives ∙ c.range-length-items.ensures.between (search rules)))

pub loop-length-preserved : goal.loop-length-preserved
loop-length-preserved c =
    searching_goes c.args.self.now c.loop-length.length-iterator c.in-Some.length.now c.next.new.self c.args.key.now c.args.found.now c.loop-length.found c.find_at.new.found c.loop-length.invariant
    (search rules) c.in_ok-find_at.ensures.finds c.in_ok-find_at.ensures.all

pub returns-clause-all : goal.returns-clause-all
returns-clause-all c = searching_ends c.args.self.now c.loop-length.length-iterator c.args.key.now c.args.found.now c.loop-length.found c.loop-length.invariant c.in-None.ensures.steps.0
