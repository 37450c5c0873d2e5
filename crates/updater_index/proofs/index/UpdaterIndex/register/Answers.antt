use Rattle.std.proofs.Common.{List, set, ap, ◌∙◌}
use Rattle.std.proofs.lemmas.Result.{on_err_weaker, on_ok_weaker}
use Rattle.semantics.specs.Texts.{Range}
use Rattle.updater_index.specs.Registered.{Held, Index, filled, ranges_of, with_ranges}
use Rattle.updater_index.proofs.FilledLemmas.{filled-registered, reached-within, within-after}
use Rattle.updater_index.proofs.IndexLemmas.{on_err_always}
use Rattle.updater_index.proofs.index.UpdaterIndex.register.Goals as goal

pub invariant_of-self : goal.invariant_of-self
invariant_of-self c = reached-within c.self.inside.ids c.args.id c.self.inside.registered c.reach.new.self c.args.self.now.held (ap (λ (x : Index). x.held) c.self.view_is) c.requires c.self.invariant c.reach.ensures.upto

pub returns-in_err-reach-clause-err : goal.returns-in_err-reach-clause-err
returns-in_err-reach-clause-err c =
    let ids = c.self.inside.ids in
    let few = reached-within ids c.args.id c.self.inside.registered c.reach.new.self c.args.self.now.held (ap (λ (x : Index). x.held) c.self.view_is) c.requires c.self.invariant c.reach.ensures.upto in
    on_err_always c.from_residual.result (ap (λ (held : Held). let x : Index = record { held = held; marked = c.self.inside.marks } in x) (c.reach.ensures.same ids few) ∙ c.self.view_is)

pub invariant_of-self-2 : goal.invariant_of-self-2
invariant_of-self-2 c =
    let ids = c.self.inside.ids in
    let longer = c.reach.new.self in
    let few = reached-within ids c.args.id c.self.inside.registered longer c.args.self.now.held (ap (λ (x : Index). x.held) c.self.view_is) c.requires c.self.invariant c.reach.ensures.upto in
    within-after c.register.result ids c.args.id longer c.register.new.self (with_ranges (ranges_of c.args.id longer) c.as_slice.result.now) c.register.ensures.ok c.register.ensures.err few

pub returns-clause-ok : goal.returns-clause-ok
returns-clause-ok c =
    let ids = c.self.inside.ids in
    let id = c.args.id in
    let old = c.self.inside.registered in
    let longer = c.reach.new.self in
    let ranges = c.args.ranges.items in
    let few = reached-within ids id old longer c.args.self.now.held (ap (λ (x : Index). x.held) c.self.view_is) c.requires c.self.invariant c.reach.ensures.upto in
    on_ok_weaker c.register.result (λ is.
    ap (λ (held : Held). let x : Index = record { held = held; marked = c.self.inside.marks } in x)
    (filled-registered ids id old longer c.register.new.self ranges c.in_ok-reach.ensures.reached few c.reach.ensures.same
    (is ∙ ap (λ (more : List Range). set longer id (with_ranges (ranges_of id longer) more)) c.as_slice.ensures.value))
    ∙ ap (λ (x : Index). let y : Index = record { held = set x.held id (with_ranges (ranges_of id x.held) ranges); marked = x.marked } in y) c.self.view_is)
    c.register.ensures.ok

pub returns-clause-err : goal.returns-clause-err
returns-clause-err c =
    let ids = c.self.inside.ids in
    let few = reached-within ids c.args.id c.self.inside.registered c.reach.new.self c.args.self.now.held (ap (λ (x : Index). x.held) c.self.view_is) c.requires c.self.invariant c.reach.ensures.upto in
    on_err_weaker c.register.result (λ is.
    ap (λ (held : Held). let x : Index = record { held = held; marked = c.self.inside.marks } in x) (ap (filled ids) is ∙ c.reach.ensures.same ids few) ∙ c.self.view_is)
    c.register.ensures.err
