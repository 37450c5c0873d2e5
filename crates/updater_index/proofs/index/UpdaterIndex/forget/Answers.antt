use Rattle.std.proofs.Common.{◌≡◌, [], List, length, set, ap, ◌∙◌, arith}
use Rattle.std.proofs.lemmas.List.{length-set}
use Rattle.semantics.specs.Texts.{Range}
use Rattle.updater_index.specs.Registered.{Index, filled, without_mark}
use Rattle.updater_index.proofs.FilledLemmas.{filled-emptied}
use Rattle.updater_index.proofs.index.UpdaterIndex.forget.Goals as goal

pub invariant_of-self : goal.invariant_of-self
invariant_of-self c =
    let none : List Range = [] in
    omega (arith, ap length c.forget.ensures, length-set c.self.inside.registered c.args.id none, c.self.invariant)

pub returns : goal.returns
returns c =
    let ids = c.self.inside.ids in
    let id = c.args.id in
    let registered = c.self.inside.registered in
    let held : filled ids c.forget.new.self ≡ set (filled ids registered) id [] = ap (filled ids) c.forget.ensures ∙ filled-emptied ids id registered in
    (λ i. let x : Index = record { held = held i; marked = c.unmark.ensures i } in x)
    ∙ ap (λ (x : Index). let y : Index = record { held = set x.held id []; marked = without_mark id x.marked } in y) c.self.view_is
