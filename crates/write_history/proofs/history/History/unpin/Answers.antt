use Rattle.std.proofs.Common.{◌≡◌, sym, ap, ◌∙◌, subst}
use Rattle.write_history.specs.Marks.{IsPlaced}
use Rattle.write_history.specs.Passes.{PassView}
use Rattle.write_history.specs.Steps.{Sat, IsResting}
use Rattle.write_history.specs.declared.known.Mark.TheVariants.{Pinned}
use Rattle.write_history.proofs.history.History.unpin.Goals as goal

pub unpin-requires-clause-pinned : goal.unpin-requires-clause-pinned
unpin-requires-clause-pinned g c = (c.requires.pinned.0, ap (λ (v : PassView). v.mark) c.pass.view_is ∙ c.requires.pinned.1)

pub invariant_of-pass : goal.invariant_of-pass
invariant_of-pass g c =
    let m = c.pass.inside.place.me in
    let number = c.pass.inside.number in
    let rest = c.pass.invariant in
    let marked : m.0.mark ≡ Pinned c.requires.pinned.0 = ap (λ (v : PassView). v.mark) c.pass.view_is ∙ c.requires.pinned.1 in
    let placed = subst (IsPlaced m.0.kinds number) marked rest.placed in
    subst (λ (x : Sat). IsResting number x) (sym c.unpin.ensures.free)
    (record { numbered = rest.numbered; empty = rest.empty; none_told = rest.none_told; none_held = rest.none_held; recorded = rest.recorded; low = tt; placed = placed.0 })
