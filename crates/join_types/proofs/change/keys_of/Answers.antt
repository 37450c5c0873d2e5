use Rattle.std.proofs.Common.{◌≡◌, [], ◌∷◌, ◌++◌, sym, ap, ◌∙◌}
use Rattle.std.proofs.lemmas.List.{map-append}
use Rattle.growing_history.specs.StateChanges.{Change}
use Rattle.join_types.proofs.change.keys_of.Goals as goal

pub loop-change-preserved : goal.loop-change-preserved
loop-change-preserved c =
    let change : Change = c.in-Some.change in
    let its_key : c.change.inside.key ≡ change.key = ap (λ (one : Change). one.key) c.change.view_is in
    c.in_ok-push.ensures.items ∙ (λ i. c.loop-change.invariant i ++ its_key i ∷ [])
    ∙ sym (map-append (λ (one : Change). one.key) c.loop-change.yielded (change ∷ []))
