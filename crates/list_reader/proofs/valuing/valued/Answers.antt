use Rattle.std.proofs.Common.{◌≡◌, [], ◌∷◌, ◌++◌, Option, sym, ap, ◌∙◌}
use Rattle.std.proofs.lemmas.List.{map-append}
use Rattle.semantics.specs.Texts.{Text, value_at}
use Rattle.semantics.specs.States.{below}
use Rattle.growing_history.specs.StateChanges.{change_to}
use Rattle.list_reader.proofs.valuing.valued.Goals as goal

pub loop-key-preserved : goal.loop-key-preserved
loop-key-preserved c =
    let table = below c.args.entries.now c.args.rank in
    let key : Text = c.in-Some.key in
    let stands = c.get-value.ensures ∙ ap (value_at key) c.in_ok-table.ensures in
    let one : c.in_ok-of.field-0 ≡ change_to table key = c.in_ok-of.ensures ∙ ap (λ (v : Option Text). record { key = key; value = v }) stands in
    c.in_ok-push.ensures.items ∙ (λ i. c.loop-key.invariant i ++ one i ∷ [])
    ∙ sym (map-append (change_to table) c.loop-key.yielded (key ∷ []))
