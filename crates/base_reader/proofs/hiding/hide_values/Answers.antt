use Rattle.std.proofs.Common.{[], ◌∷◌, ◌++◌, sym, ◌∙◌}
use Rattle.std.proofs.lemmas.List.{map-append}
use Rattle.base_reader.specs.Hiding.{without_hidden}
use Rattle.base_reader.proofs.hiding.hide_values.Goals as goal

pub loop-change-preserved : goal.loop-change-preserved
loop-change-preserved c =
    c.in_ok-push.ensures.items ∙ (λ i. c.loop-change.invariant i ++ c.seen.ensures i ∷ [])
    ∙ sym (map-append (without_hidden c.args.joins.now.standing) c.loop-change.yielded (c.in-Some.change ∷ []))

pub returns-then-is_bare : goal.returns-then-is_bare
returns-then-is_bare c = c.requires (c.is_bare.ensures c.if-is_bare.true)
