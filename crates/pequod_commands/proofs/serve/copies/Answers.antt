use Rattle.std.proofs.Common.{◌++◌, ◌∷◌, ◌∙◌, [], Some, ap, sym}
use Rattle.pequod_commands.proofs.FileLemmas.{joins_more}
use Rattle.pequod_commands.proofs.serve.copies.Goals as goal

pub loop-i-preserved : goal.loop-i-preserved
loop-i-preserved c =
    c.in_ok-push.ensures.items ∙ ap (λ t. t ++ c.in_ok-copy.field-0 ∷ []) c.loop-i.invariant
    ∙ sym (joins_more c.args.set.now.standing c.loop-i.i c.in_ok-copy.field-0 (c.join.ensures ∙ ap Some (sym c.in_ok-copy.ensures)))
