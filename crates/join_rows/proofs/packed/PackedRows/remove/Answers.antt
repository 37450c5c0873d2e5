use Rattle.std.proofs.Common.{ap, ◌∙◌}
use Rattle.semantics.specs.Texts.{Text, without_key}
use Rattle.join_rows.specs.Leaves.{all_rows}
use Rattle.join_rows.proofs.packed.PackedRows.remove.Goals as goal

pub returns : goal.returns
returns c =
    c.remove_counted-self-inside.ensures.rows ∙ ap (λ (k : Text). without_key k (all_rows c.self.inside.leaves.items)) c.text-key.ensures.text ∙ ap (without_key c.args.key.now) c.self.view_is
