use Rattle.std.proofs.Common.{List, take, sym, ap, ◌∙◌, subst}
use Rattle.semantics.specs.Texts.{Table}
use Rattle.join_rows.specs.declared.entry.Entry.{Entry}
use Rattle.join_rows.specs.Laid.{rows_of, AreLaid}
use Rattle.join_rows.proofs.LaidLemmas.{laid_part}
use Rattle.join_rows.proofs.leaf.Leaf.truncate.Goals as goal

pub invariant_of-self : goal.invariant_of-self
invariant_of-self c =
    subst (λ (es : List Entry). AreLaid c.self.inside.bytes.items es) (sym c.truncate.ensures.items)
    (laid_part c.self.inside.bytes.items c.self.inside.entries.items 0 c.args.place c.self.invariant).laid

pub returns : goal.returns
returns c =
    c.tidy.ensures ∙ ap (λ (es : List Entry). rows_of c.self.inside.bytes.items es) c.truncate.ensures.items
    ∙ (laid_part c.self.inside.bytes.items c.self.inside.entries.items 0 c.args.place c.self.invariant).is ∙ ap (λ (t : Table). take c.args.place t) c.self.view_is
