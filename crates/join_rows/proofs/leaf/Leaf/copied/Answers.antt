use Rattle.std.proofs.Common.{◌-◌, List, take, drop, sym, ap, ◌∙◌, subst}
use Rattle.semantics.specs.Texts.{Text, Table}
use Rattle.join_rows.specs.declared.entry.Entry.{Entry}
use Rattle.join_rows.specs.Laid.{rows_of, AreLaid}
use Rattle.join_rows.proofs.LaidLemmas.{laid_part}
use Rattle.join_rows.proofs.leaf.Leaf.copied.Goals as goal

pub copy_of-requires : goal.copy_of-requires
copy_of-requires c =
    let bytes = c.self.inside.bytes.items in
    let entries = c.self.inside.entries.items in
    let n = c.args.to - c.args.from in
    subst (λ (b : Text). AreLaid b (take n (drop c.args.from c.deref.result.now))) (sym c.as_slice.ensures.value)
    (subst (λ (es : List Entry). AreLaid bytes (take n (drop c.args.from es))) (sym c.deref.ensures.value) (laid_part bytes entries c.args.from n c.self.invariant).laid)

pub returns : goal.returns
returns c =
    let bytes = c.self.inside.bytes.items in
    let entries = c.self.inside.entries.items in
    let n = c.args.to - c.args.from in
    c.in_ok-part.ensures.is
    ∙ ap (λ (b : Text). rows_of b (take n (drop c.args.from c.deref.result.now))) c.as_slice.ensures.value
    ∙ ap (λ (es : List Entry). rows_of bytes (take n (drop c.args.from es))) c.deref.ensures.value
    ∙ (laid_part bytes entries c.args.from n c.self.invariant).is
    ∙ ap (λ (t : Table). take n (drop c.args.from t)) c.self.view_is
