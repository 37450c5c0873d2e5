use Rattle.std.proofs.Common.{Result, ℕ, List, sym, ◌∙◌, subst}
use Rattle.semantics.specs.Texts.{Table, with_pair}
use Rattle.join_rows.specs.declared.entry.Entry.{Entry}
use Rattle.join_rows.specs.Laid.{rows_of, LaidAs}
use Rattle.join_rows.specs.Found.{Finds}
use Rattle.join_rows.proofs.ResultLemmas.{on_err_by}
use Rattle.join_rows.proofs.LaidLemmas.{laid-grown, laid_set, laid_insert}
use Rattle.join_rows.proofs.laying.put_at.Goals as goal

pub returns-in_err-entry-clause-err : goal.returns-in_err-entry-clause-err
returns-in_err-entry-clause-err c =
    on_err_by c.from_residual.result _ (laid-grown c.args.bytes.now.items c.lay.new.bytes.items c.args.entries.now.items c.lay.ensures.grows c.requires.laid)

pub returns-in_err-insert-in-Err-clause-err : goal.returns-in_err-insert-in-Err-clause-err
returns-in_err-insert-in-Err-clause-err c =
    on_err_by c.from_residual-in_err-insert-in-Err.result _
    (subst (λ (es : List Entry). LaidAs (rows_of c.args.bytes.now.items c.args.entries.now.items) c.lay.new.bytes.items es) (sym c.in_err-insert-in-Err.ensures.items)
    (laid-grown c.args.bytes.now.items c.lay.new.bytes.items c.args.entries.now.items c.lay.ensures.grows c.requires.laid))

pub returns-in-Ok-clause-ok : goal.returns-in-Ok-clause-ok
returns-in-Ok-clause-ok c =
    let there = subst (λ (r : Result ℕ ℕ). Finds c.args.key.now (rows_of c.args.bytes.now.items c.args.entries.now.items) r) c.in-Ok.is c.requires.found in
    laid_set c.args.bytes.now.items c.lay.new.bytes.items c.args.entries.now.items c.in_ok-entry.entry c.args.key.now c.args.value.now
    c.requires.laid c.lay.ensures.grows (c.in_ok-entry.ensures.row ∙ (λ i. (c.as_bytes.ensures.value i, c.as_bytes-2.ensures.value i))) c.in_ok-entry.ensures.within c.requires.row c.in-Ok.place there

pub returns-in_ok-insert-in-Err-clause-ok : goal.returns-in_ok-insert-in-Err-clause-ok
returns-in_ok-insert-in-Err-clause-ok c =
    let gap = subst (λ (r : Result ℕ ℕ). Finds c.args.key.now (rows_of c.args.bytes.now.items c.args.entries.now.items) r) c.in-Err.is c.requires.found in
    subst (λ (es : List Entry). LaidAs (with_pair c.args.key.now c.args.value.now (rows_of c.args.bytes.now.items c.args.entries.now.items)) c.lay.new.bytes.items es)
    (sym c.in_ok-insert-in-Err.ensures.items)
    (laid_insert c.args.bytes.now.items c.lay.new.bytes.items c.args.entries.now.items c.in_ok-entry.entry c.args.key.now c.args.value.now
    c.requires.laid c.lay.ensures.grows (c.in_ok-entry.ensures.row ∙ (λ i. (c.as_bytes.ensures.value i, c.as_bytes-2.ensures.value i))) c.in_ok-entry.ensures.within c.requires.row c.in-Err.place gap)
