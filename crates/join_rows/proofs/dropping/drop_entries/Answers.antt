use Rattle.std.proofs.Common.{◌≡◌, ◌-◌, Bool, List, suc, is_some, length, true, false, sym, ap, ◌∙◌, subst, arith, rules}
use Rattle.std.proofs.lemmas.List.{length-map}
use Rattle.semantics.specs.Texts.{Text}
use Rattle.semantics.specs.Patterns.{bind}
use Rattle.join_rows.specs.declared.entry.Entry.{Entry}
use Rattle.join_rows.specs.Laid.{row_of, rows_of}
use Rattle.join_rows.specs.Found.{row_at}
use Rattle.join_rows.proofs.DropLemmas.{Thinned, thinned_none, thinned_all, thinned_stays, thinned_gone}
use Rattle.join_rows.proofs.dropping.drop_entries.Goals as goal

pub loop-place-init : goal.loop-place-init
loop-place-init c = thinned_none (λ (key : Text). is_some (bind c.args.pattern.now key c.args.slots.now)) c.args.bytes.now c.args.entries.now.items c.len-before.result (search rules) c.requires

pub loop-place-preserved-then-fits_under : goal.loop-place-preserved-then-fits_under
loop-place-preserved-then-fits_under c =
    let fits : Text → Bool = λ key. is_some (bind c.args.pattern.now key c.args.slots.now) in
    let bytes = c.args.bytes.now in
    let now = c.loop-place.entries.items in
    let p = c.loop-place.place - 1 in
    let e : c.loop-place.place ≡ suc p = omega arith in
    let same = c.key_at-key.ensures ∙ ap (λ (es : List Entry). (row_at p (rows_of bytes es)).0) c.as_slice.ensures.value in
    subst (λ (es : List Entry). Thinned fits bytes c.args.entries.now.items es p) (sym c.remove.ensures.items)
    (thinned_gone fits bytes c.args.entries.now.items now c.loop-place.place p e c.loop-place.invariant (ap fits (sym same) ∙ sym c.fits_under.ensures ∙ c.if-fits_under.true))

pub loop-place-preserved : goal.loop-place-preserved
loop-place-preserved c =
    let fits : Text → Bool = λ key. is_some (bind c.args.pattern.now key c.args.slots.now) in
    let bytes = c.args.bytes.now in
    let now = c.loop-place.entries.items in
    let p = c.loop-place.place - 1 in
    let e : c.loop-place.place ≡ suc p = omega arith in
    let same = c.key_at-key.ensures ∙ ap (λ (es : List Entry). (row_at p (rows_of bytes es)).0) c.as_slice.ensures.value in
    thinned_stays fits bytes c.args.entries.now.items now c.loop-place.place p e c.loop-place.invariant (ap fits (sym same) ∙ sym c.fits_under.ensures ∙ c.if-fits_under.false)

pub returns-clause-rows : goal.returns-clause-rows
returns-clause-rows c =
    thinned_all (λ (key : Text). is_some (bind c.args.pattern.now key c.args.slots.now)) c.args.bytes.now c.args.entries.now.items c.loop-place.entries.items c.loop-place.place (omega arith) c.loop-place.invariant

pub returns-clause-gone : goal.returns-clause-gone
returns-clause-gone c =
    let old = c.args.entries.now.items in
    let now = c.loop-place.entries.items in
    let before : c.len-before.result ≡ length old = search rules in
    let left : c.len-left.result ≡ length now = search rules in
    omega (arith, before, left, c.loop-place.invariant.fewer, length-map old (row_of c.args.bytes.now), length-map now (row_of c.args.bytes.now))
