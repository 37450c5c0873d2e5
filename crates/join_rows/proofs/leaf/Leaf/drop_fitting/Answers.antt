use Rattle.std.proofs.Common.{◌≡◌, is_some, not, length, sym, ap, ◌∙◌, subst, arith}
use Rattle.std.proofs.lemmas.List.{length-map}
use Rattle.semantics.specs.Texts.{Text, Table, pairs_where}
use Rattle.semantics.specs.Patterns.{bind}
use Rattle.join_rows.specs.Laid.{row_of, rows_of, AreLaid}
use Rattle.join_rows.proofs.leaf.Leaf.drop_fitting.Goals as goal

pub drop_entries-requires : goal.drop_entries-requires
drop_entries-requires c = subst (λ (b : Text). AreLaid b c.self.inside.entries.items) (sym c.as_slice.ensures.value) c.self.invariant

pub invariant_of-self : goal.invariant_of-self
invariant_of-self c = subst (λ (b : Text). AreLaid b c.drop_entries.new.entries.items) c.as_slice.ensures.value c.drop_entries.ensures.rows.laid

pub returns-clause-rows : goal.returns-clause-rows
returns-clause-rows c =
    let stays = λ (key : Text). not (is_some (bind c.args.pattern.now key c.args.slots.now)) in
    sym (ap (λ (b : Text). rows_of b c.drop_entries.new.entries.items) c.as_slice.ensures.value) ∙ c.drop_entries.ensures.rows.is
    ∙ ap (λ (b : Text). pairs_where stays (rows_of b c.self.inside.entries.items)) c.as_slice.ensures.value ∙ ap (pairs_where stays) c.self.view_is

pub returns-clause-gone : goal.returns-clause-gone
returns-clause-gone c =
    let old = c.self.inside.entries.items in
    let new = c.drop_entries.new.entries.items in
    let bytes = c.self.inside.bytes.items in
    let lent = c.as_slice.result.now in
    let rows = ap (λ (t : Table). length t) c.self.view_is in
    omega (arith, rows, c.drop_entries.ensures.gone, length-map old (row_of bytes), length-map old (row_of lent), length-map new (row_of bytes), length-map new (row_of lent))
