use Rattle.std.proofs.Common.{◌≡◌, ℕ, true, [], IfOk, unwrap_or, ap, subst, ◌∙◌}
use Rattle.range_set.specs.Held.{Held, are_apart}
use Rattle.cell_slots.specs.Places.{ArePieces}
use Rattle.cell_slots.proofs.PieceLemmas.{are_pieces}
use Rattle.shared_cells.specs.Listings.{listed_at}
use Rattle.shared_cells.proofs.listings.Listings.cover.Goals as goal

pub returns-in-Some-clause-pieces : goal.returns-in-Some-clause-pieces
returns-in-Some-clause-pieces c =
    subst (λ (held : Held ℕ). IfOk c.cover.result (λ pieces. ArePieces c.args.range.now held pieces.items))
    (ap (λ o. unwrap_or o []) c.in-Some.ensures.value ∙ ap (λ l. listed_at l c.args.join) c.self.view_is) c.cover.ensures.pieces

pub returns-in-Some-clause-apart : goal.returns-in-Some-clause-apart
returns-in-Some-clause-apart c =
    subst (λ (held : Held ℕ). are_apart held ≡ true) (ap (λ o. unwrap_or o []) c.in-Some.ensures.value ∙ ap (λ l. listed_at l c.args.join) c.self.view_is) c.cover.ensures.apart

pub returns-in-None-clause-pieces : goal.returns-in-None-clause-pieces
returns-in-None-clause-pieces c =
    subst (λ (held : Held ℕ). IfOk c.cover-in-None.result (λ pieces. ArePieces c.args.range.now held pieces.items))
    (c.new-none.ensures ∙ ap (λ o. unwrap_or o []) c.in-None.ensures.value ∙ ap (λ l. listed_at l c.args.join) c.self.view_is)
    (are_pieces c.cover-in-None.result (λ pieces. pieces.items) c.args.range.now c.new-none.result c.cover-in-None.ensures.joins c.cover-in-None.ensures.kept c.cover-in-None.ensures.whole_gaps c.cover-in-None.ensures.free_gaps)

pub returns-in-None-clause-apart : goal.returns-in-None-clause-apart
returns-in-None-clause-apart c =
    subst (λ (held : Held ℕ). are_apart held ≡ true) (c.new-none.ensures ∙ ap (λ o. unwrap_or o []) c.in-None.ensures.value ∙ ap (λ l. listed_at l c.args.join) c.self.view_is) c.cover-in-None.ensures.apart
