use Rattle.std.proofs.Common.{ℕ, IfOk, subst}
use Rattle.range_set.specs.Held.{Held}
use Rattle.cell_slots.specs.Places.{ArePieces}
use Rattle.cell_slots.proofs.PieceLemmas.{are_pieces}
use Rattle.shared_cells.proofs.listing.Listing.cover.Goals as goal

pub returns-clause-pieces : goal.returns-clause-pieces
returns-clause-pieces c =
    subst (λ (held : Held ℕ). IfOk c.cover.result (λ pieces. ArePieces c.args.range.now held pieces.items)) c.self.view_is
    (are_pieces c.cover.result (λ pieces. pieces.items) c.args.range.now c.self.inside.ranges c.cover.ensures.joins c.cover.ensures.kept c.cover.ensures.whole_gaps c.cover.ensures.free_gaps)
