use Rattle.std.proofs.Common.{◌≡◌, ℕ, true, Contains, IfOk, subst}
use Rattle.std.proofs.lemmas.Result.{IfOk-weaker}
use Rattle.semantics.specs.Texts.{Range}
use Rattle.semantics.proofs.MemberLemmas.{has_from_contains}
use Rattle.range_set.specs.Held.{are_apart}
use Rattle.range_set.specs.Pieces.{kept_of}
use Rattle.cell_slots.specs.Places.{ArePieces, LiesInPlace}
use Rattle.cell_slots.proofs.PieceLemmas.{lies_in_place}
use Rattle.shared_cells.specs.Spots.{place_at}
use Rattle.shared_cells.specs.Listings.{listed_at}
use Rattle.shared_cells.specs.Directories.{DirectoryView}
use Rattle.shared_cells.proofs.directory.Directory.pieces.Goals as goal

pub returns-clause-pieces : goal.returns-clause-pieces
returns-clause-pieces g c =
    subst (λ (d : DirectoryView). IfOk c.cover.result (λ pieces. ArePieces c.args.range.now (listed_at d.listed c.args.join) pieces.items)) c.self.view_is c.cover.ensures.pieces

pub returns-clause-apart : goal.returns-clause-apart
returns-clause-apart g c = subst (λ (d : DirectoryView). are_apart (listed_at d.listed c.args.join) ≡ true) c.self.view_is c.cover.ensures.apart

pub returns-clause-places : goal.returns-clause-places
returns-clause-places g c =
    subst (λ (d : DirectoryView). IfOk c.cover.result (λ pieces. (id : ℕ) → (part : Range) → Contains (kept_of pieces.items) (part, id) → LiesInPlace (place_at d.spots) id c.args.join part)) c.self.view_is
    (IfOk-weaker c.cover.result _ _ (λ pieces are id part h. lies_in_place (place_at c.self.inside.spots) (listed_at c.self.inside.listings) c.args.join c.args.range.now pieces.items part id c.self.invariant are
    (has_from_contains (kept_of pieces.items) (part, id) h)) c.cover.ensures.pieces)
