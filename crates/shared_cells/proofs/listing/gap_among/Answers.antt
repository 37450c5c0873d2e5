use Rattle.std.proofs.Common.{◌≡◌, ℕ, true, List, [], ◌∷◌, ◌++◌, length, ap, ◌∙◌, subst, arith}
use Rattle.std.specs.List.{list_all}
use Rattle.range_set.specs.declared.piece.Piece.{Piece}
use Rattle.range_set.specs.declared.piece.Piece.TheVariants.{Gap}
use Rattle.range_set.specs.Joined.{JoinTo}
use Rattle.range_set.specs.Held.{is_free}
use Rattle.range_set.specs.Pieces.{gaps_of, ranges_of}
use Rattle.shared_cells.proofs.ListingLemmas.{lone_gap}
use Rattle.shared_cells.proofs.listing.gap_among.Goals as goal

pub returns-in-Some-Gap : goal.returns-in-Some-Gap
returns-in-Some-Gap c =
    let range = c.args.range.now in
    let ranges = c.args.ranges.now in
    let gap = c.in-Some-Gap.gap in
    let rest = c.pop.new.self.items in
    let pieces : c.in_ok-pieces.pieces.items ≡ rest ++ Gap gap ∷ [] = c.in-Some-Gap.ensures.items ∙ ap (λ (p : Piece ℕ). rest ++ p ∷ []) c.in-Some-Gap.field-0-is in
    let count : length c.in_ok-pieces.pieces.items ≡ 1 = omega (arith, c.in_ok-pieces.pieces.ok.0, c.len.ensures, c.if-len-ne1.false) in
    lone_gap ranges range gap rest
    (subst (λ (ps : List (Piece ℕ)). JoinTo range (ranges_of ps)) pieces c.in_ok-pieces.ensures.joins)
    (subst (λ (ps : List (Piece ℕ)). list_all (is_free ranges) (gaps_of ps) ≡ true) pieces c.in_ok-pieces.ensures.free_gaps)
    (subst (λ (ps : List (Piece ℕ)). length ps ≡ 1) pieces count)
