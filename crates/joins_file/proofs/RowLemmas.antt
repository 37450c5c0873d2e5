-- The rows of joins, one by one.
use Rattle.std.proofs.Common.{◌≡◌, ℕ, ◌+◌, ◌<◌, List, [], ◌∷◌, ◌++◌, length, take, zip, slice_get, slice_index, get_or, Some, refl, ap, ◌∙◌, arith, append-nil}
use Rattle.std.specs.Prelude.{Option, None, Ok, Err, option_map, flat_map}
use Rattle.std.proofs.Math.Seq.{take-length}
use Rattle.std.proofs.lemmas.List.{take_more}
use Rattle.std.proofs.lemmas.List.Concat.{flat_map-append}
use Rattle.std.proofs.lemmas.Option.{none-some, same_Some, get_or_from_slice_get}
use Rattle.std.proofs.lemmas.Slice.Zip.{length-zip, get_or-zip}
use Rattle.semantics.specs.Texts.{Text}
use Rattle.semantics.specs.Histories.{History, DeclaredJoin, joins_of}
use Rattle.semantics.specs.States.{ranks_of}
use Rattle.semantics.proofs.OfRankLemmas.{length-ranks_of}
use Rattle.protocol.specs.JoinsFile.{join_row, refused_row, file_history, check_text}

-- the join at a place, and its row
row_by : (f : DeclaredJoin → Text) (row : Text) (o : Option DeclaredJoin) → option_map f o ≡ Some row → (s : DeclaredJoin) × (o ≡ Some s) × (f s ≡ row)
row_by f row None e = absurd (none-some row e)
row_by f row (Some s) e = (s, refl, same_Some (f s) row e)

-- one more row of joins beside their ranks
rows_more : (ranks : List ℕ) (joins : List DeclaredJoin) (n : ℕ) (row : Text) → length ranks ≡ length joins → n < length joins →
    option_map (λ s. join_row (slice_index ranks n, s)) (slice_get joins n) ≡ Some row →
    flat_map join_row (take (n + 1) (zip ranks joins)) ≡ flat_map join_row (take n (zip ranks joins)) ++ row
rows_more ranks joins n row same inside e =
    let at = row_by (λ s. join_row (slice_index ranks n, s)) row (slice_get joins n) e in
    let d : ℕ × DeclaredJoin = (0, at.0) in
    let within : n < length (zip ranks joins) = omega (arith, length-zip ranks joins) in
    let pick : get_or (zip ranks joins) n d ≡ (slice_index ranks n, at.0) =
    get_or-zip ranks joins n d (omega arith) inside ∙ ap (λ s. (slice_index ranks n, s)) (get_or_from_slice_get joins n at.0 at.0 at.1) in
    ap (flat_map join_row) (take_more (zip ranks joins) n d within) ∙ flat_map-append join_row (take n (zip ranks joins)) (get_or (zip ranks joins) n d ∷ [])
    ∙ ap (λ t. flat_map join_row (take n (zip ranks joins)) ++ t) (append-nil (join_row (get_or (zip ranks joins) n d)) ∙ ap join_row pick ∙ at.2)

-- one more row of joins
pub join_rows_more : (joins : List DeclaredJoin) (n : ℕ) (row : Text) → n < length joins → option_map (λ s. join_row (slice_index (ranks_of joins) n, s)) (slice_get joins n) ≡ Some row →
    flat_map join_row (take (n + 1) (zip (ranks_of joins) joins)) ≡ flat_map join_row (take n (zip (ranks_of joins) joins)) ++ row
join_rows_more joins n row inside e = rows_more (ranks_of joins) joins n row (length-ranks_of joins) inside e

-- the rows of as many joins as there are
pub join_rows_all : (joins : List DeclaredJoin) (n : ℕ) → n ≡ length joins → flat_map join_row (take n (zip (ranks_of joins) joins)) ≡ flat_map join_row (zip (ranks_of joins) joins)
join_rows_all joins n e =
    let whole : n ≡ length (zip (ranks_of joins) joins) = omega (arith, length-zip (ranks_of joins) joins, length-ranks_of joins) in
    ap (λ k. flat_map join_row (take k (zip (ranks_of joins) joins))) whole ∙ ap (flat_map join_row) (take-length (zip (ranks_of joins) joins))

-- what is written about a file is the rows of its joins
pub check_text-joins : (bytes : Text) (h : History) (joins : List DeclaredJoin) → file_history bytes ≡ Ok h → joins ≡ joins_of h →
    check_text bytes ≡ flat_map join_row (zip (ranks_of joins) joins)
unfolding check_text
check_text-joins bytes h joins e same = rw (e, same)

-- or the row of its refused line
pub check_text-refused : (bytes : Text) (refused : ℕ × Text) → file_history bytes ≡ Err refused → check_text bytes ≡ refused_row refused
unfolding check_text
check_text-refused bytes refused e = rw e
