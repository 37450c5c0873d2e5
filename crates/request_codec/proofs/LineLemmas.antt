-- The first line of a text and what follows it.
use Rattle.std.proofs.Common.{◌≡◌, ℕ, ◌+◌, ◌-◌, ◌<◌, ◌≤◌, ◌==◌, List, [], ◌∷◌, ◌++◌, length, take, drop, Bool, true, false, cond, nat_lt, refl, sym, ap, ◌∙◌, length-drop}
use Rattle.std.proofs.Math.Seq.{take-length}
use Rattle.std.specs.Prelude.{position, Some, None}
use Rattle.std.specs.List.{before_first}
use Rattle.std.proofs.lemmas.Bool.{ltb-true, ltb-false}
use Rattle.std.proofs.lemmas.Option.{none-some, same_Some}
use Rattle.semantics.specs.Texts.{Text}
use Rattle.semantics.specs.Patterns.{pieces}
use Rattle.protocol.specs.JoinsFile.{counted_lines}
use Rattle.protocol.proofs.Cuts.{first_piece, pieces-whole, pieces-first}
use Rattle.request_codec.specs.Feeding.{is_feed, before_feed}
use Rattle.request_codec.proofs.FeedLemmas.{has_feed, has_feed-before, split_at_feed, before_first-all}

-- ---- where the first byte 10 stands

found_by : (before size end : ℕ) (here : Bool) → nat_lt before size ≡ here → cond here (Some before) None ≡ Some end → (before < size) × (before ≡ end)
found_by before size end true e h = (ltb-true before size e, same_Some before end h)
found_by before size end false e h = absurd (none-some end h)

none_by : (before size : ℕ) (here : Bool) → nat_lt before size ≡ here → cond here (Some before) None ≡ None → size ≤ before
none_by before size true e h = absurd (none-some before (sym h))
none_by before size false e h = ltb-false before size e

-- a text where none stands has none
feedless : (t : Text) → position is_feed t ≡ None → has_feed t ≡ false
feedless t h = ap has_feed (sym (before_first-all t (none_by (before_feed t) (length t) _ refl h))) ∙ has_feed-before t

-- ---- lines

-- a piece before others is a line
counted_more : (first : Text) (others : List Text) (next : Text) (more : List Text) → others ≡ next ∷ more → counted_lines (first ∷ others) ≡ first ∷ counted_lines others
counted_more first others next more e = rw e

-- a last piece that is not empty is a line
counted_last : (t : Text) → (length t == 0) ≡ false → counted_lines (t ∷ []) ≡ t ∷ []
counted_last t e = rw e

-- the lines of a text in two parts with the byte 10 between them
lines-split : (front rest : Text) → has_feed front ≡ false → counted_lines (pieces 10 (front ++ 10 ∷ rest)) ≡ front ∷ counted_lines (pieces 10 rest)
lines-split front rest none =
    let parts = first_piece 10 rest in
    ap counted_lines (pieces-first 10 front rest none) ∙ counted_more front (pieces 10 rest) parts.0 parts.1 parts.2

-- the lines of a text whose first byte 10 stands there
lines-first : (t : Text) (end : ℕ) → position is_feed t ≡ Some end → counted_lines (pieces 10 t) ≡ take end t ∷ counted_lines (pieces 10 (drop (end + 1) t))
lines-first t end h =
    let at = found_by (before_feed t) (length t) end _ refl h in
    ap (λ u. counted_lines (pieces 10 u)) (split_at_feed t at.0)
    ∙ lines-split (before_first is_feed t) (drop (before_feed t + 1) t) (has_feed-before t)
    ∙ ap (λ n. take n t ∷ counted_lines (pieces 10 (drop (n + 1) t))) at.1

-- the lines of a text without the byte 10
pub lines-last : (t : Text) → (length t == 0) ≡ false → position is_feed t ≡ None → counted_lines (pieces 10 t) ≡ t ∷ []
lines-last t some h = ap counted_lines (pieces-whole 10 t (feedless t h)) ∙ counted_last t some

-- what is cut from a text at that byte, as the program cuts it
pub lines-cut : (t line rest : Text) (end : ℕ) → position is_feed t ≡ Some end → line ≡ take end t → rest ≡ take (length t - (end + 1)) (drop (end + 1) t) →
    counted_lines (pieces 10 t) ≡ line ∷ counted_lines (pieces 10 rest)
lines-cut t line rest end h front back =
    let whole : take (length t - (end + 1)) (drop (end + 1) t) ≡ drop (end + 1) t = ap (λ n. take n (drop (end + 1) t)) (sym (length-drop (end + 1) t)) ∙ take-length (drop (end + 1) t) in
    lines-first t end h
    ∙ ap (λ l. l ∷ counted_lines (pieces 10 (drop (end + 1) t))) (sym front)
    ∙ ap (λ r. line ∷ counted_lines (pieces 10 r)) (sym (back ∙ whole))
