-- Bytes of a line as they are read.
use Rattle.std.proofs.Common.{◌≡◌, ℕ, ◌+◌, ◌<◌, ◌≤◌, [], ◌∷◌, ◌++◌, length, drop, false, refl, sym, ap, ap₂, ◌∙◌, subst, arith, append_assoc, append-nil, length-drop}
use Rattle.std.specs.List.{before_first}
use Rattle.protocol.specs.Lines.{Bytes, lines_of}
use Rattle.request_codec.specs.declared.lines.Fed.TheVariants.{Line, Long, More}
use Rattle.request_codec.specs.Feeding.{is_feed, before_feed, fed, line_fed}
use Rattle.request_codec.proofs.FeedLemmas.{is_line, line_fed-fits, line_fed-more, has_feed-line_fed, length-line_fed, split_at_feed, lines_of-too_long}
use Rattle.follow_node.specs.Heard.{IsShort, IsFollowed, IsLong}

pub short_empty : (line : Bytes) → line ≡ [] → IsShort line
short_empty line e = subst IsShort (sym e) (record { no_feed = refl; short = omega arith })

-- whatever a piece makes of it, the line may be one
pub short_after : (line piece line' : Bytes) → IsShort line → line' ≡ line_fed line piece → IsShort line'
short_after line piece line' is same = subst IsShort (sym same) (record { no_feed = has_feed-line_fed line piece is.no_feed; short = length-line_fed line piece })

-- the whole piece goes to the line
pub more_is : (line piece line' : Bytes) → IsShort line → fed line piece ≡ More → line' ≡ line_fed line piece → line' ≡ line ++ piece
more_is line piece line' is more same = same ∙ line_fed-more line piece is.short more

-- a piece that ends the line
pub ended_is : (line piece line' : Bytes) (n : ℕ) → IsShort line → fed line piece ≡ Line n → line' ≡ line_fed line piece → (line ++ piece ≡ line' ++ 10 ∷ drop n piece) × (n ≤ length piece)
ended_is line piece line' n short ends same =
    let is = is_line line piece n ends in
    let front = before_first is_feed piece in
    let line_is : line' ≡ line ++ front = same ∙ line_fed-fits line piece short.short is.fits in
    let split = split_at_feed piece is.found in (
      ap (λ t. line ++ t) split ∙ sym (append_assoc line front (10 ∷ drop (before_feed piece + 1) piece)) ∙ ap₂ (λ t m. t ++ 10 ∷ drop m piece) (sym line_is) (sym is.number),
      omega (arith, is.number, is.found),
    )

pub drop_all : (n : ℕ) (bs : Bytes) → n ≡ length bs → drop n bs ≡ []
drop_all n [] e = rw e refl
drop_all n (b ∷ bs) e = rw e (drop_all (length bs) bs refl)

-- the line ends with the piece
pub ends_with : (line piece line' : Bytes) (n : ℕ) → IsShort line → fed line piece ≡ Line n → line' ≡ line_fed line piece → n ≡ length piece → line ++ piece ≡ line' ++ 10 ∷ []
ends_with line piece line' n short ends same whole = (ended_is line piece line' n short ends same).0 ∙ ap (λ t. line' ++ 10 ∷ t) (drop_all n piece whole)

-- more follows the line in the piece
pub followed : (line piece line' : Bytes) (n : ℕ) → IsShort line → fed line piece ≡ Line n → line' ≡ line_fed line piece → (n ≡ length piece → ⊥) → IsFollowed (line ++ piece)
followed line piece line' n short ends same other =
    let is = ended_is line piece line' n short ends same in
    record {
      line = line';
      more = drop n piece;
      short = short_after line piece line' short same;
      some = let fewer : n < length piece = omega (arith, is.1, other) in omega (arith, length-drop n piece);
      split = is.0;
    }

-- the line is too long
pub long_with : (line piece : Bytes) (n : ℕ) → IsShort line → fed line piece ≡ Long n → IsLong (line ++ piece)
long_with line piece n is over =
    ap (λ t. lines_of (line ++ t) false) (sym (append-nil piece)) ∙ lines_of-too_long line piece [] false n is.no_feed is.short over
