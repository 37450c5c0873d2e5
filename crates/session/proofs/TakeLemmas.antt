-- What a piece of bytes makes of the line under way, and how the line that it ends is served.
use Rattle.std.proofs.Common.{◌≡◌, ℕ, ◌+◌, ◌<◌, ◌≤◌, [], ◌∷◌, ◌++◌, length, take, drop, Bool, true, false, sym, ap, ap₂, ◌∙◌, subst, arith, append-nil, append_assoc}
use Rattle.std.specs.Prelude.{Option, Err}
use Rattle.std.specs.List.{before_first}
use Rattle.std.proofs.Math.Seq.{take-append-add, take-length}
use Rattle.semantics.specs.Texts.{Text}
use Rattle.semantics.specs.Histories.{History}
use Rattle.protocol.specs.Lines.{long_mark, lines_of}
use Rattle.protocol.specs.Replies.{Reply, long, reply_text}
use Rattle.protocol.specs.Session.{Serves, NothingLeft}
use Rattle.pq_io.specs.Streams.{Took, TookProperPrefix}
use Rattle.request_codec.specs.declared.lines.Fed.TheVariants as feds
use Rattle.request_codec.specs.Feeding.{is_feed, before_feed, fed, line_fed}
use Rattle.request_codec.proofs.FeedLemmas.{is_line, line_fed-fits, line_fed-more, has_feed-line_fed, length-line_fed, length-before_first, split_at_feed, lines_of-too_long}
use Rattle.session.specs.declared.end.End.{End}
use Rattle.session.specs.declared.end.End.TheVariants.{Closed, Quit, Long, ReadFault, WriteFault, Spent, OutOfMemory}
use Rattle.session.specs.Serving.{IsShortLine, GoesOn, EndsAmongLines, Sends}
use Rattle.session.proofs.LineLemmas.{link_of, IsFirst, goes_on_in_line, ends_by_bye, ends_by_write_fault, ends_by_long, ends_by_long_fault}

-- ---- the line after a piece

-- whatever a piece makes of it, the line may be one
pub short_after : (line piece line' : Text) → IsShortLine line → line' ≡ line_fed line piece → IsShortLine line'
short_after line piece line' is_line same =
    subst IsShortLine (sym same) (record { no_feed = has_feed-line_fed line piece is_line.no_feed; short = length-line_fed line piece })

-- the whole piece goes to the line
pub goes_on_more : (view : History) (client : ℕ) (line piece line' : Text) → IsShortLine line → fed line piece ≡ feds.More → line' ≡ line_fed line piece →
    GoesOn view view client (line ++ take (length piece) piece) [] line'
goes_on_more view client line piece line' is_line more same =
    goes_on_in_line view client (line ++ take (length piece) piece) line'
    (same ∙ line_fed-more line piece is_line.short more ∙ ap (λ t. line ++ t) (sym (take-length piece)))

-- a piece that makes the line too long
pub long_after : (line piece : Text) (n : ℕ) → IsShortLine line → fed line piece ≡ feds.Long n → lines_of (line ++ piece) false ≡ long_mark
long_after line piece n is_line over =
    ap (λ t. lines_of (line ++ t) false) (sym (append-nil piece)) ∙ lines_of-too_long line piece [] false n is_line.no_feed is_line.short over

take_past : (piece front rest : Text) (b n : ℕ) → piece ≡ front ++ b ∷ rest → n ≡ length front + 1 → take n piece ≡ front ++ b ∷ []
take_past piece front rest b n same count =
    ap₂ take count same ∙ take-append-add front (b ∷ rest) 1

-- a piece that ends the line: how many bytes of it the line takes, and what the bytes are
pub record Ended (line piece line' : Text) (n : ℕ) : Type 0 where
  pub some : 0 < n
  pub inside : n ≤ length piece
  pub taken : line ++ take n piece ≡ line' ++ 10 ∷ []
  pub whole : line ++ piece ≡ line' ++ 10 ∷ drop n piece

pub ended_by : (line piece line' : Text) (n : ℕ) → IsShortLine line → fed line piece ≡ feds.Line n → line' ≡ line_fed line piece → Ended line piece line' n
ended_by line piece line' n short ends same =
    let is = is_line line piece n ends in
    let front = before_first is_feed piece in
    let line_is : line' ≡ line ++ front = same ∙ line_fed-fits line piece short.short is.fits in
    let split = split_at_feed piece is.found in
    let count : n ≡ length front + 1 = is.number ∙ ap (λ m. m + 1) (sym (length-before_first piece)) in
    record {
      some = omega (arith, is.number);
      inside = omega (arith, is.number, is.found);
      taken =
          ap (λ t. line ++ t) (take_past piece front (drop (before_feed piece + 1) piece) 10 n split count)
          ∙ sym (append_assoc line front (10 ∷ [])) ∙ ap (λ t. t ++ 10 ∷ []) (sym line_is);
      whole =
          ap (λ t. line ++ t) split ∙ sym (append_assoc line front (10 ∷ drop (before_feed piece + 1) piece))
          ∙ ap₂ (λ t m. t ++ 10 ∷ drop m piece) (sym line_is) (sym is.number);
    }

-- ---- how serving ends at a line

-- bytes were written, and serving ended
abbrev pub EndsWith : End → History → History → ℕ → Text → Option Text → Option Text → Option Text → Type 0
EndsWith end before after client bytes old new left = (written : Text) × Took old new written × EndsAmongLines end (link_of before after client bytes written left)

-- at a line whose reply was `bye`, or was not written whole
pub ends_at_line : (A : Type 0) (end : End) (before after : History) (client : ℕ) (bytes line : Text) (old new left : Option Text) (ended : Bool) (sent : Reply) →
    IsFirst bytes ended line → (ended ≡ true → NothingLeft left) → Serves before after client (line ∷ []) (sent ∷ []) → Sends {A = A} (Err end) old new sent →
    EndsWith end before after client bytes old new left
ends_at_line A Closed before after client bytes line old new left ended sent first at_end served sends = absurd sends
ends_at_line A Quit before after client bytes line old new left ended sent first at_end served (took, e) =
    (reply_text sent, took, ends_by_bye before after client bytes line left ended sent first at_end served e)
ends_at_line A Long before after client bytes line old new left ended sent first at_end served sends = absurd sends
ends_at_line A ReadFault before after client bytes line old new left ended sent first at_end served sends = absurd sends
ends_at_line A WriteFault before after client bytes line old new left ended sent first at_end served (n, part, took) =
    (take n (reply_text sent), took, ends_by_write_fault before after client bytes line left ended sent n first at_end served part)
ends_at_line A Spent before after client bytes line old new left ended sent first at_end served sends = absurd sends
ends_at_line A (OutOfMemory _) before after client bytes line old new left ended sent first at_end served sends = absurd sends

-- at a line that is too long, which was not written whole
pub ends_at_long_part : (end : End) (view : History) (client : ℕ) (bytes text : Text) (old new left : Option Text) → text ≡ reply_text long → lines_of bytes false ≡ long_mark →
    (end ≡ WriteFault) × TookProperPrefix old new text → EndsWith end view view client bytes old new left
ends_at_long_part Closed view client bytes text old new left same is_long (e, part) = absurd (cc)
ends_at_long_part Quit view client bytes text old new left same is_long (e, part) = absurd (cc)
ends_at_long_part Long view client bytes text old new left same is_long (e, part) = absurd (cc)
ends_at_long_part ReadFault view client bytes text old new left same is_long (e, part) = absurd (cc)
ends_at_long_part WriteFault view client bytes text old new left same is_long (e, part) =
    let of_long = subst (TookProperPrefix old new) same part in
    (take of_long.0 (reply_text long), of_long.2, ends_by_long_fault view client bytes left of_long.0 is_long of_long.1)
ends_at_long_part Spent view client bytes text old new left same is_long (e, part) = absurd (cc)
ends_at_long_part (OutOfMemory _) view client bytes text old new left same is_long (e, part) = absurd (cc)

-- at a line that is too long, which was written
pub ends_at_long : (view : History) (client : ℕ) (bytes text : Text) (old new left : Option Text) → text ≡ reply_text long → lines_of bytes false ≡ long_mark →
    Took old new text → EndsWith Long view view client bytes old new left
ends_at_long view client bytes text old new left same is_long took =
    (reply_text long, subst (Took old new) same took, ends_by_long view client bytes left is_long)
