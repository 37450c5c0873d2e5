-- Which replies of a written text were `memory`: its whole lines are the replies' texts, one each.
use Rattle.std.proofs.Common.{◌≡◌, ℕ, zero, suc, ◌+◌, ◌-◌, ◌<◌, ◌≤◌, List, [], ◌∷◌, ◌++◌, length, get_or, take, map, Bool, true, false, Option, Some, None, refl, sym, ap, ◌∙◌, arith, append_assoc, append-nil, length-append}
use Rattle.std.specs.Prelude.{slice_get, ◌↔◌}
use Rattle.std.specs.Option.{option_map_or}
use Rattle.std.proofs.lemmas.List.{append_cancel_right}
use Rattle.std.proofs.Math.Numerals.{one-add}
use Rattle.std.proofs.Math.Seq.{take-append-add}
use Rattle.std.proofs.lemmas.Bool.{false≢true}
use Rattle.json.specs.Print.{escape_byte}
use Rattle.semantics.specs.Texts.{Text}
use Rattle.semantics.specs.Patterns.{pieces}
use Rattle.semantics.specs.Verdicts.{computed, full, nojoin, slots, sources, clash, cycle, deep, many}
use Rattle.semantics.specs.Answers.{found, absent, pairs}
use Rattle.protocol.specs.Lines.{whole_lines}
use Rattle.protocol.specs.Requests.{json, form, key, value, range, syntax}
use Rattle.protocol.specs.Replies.{Reply, done, answered, refused, gone, ahead, changed, fed, unread, long, memory, bye, reply_text}
use Rattle.protocol.specs.Transcript.{reply_texts, is_memory_line, memory_lines}
use Rattle.protocol.proofs.Cuts.{first_piece, pieces-first}
use Rattle.protocol.proofs.ReplyTexts.{reply_front, reply_text-front, has_feed-reply_front}

-- whether a reply is `memory`
abbrev pub is_memory : Reply → Bool
is_memory (done n) = false
is_memory (answered a) = false
is_memory (refused n cause) = false
is_memory (gone n) = false
is_memory (ahead n) = false
is_memory (changed from n changes) = false
is_memory (fed from n es) = false
is_memory (unread fault) = false
is_memory long = false
is_memory memory = true
is_memory bye = false

-- a reply that passes the test is `memory`
pub equal_by_is_memory : (reply : Reply) → is_memory reply ≡ true → reply ≡ memory
equal_by_is_memory (done n) h = absurd (cc)
equal_by_is_memory (answered a) h = absurd (cc)
equal_by_is_memory (refused n cause) h = absurd (cc)
equal_by_is_memory (gone n) h = absurd (cc)
equal_by_is_memory (ahead n) h = absurd (cc)
equal_by_is_memory (changed from n changes) h = absurd (cc)
equal_by_is_memory (fed from n es) h = absurd (cc)
equal_by_is_memory (unread fault) h = absurd (cc)
equal_by_is_memory long h = absurd (cc)
equal_by_is_memory memory h = refl
equal_by_is_memory bye h = absurd (cc)

-- ---- the lines of replies

-- the pieces of replies' texts and of what follows them
pub pieces-reply_texts : (replies : List Reply) (rest : Text) → pieces 10 (reply_texts replies ++ rest) ≡ map reply_front replies ++ pieces 10 rest
pieces-reply_texts [] rest = refl
pieces-reply_texts (reply ∷ replies) rest =
    let more = reply_texts replies ++ rest in
    let cut : (reply_text reply ++ reply_texts replies) ++ rest ≡ reply_front reply ++ 10 ∷ more =
    append_assoc (reply_text reply) (reply_texts replies) rest ∙ ap (λ t. t ++ more) (reply_text-front reply) ∙ append_assoc (reply_front reply) (10 ∷ []) more in
    ap (pieces 10) cut ∙ pieces-first 10 (reply_front reply) more (has_feed-reply_front reply) ∙ ap (λ all. reply_front reply ∷ all) (pieces-reply_texts replies rest)

-- all but the last of two parts, of which the second has one
but_last : (front : List Text) (t : Text) (ts : List Text) → take (length (front ++ t ∷ ts) - 1) (front ++ t ∷ ts) ≡ front ++ take (length (t ∷ ts) - 1) (t ∷ ts)
but_last front t ts =
    let size : length (front ++ t ∷ ts) - 1 ≡ length front + (length (t ∷ ts) - 1) = omega (arith, length-append front (t ∷ ts)) in
    ap (λ n. take n (front ++ t ∷ ts)) size ∙ take-append-add front (t ∷ ts) (length (t ∷ ts) - 1)

-- the whole lines of replies' texts and of what follows them
pub whole_lines-reply_texts : (replies : List Reply) (rest : Text) → whole_lines (reply_texts replies ++ rest) ≡ map reply_front replies ++ whole_lines rest
whole_lines-reply_texts replies rest =
    let found = first_piece 10 rest in
    ap (λ all. take (length all - 1) all) (pieces-reply_texts replies rest ∙ ap (λ all. map reply_front replies ++ all) found.2)
    ∙ but_last (map reply_front replies) found.0 found.1 ∙ ap (λ all. map reply_front replies ++ take (length all - 1) all) (sym found.2)

-- ---- the text of `memory`

-- no other reply has the text of `memory`, whatever its numbers
pub is_memory_line-reply_front : (reply : Reply) → is_memory_line (reply_front reply) ≡ is_memory reply
unfolding reply_text escape_byte
is_memory_line-reply_front (done n) = refl
is_memory_line-reply_front (answered (found n v)) = refl
is_memory_line-reply_front (answered (absent n)) = refl
is_memory_line-reply_front (answered (pairs n table)) = refl
is_memory_line-reply_front (refused n (computed position)) = refl
is_memory_line-reply_front (refused n full) = refl
is_memory_line-reply_front (refused n nojoin) = refl
is_memory_line-reply_front (refused n slots) = refl
is_memory_line-reply_front (refused n sources) = refl
is_memory_line-reply_front (refused n (clash position)) = refl
is_memory_line-reply_front (refused n (cycle positions)) = refl
is_memory_line-reply_front (refused n deep) = refl
is_memory_line-reply_front (refused n many) = refl
is_memory_line-reply_front (gone n) = refl
is_memory_line-reply_front (ahead n) = refl
is_memory_line-reply_front (changed from n changes) = refl
is_memory_line-reply_front (fed from n es) = refl
is_memory_line-reply_front (unread json) = refl
is_memory_line-reply_front (unread form) = refl
is_memory_line-reply_front (unread key) = refl
is_memory_line-reply_front (unread value) = refl
is_memory_line-reply_front (unread range) = refl
is_memory_line-reply_front (unread (syntax at)) = refl
is_memory_line-reply_front long = refl
is_memory_line-reply_front memory = refl
is_memory_line-reply_front bye = refl

-- another reply than `memory` has another text, whatever its numbers
pub memory_text_differs : (reply : Reply) → reply_text reply ≡ reply_text memory → reply ≡ memory
memory_text_differs reply equal =
    let front : reply_front reply ≡ reply_front memory =
    append_cancel_right (reply_front reply) (reply_front memory) (10 ∷ []) (sym (reply_text-front reply) ∙ equal ∙ reply_text-front memory) in
    equal_by_is_memory reply (sym (is_memory_line-reply_front reply) ∙ ap is_memory_line front ∙ is_memory_line-reply_front memory)

-- ---- the numbers of the lines

-- the test of a line among those of the replies
line_at : (replies : List Reply) (more : List Text) (i : ℕ) → i < length replies → option_map_or is_memory_line (slice_get (map reply_front replies ++ more) i) false ≡ is_memory (get_or replies i bye)
line_at [] more i h = absurd (omega arith)
line_at (reply ∷ replies) more zero h = is_memory_line-reply_front reply
line_at (reply ∷ replies) more (suc i) h = line_at replies more i (omega arith)

-- no line has the number 0
pub memory_lines-zero : (written : Text) → memory_lines written 0 ≡ false
unfolding memory_lines
memory_lines-zero written = refl

-- a line of a reply's text is one of `memory` exactly where the reply is, whatever follows the replies
pub memory_lines-reply_texts : (replies : List Reply) (rest : Text) (i : ℕ) → i < length replies → memory_lines (reply_texts replies ++ rest) (1 + i) ≡ is_memory (get_or replies i bye)
unfolding memory_lines
memory_lines-reply_texts replies rest i h =
    ap (memory_lines (reply_texts replies ++ rest)) (one-add i)
    ∙ ap (λ lines. option_map_or is_memory_line (slice_get lines i) false) (whole_lines-reply_texts replies rest) ∙ line_at replies (whole_lines rest) i h

-- the test of a line, where no other line follows those of the replies
lines_at : (replies : List Reply) (i : ℕ) → option_map_or is_memory_line (slice_get (map reply_front replies ++ []) i) false ≡ option_map_or is_memory (slice_get replies i) false
lines_at [] i = refl
lines_at (reply ∷ replies) zero = is_memory_line-reply_front reply
lines_at (reply ∷ replies) (suc i) = lines_at replies i

-- the test of each line is that of the reply with its number, where there is one
pub memory_lines-at : (replies : List Reply) (i : ℕ) → memory_lines (reply_texts replies) (1 + i) ≡ option_map_or is_memory (slice_get replies i) false
unfolding memory_lines
memory_lines-at replies i =
    ap (memory_lines (reply_texts replies)) (one-add i)
    ∙ ap (λ text. option_map_or is_memory_line (slice_get (whole_lines text) i) false) (sym (append-nil (reply_texts replies)))
    ∙ ap (λ lines. option_map_or is_memory_line (slice_get lines i) false) (whole_lines-reply_texts replies []) ∙ lines_at replies i

-- a reply that is there and passes the test is `memory`
some_memory : (reply : Option Reply) → option_map_or is_memory reply false ≡ true → reply ≡ Some memory
some_memory None h = absurd (false≢true h)
some_memory (Some reply) h = ap Some (equal_by_is_memory reply h)

-- the same, of the reply at a place
memory_at : (replies : List Reply) (i : ℕ) → option_map_or is_memory (slice_get replies i) false ≡ true → slice_get replies i ≡ Some memory
memory_at replies i = some_memory (slice_get replies i)

-- a line is one of `memory` exactly where the reply with its number is
pub memory_lines-iff : (replies : List Reply) (n : ℕ) → (memory_lines (reply_texts replies) n ≡ true) ↔ ((1 ≤ n) × (slice_get replies (n - 1) ≡ Some memory))
memory_lines-iff replies zero = (λ h. absurd (false≢true (sym (memory_lines-zero (reply_texts replies)) ∙ h)), λ h. absurd (omega (arith, h.0)))
memory_lines-iff replies (suc i) =
    let number : (1 + i) ≡ suc i = one-add i in
    let place : suc i - 1 ≡ i = omega arith in
    let test = ap (memory_lines (reply_texts replies)) (sym number) ∙ memory_lines-at replies i in (
      λ h. (omega arith, ap (slice_get replies) place ∙ memory_at replies i (sym test ∙ h)),
      λ h. test ∙ ap (λ reply. option_map_or is_memory reply false) (ap (slice_get replies) (sym place) ∙ h.1),
    )
