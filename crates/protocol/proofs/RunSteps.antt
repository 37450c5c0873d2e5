-- A run that goes on line by line, where some lines find no memory: what its replies so far stand for.
use Rattle.std.proofs.Common.{◌≡◌, ℕ, ◌+◌, ◌<◌, List, [], ◌∷◌, ◌++◌, length, get_or, Bool, true, false, refl, sym, ap, ◌∙◌, subst, arith, append_assoc, append-nil, length-append}
use Rattle.std.specs.Prelude.{if◌then◌else◌}
use Rattle.std.proofs.lemmas.List.{get_or_append_left}
use Rattle.std.proofs.lemmas.List.Concat.{flat_map-append}
use Rattle.std.proofs.Math.Seq.{get_or-append_seam}
use Rattle.semantics.specs.Texts.{Text}
use Rattle.semantics.specs.Histories.{History}
use Rattle.protocol.specs.Lines.{Cut, lines_of}
use Rattle.protocol.specs.Replies.{Reply, memory, bye, reply_text}
use Rattle.protocol.specs.Transcript.{Reading, Step, step_of, memory_step, Outcome, outcome_from, outcome_of, reply_texts, long_text, transcript_by, memory_lines}
use Rattle.protocol.specs.RunLaws.{both_parts}
use Rattle.protocol.proofs.Runs.{outcome_from-append, outcome_from-next, outcome_from-over, replies-of-lines}
use Rattle.protocol.proofs.ReplyTexts.{reply_front, reply_text-front}
use Rattle.protocol.proofs.Cuts.{IsWhole, IsWhole-line}
use Rattle.protocol.proofs.WrittenLines.{is_memory, memory_lines-reply_texts}
use Rattle.protocol.proofs.StarvedLines.{read_no_memory}

-- ---- the text so far

-- one reply more
pub reply_texts-push : (replies : List Reply) (reply : Reply) → reply_texts (replies ++ reply ∷ []) ≡ reply_texts replies ++ reply_text reply
reply_texts-push replies reply = flat_map-append reply_text replies (reply ∷ []) ∙ ap (λ t. reply_texts replies ++ t) (append-nil (reply_text reply))

-- the replies' texts are whole lines
pub IsWhole-reply_text : (t : Text) (reply : Reply) → IsWhole (t ++ reply_text reply)
IsWhole-reply_text t reply = subst (λ u. IsWhole (t ++ u)) (sym (reply_text-front reply)) (IsWhole-line t (reply_front reply))

-- ---- the run so far

-- the lines that are starved are those whose reply is `memory`
abbrev pub SkipsByReplies : (ℕ → Bool) → List Reply → Type 0
SkipsByReplies starved replies = (i : ℕ) → i < length replies → starved (1 + i) ≡ is_memory (get_or replies i bye)

-- the lines have these replies, with this history after them, whichever later lines are starved
abbrev pub HasRun : Reading → List Text → List Reply → History → Bool → Type 0
HasRun reading lines replies h over =
    (starved : ℕ → Bool) → SkipsByReplies starved replies → outcome_of reading starved lines ≡ record { replies = replies; history = h; over = over }

-- before any line
pub HasRun-nothing : (reading : Reading) → HasRun reading [] [] [] false
unfolding outcome_of
HasRun-nothing reading starved by = refl

-- what skips by the replies with one more skips by those before it
before_push : (starved : ℕ → Bool) (replies : List Reply) (reply : Reply) → SkipsByReplies starved (replies ++ reply ∷ []) → SkipsByReplies starved replies
before_push starved replies reply by i below =
    let inside : i < length (replies ++ reply ∷ []) = omega (arith, length-append replies (reply ∷ [])) in
    by i inside ∙ ap is_memory (get_or_append_left replies (reply ∷ []) bye i below)

-- what skips by the replies with one more skips the last line where its reply is `memory`
at_push : (starved : ℕ → Bool) (replies : List Reply) (reply : Reply) → SkipsByReplies starved (replies ++ reply ∷ []) → starved (1 + length replies) ≡ is_memory reply
at_push starved replies reply by =
    let inside : length replies < length (replies ++ reply ∷ []) = omega (arith, length-append replies (reply ∷ [])) in
    by (length replies) inside ∙ ap is_memory (get_or-append_seam replies reply [] bye)

-- the next line's step, where it is known whether it is starved
next_by : (reading : Reading) (lines : List Text) (replies : List Reply) (h : History) (line : Text) (skip : Bool) (starved : ℕ → Bool) →
    outcome_of reading starved lines ≡ record { replies = replies; history = h; over = false } → starved (1 + length replies) ≡ skip →
    outcome_of reading starved (lines ++ line ∷ [])
    ≡ (let step : Step = if skip then memory_step h else step_of (reading h line) h in record { replies = replies ++ step.reply ∷ []; history = step.history; over = step.over })
unfolding outcome_of
next_by reading lines replies h line skip starved so_far known =
    let going : (outcome_from reading starved 1 [] lines).over ≡ false = ap (λ (part : Outcome). part.over) so_far in
    let many : length replies ≡ length lines = sym (ap (λ (part : Outcome). length part.replies) so_far) ∙ replies-of-lines reading starved lines 1 [] going in
    let skips : starved (1 + length lines) ≡ skip = ap (λ n. starved (1 + n)) (sym many) ∙ known in
    outcome_from-next reading starved lines 1 [] line going
    ∙ ap (λ (part : Outcome). let step : Step = if starved (1 + length lines) then memory_step part.history else step_of (reading part.history line) part.history in
    record { replies = part.replies ++ step.reply ∷ []; history = step.history; over = step.over }) so_far
    ∙ ap (λ (s : Bool). let step : Step = if s then memory_step h else step_of (reading h line) h in record { replies = replies ++ step.reply ∷ []; history = step.history; over = step.over }) skips

-- the next line takes its step
pub HasRun-step : (reading : Reading) (lines : List Text) (replies : List Reply) (h : History) (line : Text) → HasRun reading lines replies h false →
    HasRun reading (lines ++ line ∷ []) (replies ++ (step_of (reading h line) h).reply ∷ []) (step_of (reading h line) h).history (step_of (reading h line) h).over
HasRun-step reading lines replies h line run starved by =
    let reply : Reply = (step_of (reading h line) h).reply in
    next_by reading lines replies h line false starved (run starved (before_push starved replies reply by))
    (at_push starved replies reply by ∙ read_no_memory (reading h line) h)

-- the next line finds no memory
pub HasRun-memory : (reading : Reading) (lines : List Text) (replies : List Reply) (h : History) (line : Text) → HasRun reading lines replies h false →
    HasRun reading (lines ++ line ∷ []) (replies ++ memory ∷ []) h false
HasRun-memory reading lines replies h line run starved by =
    next_by reading lines replies h line true starved (run starved (before_push starved replies memory by)) (at_push starved replies memory by)

-- lines behind the end of the session change nothing
pub HasRun-over : (reading : Reading) (lines : List Text) (replies : List Reply) (h : History) (more : List Text) → HasRun reading lines replies h true →
    HasRun reading (lines ++ more) replies h true
unfolding outcome_of
HasRun-over reading lines replies h more run starved by =
    outcome_from-over reading starved lines 1 [] more (ap (λ (part : Outcome). part.over) (run starved by)) ∙ run starved by

-- ---- the run as a transcript

-- the text that a run has written in the end, with the mark of a line that is too long
abbrev pub run_text : Bool → List Reply → History → Bool → Text
run_text long replies h over = reply_texts replies ++ long_text long (record { replies = replies; history = h; over = over })

-- what a run over all lines of the bytes has written is the transcript of the lines that it shows as `memory`
pub transcript_of_run : (reading : Reading) (bytes : Text) (ended : Bool) (replies : List Reply) (h : History) (over : Bool) →
    HasRun reading (lines_of bytes ended).lines replies h over →
    transcript_by reading bytes ended (memory_lines (run_text (lines_of bytes ended).long replies h over)) ≡ run_text (lines_of bytes ended).long replies h over
unfolding transcript_by
transcript_of_run reading bytes ended replies h over run =
    let cut : Cut = lines_of bytes ended in
    let mark : Text = long_text cut.long (record { replies = replies; history = h; over = over }) in
    ap (λ (last : Outcome). reply_texts last.replies ++ long_text cut.long last) (run (memory_lines (reply_texts replies ++ mark)) (memory_lines-reply_texts replies mark))

-- ---- a run over a first part of the lines

-- the replies of a first part stand before those of the second
begins_by : (part : Outcome) (more : History → Outcome) (over : Bool) → (others : List Reply) × ((both_parts part.replies part.history over more).replies ≡ part.replies ++ others)
begins_by part more true = ([], sym (append-nil part.replies))
begins_by part more false = ((more part.history).replies, refl)

-- the replies to the first lines stand before those to the others
pub replies-begin : (reading : Reading) (starved : ℕ → Bool) (lines more : List Text) →
    (others : List Reply) × ((outcome_of reading starved (lines ++ more)).replies ≡ (outcome_of reading starved lines).replies ++ others)
unfolding outcome_of
replies-begin reading starved lines more =
    let part : Outcome = outcome_from reading starved 1 [] lines in
    let next : History → Outcome = λ after. outcome_from reading starved (1 + length lines) after more in
    let found = begins_by part next part.over in
    (found.0, ap (λ (last : Outcome). last.replies) (outcome_from-append reading starved lines 1 [] more) ∙ found.1)

-- what a run over the first lines of the bytes has written is a beginning of their transcript
pub run_begins_transcript : (reading : Reading) (bytes : Text) (ended : Bool) (starved : ℕ → Bool) (lines more : List Text) (replies : List Reply) (h : History) (over : Bool) →
    (lines_of bytes ended).lines ≡ lines ++ more → HasRun reading lines replies h over → SkipsByReplies starved replies →
    (rest : Text) × (transcript_by reading bytes ended starved ≡ reply_texts replies ++ rest)
unfolding transcript_by
run_begins_transcript reading bytes ended starved lines more replies h over cut run by =
    let whole : Outcome = outcome_of reading starved (lines_of bytes ended).lines in
    let found = replies-begin reading starved lines more in
    let mark : Text = long_text (lines_of bytes ended).long whole in
    let all : whole.replies ≡ replies ++ found.0 =
    ap (λ ls. (outcome_of reading starved ls).replies) cut ∙ found.1 ∙ ap (λ (part : Outcome). part.replies ++ found.0) (run starved by) in (
      reply_texts found.0 ++ mark,
      ap (λ rs. reply_texts rs ++ mark) all ∙ ap (λ t. t ++ mark) (flat_map-append reply_text replies found.0) ∙ append_assoc (reply_texts replies) (reply_texts found.0) mark,
    )
