-- Which lines found no memory: an outcome reads that of its own replies alone, and its text says it.
use Rattle.std.proofs.Common.{◌≡◌, ℕ, zero, suc, ◌+◌, ◌<◌, ◌≤◌, List, [], ◌∷◌, ◌++◌, length, get_or, Bool, true, false, Option, Some, None, Result, Ok, Err, refl, sym, ap, ◌∙◌, arith}
use Rattle.std.specs.Prelude.{if◌then◌else◌}
use Rattle.semantics.specs.Texts.{Text}
use Rattle.semantics.specs.Histories.{Write, History}
use Rattle.semantics.specs.Verdicts.{Cause, verdict}
use Rattle.protocol.specs.Lines.{Cut, lines_of}
use Rattle.protocol.specs.Requests.{Request, write, read, earlier, quit, LineFault}
use Rattle.protocol.specs.Replies.{Reply, bye}
use Rattle.protocol.specs.Transcript.{Reading, Step, write_step, step_of, memory_step, line_step, Outcome, after_step, outcome_from, outcome_of, reply_texts, long_text, transcript_by, memory_lines}
use Rattle.protocol.proofs.Runs.{replies-le-lines}
use Rattle.protocol.proofs.WrittenLines.{is_memory, memory_lines-reply_texts}
use Rattle.protocol.proofs.EarlierLemmas.{earlier_no_memory}

-- ---- what an outcome reads of the lines that are starved

-- a step has a reply
some_reply : (reply : Reply) (h : History) (over : Bool) (more : History → Outcome) → 0 < length (after_step reply h over more).replies
some_reply reply h true more = omega arith
some_reply reply h false more = omega arith

-- what goes on after a step may differ only where it is reached, at its replies
agree_after : (reply : Reply) (h : History) (over : Bool) (more others : History → Outcome) (number : ℕ) (starved other : ℕ → Bool) →
    (((i : ℕ) → i < length (more h).replies → starved ((number + 1) + i) ≡ other ((number + 1) + i)) → more h ≡ others h) →
    ((i : ℕ) → i < length (after_step reply h over more).replies → starved (number + i) ≡ other (number + i)) →
    after_step reply h over more ≡ after_step reply h over others
agree_after reply h true more others number starved other rest agree = refl
agree_after reply h false more others number starved other rest agree =
    ap (λ (last : Outcome). record { replies = reply ∷ last.replies; history = last.history; over = last.over })
    (rest (λ i below.
    let place : number + suc i ≡ (number + 1) + i = omega arith in
    ap starved (sym place) ∙ agree (suc i) (omega arith) ∙ ap other place))

-- an outcome reads which lines are starved only at the lines that have a reply
pub outcome_from-agree : (reading : Reading) (starved other : ℕ → Bool) (lines : List Text) (number : ℕ) (h : History) →
    ((i : ℕ) → i < length (outcome_from reading starved number h lines).replies → starved (number + i) ≡ other (number + i)) →
    outcome_from reading starved number h lines ≡ outcome_from reading other number h lines
outcome_from-agree reading starved other [] number h agree = refl
outcome_from-agree reading starved other (line ∷ lines) number h agree =
    let step : Step = line_step reading starved number h line in
    let place : number + 0 ≡ number = omega arith in
    let here : starved number ≡ other number =
    ap starved (sym place) ∙ agree 0 (some_reply step.reply step.history step.over (λ after. outcome_from reading starved (number + 1) after lines)) ∙ ap other place in
    agree_after step.reply step.history step.over (λ after. outcome_from reading starved (number + 1) after lines) (λ after. outcome_from reading other (number + 1) after lines) number starved other
    (outcome_from-agree reading starved other lines (number + 1) step.history) agree
    ∙ ap (λ (skip : Bool). let step : Step = if skip then memory_step h else step_of (reading h line) h in after_step step.reply step.history step.over (λ after. outcome_from reading other (number + 1) after lines)) here

-- the same, where the two agree at the numbers of all lines
pub outcome_from-agree_lines : (reading : Reading) (starved other : ℕ → Bool) (lines : List Text) (number : ℕ) (h : History) →
    ((n : ℕ) → number ≤ n → n < number + length lines → starved n ≡ other n) → outcome_from reading starved number h lines ≡ outcome_from reading other number h lines
outcome_from-agree_lines reading starved other lines number h agree =
    let few = replies-le-lines reading starved lines number h in
    outcome_from-agree reading starved other lines number h (λ i below. agree (number + i) (omega arith) (omega arith))

-- ---- which replies are `memory`

-- a write is never answered `memory`
written_no_memory : (w : Write) (h : History) (cause : Option Cause) → is_memory (write_step w h cause).reply ≡ false
written_no_memory w h None = refl
written_no_memory w h (Some cause) = refl

-- what a line was read as never gives `memory`
pub read_no_memory : (found : Result Request LineFault) (h : History) → is_memory (step_of found h).reply ≡ false
read_no_memory (Err fault) h = refl
read_no_memory (Ok (write w)) h = written_no_memory w h (verdict w h)
read_no_memory (Ok (read r)) h = refl
read_no_memory (Ok (earlier e)) h = earlier_no_memory e h
read_no_memory (Ok quit) h = refl

-- the step of a line is answered `memory` exactly where it is starved
step_is_memory : (skip : Bool) (found : Result Request LineFault) (h : History) → is_memory (if skip then memory_step h else step_of found h).reply ≡ skip
step_is_memory true found h = refl
step_is_memory false found h = read_no_memory found h

-- the first reply is that of the first step
first_is_memory : (reply : Reply) (h : History) (over : Bool) (more : History → Outcome) → is_memory (get_or (after_step reply h over more).replies 0 bye) ≡ is_memory reply
first_is_memory reply h true more = refl
first_is_memory reply h false more = refl

-- the later replies are those of the steps after it
later_is_memory : (reply : Reply) (h : History) (over : Bool) (more : History → Outcome) (i : ℕ) (skip : Bool) →
    (i < length (more h).replies → is_memory (get_or (more h).replies i bye) ≡ skip) →
    suc i < length (after_step reply h over more).replies → is_memory (get_or (after_step reply h over more).replies (suc i) bye) ≡ skip
later_is_memory reply h true more i skip rest below = absurd (omega arith)
later_is_memory reply h false more i skip rest below = rest (omega arith)

-- a reply is `memory` exactly where its line is starved
pub is_memory-outcome_from : (reading : Reading) (starved : ℕ → Bool) (lines : List Text) (number : ℕ) (h : History) (i : ℕ) →
    i < length (outcome_from reading starved number h lines).replies → is_memory (get_or (outcome_from reading starved number h lines).replies i bye) ≡ starved (number + i)
is_memory-outcome_from reading starved [] number h i below = absurd (omega arith)
is_memory-outcome_from reading starved (line ∷ lines) number h zero below =
    let step : Step = line_step reading starved number h line in
    let place : number ≡ number + 0 = omega arith in
    first_is_memory step.reply step.history step.over (λ after. outcome_from reading starved (number + 1) after lines) ∙ step_is_memory (starved number) (reading h line) h ∙ ap starved place
is_memory-outcome_from reading starved (line ∷ lines) number h (suc i) below =
    let step : Step = line_step reading starved number h line in
    let place : (number + 1) + i ≡ number + suc i = omega arith in
    later_is_memory step.reply step.history step.over (λ after. outcome_from reading starved (number + 1) after lines) i (starved (number + suc i))
    (λ inside. is_memory-outcome_from reading starved lines (number + 1) step.history i inside ∙ ap starved place) below

-- ---- what a written text says

-- an outcome is that of the lines that its own text, and whatever follows it, shows as `memory`
pub outcome_of-memory_lines : (reading : Reading) (starved : ℕ → Bool) (lines : List Text) (rest : Text) →
    outcome_of reading starved lines ≡ outcome_of reading (memory_lines (reply_texts (outcome_of reading starved lines).replies ++ rest)) lines
unfolding outcome_of
outcome_of-memory_lines reading starved lines rest =
    let replies : List Reply = (outcome_of reading starved lines).replies in
    outcome_from-agree reading starved (memory_lines (reply_texts replies ++ rest)) lines 1 [] (λ i below.
    sym (is_memory-outcome_from reading starved lines 1 [] i below) ∙ sym (memory_lines-reply_texts replies rest i below))

-- a transcript is that of the lines that it shows as `memory` itself
pub transcript_by-memory_lines : (reading : Reading) (bytes : Text) (ended : Bool) (starved : ℕ → Bool) →
    transcript_by reading bytes ended (memory_lines (transcript_by reading bytes ended starved)) ≡ transcript_by reading bytes ended starved
unfolding transcript_by
transcript_by-memory_lines reading bytes ended starved =
    let cut : Cut = lines_of bytes ended in
    let outcome : Outcome = outcome_of reading starved cut.lines in
    ap (λ (last : Outcome). reply_texts last.replies ++ long_text cut.long last) (sym (outcome_of-memory_lines reading starved cut.lines (long_text cut.long outcome)))
