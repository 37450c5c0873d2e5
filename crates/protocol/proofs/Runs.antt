-- Runs over lines in two parts.
use Rattle.std.proofs.Common.{◌≡◌, ℕ, suc, ◌+◌, List, [], ◌∷◌, ◌++◌, length, ◌≤◌, Bool, true, false, refl, sym, ap, ◌∙◌, arith}
use Rattle.semantics.specs.Texts.{Text}
use Rattle.semantics.specs.Histories.{History}
use Rattle.protocol.specs.Replies.{Reply}
use Rattle.protocol.specs.Transcript.{Reading, Step, Outcome, line_step, onto_replies, after_step, outcome_from}
use Rattle.protocol.specs.RunLaws.{both_parts}

-- what follows an outcome, which goes on from its history unless it is over
abbrev pub then_part : Outcome → (History → Outcome) → Outcome
then_part part more = both_parts part.replies part.history part.over more

-- a reply before the first part stands before both
then_part-onto_replies : (reply : Reply) (replies : List Reply) (h : History) (over : Bool) (more : History → Outcome) →
    onto_replies reply (both_parts replies h over more) ≡ both_parts (reply ∷ replies) h over more
then_part-onto_replies reply replies h true more = refl
then_part-onto_replies reply replies h false more = refl

-- a step before a first part, whose rest goes on the same way
after_step-parts : (reply : Reply) (h : History) (over : Bool) (whole first more : History → Outcome) →
    ((after : History) → whole after ≡ then_part (first after) more) →
    after_step reply h over whole ≡ then_part (after_step reply h over first) more
after_step-parts reply h true whole first more same = refl
after_step-parts reply h false whole first more same =
    ap (onto_replies reply) (same h) ∙ then_part-onto_replies reply (first h).replies (first h).history (first h).over more

-- lines in two parts: the second goes on from the history that the first leaves, with its lines counted on
pub outcome_from-append : (reading : Reading) (starved : ℕ → Bool) (first : List Text) (number : ℕ) (h : History) (second : List Text) →
    outcome_from reading starved number h (first ++ second)
    ≡ then_part (outcome_from reading starved number h first) (λ after. outcome_from reading starved (number + length first) after second)
outcome_from-append reading starved [] number h second =
    let same : number ≡ number + 0 = omega arith in
    ap (λ n. outcome_from reading starved n h second) same
outcome_from-append reading starved (line ∷ lines) number h second =
    let same : (number + 1) + length lines ≡ number + suc (length lines) = omega arith in
    let step : Step = line_step reading starved number h line in
    after_step-parts step.reply step.history step.over _ _ _ (λ after.
    outcome_from-append reading starved lines (number + 1) after second
    ∙ ap (λ n. then_part (outcome_from reading starved (number + 1) after lines) (λ last. outcome_from reading starved n last second)) same)

-- ---- one line more

-- the outcome of a line alone
abbrev pub outcome_of_step : Step → Outcome
outcome_of_step step = record { replies = step.reply ∷ []; history = step.history; over = step.over }

-- a step behind which no line stands
after_step-last : (reply : Reply) (h : History) (over : Bool) →
    after_step reply h over (λ after. record { replies = []; history = after; over = false }) ≡ record { replies = reply ∷ []; history = h; over = over }
after_step-last reply h true = refl
after_step-last reply h false = refl

-- a line behind others is a step from the history that they leave, unless they ended the session
pub outcome_from-push : (reading : Reading) (starved : ℕ → Bool) (lines : List Text) (number : ℕ) (h : History) (line : Text) →
    outcome_from reading starved number h (lines ++ line ∷ [])
    ≡ then_part (outcome_from reading starved number h lines) (λ after. outcome_of_step (line_step reading starved (number + length lines) after line))
outcome_from-push reading starved lines number h line =
    let step = λ (after : History). line_step reading starved (number + length lines) after line in
    outcome_from-append reading starved lines number h (line ∷ [])
    ∙ ap (then_part (outcome_from reading starved number h lines)) (λ i after. after_step-last (step after).reply (step after).history (step after).over i)

-- nothing follows a part that is over
parts_over : (part : Outcome) (more : History → Outcome) (over : Bool) → part.over ≡ over → over ≡ true → both_parts part.replies part.history over more ≡ part
parts_over part more true is h = ap (λ b. record { replies = part.replies; history = part.history; over = b }) (sym is)
parts_over part more false is h = absurd (cc)

-- the same, where the part says so itself
pub then_part-over : (part : Outcome) (more : History → Outcome) → part.over ≡ true → then_part part more ≡ part
then_part-over part more h = parts_over part more part.over refl h

-- what goes on from a part that is not over
pub then_part-more : (part : Outcome) (more : History → Outcome) → part.over ≡ false →
    then_part part more ≡ record { replies = part.replies ++ (more part.history).replies; history = (more part.history).history; over = (more part.history).over }
then_part-more part more h = ap (λ over. both_parts part.replies part.history over more) h

-- lines behind the end of the session change nothing
pub outcome_from-over : (reading : Reading) (starved : ℕ → Bool) (lines : List Text) (number : ℕ) (h : History) (more : List Text) →
    (outcome_from reading starved number h lines).over ≡ true → outcome_from reading starved number h (lines ++ more) ≡ outcome_from reading starved number h lines
outcome_from-over reading starved lines number h more over = outcome_from-append reading starved lines number h more ∙ then_part-over (outcome_from reading starved number h lines) _ over

-- a line behind others that did not end the session: its reply, the history after its step, and whether it ends the session
pub outcome_from-next : (reading : Reading) (starved : ℕ → Bool) (lines : List Text) (number : ℕ) (h : History) (line : Text) →
    (outcome_from reading starved number h lines).over ≡ false →
    outcome_from reading starved number h (lines ++ line ∷ [])
    ≡ (let part = outcome_from reading starved number h lines in
    let step = line_step reading starved (number + length lines) part.history line in
    record { replies = part.replies ++ step.reply ∷ []; history = step.history; over = step.over })
outcome_from-next reading starved lines number h line going =
    outcome_from-push reading starved lines number h line ∙ then_part-more (outcome_from reading starved number h lines) _ going

-- ---- how many replies there are

-- a step adds at most one reply
onto_few : (reply : Reply) (h : History) (over : Bool) (more : History → Outcome) (n : ℕ) → length (more h).replies ≤ n → length (after_step reply h over more).replies ≤ suc n
onto_few reply h true more n few = omega arith
onto_few reply h false more n few = omega arith

-- each line has at most one reply
pub replies-le-lines : (reading : Reading) (starved : ℕ → Bool) (lines : List Text) (number : ℕ) (h : History) → length (outcome_from reading starved number h lines).replies ≤ length lines
replies-le-lines reading starved [] number h = omega arith
replies-le-lines reading starved (line ∷ lines) number h =
    let step : Step = line_step reading starved number h line in
    onto_few step.reply step.history step.over _ (length lines) (replies-le-lines reading starved lines (number + 1) step.history)

-- a step that does not end the session adds one reply
onto_all : (reply : Reply) (h : History) (over : Bool) (more : History → Outcome) (n : ℕ) →
    ((more h).over ≡ false → length (more h).replies ≡ n) → (after_step reply h over more).over ≡ false → length (after_step reply h over more).replies ≡ suc n
onto_all reply h true more n all going = absurd (cc)
onto_all reply h false more n all going = ap suc (all going)

-- each line has its reply, unless the session ended
pub replies-of-lines : (reading : Reading) (starved : ℕ → Bool) (lines : List Text) (number : ℕ) (h : History) →
    (outcome_from reading starved number h lines).over ≡ false → length (outcome_from reading starved number h lines).replies ≡ length lines
replies-of-lines reading starved [] number h going = refl
replies-of-lines reading starved (line ∷ lines) number h going =
    let step : Step = line_step reading starved number h line in
    onto_all step.reply step.history step.over _ (length lines) (replies-of-lines reading starved lines (number + 1) step.history) going
