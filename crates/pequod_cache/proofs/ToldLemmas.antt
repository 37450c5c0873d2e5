-- What a client is told of a write or a read, whatever the other clients did meanwhile.
use Rattle.std.proofs.Common.{◌≡◌, ◌==◌, ℕ, ◌+◌, ◌≤◌, [], ◌∷◌, ◌++◌, length, cond, Bool, true, false, Some, refl, sym, ap, ◌∙◌, subst, arith}
use Rattle.std.specs.List.{AllByRecursion}
use Rattle.std.proofs.lemmas.List.{length-append, append-nil, append_cancel_left, append_cancel_right}
use Rattle.semantics.specs.Histories.{Write, Entry, History, IsPrefix}
use Rattle.semantics.specs.Verdicts.{Cause, verdict, AllEntered}
use Rattle.semantics.specs.Answers.{Read, answer}
use Rattle.protocol.specs.Requests.{Request, write, read, earlier, Earlier}
use Rattle.protocol.specs.Replies.{Reply, done, answered, refused, memory}
use Rattle.protocol.specs.Earlier.{earlier_reply}
use Rattle.protocol.specs.Told.{Told}
use Rattle.protocol.proofs.Telling.{told-append}
use Rattle.protocol.proofs.TellingSteps.{told_of_others, told_done, told_refused, told_read, told_earlier, told_no_memory_to_write, told_no_memory_to_read, told_no_memory_to_ask}
use Rattle.write_history.specs.Entries.{EndsWith, written_by}
use Rattle.write_history.specs.Passes.{PassView, GoesOn, entry_by, own}
use Rattle.pequod_cache.specs.Clients.{IsReplied}
use Rattle.write_history.proofs.Entering.{prefix_of_longer, written_by-append, written_by-own, written_by-between}

-- ---- the entries of others

-- where a number wrote no entry of a list, each is by another
others_by : (number : ℕ) (e : Entry) (mine : History) (own : Bool) → (e.client == number) ≡ own → cond own (e ∷ mine) mine ≡ [] → ((e.client == number) ≡ false) × (mine ≡ [])
others_by number e mine true is none = absurd (cc)
others_by number e mine false is none = (is, none)

pub others_of : (number : ℕ) (es : History) → written_by number es ≡ [] → AllByRecursion (λ e. (e.client == number) ≡ false) es
others_of number [] none = tt
others_of number (e ∷ es) none =
    let first = others_by number e (written_by number es) (e.client == number) refl none in
    (first.0, others_of number es first.1)

-- what came after a view without an own entry is by others
none_after : (number : ℕ) (before more : History) → written_by number (before ++ more) ≡ written_by number before → written_by number more ≡ []
none_after number before more same =
    append_cancel_left (written_by number before) (written_by number more) [] (sym (written_by-append number before more) ∙ same ∙ sym (append-nil (written_by number before)))

-- a view that grows without an own entry: nothing is told
pub told_others : (number : ℕ) (before after : History) → IsPrefix before after → written_by number after ≡ written_by number before → Told before after number [] []
told_others number before after begins same =
    let none = none_after number before begins.0 (ap (written_by number) (sym begins.1) ∙ same) in
    subst (λ h. Told before h number [] []) (sym begins.1) (told_of_others before begins.0 number (others_of number begins.0 none))

-- ---- writes

-- an own entry more, so a longer view
longer_by : (number : ℕ) (before more : History) (e : Entry) → written_by number (before ++ more) ≡ written_by number before ++ e ∷ [] → 1 ≤ length more
longer_by number before [] e once =
    let long = ap length (ap (written_by number) (sym (append-nil before)) ∙ once) ∙ length-append (written_by number before) (e ∷ []) in
    absurd (omega (arith, long))
longer_by number before (x ∷ more) e once = omega arith

-- a write that entered as the last entry, and as the only own one, is told its position
told_entered : (number : ℕ) (before after : History) (w : Write) (position : ℕ) → IsPrefix before after → AllEntered after → position ≡ length after →
    EndsWith (record { client = number; write = w }) after → written_by number after ≡ written_by number before ++ record { client = number; write = w } ∷ [] →
    Told before after number (write w ∷ []) (done position ∷ [])
told_entered number before after w position begins entered at ends once =
    let entry : Entry = record { client = number; write = w } in
    let seen : History = ends.before in
    let mine : written_by number after ≡ written_by number seen ++ entry ∷ [] =
    ap (written_by number) ends.is ∙ written_by-append number seen (entry ∷ []) ∙ ap (λ es. written_by number seen ++ es) (written_by-own number entry refl) in
    let same : written_by number seen ≡ written_by number before = append_cancel_right (written_by number seen) (written_by number before) (entry ∷ []) (sym mine ∙ once) in
    let some = longer_by number before begins.0 entry (ap (written_by number) (sym begins.1) ∙ once) in
    let whole = ap length begins.1 ∙ length-append before begins.0 in
    let last = ap length ends.is ∙ length-append seen (entry ∷ []) in
    let first = prefix_of_longer before seen after begins (entry ∷ [], ends.is) (omega (arith, some, whole, last)) in
    let place : length seen + 1 ≡ position = omega (arith, at, last) in
    subst (λ n. Told before after number (write w ∷ []) (done n ∷ [])) place
    (subst (λ h. Told before h number (write w ∷ []) (done (length seen + 1) ∷ [])) (sym ends.is)
    (told-append before seen (seen ++ entry ∷ []) number [] (write w ∷ []) [] (done (length seen + 1) ∷ []) (told_others number before seen first same)
    (told_done seen number w (entered seen entry [] ends.is))))

pub told_appended : (old new : PassView) (w : Write) (position : ℕ) → GoesOn old new → position ≡ length new.view → EndsWith (entry_by old w) new.view →
    own new ≡ own old ++ entry_by old w ∷ [] → Told old.view new.view old.number (write w ∷ []) (done position ∷ [])
told_appended old new w position goes at ends once =
    told_entered old.number old.view new.view w position goes.begins goes.recorded.entered.entered at ends
    (subst (λ n. written_by n new.view ≡ written_by old.number old.view ++ entry_by old w ∷ []) goes.same_number once)

-- a pass that goes on with no own entry: its number's entries are as they were
same_own : (old new : PassView) → GoesOn old new → own new ≡ own old → written_by old.number new.view ≡ written_by old.number old.view
same_own old new goes same = subst (λ n. written_by n new.view ≡ written_by old.number old.view) goes.same_number same

-- a write with a cause against it is told that, and after how many entries
pub told_refusal : (old new : PassView) (w : Write) (position : ℕ) (cause : Cause) → GoesOn old new → position ≡ length new.view → verdict w new.view ≡ Some cause → own new ≡ own old →
    Told old.view new.view old.number (write w ∷ []) (refused position cause ∷ [])
told_refusal old new w position cause goes at against same =
    subst (λ n. Told old.view new.view old.number (write w ∷ []) (refused n cause ∷ [])) (sym at)
    (told-append old.view new.view new.view old.number [] (write w ∷ []) [] (refused (length new.view) cause ∷ [])
    (told_others old.number old.view new.view goes.begins (same_own old new goes same)) (told_refused new.view old.number w cause against))

-- a write that found no memory is told that
pub told_no_write : (old new : PassView) (w : Write) → new ≡ old → Told old.view new.view old.number (write w ∷ []) (memory ∷ [])
told_no_write old new w same =
    subst (λ (p : PassView). Told old.view p.view old.number (write w ∷ []) (memory ∷ [])) (sym same) (told_no_memory_to_write old.view old.number w)

-- ---- reads

-- what is told over what the client had seen at some moment is told, though it has written nothing and may have seen more since
pub told_over : (old new : PassView) (seen : History) (request : Request) (reply : Reply) → IsPrefix old.view seen → IsPrefix seen new.view → GoesOn old new → own new ≡ own old →
    Told seen seen old.number (request ∷ []) (reply ∷ []) → Told old.view new.view old.number (request ∷ []) (reply ∷ [])
told_over old new seen request reply first next goes same told =
    let number : ℕ = old.number in
    let all = same_own old new goes same in
    let later = written_by-between number old.view seen new.view first next all in
    told-append old.view seen new.view number [] (request ∷ []) [] (reply ∷ []) (told_others number old.view seen first (sym later ∙ all))
    (told-append seen seen new.view number (request ∷ []) [] (reply ∷ []) [] told (told_others number seen new.view next later))

-- a read is told the answer of that
pub told_answer : (old new : PassView) (seen : History) (r : Read) → IsPrefix old.view seen → IsPrefix seen new.view → GoesOn old new → own new ≡ own old →
    Told old.view new.view old.number (read r ∷ []) (answered (answer r seen) ∷ [])
told_answer old new seen r first next goes same = told_over old new seen (read r) (answered (answer r seen)) first next goes same (told_read seen old.number r)

-- a question about an earlier position is told what it is after that
pub told_replied : (old new : PassView) (e : Earlier) (reply : Reply) → IsReplied old new e reply → GoesOn old new → own new ≡ own old → Told old.view new.view old.number (earlier e ∷ []) (reply ∷ [])
told_replied old new e reply replied goes same =
    subst (λ r. Told old.view new.view old.number (earlier e ∷ []) (r ∷ [])) (sym replied.is)
    (told_over old new replied.seen (earlier e) (earlier_reply e replied.seen) replied.begins replied.goes_on goes same (told_earlier replied.seen old.number e))

-- or finds no memory
pub told_no_reply : (old new : PassView) (e : Earlier) → GoesOn old new → own new ≡ own old → Told old.view new.view old.number (earlier e ∷ []) (memory ∷ [])
told_no_reply old new e goes same =
    told-append old.view new.view new.view old.number [] (earlier e ∷ []) [] (memory ∷ []) (told_others old.number old.view new.view goes.begins (same_own old new goes same))
    (told_no_memory_to_ask new.view old.number e)

-- a read may find no memory
pub told_no_answer : (old new : PassView) (r : Read) → GoesOn old new → own new ≡ own old → Told old.view new.view old.number (read r ∷ []) (memory ∷ [])
told_no_answer old new r goes same =
    told-append old.view new.view new.view old.number [] (read r ∷ []) [] (memory ∷ []) (told_others old.number old.view new.view goes.begins (same_own old new goes same))
    (told_no_memory_to_read new.view old.number r)

-- what was told is so still, where a pass goes on with no own entry
pub told_then_others : (old mid new : PassView) (r : Request) (reply : Reply) → GoesOn old mid → GoesOn mid new → own new ≡ own mid → Told old.view mid.view old.number (r ∷ []) (reply ∷ []) →
    Told old.view new.view old.number (r ∷ []) (reply ∷ [])
told_then_others old mid new r reply first next same told =
    told-append old.view mid.view new.view old.number (r ∷ []) [] (reply ∷ []) [] told
    (told_others old.number mid.view new.view next.begins (subst (λ n. written_by n new.view ≡ written_by n mid.view) first.same_number (same_own mid new next same)))
