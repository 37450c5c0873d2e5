-- What a client is told by one step: a read, a write that enters or is refused, a lack of memory, or the entries of others.
use Rattle.std.proofs.Common.{◌≡◌, ◌⊎◌, inl, inr, ℕ, ◌+◌, ◌-◌, ◌<◌, ◌≤◌, ◌==◌, List, [], ◌∷◌, ◌++◌, length, take, drop, Bool, true, false, Option, Some, None, refl, sym, ap, ◌∙◌, subst, arith, append-nil, length-append}
use Rattle.std.specs.Prelude.{slice_get}
use Rattle.std.specs.List.{AllByRecursion}
use Rattle.std.proofs.lemmas.Bool.{eq-eqb, cases_lt}
use Rattle.std.proofs.Math.Seq.{drop-append_seam, take-append_seam, take-length, drop-length}
use Rattle.semantics.specs.Texts.{Text, value_at}
use Rattle.semantics.specs.Histories.{Write, Entry, History}
use Rattle.semantics.specs.States.{state}
use Rattle.semantics.specs.Verdicts.{Cause, verdict}
use Rattle.semantics.specs.Answers.{Read, get, scan, answer}
use Rattle.protocol.specs.Requests.{write, read, earlier, Earlier, scan_at, changes_since, feed_from}
use Rattle.protocol.specs.Replies.{done, answered, refused, gone, ahead, memory}
use Rattle.protocol.specs.Earlier.{reach_back, asked_position, told_back, earlier_reply}
use Rattle.protocol.specs.Told.{IsWithinReach, answer_position, own_positions, Told}
use Rattle.protocol.specs.Transcript.{write_step}
use Rattle.protocol.proofs.EarlierLemmas.{earlier_reply-within, earlier_reply-gone, earlier_reply-ahead}

-- ---- a view that stays

-- no own entry enters between a view and itself
own_none : (view : History) (client : ℕ) → own_positions client (length view + 1) (drop (length view) view) ≡ []
own_none view client = ap (own_positions client (length view + 1)) (drop-length view)

-- nothing is told where nothing is asked
pub told_nothing : (view : History) (client : ℕ) → Told view view client [] []
told_nothing view client = record { grows = ([], sym (append-nil view)); answers = tt; ordered = tt; own = own_none view client }

-- the position of the answer to a get, where its value is known
position_by : (key : Text) (view : History) (value : Option Text) → value_at key (state view) ≡ value → answer_position (answer (get key) view) ≡ length view
unfolding answer
position_by key view None e = rw e
position_by key view (Some value) e = rw e

-- an answer speaks of the whole view
pub answer_position-answer : (r : Read) (view : History) → answer_position (answer r view) ≡ length view
unfolding answer
answer_position-answer (get key) view = position_by key view (value_at key (state view)) refl
answer_position-answer (scan range) view = refl

-- a read is told the answer of the view
pub told_read : (view : History) (client : ℕ) (r : Read) → Told view view client (read r ∷ []) (answered (answer r view) ∷ [])
told_read view client r =
    let place = answer_position-answer r view in
    record {
      grows = ([], sym (append-nil view));
      answers = (ap (answer r) (sym (ap (λ n. take n view) place ∙ take-length view)), tt);
      ordered = (omega arith, omega arith, tt);
      own = own_none view client;
    }

-- a question whose position is within reach is told what it asks for
told_back_to : (view : History) (client : ℕ) (e : Earlier) → IsWithinReach (length view) (asked_position e) → Told view view client (earlier e ∷ []) (told_back e view ∷ [])
told_back_to view client (scan_at range p) within = record {
  grows = ([], sym (append-nil view));
  answers = (refl, tt);
  ordered = (length view, omega arith, omega arith, within, tt);
  own = own_none view client;
}
told_back_to view client (changes_since range from) within = record {
  grows = ([], sym (append-nil view));
  answers = ((refl, within, refl), tt);
  ordered = (omega arith, omega arith, tt);
  own = own_none view client;
}
told_back_to view client (feed_from from) within = record {
  grows = ([], sym (append-nil view));
  answers = ((refl, within, refl), tt);
  ordered = (omega arith, omega arith, tt);
  own = own_none view client;
}

-- a question whose position lies too far back is told that
told_gone : (view : History) (client : ℕ) (e : Earlier) → asked_position e + reach_back < length view → Told view view client (earlier e ∷ []) (gone (length view) ∷ [])
told_gone view client e far = record { grows = ([], sym (append-nil view)); answers = (far, tt); ordered = (omega arith, omega arith, tt); own = own_none view client }

-- and so is one whose position lies ahead
told_ahead : (view : History) (client : ℕ) (e : Earlier) → length view < asked_position e → Told view view client (earlier e ∷ []) (ahead (length view) ∷ [])
told_ahead view client e past = record { grows = ([], sym (append-nil view)); answers = (past, tt); ordered = (omega arith, omega arith, tt); own = own_none view client }

-- by where the position lies
told_earlier_by : (view : History) (client : ℕ) (e : Earlier) → (asked_position e + reach_back < length view) ⊎ (length view ≤ asked_position e + reach_back) →
    (length view < asked_position e) ⊎ (asked_position e ≤ length view) → Told view view client (earlier e ∷ []) (earlier_reply e view ∷ [])
told_earlier_by view client e (inl far) past = subst (λ reply. Told view view client (earlier e ∷ []) (reply ∷ [])) (sym (earlier_reply-gone e view far)) (told_gone view client e far)
told_earlier_by view client e (inr near) (inl past) =
    subst (λ reply. Told view view client (earlier e ∷ []) (reply ∷ [])) (sym (earlier_reply-ahead e view past)) (told_ahead view client e past)
told_earlier_by view client e (inr near) (inr before) =
    let within : IsWithinReach (length view) (asked_position e) = record { not_ahead = before; not_gone = near } in
    subst (λ reply. Told view view client (earlier e ∷ []) (reply ∷ [])) (sym (earlier_reply-within e view within)) (told_back_to view client e within)

-- a question about an earlier position is told what it is after the view
pub told_earlier : (view : History) (client : ℕ) (e : Earlier) → Told view view client (earlier e ∷ []) (earlier_reply e view ∷ [])
told_earlier view client e =
    told_earlier_by view client e (cases_lt (asked_position e + reach_back) (length view)) (cases_lt (length view) (asked_position e))

-- a write with a cause against it is told that
pub told_refused : (view : History) (client : ℕ) (w : Write) (cause : Cause) → verdict w view ≡ Some cause →
    Told view view client (write w ∷ []) (refused (length view) cause ∷ [])
told_refused view client w cause h = record {
  grows = ([], sym (append-nil view));
  answers = (ap (verdict w) (take-length view) ∙ h, tt);
  ordered = (omega arith, omega arith, tt);
  own = own_none view client;
}

-- a write may find no memory
pub told_no_memory_to_write : (view : History) (client : ℕ) (w : Write) → Told view view client (write w ∷ []) (memory ∷ [])
told_no_memory_to_write view client w = record { grows = ([], sym (append-nil view)); answers = (tt, tt); ordered = tt; own = own_none view client }

-- a read may find no memory
pub told_no_memory_to_read : (view : History) (client : ℕ) (r : Read) → Told view view client (read r ∷ []) (memory ∷ [])
told_no_memory_to_read view client r = record { grows = ([], sym (append-nil view)); answers = (tt, tt); ordered = tt; own = own_none view client }

-- a question about an earlier position may find no memory
pub told_no_memory_to_ask : (view : History) (client : ℕ) (e : Earlier) → Told view view client (earlier e ∷ []) (memory ∷ [])
told_no_memory_to_ask view client e = record { grows = ([], sym (append-nil view)); answers = (tt, tt); ordered = tt; own = own_none view client }

-- ---- a view that grows

-- an entry stands behind a view
at_seam : {A : Type 0} (view : List A) (e : A) → slice_get (view ++ e ∷ []) (length view) ≡ Some e
at_seam [] e = refl
at_seam (x ∷ view) e = at_seam view e

-- an entry of the client is its own
own_by : (client n : ℕ) (e : Entry) (own : Bool) → (e.client == client) ≡ own → own ≡ true → own_positions client n (e ∷ []) ≡ n ∷ []
own_by client n e own is h = rw (is ∙ h)

-- a write with no cause against it enters behind the view
pub told_done : (view : History) (client : ℕ) (w : Write) → verdict w view ≡ None →
    Told view (view ++ record { client = client; write = w } ∷ []) client (write w ∷ []) (done (length view + 1) ∷ [])
told_done view client w h =
    let entry : Entry = record { client = client; write = w } in
    let place : (length view + 1) - 1 ≡ length view = omega arith in
    let size = length-append view (entry ∷ []) in
    record {
      grows = (entry ∷ [], refl);
      answers = (
        (ap (slice_get (view ++ entry ∷ [])) place ∙ at_seam view entry, ap (λ n. verdict w (take n (view ++ entry ∷ []))) place ∙ ap (verdict w) (take-append_seam view (entry ∷ [])) ∙ h),
        tt,
      );
      ordered = (omega arith, omega arith, tt);
      own = ap (own_positions client (length view + 1)) (drop-append_seam view (entry ∷ [])) ∙ own_by client (length view + 1) entry (client == client) refl (eq-eqb client client refl);
    }

-- entries of other clients are none of its own
others_own_none : (client n : ℕ) (entries : History) → AllByRecursion (λ e. (e.client == client) ≡ false) entries → own_positions client n entries ≡ []
others_own_none client n [] h = refl
others_own_none client n (e ∷ entries) h = rw h.0 (others_own_none client (n + 1) entries h.1)

-- entries of other clients enter, and nothing is told of them
pub told_of_others : (view others : History) (client : ℕ) → AllByRecursion (λ e. (e.client == client) ≡ false) others → Told view (view ++ others) client [] []
told_of_others view others client h = record {
  grows = (others, refl);
  answers = tt;
  ordered = tt;
  own = ap (own_positions client (length view + 1)) (drop-append_seam view others) ∙ others_own_none client (length view + 1) others h;
}

-- ---- one client alone

-- the step of a write, where its verdict is known
told_write_by : (h : History) (w : Write) (cause : Option Cause) → verdict w h ≡ cause → Told h (write_step w h cause).history 0 (write w ∷ []) ((write_step w h cause).reply ∷ [])
told_write_by h w None is = told_done h 0 w is
told_write_by h w (Some cause) is = told_refused h 0 w cause is

-- the step of a write is told to the client with the number 0
pub told_write_step : (h : History) (w : Write) → Told h (write_step w h (verdict w h)).history 0 (write w ∷ []) ((write_step w h (verdict w h)).reply ∷ [])
told_write_step h w = told_write_by h w (verdict w h) refl
