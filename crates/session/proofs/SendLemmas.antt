-- What is sent for a reply.
use Rattle.std.proofs.Common.{◌≡◌, ◌≢◌, ℕ, ◌-◌, ◌^◌, ◌<◌, [], ◌∷◌, length, map, take, Bool, true, false, refl, subst, arith, inl, inr}
use Rattle.std.specs.Prelude.{Option, Some, None, Result, Ok, Err, OnOk, slice_get, nat_le, if◌then◌else◌}
use Rattle.std.specs.Result.{IfErr}
use Rattle.std.proofs.lemmas.Bool.{leb-false}
use Rattle.std.proofs.lemmas.List.{length-take-le}
use Rattle.std.proofs.lemmas.Option.{slice_get_within}
use Rattle.semantics.specs.Texts.{Text}
use Rattle.semantics.specs.Histories.{Write, Entry, History}
use Rattle.semantics.specs.Verdicts.{Cause, full, verdict, write_cause, first_cause}
use Rattle.protocol.specs.Requests.{Request, write, read, earlier, quit, LineFault, request_of}
use Rattle.protocol.specs.Replies.{Reply, done, answered, refused, gone, ahead, changed, fed, unread, long, memory, bye, reply_text}
use Rattle.protocol.specs.Told.{Told}
use Rattle.protocol.specs.Session.{AnswersLine, Serves, is_bye, told_pairs}
use Rattle.pq_io.specs.Streams.{Took, TookProperPrefix}
use Rattle.request_codec.specs.declared.reply.Reply as codec
use Rattle.request_codec.specs.declared.reply.Reply.TheVariants as replies
use Rattle.request_codec.specs.declared.request.LineFault as codec_request
use Rattle.request_codec.specs.declared.request.LineFault.TheVariants as faults
use Rattle.request_codec.specs.Plain.{plain_reply}
use Rattle.session.specs.declared.end.End.{End}
use Rattle.session.specs.declared.end.End.TheVariants.{Closed, Quit, Long, ReadFault, WriteFault, Spent, OutOfMemory}
use Rattle.session.specs.Serving.{HasSmallPosition, IsPlain, IsSentAs, Sends}
use Rattle.session.proofs.ToldLemmas.{told_sent_as}

-- a write failed in mid-text
pub sends_part : (A : Type 0) (end : End) (old new : Option Text) (text : Text) (reply : Reply) → text ≡ reply_text reply →
    (end ≡ WriteFault) × TookProperPrefix old new text → Sends {A = A} (Err end) old new reply
sends_part A Closed old new text reply same (e, part) = absurd (cc)
sends_part A Quit old new text reply same (e, part) = absurd (cc)
sends_part A Long old new text reply same (e, part) = absurd (cc)
sends_part A ReadFault old new text reply same (e, part) = absurd (cc)
sends_part A WriteFault old new text reply same (e, part) = subst (TookProperPrefix old new) same part
sends_part A Spent old new text reply same (e, part) = absurd (cc)
sends_part A (OutOfMemory _) old new text reply same (e, part) = absurd (cc)

-- the text of a reply other than `bye`, which was written or in part
pub sends_text : (A : Type 0) (result : Result A End) (old new : Option Text) (text : Text) (reply : Reply) → text ≡ reply_text reply → is_bye reply ≡ false →
    OnOk result (Took old new text) → IfErr result (λ end. (end ≡ WriteFault) × TookProperPrefix old new text) → Sends result old new reply
sends_text A (Ok x) old new text reply same on whole part = (subst (Took old new) same whole, on)
sends_text A (Err end) old new text reply same on whole part = sends_part A end old new text reply same part

-- ---- as what a reply is sent

pub sent_as_itself : (reply : Reply) → IsSentAs reply reply
sent_as_itself (done n) = refl
sent_as_itself (answered a) = inl refl
sent_as_itself (refused n cause) = inl refl
sent_as_itself (gone n) = inl refl
sent_as_itself (ahead n) = inl refl
sent_as_itself (changed from n listed) = inl refl
sent_as_itself (fed from n listed) = inl refl
sent_as_itself (unread fault) = inl refl
sent_as_itself long = inl refl
sent_as_itself memory = refl
sent_as_itself bye = inl refl

pub sent_as_memory : (reply : Reply) → IsPlain reply → IsSentAs reply memory
sent_as_memory (done n) plain = absurd plain
sent_as_memory (answered a) plain = inr refl
sent_as_memory (refused n cause) plain = inr refl
sent_as_memory (gone n) plain = inr refl
sent_as_memory (ahead n) plain = inr refl
sent_as_memory (changed from n listed) plain = inr refl
sent_as_memory (fed from n listed) plain = inr refl
sent_as_memory (unread fault) plain = inr refl
sent_as_memory long plain = inr refl
sent_as_memory memory plain = refl
sent_as_memory bye plain = absurd plain

pub is_bye-plain : (reply : Reply) → IsPlain reply → is_bye reply ≡ false
is_bye-plain (done n) plain = refl
is_bye-plain (answered a) plain = refl
is_bye-plain (refused n cause) plain = refl
is_bye-plain (gone n) plain = refl
is_bye-plain (ahead n) plain = refl
is_bye-plain (changed from n listed) plain = refl
is_bye-plain (fed from n listed) plain = refl
is_bye-plain (unread fault) plain = refl
is_bye-plain long plain = refl
is_bye-plain memory plain = refl
is_bye-plain bye plain = absurd plain

-- a line that another fault refuses has a text of its own
pub has_text : (reply : codec.Reply) (fault : codec_request.LineFault) → reply ≡ replies.Unread fault → ((m : Unit {0}) → fault ≡ faults.OutOfMemory m → ⊥) → reply ≢ replies.Unread (faults.OutOfMemory tt)
has_text reply fault is other = λ e. let same : fault ≡ faults.OutOfMemory tt = cc in other tt same

-- a line for which memory ran out is sent `memory`
pub memory_unread : (reply : codec.Reply) (fault : codec_request.LineFault) → reply ≡ replies.Unread fault → fault ≡ faults.OutOfMemory tt → IsSentAs (plain_reply reply) memory
memory_unread reply fault e f = rw (e, f) refl

-- ---- a line with its reply, as it is sent

answers_sent_as : (given : Result Request LineFault) (reply sent : Reply) → IsSentAs reply sent → AnswersLine given reply → AnswersLine given sent
answers_sent_as (Err fault) reply sent goes (inl e) = subst (λ r. IsSentAs r sent) e goes
answers_sent_as (Err fault) reply sent goes (inr e) = inr (subst (λ r. IsSentAs r sent) e goes)
answers_sent_as (Ok (write w)) reply sent goes h = tt
answers_sent_as (Ok (read r)) reply sent goes h = tt
answers_sent_as (Ok (earlier q)) reply sent goes h = tt
answers_sent_as (Ok quit) reply sent goes (inl e) = subst (λ r. IsSentAs r sent) e goes
answers_sent_as (Ok quit) reply sent goes (inr e) = inr (subst (λ r. IsSentAs r sent) e goes)

-- what is told at one line
abbrev ToldAt : History → History → ℕ → Text → Reply → Type 0
ToldAt before after client line reply = Told before after client (map (λ p. p.0) (told_pairs (line ∷ []) (reply ∷ []))) (map (λ p. p.1) (told_pairs (line ∷ []) (reply ∷ [])))

told_at_sent_as : (before after : History) (client : ℕ) (line : Text) (reply sent : Reply) (given : Result Request LineFault) → request_of line ≡ given → IsSentAs reply sent →
    ToldAt before after client line reply → ToldAt before after client line sent
told_at_sent_as before after client line reply sent (Err fault) e goes told = rw e (rw e at told)
told_at_sent_as before after client line reply sent (Ok (write w)) e goes told = rw e (told_sent_as before after client (write w) reply sent goes (rw e at told))
told_at_sent_as before after client line reply sent (Ok (read r)) e goes told = rw e (told_sent_as before after client (read r) reply sent goes (rw e at told))
told_at_sent_as before after client line reply sent (Ok (earlier q)) e goes told = rw e (told_sent_as before after client (earlier q) reply sent goes (rw e at told))
told_at_sent_as before after client line reply sent (Ok quit) e goes told = rw e (rw e at told)

-- a line is served by what is sent for its reply
pub serves_sent_as : (before after : History) (client : ℕ) (line : Text) (reply sent : Reply) → IsSentAs reply sent →
    Serves before after client (line ∷ []) (reply ∷ []) → Serves before after client (line ∷ []) (sent ∷ [])
serves_sent_as before after client line reply sent goes served = record {
  each = (answers_sent_as (request_of line) reply sent goes served.each.0, tt);
  told = told_at_sent_as before after client line reply sent (request_of line) refl goes served.told;
}

-- ---- positions of entered writes

room_by : (b : Bool) (c : Option Cause) → first_cause ((if b then Some full else None) ∷ c ∷ []) ≡ None → b ≡ false
room_by true c e = absurd (cc)
room_by false c e = refl

-- a write without a cause against it found room
room : (w : Write) (h : History) → verdict w h ≡ None → length h < 2 ^ 48 - 1
unfolding verdict
room w h e = leb-false (2 ^ 48 - 1) (length h) (room_by (nat_le (2 ^ 48 - 1) (length h)) (write_cause w h) e)

small_position : (w : Write) (view : History) (entry : Entry) (n : ℕ) → slice_get view (n - 1) ≡ Some entry → verdict w (take (n - 1) view) ≡ None → n < 2 ^ 48
small_position w view entry n at entered =
    let inside = slice_get_within view (n - 1) entry at in
    omega (arith, inside, room w (take (n - 1) view) entered, length-take-le (n - 1) view (omega (arith, inside)))

small_done_by : (before after : History) (client : ℕ) (line : Text) (n : ℕ) (given : Result Request LineFault) → request_of line ≡ given →
    AnswersLine given (done n) → ToldAt before after client line (done n) → n < 2 ^ 48
small_done_by before after client line n (Err fault) e (inl h) told = absurd (cc)
small_done_by before after client line n (Err fault) e (inr h) told = absurd (cc)
small_done_by before after client line n (Ok (write w)) e h told =
    let one : Told before after client (write w ∷ []) (done n ∷ []) = rw e at told in
    small_position w after _ n one.answers.0.0 one.answers.0.1
small_done_by before after client line n (Ok (read r)) e h told =
    let one : Told before after client (read r ∷ []) (done n ∷ []) = rw e at told in
    absurd (one.answers.0)
small_done_by before after client line n (Ok (earlier q)) e h told =
    let one : Told before after client (earlier q ∷ []) (done n ∷ []) = rw e at told in
    absurd (one.answers.0)
small_done_by before after client line n (Ok quit) e (inl h) told = absurd (cc)
small_done_by before after client line n (Ok quit) e (inr h) told = absurd (cc)

-- the position that a line is answered is below 2^48
pub small_done : (before after : History) (client : ℕ) (line : Text) (reply : Reply) → Serves before after client (line ∷ []) (reply ∷ []) → HasSmallPosition reply
small_done before after client line (done n) served = small_done_by before after client line n (request_of line) refl served.each.0 served.told
small_done before after client line (answered a) served = tt
small_done before after client line (refused n cause) served = tt
small_done before after client line (gone n) served = tt
small_done before after client line (ahead n) served = tt
small_done before after client line (changed from n listed) served = tt
small_done before after client line (fed from n listed) served = tt
small_done before after client line (unread fault) served = tt
small_done before after client line long served = tt
small_done before after client line memory served = tt
small_done before after client line bye served = tt
