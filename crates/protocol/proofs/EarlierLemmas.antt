-- The replies to questions about earlier positions, by where the position lies.
use Rattle.std.proofs.Common.{◌≡◌, ℕ, ◌+◌, ◌<◌, Bool, true, false, List, length, take, refl, sym, ap, ◌∙◌, arith, length-take}
use Rattle.std.specs.Prelude.{nat_lt, if◌then◌else◌}
use Rattle.std.proofs.lemmas.Bool.{lt-ltb, le-ltb}
use Rattle.semantics.specs.Texts.{Range, Table, pairs_within}
use Rattle.semantics.specs.Histories.{History}
use Rattle.semantics.specs.States.{state}
use Rattle.semantics.specs.Answers.{pairs, answer}
use Rattle.growing_history.specs.StateChanges.{Change, changes}
use Rattle.protocol.specs.Requests.{Earlier, scan_at, changes_since, feed_from}
use Rattle.protocol.specs.Replies.{Reply, answered, gone, ahead, changed, fed}
use Rattle.protocol.specs.Feeds.{run}
use Rattle.protocol.specs.Earlier.{reach_back, asked_position, told_back, earlier_reply}
use Rattle.protocol.specs.Told.{IsWithinReach}
use Rattle.protocol.proofs.WrittenLines.{is_memory}

-- the reply, by whether the position lies too far back and whether it lies ahead
abbrev reply_by : Bool → Bool → Earlier → History → Reply
reply_by far past e h = if far then gone (length h) else (if past then ahead (length h) else told_back e h)

-- a position within reach
pub earlier_reply-within : (e : Earlier) (h : History) → IsWithinReach (length h) (asked_position e) → earlier_reply e h ≡ told_back e h
unfolding earlier_reply
earlier_reply-within e h within =
    ap (λ far. reply_by far (nat_lt (length h) (asked_position e)) e h) (le-ltb (asked_position e + reach_back) (length h) within.not_gone)
    ∙ ap (λ past. reply_by false past e h) (le-ltb (length h) (asked_position e) within.not_ahead)

-- a position too far back
pub earlier_reply-gone : (e : Earlier) (h : History) → asked_position e + reach_back < length h → earlier_reply e h ≡ gone (length h)
unfolding earlier_reply
earlier_reply-gone e h far = ap (λ b. reply_by b (nat_lt (length h) (asked_position e)) e h) (lt-ltb (asked_position e + reach_back) (length h) far)

-- a position ahead
pub earlier_reply-ahead : (e : Earlier) (h : History) → length h < asked_position e → earlier_reply e h ≡ ahead (length h)
unfolding earlier_reply
earlier_reply-ahead e h past =
    ap (λ far. reply_by far (nat_lt (length h) (asked_position e)) e h) (le-ltb (asked_position e + reach_back) (length h) (omega arith))
    ∙ ap (λ b. reply_by false b e h) (lt-ltb (length h) (asked_position e) past)

-- the pairs of a range at a position within reach
pub scan_at_told : (range : Range) (at : ℕ) (h : History) (table : Table) → IsWithinReach (length h) at → table ≡ pairs_within range (state (take at h)) → answered (pairs at table) ≡ earlier_reply (scan_at range at) h
unfolding answer
scan_at_told range at h table within is =
    let long : at ≡ length (take at h) = omega (arith, length-take at h, within.not_ahead) in
    (λ i. answered (pairs (long i) (is i))) ∙ sym (earlier_reply-within (scan_at range at) h within)

-- what changed in it since such a position
pub changes_told : (range : Range) (from position : ℕ) (h : History) (listed : List Change) → IsWithinReach (length h) from → position ≡ length h → listed ≡ changes range h from position →
    changed from position listed ≡ earlier_reply (changes_since range from) h
changes_told range from position h listed within whole is =
    ap (changed from position) is ∙ ap (λ n. changed from n (changes range h from n)) whole ∙ sym (earlier_reply-within (changes_since range from) h within)

-- the first entries after it
pub feed_told : (from position : ℕ) (h listed : History) → IsWithinReach (length h) from → position ≡ length h → listed ≡ run h from position →
    fed from position listed ≡ earlier_reply (feed_from from) h
feed_told from position h listed within whole is =
    ap (fed from position) is ∙ ap (λ n. fed from n (run h from n)) whole ∙ sym (earlier_reply-within (feed_from from) h within)

-- none of these is `memory`
no_memory_by : (far past : Bool) (e : Earlier) (h : History) → is_memory (reply_by far past e h) ≡ false
no_memory_by true past e h = refl
no_memory_by false true e h = refl
no_memory_by false false (scan_at range at) h = refl
no_memory_by false false (changes_since range from) h = refl
no_memory_by false false (feed_from from) h = refl

pub earlier_no_memory : (e : Earlier) (h : History) → is_memory (earlier_reply e h) ≡ false
unfolding earlier_reply
earlier_no_memory e h = no_memory_by (nat_lt (asked_position e + reach_back) (length h)) (nat_lt (length h) (asked_position e)) e h
