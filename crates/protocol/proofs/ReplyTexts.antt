-- A reply's text is a line, and no other reply has it.
use Rattle.std.proofs.Common.{◌≡◌, ◌++◌, List, [], ◌∷◌, map, false, Option, Some, None, refl, sym, ◌∙◌}
use Rattle.std.proofs.lemmas.List.{append_cancel_right}
use Rattle.std.specs.List.{AllByRecursion}
use Rattle.serde_json.specs.Data.{string}
use Rattle.serde_json.specs.View.{items_of}
use Rattle.serde_json.specs.Written.{compact_text}
use Rattle.semantics.specs.Texts.{Text, Table}
use Rattle.semantics.specs.Histories.{Write, put, remove, declare, drop_join, History}
use Rattle.semantics.specs.Verdicts.{Cause, computed, full, nojoin, slots, sources, clash, cycle, deep, many}
use Rattle.semantics.specs.Answers.{Answer, found, absent, pairs}
use Rattle.growing_history.specs.StateChanges.{Change}
use Rattle.protocol.specs.Rows.{whole_number, list_of}
use Rattle.protocol.specs.Requests.{LineFault, json, form, key, value, range, syntax}
use Rattle.protocol.specs.Replies.{Reply, done, answered, refused, gone, ahead, changed, fed, unread, long, memory, bye, fault_items, cause_items, pair_item, answer_items, value_items, change_item, write_items, entry_item, reply_items, reply_text}
use Rattle.protocol.specs.ReplyLaws.{IsSmall, HasSmallCause, HasSmallFault, HasSmallAnswer, HasSmallWrite, HasSmallEntry, HasSmallNumbers}
use Rattle.protocol.proofs.OneLine.{has_feed, has_feed-compact_text}
use Rattle.protocol.proofs.CompactTexts.{IsSmallData, compact_text_injective, items_of_injective, AreSmallItems-items_of, AllByRecursion-map}
use Rattle.protocol.proofs.ReplyReading.{reply_items_injective}

-- a reply's text without its byte 10
abbrev pub reply_front : Reply → Text
reply_front reply = compact_text (list_of (reply_items reply))

-- a reply's text is its front and the byte 10
pub reply_text-front : (reply : Reply) → reply_text reply ≡ reply_front reply ++ 10 ∷ []
unfolding reply_text
reply_text-front reply = refl

-- no byte 10 stands in the front
pub has_feed-reply_front : (reply : Reply) → has_feed (reply_front reply) ≡ false
has_feed-reply_front reply = has_feed-compact_text (list_of (reply_items reply))

-- ---- the items of a reply with small numbers

-- what a fault carries is small
small_fault : (fault : LineFault) → HasSmallFault fault → AllByRecursion IsSmallData (fault_items fault)
small_fault json h = tt
small_fault form h = tt
small_fault key h = tt
small_fault value h = tt
small_fault range h = tt
small_fault (syntax at) h = (h, tt)

-- what a cause carries is small
small_cause : (cause : Cause) → HasSmallCause cause → AllByRecursion IsSmallData (cause_items cause)
small_cause (computed position) h = (h, tt)
small_cause full h = tt
small_cause nojoin h = tt
small_cause slots h = tt
small_cause sources h = tt
small_cause (clash position) h = (h, tt)
small_cause (cycle positions) h = (AreSmallItems-items_of _ (AllByRecursion-map IsSmall IsSmallData whole_number (λ n small. small) positions h), tt)
small_cause deep h = tt
small_cause many h = tt

-- pairs are small, as they have no number
small_pairs : (table : Table) → AllByRecursion IsSmallData (map pair_item table)
small_pairs [] = tt
small_pairs (pair ∷ table) = ((tt, (tt, tt)), small_pairs table)

-- the items of an answer are small
small_answer : (a : Answer) → HasSmallAnswer a → AllByRecursion IsSmallData (answer_items a)
small_answer (found n v) h = (tt, (h, (tt, tt)))
small_answer (absent n) h = (tt, (h, tt))
small_answer (pairs n table) h = (tt, (h, (AreSmallItems-items_of _ (small_pairs table), tt)))

-- a change is small, whether its key has a value or has gone
small_change : (k : Text) (v : Option Text) → IsSmallData (list_of (string k ∷ value_items v))
small_change k None = (tt, tt)
small_change k (Some v) = (tt, (tt, tt))

-- changes are small
small_changes : (changes : List Change) → AllByRecursion IsSmallData (map change_item changes)
small_changes [] = tt
small_changes (change ∷ changes) = (small_change change.key change.value, small_changes changes)

-- a write is small, where its number is
small_write : (w : Write) → HasSmallWrite w → IsSmallData (list_of (write_items w))
small_write (put k v) h = (tt, (tt, (tt, tt)))
small_write (remove k) h = (tt, (tt, tt))
small_write (declare j) h = (tt, (tt, tt))
small_write (drop_join n) h = (tt, (h, tt))

-- entries are small
small_entries : (es : History) → AllByRecursion HasSmallEntry es → AllByRecursion IsSmallData (map entry_item es)
small_entries [] h = tt
small_entries (e ∷ es) h = ((h.0.0, (small_write e.write h.0.1, tt)), small_entries es h.1)

-- the items of a reply are small
small_items : (reply : Reply) → HasSmallNumbers reply → AllByRecursion IsSmallData (reply_items reply)
small_items (done n) h = (tt, (h, tt))
small_items (answered a) h = small_answer a h
small_items (refused n cause) h = (tt, (tt, (h.0, small_cause cause h.1)))
small_items (gone n) h = (tt, (tt, (h, tt)))
small_items (ahead n) h = (tt, (tt, (h, tt)))
small_items (changed from n changes) h = (tt, (h.0, (h.1, (AreSmallItems-items_of _ (small_changes changes), tt))))
small_items (fed from n es) h = (tt, (h.0, (h.1, (AreSmallItems-items_of _ (small_entries es h.2), tt))))
small_items (unread fault) h = (tt, (tt, small_fault fault h))
small_items long h = (tt, (tt, tt))
small_items memory h = (tt, (tt, tt))
small_items bye h = (tt, tt)

-- the array of a reply is small
small_reply : (reply : Reply) → HasSmallNumbers reply → IsSmallData (list_of (reply_items reply))
small_reply reply h = AreSmallItems-items_of (reply_items reply) (small_items reply h)

-- replies with the same front are the same, where their numbers are small
pub reply_front_injective : (reply other : Reply) → HasSmallNumbers reply → HasSmallNumbers other → reply_front reply ≡ reply_front other → reply ≡ other
reply_front_injective reply other h k same =
    let lists : list_of (reply_items reply) ≡ list_of (reply_items other) = compact_text_injective _ _ (small_reply reply h) (small_reply other k) same in
    let items : items_of (reply_items reply) ≡ items_of (reply_items other) = cc in
    reply_items_injective reply other h k (items_of_injective _ _ items)

-- replies with the same text are the same, where their numbers are small
pub reply_text_injective : (reply other : Reply) → HasSmallNumbers reply → HasSmallNumbers other → reply_text reply ≡ reply_text other → reply ≡ other
reply_text_injective reply other h k same =
    reply_front_injective reply other h k
    (append_cancel_right (reply_front reply) (reply_front other) (10 ∷ []) (sym (reply_text-front reply) ∙ same ∙ reply_text-front other))
