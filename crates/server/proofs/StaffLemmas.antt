-- Clients of which the first alone has written, and the joins that it declares.
use Rattle.std.proofs.Common.{◌≡◌, ◌≢◌, ◌==◌, ℕ, ◌+◌, ◌-◌, ◌<◌, ◌≤◌, List, [], ◌∷◌, ◌++◌, length, take, drop, get_or, true, false, Some, None, refl, sym, ap, ◌∙◌, subst, arith, add-one, append-nil, length-append, length-drop, eq-eqb, ⊎_elim}
use Rattle.std.specs.Prelude.{slice_get, ⊤}
use Rattle.std.specs.List.{AllByRecursion}
use Rattle.std.proofs.Math.Seq.{drop-append_seam}
use Rattle.std.proofs.lemmas.Bool.{cases_eq, false≢true}
use Rattle.std.proofs.lemmas.List.{map-append, nil_from_length, take_all}
use Rattle.std.proofs.lemmas.Option.{get_or_from_slice_get, none-some}
use Rattle.semantics.specs.Joins.{Join}
use Rattle.semantics.specs.Histories.{declare, Entry, History, IsPrefix}
use Rattle.semantics.specs.Verdicts.{Cause, verdict}
use Rattle.protocol.specs.Requests.{write}
use Rattle.protocol.specs.Replies.{Reply as PlainReply, done, answered, refused, gone, ahead, changed, fed, unread, long, memory, bye}
use Rattle.protocol.specs.Own.{AreOwn}
use Rattle.protocol.specs.Told.{Told, own_positions}
use Rattle.growing_history.proofs.ElementLemmas.{all_left, all_right}
use Rattle.growing_history.proofs.PrefixLemmas.{by_first}
use Rattle.request_codec.specs.Plain.{plain_reply}
use Rattle.request_codec.specs.declared.reply.Reply.{Reply}
use Rattle.request_codec.specs.declared.reply.Reply.TheVariants.{Done, Found, Absent, Pairs, Written, Refused, Gone, Ahead, Changes, Entries, Unread, Long, Memory, Bye}
use Rattle.request_codec.specs.declared.request.LineFault.{LineFault}
use Rattle.request_codec.specs.declared.request.LineFault.TheVariants.{Json, Form, Key, Value, Range, Syntax, OutOfMemory}
use Rattle.write_history.specs.Entries.{written_by}
use Rattle.write_history.specs.Passes.{HistoryId, PassView, GoesOn, new_pass, own}
use Rattle.write_history.proofs.Entering.{prefix_nil, written_by-append}
use Rattle.pequod_cache.specs.Adding.{HasAdded}
use Rattle.pequod_cache.specs.Meeting.{HaveMet}
use Rattle.pequod_cache.proofs.AddingLemmas.{none_written, write_added, written_first}
use Rattle.pequod_cache.proofs.ToldLemmas.{others_of}
use Rattle.server.specs.Staffs.{declared, AreDeclarable, IsDoneOrMemory, IsIdle, WritesAlone}

-- ---- replies

-- of the lines that are no requests one without memory is told that
pub is_without_memory : (fault : LineFault) → IsDoneOrMemory (plain_reply (Unread fault)) → fault ≡ OutOfMemory tt
is_without_memory Json says = absurd says
is_without_memory Form says = absurd says
is_without_memory Key says = absurd says
is_without_memory Value says = absurd says
is_without_memory Range says = absurd says
is_without_memory (Syntax at) says = absurd says
is_without_memory (OutOfMemory _) says = refl

-- a reply that says that a write entered, or that no memory was found, is one of three
pub no_other_reply : (reply : Reply) → IsDoneOrMemory (plain_reply reply) → ((n : ℕ) → reply ≡ Done n → ⊥) → ((m : ⊤) → reply ≡ Memory m → ⊥) → ((fault : LineFault) → reply ≡ Unread fault → ⊥) → ⊥
no_other_reply (Done n) says not_done not_memory not_unread = not_done n refl
no_other_reply (Found n value) says not_done not_memory not_unread = says
no_other_reply (Absent n) says not_done not_memory not_unread = says
no_other_reply (Pairs n pairs) says not_done not_memory not_unread = says
no_other_reply (Written scan) says not_done not_memory not_unread = says
no_other_reply (Refused n cause) says not_done not_memory not_unread = says
no_other_reply (Gone n) says not_done not_memory not_unread = says
no_other_reply (Ahead n) says not_done not_memory not_unread = says
no_other_reply (Changes start n changes) says not_done not_memory not_unread = says
no_other_reply (Entries from n entries) says not_done not_memory not_unread = says
no_other_reply (Unread fault) says not_done not_memory not_unread = not_unread fault refl
no_other_reply Long says not_done not_memory not_unread = says
no_other_reply (Memory m) says not_done not_memory not_unread = not_memory m refl
no_other_reply Bye says not_done not_memory not_unread = says

-- ---- entries of the client with the number 0 alone

-- those that it wrote are all
all_written : (h : History) → AreOwn h → written_by 0 h ≡ h
all_written [] mine = refl
all_written (e ∷ h) mine = written_first 0 e h true (eq-eqb e.client 0 mine.0) ∙ ap (λ (es : History). e ∷ es) (all_written h mine.1)

-- and so it is of each beginning
beginning_is_own : (h more : History) → IsPrefix h more → AreOwn more → AreOwn h
beginning_is_own h more begins mine = all_left (λ (e : Entry). e.client ≡ 0) h begins.0 (subst AreOwn begins.1 mine)

-- a number below so many and one, and not one from 1 up, is 0
is_zero : (n client : ℕ) → client < n + 1 → ((k : ℕ) → k < n → (client == (k + 1)) ≡ false) → client ≡ 0
is_zero n client less others = ⊎_elim
    (λ (is : client ≡ 0). is)
    (λ (other : client ≢ 0).
    let same : client ≡ (client - 1) + 1 = omega arith in
    absurd (false≢true (sym (others (client - 1) (omega arith)) ∙ eq-eqb client ((client - 1) + 1) same)))
    (cases_eq client 0)

-- where none of the numbers from 1 up has an entry, each is by the client with the number 0
are_own : (n : ℕ) (h : History) → AllByRecursion (λ e. e.client < n + 1) h → ((k : ℕ) → k < n → AllByRecursion (λ e. (e.client == (k + 1)) ≡ false) h) → AreOwn h
are_own n [] below others = tt
are_own n (e ∷ h) below others = (is_zero n e.client below.0 (λ k less. (others k less).0), are_own n h below.1 (λ k less. (others k less).1))

-- a number that has no entry of a list has none of its beginning
none_before : (number : ℕ) (h more : History) → IsPrefix h more → written_by number more ≡ [] → written_by number h ≡ []
none_before number h more begins none =
    let whole = ap length (sym (written_by-append number h begins.0) ∙ ap (written_by number) (sym begins.1) ∙ none) in
    let size = length-append (written_by number h) (written_by number begins.0) in
    nil_from_length (written_by number h) (omega (arith, whole, size))

-- ---- a declaration by the only client that has written

-- it is not refused where nothing is against it
never_refused : (before after : History) (j : Join) (n : ℕ) (cause : Cause) → Told before after 0 (write (declare j) ∷ []) (refused n cause ∷ []) → AreOwn after → verdict (declare j) before ≡ None → ⊥
never_refused before after j n cause is mine free =
    let more : History = is.grows.0 in
    let seen : drop (length before) after ≡ more = ap (drop (length before)) is.grows.1 ∙ drop-append_seam before more in
    let none : written_by 0 more ≡ [] = none_written 0 (length before + 1) more (ap (own_positions 0 (length before + 1)) (sym seen) ∙ is.own) in
    let theirs : AreOwn more = all_right (λ (e : Entry). e.client ≡ 0) before more (subst AreOwn is.grows.1 mine) in
    let nothing : more ≡ [] = sym (all_written more theirs) ∙ none in
    let same : after ≡ before = is.grows.1 ∙ ap (λ (es : History). before ++ es) nothing ∙ append-nil before in
    let size : length after ≡ length before = ap length same in
    let low : length before ≤ n = is.ordered.0 in
    let whole : take n after ≡ before = take_all n after (omega arith) ∙ same in
    none-some cause (sym free ∙ subst (λ (h : History). verdict (declare j) h ≡ Some cause) whole is.answers.0)

-- so it enters, or finds no memory
pub enters : (old now : PassView) (j : Join) (reply : PlainReply) → old.number ≡ 0 → Told old.view now.view old.number (write (declare j) ∷ []) (reply ∷ []) → AreOwn now.view →
    verdict (declare j) (own old) ≡ None → IsDoneOrMemory reply
enters old now j (done n) numbered is mine free = tt
enters old now j (answered a) numbered is mine free = absurd is.answers.0
enters old now j (refused n cause) numbered is mine free =
    let wrote : own old ≡ old.view = ap (λ (k : ℕ). written_by k old.view) numbered ∙ all_written old.view (beginning_is_own old.view now.view is.grows mine) in
    absurd (never_refused old.view now.view j n cause (subst (λ (k : ℕ). Told old.view now.view k (write (declare j) ∷ []) (refused n cause ∷ [])) numbered is) mine
    (subst (λ (h : History). verdict (declare j) h ≡ None) wrote free))
enters old now j (gone n) numbered is mine free = absurd is.answers.0
enters old now j (ahead n) numbered is mine free = absurd is.answers.0
enters old now j (changed start n changes) numbered is mine free = absurd is.answers.0
enters old now j (fed start n changes) numbered is mine free = absurd is.answers.0
enters old now j (unread fault) numbered is mine free = absurd is.answers.0
enters old now j long numbered is mine free = absurd is.answers.0
enters old now j memory numbered is mine free = tt
enters old now j bye numbered is mine free = absurd is.answers.0

-- its own entries are then those that it had, and the declaration, also when it has met others
pub wrote_next : (old now met : PassView) (j : Join) (n : ℕ) → old.number ≡ 0 → GoesOn old now → Told old.view now.view old.number (write (declare j) ∷ []) (done n ∷ []) → HasAdded [] now met →
    own met ≡ own old ++ record { client = 0; write = declare j } ∷ []
wrote_next old now met j n numbered goes is added = added.adds ∙ append-nil (own now) ∙ (write_added old now n 0 (declare j) numbered goes is).adds

-- ---- the only client that has written, and the others

-- what it has seen before they meet is by it alone
pub seen_is_own : (history : HistoryId) (old now : PassView) (high : History) (others after : List PassView) → WritesAlone history old others → GoesOn old now → HaveMet now.view high others after →
    AreOwn now.view
seen_is_own history old now high others after alone goes meets =
    are_own (length others) now.view (subst (λ (n : ℕ). AllByRecursion (λ (e : Entry). e.client < n) now.view) (goes.same_writers ∙ alone.all) goes.recorded.below)
    (λ k less.
    let idle = alone.each k old less in
    let has = meets.each k old old less in
    let number : (get_or after k old).number ≡ k + 1 = has.reads.goes_on.same_number ∙ idle.numbered in
    let none : written_by (k + 1) (get_or after k old).view ≡ [] = ap (λ (n : ℕ). written_by n (get_or after k old).view) (sym number) ∙ has.reads.none ∙ idle.none in
    others_of (k + 1) now.view (none_before (k + 1) now.view (get_or after k old).view has.begins none))

-- when they have met they have seen first what it has written, and nobody else has written
pub alone_still : (history : HistoryId) (old now met : PassView) (high : History) (others after : List PassView) → WritesAlone history old others → GoesOn old now → HasAdded [] now met →
    HaveMet now.view high others after → WritesAlone history met after
alone_still history old now met high others after alone goes added meets =
    let counted : length after ≡ length others = meets.counted in
    let numbered : now.number ≡ 0 = goes.same_number ∙ alone.numbered in
    let wrote : own met ≡ now.view =
    added.adds ∙ append-nil (own now) ∙ ap (λ (n : ℕ). written_by n now.view) numbered ∙ all_written now.view (seen_is_own history old now high others after alone goes meets) in
    record {
      numbered = added.same_number ∙ numbered;
      all = added.same_writers ∙ goes.same_writers ∙ alone.all ∙ ap (λ (n : ℕ). n + 1) (sym counted);
      each = λ i d less.
          let idle = alone.each i d (omega arith) in
          let has = meets.each i d d (omega arith) in
          record {
            same_history = has.reads.goes_on.same_history ∙ idle.same_history;
            numbered = has.reads.goes_on.same_number ∙ idle.numbered;
            writer = omega (arith, idle.writer, has.reads.goes_on.same_writers);
            begins = subst (λ (h : History). IsPrefix h (get_or after i d).view) (sym wrote) has.begins;
            none = has.reads.none ∙ idle.none;
          };
    }

-- ---- the joins that are declared

-- nothing is against the next of joins that may be declared in turn
pub next_is_free : (all so_far left rest : List Join) (j : Join) (h : History) → AreDeclarable all → so_far ++ left ≡ all → left ≡ j ∷ rest → h ≡ declared so_far → verdict (declare j) h ≡ None
next_is_free all so_far left rest j h declarable whole next is =
    let entry = λ (join : Join). let e : Entry = record { client = 0; write = declare join } in e in
    let split : declared all ≡ declared so_far ++ entry j ∷ declared rest = ap declared (sym whole ∙ ap (λ (joins : List Join). so_far ++ joins) next) ∙ map-append entry so_far (j ∷ rest) in
    subst (λ (before : History). verdict (declare j) before ≡ None) (sym is) (declarable (declared so_far) (entry j) (declared rest) split)

-- the declarations of a join more
pub declared_more : (joins : List Join) (j : Join) (now next : History) → now ≡ declared joins → next ≡ now ++ record { client = 0; write = declare j } ∷ [] → next ≡ declared (joins ++ j ∷ [])
declared_more joins j now next was is =
    let entry = λ (join : Join). let e : Entry = record { client = 0; write = declare join } in e in
    is ∙ ap (λ (es : History). es ++ entry j ∷ []) was ∙ sym (map-append entry joins (j ∷ []))

-- ---- the clients of a new cache

-- the client that stands first is the first
pub first_is_new : (history : HistoryId) (len : ℕ) (all front : List PassView) (first : PassView) → front ≡ take 1 all → len ≡ 1 → Some first ≡ Some (get_or front (len - 1) first) →
    slice_get all 0 ≡ Some (new_pass history 0) → first ≡ new_pass history 0
first_is_new history len all front first cut one is each =
    let at : len - 1 ≡ 0 = omega arith in
    let whole : all ≡ new_pass history 0 ∷ (by_first all (new_pass history 0) each).0 = (by_first all (new_pass history 0) each).1 in
    let same : Some first ≡ Some (new_pass history 0) =
    is ∙ ap (λ i. Some (get_or front i first)) at ∙ ap (λ xs. Some (get_or xs 0 first)) cut ∙ ap (λ xs. Some (get_or (take 1 xs) 0 first)) whole in
    cc

-- the element behind the first one
past_first : {A : Type 0} (xs : List A) (i : ℕ) → slice_get (drop 1 xs) i ≡ slice_get xs (i + 1)
past_first [] i = refl
past_first (x ∷ xs) i = ap (λ (k : ℕ). slice_get (x ∷ xs) k) (sym (add-one i))

-- nobody has written
pub new_are_alone : (history : HistoryId) (count : ℕ) (all others : List PassView) (first : PassView) → ((number : ℕ) → number < count → slice_get all number ≡ Some (new_pass history number)) →
    history.kinds.writers ≡ count → length all ≡ count → 1 ≤ count → others ≡ drop 1 all → first ≡ new_pass history 0 → WritesAlone history first others
new_are_alone history count all others first each writers counted some rest is =
    let left : length others ≡ length all - 1 = ap length rest ∙ length-drop 1 all in
    let may : first.writers ≡ history.kinds.writers = ap (λ (p : PassView). p.writers) is in
    record {
      numbered = ap (λ (p : PassView). p.number) is;
      all = omega arith;
      each = λ i d less.
          let at : slice_get others i ≡ Some (new_pass history (i + 1)) = ap (λ (l : List PassView). slice_get l i) rest ∙ past_first all i ∙ each (i + 1) (omega arith) in
          subst (IsIdle history (i + 1) (own first)) (sym (get_or_from_slice_get others i (new_pass history (i + 1)) d at))
          (record {
            same_history = refl;
            numbered = refl;
            writer = omega arith;
            begins = subst (λ (h : History). IsPrefix h []) (sym (ap (λ (p : PassView). own p) is)) (prefix_nil []);
            none = refl;
          });
    }
