-- What is told in two parts.
use Rattle.std.proofs.Common.{◌≡◌, ℕ, zero, suc, ◌+◌, ◌-◌, ◌<◌, ◌≤◌, ◌==◌, List, [], ◌∷◌, ◌++◌, length, take, drop, map, Some, None, refl, sym, ap, ap₂, ◌∙◌, subst, arith, append_assoc, length-append}
use Rattle.std.specs.Prelude.{⊤, slice_get, filter}
use Rattle.std.specs.List.{AllZip, enumerate_from}
use Rattle.std.proofs.lemmas.List.{take-append-le, drop-append-le, length-drop, map-append}
use Rattle.std.proofs.Math.Seq.{drop-append_seam}
use Rattle.std.proofs.lemmas.List.Elements.{filter_map-append, filter-append}
use Rattle.semantics.specs.Texts.{Range}
use Rattle.semantics.specs.Histories.{Entry, History}
use Rattle.semantics.specs.States.{state}
use Rattle.semantics.specs.Verdicts.{verdict}
use Rattle.semantics.specs.Answers.{Answer, scan, answer}
use Rattle.growing_history.specs.StateChanges.{Change, changes_between, changes}
use Rattle.protocol.specs.Requests.{Request, write, read, earlier, quit, Earlier, scan_at, changes_since, feed_from}
use Rattle.protocol.specs.Replies.{Reply, done, answered, refused, gone, ahead, changed, fed, unread, long, memory, bye}
use Rattle.protocol.specs.Feeds.{longest, most_entries, run}
use Rattle.protocol.specs.Earlier.{asked_position}
use Rattle.protocol.specs.Told.{answer_position, AnswersScanAt, AnswersChangesSince, AnswersFeedFrom, AnswersEarlier, Answers, Place, own_entry, after_entries, reaching, anywhere, place_of, places, InOrder, own_positions, Told}

-- a place does not pass a bound, and what it reaches back to does not
abbrev IsWithin : ℕ → Place → Type 0
IsWithin high (own_entry n) = ⊤
IsWithin high (after_entries n) = n ≤ high
IsWithin high (reaching p) = p ≤ high
IsWithin high anywhere = ⊤

-- an entry of a view is the same in a longer one
slice_get-append : {A : Type 0} (view more : List A) (i : ℕ) (a : A) → slice_get view i ≡ Some a → (slice_get (view ++ more) i ≡ Some a) × (i < length view)
slice_get-append [] more i a e = absurd (cc)
slice_get-append (x ∷ view) more zero a e = (e, omega arith)
slice_get-append (x ∷ view) more (suc i) a e = let below = slice_get-append view more i a e in (below.0, omega (arith, below.1))

-- a prefix of a view is the same prefix of a longer one
prefix-append : (view more : History) (n : ℕ) → n ≤ length view → take n view ≡ take n (view ++ more)
prefix-append view more n h = sym (take-append-le n view more h)

-- what changed between two positions of a view is what changed between them in a longer one
changes-append : (view more : History) (range : Range) (q n : ℕ) → q ≤ n → n ≤ length view → changes range view q n ≡ changes range (view ++ more) q n
unfolding changes
changes-append view more range q n order inside =
    ap₂ (λ before after. changes_between range (state before) (state after)) (prefix-append view more q (omega arith)) (prefix-append view more n inside)

-- the pairs at an earlier position of a view are those at that position of a longer one
scan_at-append : (view more : History) (e : Earlier) (a : Answer) → asked_position e ≤ length view → AnswersScanAt view e a → AnswersScanAt (view ++ more) e a
scan_at-append view more (scan_at range p) a inside h = subst (λ prefix. a ≡ answer (scan range) prefix) (prefix-append view more p inside) h
scan_at-append view more (changes_since range from) a inside h = h
scan_at-append view more (feed_from from) a inside h = h

-- the same of what changed since one
changes_since-append : (view more : History) (e : Earlier) (start n : ℕ) (listed : List Change) → n ≤ length view →
    AnswersChangesSince view e start n listed → AnswersChangesSince (view ++ more) e start n listed
changes_since-append view more (scan_at range p) start n listed inside h = h
changes_since-append view more (changes_since range from) start n listed inside h =
    (h.0, h.1, h.2 ∙ changes-append view more range from n h.1.not_ahead inside)
changes_since-append view more (feed_from from) start n listed inside h = h

-- the entries between two positions of a view are those between them in a longer one
between-append : (view more : History) (q n : ℕ) → q ≤ n → n ≤ length view → take (n - q) (drop q view) ≡ take (n - q) (drop q (view ++ more))
between-append view more q n order inside =
    let fits : n - q ≤ length (drop q view) = omega (arith, length-drop q view) in
    sym (ap (take (n - q)) (drop-append-le q view more (omega arith)) ∙ take-append-le (n - q) (drop q view) more fits)

-- and so are the first of them that one line has room for
pub run-append : (view more : History) (q n : ℕ) → q ≤ n → n ≤ length view → run view q n ≡ run (view ++ more) q n
unfolding run
run-append view more q n order inside = ap (λ es. longest q n es most_entries) (between-append view more q n order inside)

-- the same of the first entries after a position
feed_from-append : (view more : History) (e : Earlier) (start n : ℕ) (listed : History) → n ≤ length view →
    AnswersFeedFrom view e start n listed → AnswersFeedFrom (view ++ more) e start n listed
feed_from-append view more (scan_at range p) start n listed inside h = h
feed_from-append view more (changes_since range from) start n listed inside h = h
feed_from-append view more (feed_from from) start n listed inside h = (h.0, h.1, h.2 ∙ run-append view more from n h.1.not_ahead inside)

-- a reply to a question about an earlier position over a view is one over a longer view, where its place does not pass the first
earlier-append : (view more : History) (e : Earlier) (reply : Reply) →
    IsWithin (length view) (place_of (earlier e) reply) → AnswersEarlier view e reply → AnswersEarlier (view ++ more) e reply
earlier-append view more e (done n) inside h = h
earlier-append view more e (answered a) inside h = scan_at-append view more e a inside h
earlier-append view more e (refused n cause) inside h = h
earlier-append view more e (gone n) inside h = h
earlier-append view more e (ahead n) inside h = h
earlier-append view more e (changed start n listed) inside h = changes_since-append view more e start n listed inside h
earlier-append view more e (fed start n listed) inside h = feed_from-append view more e start n listed inside h
earlier-append view more e (unread fault) inside h = h
earlier-append view more e long inside h = h
earlier-append view more e memory inside h = h
earlier-append view more e bye inside h = h

-- an answer over a view is one over a longer view, where its place does not pass the first
answers-append : (view more : History) (client : ℕ) (request : Request) (reply : Reply) →
    IsWithin (length view) (place_of request reply) → Answers view client request reply → Answers (view ++ more) client request reply
answers-append view more client (write w) (done n) inside (at, entered) =
    let here = slice_get-append view more (n - 1) _ at in
    let front = prefix-append view more (n - 1) (omega (arith, here.1)) in
    (here.0, subst (λ prefix. verdict w prefix ≡ None) front entered)
answers-append view more client (write w) (answered a) inside h = h
answers-append view more client (write w) (refused n cause) inside h = subst (λ prefix. verdict w prefix ≡ Some cause) (prefix-append view more n inside) h
answers-append view more client (write w) (gone n) inside h = h
answers-append view more client (write w) (ahead n) inside h = h
answers-append view more client (write w) (changed start n listed) inside h = h
answers-append view more client (write w) (fed start n listed) inside h = h
answers-append view more client (write w) (unread fault) inside h = h
answers-append view more client (write w) long inside h = h
answers-append view more client (write w) memory inside h = h
answers-append view more client (write w) bye inside h = h
answers-append view more client (read r) (done n) inside h = h
answers-append view more client (read r) (answered a) inside h = subst (λ prefix. a ≡ answer r prefix) (prefix-append view more (answer_position a) inside) h
answers-append view more client (read r) (refused n cause) inside h = h
answers-append view more client (read r) (gone n) inside h = h
answers-append view more client (read r) (ahead n) inside h = h
answers-append view more client (read r) (changed start n listed) inside h = h
answers-append view more client (read r) (fed start n listed) inside h = h
answers-append view more client (read r) (unread fault) inside h = h
answers-append view more client (read r) long inside h = h
answers-append view more client (read r) memory inside h = h
answers-append view more client (read r) bye inside h = h
answers-append view more client (earlier e) reply inside h = earlier-append view more e reply inside h
answers-append view more client quit reply inside h = h

-- what is in order does not pass the upper bound, nor do those after it
first_within : (low high : ℕ) (place : Place) (more : List Place) → InOrder low high (place ∷ more) →
    IsWithin high place × ((middle : ℕ) × InOrder middle high more)
first_within low high (own_entry n) more h = (tt, (n, h.2))
first_within low high (after_entries n) more h = (h.1, (n, h.2))
first_within low high (reaching p) more h = (omega (arith, h.2, h.3.not_ahead), (h.0, h.4))
first_within low high anywhere more h = (tt, (low, h))

-- the same of each answer, where the replies are in order up to the end of the first view
pub all_answers-append : (view more : History) (client low : ℕ) (requests : List Request) (replies : List Reply) →
    InOrder low (length view) (places requests replies) → AllZip (Answers view client) requests replies → AllZip (Answers (view ++ more) client) requests replies
all_answers-append view more client low [] [] ordered h = tt
all_answers-append view more client low [] (reply ∷ replies) ordered h = h
all_answers-append view more client low (request ∷ requests) [] ordered h = h
all_answers-append view more client low (request ∷ requests) (reply ∷ replies) ordered h =
    let inside = first_within low (length view) (place_of request reply) (places requests replies) ordered in
    (answers-append view more client request reply inside.0 h.0, all_answers-append view more client inside.1.0 requests replies inside.1.1 h.1)

-- two lists of requests with their replies are one
pub AllZip-append : {A B : Type 0} (R : A → B → Type 0) (xs more : List A) (ys others : List B) → AllZip R xs ys → AllZip R more others → AllZip R (xs ++ more) (ys ++ others)
AllZip-append R [] more [] others h k = k
AllZip-append R [] more (y ∷ ys) others h k = absurd h
AllZip-append R (x ∷ xs) more [] others h k = absurd h
AllZip-append R (x ∷ xs) more (y ∷ ys) others h k = (h.0, AllZip-append R xs more ys others h.1 k)

-- the places of replies in two parts
pub places-append : (R : Request → Reply → Type 0) (requests more : List Request) (replies others : List Reply) → AllZip R requests replies →
    places (requests ++ more) (replies ++ others) ≡ places requests replies ++ places more others
places-append R [] more [] others h = refl
places-append R [] more (reply ∷ replies) others h = absurd h
places-append R (request ∷ requests) more [] others h = absurd h
places-append R (request ∷ requests) more (reply ∷ replies) others h = ap (λ ps. place_of request reply ∷ ps) (places-append R requests more replies others h.1)

-- what is in order above a bound is in order above a lower one
pub InOrder-lower : (low middle high : ℕ) (more : List Place) → low ≤ middle → InOrder middle high more → InOrder low high more
InOrder-lower low middle high [] less h = tt
InOrder-lower low middle high (own_entry n ∷ more) less h = (omega (arith, h.0), h.1, h.2)
InOrder-lower low middle high (after_entries n ∷ more) less h = (omega (arith, h.0), h.1, h.2)
InOrder-lower low middle high (reaching p ∷ more) less h = (h.0, omega (arith, h.1), h.2, h.3, h.4)
InOrder-lower low middle high (anywhere ∷ more) less h = InOrder-lower low middle high more less h

-- what is in order up to a bound, and others from there on
pub InOrder-append : (low middle high : ℕ) (first others : List Place) → low ≤ middle → middle ≤ high →
    InOrder low middle first → InOrder middle high others → InOrder low high (first ++ others)
InOrder-append low middle high [] others less more h k = InOrder-lower low middle high others less k
InOrder-append low middle high (own_entry n ∷ first) others less more h k = (h.0, omega (arith, h.1), InOrder-append n middle high first others h.1 more h.2 k)
InOrder-append low middle high (after_entries n ∷ first) others less more h k = (h.0, omega (arith, h.1), InOrder-append n middle high first others h.1 more h.2 k)
InOrder-append low middle high (reaching p ∷ first) others less more h k =
    (h.0, h.1, omega (arith, h.2), h.3, InOrder-append h.0 middle high first others h.2 more h.4 k)
InOrder-append low middle high (anywhere ∷ first) others less more h k = InOrder-append low middle high first others less more h k

-- entries in two parts, with their positions
enumerate_from-append : {A : Type 0} (n : ℕ) (xs ys : List A) → enumerate_from n (xs ++ ys) ≡ enumerate_from n xs ++ enumerate_from (n + length xs) ys
enumerate_from-append n [] ys = let same : n ≡ n + 0 = omega arith in ap (λ m. enumerate_from m ys) same
enumerate_from-append n (x ∷ xs) ys =
    let same : (n + 1) + length xs ≡ n + suc (length xs) = omega arith in
    ap (λ l. (n, x) ∷ l) (enumerate_from-append (n + 1) xs ys ∙ ap (λ m. enumerate_from (n + 1) xs ++ enumerate_from m ys) same)

-- a client's own positions among entries in two parts
pub own_positions-append : (client position : ℕ) (xs ys : History) →
    own_positions client position (xs ++ ys) ≡ own_positions client position xs ++ own_positions client (position + length xs) ys
own_positions-append client position xs ys =
    let own = λ (p : ℕ × Entry). p.1.client == client in
    ap (λ l. map (λ (p : ℕ × Entry). p.0) (filter own l)) (enumerate_from-append position xs ys)
    ∙ ap (map (λ (p : ℕ × Entry). p.0)) (filter-append own (enumerate_from position xs) (enumerate_from (position + length xs) ys))
    ∙ map-append (λ (p : ℕ × Entry). p.0) _ _

-- the views as a first one with what came after it, and after that
told_onward : (before first second : History) (client : ℕ) (requests more : List Request) (replies others : List Reply) →
    Told before (before ++ first) client requests replies → Told (before ++ first) ((before ++ first) ++ second) client more others →
    Told before ((before ++ first) ++ second) client (requests ++ more) (replies ++ others)
told_onward before first second client requests more replies others told next =
    let sizes = length-append before first in
    let whole = length-append (before ++ first) second in
    let seen : drop (length before) ((before ++ first) ++ second) ≡ first ++ second = ap (drop (length before)) (append_assoc before first second) ∙ drop-append_seam before (first ++ second) in
    let place : length (before ++ first) + 1 ≡ (length before + 1) + length first = omega arith in
    record {
      grows = (first ++ second, append_assoc before first second);
      answers =
          AllZip-append (Answers ((before ++ first) ++ second) client) requests more replies others
          (all_answers-append (before ++ first) second client (length before) requests replies told.ordered told.answers) next.answers;
      ordered =
          subst (InOrder (length before) (length ((before ++ first) ++ second))) (sym (places-append (Answers (before ++ first) client) requests more replies others told.answers))
          (InOrder-append (length before) (length (before ++ first)) (length ((before ++ first) ++ second)) (places requests replies) (places more others) (omega arith) (omega arith) told.ordered next.ordered);
      own =
          ap (own_positions client (length before + 1)) seen ∙ own_positions-append client (length before + 1) first second
          ∙ ap₂ (λ xs ys. xs ++ ys)
          (ap (own_positions client (length before + 1)) (sym (drop-append_seam before first)) ∙ told.own)
          (ap (λ n. own_positions client n second) (sym place) ∙ ap (own_positions client (length (before ++ first) + 1)) (sym (drop-append_seam (before ++ first) second)) ∙ next.own)
          ∙ sym (filter_map-append _ replies others);
    }

-- what is told from one view to a second, and from that to a third, is told from the first to the third
pub told-append : (before between after : History) (client : ℕ) (requests more : List Request) (replies others : List Reply) →
    Told before between client requests replies → Told between after client more others → Told before after client (requests ++ more) (replies ++ others)
told-append before between after client requests more replies others told next =
    let first = told.grows in
    let second = next.grows in
    let last : after ≡ (before ++ first.0) ++ second.0 = second.1 ∙ ap (λ view. view ++ second.0) first.1 in
    let earlier = subst (λ view. Told before view client requests replies) first.1 told in
    let later = subst (λ view. Told (before ++ first.0) view client more others) last (subst (λ view. Told view after client more others) first.1 next) in
    subst (λ view. Told before view client (requests ++ more) (replies ++ others)) (sym last)
    (told_onward before first.0 second.0 client requests more replies others earlier later)
