-- What a client is told: how replies stand to the history that it has seen before and after.
use Rattle.std.specs.Prelude.{◌≡◌, ℕ, ◌+◌, ◌-◌, ◌<◌, ◌≤◌, ◌==◌, List, [], ◌∷◌, length, take, drop, filter, filter_map, map, slice_get, Option, Some, None, ⊤}
use Rattle.std.specs.List.{AllZip, enumerate_from}
use Rattle.semantics.specs.Histories.{History, IsPrefix}
use Rattle.semantics.specs.Verdicts.{verdict}
use Rattle.semantics.specs.Answers.{Answer, found, absent, pairs, scan, answer}
use Rattle.growing_history.specs.StateChanges.{Change, changes}
use Rattle.protocol.specs.Requests.{Request, write, read, earlier, quit, Earlier, scan_at, changes_since, feed_from}
use Rattle.protocol.specs.Replies.{Reply, done, answered, refused, gone, ahead, changed, fed, unread, long, memory, bye}
use Rattle.protocol.specs.Feeds.{run}
use Rattle.protocol.specs.Earlier.{reach_back, asked_position}

-- the position of an answer is its first number
abbrev pub answer_position : Answer → ℕ
answer_position (found n v) = n
answer_position (absent n) = n
answer_position (pairs n table) = n

-- ---- what a reply says of the view

-- after n entries a position lies within reach: it is not ahead, and not too far back
pub record IsWithinReach (n at : ℕ) : Type 0 where
  pub not_ahead : at ≤ n
  pub not_gone : n ≤ at + reach_back

-- the answer is the pairs of the range at the position that the question names
abbrev pub AnswersScanAt : History → Earlier → Answer → Type 0
AnswersScanAt view (scan_at range at) a = a ≡ answer (scan range) (take at view)
AnswersScanAt view (changes_since range from) a = ⊥
AnswersScanAt view (feed_from from) a = ⊥

-- these changed from the position that the question names, which lies within reach, to another
abbrev pub AnswersChangesSince : History → Earlier → ℕ → ℕ → List Change → Type 0
AnswersChangesSince view (scan_at range at) start n listed = ⊥
AnswersChangesSince view (changes_since range from) start n listed = (start ≡ from) × IsWithinReach n from × (listed ≡ changes range view from n)
AnswersChangesSince view (feed_from from) start n listed = ⊥

-- these are the first entries after the position that the question names, which lies within reach, up to another
abbrev pub AnswersFeedFrom : History → Earlier → ℕ → ℕ → History → Type 0
AnswersFeedFrom view (scan_at range at) start n listed = ⊥
AnswersFeedFrom view (changes_since range from) start n listed = ⊥
AnswersFeedFrom view (feed_from from) start n listed = (start ≡ from) × IsWithinReach n from × (listed ≡ run view from n)

-- the reply answers the question about an earlier position over the view
abbrev pub AnswersEarlier : History → Earlier → Reply → Type 0
AnswersEarlier view e (done n) = ⊥
AnswersEarlier view e (answered a) = AnswersScanAt view e a
AnswersEarlier view e (refused n cause) = ⊥
AnswersEarlier view e (gone n) = asked_position e + reach_back < n
AnswersEarlier view e (ahead n) = n < asked_position e
AnswersEarlier view e (changed start n listed) = AnswersChangesSince view e start n listed
AnswersEarlier view e (fed start n listed) = AnswersFeedFrom view e start n listed
AnswersEarlier view e (unread fault) = ⊥
AnswersEarlier view e long = ⊥
AnswersEarlier view e memory = ⊤
AnswersEarlier view e bye = ⊥

-- the reply answers the request over the view: an entered write stands at its position, a refused one has that verdict there, a read has the answer of that prefix, a question about an earlier position what it asks for; `memory` answers all of them. `quit` is no part of what is told
abbrev pub Answers : History → ℕ → Request → Reply → Type 0
Answers view client (write w) (done n) = (slice_get view (n - 1) ≡ Some (record { client = client; write = w })) × (verdict w (take (n - 1) view) ≡ None)
Answers view client (write w) (answered a) = ⊥
Answers view client (write w) (refused n cause) = verdict w (take n view) ≡ Some cause
Answers view client (write w) (gone n) = ⊥
Answers view client (write w) (ahead n) = ⊥
Answers view client (write w) (changed start n listed) = ⊥
Answers view client (write w) (fed start n listed) = ⊥
Answers view client (write w) (unread fault) = ⊥
Answers view client (write w) long = ⊥
Answers view client (write w) memory = ⊤
Answers view client (write w) bye = ⊥
Answers view client (read r) (done n) = ⊥
Answers view client (read r) (answered a) = a ≡ answer r (take (answer_position a) view)
Answers view client (read r) (refused n cause) = ⊥
Answers view client (read r) (gone n) = ⊥
Answers view client (read r) (ahead n) = ⊥
Answers view client (read r) (changed start n listed) = ⊥
Answers view client (read r) (fed start n listed) = ⊥
Answers view client (read r) (unread fault) = ⊥
Answers view client (read r) long = ⊥
Answers view client (read r) memory = ⊤
Answers view client (read r) bye = ⊥
Answers view client (earlier e) reply = AnswersEarlier view e reply
Answers view client quit reply = ⊥

-- ---- where a reply stands in the order of replies

-- after so many entries, of which the last is its own; after so many; after some number from which a position is within reach; or anywhere
pub data Place : Type 0 where
  own_entry : ℕ → Place
  after_entries : ℕ → Place
  reaching : ℕ → Place
  anywhere : Place

-- an answer stands after its position, but that of a question about an earlier position, which the question names: it stands after some number from which that is within reach
abbrev pub answer_place : Request → Answer → Place
answer_place (write w) a = after_entries (answer_position a)
answer_place (read r) a = after_entries (answer_position a)
answer_place (earlier e) a = reaching (asked_position e)
answer_place quit a = after_entries (answer_position a)

-- a reply stands after its first number, that of changes or entries after its second; one without a number stands anywhere
abbrev pub place_of : Request → Reply → Place
place_of request (done n) = own_entry n
place_of request (answered a) = answer_place request a
place_of request (refused n cause) = after_entries n
place_of request (gone n) = after_entries n
place_of request (ahead n) = after_entries n
place_of request (changed start n listed) = after_entries n
place_of request (fed start n listed) = after_entries n
place_of request (unread fault) = anywhere
place_of request long = anywhere
place_of request memory = anywhere
place_of request bye = anywhere

-- the places of replies to requests
abbrev pub places : List Request → List Reply → List Place
places [] replies = []
places (request ∷ requests) [] = []
places (request ∷ requests) (reply ∷ replies) = place_of request reply ∷ places requests replies

-- the numbers do not fall and lie between the two bounds; that of an entered write is greater than every earlier one and than the lower bound
abbrev pub InOrder : ℕ → ℕ → List Place → Type 0
InOrder low high [] = ⊤
InOrder low high (own_entry n ∷ more) = (low < n) × (n ≤ high) × InOrder n high more
InOrder low high (after_entries n ∷ more) = (low ≤ n) × (n ≤ high) × InOrder n high more
InOrder low high (reaching p ∷ more) = (n : ℕ) × (low ≤ n) × (n ≤ high) × IsWithinReach n p × InOrder n high more
InOrder low high (anywhere ∷ more) = InOrder low high more

-- ---- the client's own writes

-- the positions of the entered writes among replies
abbrev done_position : Reply → Option ℕ
done_position (done n) = Some n
done_position (answered a) = None
done_position (refused n cause) = None
done_position (gone n) = None
done_position (ahead n) = None
done_position (changed start n listed) = None
done_position (fed start n listed) = None
done_position (unread fault) = None
done_position long = None
done_position memory = None
done_position bye = None

abbrev pub done_positions : List Reply → List ℕ
done_positions = filter_map done_position

-- the positions of a client's own entries, where the first entry has this position
abbrev pub own_positions : ℕ → ℕ → History → List ℕ
own_positions client position entries = map (λ p. p.0) (filter (λ p. p.1.client == client) (enumerate_from position entries))

-- `Told`: how a client with a number is answered between two views
pub record Told (before after : History) (client : ℕ) (requests : List Request) (replies : List Reply) : Type 0 where
  pub grows : IsPrefix before after
  pub answers : AllZip (Answers after client) requests replies
  pub ordered : InOrder (length before) (length after) (places requests replies)
  pub own : own_positions client (length before + 1) (drop (length before) after) ≡ done_positions replies
