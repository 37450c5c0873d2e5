-- What one client alone is told decides its replies: they are those of the fold over its lines.
use Rattle.std.proofs.Common.{◌≡◌, ℕ, suc, ◌+◌, ◌-◌, ◌<◌, ◌≤◌, ◌⊎◌, inl, inr, List, [], ◌∷◌, ◌++◌, length, get_or, take, map, Bool, true, false, Some, None, Result, Ok, Err, refl, sym, ap, ap₂, ◌∙◌, subst, arith, append_assoc, append-nil, length-append}
use Rattle.std.specs.Prelude.{⊤, slice_get, if◌then◌else◌, ◌||◌}
use Rattle.std.specs.List.{AllZip, list_any}
use Rattle.std.proofs.lemmas.Bool.{eq-eqb}
use Rattle.std.proofs.lemmas.List.{take-append-le}
use Rattle.std.proofs.Math.Seq.{take-append_seam}
use Rattle.semantics.specs.Histories.{Write, Entry, History}
use Rattle.semantics.specs.Verdicts.{Cause, verdict}
use Rattle.semantics.specs.Texts.{Text, Range}
use Rattle.semantics.specs.States.{state}
use Rattle.semantics.specs.Answers.{Read, Answer, scan, answer}
use Rattle.growing_history.specs.StateChanges.{Change, changes_between, changes}
use Rattle.protocol.specs.Requests.{Request, write, read, earlier, quit, Earlier, scan_at, changes_since, feed_from, LineFault, request_of}
use Rattle.protocol.specs.Replies.{Reply, done, answered, refused, gone, ahead, changed, fed, unread, long, memory, bye}
use Rattle.protocol.specs.Feeds.{run}
use Rattle.protocol.specs.Earlier.{reach_back, asked_position, earlier_reply}
use Rattle.protocol.specs.Told.{IsWithinReach, answer_position, Answers, Place, own_entry, after_entries, reaching, anywhere, place_of, places, InOrder, done_positions, own_positions}
use Rattle.protocol.specs.Own.{AreOwn}
use Rattle.protocol.specs.Transcript.{Reading, Step, write_step, step_of, memory_step, line_step, onto_replies, after_step, outcome_from}
use Rattle.protocol.specs.Session.{AnswersLine, told_pairs, is_bye}
use Rattle.protocol.proofs.WrittenLines.{is_memory}
use Rattle.protocol.proofs.EarlierLemmas.{earlier_reply-within, earlier_reply-gone, earlier_reply-ahead}
use Rattle.protocol.proofs.Telling.{run-append}

-- every form of a request is read, whatever the history is
abbrev pub every_form : Reading
every_form h line = request_of line

-- no reply but the last is `bye`
abbrev pub ByeLast : List Reply → Type 0
ByeLast [] = ⊤
ByeLast (reply ∷ []) = ⊤
ByeLast (reply ∷ other ∷ replies) = (is_bye reply ≡ false) × ByeLast (other ∷ replies)

-- the lines that are starved, counted from a number, are those whose reply is `memory`
abbrev pub SkipsFrom : (ℕ → Bool) → ℕ → List Reply → Type 0
SkipsFrom starved number replies = (i : ℕ) → i < length replies → starved (number + i) ≡ is_memory (get_or replies i bye)

-- the places of replies beside their requests
abbrev pub pair_places : List (Request × Reply) → List Place
pair_places pairs = places (map (λ p. p.0) pairs) (map (λ p. p.1) pairs)

-- what is told from a history on, where the entries after it make the view
pub record GoesOn (view h rest : History) (starved : ℕ → Bool) (number : ℕ) (lines : List Text) (replies : List Reply) (pairs : List (Request × Reply)) : Type 0 where
  pub whole : view ≡ h ++ rest
  pub own : AreOwn rest
  pub each : AllZip (λ line reply. AnswersLine (request_of line) reply) lines replies
  pub answers : AllZip (Answers view 0) (map (λ p. p.0) pairs) (map (λ p. p.1) pairs)
  pub ordered : InOrder (length h) (length view) (pair_places pairs)
  pub positions : own_positions 0 (length h + 1) rest ≡ done_positions (map (λ p. p.1) pairs)
  pub skips : SkipsFrom starved number replies
  pub last : ByeLast replies

-- ---- positions

-- the position of an own entry is the first of the own positions
own_first : (n : ℕ) (e : Entry) (rest : History) → e.client ≡ 0 → own_positions 0 n (e ∷ rest) ≡ n ∷ own_positions 0 (n + 1) rest
own_first n e rest is = rw (eq-eqb e.client 0 is)

-- without own positions there is no entry
none_left : (n : ℕ) (rest : History) → AreOwn rest → own_positions 0 n rest ≡ [] → rest ≡ []
none_left n [] own none = refl
none_left n (e ∷ rest) own none = let first = own_first n e rest own.0 in absurd (cc)

-- behind the first place the numbers are in order above one that is not below the lower bound
above_first : (low high : ℕ) (place : Place) (more : List Place) → InOrder low high (place ∷ more) → (n : ℕ) × (low ≤ n) × InOrder n high more
above_first low high (own_entry n) more h = (n, omega (arith, h.0), h.2)
above_first low high (after_entries n) more h = (n, h.0, h.2)
above_first low high (reaching p) more h = (h.0, h.1, h.4)
above_first low high anywhere more h = (low, omega arith, h)

-- the first entered write stands above the lower bound
first_above : (low high m : ℕ) (pairs : List (Request × Reply)) (ms : List ℕ) → InOrder low high (pair_places pairs) → done_positions (map (λ p. p.1) pairs) ≡ m ∷ ms → low < m
first_above low high m [] ms ordered first = absurd (cc)
first_above low high m ((request, done n) ∷ pairs) ms ordered first = let same : n ≡ m = cc in omega (arith, ordered.0)
first_above low high m ((request, answered a) ∷ pairs) ms ordered first =
    let next = above_first low high (place_of request (answered a)) (pair_places pairs) ordered in
    let above = first_above next.0 high m pairs ms next.2 first in omega (arith, next.1)
first_above low high m ((request, refused n cause) ∷ pairs) ms ordered first = let above = first_above n high m pairs ms ordered.2 first in omega (arith, ordered.0)
first_above low high m ((request, gone n) ∷ pairs) ms ordered first = let above = first_above n high m pairs ms ordered.2 first in omega (arith, ordered.0)
first_above low high m ((request, ahead n) ∷ pairs) ms ordered first = let above = first_above n high m pairs ms ordered.2 first in omega (arith, ordered.0)
first_above low high m ((request, changed start n listed) ∷ pairs) ms ordered first = let above = first_above n high m pairs ms ordered.2 first in omega (arith, ordered.0)
first_above low high m ((request, fed start n listed) ∷ pairs) ms ordered first = let above = first_above n high m pairs ms ordered.2 first in omega (arith, ordered.0)
first_above low high m ((request, unread fault) ∷ pairs) ms ordered first = first_above low high m pairs ms ordered first
first_above low high m ((request, long) ∷ pairs) ms ordered first = first_above low high m pairs ms ordered first
first_above low high m ((request, memory) ∷ pairs) ms ordered first = first_above low high m pairs ms ordered first
first_above low high m ((request, bye) ∷ pairs) ms ordered first = first_above low high m pairs ms ordered first

-- a position between an entered write and the next is that of the first
position_is : (view h rest : History) (n : ℕ) (others : List (Request × Reply)) → view ≡ h ++ rest → AreOwn rest → length h ≤ n → n ≤ length view →
    InOrder n (length view) (pair_places others) → own_positions 0 (length h + 1) rest ≡ done_positions (map (λ p. p.1) others) → n ≡ length h
position_is view h [] n others whole own low high ordered positions =
    let size : length view ≡ length h = ap length (whole ∙ append-nil h) in omega arith
position_is view h (e ∷ rest) n others whole own low high ordered positions =
    let above = first_above n (length view) (length h + 1) others _ ordered (sym positions ∙ own_first (length h + 1) e rest own.0) in omega arith

-- the history so far is a prefix of the view
prefix_is : (view h rest : History) → view ≡ h ++ rest → take (length h) view ≡ h
prefix_is view h rest whole = ap (take (length h)) whole ∙ take-append_seam h rest

-- the next entry stands behind the history so far
next_is : (h : History) (e : Entry) (rest : History) → slice_get (h ++ e ∷ rest) (length h) ≡ Some e
next_is [] e rest = refl
next_is (f ∷ h) e rest = next_is h e rest

-- ---- steps

-- the rest of the replies, but the last, is without `bye` too
last_later : (reply : Reply) (replies : List Reply) → ByeLast (reply ∷ replies) → ByeLast replies
last_later reply [] last = tt
last_later reply (other ∷ replies) last = last.1

-- the rest of the lines is starved by its own replies
skips_later : (starved : ℕ → Bool) (number : ℕ) (reply : Reply) (replies : List Reply) → SkipsFrom starved number (reply ∷ replies) → SkipsFrom starved (number + 1) replies
skips_later starved number reply replies skips i below =
    let place : (number + 1) + i ≡ number + suc i = omega arith in
    ap starved place ∙ skips (suc i) (omega arith)

-- the first line is starved where its reply is `memory`
skips_first : (starved : ℕ → Bool) (number : ℕ) (reply : Reply) (replies : List Reply) → SkipsFrom starved number (reply ∷ replies) → starved number ≡ is_memory reply
skips_first starved number reply replies skips =
    let place : number ≡ number + 0 = omega arith in
    ap starved place ∙ skips 0 (omega arith)

-- the step of a line that finds no memory
step_skipped : (starved : ℕ → Bool) (number : ℕ) (h : History) (line : Text) → starved number ≡ true → line_step every_form starved number h line ≡ memory_step h
step_skipped starved number h line e = ap (λ (skip : Bool). if skip then memory_step h else step_of (request_of line) h) e

-- the step of a line that is read
step_read : (starved : ℕ → Bool) (number : ℕ) (h : History) (line : Text) (found : Result Request LineFault) → starved number ≡ false → request_of line ≡ found →
    line_step every_form starved number h line ≡ step_of found h
step_read starved number h line found e is =
    ap (λ (skip : Bool). if skip then memory_step h else step_of (request_of line) h) e ∙ ap (λ (f : Result Request LineFault). step_of f h) is

-- a step that goes on, and the outcome of the lines after it
went_on : (starved : ℕ → Bool) (number : ℕ) (h after view : History) (line : Text) (lines : List Text) (reply : Reply) (replies : List Reply) (over : Bool) →
    line_step every_form starved number h line ≡ record { reply = reply; history = after; over = false } →
    outcome_from every_form starved (number + 1) after lines ≡ record { replies = replies; history = view; over = over } →
    outcome_from every_form starved number h (line ∷ lines) ≡ record { replies = reply ∷ replies; history = view; over = over }
went_on starved number h after view line lines reply replies over step rest =
    ap (λ (s : Step). after_step s.reply s.history s.over (λ last. outcome_from every_form starved (number + 1) last lines)) step ∙ ap (onto_replies reply) rest

-- what is to be shown of lines and their replies
abbrev pub Decides : History → List Text → List Reply → Type 0
Decides view lines replies =
    (starved : ℕ → Bool) (number : ℕ) (h rest : History) → GoesOn view h rest starved number lines replies (told_pairs lines replies) →
    outcome_from every_form starved number h lines ≡ record { replies = replies; history = view; over = list_any is_bye replies }

-- the entries after the history so far are none, where no write enters any more
view_is : (view h rest : History) → view ≡ h ++ rest → AreOwn rest → own_positions 0 (length h + 1) rest ≡ [] → h ≡ view
view_is view h rest whole own none = sym (whole ∙ ap (λ more. h ++ more) (none_left (length h + 1) rest own none) ∙ append-nil h)

-- a line that ends the session is the last
bye_first : (view h rest : History) (starved : ℕ → Bool) (number : ℕ) (line : Text) (lines : List Text) (replies : List Reply) → request_of line ≡ Ok quit →
    GoesOn view h rest starved number (line ∷ lines) (bye ∷ replies) (told_pairs lines replies) →
    outcome_from every_form starved number h (line ∷ lines) ≡ record { replies = bye ∷ replies; history = view; over = true }
bye_first view h rest starved number line [] [] is g =
    ap (λ (s : Step). after_step s.reply s.history s.over (λ last. outcome_from every_form starved (number + 1) last []))
    (step_read starved number h line (Ok quit) (skips_first starved number bye [] g.skips) is)
    ∙ ap (λ last. record { replies = bye ∷ []; history = last; over = true }) (view_is view h rest g.whole g.own g.positions)
bye_first view h rest starved number line (other ∷ lines) [] is g = absurd g.each.1
bye_first view h rest starved number line lines (other ∷ replies) is g = let no : true ≡ false = g.last.0 in absurd (cc)

module _ (view : History) (line : Text) (lines : List Text) (replies : List Reply) (later : Decides view lines replies) (starved : ℕ → Bool) (number : ℕ) where
  -- what is told of the first of some lines and of those after it
  abbrev First : History → History → Reply → List (Request × Reply) → Type 0
  First h rest reply pairs = GoesOn view h rest starved number (line ∷ lines) (reply ∷ replies) pairs

  -- what is told of the lines after it
  abbrev told_later : List (Request × Reply)
  told_later = told_pairs lines replies

  -- what is to be shown of them
  abbrev Shown : History → Reply → Type 0
  Shown h reply = outcome_from every_form starved number h (line ∷ lines) ≡ record { replies = reply ∷ replies; history = view; over = list_any is_bye (reply ∷ replies) }

  -- a line that finds no memory
  no_memory_first : (h rest : History) (pairs : List (Request × Reply)) → First h rest memory pairs → GoesOn view h rest starved (number + 1) lines replies (told_pairs lines replies) → Shown h memory
  no_memory_first h rest pairs g next =
      went_on starved number h h view line lines memory replies _ (step_skipped starved number h line (skips_first starved number memory replies g.skips)) (later starved (number + 1) h rest next)

  -- a line of which nothing is told, and those after it
  untold : (h rest : History) (reply : Reply) → First h rest reply (told_pairs lines replies) → GoesOn view h rest starved (number + 1) lines replies (told_pairs lines replies)
  untold h rest reply g = record {
    whole = g.whole;
    own = g.own;
    each = g.each.1;
    answers = g.answers;
    ordered = g.ordered;
    positions = g.positions;
    skips = skips_later starved number reply replies g.skips;
    last = last_later reply replies g.last;
  }

  -- a line that is no request
  unread_first : (h rest : History) (fault : LineFault) → request_of line ≡ Err fault → First h rest (unread fault) (told_pairs lines replies) → Shown h (unread fault)
  unread_first h rest fault is g =
      went_on starved number h h view line lines (unread fault) replies _ (step_read starved number h line (Err fault) (skips_first starved number (unread fault) replies g.skips) is)
      (later starved (number + 1) h rest (untold h rest (unread fault) g))

  -- a write that enters is the next entry
  done_first : (h rest : History) (w : Write) (n : ℕ) → request_of line ≡ Ok (write w) → First h rest (done n) ((write w, done n) ∷ told_pairs lines replies) → Shown h (done n)
  done_first h [] w n is g = let none = g.positions in absurd (cc)
  done_first h (e ∷ rest) w n is g =
      let others : List ℕ = done_positions (map (λ (p : Request × Reply). p.1) told_later) in
      let both : (length h + 1) ∷ own_positions 0 ((length h + 1) + 1) rest ≡ n ∷ others = sym (own_first (length h + 1) e rest g.own.0) ∙ g.positions in
      let here : length h + 1 ≡ n = cc in
      let rest_positions : own_positions 0 ((length h + 1) + 1) rest ≡ others = cc in
      let place : n - 1 ≡ length h = omega arith in
      let entry : Entry = record { client = 0; write = w } in
      let found : Some e ≡ Some entry =
      sym (next_is h e rest) ∙ ap (λ v. slice_get v (length h)) (sym g.whole) ∙ ap (slice_get view) (sym place) ∙ g.answers.0.0 in
      let same : e ≡ entry = cc in
      let entered : verdict w h ≡ None = sym (ap (verdict w) (ap (λ m. take m view) place ∙ prefix_is view h (e ∷ rest) g.whole)) ∙ g.answers.0.1 in
      let size : n ≡ length (h ++ e ∷ []) = omega (arith, length-append h (e ∷ [])) in
      let next_size : length (h ++ e ∷ []) + 1 ≡ (length h + 1) + 1 = omega (arith, length-append h (e ∷ [])) in
      went_on starved number h (h ++ e ∷ []) view line lines (done n) replies _
      (step_read starved number h line (Ok (write w)) (skips_first starved number (done n) replies g.skips) is ∙ ap (write_step w h) entered
      ∙ ap₂ (λ m (f : Entry). record { reply = done m; history = h ++ f ∷ []; over = false }) here (sym same))
      (later starved (number + 1) (h ++ e ∷ []) rest (record {
        whole = g.whole ∙ sym (append_assoc h (e ∷ []) rest);
        own = g.own.1;
        each = g.each.1;
        answers = g.answers.1;
        ordered = subst (λ m. InOrder m (length view) (pair_places told_later)) size g.ordered.2;
        positions = ap (λ m. own_positions 0 m rest) next_size ∙ rest_positions;
        skips = skips_later starved number (done n) replies g.skips;
        last = last_later (done n) replies g.last;
      }))

  -- a write that is refused
  refused_first : (h rest : History) (w : Write) (n : ℕ) (cause : Cause) → request_of line ≡ Ok (write w) →
      First h rest (refused n cause) ((write w, refused n cause) ∷ told_pairs lines replies) → Shown h (refused n cause)
  refused_first h rest w n cause is g =
      let here : n ≡ length h = position_is view h rest n told_later g.whole g.own g.ordered.0 g.ordered.1 g.ordered.2 g.positions in
      let against : verdict w h ≡ Some cause = sym (ap (verdict w) (ap (λ m. take m view) here ∙ prefix_is view h rest g.whole)) ∙ g.answers.0 in
      went_on starved number h h view line lines (refused n cause) replies _
      (step_read starved number h line (Ok (write w)) (skips_first starved number (refused n cause) replies g.skips) is ∙ ap (write_step w h) against
      ∙ ap (λ m. record { reply = refused m cause; history = h; over = false }) (sym here))
      (later starved (number + 1) h rest (record {
        whole = g.whole;
        own = g.own;
        each = g.each.1;
        answers = g.answers.1;
        ordered = subst (λ m. InOrder m (length view) (pair_places told_later)) here g.ordered.2;
        positions = g.positions;
        skips = skips_later starved number (refused n cause) replies g.skips;
        last = last_later (refused n cause) replies g.last;
      }))

  -- a read that is answered
  answered_first : (h rest : History) (r : Read) (a : Answer) → request_of line ≡ Ok (read r) → First h rest (answered a) ((read r, answered a) ∷ told_pairs lines replies) → Shown h (answered a)
  answered_first h rest r a is g =
      let here : answer_position a ≡ length h = position_is view h rest (answer_position a) told_later g.whole g.own g.ordered.0 g.ordered.1 g.ordered.2 g.positions in
      let same : a ≡ answer r h = g.answers.0 ∙ ap (answer r) (ap (λ m. take m view) here ∙ prefix_is view h rest g.whole) in
      went_on starved number h h view line lines (answered a) replies _
      (step_read starved number h line (Ok (read r)) (skips_first starved number (answered a) replies g.skips) is
      ∙ ap (λ b. record { reply = answered b; history = h; over = false }) (sym same))
      (later starved (number + 1) h rest (record {
        whole = g.whole;
        own = g.own;
        each = g.each.1;
        answers = g.answers.1;
        ordered = subst (λ m. InOrder m (length view) (pair_places told_later)) here g.ordered.2;
        positions = g.positions;
        skips = skips_later starved number (answered a) replies g.skips;
        last = last_later (answered a) replies g.last;
      }))

  -- a line whose request found no memory, and those after it
  unanswered : (h rest : History) (request : Request) → First h rest memory ((request, memory) ∷ told_pairs lines replies) →
      GoesOn view h rest starved (number + 1) lines replies (told_pairs lines replies)
  unanswered h rest request g = record {
    whole = g.whole;
    own = g.own;
    each = g.each.1;
    answers = g.answers.1;
    ordered = g.ordered;
    positions = g.positions;
    skips = skips_later starved number memory replies g.skips;
    last = last_later memory replies g.last;
  }

  -- a line that writes
  write_first : (h rest : History) (w : Write) (reply : Reply) → request_of line ≡ Ok (write w) → First h rest reply ((write w, reply) ∷ told_pairs lines replies) → Shown h reply
  write_first h rest w (done n) is g = done_first h rest w n is g
  write_first h rest w (answered a) is g = absurd g.answers.0
  write_first h rest w (refused n cause) is g = refused_first h rest w n cause is g
  write_first h rest w (gone n) is g = absurd g.answers.0
  write_first h rest w (ahead n) is g = absurd g.answers.0
  write_first h rest w (changed start n listed) is g = absurd g.answers.0
  write_first h rest w (fed start n listed) is g = absurd g.answers.0
  write_first h rest w (unread fault) is g = absurd g.answers.0
  write_first h rest w long is g = absurd g.answers.0
  write_first h rest w memory is g = no_memory_first h rest _ g (unanswered h rest (write w) g)
  write_first h rest w bye is g = absurd g.answers.0

  -- a line that reads
  read_first : (h rest : History) (r : Read) (reply : Reply) → request_of line ≡ Ok (read r) → First h rest reply ((read r, reply) ∷ told_pairs lines replies) → Shown h reply
  read_first h rest r (done n) is g = absurd g.answers.0
  read_first h rest r (answered a) is g = answered_first h rest r a is g
  read_first h rest r (refused n cause) is g = absurd g.answers.0
  read_first h rest r (gone n) is g = absurd g.answers.0
  read_first h rest r (ahead n) is g = absurd g.answers.0
  read_first h rest r (changed start n listed) is g = absurd g.answers.0
  read_first h rest r (fed start n listed) is g = absurd g.answers.0
  read_first h rest r (unread fault) is g = absurd g.answers.0
  read_first h rest r long is g = absurd g.answers.0
  read_first h rest r memory is g = no_memory_first h rest _ g (unanswered h rest (read r) g)
  read_first h rest r bye is g = absurd g.answers.0

  -- a question about an earlier position, where the reply is what it is after the history so far
  earlier_goes_on : (h rest : History) (e : Earlier) (reply : Reply) → request_of line ≡ Ok (earlier e) → First h rest reply ((earlier e, reply) ∷ told_pairs lines replies) →
      is_memory reply ≡ false → is_bye reply ≡ false → earlier_reply e h ≡ reply → InOrder (length h) (length view) (pair_places told_later) →
      done_positions (map (λ p. p.1) ((earlier e, reply) ∷ told_later)) ≡ done_positions (map (λ p. p.1) told_later) → Shown h reply
  earlier_goes_on h rest e reply is g found lasts same ordered positions =
      went_on starved number h h view line lines reply replies _
      (step_read starved number h line (Ok (earlier e)) (skips_first starved number reply replies g.skips ∙ found) is ∙ ap (λ r. record { reply = r; history = h; over = false }) same)
      (later starved (number + 1) h rest (record {
        whole = g.whole;
        own = g.own;
        each = g.each.1;
        answers = g.answers.1;
        ordered = ordered;
        positions = g.positions ∙ positions;
        skips = skips_later starved number reply replies g.skips;
        last = last_later reply replies g.last;
      }))
      ∙ ap (λ (b : Bool). record { replies = reply ∷ replies; history = view; over = b || list_any is_bye replies }) (sym lasts)

  -- one whose position lies too far back
  gone_first : (h rest : History) (e : Earlier) (n : ℕ) → request_of line ≡ Ok (earlier e) → First h rest (gone n) ((earlier e, gone n) ∷ told_pairs lines replies) → Shown h (gone n)
  gone_first h rest e n is g =
      let here : n ≡ length h = position_is view h rest n told_later g.whole g.own g.ordered.0 g.ordered.1 g.ordered.2 g.positions in
      let far : asked_position e + reach_back < length h = omega (arith, g.answers.0) in
      earlier_goes_on h rest e (gone n) is g refl refl (earlier_reply-gone e h far ∙ ap gone (sym here)) (subst (λ m. InOrder m (length view) (pair_places told_later)) here g.ordered.2) refl

  -- one whose position lies ahead
  ahead_first : (h rest : History) (e : Earlier) (n : ℕ) → request_of line ≡ Ok (earlier e) → First h rest (ahead n) ((earlier e, ahead n) ∷ told_pairs lines replies) → Shown h (ahead n)
  ahead_first h rest e n is g =
      let here : n ≡ length h = position_is view h rest n told_later g.whole g.own g.ordered.0 g.ordered.1 g.ordered.2 g.positions in
      let past : length h < asked_position e = omega (arith, g.answers.0) in
      earlier_goes_on h rest e (ahead n) is g refl refl (earlier_reply-ahead e h past ∙ ap ahead (sym here)) (subst (λ m. InOrder m (length view) (pair_places told_later)) here g.ordered.2) refl

  -- a prefix of the history so far is one of the view
  shorter_prefix : (h rest : History) (n : ℕ) → view ≡ h ++ rest → n ≤ length h → take n view ≡ take n h
  shorter_prefix h rest n whole short = ap (take n) whole ∙ take-append-le n h rest short

  -- the pairs at an earlier position
  scan_at_first : (h rest : History) (e : Earlier) (a : Answer) → request_of line ≡ Ok (earlier e) → First h rest (answered a) ((earlier e, answered a) ∷ told_pairs lines replies) → Shown h (answered a)
  scan_at_first h rest (scan_at range p) a is g =
      let n : ℕ = g.ordered.0 in
      let here : n ≡ length h = position_is view h rest n told_later g.whole g.own g.ordered.1 g.ordered.2 g.ordered.4 g.positions in
      let within : IsWithinReach (length h) p = subst (λ m. IsWithinReach m p) here g.ordered.3 in
      earlier_goes_on h rest (scan_at range p) (answered a) is g refl refl
      (earlier_reply-within (scan_at range p) h within
      ∙ ap (λ prefix. answered (answer (scan range) prefix)) (sym (shorter_prefix h rest p g.whole within.not_ahead)) ∙ ap answered (sym g.answers.0))
      (subst (λ m. InOrder m (length view) (pair_places told_later)) here g.ordered.4) refl
  scan_at_first h rest (changes_since range from) a is g = absurd g.answers.0
  scan_at_first h rest (feed_from from) a is g = absurd g.answers.0

  -- what changed since a position up to another is told by the history so far
  changes_so_far : (h rest : History) (range : Range) (q : ℕ) → view ≡ h ++ rest → q ≤ length h → changes range h q (length h) ≡ changes range view q (length h)
  unfolding changes
  changes_so_far h rest range q whole order =
      ap₂ (λ before after. changes_between range (state before) (state after)) (sym (shorter_prefix h rest q whole order))
      (sym (shorter_prefix h rest (length h) whole (omega arith)))

  -- what changed since an earlier position
  changes_since_first : (h rest : History) (e : Earlier) (start n : ℕ) (listed : List Change) → request_of line ≡ Ok (earlier e) →
      First h rest (changed start n listed) ((earlier e, changed start n listed) ∷ told_pairs lines replies) → Shown h (changed start n listed)
  changes_since_first h rest (scan_at range p) start n listed is g = absurd g.answers.0
  changes_since_first h rest (changes_since range from) start n listed is g =
      let here : n ≡ length h = position_is view h rest n told_later g.whole g.own g.ordered.0 g.ordered.1 g.ordered.2 g.positions in
      let within : IsWithinReach (length h) from = subst (λ m. IsWithinReach m from) here g.answers.0.1 in
      let same : changes range h from (length h) ≡ listed =
      changes_so_far h rest range from g.whole within.not_ahead ∙ ap (changes range view from) (sym here) ∙ sym g.answers.0.2 in
      earlier_goes_on h rest (changes_since range from) (changed start n listed) is g refl refl
      (earlier_reply-within (changes_since range from) h within ∙ ap (changed from (length h)) same
      ∙ ap₂ (λ first last. changed first last listed) (sym g.answers.0.0) (sym here))
      (subst (λ m. InOrder m (length view) (pair_places told_later)) here g.ordered.2) refl
  changes_since_first h rest (feed_from from) start n listed is g = absurd g.answers.0

  -- the first entries after a position up to another are told by the history so far
  run_so_far : (h rest : History) (q : ℕ) → view ≡ h ++ rest → q ≤ length h → run h q (length h) ≡ run view q (length h)
  run_so_far h rest q whole order = run-append h rest q (length h) order (omega arith) ∙ ap (λ v. run v q (length h)) (sym whole)

  -- the first entries after an earlier position
  feed_from_first : (h rest : History) (e : Earlier) (start n : ℕ) (listed : History) → request_of line ≡ Ok (earlier e) →
      First h rest (fed start n listed) ((earlier e, fed start n listed) ∷ told_pairs lines replies) → Shown h (fed start n listed)
  feed_from_first h rest (scan_at range p) start n listed is g = absurd g.answers.0
  feed_from_first h rest (changes_since range from) start n listed is g = absurd g.answers.0
  feed_from_first h rest (feed_from from) start n listed is g =
      let here : n ≡ length h = position_is view h rest n told_later g.whole g.own g.ordered.0 g.ordered.1 g.ordered.2 g.positions in
      let within : IsWithinReach (length h) from = subst (λ m. IsWithinReach m from) here g.answers.0.1 in
      let same : run h from (length h) ≡ listed =
      run_so_far h rest from g.whole within.not_ahead ∙ ap (run view from) (sym here) ∙ sym g.answers.0.2 in
      earlier_goes_on h rest (feed_from from) (fed start n listed) is g refl refl
      (earlier_reply-within (feed_from from) h within ∙ ap (fed from (length h)) same
      ∙ ap₂ (λ first last. fed first last listed) (sym g.answers.0.0) (sym here))
      (subst (λ m. InOrder m (length view) (pair_places told_later)) here g.ordered.2) refl

  -- a line that asks about an earlier position
  earlier_first : (h rest : History) (e : Earlier) (reply : Reply) → request_of line ≡ Ok (earlier e) → First h rest reply ((earlier e, reply) ∷ told_pairs lines replies) → Shown h reply
  earlier_first h rest e (done n) is g = absurd g.answers.0
  earlier_first h rest e (answered a) is g = scan_at_first h rest e a is g
  earlier_first h rest e (refused n cause) is g = absurd g.answers.0
  earlier_first h rest e (gone n) is g = gone_first h rest e n is g
  earlier_first h rest e (ahead n) is g = ahead_first h rest e n is g
  earlier_first h rest e (changed start n listed) is g = changes_since_first h rest e start n listed is g
  earlier_first h rest e (fed start n listed) is g = feed_from_first h rest e start n listed is g
  earlier_first h rest e (unread fault) is g = absurd g.answers.0
  earlier_first h rest e long is g = absurd g.answers.0
  earlier_first h rest e memory is g = no_memory_first h rest _ g (unanswered h rest (earlier e) g)
  earlier_first h rest e bye is g = absurd g.answers.0

  -- a line that is no request, by what may answer it
  fault_first : (h rest : History) (fault : LineFault) (reply : Reply) → request_of line ≡ Err fault → First h rest reply (told_pairs lines replies) → (reply ≡ unread fault) ⊎ (reply ≡ memory) → Shown h reply
  fault_first h rest fault reply is g (inl same) =
      subst (Shown h) (sym same) (unread_first h rest fault is (subst (λ r. First h rest r (told_pairs lines replies)) same g))
  fault_first h rest fault reply is g (inr same) =
      let h_g = subst (λ r. First h rest r (told_pairs lines replies)) same g in subst (Shown h) (sym same) (no_memory_first h rest _ h_g (untold h rest memory h_g))

  -- a line that ends the session, by what may answer it
  quit_first : (h rest : History) (reply : Reply) → request_of line ≡ Ok quit → First h rest reply (told_pairs lines replies) → (reply ≡ bye) ⊎ (reply ≡ memory) → Shown h reply
  quit_first h rest reply is g (inl same) =
      subst (Shown h) (sym same) (bye_first view h rest starved number line lines replies is (subst (λ r. First h rest r (told_pairs lines replies)) same g))
  quit_first h rest reply is g (inr same) =
      let h_g = subst (λ r. First h rest r (told_pairs lines replies)) same g in subst (Shown h) (sym same) (no_memory_first h rest _ h_g (untold h rest memory h_g))

  -- what is told of some lines, by what the first is read as
  fault_pairs : (fault : LineFault) (reply : Reply) → request_of line ≡ Err fault → told_pairs (line ∷ lines) (reply ∷ replies) ≡ told_pairs lines replies
  fault_pairs fault reply is = rw is

  write_pairs : (w : Write) (reply : Reply) → request_of line ≡ Ok (write w) → told_pairs (line ∷ lines) (reply ∷ replies) ≡ (write w, reply) ∷ told_pairs lines replies
  write_pairs w reply is = rw is

  read_pairs : (r : Read) (reply : Reply) → request_of line ≡ Ok (read r) → told_pairs (line ∷ lines) (reply ∷ replies) ≡ (read r, reply) ∷ told_pairs lines replies
  read_pairs r reply is = rw is

  earlier_pairs : (e : Earlier) (reply : Reply) → request_of line ≡ Ok (earlier e) → told_pairs (line ∷ lines) (reply ∷ replies) ≡ (earlier e, reply) ∷ told_pairs lines replies
  earlier_pairs e reply is = rw is

  quit_pairs : (reply : Reply) → request_of line ≡ Ok quit → told_pairs (line ∷ lines) (reply ∷ replies) ≡ told_pairs lines replies
  quit_pairs reply is = rw is

  -- the first of some lines, by what it is read as
  first_by : (h rest : History) (reply : Reply) (found : Result Request LineFault) → request_of line ≡ found → First h rest reply (told_pairs (line ∷ lines) (reply ∷ replies)) → Shown h reply
  first_by h rest reply (Err fault) is g = fault_first h rest fault reply is (subst (First h rest reply) (fault_pairs fault reply is) g) (subst (λ f. AnswersLine f reply) is g.each.0)
  first_by h rest reply (Ok (write w)) is g = write_first h rest w reply is (subst (First h rest reply) (write_pairs w reply is) g)
  first_by h rest reply (Ok (read r)) is g = read_first h rest r reply is (subst (First h rest reply) (read_pairs r reply is) g)
  first_by h rest reply (Ok (earlier e)) is g = earlier_first h rest e reply is (subst (First h rest reply) (earlier_pairs e reply is) g)
  first_by h rest reply (Ok quit) is g = quit_first h rest reply is (subst (First h rest reply) (quit_pairs reply is) g) (subst (λ f. AnswersLine f reply) is g.each.0)

-- what one client alone is told decides the outcome of its lines
pub alone_outcome : (view : History) (lines : List Text) (replies : List Reply) → Decides view lines replies
alone_outcome view [] [] starved number h rest g = ap (λ last. record { replies = []; history = last; over = false }) (view_is view h rest g.whole g.own g.positions)
alone_outcome view [] (reply ∷ replies) starved number h rest g = absurd g.each
alone_outcome view (line ∷ lines) [] starved number h rest g = absurd g.each
alone_outcome view (line ∷ lines) (reply ∷ replies) starved number h rest g =
    first_by view line lines replies (alone_outcome view lines replies) starved number h rest reply (request_of line) refl g
