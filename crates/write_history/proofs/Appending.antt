-- What comes of a call under the turn, from what comes of its steps.
use Rattle.std.proofs.Common.{◌≡◌, ℕ, ◌-◌, ◌<◌, ◌≤◌, [], ◌∷◌, ◌++◌, length, drop, take, IfOk, IfErr, OnOk, Some, None, Result, Ok, Err, refl, sym, ap, ◌∙◌, subst, arith}
use Rattle.std.proofs.lemmas.List.{length-append}
use Rattle.atomic_table.specs.Seated.{TableId}
use Rattle.semantics.specs.Histories.{Entry, History, IsPrefix}
use Rattle.write_history.specs.Entries.{IsRecorded, EndsWith, written_by}
use Rattle.growing_history.proofs.PrefixLemmas.{prefix_refl, prefix_trans}
use Rattle.write_history.specs.Stored.{Stored, IsLog}
use Rattle.write_history.specs.Marks.{before, IsLow, MayAsk}
use Rattle.write_history.specs.Seats.{HasOwn}
use Rattle.write_history.specs.declared.known.Mark.{Mark}
use Rattle.write_history.specs.declared.known.Mark.TheVariants.{Plain, Free, Pinned, Noted}
use Rattle.write_history.specs.Passes.{PassView, GoesOn, own}
use Rattle.write_history.specs.Steps.{Sat, HasLog, IsResting, TakesTurn, Agrees, Learns, longer, informed, note_of, held_by}
use Rattle.write_history.specs.Takes.{Enters, Declines, Raises}
use Rattle.write_history.specs.Faults.{SaysWhy}
use Rattle.write_history.specs.declared.known.Known.{Known}
use Rattle.write_history.specs.declared.fault.AppendFault.{AppendFault}
use Rattle.write_history.specs.declared.fault.AppendFault.TheVariants.{Refused, OutOfMemory}
use Rattle.write_history.proofs.Entering.{prefix_more, written_by-append, written_by-own, IsRecorded-push}
use Rattle.write_history.proofs.Marking.{before_under}
use Rattle.write_history.proofs.Lists.{range_of_longer}

-- the pass of a seat, as contracts see it
abbrev pub pass_of : TableId → ℕ → Sat → PassView
pass_of table number m = record { history = record { table = table; kinds = m.0.kinds }; number = number; writers = m.0.kinds.writers; view = m.0.seen; mark = m.0.mark; floor = m.0.floor }

-- who has taken the turn has the log
pub taken_log : (m m' : Sat) (t : TakesTurn m m') → m.1 ≡ [] → HasLog t.history t.log m'
taken_log m m' t empty = record {
  held = ap (λ (x : Sat). x.0.held) t.is;
  carried = ap (λ (x : Sat). x.1) t.is ∙ ap (λ c. (0, t.log) ∷ c) empty;
  is_log = subst (λ f. IsLog t.history f t.log) (sym (ap (λ (x : Sat). x.0.lacks) t.is)) t.is_log;
}

-- whatever comes of an entry, the seat has the log afterwards
pub log_after : (r : Result ℕ AppendFault) (h : History) (log : Stored) (e : Entry) (m m' : Sat) → HasLog h log m
    → IfOk r (λ count. (h : History) (log : Stored) → HasLog h log m → Enters h e count m m')
    → IfErr r (λ fault. (h : History) (log : Stored) → HasLog h log m → Declines h e.write m m' fault)
    → (h' : History) × (log' : Stored) × HasLog h' log' m'
log_after (Ok count) h log e m m' has entered declined =
    let now = entered h log has in (
      h ++ e ∷ [],
      now.log,
      record {
        held = ap (λ (x : Sat). x.0.held) now.is;
        carried = ap (λ (x : Sat). x.1) now.is;
        is_log = subst (λ f. IsLog (h ++ e ∷ []) f now.log) (sym (ap (λ (x : Sat). x.0.lacks) now.is)) now.takes.is_log;
      },
    )
log_after (Err (Refused position cause)) h log e m m' has entered declined = (h, log, subst (HasLog h log) (sym (declined h log has).2) (record { held = has.held; carried = has.carried; is_log = has.is_log }))
log_after (Err (OutOfMemory _)) h log e m m' has entered declined = (h, log, subst (HasLog h log) (sym (declined h log has)) has)

-- what has come of a write
pub record Ended (number : ℕ) (t t' : TableId) (m m' : Sat) (e : Entry) (r : Result ℕ AppendFault) : Type 0 where
  pub resting : IsResting number m'
  pub goes_on : GoesOn (pass_of t number m) (pass_of t' number m')
  pub position : IfOk r (λ p. p ≡ length m'.0.seen)
  pub entry : OnOk r (EndsWith e m'.0.seen)
  pub once : OnOk r (own (pass_of t' number m') ≡ own (pass_of t number m) ++ e ∷ [])
  pub fault : IfErr r (SaysWhy (pass_of t number m) (pass_of t' number m') e.write)

module _ (number : ℕ) (t t' : TableId) (same : t' ≡ t) (m : Sat) (e : Entry) (rest : IsResting number m) where
  -- the seat when it has given the turn back: it lacked so many entries, and has seen these
  abbrev back : ℕ → ℕ → History → Sat
  back lacks low seen = (record m.0 { held = None; seen = seen; lacks = lacks; passed = 0; low = low }, [])

  rests : (lacks low : ℕ) (seen : History) → IsRecorded m.0.kinds.writers seen → IsResting number (back lacks low seen)
  rests lacks low seen recorded = record { numbered = rest.numbered; empty = refl; none_told = rest.none_told; none_held = refl; recorded = recorded; low = rest.low; placed = rest.placed }

  goes : (lacks low : ℕ) (seen : History) → IsPrefix m.0.seen seen → IsRecorded m.0.kinds.writers seen → GoesOn (pass_of t number m) (pass_of t' number (back lacks low seen))
  goes lacks low seen begins recorded = record {
    same_history = λ i. record { table = same i; kinds = m.0.kinds };
    same_number = refl;
    same_writers = refl;
    begins = begins;
    recorded = recorded;
    same_mark = refl;
    higher = omega arith;
    low = rest.low;
  }

  -- the steps of `append`, one after another
  pub ends : (r : Result ℕ AppendFault) (m1 m2 m3 : Sat) (turn : TakesTurn m m1) → e.client ≡ number → number < m.0.kinds.writers
      → IfOk r (λ count. (h : History) (log : Stored) → HasLog h log m1 → Enters h e count m1 m2)
      → IfErr r (λ fault. (h : History) (log : Stored) → HasLog h log m1 → Declines h e.write m1 m2 fault)
      → m3 ≡ (record m2.0 { held = None }, []) → Ended number t t' m m3 e r
  ends (Ok count) m1 m2 m3 turn by below entered declined freed =
      let h = turn.history in
      let more : History = h ++ e ∷ [] in
      let now = entered h turn.log (taken_log m m1 turn rest.empty) in
      let is : m3 ≡ back turn.floor 0 more =
      freed ∙ ap (λ (x : Sat). (record x.0 { held = None }, [])) now.is ∙ ap (λ (x : Sat). (record x.0 { held = None; seen = more }, [])) turn.is in
      let recorded : IsRecorded m.0.kinds.writers more = IsRecorded-push m.0.kinds.writers h e turn.recorded now.takes.free now.takes.write (omega arith) in
      let begins : IsPrefix m.0.seen more = prefix_trans m.0.seen h more turn.begins (prefix_more h (e ∷ [])) in
      let mine : written_by number h ≡ written_by number m.0.seen = subst (HasOwn h m.0.seen) rest.numbered turn.own in
      subst (λ (x : Sat). Ended number t t' m x e (Ok count)) (sym is) (record {
        resting = rests turn.floor 0 more recorded;
        goes_on = goes turn.floor 0 more begins recorded;
        position = now.takes.counted ∙ sym (length-append h (e ∷ []));
        entry = record { before = h; is = refl };
        once = written_by-append number h (e ∷ []) ∙ ap (λ es. es ++ written_by number (e ∷ [])) mine ∙ ap (λ es. written_by number m.0.seen ++ es) (written_by-own number e by);
        fault = tt;
      })
  ends (Err (Refused position cause)) m1 m2 m3 turn by below entered declined freed =
      let h = turn.history in
      let now = declined h turn.log (taken_log m m1 turn rest.empty) in
      let is : m3 ≡ back turn.floor (before position) h =
      freed ∙ ap (λ (x : Sat). (record x.0 { held = None }, [])) now.2 ∙ ap (λ (x : Sat). (record x.0 { held = None; seen = h; passed = 0; low = before position }, [])) turn.is in
      let mine : written_by number h ≡ written_by number m.0.seen = subst (HasOwn h m.0.seen) rest.numbered turn.own in
      subst (λ (x : Sat). Ended number t t' m x e (Err (Refused position cause))) (sym is) (record {
        resting = rests turn.floor (before position) h turn.recorded;
        goes_on = goes turn.floor (before position) h turn.begins turn.recorded;
        position = tt;
        entry = tt;
        once = tt;
        fault = (now.0, now.1, mine);
      })
  ends (Err (OutOfMemory memory)) m1 m2 m3 turn by below entered declined freed =
      let now = declined turn.history turn.log (taken_log m m1 turn rest.empty) in
      let is : m3 ≡ back turn.floor 0 m.0.seen =
      freed ∙ ap (λ (x : Sat). (record x.0 { held = None }, [])) now ∙ ap (λ (x : Sat). (record x.0 { held = None }, [])) turn.is in
      subst (λ (x : Sat). Ended number t t' m x e (Err (OutOfMemory memory))) (sym is) (record {
        resting = rests turn.floor 0 m.0.seen rest.recorded;
        goes_on = goes turn.floor 0 m.0.seen (prefix_refl m.0.seen) rest.recorded;
        position = tt;
        entry = tt;
        once = tt;
        fault = ap (λ table. pass_of table number m) same;
      })

-- what a seat learns from a note
pub learns_from : (m : Sat) (w : Known) (m' : Sat) → Agrees (informed m.0 (note_of w), m.1) m' → Learns m w.seen w.floor m'
learns_from m w m' agrees =
    let seen : m'.0.seen ≡ longer m.0.seen w.seen = ap (λ (x : Sat). x.0.seen) agrees.is in
    record {
      begins = subst (IsPrefix m.0.seen) (sym seen) agrees.begins;
      knows = subst (IsPrefix w.seen) (sym seen) agrees.told;
      longer_is = seen;
      own = subst (λ es. HasOwn es m.0.seen m.0.role) (sym seen) agrees.own;
      recorded = subst (IsRecorded m.0.kinds.writers) (sym seen) agrees.recorded;
      same_role = ap (λ (x : Sat). x.0.role) agrees.is;
      same_kinds = ap (λ (x : Sat). x.0.kinds) agrees.is;
      same_mark = ap (λ (x : Sat). x.0.mark) agrees.is;
      floor_is = ap (λ (x : Sat). x.0.floor) agrees.is;
      low = subst (λ (x : Sat). IsLow x.0.mark x.0.floor) (sym agrees.is) agrees.low;
      empty = ap (λ (x : Sat). x.1) agrees.is;
      none_told = ap (λ (x : Sat). x.0.told) agrees.is;
      none_held = ap (λ (x : Sat). x.0.held) agrees.is;
    }

-- who may ask for entries from a position on asks for none that the log lacks
pub asks : (mark : Mark) (floor from : ℕ) → IsLow mark floor → MayAsk mark from → floor ≤ from
asks Plain floor from low may = absurd may
asks Free floor from low may = absurd may
asks (Pinned position) floor from low may = omega arith
asks (Noted position) floor from low may = omega arith

-- the entries of a view stand in the history of the log at their places
pub range_of_log : (m m' : Sat) (t : TakesTurn m m') (from to : ℕ) → from ≤ to → to ≤ length m.0.seen → take (to - from) (drop from t.history) ≡ take (to - from) (drop from m.0.seen)
range_of_log m m' t from to order within =
    ap (λ es. take (to - from) (drop from es)) t.begins.1
    ∙ range_of_longer m.0.seen t.begins.0 from to order within

-- who has the log has it still, where what the seat knows of it stays
pub log_same : (h : History) (log : Stored) (m m' : Sat) → HasLog h log m → m'.0.held ≡ m.0.held → m'.1 ≡ m.1 → m'.0.lacks ≡ m.0.lacks → HasLog h log m'
log_same h log m m' has held carried lacks = record {
  held = held ∙ has.held;
  carried = carried ∙ has.carried;
  is_log = subst (λ n. IsLog h n log) (sym lacks) has.is_log;
}

module _ (m m1 m2 m3 : Sat) (turn : TakesTurn m m1) (empty : m.1 ≡ []) (words count floor : ℕ) (looked : m2 ≡ (record m1.0 { seen = held_by m1.0; passed = 0; low = before count }, m1.1))
    (low : m3 ≡ (record m2.0 { passed = words; low = floor }, m2.1)) where
  -- the log, when the words have been looked at
  pub looked_log : HasLog turn.history turn.log m3
  looked_log = log_same turn.history turn.log m1 m3 (taken_log m m1 turn empty)
      (ap (λ (x : Sat). x.0.held) low ∙ ap (λ (x : Sat). x.0.held) looked)
      (ap (λ (x : Sat). x.1) low ∙ ap (λ (x : Sat). x.1) looked)
      (ap (λ (x : Sat). x.0.lacks) low ∙ ap (λ (x : Sat). x.0.lacks) looked)

  -- its role is what it was
  pub looked_role : m3.0.role ≡ m.0.role
  looked_role = ap (λ (x : Sat). x.0.role) low ∙ ap (λ (x : Sat). x.0.role) looked ∙ ap (λ (x : Sat). x.0.role) turn.is

  -- what the words allow is no more than there are entries
  pub looked_within : count ≡ length (held_by m1.0) → floor ≤ before count → floor ≤ length turn.history
  looked_within is under =
      let all : count ≡ length turn.history = is ∙ ap (λ (x : Sat). length (held_by x.0)) turn.is in
      let less = before_under count in
      omega arith

  -- the log, when the floor is raised
  pub raised_log : (m4 : Sat) → Raises turn.history floor m3 m4 → (h : History) × (log : Stored) × HasLog h log m4
  raised_log m4 raised = (
    turn.history,
    raised.log,
    record {
      held = ap (λ (x : Sat). x.0.held) raised.is ∙ looked_log.held;
      carried = ap (λ (x : Sat). x.1) raised.is;
      is_log = subst (λ n. IsLog turn.history n raised.log) (sym (ap (λ (x : Sat). x.0.lacks) raised.is)) raised.is_log;
    },
  )

-- what has come of a call that trims the history
pub record Trimmed (number : ℕ) (t t' : TableId) (m m' : Sat) (to : ℕ) : Type 0 where
  pub resting : IsResting number m'
  pub goes_on : GoesOn (pass_of t number m) (pass_of t' number m')
  pub own : own (pass_of t' number m') ≡ own (pass_of t number m)
  pub raised : to ≡ m'.0.floor
  pub within : to ≤ before (length m'.0.seen)

-- the steps of `trim`, one after another
pub trims : (number : ℕ) (t t' : TableId) (m m1 m2 m3 m4 m5 : Sat) (words count floor : ℕ) → t' ≡ t → IsResting number m → (turn : TakesTurn m m1)
    → m2 ≡ (record m1.0 { seen = held_by m1.0; passed = 0; low = before count }, m1.1)
    → m3 ≡ (record m2.0 { passed = words; low = floor }, m2.1) → count ≡ length (held_by m1.0) → floor ≤ before count → m2.0.lacks ≤ floor → Raises turn.history floor m3 m4 → m5 ≡ (record m4.0 { held = None }, [])
    → Trimmed number t t' m m5 floor
trims number t t' m m1 m2 m3 m4 m5 words count floor same rest turn looked low counted few above raised freed =
    let h = turn.history in
    let m2_is : m2 ≡ (record m.0 { held = Some h; lacks = turn.floor; seen = h; passed = 0; low = before count }, (0, turn.log) ∷ m.1) =
    looked ∙ ap (λ (x : Sat). (record x.0 { seen = held_by x.0; passed = 0; low = before count }, x.1)) turn.is in
    let m3_is : m3 ≡ (record m.0 { held = Some h; lacks = turn.floor; seen = h; passed = words; low = floor }, (0, turn.log) ∷ m.1) =
    low ∙ ap (λ (x : Sat). (record x.0 { passed = words; low = floor }, x.1)) m2_is in
    let m4_is : m4 ≡ (record m.0 { held = Some h; floor = floor; lacks = floor; seen = h; passed = words; low = floor }, (0, raised.log) ∷ []) =
    raised.is ∙ ap (λ (x : Sat). (record x.0 { floor = floor; lacks = floor }, (0, raised.log) ∷ [])) m3_is in
    let after : Sat = (record m.0 { held = None; floor = floor; lacks = floor; seen = h; passed = words; low = floor }, []) in
    let is : m5 ≡ after = freed ∙ ap (λ (x : Sat). (record x.0 { held = None }, [])) m4_is in
    let up : turn.floor ≤ floor = subst (λ n. n ≤ floor) (ap (λ (x : Sat). x.0.lacks) m2_is) above in
    let under : IsLow m.0.mark floor = subst (λ k. IsLow k floor) (ap (λ (x : Sat). x.0.mark) m3_is) raised.low in
    subst (λ (x : Sat). Trimmed number t t' m x floor) (sym is) (record {
      resting = record { numbered = rest.numbered; empty = refl; none_told = rest.none_told; none_held = refl; recorded = turn.recorded; low = under; placed = rest.placed };
      goes_on = record {
        same_history = λ i. record { table = same i; kinds = m.0.kinds };
        same_number = refl;
        same_writers = refl;
        begins = turn.begins;
        recorded = turn.recorded;
        same_mark = refl;
        higher = let r = turn.reached in omega arith;
        low = under;
      };
      own = subst (HasOwn h m.0.seen) rest.numbered turn.own;
      raised = refl;
      within = subst (λ n. floor ≤ before n) (counted ∙ ap (λ (x : Sat). length (held_by x.0)) turn.is) few;
    })
