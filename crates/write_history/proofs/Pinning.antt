-- What comes of a look that pins, and of one that counts, from what comes of its steps.
use Rattle.std.proofs.Common.{◌≡◌, ℕ, ◌+◌, ◌<◌, ◌≤◌, [], ◌∷◌, length, IfOk, OnErr, Some, None, Result, Ok, Err, refl, sym, ap, ◌∙◌, subst, arith}
use Rattle.atomic_table.specs.Seated.{TableId}
use Rattle.semantics.specs.Histories.{History}
use Rattle.write_history.specs.Stored.{Stored}
use Rattle.write_history.specs.Marks.{before, no_pin, pins, IsLow, IsPlaced}
use Rattle.write_history.specs.Seats.{HasOwn}
use Rattle.write_history.specs.declared.known.Mark.{Mark}
use Rattle.write_history.specs.declared.known.Mark.TheVariants.{Free, Pinned}
use Rattle.write_history.specs.Passes.{GoesOn, own}
use Rattle.write_history.specs.Steps.{Sat, HasLog, IsResting, TakesTurn, held_by, held_or}
use Rattle.write_history.proofs.Few.{few_entries}
use Rattle.write_history.proofs.Marking.{no_pin_is}
use Rattle.write_history.proofs.Appending.{pass_of, log_same}

-- what the seat knows once it has looked, and once it is pinned there
abbrev pub seen_all : Sat → Sat
seen_all m = (record m.0 { seen = held_by m.0; passed = 0; low = before (length (held_by m.0)) }, m.1)

abbrev pub pinned_at : ℕ → Sat → Sat
pinned_at count m = (record m.0 { mark = Pinned count; seen = held_by m.0; passed = 0; low = before count }, m.1)

-- the seat has the log still, pinned or not
pub log_either : {X E : Type 0} (count : X → ℕ) (r : Result X E) (h : History) (log : Stored) (m m' : Sat) → IfOk r (λ x. m' ≡ pinned_at (count x) m) → OnErr r (m' ≡ seen_all m) → HasLog h log m →
    (h' : History) × (log' : Stored) × HasLog h' log' m'
log_either count (Ok x) h log m m' pinned declined has =
    (h, log, log_same h log m m' has (ap (λ (y : Sat). y.0.held) pinned) (ap (λ (y : Sat). y.1) pinned) (ap (λ (y : Sat). y.0.lacks) pinned))
log_either count (Err e) h log m m' pinned declined has =
    (h, log, log_same h log m m' has (ap (λ (y : Sat). y.0.held) declined) (ap (λ (y : Sat). y.1) declined) (ap (λ (y : Sat). y.0.lacks) declined))

-- what has come of a look that pins
pub record LooksOn {X E : Type 0} (count : X → ℕ) (number : ℕ) (t t' : TableId) (m m' : Sat) (h : History) (r : Result X E) : Type 0 where
  pub resting : IsResting number m'
  pub pinned : IfOk r (λ x. GoesOn (record (pass_of t number m) { mark = Pinned (count x) }) (pass_of t' number m'))
  pub goes_on : OnErr r (GoesOn (pass_of t number m) (pass_of t' number m'))
  pub long : IfOk r (λ x. count x ≡ length m'.0.seen)
  pub own : own (pass_of t' number m') ≡ own (pass_of t number m)
  pub seen : m'.0.seen ≡ h

module _ (number : ℕ) (t t' : TableId) (same : t' ≡ t) (m m1 m2 m3 : Sat) (rest : IsResting number m) (turn : TakesTurn m m1) (free : m.0.mark ≡ Free) (above : m1.0.lacks ≤ before (length (held_by m1.0)))
    (freed : m3 ≡ (record m2.0 { held = None }, [])) where
  -- the seat when it has given the turn back
  abbrev left : Mark → ℕ → Sat
  left mark low = (record m.0 { held = None; mark = mark; lacks = turn.floor; seen = turn.history; passed = 0; low = low }, [])

  -- the whole history is seen
  abbrev whole : held_by m1.0 ≡ turn.history
  whole = ap (λ (y : Sat). held_by y.0) turn.is

  -- the steps of a look that pins, one after another
  pub looks_on : {X E : Type 0} (count : X → ℕ) (r : Result X E) → IfOk r (λ x. count x ≡ length (held_by m1.0)) → IfOk r (λ x. m2 ≡ pinned_at (count x) m1) → OnErr r (m2 ≡ seen_all m1) → LooksOn count number t t' m m3 turn.history r
  looks_on {X} {E} count (Ok x) counted pinned declined =
      let n : ℕ = count x in
      let is : m3 ≡ left (Pinned n) (before n) =
      freed ∙ ap (λ (y : Sat). (record y.0 { held = None }, [])) pinned
      ∙ ap (λ (y : Sat). (record y.0 { held = None; mark = Pinned n; seen = held_by y.0; passed = 0; low = before n }, [])) turn.is in
      let reached = turn.reached in
      let under : turn.floor ≤ before n = subst (λ (p : ℕ × ℕ). p.0 ≤ before p.1) (λ i. ((turn.is i).0.lacks, sym counted i)) above in
      let low : m.0.floor ≤ before n = omega arith in
      let first : number < pins m.0.kinds = subst (IsPlaced m.0.kinds number) free rest.placed in
      let few = few_entries turn.history turn.recorded.entered in
      let long : n ≡ length turn.history = counted ∙ ap length whole in
      let bound : n ≤ no_pin = subst (λ k. n ≤ k) (sym no_pin_is) (omega (arith, few, long)) in
      subst (λ (y : Sat). LooksOn {X = X} {E = E} count number t t' m y turn.history (Ok x)) (sym is) (record {
        resting = record { numbered = rest.numbered; empty = refl; none_told = rest.none_told; none_held = refl; recorded = turn.recorded; low = low; placed = (first, bound) };
        pinned = record {
          same_history = λ i. record { table = same i; kinds = m.0.kinds };
          same_number = refl;
          same_writers = refl;
          begins = turn.begins;
          recorded = turn.recorded;
          same_mark = refl;
          higher = omega arith;
          low = low;
        };
        goes_on = tt;
        long = long;
        own = subst (HasOwn turn.history m.0.seen) rest.numbered turn.own;
        seen = refl;
      })
  looks_on {X} {E} count (Err e) counted pinned declined =
      let n : ℕ = length (held_by m1.0) in
      let is : m3 ≡ left m.0.mark (before n) =
      freed ∙ ap (λ (y : Sat). (record y.0 { held = None }, [])) declined
      ∙ ap (λ (y : Sat). (record y.0 { held = None; seen = held_by y.0; passed = 0; low = before n }, [])) turn.is in
      subst (λ (y : Sat). LooksOn {X = X} {E = E} count number t t' m y turn.history (Err e)) (sym is) (record {
        resting = record { numbered = rest.numbered; empty = refl; none_told = rest.none_told; none_held = refl; recorded = turn.recorded; low = rest.low; placed = rest.placed };
        pinned = tt;
        goes_on = record {
          same_history = λ i. record { table = same i; kinds = m.0.kinds };
          same_number = refl;
          same_writers = refl;
          begins = turn.begins;
          recorded = turn.recorded;
          same_mark = refl;
          higher = omega arith;
          low = rest.low;
        };
        long = tt;
        own = subst (HasOwn turn.history m.0.seen) rest.numbered turn.own;
        seen = refl;
      })

-- who looked and counted has seen all entries, of which so many are stored
pub counts_kept : (m m1 m2 m3 : Sat) (turn : TakesTurn m m1) (kept : ℕ) → m1.0.lacks ≤ before (length (held_by m1.0)) → kept + m1.0.lacks ≡ length (held_by m1.0) → m2 ≡ seen_all m1 → m3 ≡ (record m2.0 { held = None }, []) →
    (dropped : ℕ) × (kept + dropped ≡ length m3.0.seen) × (m3.0.floor ≤ dropped) × (dropped ≤ before (length m3.0.seen))
counts_kept m m1 m2 m3 turn kept above counted looked freed =
    let seen : m3.0.seen ≡ held_by m1.0 = ap (λ (y : Sat). y.0.seen) freed ∙ ap (λ (y : Sat). y.0.seen) looked in
    let floor : m3.0.floor ≡ m.0.floor = ap (λ (y : Sat). y.0.floor) freed ∙ ap (λ (y : Sat). y.0.floor) looked ∙ ap (λ (y : Sat). y.0.floor) turn.is in
    let lacks : m1.0.lacks ≡ turn.floor = ap (λ (y : Sat). y.0.lacks) turn.is in
    let reached = turn.reached in (
      m1.0.lacks,
      counted ∙ ap length (sym seen),
      omega arith,
      subst (λ (es : History). m1.0.lacks ≤ before (length es)) (sym seen) above,
    )
