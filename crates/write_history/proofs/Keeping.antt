-- What keeps the rule where a seat changes or one more comes, and what the holder of the turn knows.
use Rattle.std.proofs.Common.{◌≡◌, ◌≢◌, ℕ, List, [], ◌∷◌, ◌++◌, set, get_or, Some, None, sym, ◌∙◌, subst, ⊎_elim}
use mathlib.Core.Option.{some}
use mathlib.Core.Logic.{dite}
use native.Mathlib.Decide.{ℕ_discrete}
use lib.ListN.{get_elem?}
use lib.Seq.{set-get_or}
use Rattle.atomic_table.specs.Table.{State}
use Rattle.semantics.specs.Histories.{History}
use Rattle.write_history.specs.Stored.{Stored}
use Rattle.write_history.specs.Seats.{Apart}
use Rattle.write_history.specs.Rule.{Fits, IsFree, IsTaken, Holds, Keeps}
use Rattle.write_history.specs.declared.known.Kinds.{Kinds}
use Rattle.write_history.specs.declared.known.Known.{Known}
use Rattle.write_history.proofs.Seating.{all_set, all_end, each_set, each_end}
use Rattle.write_history.proofs.Fitting.{Homes, holds_none, place_set, place_end}

module _ (kinds : Kinds) where
  -- the words after a load are as before
  pub loaded : (s : State Stored Known) (i : ℕ) (homes : Homes) (views : List Known) → Keeps kinds record { words = s.words; homes = homes; views = views } →
      Keeps kinds record { words = set s.words i (get_or s.words i 0); homes = homes; views = views }
  loaded s i homes views k = subst (λ (ws : List ℕ). Keeps kinds record { words = ws; homes = homes; views = views }) (sym (set-get_or s.words i 0)) k

  -- a seat that keeps its role keeps a number apart from the others'
  pub stays_apart : (s : State Stored Known) (k : Keeps kinds s) (id : ℕ) (v w : Known) → get_elem? s.views id ≡ some v → w.role ≡ v.role →
      (seat : ℕ) (u : Known) → seat ≢ id → get_elem? s.views seat ≡ some u → Apart u.role w.role × Apart w.role u.role
  stays_apart s k id v w at same seat u away at' = (
    subst (λ r. Apart u.role r) (sym same) (k.apart seat id u v away at' at),
    subst (λ r. Apart r u.role) (sym same) (k.apart id seat v u (λ e. away (sym e)) at at'),
  )

  -- so the numbers of all stay apart
  pub apart_set : (s : State Stored Known) (k : Keeps kinds s) (id : ℕ) (v w : Known) → get_elem? s.views id ≡ some v → w.role ≡ v.role →
      (seat other : ℕ) (u u' : Known) → seat ≢ other → get_elem? (set s.views id w) seat ≡ some u → get_elem? (set s.views id w) other ≡ some u' → Apart u.role u'.role
  apart_set s k id v w at same = each_set (λ (u : Known) (u' : Known). Apart u.role u'.role) s.views id w k.apart (stays_apart s k id v w at same)

  -- what each seat knows is true where what the one that changes knows is
  pub fits_set : (s : State Stored Known) (k : Keeps kinds s) (id : ℕ) (w : Known) → Fits kinds k.marks k.history k.floor w →
      (seat : ℕ) (u : Known) → get_elem? (set s.views id w) seat ≡ some u → Fits kinds k.marks k.history k.floor u
  fits_set s k id w fit = all_set (λ seat u. Fits kinds k.marks k.history k.floor u) s.views id w fit (λ seat u apart at'. k.fits seat u at')

  -- one seat changes between calls, and its number stays apart from the others'
  unfoldable pub turns : (s : State Stored Known) (k : Keeps kinds s) (id : ℕ) (v w : Known) → get_elem? s.views id ≡ some v → v.held ≡ None → w.held ≡ None →
      ((seat : ℕ) (u : Known) → seat ≢ id → get_elem? s.views seat ≡ some u → Apart u.role w.role × Apart w.role u.role) →
      Fits kinds k.marks k.history k.floor w → Keeps kinds record { words = s.words; homes = s.homes; views = set s.views id w }
  turns s k id v w at none_v none_w away fit = record {
    history = k.history;
    turn = k.turn;
    floor = k.floor;
    marks = k.marks;
    words = k.words;
    counted = k.counted;
    enough = k.enough;
    allowing = k.allowing;
    recorded = k.recorded;
    fits = fits_set s k id w fit;
    apart = each_set (λ (u : Known) (u' : Known). Apart u.role u'.role) s.views id w k.apart away;
    place = place_set kinds k.marks k.history k.floor k.turn s.homes s.views id v w at none_v none_w k.place;
  }

  -- one seat more, without the turn
  pub comes : (s : State Stored Known) (k : Keeps kinds s) (w : Known) → w.held ≡ None → ((seat : ℕ) (u : Known) → get_elem? s.views seat ≡ some u → Apart u.role w.role × Apart w.role u.role) →
      Fits kinds k.marks k.history k.floor w → Keeps kinds record { words = s.words; homes = s.homes; views = s.views ++ w ∷ [] }
  comes s k w nothing away fit = record {
    history = k.history;
    turn = k.turn;
    floor = k.floor;
    marks = k.marks;
    words = k.words;
    counted = k.counted;
    enough = k.enough;
    allowing = k.allowing;
    recorded = k.recorded;
    fits = all_end (λ seat u. Fits kinds k.marks k.history k.floor u) s.views w fit k.fits;
    apart = each_end (λ (u : Known) (u' : Known). Apart u.role u'.role) s.views w k.apart away;
    place = place_end kinds k.marks k.history k.floor k.turn s.homes s.views w nothing k.place;
  }

  -- one seat comes to know more, between calls
  pub quiet : (s : State Stored Known) (k : Keeps kinds s) (id : ℕ) (v w : Known) → get_elem? s.views id ≡ some v → v.held ≡ None → w.held ≡ None → w.role ≡ v.role →
      Fits kinds k.marks k.history k.floor w → Keeps kinds record { words = s.words; homes = s.homes; views = set s.views id w }
  quiet s k id v w at none_v none_w same fit = turns s k id v w at none_v none_w (stays_apart s k id v w at same) fit

  -- the holder of the turn knows the history and the floor
  pub mine : (s : State Stored Known) (k : Keeps kinds s) (id : ℕ) (v : Known) (h : History) → get_elem? s.views id ≡ some v → v.held ≡ Some h →
      (taken : IsTaken kinds k.marks k.history k.floor k.turn s.homes s.views) × (taken.holder ≡ id) × (k.history ≡ h) × Holds kinds k.marks k.history k.floor v
  mine s k id v h at held = ⊎_elim
      (λ (free : IsFree k.history k.floor k.turn s.homes s.views). absurd (holds_none v h (free.nobody id v at) held))
      (λ (taken : IsTaken kinds k.marks k.history k.floor k.turn s.homes s.views). dite (ℕ_discrete taken.holder id)
      (λ same.
      let has = taken.holds v (subst (λ seat. get_elem? s.views seat ≡ some v) (sym same) at) in
      let both : Some k.history ≡ Some h = sym has.held ∙ held in
      let is : k.history ≡ h = cc in
      (taken, same, is, has))
      (λ other. absurd (holds_none v h (taken.others id v (λ e. other (sym e)) at) held)))
      k.place
