-- What a look tells of the joins that stand.
use Rattle.std.proofs.Common.{◌≡◌, ◌≢◌, ℕ, ◌≤◌, length, take, Option, Some, None, refl, sym, ap, ◌∙◌, subst}
use Rattle.semantics.specs.Histories.{History}
use Rattle.growing_history.proofs.PrefixLemmas.{take_prefix}
use Rattle.join_set.specs.Sets.{Joins, AreJoins}
use Rattle.join_set.proofs.BareLemmas.{AreJoins-higher}
use Rattle.write_history.specs.Stored.{Stored, IsLog}
use Rattle.write_history.specs.Steps.{Sat, HasLog, TakesTurn, held_by}
use Rattle.write_history.specs.Marks.{before}
use Rattle.write_history.specs.Looks.{TellsJoins}

-- the last declaration or drop that is kept is at the position that is known
pub told_none : (h : History) (floor : ℕ) (log : Stored) (joins : Joins) (known : ℕ) → IsLog h floor log → joins ≡ log.summary.joins → joins.changed ≡ known → TellsJoins floor h known None
told_none h floor log joins known is kept at = record {
  joins = tt;
  same = sym (ap (λ (j : Joins). j.changed) kept ∙ is.stands.joins.changed) ∙ at;
  none = λ e. refl;
}

-- the joins are those that are kept, where their last declaration or drop is at another position
pub told_all : (h : History) (floor : ℕ) (log : Stored) (joins : Joins) (known : ℕ) → IsLog h floor log → log.summary.floor ≡ floor → joins ≡ log.summary.joins → joins.changed ≢ known → TellsJoins floor h known (Some joins)
told_all h floor log joins known is settled kept other = record {
  joins = subst (λ n. AreJoins n joins h) settled (subst (λ (j : Joins). AreJoins log.summary.floor j h) (sym kept) is.stands.joins);
  same = tt;
  none = λ e. absurd (other (ap (λ (j : Joins). j.changed) kept ∙ is.stands.joins.changed ∙ e));
}

-- the joins that are told from a floor on are told from a higher one on
pub tells_higher : (floor above : ℕ) (h : History) (known : ℕ) (told : Option Joins) → floor ≤ above → TellsJoins floor h known told → TellsJoins above h known told
tells_higher floor above h known None up tells = record { joins = tt; same = tells.same; none = tells.none }
tells_higher floor above h known (Some joins) up tells = record { joins = AreJoins-higher floor above joins h up tells.joins; same = tt; none = tells.none }

-- the first entries of the view are those of the history
pub first_of_view : (m m' : Sat) (turn : TakesTurn m m') (p : ℕ) → p ≤ length m.0.seen → take p turn.history ≡ take p m.0.seen
first_of_view m m' turn p within = take_prefix p m.0.seen turn.history within turn.begins

-- who has looked has the log that it had
pub log_seen : (h : History) (log : Stored) (m m' : Sat) (low : ℕ) → m' ≡ (record m.0 { seen = held_by m.0; passed = 0; low = low }, m.1) → HasLog h log m → HasLog h log m'
log_seen h log m m' low looked has = subst (HasLog h log) (sym looked) (record { held = has.held; carried = has.carried; is_log = has.is_log })

-- so it knows all that the number of entries allows
pub looked_all : (m m' : Sat) (n : ℕ) → m' ≡ (record m.0 { seen = held_by m.0; passed = 0; low = before n }, m.1) → n ≡ length (held_by m.0) → m' ≡ (record m.0 { seen = held_by m.0; passed = 0; low = before (length (held_by m.0)) }, m.1)
looked_all m m' n is counted = is ∙ ap (λ k. (record m.0 { seen = held_by m.0; passed = 0; low = before k }, m.1)) counted
