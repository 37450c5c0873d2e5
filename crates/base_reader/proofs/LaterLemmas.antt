-- Joins where none is declared or dropped after a position.
use Rattle.std.proofs.Common.{◌≡◌, ℕ, ◌≤◌, ◌&&◌, ◌||◌, List, [], ◌∷◌, length, take, nat_le, not, refl, sym, ap, ◌∙◌, arith, le-leb, length-take}
use Rattle.semantics.specs.Texts.{Text}
use Rattle.semantics.specs.Histories.{History, changed_at}
use Rattle.semantics.specs.Stays.{Stay, is_after, stays_of}
use Rattle.semantics.proofs.StayLemmas.{AreUpTo, stays_up_to}
use Rattle.growing_history.specs.Changes.{has_table, bare_between}
use Rattle.layering.proofs.StandingLemmas.{same_joins_since, same_stays_since, same_change_since}
use Rattle.join_set.specs.Sets.{Joins, AreJoins}
use Rattle.join_set.proofs.TimelineLemmas.{begins_up_to}

-- ---- no declaration or drop later

-- stays that begin up to a position leave a table bare up to it where they leave it bare up to a later one
bare_up_to : (q m n : ℕ) (table : Text) (stays : List Stay) → m ≤ n → AreUpTo m stays → bare_between q n table stays ≡ bare_between q m table stays
bare_up_to q m n table [] more upto = refl
bare_up_to q m n table (s ∷ stays) more upto =
    let early = begins_up_to m s.position s.until upto.0 in
    let begun : nat_le s.position n ≡ nat_le s.position m = le-leb s.position n (omega (arith, early)) ∙ sym (le-leb s.position m early) in
    let rest = bare_up_to q m n table stays more upto.1 in
    λ i. (not (begun i && is_after q s.until) || not (has_table s.join.output table)) && rest i

-- which tables are bare from a position on is the same after the first p entries as after all
bare_since_there : (h : History) (p q : ℕ) (table : Text) → changed_at h ≤ p → bare_between q (length h) table (stays_of h) ≡ bare_between q (length (take p h)) table (stays_of (take p h))
bare_since_there h p q table up =
    let long = length-take p h in
    ap (bare_between q (length h) table) (sym (same_stays_since h p up)) ∙ bare_up_to q (length (take p h)) (length h) table (stays_of (take p h)) (omega (arith, long)) (stays_up_to (take p h))

-- where none is declared or dropped after the first p entries, the joins after all are those after these
pub joins_before : (floor p : ℕ) (joins : Joins) (h : History) → changed_at h ≤ p → AreJoins floor joins h → AreJoins floor joins (take p h)
joins_before floor p joins h up are = record {
  standing = are.standing ∙ sym (same_joins_since h p up);
  changed = are.changed ∙ sym (same_change_since h p up);
  bare = λ q table from. are.bare q table from ∙ bare_since_there h p q table up;
}

-- and those after these are the joins after all
pub joins_after_all : (floor p : ℕ) (joins : Joins) (h : History) → changed_at h ≤ p → AreJoins floor joins (take p h) → AreJoins floor joins h
joins_after_all floor p joins h up are = record {
  standing = are.standing ∙ same_joins_since h p up;
  changed = are.changed ∙ same_change_since h p up;
  bare = λ q table from. are.bare q table from ∙ sym (bare_since_there h p q table up);
}
