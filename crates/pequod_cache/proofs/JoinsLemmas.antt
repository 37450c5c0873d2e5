-- The joins that a client keeps, and those that a look tells it of.
use Rattle.std.proofs.Common.{◌≡◌, ℕ, ◌+◌, ◌<◌, ◌≤◌, Bool, true, false, if◌then◌else◌, [], ◌∷◌, length, take, refl, sym, ap, ◌∙◌, subst, arith, le-leb}
use Rattle.semantics.specs.Histories.{History, IsPrefix, is_of_joins, changed_from, changed_at}
use Rattle.growing_history.proofs.PrefixLemmas.{take_prefix, prefix_length}
use Rattle.join_set.specs.Sets.{Joins, no_joins, AreJoins}
use Rattle.join_set.proofs.BareLemmas.{AreJoins-higher}
use Rattle.base_reader.proofs.LaterLemmas.{joins_before, joins_after_all}
use Rattle.write_history.specs.Marks.{before, reach}
use Rattle.write_history.specs.declared.known.Mark.{Mark}
use Rattle.write_history.specs.declared.known.Mark.TheVariants.{Pinned}
use Rattle.write_history.proofs.Marking.{before_is}
use Rattle.pequod_cache.specs.Clients.{KeepsJoins}

-- no joins, by who knows of no declaration
pub keeps_none : (view : History) → KeepsJoins no_joins view
keeps_none view = record { within = omega arith; are = record { standing = refl; changed = refl; bare = λ q table from. le-leb 0 q (omega arith) } }

-- a view that grows
pub keeps_longer : (joins : Joins) (old new : History) → IsPrefix old new → KeepsJoins joins old → KeepsJoins joins new
keeps_longer joins old new begins keeps =
    let longer = prefix_length old new begins in
    record {
      within = omega (arith, longer, keeps.within);
      are =
          AreJoins-higher (before (length old)) (before (length new)) joins (take joins.changed new) (omega (arith, longer, before_is (length old), before_is (length new)))
          (subst (AreJoins (before (length old)) joins) (sym (take_prefix joins.changed old new keeps.within begins)) keeps.are);
    }

-- the last declaration or drop is one of the entries
changed_before : (position last : ℕ) (h : History) → last < position → changed_from position last h < position + length h
changed_before position last [] less = omega arith
changed_before position last (e ∷ es) less = by (is_of_joins e.write) (λ now low. changed_before (position + 1) now es low)
  where
    by : (b : Bool) → ((now : ℕ) → now < position + 1 → changed_from (position + 1) now es < position + 1 + length es) → changed_from (position + 1) (if b then position else last) es < position + length (e ∷ es)
    by true rest = let r = rest position (omega arith) in omega (arith, r)
    by false rest = let r = rest last (omega arith) in omega (arith, r)

changed_within : (h : History) → changed_at h ≤ length h
changed_within h = let less = changed_before 1 0 h (omega arith) in omega (arith, less)

-- the joins after all entries are those up to the last declaration or drop
pub keeps_all : (joins : Joins) (view : History) → AreJoins (before (length view)) joins view → KeepsJoins joins view
keeps_all joins view are =
    let within = changed_within view in
    record {
      within = omega (arith, are.changed, within);
      are = joins_before (before (length view)) joins.changed joins view (omega (arith, are.changed)) are;
    }

-- where that is the last of the view, they are the joins after all its entries
pub all_kept : (joins : Joins) (view : History) → KeepsJoins joins view → changed_at view ≡ joins.changed → AreJoins (before (length view)) joins view
all_kept joins view keeps same = joins_after_all (before (length view)) joins.changed joins view (omega (arith, same)) keeps.are

-- a pass that is pinned there reaches as far
pub from_reach : (mark : Mark) (view : History) (joins : Joins) (pin : ℕ) → mark ≡ Pinned pin → pin ≡ length view → AreJoins (before (length view)) joins view → AreJoins (reach mark) joins view
from_reach mark view joins pin pinned whole are = subst (λ n. AreJoins n joins view) (sym (ap reach pinned ∙ ap before whole)) are
