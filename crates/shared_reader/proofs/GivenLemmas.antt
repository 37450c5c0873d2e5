-- The joins that a reader is given, and how it reads on.
use Rattle.std.proofs.Common.{◌≡◌, ℕ, ◌-◌, ◌≤◌, take, refl, sym, ap, ◌∙◌, subst, arith}
use Rattle.growing_history.proofs.PrefixLemmas.{take_prefix}
use Rattle.join_set.specs.Sets.{Joins, AreJoins}
use Rattle.write_history.specs.Entries.{IsRecorded}
use Rattle.write_history.specs.Marks.{MayAsk, before, reach}
use Rattle.write_history.specs.Passes.{HistoryId, PassView}
use Rattle.write_history.specs.declared.known.Mark.TheVariants.{Pinned}
use Rattle.write_history.proofs.Marking.{before_is}
use Rattle.base_shards.specs.Reading.{ReachesBack, ReadsOn}
use Rattle.base_shards.proofs.ReadingLemmas.{reaches_still, sees_still}
use Rattle.join_eval.specs.Moves.{Moves}
use Rattle.shared_reader.specs.Lent.{LentPass, LentReadsOn}
use Rattle.shared_reader.specs.Readable.{IsReadable}
use Rattle.shared_reader.proofs.LentLemmas.{lent_reads_on-refl}

-- after the first entries for which it was made they are the joins
pub given_joins : (name history : HistoryId) (joins : Joins) (own p : ℕ) (pass now : PassView) → IsReadable name history joins own pass → pass ≡ now → p ≡ own → AreJoins (reach now.mark) joins (take p now.view)
given_joins name history joins own p pass now readable same at =
    subst (λ (v : PassView). AreJoins (reach v.mark) joins (take p v.view)) same (subst (λ n. AreJoins (reach pass.mark) joins (take n pass.view)) (sym at) readable.are_joins)

-- what was so of a reader is so of one that has read on
pub still_readable : (name history : HistoryId) (joins : Joins) (p : ℕ) (old new : PassView) → IsReadable name history joins p old → ReadsOn old new → IsReadable name history joins p new
still_readable name history joins p old new readable on = record {
  this = readable.this;
  same_history = on.same_history ∙ readable.same_history;
  recorded = on.recorded readable.recorded;
  within = sees_still old new p on readable.within;
  are_joins = subst (AreJoins (reach new.mark) joins) (sym (take_prefix p old.view new.view readable.within on.begins))
      (subst (λ m. AreJoins (reach m) joins (take p old.view)) (sym on.same_mark) readable.are_joins);
  pinned = reaches_still old new p on readable.pinned;
}

-- a lent pass that reads on, where the one that it was may have seen what it had
pub reads_moves : (old now new : LentPass) → IsRecorded old.pass.writers old.pass.view → old ≡ now → LentReadsOn old new →
    Moves (λ (v : LentPass). v.pass.view) (λ v. reach v.pass.mark) LentReadsOn now new
reads_moves old now new recorded same reads =
    subst (λ (v : LentPass). Moves (λ (v : LentPass). v.pass.view) (λ v. reach v.pass.mark) LentReadsOn v new) same
    (record { kept = reads.on.begins; entered = λ e. (reads.on.recorded recorded).entered; same_floor = ap reach reads.on.same_mark; on = reads })

-- so does one that has stayed as it was
pub stays_moves : (old now new : LentPass) → IsRecorded old.pass.writers old.pass.view → old ≡ now → new ≡ old →
    Moves (λ (v : LentPass). v.pass.view) (λ v. reach v.pass.mark) LentReadsOn now new
stays_moves old now new recorded same stays = reads_moves old now new recorded same (subst (LentReadsOn old) (sym stays) (lent_reads_on-refl old))

-- a position that is not below where a pinned pass reaches to is one that it reaches back to
pub reaches_back : (old now : PassView) (pin p : ℕ) → old.mark ≡ Pinned pin → old ≡ now → reach now.mark ≤ p → ReachesBack old p
reaches_back old now pin p pinned same above =
    let is : reach now.mark ≡ pin - 65536 = ap (λ (v : PassView). reach v.mark) (sym same) ∙ ap reach pinned ∙ before_is pin in
    record { pin = pin; pinned = pinned; near = omega (arith, is, above) }

-- it may ask from such a position on
pub asks_from : (old now : PassView) (pin p : ℕ) → old.mark ≡ Pinned pin → old ≡ now → reach now.mark ≤ p → MayAsk old.mark p
asks_from old now pin p pinned same above =
    let is : reach now.mark ≡ before pin = ap (λ (v : PassView). reach v.mark) (sym same) ∙ ap reach pinned in
    subst (λ m. MayAsk m p) (sym pinned) (subst (λ n. n ≤ p) is above)

-- joins that tell of dropped ones from each position on for which it may ask tell of them from where it reaches to
pub asked_joins : (old now : PassView) (pin p : ℕ) (joins : Joins) → old.mark ≡ Pinned pin → old ≡ now →
    ((from : ℕ) → MayAsk old.mark from → AreJoins from joins (take p old.view)) → AreJoins (reach now.mark) joins (take p now.view)
asked_joins old now pin p joins pinned same each =
    subst (λ (v : PassView). AreJoins (reach v.mark) joins (take p v.view)) same
    (each (reach old.mark) (asks_from old old pin (reach old.mark) pinned refl (omega arith)))
