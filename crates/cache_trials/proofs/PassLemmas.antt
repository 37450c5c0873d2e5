-- Passes of tests.
use Rattle.std.proofs.Common.{◌≡◌, ℕ, ◌+◌, ◌≤◌, List, All, take, slice_index_or, refl, ap, sym, ◌∙◌, subst, arith}
use Rattle.std.proofs.lemmas.Option.{get_or_from_slice_get}
use Rattle.join_set.specs.Sets.{Joins, AreJoins}
use Rattle.write_history.specs.Marks.{reach, MayAsk}
use Rattle.write_history.specs.Passes.{HistoryId, PassView, new_pass}
use Rattle.write_history.specs.declared.known.Mark.{Mark}
use Rattle.write_history.proofs.Marking.{before_near, first_free}
use Rattle.base_shards.specs.Reading.{ReachesBack}
use Rattle.pequod_cache.specs.Sitting.{AreWriters}
use Rattle.cache_trials.specs.Passes.{IsAtEnd, IsWriter}

-- the passes of the clients may append, and are not pinned
pub all_write : (history : HistoryId) (count : ℕ) (passes : List PassView) → AreWriters history count passes → All (λ pass. IsWriter history pass) passes
all_write history count passes are k d less =
    let is : slice_index_or passes k d ≡ new_pass history k = get_or_from_slice_get passes k (new_pass history k) d (are.each k (omega (arith, less, are.counted))) in
    subst (IsWriter history) (sym is) (record {
      same_history = refl;
      writer = omega (arith, less, are.counted, are.all);
      free = first_free history.kinds k (omega (arith, less, are.counted, are.all));
    })

-- a pass at the end may ask for what is at most 65,536 entries before it
pub reaches : (history : HistoryId) (pass : PassView) (at p : ℕ) → IsAtEnd history pass at → at ≤ p + 65536 → ReachesBack pass p
reaches history pass at p end near = record { pin = at; pinned = end.pinned; near = near }

-- it may ask there
pub asks_near : (history : HistoryId) (pass : PassView) (at p : ℕ) → IsAtEnd history pass at → at ≤ p + 65536 → MayAsk pass.mark p
asks_near history pass at p end near = subst (λ (m : Mark). MayAsk m p) (sym end.pinned) (before_near at p near)

-- joins that tell of dropped ones from each position on for which it may ask tell of them from where it reaches to
pub joins_asked : (history : HistoryId) (pass : PassView) (at p : ℕ) (joins : Joins) → IsAtEnd history pass at →
    ((start : ℕ) → MayAsk pass.mark start → AreJoins start joins (take p pass.view)) → AreJoins (reach pass.mark) joins (take p pass.view)
joins_asked history pass at p joins end each =
    each (reach pass.mark) (subst (λ (m : Mark). MayAsk m (reach m)) (sym end.pinned) (omega arith))
