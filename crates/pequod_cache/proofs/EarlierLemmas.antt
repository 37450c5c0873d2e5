-- The joins at an earlier position, and the question about it.
use Rattle.std.proofs.Common.{◌≡◌, ℕ, ◌+◌, ◌≤◌, length, take, refl, sym, subst, arith}
use Rattle.std.proofs.lemmas.List.{take_all}
use Rattle.semantics.specs.Texts.{Range}
use Rattle.protocol.specs.Earlier.{asked_position}
use Rattle.join_set.specs.Sets.{Joins, AreJoins}
use Rattle.base_reader.proofs.LaterLemmas.{joins_before}
use Rattle.write_history.specs.Marks.{MayAsk, reach}
use Rattle.write_history.specs.Passes.{PassView}
use Rattle.write_history.specs.declared.known.Mark.TheVariants.{Pinned}
use Rattle.write_history.proofs.Marking.{before_is}
use Rattle.pequod_cache.specs.Questions.{asked}
use Rattle.pequod_cache.specs.declared.earlier.Question.{Question}
use Rattle.pequod_cache.specs.declared.earlier.Question.TheVariants.{Pairs, Changes}

-- the question of a range about a position names that position
pub asked_at : (question : Question) (range : Range) (at : ℕ) → asked_position (asked question range at) ≡ at
asked_at Pairs range at = refl
asked_at Changes range at = refl

-- ---- joins

-- where none was declared or dropped after a position, the joins after all are those there
pub joins_back : (pass : PassView) (at : ℕ) (joins : Joins) → joins.changed ≤ at → AreJoins (reach pass.mark) joins pass.view → AreJoins (reach pass.mark) joins (take at pass.view)
joins_back pass at joins up are = joins_before (reach pass.mark) at joins pass.view (subst (λ n. n ≤ at) are.changed up) are

-- the joins after all
pub joins_now : (pass : PassView) (position : ℕ) (joins : Joins) → position ≡ length pass.view → AreJoins (reach pass.mark) joins pass.view → AreJoins (reach pass.mark) joins (take position pass.view)
joins_now pass position joins whole are = subst (AreJoins (reach pass.mark) joins) (sym (take_all position pass.view (omega (arith, whole)))) are

-- a pinned pass may ask from each position that is not further back
pub may_ask_back : (pass : PassView) (pin at : ℕ) → pass.mark ≡ Pinned pin → pin ≤ at + 65536 → MayAsk pass.mark at
may_ask_back pass pin at pinned near = subst (λ m. MayAsk m at) (sym pinned) (subst (λ n. n ≤ at) (sym (before_is pin)) (omega (arith, near)))

-- joins that tell of dropped ones from each such position on
pub asked_back : (pass : PassView) (pin at : ℕ) (joins : Joins) → pass.mark ≡ Pinned pin → ((from : ℕ) → MayAsk pass.mark from → AreJoins from joins (take at pass.view)) →
    AreJoins (reach pass.mark) joins (take at pass.view)
asked_back pass pin at joins pinned each = each (reach pass.mark) (subst (λ m. MayAsk m (reach m)) (sym pinned) (omega arith))
