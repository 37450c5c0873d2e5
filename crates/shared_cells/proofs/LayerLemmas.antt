-- Joins over longer histories, and how a reader goes on while it is asked what changed.
use Rattle.std.proofs.Common.{◌≡◌, ℕ, ◌≤◌, length, take, sym, subst}
use Rattle.semantics.specs.Joins.{Join}
use Rattle.semantics.specs.Histories.{History, IsPrefix, joins_of}
use Rattle.growing_history.specs.Entered.{HasRank}
use Rattle.join_eval.specs.Moves.{Moves}
use Rattle.join_eval.proofs.MovesLemmas.{moves_trans}
use Rattle.cell_slots.specs.Slots.{IsDeclared, StandsAs}
use Rattle.cell_slots.proofs.DeclaredLemmas.{declared_over_longer, rank_declared, stands_over}

-- ---- a join over a longer history

-- the join that was declared at a position has its rank over a longer history
pub ranked_over : (h more : History) (p at rank : ℕ) (j k : Join) → p ≤ length h → IsPrefix h more → StandsAs h p at rank j → IsDeclared h at k → HasRank (joins_of (take p more)) k rank
ranked_over h more p at rank j k less prefix stands declared =
    rank_declared more p at rank j k (stands_over h more p at rank j less prefix stands) (declared_over_longer h more at k prefix declared)

-- ---- how a reader goes on

-- a reader that a cell began to work with, told by, took note of that, and was followed by
pub moves_told : {S : Type 0} (list : S → History) (floor : S → ℕ) (went : S → S → Type 0) (a begun told noted followed : S) → (went a told → went told noted → went a noted) → begun ≡ a → Moves list floor went begun told →
    Moves list floor went told noted → followed ≡ noted → Moves list floor went a followed
moves_told list floor went a begun told noted followed trans same first next last =
    subst (λ r. Moves list floor went a r) (sym last) (moves_trans list floor went a told noted trans (subst (λ r. Moves list floor went r told) same first) next)
