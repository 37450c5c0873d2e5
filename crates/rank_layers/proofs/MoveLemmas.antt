-- How a reader goes on.
use Rattle.std.proofs.Common.{◌≡◌, ℕ, ◌+◌, ◌≤◌, arith}
use Rattle.semantics.specs.Histories.{History, IsPrefix}
use Rattle.growing_history.specs.Entered.{HasEntered}
use Rattle.join_eval.specs.Moves.{Moves}
use Rattle.join_eval.proofs.MovesLemmas.{moves_trans}

-- what a reader goes on by may be said in weaker words
pub moves_as : {S : Type 0} (list : S → History) (floor : S → ℕ) (went more : S → S → Type 0) (a b : S) → (went a b → more a b) → Moves list floor went a b → Moves list floor more a b
moves_as list floor went more a b weaker moves = record { kept = moves.kept; entered = moves.entered; same_floor = moves.same_floor; on = weaker moves.on }

-- what a call of a reader ensures, as what it leaves for a layer
pub moves_by_call : {S : Type 0} (list : S → History) (floor : S → ℕ) (went left : S → S → Type 0) (a b : S) → (went a b → left a b) → IsPrefix (list a) (list b) → HasEntered (list b) → floor b ≡ floor a → went a b → Moves list floor left a b
moves_by_call list floor went left a b weaker kept entered floors on = record { kept = kept; entered = λ e. entered; same_floor = floors; on = weaker on }

-- the reader below reads ranks up to its own
pub up_one : (top rank : ℕ) → top ≡ rank → top ≤ rank + 1
up_one top rank is = omega (arith, is)

-- what a call of a reader and then a look at the joins ensure
pub moves_looked : {S : Type 0} (list : S → History) (floor : S → ℕ) (went looked left : S → S → Type 0) (a b c : S) → (went a b → left a b) → (looked b c → left b c) → (left a b → left b c → left a c) →
    IsPrefix (list a) (list b) → HasEntered (list b) → floor b ≡ floor a → went a b → Moves list floor looked b c → Moves list floor left a c
moves_looked list floor went looked left a b c below look trans kept entered floors on moves =
    moves_trans list floor left a b c trans (moves_by_call list floor went left a b below kept entered floors on) (moves_as list floor looked left b c look moves)
