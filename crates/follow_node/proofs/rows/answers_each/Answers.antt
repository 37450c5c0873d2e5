-- By the answer, which says what the line is.
use Rattle.std.proofs.Common.{ℕ, inl, inr, List, refl, sym, subst}
use Rattle.std.specs.Prelude.{Option, Result, Ok, Err}
use Rattle.semantics.specs.Histories.{Write}
use Rattle.follow_node.specs.Feeders.{FeederView}
use Rattle.follow_node.specs.Pulls.{Heed, takes, at_memory, at_gone, at_ahead, is_bad, heed_line, TakesLine}
use Rattle.follow_node.specs.Rows.{IsAnswered, IsOutOfMemory}
use Rattle.follow_node.specs.declared.pulled.Pulled.{Pulled}
use Rattle.follow_node.specs.declared.pulled.Pulled.TheVariants.{Level, HomeMemory, Gone, Ahead, Bad, Ended, Over, ReadFault, WriteFault, OutOfMemory}
use Rattle.follow_node.proofs.rows.answers_each.Goals as goal

by_memory : (first : Option ℕ) (f : FeederView) (ws ws' : List Write) (r : Result ℕ Pulled) (h : Heed) → IsOutOfMemory r → IsAnswered first f ws ws' r h
by_memory first f ws ws' r (takes b) m = inr m
by_memory first f ws ws' r at_memory m = inr m
by_memory first f ws ws' r (at_gone n) m = inr m
by_memory first f ws ws' r (at_ahead n) m = inr m
by_memory first f ws ws' r is_bad m = inr m

answered : (first : Option ℕ) (f f' : FeederView) (ws ws' : List Write) (r : Result ℕ Pulled) → TakesLine first f f' ws ws' r → IsAnswered first f ws ws' r (heed_line first f)
answered first f f' ws ws' (Ok goal) took = subst (IsAnswered first f ws ws' (Ok goal)) (sym took.0.1.heeds) (inl (inl (goal, refl)))
answered first f f' ws ws' (Err Level) took = absurd took
answered first f f' ws ws' (Err HomeMemory) took = subst (IsAnswered first f ws ws' (Err HomeMemory)) (sym took.0) (inl refl)
answered first f f' ws ws' (Err (Gone n)) took = subst (IsAnswered first f ws ws' (Err (Gone n))) (sym took.0) (inl refl)
answered first f f' ws ws' (Err (Ahead n)) took = subst (IsAnswered first f ws ws' (Err (Ahead n))) (sym took.0) (inl refl)
answered first f f' ws ws' (Err Bad) (inl bad, done) = subst (IsAnswered first f ws ws' (Err Bad)) (sym bad.0) (inl refl)
answered first f f' ws ws' (Err Bad) (inr (n, rest), done) = subst (IsAnswered first f ws ws' (Err Bad)) (sym rest.heeds) (inl (inr (refl, n, rest)))
answered first f f' ws ws' (Err Ended) took = absurd took
answered first f f' ws ws' (Err Over) took = absurd took
answered first f f' ws ws' (Err ReadFault) took = absurd took
answered first f f' ws ws' (Err WriteFault) took = absurd took
answered first f f' ws ws' (Err (OutOfMemory m)) took = by_memory first f ws ws' (Err (OutOfMemory m)) (heed_line first f) tt

pub returns : goal.returns
returns c = answered
