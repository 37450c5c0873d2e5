-- What `ranks` asks and what it answers.
use Rattle.std.specs.Prelude.{ℕ, List, Contains}
use Rattle.semantics.specs.Graphs.{Edges, IsCycle}
use Rattle.rank_order.specs.declared.answer.Ranked.{Ranked}
use Rattle.rank_order.specs.declared.answer.Ranked.TheVariants.{Ranks, Cycle}

-- every cycle goes through the vertex
abbrev pub EachCycleMeets : Edges → ℕ → Type 0
EachCycleMeets edges start = (a : ℕ) (cycle : List ℕ) → IsCycle edges a cycle → Contains cycle start

-- the answer is ranks
abbrev pub IsRanks : Ranked → Type 0
IsRanks (Ranks ranks) = Unit {0}
IsRanks (Cycle cycle) = ⊥

-- a fact on the ranks, where the answer is ranks
abbrev pub IfRanks : Ranked → (List ℕ → Type 0) → Type 0
IfRanks (Ranks ranks) P = P ranks.items
IfRanks (Cycle cycle) P = Unit {0}

-- a fact on the cycle, where the answer is a cycle
abbrev pub IfCycle : Ranked → (List ℕ → Type 0) → Type 0
IfCycle (Ranks ranks) P = Unit {0}
IfCycle (Cycle cycle) P = P cycle.items
