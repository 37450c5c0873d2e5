use Rattle.std.proofs.Common.{inl, inr, refl, arith}
use Rattle.request_codec.proofs.entries.far_enough.Goals as goal

pub returns-then-position-from-gt-MOST_ENTRIES-clause-far : goal.returns-then-position-from-gt-MOST_ENTRIES-clause-far
returns-then-position-from-gt-MOST_ENTRIES-clause-far c = inr (refl, omega arith)

pub returns-else-position-from-gt-MOST_ENTRIES-clause-far : goal.returns-else-position-from-gt-MOST_ENTRIES-clause-far
returns-else-position-from-gt-MOST_ENTRIES-clause-far c = inl refl
