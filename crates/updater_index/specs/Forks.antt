-- Where the bounds of ranges part.
use Rattle.std.specs.Prelude.{take}
use Rattle.std.specs.Ordering.{nat_cmp, then_cmp, on}
use Rattle.std.specs.declared.cmp.Ordering.{Ordering}
use Rattle.semantics.specs.Texts.{text_cmp, Range}
use Rattle.updater_index.specs.Shared.{shared_len, next_at}
use Rattle.updater_index.specs.declared.fork.Fork.{Fork}

-- where the bounds of a range part
abbrev pub fork_of : Range → Fork
fork_of r = record { beginning = take (shared_len r.low r.high) r.high; next = next_at (shared_len r.low r.high) r.high }

-- the order of forks
abbrev pub fork_cmp : Fork → Fork → Ordering
fork_cmp = then_cmp (on (λ f. f.beginning) text_cmp) (on (λ f. f.next) nat_cmp)
