use Rattle.std.proofs.Common.{take, false}
use Rattle.std.specs.List.{AllByRecursion}
use Rattle.lazy_log.specs.Index.{IsSought}
use Rattle.lazy_log.proofs.index.has_any.Given as goal

abbrev pub invariant-loop-shape : goal.invariant-loop-shape
invariant-loop-shape l = AllByRecursion (λ shape. IsSought l.slots.keys l.found shape false) (take l.shape-index l.shapes)
