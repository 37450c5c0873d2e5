use Rattle.std.proofs.Common.{take, IfSome}
use Rattle.lazy_log.specs.Held.{slots_of}
use Rattle.lazy_log.specs.Index.{IsIndexOf}
use Rattle.lazy_log.proofs.index.index_of.Given as goal

abbrev pub invariant-loop-one : goal.invariant-loop-one
invariant-loop-one l = IfSome l.index (IsIndexOf l.output (slots_of (take l.one-index l.noted)))
