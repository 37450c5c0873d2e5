use Rattle.shared_cells.specs.Spots.{numbered}
use Rattle.shared_cells.proofs.DirectoryLemmas.{CoversSoFar}
use Rattle.shared_cells.proofs.directory.Directory.cover.Given as goal

-- the pieces so far are parts
abbrev pub invariant-loop-piece : goal.invariant-loop-piece
invariant-loop-piece g l = CoversSoFar (λ part. numbered part.range part.cell) l.join l.fn.range l.is_kept l.initial.self l.self l.yielded l.parts.items
