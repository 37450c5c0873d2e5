use Rattle.std.proofs.Common.{◌≡◌, length, reverse}
use Rattle.evict_book.specs.Books.{left_of}
use Rattle.evict_book.specs.Weighed.{AreWeighed}
use Rattle.evict_book.proofs.book.EvictBook.evict.Given as goal

abbrev pub invariant-loop-self : goal.invariant-loop-self
invariant-loop-self l = record {
  weighed : AreWeighed l.self-inside.weights l.self-inside.total l.self-inside.cells;
  left : left_of l.self-inside.limit (reverse l.self-inside.weights.entries) ≡ left_of l.fn.self.limit l.fn.self.used;
  cells : l.self-inside.cells ≡ l.fn.self.cells;
  limit : l.self-inside.limit ≡ l.fn.self.limit;
}

abbrev pub decreases-loop-self : goal.decreases-loop-self
decreases-loop-self l = length l.self-inside.weights.entries
