use Rattle.std.proofs.Common.{◌≡◌, [], ◌∷◌, ◌++◌, reverse}
use Rattle.evict_book.specs.Books.{total_weight, without, victims_of}
use Rattle.evict_book.proofs.book.EvictBook.victims.Given as goal

abbrev pub invariant-loop-other : goal.invariant-loop-other
invariant-loop-other l = record {
  victims : l.victims.items ++ victims_of l.self.limit (without l.id (reverse l.other-iterator.iter) ++ (l.id, l.weight) ∷ []) ≡ victims_of l.self.limit (without l.id l.self.used ++ (l.id, l.weight) ∷ []);
  left : l.left ≡ total_weight (without l.id (reverse l.other-iterator.iter) ++ (l.id, l.weight) ∷ []);
}
