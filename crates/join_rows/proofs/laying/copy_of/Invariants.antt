use Rattle.std.proofs.Common.{◌≡◌, take}
use Rattle.std.specs.List.{AllByRecursion}
use Rattle.join_rows.specs.Laid.{rows_of, IsWithin}
use Rattle.join_rows.proofs.laying.copy_of.Given as goal

abbrev pub invariant-loop-entry : goal.invariant-loop-entry
invariant-loop-entry l = record {
  rows : rows_of l.texts.items l.places.items ≡ rows_of l.bytes (take l.entry-index l.entries);
  within : AllByRecursion (λ e. IsWithin l.texts.items e) l.places.items;
}
