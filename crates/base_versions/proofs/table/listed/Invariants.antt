use Rattle.std.proofs.Common.{◌≡◌, ◌++◌}
use Rattle.base_versions.specs.Versions.{AllAscend, pairs_in}
use Rattle.base_versions.proofs.MapLemmas.{AreKeys}
use Rattle.base_versions.proofs.table.listed.Given as goal

abbrev pub invariant-loop-place : goal.invariant-loop-place
invariant-loop-place l =
    record {
      keys : AreKeys l.place-iterator;
      pairs : AllAscend l.fn.tracks → AllAscend l.place-iterator × (l.pairs.items ++ pairs_in l.p l.place-iterator ≡ pairs_in l.p l.fn.tracks);
    }
