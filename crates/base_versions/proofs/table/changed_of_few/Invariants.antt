use Rattle.std.proofs.Common.{◌≡◌, ◌++◌}
use Rattle.base_versions.specs.Versions.{AllAscend, keys_changed}
use Rattle.base_versions.proofs.MapLemmas.{AreKeys}
use Rattle.base_versions.proofs.table.changed_of_few.Given as goal

abbrev pub invariant-loop-place : goal.invariant-loop-place
invariant-loop-place l =
    record {
      keys : AreKeys l.place-iterator;
      changed : AllAscend l.fn.tracks → AllAscend l.place-iterator × (l.keys.items ++ keys_changed l.q l.p l.place-iterator ≡ keys_changed l.q l.p l.fn.tracks);
    }
