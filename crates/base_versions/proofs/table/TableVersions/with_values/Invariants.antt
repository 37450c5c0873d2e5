use Rattle.std.proofs.Common.{◌≡◌, map}
use Rattle.std.specs.List.{AllByRecursion}
use Rattle.base_versions.specs.Valued.{HasVersion}
use Rattle.base_versions.proofs.table.TableVersions.with_values.Given as goal

-- the keys so far are found, with what stands at them
abbrev pub invariant-loop-key : goal.invariant-loop-key
invariant-loop-key l = record {
  keys : map (λ change. change.key) l.found.items ≡ l.yielded;
  values : AllByRecursion (HasVersion l.p l.self.tracks) l.found.items;
}
