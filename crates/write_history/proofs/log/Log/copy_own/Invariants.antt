use Rattle.std.proofs.Common.{◌≡◌, ◌+◌, ◌-◌, take, drop}
use Rattle.base_versions.specs.Own.{own_from}
use Rattle.write_history.proofs.log.Log.copy_own.Given as goal

-- those of the part so far are copied
abbrev pub invariant-loop-place : goal.invariant-loop-place
invariant-loop-place l = l.copies.items ≡ take (l.place - l.first) (drop l.first (own_from 16 l.part (l.self.lacks + 1) l.self.entries))
