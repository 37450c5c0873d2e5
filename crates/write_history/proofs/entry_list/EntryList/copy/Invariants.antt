use Rattle.std.proofs.Common.{◌≡◌, ◌-◌, take, drop}
use Rattle.write_history.proofs.entry_list.EntryList.copy.Given as goal

abbrev pub invariant-loop-place : goal.invariant-loop-place
invariant-loop-place l = l.copies.items ≡ take (l.place - l.from) (drop (l.from - l.self.lacks) l.self.entries)
