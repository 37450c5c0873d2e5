use Rattle.std.proofs.Common.{◌≡◌, ◌-◌, drop}
use Rattle.write_history.proofs.entry_list.EntryList.drop_to.Given as goal

-- the entries up to the floor are dropped
abbrev pub invariant-loop-chunk : goal.invariant-loop-chunk
invariant-loop-chunk l = record {
  entries : l.self.entries ≡ drop (l.floor - l.fn.self.lacks) l.fn.self.entries;
  lacks : l.self.lacks ≡ l.floor;
}
