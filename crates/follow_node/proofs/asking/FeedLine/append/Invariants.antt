use Rattle.std.proofs.Common.{◌≡◌, ◌+◌, ◌++◌, take}
use Rattle.follow_node.proofs.asking.FeedLine.append.Given as goal

abbrev pub invariant-loop-byte : goal.invariant-loop-byte
invariant-loop-byte l = (l.self.len ≡ l.initial.self.len + l.byte-index) × (take l.self.len l.self.bytes ≡ take l.initial.self.len l.initial.self.bytes ++ take l.byte-index l.more)
