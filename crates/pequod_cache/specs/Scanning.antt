-- What a scan found.
use Rattle.std.specs.Prelude.{◌≡◌, ℕ, Option, Some, None, Vec}
use Rattle.std.specs.declared.alloc.Global.{Global}
use Rattle.json.specs.Written.{Written}
use Rattle.semantics.specs.Texts.{Text, Table}
use Rattle.request_codec.specs.Written.{HasPairs}

-- the pairs in a range after so many entries are these: they were given, or stand in what is written where none were
abbrev pub HasFound : ℕ → Written → Option (Vec (Text × Text) Global) → Table → Type 0
HasFound position line None rows = HasPairs position rows line
HasFound position line (Some pairs) rows = pairs.items ≡ rows
