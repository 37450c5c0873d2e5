-- Histories of one client alone.
use Rattle.std.specs.Prelude.{◌≡◌}
use Rattle.std.specs.List.{AllByRecursion}
use Rattle.semantics.specs.Histories.{History}

-- every entry is of the client with the number 0
abbrev pub AreOwn : History → Type 0
AreOwn h = AllByRecursion (λ e. e.client ≡ 0) h
