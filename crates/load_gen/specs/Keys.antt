-- The keys that the load writes.
use Rattle.std.specs.Prelude.{ℕ, ◌-◌, ◌∷◌, ◌++◌, length, replicate, codes, decimal}
use Rattle.semantics.specs.Texts.{Text, bar}

-- the decimal of a number, with zeros in front up to a width
abbrev pub padded : ℕ → ℕ → Text
padded width n = replicate (width - length (decimal n)) 48 ++ decimal n

-- a user follows a poster
abbrev pub subscription : ℕ → ℕ → Text
subscription user poster = codes "s|" ++ padded 4 user ++ bar ∷ padded 4 poster

-- a poster posted at a time
abbrev pub post : ℕ → ℕ → Text
post poster time = codes "p|" ++ padded 4 poster ++ bar ∷ padded 8 time

-- a user votes for a poster
abbrev pub vote : ℕ → ℕ → Text
vote poster user = codes "v|" ++ padded 4 poster ++ bar ∷ padded 4 user
