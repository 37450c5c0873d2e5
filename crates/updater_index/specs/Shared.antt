-- With which bytes two texts begin, and where they part.
use Rattle.std.specs.Prelude.{ℕ, ◌+◌, ◌==◌, [], ◌∷◌, if◌then◌else◌}
use Rattle.std.specs.List.{slice_get}
use Rattle.std.specs.Option.{option_map_or}
use Rattle.semantics.specs.Texts.{Text}

-- with how many equal bytes two texts begin
abbrev pub shared_len : Text → Text → ℕ
shared_len [] other = 0
shared_len (b ∷ bs) [] = 0
shared_len (b ∷ bs) (c ∷ cs) = if b == c then shared_len bs cs + 1 else 0

-- the byte of a text at a place, plus one; 0 past its end
abbrev pub next_at : ℕ → Text → ℕ
next_at place text = option_map_or (λ b. b + 1) (slice_get text place) 0
