-- What the stays tell of the first entries of a history: the last declaration or drop, and the last drop of each table.
use Rattle.std.specs.Prelude.{ℕ, List, filter, max, nat_le, if◌then◌else◌, Option, Some, None}
use Rattle.std.specs.BTreeMap.{BTreeMap, get_by_text}
use Rattle.std.specs.Option.{unwrap_or}
use Rattle.std.specs.declared.string.String.{String}
use Rattle.semantics.specs.Texts.{Text}
use Rattle.semantics.specs.Stays.{Stay, is_after}
use Rattle.growing_history.specs.Changes.{has_table}
use Rattle.join_set.specs.Sets.{greatest}

-- a position, where it lies up to another; otherwise 0
abbrev pub up_to : ℕ → ℕ → ℕ
up_to p n = if nat_le n p then n else 0

-- the position of the drop that ends a stay, where it lies up to another; otherwise 0
abbrev pub end_up_to : ℕ → Option ℕ → ℕ
end_up_to p None = 0
end_up_to p (Some d) = up_to p d

-- the last of a stay's declaration and drop that lies up to a position, 0 where neither does
abbrev pub change_up_to : ℕ → Stay → ℕ
change_up_to p s = max (up_to p s.position) (end_up_to p s.until)

-- the drop of a stay that lies up to a position, where its join has its output in a table; otherwise 0
abbrev pub drop_up_to : ℕ → Text → Stay → ℕ
drop_up_to p table s = if has_table s.join.output table then end_up_to p s.until else 0

-- the last declaration or drop up to a position
abbrev pub changed_up_to : ℕ → List Stay → ℕ
changed_up_to p stays = greatest (change_up_to p) stays

-- the last drop, up to a position, of a join with its output in a table
abbrev pub dropped_up_to : ℕ → Text → List Stay → ℕ
dropped_up_to p table stays = greatest (drop_up_to p table) stays

-- the stays that have not ended up to a floor
abbrev pub kept_stays : ℕ → List Stay → List Stay
kept_stays floor stays = filter (λ s. is_after floor s.until) stays

-- the position that a map has for a table, 0 where it has none
abbrev pub end_of : {A : Type 0} → Text → BTreeMap (String A) ℕ → ℕ
end_of table ends = unwrap_or (get_by_text ends table) 0
