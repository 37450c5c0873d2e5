-- The joins that ever stood: each from its declaration on, and until it was dropped, if it was.
use Rattle.std.specs.Prelude.{◌≡◌, ℕ, ◌+◌, ◌&&◌, ◌||◌, ◌==◌, List, [], ◌∷◌, ◌++◌, map, filter, Bool, true, false, not, nat_lt, nat_le, if◌then◌else◌, Option, Some, None, is_none}
use Rattle.std.specs.List.{list_all}
use Rattle.semantics.specs.Joins.{Join}
use Rattle.semantics.specs.Histories.{Write, put, remove, declare, drop_join, History, DeclaredJoin}

-- a join, the position of its declaration and that of its drop
pub record Stay : Type 0 where
  pub position : ℕ
  pub join : Join
  pub until : Option ℕ

-- the stay as a join that stands
abbrev pub declared : Stay → DeclaredJoin
declared s = record { position = s.position; join = s.join }

-- the stay ends at a position, where it has not ended
abbrev ended : ℕ → ℕ → Stay → Stay
ended at position s = if (s.position == at) && is_none s.until then record { position = s.position; join = s.join; until = Some position } else s

-- the stays after a write that enters at a position
abbrev pub stays_after : ℕ → Write → List Stay → List Stay
stays_after position (put k v) stays = stays
stays_after position (remove k) stays = stays
stays_after position (declare j) stays = stays ++ record { position = position; join = j; until = None } ∷ []
stays_after position (drop_join at) stays = map (ended at position) stays

-- the stays after entries that begin at a position
abbrev pub stays_from : ℕ → List Stay → History → List Stay
stays_from position stays [] = stays
stays_from position stays (e ∷ es) = stays_from (position + 1) (stays_after position e.write stays) es

-- the stays of all joins that were declared, in order of position
abbrev pub stays_of : History → List Stay
stays_of h = stays_from 1 [] h

-- whether a stay has not ended after p entries
abbrev pub is_after : ℕ → Option ℕ → Bool
is_after p None = true
is_after p (Some d) = nat_lt p d

-- whether the join stands after p entries
abbrev pub stands_at : ℕ → Stay → Bool
stands_at p s = nat_le s.position p && is_after p s.until

-- the joins that stand after p entries
abbrev pub joins_at : ℕ → List Stay → List DeclaredJoin
joins_at p stays = map declared (filter (stands_at p) stays)

-- whether the join stands at some position from q to p
abbrev pub stands_between : ℕ → ℕ → Stay → Bool
stands_between q p s = nat_le s.position p && is_after q s.until

-- whether the stay neither begins nor ends after q and up to p
abbrev pub is_steady : ℕ → ℕ → Stay → Bool
is_steady q p s = (nat_le s.position q || nat_lt p s.position) && (is_after p s.until || not (is_after q s.until))

-- whether no join is declared or dropped after q and up to p
abbrev pub are_steady : ℕ → ℕ → List Stay → Bool
are_steady q p stays = list_all (is_steady q p) stays
