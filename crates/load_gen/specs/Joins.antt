-- The joins over the load.
use Rattle.std.specs.Prelude.{◌≡◌, [], ◌∷◌, codes, Ok}
use Rattle.semantics.specs.Patterns.{literal, slot}
use Rattle.semantics.specs.Joins.{Join, check, copy, count, push}
use Rattle.protocol.specs.JoinText.{read_join}

-- the timelines: of each user, the posts of those that the user follows, by their times
abbrev pub timeline : Join
timeline = record {
  output = literal (codes "t") ∷ slot 0 4 ∷ slot 1 8 ∷ slot 2 4 ∷ [];
  kind = push;
  sources = record { operator = check; pattern = literal (codes "s") ∷ slot 0 4 ∷ slot 2 4 ∷ [] } ∷ record { operator = copy; pattern = literal (codes "p") ∷ slot 2 4 ∷ slot 1 8 ∷ [] } ∷ [];
  names = codes "user" ∷ codes "time" ∷ codes "poster" ∷ [];
}

-- the number of votes for each poster
abbrev pub karma : Join
karma = record {
  output = literal (codes "karma") ∷ slot 0 4 ∷ [];
  kind = push;
  sources = record { operator = count; pattern = literal (codes "v") ∷ slot 0 4 ∷ slot 1 4 ∷ [] } ∷ [];
  names = codes "poster" ∷ codes "user" ∷ [];
}

-- the joins are those that their texts are read as
abbrev pub JoinsHaveTexts : Type 0
JoinsHaveTexts =
    (read_join (codes "t|<user:4>|<time:8>|<poster:4> = check s|<user:4>|<poster:4> copy p|<poster:4>|<time:8>") ≡ Ok timeline)
    × (read_join (codes "karma|<poster:4> = count v|<poster:4>|<user:4>") ≡ Ok karma)
