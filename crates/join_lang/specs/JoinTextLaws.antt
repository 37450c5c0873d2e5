-- The laws on the text of a join.
use Rattle.std.specs.Prelude.{◌≡◌, ℕ, ◌+◌, ◌<◌, ◌≤◌, ◌⊎◌, List, [], ◌∷◌, ◌++◌, length, true, Ok}
use Rattle.std.specs.List.{list_all, AllByRecursion, IsDistinct}
use Rattle.semantics.specs.Texts.{Text, same}
use Rattle.semantics.specs.Joins.{Join, is_join, slots_of, source_slots_of}
use Rattle.protocol.specs.JoinText.{is_name, pattern_print, read_join, canonical_text}

-- what a text is read as is a join
abbrev pub ReadsJoins : Type 0
ReadsJoins = (text : Text) (j : Join) → read_join text ≡ Ok j → is_join j ≡ true

-- the canonical text of a join that was read is read as that join
abbrev pub ReadsBack : Type 0
ReadsBack = (text : Text) (j : Join) → read_join text ≡ Ok j → read_join (canonical_text j) ≡ Ok j

-- ---- which joins are read

-- each slot, by its place and width, has one of the first n places or the next one, which then counts too; at the end there are as many as `total`
abbrev pub AreInOrder : ℕ → List (ℕ × ℕ) → ℕ → Type 0
AreInOrder n [] total = n ≡ total
AreInOrder n (s ∷ ss) total = ((s.0 < n) × AreInOrder n ss total) ⊎ ((s.0 ≡ n) × AreInOrder (n + 1) ss total)

-- a join that keeps the rule on names and has a short text: each name is one and stands once, places are numbered in order of first occurrence, the output first, and there is a name for each
pub record IsWritable (j : Join) : Type 0 where
  pub is_join : is_join j ≡ true
  pub named : list_all is_name j.names ≡ true
  pub distinct : IsDistinct same j.names
  pub in_order : AreInOrder 0 (slots_of j.output ++ source_slots_of j.sources) (length j.names)
  pub short_output : length (pattern_print j.names j.output) ≤ 512
  pub short_sources : AllByRecursion (λ s. length (pattern_print j.names s.pattern) ≤ 512) j.sources
  pub short : length (canonical_text j) ≤ 4096

-- every such join is read from its canonical text
abbrev pub ReadsEachWritable : Type 0
ReadsEachWritable = (j : Join) → IsWritable j → read_join (canonical_text j) ≡ Ok j
