-- Ids with their weights, in the order of their last use, and which of them have to go.
use Rattle.std.specs.Prelude.{◌≡◌, ℕ, ◌+◌, ◌<◌, ◌≤◌, ◌^◌, ◌==◌, List, [], ◌∷◌, ◌++◌, length, take, drop, map, filter, sum_by, min, not, nat_le, if◌then◌else◌}

-- ids, each with its weight
abbrev pub Used : Type 0
Used = List (ℕ × ℕ)

-- the ids that are there with their weights, the least recently used first; below which number ids are; and how much they may weigh together
pub record Book : Type 0 where
  pub used : Used
  pub cells : ℕ
  pub limit : ℕ

-- a book by its parts
abbrev pub book : Used → ℕ → ℕ → Book
book used cells limit = record { used = used; cells = cells; limit = limit }

-- what a range with so many rows weighs: one more, and 2^48 at most
abbrev pub weigh : ℕ → ℕ
weigh rows = min (rows + 1) (2 ^ 48)

-- what ids weigh together
abbrev pub total_weight : Used → ℕ
total_weight used = sum_by (λ e. e.1) used

-- the ids without one
abbrev pub without : ℕ → Used → Used
without id used = filter (λ e. not (id == e.0)) used

-- the ids with one, which has so many rows, as the most recently used
abbrev pub with_use : ℕ → ℕ → Used → Used
with_use id rows used = without id used ++ (id, weigh rows) ∷ []

-- the ids that have to go: the first ones, until the others weigh no more than the limit together
abbrev pub victims_of : ℕ → Used → List ℕ
victims_of limit [] = []
victims_of limit (e ∷ es) = if nat_le (total_weight (e ∷ es)) limit then [] else e.0 ∷ victims_of limit es

-- the ids that are left when these have gone
abbrev pub left_of : ℕ → Used → Used
left_of limit [] = []
left_of limit (e ∷ es) = if nat_le (total_weight (e ∷ es)) limit then e ∷ es else left_of limit es

-- ---- laws

-- what is left weighs no more than the limit together
abbrev pub LeftFits : Type 0
LeftFits = (limit : ℕ) (used : Used) → total_weight (left_of limit used) ≤ limit

-- the ids that go are the first ones, and the others are left
abbrev pub VictimsGoFirst : Type 0
VictimsGoFirst = (limit : ℕ) (used : Used) →
    (victims_of limit used ≡ map (λ e. e.0) (take (length (victims_of limit used)) used)) × (left_of limit used ≡ drop (length (victims_of limit used)) used)

-- with fewer gone the others would weigh more than the limit together
abbrev pub VictimsAreFewest : Type 0
VictimsAreFewest = (limit : ℕ) (used : Used) (count : ℕ) → count < length (victims_of limit used) → limit < total_weight (drop count used)
