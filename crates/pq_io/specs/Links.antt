-- What a link tells.
use Rattle.std.specs.Prelude.{ℕ, List, Option, None, ⊤}

-- the bytes that are left to read and those that were taken, where they are told, how many reads and writes have failed, and
-- whether memory was refused for it where its use has ended
pub record LinkTold : Type 0 where
  pub left : Option (List ℕ)
  pub taken : Option (List ℕ)
  pub read_faults : ℕ
  pub write_faults : ℕ
  pub refused : Option ⊤

-- what a link in use tells, by what tells each part
abbrev pub link_told : {K : Type 0} → (K → Option (List ℕ)) → (K → Option (List ℕ)) → (K → ℕ) → (K → ℕ) → K → LinkTold
link_told left taken read_faults write_faults link = record {
  left = left link;
  taken = taken link;
  read_faults = read_faults link;
  write_faults = write_faults link;
  refused = None;
}

-- what contracts see of a link over a stream: the stream, and how many reads and how many writes have failed
pub record StreamLink (S : Type 0) : Type 0 where
  pub stream : S
  pub reads : ℕ
  pub writes : ℕ
