-- The loop of `write_link`.
use Rattle.std.proofs.Common.{◌≡◌, ℕ, ◌≤◌, List, length, take}
use Rattle.std.specs.declared.option.Option.{Option}
use Rattle.pq_io.specs.Streams.{Took}

-- the first `done` bytes were taken, and all else stayed, the count of failed writes among it
pub record HasWritten {G : Type 0} (bytes : List ℕ) (done : ℕ) (taken taken' : Option (List ℕ)) (write_faults write_faults' : ℕ) (left left' : Option (List ℕ)) (read_faults read_faults' : ℕ) (borrows borrows' : List G) : Type 0 where
  pub within : done ≤ length bytes
  pub took : Took taken taken' (take done bytes)
  pub same_write_faults : write_faults' ≡ write_faults
  pub same_left : left' ≡ left
  pub same_read_faults : read_faults' ≡ read_faults
  pub same_borrows : borrows' ≡ borrows
