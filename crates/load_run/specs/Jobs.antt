-- Clients with the acts that they are to do.
use Rattle.std.specs.Prelude.{◌≡◌, ℕ, ◌<◌, List, [], ◌++◌, length, slice_index_or}
use Rattle.write_history.specs.Passes.{PassView}
use Rattle.load_gen.specs.declared.acts.Act.{Act}
use Rattle.load_gen.specs.Entries.{entries_of}
use Rattle.load_gen.specs.Shares.{acts_of}
use Rattle.pequod_cache.specs.Adding.{HasAdded}

-- a client, and its acts in order
pub record Assigned : Type 0 where
  pub client : PassView
  pub acts : List Act

-- a job for each client, without acts
pub record AreIdle (clients : List PassView) (jobs : List Assigned) : Type 0 where
  pub counted : length jobs ≡ length clients
  pub each : (i : ℕ) (d : Assigned) → i < length clients → slice_index_or jobs i d ≡ record { client = slice_index_or clients i d.client; acts = [] }

-- each job has its share of the acts behind those that it had
pub record AreDealt (acts : List Act) (before after : List Assigned) : Type 0 where
  pub counted : length after ≡ length before
  pub each : (i : ℕ) (d : Assigned) → i < length before →
      slice_index_or after i d ≡ record (slice_index_or before i d) { acts = (slice_index_or before i d).acts ++ acts_of (length before) i acts }

-- a client has done the acts of its job, in order
abbrev pub IsDone : Assigned → PassView → Type 0
IsDone job client = HasAdded (entries_of job.client.number job.acts) job.client client

-- each client has done its share of the acts, in order
pub record HaveWorked (acts : List Act) (before after : List PassView) : Type 0 where
  pub counted : length after ≡ length before
  pub each : (i : ℕ) (d e : PassView) → i < length before →
      HasAdded (entries_of (slice_index_or before i d).number (acts_of (length before) i acts)) (slice_index_or before i d) (slice_index_or after i e)
