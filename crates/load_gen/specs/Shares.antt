-- A load that workers share.
use Rattle.std.specs.Prelude.{◌≡◌, ℕ, ◌+◌, ◌%◌, ◌==◌, ◌<◌, ◌≤◌, List, filter, length}
use Rattle.std.specs.List.{AllByRecursion}
use Rattle.semantics.specs.Histories.{History, IsPrefix}
use Rattle.semantics.specs.States.{state}
use Rattle.load_gen.specs.Plans.{planned}
use Rattle.load_gen.specs.declared.acts.Act.{Act}
use Rattle.load_gen.specs.declared.acts.Act.TheVariants.{Change, Look}
use Rattle.load_gen.specs.Entries.{declared_joins, entries_of, load_history}

-- the poster whom an act names
abbrev pub poster_of : Act → ℕ
poster_of (Change poster write) = poster
poster_of (Look poster user) = poster

-- the acts of a worker, of so many, in order: those whose poster, modulo the workers, is its number
abbrev pub acts_of : ℕ → ℕ → List Act → List Act
acts_of workers worker acts = filter (λ act. poster_of act % workers == worker) acts

-- the entries of a client, in order
abbrev pub entries_by : ℕ → History → History
entries_by client h = filter (λ e. e.client == client) h

-- acts that workers share: the client with the number 0 declares the joins first, and writes nothing else; the clients with the numbers from 1 up are the workers, and each writes what its acts write, in order; nobody else writes
pub record IsShared (workers : ℕ) (acts : List Act) (h : History) : Type 0 where
  pub begins : IsPrefix declared_joins h
  pub below : AllByRecursion (λ e. e.client < workers + 1) h
  pub first : entries_by 0 h ≡ declared_joins
  pub each : (worker : ℕ) → worker < workers → entries_by (worker + 1) h ≡ entries_of (worker + 1) (acts_of workers worker acts)

-- however the entries of the workers interleave, there are as many, and the state after them is the same, as where one client does all acts alone
abbrev pub SharedLoadIsLoad : Type 0
SharedLoadIsLoad = (number steps users workers : ℕ) (h : History) → 1 ≤ workers → 1 ≤ users → users ≤ 9999 → IsShared workers (planned number steps users) h →
    (length h ≡ length (load_history number steps users)) × (state h ≡ state (load_history number steps users))
