-- That the kinds of joins change nothing.
use Rattle.std.specs.Prelude.{◌≡◌, map}
use Rattle.semantics.specs.Joins.{pull, Join}
use Rattle.semantics.specs.Histories.{Write, put, remove, declare, drop_join, Entry, History}
use Rattle.semantics.specs.States.{state}
use Rattle.semantics.specs.Verdicts.{verdict}
use Rattle.semantics.specs.Answers.{Read, answer}

-- the join with `pull` for its kind
abbrev pub pulled : Join → Join
pulled j = record { output = j.output; kind = pull; sources = j.sources; names = j.names }

-- the write with `pull` for the kind of what it declares
abbrev pub pulled_write : Write → Write
pulled_write (put k v) = put k v
pulled_write (remove k) = remove k
pulled_write (declare j) = declare (pulled j)
pulled_write (drop_join at) = drop_join at

abbrev pub pulled_entry : Entry → Entry
pulled_entry e = record { client = e.client; write = pulled_write e.write }

-- the history with `pull` for each kind
abbrev pub pulled_history : History → History
pulled_history h = map pulled_entry h

-- the writes are the same but for the kind of what they declare
abbrev pub DifferInKind : Write → Write → Type 0
DifferInKind w other = pulled_write w ≡ pulled_write other

-- the histories are the same but for the kinds of the joins that they declare
abbrev pub DifferInKinds : History → History → Type 0
DifferInKinds h other = pulled_history h ≡ pulled_history other

-- after both histories there is the same state, each read has the same answer, and writes that differ in kind have the same verdict
pub record AreAlike (h other : History) : Type 0 where
  pub states : state h ≡ state other
  pub answers : (read : Read) → answer read h ≡ answer read other
  pub verdicts : (w v : Write) → DifferInKind w v → verdict w h ≡ verdict v other

-- kinds change nothing
abbrev pub KindsChangeNothing : Type 0
KindsChangeNothing = (h other : History) → DifferInKinds h other → AreAlike h other
