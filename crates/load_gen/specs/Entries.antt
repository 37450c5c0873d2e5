-- The entries of a load.
use Rattle.std.specs.Prelude.{ℕ, List, [], ◌∷◌, flat_map}
use Rattle.semantics.specs.Histories.{Write, declare, Entry, History}
use Rattle.join_types.specs.Writes.{plain_write}
use Rattle.load_gen.specs.Joins.{timeline, karma}
use Rattle.load_gen.specs.Plans.{planned}
use Rattle.load_gen.specs.declared.acts.Act.{Act}
use Rattle.load_gen.specs.declared.acts.Act.TheVariants.{Change, Look}

-- the entry of a write by a client with a number
abbrev pub entry_by : ℕ → Write → Entry
entry_by client w = record { client = client; write = w }

-- the entry of an act that a client does, where the act writes
abbrev pub act_entries : ℕ → Act → History
act_entries client (Change poster write) = entry_by client (plain_write write) ∷ []
act_entries client (Look poster user) = []

-- the entries of acts that a client does in order
abbrev pub entries_of : ℕ → List Act → History
entries_of client acts = flat_map (act_entries client) acts

-- the declarations of the joins, by the client with the number 0
abbrev pub declared_joins : History
declared_joins = entry_by 0 (declare timeline) ∷ entry_by 0 (declare karma) ∷ []

-- the entries of a load of so many acts by so many users, drawn from a number, where one client does it alone: the two declarations, and then the writes of the acts
abbrev pub load_history : ℕ → ℕ → ℕ → History
load_history number steps users = entry_by 0 (declare timeline) ∷ entry_by 0 (declare karma) ∷ entries_of 0 (planned number steps users)
