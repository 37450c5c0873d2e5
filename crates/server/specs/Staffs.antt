-- Clients that begin with joins declared.
use Rattle.std.specs.Prelude.{◌≡◌, ℕ, ◌+◌, ◌<◌, List, [], length, map, slice_index_or, ⊤}
use Rattle.semantics.specs.Joins.{Join}
use Rattle.semantics.specs.Histories.{declare, History, IsPrefix}
use Rattle.semantics.specs.Verdicts.{AllEntered}
use Rattle.protocol.specs.Replies.{Reply, done, answered, refused, gone, ahead, changed, fed, unread, long, memory, bye}
use Rattle.write_history.specs.Passes.{HistoryId, PassView, own}

-- the declarations of joins, in order, by the client with the number 0
abbrev pub declared : List Join → History
declared joins = map (λ j. record { client = 0; write = declare j }) joins

-- each join has nothing against it after those before it
abbrev pub AreDeclarable : List Join → Type 0
AreDeclarable joins = AllEntered (declared joins)

-- the reply says that a write entered, or that no memory was found
abbrev pub IsDoneOrMemory : Reply → Type 0
IsDoneOrMemory (done n) = ⊤
IsDoneOrMemory (answered a) = ⊥
IsDoneOrMemory (refused n cause) = ⊥
IsDoneOrMemory (gone n) = ⊥
IsDoneOrMemory (ahead n) = ⊥
IsDoneOrMemory (changed from n changes) = ⊥
IsDoneOrMemory (fed from n changes) = ⊥
IsDoneOrMemory (unread fault) = ⊥
IsDoneOrMemory long = ⊥
IsDoneOrMemory memory = ⊤
IsDoneOrMemory bye = ⊥

-- the client with a number, of the history, which may write, has seen these entries first, and has written nothing
pub record IsIdle (history : HistoryId) (number : ℕ) (entries : History) (client : PassView) : Type 0 where
  pub same_history : client.history ≡ history
  pub numbered : client.number ≡ number
  pub writer : number < client.writers
  pub begins : IsPrefix entries client.view
  pub none : own client ≡ []

-- all that may write to the history: the first client has the number 0; the others have the numbers from 1 up, have seen first what
-- the first has written, and have written nothing
pub record WritesAlone (history : HistoryId) (first : PassView) (others : List PassView) : Type 0 where
  pub numbered : first.number ≡ 0
  pub all : first.writers ≡ length others + 1
  pub each : (i : ℕ) (d : PassView) → i < length others → IsIdle history (i + 1) (own first) (slice_index_or others i d)

-- all that may write to the history: the first client has written the declarations and nothing else, and nobody else has written;
-- the others are the workers'
pub record AreStaff (history : HistoryId) (joins : List Join) (first : PassView) (workers : List PassView) : Type 0 where
  pub alone : WritesAlone history first workers
  pub wrote : own first ≡ declared joins
