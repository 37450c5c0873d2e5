-- What a pull makes of the lines of a home.
use Rattle.std.specs.Prelude.{◌≡◌, ℕ, ◌+◌, ◌<◌, ◌≤◌, ◌==◌, ◌&&◌, ◌||◌, ◌⊎◌, nat_le, List, [], ◌++◌, drop, length, Bool, true, false, if◌then◌else◌, Option, Some, None, Result, Ok, Err, unwrap_or, ⊤}
use Rattle.semantics.specs.Histories.{Write}
use Rattle.protocol.specs.Lines.{Bytes}
use Rattle.protocol.specs.Batches.{Batch}
use Rattle.follow_node.specs.FedLines.{FedLine, of_entries, of_memory, of_gone, of_ahead, of_none, fed_line}
use Rattle.follow_node.specs.Fed.{writes_of}
use Rattle.follow_node.specs.Replicas.{TakesSome}
use Rattle.follow_node.specs.Heard.{Hears}
use Rattle.follow_node.specs.Feeders.{FeederView, given}
use Rattle.follow_node.specs.declared.replica.Taken.{Taken}
use Rattle.follow_node.specs.declared.replica.Taken.TheVariants as taken
use Rattle.follow_node.specs.declared.pulled.Pulled.{Pulled}
use Rattle.follow_node.specs.declared.pulled.Pulled.TheVariants.{Level, HomeMemory, Gone, Ahead, Bad, Ended, Over, ReadFault, WriteFault, OutOfMemory}

-- what a line is to the pull that reads it
pub data Heed : Type 0 where
  takes : Batch → Heed
  at_memory : Heed
  at_gone : ℕ → Heed
  at_ahead : ℕ → Heed
  is_bad : Heed

abbrev pub at_least : Option ℕ → ℕ → Bool
at_least None n = true
at_least (Some first) n = nat_le first n

-- entries may be taken where they begin at the position that was asked for, where n isn't below that of the pull's first line or below the
-- length taken, and where there is one unless n is no more than what was asked for
abbrev pub is_next : Option ℕ → ℕ → ℕ → ℕ → ℕ → Bool
is_next first asked from n count = (from == asked) && (at_least first n && (nat_le (from + count) n && (nat_le 1 count || nat_le n from)))

abbrev pub heed : Option ℕ → ℕ → FedLine → Heed
heed first asked (of_entries b) = if is_next first asked b.from b.position (length b.entries) then takes b else is_bad
heed first asked of_memory = at_memory
heed first asked (of_gone n) = at_gone n
heed first asked (of_ahead n) = at_ahead n
heed first asked of_none = is_bad

-- what the feeder's line is
abbrev pub heed_line : Option ℕ → FeederView → Heed
heed_line first f = heed first f.asked (fed_line f.line)

-- the rest of the line's writes, so far as they were taken
pub record TakesRest (first : Option ℕ) (f : FeederView) (ws : List Write) (result : Taken) (n : ℕ) (ws' : List Write) : Type 0 where
  pub batch : Batch
  pub heeds : heed_line first f ≡ takes batch
  pub took : TakesSome ws (drop f.taken (writes_of batch.entries)) result n ws'

-- a feeder that takes its line: how it and the replica's writes go on
abbrev pub TakesLine : Option ℕ → FeederView → FeederView → List Write → List Write → Result ℕ Pulled → Type 0
TakesLine first f f' ws ws' (Ok goal) =
    ((n : ℕ) × (rest : TakesRest first f ws taken.Done n ws') × (goal ≡ unwrap_or first rest.batch.position)) × (f'.kept ≡ false) × (f'.ended ≡ false)
TakesLine first f f' ws ws' (Err Level) = ⊥
TakesLine first f f' ws ws' (Err HomeMemory) = (heed_line first f ≡ at_memory) × (ws' ≡ ws) × (f'.kept ≡ false) × (f'.ended ≡ false)
TakesLine first f f' ws ws' (Err (Gone n)) = (heed_line first f ≡ at_gone n) × (ws' ≡ ws) × (f'.ended ≡ true)
TakesLine first f f' ws ws' (Err (Ahead n)) = (heed_line first f ≡ at_ahead n) × (ws' ≡ ws) × (f'.ended ≡ true)
TakesLine first f f' ws ws' (Err Bad) =
    (((heed_line first f ≡ is_bad) × (ws' ≡ ws)) ⊎ ((n : ℕ) × TakesRest first f ws taken.Refused n ws')) × (f'.ended ≡ true)
TakesLine first f f' ws ws' (Err Ended) = ⊥
TakesLine first f f' ws ws' (Err Over) = ⊥
TakesLine first f f' ws ws' (Err ReadFault) = ⊥
TakesLine first f f' ws ws' (Err WriteFault) = ⊥
TakesLine first f f' ws ws' (Err (OutOfMemory memory)) =
    (((f'.taken ≡ f.taken) × (ws' ≡ ws)) ⊎ ((n : ℕ) × (f'.taken ≡ f.taken + n) × TakesRest first f ws (taken.OutOfMemory memory) n ws'))
    × (f'.line ≡ f.line) × (f'.asked ≡ f.asked) × (f'.kept ≡ true) × (f'.ended ≡ false)

-- the line that a feeder heard, which it keeps, or why it heard none
abbrev pub IsHeard : Option Bytes → Bytes → ℕ → FeederView → FeederView → Result ⊤ Pulled → Type 0
IsHeard left bytes asked f f' (Ok x) = Hears left bytes f'.line (Ok x) × (f'.kept ≡ true) × (f'.asked ≡ asked) × (f'.taken ≡ 0) × (f'.ended ≡ false)
IsHeard left bytes asked f f' (Err pulled) =
    (((bytes ≡ []) × (pulled ≡ WriteFault)) ⊎ ((line : Bytes) × Hears left bytes line (Err pulled))) × (f'.ended ≡ true) × (given f' ≡ given f)

-- the line that is taken next: the one that the feeder keeps, or the one that these bytes are, which was asked for behind the writes
pub data Readies (left : Option Bytes) (f : FeederView) (ws : List Write) : Bytes → FeederView → Type 0 where
  kept_line : f.ended ≡ false → f.kept ≡ true → Readies left f ws [] f
  read_line : (bytes : Bytes) (g : FeederView) → f.ended ≡ false → f.kept ≡ false → Hears left bytes g.line (Ok tt) → g.asked ≡ length ws → g.taken ≡ 0 → Readies left f ws bytes g

-- a pull, from a feeder and writes, with the number of entries of its first line, where it had one: the bytes that the home gave, the answer, and the
-- feeder and the writes after it
pub data Pulls (left : Option Bytes) : Option ℕ → FeederView → List Write → Bytes → Pulled → FeederView → List Write → Type 0 where
  over : (first : Option ℕ) (f : FeederView) (ws : List Write) → f.ended ≡ true → Pulls left first f ws [] Over f ws
  unasked : (first : Option ℕ) (f f' : FeederView) (ws : List Write) → f.ended ≡ false → f.kept ≡ false → f'.ended ≡ true → Pulls left first f ws [] WriteFault f' ws
  unheard : (first : Option ℕ) (f f' : FeederView) (ws : List Write) (bytes line : Bytes) (pulled : Pulled) →
      f.ended ≡ false → f.kept ≡ false → Hears left bytes line (Err pulled) → f'.ended ≡ true → Pulls left first f ws bytes pulled f' ws
  level : (first : Option ℕ) (f g f' : FeederView) (ws ws' : List Write) (bytes : Bytes) (goal : ℕ) →
      Readies left f ws bytes g → TakesLine first g f' ws ws' (Ok goal) → goal ≤ length ws' → Pulls left first f ws bytes Level f' ws'
  stops : (first : Option ℕ) (f g f' : FeederView) (ws ws' : List Write) (bytes : Bytes) (pulled : Pulled) →
      Readies left f ws bytes g → TakesLine first g f' ws ws' (Err pulled) → Pulls left first f ws bytes pulled f' ws'
  goes_on : (first : Option ℕ) (f g f' f'' : FeederView) (ws ws' ws'' : List Write) (bytes more : Bytes) (goal : ℕ) (pulled : Pulled) →
      Readies left f ws bytes g → TakesLine first g f' ws ws' (Ok goal) → length ws' < goal → Pulls left (Some goal) f' ws' more pulled f'' ws'' →
      Pulls left first f ws (bytes ++ more) pulled f'' ws''
