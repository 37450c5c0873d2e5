-- How a feeder stands to what the bytes feed that its home gave.
use Rattle.std.specs.Prelude.{◌≡◌, ◌⊎◌, List, [], ◌∷◌, ◌++◌, length, take, true, false, Option, None}
use Rattle.semantics.specs.Histories.{Write}
use Rattle.protocol.specs.Lines.{Bytes, whole_lines}
use Rattle.protocol.specs.Batches.{Batch}
use Rattle.follow_node.specs.FedLines.{of_entries, fed_line}
use Rattle.follow_node.specs.Fed.{writes_of, fed_onto, fed_of}
use Rattle.follow_node.specs.Heard.{IsShort}
use Rattle.follow_node.specs.Feeders.{FeederView}
use Rattle.follow_node.specs.Pulls.{Pulls}
use Rattle.follow_node.specs.declared.pulled.Pulled.{Pulled}
use Rattle.follow_node.specs.declared.pulled.Pulled.TheVariants.{Level}

-- however the bytes go on, what they feed goes on from these writes
abbrev pub FeedsTo : Bytes → List Write → Type 0
FeedsTo bytes ws = (more : Bytes) → fed_of (bytes ++ more) ≡ fed_onto ws (whole_lines more)

-- the first list is a prefix of the second
abbrev pub Begins : List Write → List Write → Type 0
Begins ws all = (rest : List Write) × (all ≡ ws ++ rest)

-- the first so many of a line's writes were taken behind those before it
abbrev pub TookSome : List Write → List Write → FeederView → Type 0
TookSome before ws f =
    ((f.taken ≡ 0) × (ws ≡ before))
    ⊎ ((batch : Batch) × (fed_line f.line ≡ of_entries batch) × (batch.from ≡ length before) × (ws ≡ before ++ take f.taken (writes_of batch.entries)))

-- the feeder's line is the last of the bytes
pub record HasLine (bytes : Bytes) (ws : List Write) (f : FeederView) : Type 0 where
  pub before : Bytes
  pub writes : List Write
  pub feeds : FeedsTo before writes
  pub split : bytes ≡ before ++ (f.line ++ 10 ∷ [])
  pub short : IsShort f.line
  pub asked : f.asked ≡ length writes
  pub so_far : TookSome writes ws f

-- how a feeder stands after these bytes and these writes
pub data Stands (bytes : Bytes) (ws : List Write) (f : FeederView) : Type 0 where
  between : f.ended ≡ false → f.kept ≡ false → FeedsTo bytes ws → Stands bytes ws f
  keeping : f.ended ≡ false → f.kept ≡ true → HasLine bytes ws f → Stands bytes ws f
  at_an_end : f.ended ≡ true → Begins ws (fed_of bytes) → Stands bytes ws f

-- what a pull comes to
pub record IsPulled (left : Option Bytes) (f : FeederView) (ws : List Write) (bytes : Bytes) (pulled : Pulled) (f' : FeederView) (ws' : List Write) : Type 0 where
  pub run : Pulls left None f ws bytes pulled f' ws'
  -- of all pulls' bytes, what they feed begins with all pulls' writes
  pub stands : (before : Bytes) → Stands before ws f → Stands (before ++ bytes) ws' f'
  pub begun : (before : Bytes) → Stands before ws f → Begins ws' (fed_of (before ++ bytes))
  -- and is no more after `Level`
  pub level : pulled ≡ Level → (before : Bytes) → Stands before ws f → fed_of (before ++ bytes) ≡ ws'
