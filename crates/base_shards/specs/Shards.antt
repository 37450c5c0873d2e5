-- A shard as contracts see it, and what is true of it whenever its lock is free.
use Rattle.std.specs.Prelude.{◌≡◌, ℕ, ◌≤◌, List, [], length, take, slice_set}
use Rattle.semantics.specs.Texts.{Range}
use Rattle.base_versions.specs.Kept.{Kept, StandsFor}
use Rattle.updater_index.specs.Registered.{Index, ranges_of, with_ranges, without_mark}
use Rattle.write_history.specs.Passes.{HistoryId, PassView}
use Rattle.write_history.specs.declared.known.Mark.{Mark}
use Rattle.write_history.specs.declared.known.Mark.TheVariants.{Noted}

-- the base pairs of its tables, the ranges and marks of the ids, and its pass
pub record ShardView : Type 0 where
  pub base : Kept
  pub index : Index
  pub pass : PassView

-- the pass has noted a position, which is at most this one
pub record HasNoted (mark : Mark) (position : ℕ) : Type 0 where
  pub last : ℕ
  pub noted : mark ≡ Noted last
  pub reached : last ≤ position

-- what is kept of the base is that of one of 16 parts of the tables, after a beginning of what the pass has seen; the pass has noted no later position, and knows that the history may be asked for nothing before the start
pub record KeepsBeginning (history : HistoryId) (base : Kept) (pass : PassView) : Type 0 where
  pub same_history : pass.history ≡ history
  pub shards : base.shards ≡ 16
  pub reaches : base.position ≤ length pass.view
  pub noted : HasNoted pass.mark base.position
  pub trimmed : base.start ≤ pass.floor
  pub stands : StandsFor base.start base (take base.position pass.view)

-- the ranges and marks without those of an id
abbrev pub without_id : ℕ → Index → Index
without_id id index = record { held = slice_set index.held id []; marked = without_mark id index.marked }

-- the ranges and marks, once an id has these ranges too
abbrev pub with_ranges_of : ℕ → List Range → Index → Index
with_ranges_of id ranges index = record { held = slice_set index.held id (with_ranges (ranges_of id index.held) ranges); marked = index.marked }
