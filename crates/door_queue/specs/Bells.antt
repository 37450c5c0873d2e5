-- Bells.
use Rattle.std.specs.Prelude.{Bool, true, false, if◌then◌else◌}
use Rattle.door_queue.specs.declared.bell_state.Heard.{Heard}
use Rattle.door_queue.specs.declared.bell_state.Heard.TheVariants.{Closed, Work, Quiet}

-- whether a bell was rung since it was heard, and whether it is closed
pub record BellView : Type 0 where
  pub was_rung : Bool
  pub is_closed : Bool

-- a bell by its parts
abbrev pub bell : Bool → Bool → BellView
bell was_rung is_closed = record { was_rung = was_rung; is_closed = is_closed }

-- rung
abbrev pub rung : BellView → BellView
rung b = record b { was_rung = true }

-- what is heard: that it is closed; where it is open, whether it was rung
abbrev pub heard_of : BellView → Heard
heard_of b = if b.is_closed then Closed else (if b.was_rung then Work else Quiet)

-- where it is open a ring ends when it is heard
abbrev pub after_hearing : BellView → BellView
after_hearing b = if b.is_closed then b else bell false false

-- closed
abbrev pub closed : BellView → BellView
closed b = record b { is_closed = true }
