-- What is kept of a history, which histories it stands for, and the verdict from it alone.
use Rattle.std.specs.Prelude.{◌≡◌, ℕ, ◌+◌, ◌-◌, ◌<◌, ◌≤◌, ◌^◌, List, [], ◌∷◌, length, take, max, nat_le, if◌then◌else◌, Option, Some, None}
use Rattle.semantics.specs.Histories.{Write, put, remove, declare, drop_join, History, changed_at}
use Rattle.semantics.specs.Stays.{Stay, stays_of, stays_after}
use Rattle.semantics.specs.Verdicts.{Cause, full, first_cause, computed_cause, join_cause, drop_cause, AllEntered}
use Rattle.join_set.specs.Sets.{Joins, no_joins, joins_then, without_drops, AreJoins}
use Rattle.join_set.specs.Timelines.{kept_stays, changed_up_to}

-- the joins, the number of entries, a floor, the last declaration or drop up to it, and the stays that had not ended there
pub record Summary : Type 0 where
  pub joins : Joins
  pub length : ℕ
  pub floor : ℕ
  pub changed_at_floor : ℕ
  pub stays : List Stay

-- what is kept of no entries
abbrev pub no_summary : Summary
no_summary = record { joins = no_joins; length = 0; floor = 0; changed_at_floor = 0; stays = [] }

-- the summary keeps this of the history, each of whose entries entered
pub record StandsFor (summary : Summary) (h : History) : Type 0 where
  pub joins : AreJoins summary.floor summary.joins h
  pub same_length : summary.length ≡ length h
  pub within : summary.floor ≤ length h
  pub changed_at_floor : summary.changed_at_floor ≡ changed_at (take summary.floor h)
  pub kept : summary.stays ≡ kept_stays summary.floor (stays_of h)
  pub entered : AllEntered h

-- the summary is of some history, which has fewer than 2^48 entries
pub record IsOfSome (summary : Summary) : Type 0 where
  pub history : History
  pub stands : StandsFor summary history
  pub room : summary.length < 2 ^ 48

-- why the write may not enter, once the history has room
abbrev pub own_cause : Summary → Write → Option Cause
own_cause summary (put k v) = computed_cause k summary.joins.standing
own_cause summary (remove k) = computed_cause k summary.joins.standing
own_cause summary (declare j) = join_cause summary.joins.standing (summary.length + 1) j
own_cause summary (drop_join at) = drop_cause at summary.joins.standing

-- the verdict of the write after each history that the summary stands for
unfoldable pub cause_over : Summary → Write → Option Cause
cause_over summary write = first_cause ((if nat_le (2 ^ 48 - 1) summary.length then Some full else None) ∷ own_cause summary write ∷ [])

-- the summary after the write has entered
abbrev pub summary_after : Summary → Write → Summary
summary_after summary write = record {
  joins = joins_then (summary.length + 1) write summary.joins;
  length = summary.length + 1;
  floor = summary.floor;
  changed_at_floor = summary.changed_at_floor;
  stays = stays_after (summary.length + 1) write summary.stays;
}

-- the summary with a floor above its own: the drops up to there are forgotten, and the stays that ended up to there are let go
abbrev pub summary_settled : ℕ → Summary → Summary
summary_settled floor summary = record {
  joins = without_drops floor summary.joins;
  length = summary.length;
  floor = floor;
  changed_at_floor = max summary.changed_at_floor (changed_up_to floor summary.stays);
  stays = kept_stays floor summary.stays;
}
