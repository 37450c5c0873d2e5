-- What filling, advancing and mending make of what is kept.
use Rattle.std.specs.Prelude.{◌≡◌, ◌⊎◌, ◌↔◌, ◌&&◌, List, [], map, filter, flat_map, filter_map, fold, Contains, Bool, not, if◌then◌else◌, slice_get, is_some, Option, Some, None, option_map, option_and_then, MatchOption}
use Rattle.std.specs.List.{list_any}
use Rattle.semantics.specs.Texts.{Text, same, Table, Range, value_at, within, pairs_where, pairs_within}
use Rattle.semantics.specs.Patterns.{Slots, bind, fill}
use Rattle.semantics.specs.Joins.{is_check, Source, Join}
use Rattle.semantics.specs.Outputs.{out}
use Rattle.semantics.specs.States.{merged}
use Rattle.key_ranges.specs.Containing.{range_slots, only}
use Rattle.range_evaluation.specs.Trees.{Need, tree, is_asked}
use Rattle.join_rows.specs.Kept.{set_pair}
use Rattle.kept_ranges.specs.Kept.{Kept, is_covered}

-- ---- filling

-- what is kept once the range is filled: the join's output in the range, the needs under the range's slots, and nothing pending
pub record IsFilled (j : Join) (range : Range) (table : Table) (kept : Kept) : Type 0 where
  pub rows : kept.rows ≡ pairs_within range (out j table)
  pub needs : MatchOption (range_slots j.output range) (kept.needs ≡ []) (λ slots. kept.needs ≡ tree j slots range table)
  pub pending : kept.pending ≡ []

-- ---- changed keys of check sources

-- the source that a need names, by its place in the join
abbrev pub source_of : Join → Need → Option Source
source_of j need = slice_get j.sources need.source

-- the reported keys that lie in a need's range
abbrev pub reported_in : List Text → Need → List Text
reported_in reported need = filter (within need.range) reported

-- a changed key of a check source, and the slots of the output that it sets together with a need
pub record Touch : Type 0 where
  pub key : Text
  pub slots : Slots

-- what a changed key touches through a need of the source, where it fits the source under the need's slots
abbrev pub touch_of : Join → Need → Source → Text → Option Touch
touch_of j need source key = option_map (λ slots. record { key = key; slots = only j.output slots }) (bind source.pattern key need.slots)

-- what the reported keys touch through a need of the source, where that is a check
abbrev pub touches_by : Join → List Text → Need → Option Source → List Touch
touches_by j reported need None = []
touches_by j reported need (Some source) = if is_check source.operator then filter_map (touch_of j need source) (reported_in reported need) else []

-- what the reported keys touch through the needs of check sources
abbrev pub touches : Join → List Text → List Need → List Touch
touches j reported needs = flat_map (λ need. touches_by j reported need (source_of j need)) needs

-- whether a key was touched
abbrev pub is_touched : List Touch → Text → Bool
is_touched touched key = list_any (λ touch. same touch.key key) touched

-- whether a need came by none of the touched keys
abbrev pub is_left : List Touch → Need → Bool
is_left touched need = not (list_any (is_touched touched) need.by)

-- ---- changed keys of the value source

-- the output key that a key fills as one of the source that the need names, under the need's slots; none where it does not fit, or the filled key would be too long
abbrev pub output_of : Join → Need → Text → Option Text
output_of j need key = option_and_then (λ source. option_and_then (fill j.output) (bind source.pattern key need.slots)) (source_of j need)

-- the pair of a source key is applied to the row of an output key
pub record Application : Type 0 where
  pub output : Text
  pub source : Text

-- the application of a source key to an output key that lies in the range and is not covered
abbrev pub application_at : Join → Range → List Slots → Text → Option Text → Option Application
application_at j range pending source None = None
application_at j range pending source (Some output) = if within range output && not (is_covered j.output pending output) then Some (record { output = output; source = source }) else None

-- the applications of the reported keys through a need of the source, where that is no check
abbrev pub applications_by : Join → Range → List Slots → List Text → Need → Option Source → List Application
applications_by j range pending reported need None = []
applications_by j range pending reported need (Some source) = if is_check source.operator then [] else filter_map (λ key. application_at j range pending key (output_of j need key)) (reported_in reported need)

-- the applications of the reported keys through the needs of the value source
abbrev pub applications : Join → Range → List Slots → List Text → List Need → List Application
applications j range pending reported needs = flat_map (λ need. applications_by j range pending reported need (source_of j need)) needs

-- the rows with the value that a table has at the source key of each application, or none
abbrev pub applied : Table → List Application → Table → Table
applied table applying rows = fold (λ rows a. set_pair a.output (value_at a.source table) rows) rows applying

-- ---- advancing

-- the slots are among the old ones or are touched
abbrev pub AddsTouched : List Touch → List Slots → List Slots → Type 0
AddsTouched touched old new = (slots : Slots) → Contains new slots ↔ (Contains old slots ⊎ Contains (map (λ touch. touch.slots) touched) slots)

-- what an advance keeps, where these keys are reported: no need that came by a touched key; the touched slots, pending too
pub record IsCut (j : Join) (reported : List Text) (before after : Kept) : Type 0 where
  pub needs : after.needs ≡ filter (is_left (touches j reported before.needs)) before.needs
  pub pending : AddsTouched (touches j reported before.needs) before.pending after.pending

-- what is kept after an advance of a copy join, where these keys are reported and the pairs below the join are those of the table
pub record IsAdvanced (j : Join) (range : Range) (reported : List Text) (table : Table) (before after : Kept) : Type 0 where
  pub cut : IsCut j reported before after
  pub rows : after.rows ≡ applied table (applications j range after.pending reported after.needs) before.rows

-- ---- mending

-- what is kept once slots that were pending are mended: the rows under them are those of the join's output, the needs under them are added, and they are pending no more
pub record IsMended (j : Join) (range : Range) (table : Table) (slots : Slots) (before after : Kept) : Type 0 where
  pub rows : after.rows ≡ merged (pairs_where (λ key. not (is_some (bind j.output key slots))) before.rows) (pairs_where (is_asked j.output slots range) (out j table))
  pub needs : (need : Need) → Contains after.needs need ↔ (Contains before.needs need ⊎ Contains (tree j slots range table) need)
  pub pending : (other : Slots) → Contains after.pending other ↔ (Contains before.pending other × (other ≡ slots → ⊥))
