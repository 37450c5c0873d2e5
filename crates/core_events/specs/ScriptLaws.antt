-- Laws on scripts.
use Rattle.std.specs.Prelude.{◌≡◌, ◌↔◌, ◌⊎◌, ◌≤◌, [], ◌∷◌, ◌++◌, length, nat_eq, true, false, Err, IfOk}
use Rattle.std.specs.List.{AllByRecursion, starts_with}
use Rattle.semantics.specs.Texts.{Text, bar, brace, has_bar, is_range}
use Rattle.protocol.specs.Lines.{Bytes}
use Rattle.protocol.specs.Requests.{json}
use Rattle.core_events.specs.Events.{is_bound, IsEvent}
use Rattle.core_events.specs.Scripts.{event_of, script_events}

-- each text up to which a scan is to be answered may bound a range
abbrev pub ScriptsGiveEvents : Type 0
ScriptsGiveEvents = (bytes : Bytes) → IfOk (script_events bytes) (AllByRecursion IsEvent)

-- an empty line is refused as `json`
abbrev pub EmptyLineIsJson : Type 0
EmptyLineIsJson = event_of [] ≡ Err json

-- a text of at most 513 bytes that for a name T of 1 to 64 bytes without `|` begins with `T|` or is `T}`
pub record Bounds (t : Text) : Type 0 where
  pub short : length t ≤ 513
  pub name : Text
  pub named : 1 ≤ length name
  pub narrow : length name ≤ 64
  pub plain : has_bar name ≡ false
  pub ends : (starts_with nat_eq t (name ++ bar ∷ []) ≡ true) ⊎ (t ≡ name ++ brace ∷ [])

-- a text may bound a range exactly where it is one of these
abbrev pub BoundIsOfTable : Type 0
BoundIsOfTable = (t : Text) → (is_bound t ≡ true) ↔ Bounds t

-- both bounds of a range are
abbrev pub RangeHasBounds : Type 0
RangeHasBounds = (low high : Text) → is_range low high ≡ true → (is_bound low ≡ true) × (is_bound high ≡ true)
