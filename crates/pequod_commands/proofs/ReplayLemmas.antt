-- What is printed about a script, by what it was read as.
use Rattle.std.proofs.Common.{◌≡◌, ℕ, List, [], ◌∷◌, map, Ok, Err, refl, ap, ◌∙◌}
use Rattle.semantics.specs.Texts.{Text}
use Rattle.protocol.specs.JoinsFile.{refused_row}
use Rattle.core_events.specs.Events.{Event, is_cell_event}
use Rattle.core_events.specs.Printed.{events_text, script_text}
use Rattle.core_events.specs.Scripts.{script_events, replay_text}

-- a script with a refused line
pub refused_is : (bytes row : Text) (fault : ℕ × Text) → row ≡ refused_row fault → Err fault ≡ script_events bytes → row ≡ replay_text bytes
unfolding replay_text
refused_is bytes row fault made is = made ∙ ap script_text is

-- a script of events
pub events_are : (bytes text : Text) (events : List Event) → text ≡ events_text events → Ok events ≡ script_events bytes → text ≡ replay_text bytes
unfolding replay_text
events_are bytes text events made is = made ∙ ap script_text is

-- marks of events
pub marks_are : {E : Type 0} (plain : E → Event) (events : List E) → map (λ e. is_cell_event (plain e)) events ≡ map is_cell_event (map plain events)
marks_are plain [] = refl
marks_are plain (e ∷ events) = ap (λ marks. is_cell_event (plain e) ∷ marks) (marks_are plain events)
