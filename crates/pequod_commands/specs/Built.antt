-- The commands that the program does.
use Rattle.std.specs.Prelude.{ℕ, List, Bool, true, false, Option, Some, None}
use Rattle.semantics.specs.Texts.{Text}
use Rattle.command_words.specs.Commands.{Command, run, serve, check, replay, load, command_of}

-- the command that words form: the program does each of them
abbrev pub built_command : List Text → Option Command
built_command words = command_of words

-- whether a command reads the source; the words may form none
abbrev pub uses_source : Option Command → Bool
uses_source None = false
uses_source (Some (run room)) = true
uses_source (Some (serve address room workers links joins)) = false
uses_source (Some (check file)) = false
uses_source (Some (replay file room)) = false
uses_source (Some (load room workers number steps users)) = false

-- whether a command writes to the sink
abbrev pub uses_sink : Option Command → Bool
uses_sink None = false
uses_sink (Some (run room)) = true
uses_sink (Some (serve address room workers links joins)) = true
uses_sink (Some (check file)) = true
uses_sink (Some (replay file room)) = true
uses_sink (Some (load room workers number steps users)) = true

-- whether a command takes a file from the shelf
abbrev pub uses_shelf : Option Command → Bool
uses_shelf None = false
uses_shelf (Some (run room)) = false
uses_shelf (Some (serve address room workers links joins)) = true
uses_shelf (Some (check file)) = true
uses_shelf (Some (replay file room)) = true
uses_shelf (Some (load room workers number steps users)) = false

-- whether a command uses the doors
abbrev pub uses_doors : Option Command → Bool
uses_doors None = false
uses_doors (Some (run room)) = false
uses_doors (Some (serve address room workers links joins)) = true
uses_doors (Some (check file)) = false
uses_doors (Some (replay file room)) = false
uses_doors (Some (load room workers number steps users)) = false

-- after how many links the real doors close: the number that `serve` is given, and 0 for every other command and where the words form none
abbrev pub links_of : Option Command → ℕ
links_of None = 0
links_of (Some (run room)) = 0
links_of (Some (serve address room workers links joins)) = links
links_of (Some (check file)) = 0
links_of (Some (replay file room)) = 0
links_of (Some (load room workers number steps users)) = 0
