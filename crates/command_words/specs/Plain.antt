-- The commands, the arguments and what is wanted of them as the data of the definitions.
use Rattle.std.specs.Prelude.{option_map}
use Rattle.command_words.specs.Arguments as arguments
use Rattle.command_words.specs.Commands as plain
use Rattle.command_words.specs.declared.arguments.Argument.{Argument}
use Rattle.command_words.specs.declared.arguments.Argument.TheVariants.{Valued, Lone, Positional}
use Rattle.command_words.specs.declared.arguments.Wanted.{Wanted}
use Rattle.command_words.specs.declared.arguments.Wanted.TheVariants as wanted
use Rattle.command_words.specs.declared.command.Room.{Room}
use Rattle.command_words.specs.declared.command.Command.{Command}
use Rattle.command_words.specs.declared.command.Command.TheVariants.{Run, Serve, Check, Replay, Load}

-- an argument
abbrev pub plain_argument : Argument → arguments.Argument
plain_argument (Valued name value) = arguments.option name.now value.now
plain_argument (Lone name) = arguments.lone name.now
plain_argument (Positional word) = arguments.positional word.now

-- what is wanted
abbrev pub plain_wanted : Wanted → arguments.Wanted
plain_wanted wanted.Positional = arguments.words
plain_wanted (wanted.Values name) = arguments.values name.now

-- the room
abbrev pub plain_room : Room → plain.Room
plain_room room = record { cells = room.cells; rows = room.rows }

-- a command
abbrev pub plain_command : Command → plain.Command
plain_command (Run room) = plain.run (plain_room room)
plain_command (Serve address room workers links joins) = plain.serve address.now (plain_room room) workers links (option_map (λ name. name.now) joins)
plain_command (Check file) = plain.check file.now
plain_command (Replay file room) = plain.replay file.now (plain_room room)
plain_command (Load room workers number steps users) = plain.load (plain_room room) workers number steps users
