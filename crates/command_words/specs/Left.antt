-- What is left of words, as arguments, and the options of each kind of command.
use Rattle.std.specs.Prelude.{List, map, string_bytes, Bool, true, false}
use Rattle.semantics.specs.Texts.{Text}
use Rattle.command_words.specs.Arguments.{Argument, positional, arguments}
use Rattle.command_words.specs.Commands.{run_options, serve_options, check_options, replay_options, load_options}
use Rattle.command_words.specs.declared.arguments.Words.{Words}
use Rattle.command_words.specs.declared.options.Kind.{Kind}
use Rattle.command_words.specs.declared.options.Kind.TheVariants.{Run, Serve, Check, Replay, Load}

-- the arguments of words, which are all positional where the options have ended
abbrev pub left_by : Bool → List Text → List Argument
left_by true words = map positional words
left_by false words = arguments words

-- the arguments that are left
abbrev pub left : Words → List Argument
left w = left_by w.ended (map string_bytes w.words.now)

-- the options that a kind of command takes
abbrev pub options_of : Kind → List Text
options_of Run = run_options
options_of Serve = serve_options
options_of Check = check_options
options_of Replay = replay_options
options_of Load = load_options
