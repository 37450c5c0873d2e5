-- The table of commands, with their options and limits.
use Rattle.std.specs.Prelude.{ℕ, ◌-◌, ◌^◌, ◌&&◌, List, [], ◌∷◌, codes, Bool, true, false, if◌then◌else◌, Option, None, option_map, option_and_then}
use Rattle.std.specs.List.{list_all, list_any}
use Rattle.semantics.specs.Texts.{Text, same}
use Rattle.command_words.specs.Arguments.{Argument, option, lone, positional, arguments, words, values, given_once, number_of, named, name_if_given, is_unnamed}

-- ---- the options

-- how many cells keep ranges: 1 to 65,536, and 1,024 where it is not said
abbrev pub cells_of : List Argument → Option ℕ
cells_of = number_of (codes "cells") 1 65536 1024

-- how many rows they keep: 1 to 1,000,000,000, and 100,000 where it is not said
abbrev pub rows_of : List Argument → Option ℕ
rows_of = number_of (codes "rows") 1 1000000000 100000

-- how many workers there are: 1 to 64
abbrev pub workers_of : ℕ → List Argument → Option ℕ
workers_of default = number_of (codes "workers") 1 64 default

-- after how many links the doors close: 0 to 1,000,000, and 0, which is no end, where it is not said
abbrev pub links_of : List Argument → Option ℕ
links_of = number_of (codes "links") 0 1000000 0

-- the number from which the acts are drawn: any within 64 bits, and 1 where it is not said
abbrev pub seed_of : List Argument → Option ℕ
seed_of = number_of (codes "number") 0 (2 ^ 64 - 1) 1

-- how many acts there are: 0 to 1,000,000, and 10,000 where it is not said
abbrev pub steps_of : List Argument → Option ℕ
steps_of = number_of (codes "steps") 0 1000000 10000

-- how many users there are: 1 to 9,999, and 100 where it is not said
abbrev pub users_of : List Argument → Option ℕ
users_of = number_of (codes "users") 1 9999 100

-- the name of the joins file, if one is given
abbrev pub joins_of : List Argument → Option (Option Text)
joins_of args = option_and_then name_if_given (given_once (values (codes "joins")) args)

-- ---- the commands

-- how much is kept: in how many cells, and how many rows
pub record Room : Type 0 where
  pub cells : ℕ
  pub rows : ℕ

-- `run`
-- `serve`, with its address, its workers, its links and its joins file
-- `check` and `replay`, with the file's name
-- `load`, with its workers, the number that it draws from, its steps and its users
pub data Command : Type 0 where
  run : Room → Command
  serve : Text → Room → ℕ → ℕ → Option Text → Command
  check : Text → Command
  replay : Text → Room → Command
  load : Room → ℕ → ℕ → ℕ → ℕ → Command

-- what each takes
abbrev pub run_options : List Text
run_options = codes "cells" ∷ codes "rows" ∷ []

abbrev pub serve_options : List Text
serve_options = codes "cells" ∷ codes "rows" ∷ codes "workers" ∷ codes "links" ∷ codes "joins" ∷ []

abbrev pub check_options : List Text
check_options = []

abbrev pub replay_options : List Text
replay_options = codes "cells" ∷ codes "rows" ∷ []

abbrev pub load_options : List Text
load_options = codes "cells" ∷ codes "rows" ∷ codes "workers" ∷ codes "number" ∷ codes "steps" ∷ codes "users" ∷ []

-- whether an argument may stand where these options are taken: an option among them, with its value, or a positional word
abbrev pub is_taken : List Text → Argument → Bool
is_taken options (option name value) = list_any (same name) options
is_taken options (lone name) = false
is_taken options (positional word) = true

-- whether each argument may
abbrev pub are_taken : List Text → List Argument → Bool
are_taken options = list_all (is_taken options)

-- the room that the options say
abbrev pub room_of : List Argument → Option Room
room_of args = option_and_then (λ cells. option_map (λ rows. record { cells = cells; rows = rows }) (rows_of args)) (cells_of args)

-- `run`, with no positional word
abbrev pub run_of : List Argument → Option Command
run_of args = if are_taken run_options args && is_unnamed (given_once words args) then option_map run (room_of args) else None

-- `serve`, with its address
abbrev pub serve_of : List Argument → Option Command
serve_of args =
    if are_taken serve_options args then
    option_and_then (λ address. option_and_then (λ room. option_and_then (λ workers. option_and_then (λ links. option_map (serve address room workers links)
    (joins_of args)) (links_of args)) (workers_of 4 args)) (room_of args)) (named args)
    else None

-- `check`, with the file's name
abbrev pub check_of : List Argument → Option Command
check_of args = if are_taken check_options args then option_map check (named args) else None

-- `replay`, with the file's name
abbrev pub replay_of : List Argument → Option Command
replay_of args = if are_taken replay_options args then option_and_then (λ file. option_map (replay file) (room_of args)) (named args) else None

-- `load`, with no positional word
abbrev pub load_of : List Argument → Option Command
load_of args =
    if are_taken load_options args && is_unnamed (given_once words args) then
    option_and_then (λ room. option_and_then (λ workers. option_and_then (λ number. option_and_then (λ steps. option_map (load room workers number steps)
    (users_of args)) (steps_of args)) (seed_of args)) (workers_of 1 args)) (room_of args)
    else None

-- the command of a word and the arguments behind it
abbrev pub command_by : Text → List Argument → Option Command
command_by word args =
    if same word (codes "run") then run_of args
    else (if same word (codes "serve") then serve_of args
    else (if same word (codes "check") then check_of args
    else (if same word (codes "replay") then replay_of args
    else (if same word (codes "load") then load_of args else None))))

-- the command that words form, if they form one: the first is its word
unfoldable pub command_of : List Text → Option Command
command_of [] = None
command_of (word ∷ others) = command_by word (arguments others)
