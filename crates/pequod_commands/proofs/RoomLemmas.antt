-- The numbers in a command lie within their limits.
use Rattle.std.proofs.Common.{◌≡◌, ℕ, ◌-◌, ◌≤◌, Bool, true, false, List, [], ◌∷◌, Option, Some, None, refl, subst, lit≤}
use Rattle.std.specs.Prelude.{◌&&◌, codes, nat_le, if◌then◌else◌, option_map, option_and_then, IfSome}
use Rattle.std.proofs.lemmas.Bool.{leb-true}
use Rattle.semantics.specs.Texts.{Text, same}
use Rattle.semantics.specs.Outputs.{digits_value}
use Rattle.command_words.specs.Arguments.{Argument, arguments, words, values, given_once, is_number, number_within, number_or, number_of, named, is_unnamed}
use Rattle.command_words.specs.Commands.{Room, Command, run, serve, check, replay, load, cells_of, rows_of, workers_of, links_of, seed_of, steps_of, users_of, joins_of, room_of, are_taken, run_options, serve_options, check_options, replay_options, load_options, run_of, serve_of, check_of, replay_of, load_of, command_by, command_of}

-- how much is kept lies within its limits
pub record IsRoom (room : Room) : Type 0 where
  pub some_cells : 1 ≤ room.cells
  pub few_cells : room.cells ≤ 65536
  pub some_rows : 1 ≤ room.rows

-- so do the numbers of a load
pub record IsLoad (room : Room) (workers steps users : ℕ) : Type 0 where
  pub keeps : IsRoom room
  pub some_workers : 1 ≤ workers
  pub few_workers : workers ≤ 64
  pub few_steps : steps ≤ 1000000
  pub some_users : 1 ≤ users
  pub few_users : users ≤ 9999

-- and those of what is served
pub record IsServe (room : Room) (workers : ℕ) : Type 0 where
  pub keeps : IsRoom room
  pub some_workers : 1 ≤ workers
  pub few_workers : workers ≤ 64

-- and those of every command that the program does
abbrev pub IsWithin : Command → Type 0
IsWithin (run room) = IsRoom room
IsWithin (serve address room workers links joins) = IsServe room workers
IsWithin (check file) = Unit {0}
IsWithin (replay file room) = IsRoom room
IsWithin (load room workers number steps users) = IsLoad room workers steps users

-- ---- numbers

abbrev LiesWithin : ℕ → ℕ → ℕ → Type 0
LiesWithin least most n = (least ≤ n) × (n ≤ most)

tested : (a b c : Bool) (least most n : ℕ) → nat_le least n ≡ b → nat_le n most ≡ c → IfSome (if a && b && c then Some n else None) (LiesWithin least most)
tested false b c least most n low high = tt
tested true false c least most n low high = tt
tested true true false least most n low high = tt
tested true true true least most n low high = (leb-true least n low, leb-true n most high)

within_lies : (least most : ℕ) (t : Text) → IfSome (number_within least most t) (LiesWithin least most)
within_lies least most t = tested (is_number t) (nat_le least (digits_value t)) (nat_le (digits_value t) most) least most (digits_value t) refl refl

or_lies : (least most default : ℕ) (o : Option (Option Text)) → least ≤ default → default ≤ most → IfSome (option_and_then (number_or least most default) o) (LiesWithin least most)
or_lies least most default None low high = tt
or_lies least most default (Some None) low high = (low, high)
or_lies least most default (Some (Some t)) low high = within_lies least most t

number_lies : (name : Text) (least most default : ℕ) (args : List Argument) → least ≤ default → default ≤ most → IfSome (number_of name least most default args) (LiesWithin least most)
number_lies name least most default args = or_lies least most default (given_once (values name) args)

-- ---- choices

chosen : (b : Bool) (o p : Option Command) → IfSome o IsWithin → IfSome p IsWithin → IfSome (if b then o else p) IsWithin
chosen true o p h g = h
chosen false o p h g = g

mapped : {A : Type 0} (P : A → Type 0) (o : Option A) (f : A → Command) → IfSome o P → ((a : A) → P a → IsWithin (f a)) → IfSome (option_map f o) IsWithin
mapped P None f h g = tt
mapped P (Some a) f h g = g a h

mapped_any : {A : Type 0} (o : Option A) (f : A → Command) → ((a : A) → IsWithin (f a)) → IfSome (option_map f o) IsWithin
mapped_any None f g = tt
mapped_any (Some a) f g = g a

followed : {A : Type 0} (P : A → Type 0) (o : Option A) (f : A → Option Command) → IfSome o P → ((a : A) → P a → IfSome (f a) IsWithin) → IfSome (option_and_then f o) IsWithin
followed P None f h g = tt
followed P (Some a) f h g = g a h

followed_any : {A : Type 0} (o : Option A) (f : A → Option Command) → ((a : A) → IfSome (f a) IsWithin) → IfSome (option_and_then f o) IsWithin
followed_any None f g = tt
followed_any (Some a) f g = g a

-- ---- the commands

room_by : (cells rows : Option ℕ) → IfSome cells (LiesWithin 1 65536) → IfSome rows (LiesWithin 1 1000000000) →
    IfSome (option_and_then (λ c. option_map (λ r. record { cells = c; rows = r }) rows) cells) IsRoom
room_by None rows h g = tt
room_by (Some c) None h g = tt
room_by (Some c) (Some r) h g = record { some_cells = h.0; few_cells = h.1; some_rows = g.0 }

room_within : (args : List Argument) → IfSome (room_of args) IsRoom
room_within args =
    room_by (cells_of args) (rows_of args) (number_lies (codes "cells") 1 65536 1024 args (lit≤ tt) (lit≤ tt)) (number_lies (codes "rows") 1 1000000000 100000 args (lit≤ tt) (lit≤ tt))

run_within : (args : List Argument) → IfSome (run_of args) IsWithin
run_within args = chosen (are_taken run_options args && is_unnamed (given_once words args)) _ None (mapped IsRoom (room_of args) run (room_within args) (λ room h. h)) tt

serve_within : (args : List Argument) → IfSome (serve_of args) IsWithin
serve_within args =
    chosen (are_taken serve_options args) _ None
    (followed_any (named args) _ (λ address. followed IsRoom (room_of args) _ (room_within args) (λ room h.
    followed (LiesWithin 1 64) (workers_of 4 args) _ (number_lies (codes "workers") 1 64 4 args (lit≤ tt) (lit≤ tt)) (λ workers some. followed_any (links_of args) _ (λ links.
    mapped_any (joins_of args) (serve address room workers links) (λ joins. record { keeps = h; some_workers = some.0; few_workers = some.1 }))))))
    tt

check_within : (args : List Argument) → IfSome (check_of args) IsWithin
check_within args = chosen (are_taken check_options args) _ None (mapped_any (named args) check (λ file. tt)) tt

replay_within : (args : List Argument) → IfSome (replay_of args) IsWithin
replay_within args =
    chosen (are_taken replay_options args) _ None (followed_any (named args) _ (λ file. mapped IsRoom (room_of args) (replay file) (room_within args) (λ room h. h))) tt

load_within : (args : List Argument) → IfSome (load_of args) IsWithin
load_within args =
    chosen (are_taken load_options args && is_unnamed (given_once words args)) _ None
    (followed IsRoom (room_of args) _ (room_within args) (λ room h.
    followed (LiesWithin 1 64) (workers_of 1 args) _ (number_lies (codes "workers") 1 64 1 args (lit≤ tt) (lit≤ tt)) (λ workers several. followed_any (seed_of args) _ (λ number.
    followed (LiesWithin 0 1000000) (steps_of args) _ (number_lies (codes "steps") 0 1000000 10000 args (lit≤ tt) (lit≤ tt)) (λ steps few.
    mapped (LiesWithin 1 9999) (users_of args) (load room workers number steps) (number_lies (codes "users") 1 9999 100 args (lit≤ tt) (lit≤ tt)) (λ users some.
    record { keeps = h; some_workers = several.0; few_workers = several.1; few_steps = few.1; some_users = some.0; few_users = some.1 }))))))
    tt

by_within : (word : Text) (args : List Argument) → IfSome (command_by word args) IsWithin
by_within word args =
    chosen (same word (codes "run")) _ _ (run_within args)
    (chosen (same word (codes "serve")) _ _ (serve_within args)
    (chosen (same word (codes "check")) _ _ (check_within args)
    (chosen (same word (codes "replay")) _ _ (replay_within args)
    (chosen (same word (codes "load")) _ None (load_within args) tt))))

formed_within : (ws : List Text) → IfSome (command_of ws) IsWithin
unfolding command_of
formed_within [] = tt
formed_within (word ∷ others) = by_within word (arguments others)

-- the command that words form has its numbers within their limits
pub command_within : (ws : List Text) (command : Command) → command_of ws ≡ Some command → IsWithin command
command_within ws command is = subst (λ (o : Option Command). IfSome o IsWithin) is (formed_within ws)
