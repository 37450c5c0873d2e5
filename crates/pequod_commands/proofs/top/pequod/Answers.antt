use Rattle.std.proofs.Common.{Some, option_map, sym, ap, ◌∙◌}
use Rattle.command_words.specs.Commands.{run, serve, replay, load}
use Rattle.command_words.specs.Plain.{plain_command, plain_room}
use Rattle.pequod_commands.proofs.RoomLemmas.{command_within}
use Rattle.pequod_commands.proofs.top.pequod.Goals as goal

pub run-requires-clause-some_cells : goal.run-requires-clause-some_cells
run-requires-clause-some_cells g c =
    let formed = sym c.in-Some-Run.ensures ∙ ap (λ command. Some (plain_command command)) c.in-Some-Run.field-0-is in
    (command_within _ (run (plain_room c.in-Some-Run.room)) formed).some_cells

pub run-requires-clause-few_cells : goal.run-requires-clause-few_cells
run-requires-clause-few_cells g c =
    let formed = sym c.in-Some-Run.ensures ∙ ap (λ command. Some (plain_command command)) c.in-Some-Run.field-0-is in
    (command_within _ (run (plain_room c.in-Some-Run.room)) formed).few_cells

pub run-requires-clause-some_rows : goal.run-requires-clause-some_rows
run-requires-clause-some_rows g c =
    let formed = sym c.in-Some-Run.ensures ∙ ap (λ command. Some (plain_command command)) c.in-Some-Run.field-0-is in
    (command_within _ (run (plain_room c.in-Some-Run.room)) formed).some_rows

pub replay-requires-clause-some_cells : goal.replay-requires-clause-some_cells
replay-requires-clause-some_cells g c =
    let formed = sym c.in-Some-Replay.ensures ∙ ap (λ command. Some (plain_command command)) c.in-Some-Replay.field-0-is in
    (command_within _ (replay c.in-Some-Replay.file.now (plain_room c.in-Some-Replay.room)) formed).some_cells

pub replay-requires-clause-few_cells : goal.replay-requires-clause-few_cells
replay-requires-clause-few_cells g c =
    let formed = sym c.in-Some-Replay.ensures ∙ ap (λ command. Some (plain_command command)) c.in-Some-Replay.field-0-is in
    (command_within _ (replay c.in-Some-Replay.file.now (plain_room c.in-Some-Replay.room)) formed).few_cells

pub replay-requires-clause-some_rows : goal.replay-requires-clause-some_rows
replay-requires-clause-some_rows g c =
    let formed = sym c.in-Some-Replay.ensures ∙ ap (λ command. Some (plain_command command)) c.in-Some-Replay.field-0-is in
    (command_within _ (replay c.in-Some-Replay.file.now (plain_room c.in-Some-Replay.room)) formed).some_rows

pub load-requires-clause-some_cells : goal.load-requires-clause-some_cells
load-requires-clause-some_cells g c κs within =
    let formed = sym c.in-Some-Load.ensures ∙ ap (λ command. Some (plain_command command)) c.in-Some-Load.field-0-is in
    (command_within _ (load (plain_room c.in-Some-Load.room) c.in-Some-Load.workers c.in-Some-Load.number c.in-Some-Load.steps c.in-Some-Load.users) formed).keeps.some_cells

pub load-requires-clause-few_cells : goal.load-requires-clause-few_cells
load-requires-clause-few_cells g c κs within =
    let formed = sym c.in-Some-Load.ensures ∙ ap (λ command. Some (plain_command command)) c.in-Some-Load.field-0-is in
    (command_within _ (load (plain_room c.in-Some-Load.room) c.in-Some-Load.workers c.in-Some-Load.number c.in-Some-Load.steps c.in-Some-Load.users) formed).keeps.few_cells

pub load-requires-clause-some_rows : goal.load-requires-clause-some_rows
load-requires-clause-some_rows g c κs within =
    let formed = sym c.in-Some-Load.ensures ∙ ap (λ command. Some (plain_command command)) c.in-Some-Load.field-0-is in
    (command_within _ (load (plain_room c.in-Some-Load.room) c.in-Some-Load.workers c.in-Some-Load.number c.in-Some-Load.steps c.in-Some-Load.users) formed).keeps.some_rows

pub load-requires-clause-some_users : goal.load-requires-clause-some_users
load-requires-clause-some_users g c κs within =
    let formed = sym c.in-Some-Load.ensures ∙ ap (λ command. Some (plain_command command)) c.in-Some-Load.field-0-is in
    (command_within _ (load (plain_room c.in-Some-Load.room) c.in-Some-Load.workers c.in-Some-Load.number c.in-Some-Load.steps c.in-Some-Load.users) formed).some_users

pub load-requires-clause-few_users : goal.load-requires-clause-few_users
load-requires-clause-few_users g c κs within =
    let formed = sym c.in-Some-Load.ensures ∙ ap (λ command. Some (plain_command command)) c.in-Some-Load.field-0-is in
    (command_within _ (load (plain_room c.in-Some-Load.room) c.in-Some-Load.workers c.in-Some-Load.number c.in-Some-Load.steps c.in-Some-Load.users) formed).few_users

pub load-requires-clause-few_steps : goal.load-requires-clause-few_steps
load-requires-clause-few_steps g c κs within =
    let formed = sym c.in-Some-Load.ensures ∙ ap (λ command. Some (plain_command command)) c.in-Some-Load.field-0-is in
    (command_within _ (load (plain_room c.in-Some-Load.room) c.in-Some-Load.workers c.in-Some-Load.number c.in-Some-Load.steps c.in-Some-Load.users) formed).few_steps

pub load-requires-clause-some_workers : goal.load-requires-clause-some_workers
load-requires-clause-some_workers g c κs within =
    let formed = sym c.in-Some-Load.ensures ∙ ap (λ command. Some (plain_command command)) c.in-Some-Load.field-0-is in
    (command_within _ (load (plain_room c.in-Some-Load.room) c.in-Some-Load.workers c.in-Some-Load.number c.in-Some-Load.steps c.in-Some-Load.users) formed).some_workers

pub load-requires-clause-few_workers : goal.load-requires-clause-few_workers
load-requires-clause-few_workers g c κs within =
    let formed = sym c.in-Some-Load.ensures ∙ ap (λ command. Some (plain_command command)) c.in-Some-Load.field-0-is in
    (command_within _ (load (plain_room c.in-Some-Load.room) c.in-Some-Load.workers c.in-Some-Load.number c.in-Some-Load.steps c.in-Some-Load.users) formed).few_workers

pub serve-requires-clause-some_cells : goal.serve-requires-clause-some_cells
serve-requires-clause-some_cells g c κs within =
    let formed = sym c.in-Some-Serve.ensures ∙ ap (λ command. Some (plain_command command)) c.in-Some-Serve.field-0-is in
    (command_within _ (serve c.in-Some-Serve.address.now (plain_room c.in-Some-Serve.room) c.in-Some-Serve.workers c.in-Some-Serve.field-0-3 (option_map (λ text. text.now) c.in-Some-Serve.joins)) formed).keeps.some_cells

pub serve-requires-clause-few_cells : goal.serve-requires-clause-few_cells
serve-requires-clause-few_cells g c κs within =
    let formed = sym c.in-Some-Serve.ensures ∙ ap (λ command. Some (plain_command command)) c.in-Some-Serve.field-0-is in
    (command_within _ (serve c.in-Some-Serve.address.now (plain_room c.in-Some-Serve.room) c.in-Some-Serve.workers c.in-Some-Serve.field-0-3 (option_map (λ text. text.now) c.in-Some-Serve.joins)) formed).keeps.few_cells

pub serve-requires-clause-some_rows : goal.serve-requires-clause-some_rows
serve-requires-clause-some_rows g c κs within =
    let formed = sym c.in-Some-Serve.ensures ∙ ap (λ command. Some (plain_command command)) c.in-Some-Serve.field-0-is in
    (command_within _ (serve c.in-Some-Serve.address.now (plain_room c.in-Some-Serve.room) c.in-Some-Serve.workers c.in-Some-Serve.field-0-3 (option_map (λ text. text.now) c.in-Some-Serve.joins)) formed).keeps.some_rows

pub serve-requires-clause-some_workers : goal.serve-requires-clause-some_workers
serve-requires-clause-some_workers g c κs within =
    let formed = sym c.in-Some-Serve.ensures ∙ ap (λ command. Some (plain_command command)) c.in-Some-Serve.field-0-is in
    (command_within _ (serve c.in-Some-Serve.address.now (plain_room c.in-Some-Serve.room) c.in-Some-Serve.workers c.in-Some-Serve.field-0-3 (option_map (λ text. text.now) c.in-Some-Serve.joins)) formed).some_workers

pub serve-requires-clause-few_workers : goal.serve-requires-clause-few_workers
serve-requires-clause-few_workers g c κs within =
    let formed = sym c.in-Some-Serve.ensures ∙ ap (λ command. Some (plain_command command)) c.in-Some-Serve.field-0-is in
    (command_within _ (serve c.in-Some-Serve.address.now (plain_room c.in-Some-Serve.room) c.in-Some-Serve.workers c.in-Some-Serve.field-0-3 (option_map (λ text. text.now) c.in-Some-Serve.joins)) formed).few_workers
