use Rattle.std.proofs.Common.{◌≡◌, true, false, refl, sym, ap, subst, ◌∙◌}
use Rattle.std.specs.Prelude.{is_err, if◌then◌else◌}
use Rattle.core_events.specs.Scripts.{script_events, replay_text}
use Rattle.pq_io.specs.Streams.{Took, TookProperPrefix}
use Rattle.pequod_commands.specs.Replays.{written, cut}
use Rattle.pequod_commands.proofs.replay.replay.Goals as goal

pub returns-in-Err-write_whole-clause-replay : goal.returns-in-Err-write_whole-clause-replay
returns-in-Err-write_whole-clause-replay g c =
    let text = c.as_slice-2.ensures.value ∙ c.in-Ok-print_answers.ensures.text ∙ ap replay_text c.as_slice.ensures.value in
    record {
      ending = cut c.in-Ok.bytes.items;
      replayed = (refl, c.in-Ok.ensures.bytes, subst (TookProperPrefix (g.W.Sink.taken c.args.sink.now) (g.W.Sink.taken c.write_whole.new.sink)) text c.in-Err-write_whole.ensures.part);
    }

pub returns-then-printed-clause-replay : goal.returns-then-printed-clause-replay
returns-then-printed-clause-replay g c =
    let text = c.as_slice-2.ensures.value ∙ c.in-Ok-print_answers.ensures.text ∙ ap replay_text c.as_slice.ensures.value in
    let refused : is_err (script_events c.in-Ok.bytes.items) ≡ true =
    sym (ap (λ t. is_err (script_events t)) c.as_slice.ensures.value) ∙ sym c.in-Ok-print_answers.ensures.refused ∙ c.if-printed.true in
    record {
      ending = written c.in-Ok.bytes.items;
      replayed = (sym (ap (λ b. if b then 7 else 0) refused), c.in-Ok.ensures.bytes, subst (Took (g.W.Sink.taken c.args.sink.now) (g.W.Sink.taken c.write_whole.new.sink)) text c.in-Ok-write_whole.ensures.whole);
    }

pub returns-clause-replay : goal.returns-clause-replay
returns-clause-replay g c =
    let text = c.as_slice-2.ensures.value ∙ c.in-Ok-print_answers.ensures.text ∙ ap replay_text c.as_slice.ensures.value in
    let refused : is_err (script_events c.in-Ok.bytes.items) ≡ false =
    sym (ap (λ t. is_err (script_events t)) c.as_slice.ensures.value) ∙ sym c.in-Ok-print_answers.ensures.refused ∙ c.if-printed.false in
    record {
      ending = written c.in-Ok.bytes.items;
      replayed = (sym (ap (λ b. if b then 7 else 0) refused), c.in-Ok.ensures.bytes, subst (Took (g.W.Sink.taken c.args.sink.now) (g.W.Sink.taken c.write_whole.new.sink)) text c.in-Ok-write_whole.ensures.whole);
    }
