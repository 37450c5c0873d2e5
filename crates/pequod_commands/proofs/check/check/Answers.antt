use Rattle.std.proofs.Common.{◌≡◌, true, false, refl, sym, ap, subst, ◌∙◌}
use Rattle.std.specs.Prelude.{is_err, if◌then◌else◌}
use Rattle.protocol.specs.JoinsFile.{file_history, check_text}
use Rattle.pq_io.specs.Streams.{Took, TookProperPrefix}
use Rattle.pequod_commands.specs.Statuses.{written, cut}
use Rattle.pequod_commands.proofs.check.check.Goals as goal

pub returns-in-Err-write_whole-clause-check : goal.returns-in-Err-write_whole-clause-check
returns-in-Err-write_whole-clause-check g c =
    let text = c.as_slice-2.ensures.value ∙ c.in-Ok-report.ensures.text ∙ ap check_text c.as_slice.ensures.value in
    record {
      ending = cut c.in-Ok.bytes.items;
      checked = (refl, c.in-Ok.ensures.bytes, subst (TookProperPrefix (g.W.Sink.taken c.args.sink.now) (g.W.Sink.taken c.write_whole.new.sink)) text c.in-Err-write_whole.ensures.part);
    }

pub returns-then-report-clause-check : goal.returns-then-report-clause-check
returns-then-report-clause-check g c =
    let text = c.as_slice-2.ensures.value ∙ c.in-Ok-report.ensures.text ∙ ap check_text c.as_slice.ensures.value in
    let refused : is_err (file_history c.in-Ok.bytes.items) ≡ true =
    sym (ap (λ t. is_err (file_history t)) c.as_slice.ensures.value) ∙ sym c.in-Ok-report.ensures.refused ∙ c.if-report.true in
    record {
      ending = written c.in-Ok.bytes.items;
      checked = (sym (ap (λ b. if b then 7 else 0) refused), c.in-Ok.ensures.bytes, subst (Took (g.W.Sink.taken c.args.sink.now) (g.W.Sink.taken c.write_whole.new.sink)) text c.in-Ok-write_whole.ensures.whole);
    }

pub returns-clause-check : goal.returns-clause-check
returns-clause-check g c =
    let text = c.as_slice-2.ensures.value ∙ c.in-Ok-report.ensures.text ∙ ap check_text c.as_slice.ensures.value in
    let refused : is_err (file_history c.in-Ok.bytes.items) ≡ false =
    sym (ap (λ t. is_err (file_history t)) c.as_slice.ensures.value) ∙ sym c.in-Ok-report.ensures.refused ∙ c.if-report.false in
    record {
      ending = written c.in-Ok.bytes.items;
      checked = (sym (ap (λ b. if b then 7 else 0) refused), c.in-Ok.ensures.bytes, subst (Took (g.W.Sink.taken c.args.sink.now) (g.W.Sink.taken c.write_whole.new.sink)) text c.in-Ok-write_whole.ensures.whole);
    }
