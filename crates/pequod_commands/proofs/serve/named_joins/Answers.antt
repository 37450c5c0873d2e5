use Rattle.std.proofs.Common.{◌≡◌, [], option_map, is_err, MatchOption, true, ap, subst, sym, ⊎_elim}
use Rattle.protocol.specs.JoinsFile.{check_text, file_history}
use Rattle.pq_io.specs.Streams.{Took, TookProperPrefix}
use Rattle.pq_io.proofs.StreamLemmas.{Took-nothing}
use Rattle.pequod_commands.specs.Serves.{AreOfFile, AreServed, IsRefusedFile, refused, cut, no_memory}
use Rattle.pequod_commands.proofs.FileLemmas.{are_declarable}
use Rattle.pequod_commands.proofs.serve.named_joins.Goals as goal

pub returns-in-Ok-Some-clause-joins : goal.returns-in-Ok-Some-clause-joins
returns-in-Ok-Some-clause-joins g c =
    let joins = c.in-Ok-Some.joins.items in
    let of_file : AreOfFile c.as_slice.result.now joins =
    subst (λ found. MatchOption found (is_err (file_history c.as_slice.result.now) ≡ true) (λ joins. AreOfFile c.as_slice.result.now joins.items)) c.in-Ok-Some.field-0-is c.in-Ok-Some.ensures in
    subst (λ name. AreServed (g.F.Shelf.held c.args.shelf.now) name joins)
    (sym (ap (option_map (λ text. text.now)) c.in-Some.is))
    (c.in-Ok.bytes.items, c.in-Ok.ensures.bytes, subst (λ t. AreOfFile t joins) c.as_slice.ensures.value of_file)

pub returns-in-Ok-Some-clause-declarable : goal.returns-in-Ok-Some-clause-declarable
returns-in-Ok-Some-clause-declarable g c =
    are_declarable c.as_slice.result.now c.in-Ok-Some.joins.items
    (subst (λ found. MatchOption found (is_err (file_history c.as_slice.result.now) ≡ true) (λ joins. AreOfFile c.as_slice.result.now joins.items)) c.in-Ok-Some.field-0-is c.in-Ok-Some.ensures)

pub returns-in-Ok-None-clause-ended : goal.returns-in-Ok-None-clause-ended
returns-in-Ok-None-clause-ended g c =
    let bytes = c.in-Ok.bytes.items in
    let before = g.W.Sink.taken c.args.sink.now in
    let after = g.W.Sink.taken c.write_refused.new.sink in
    let is_refused : is_err (file_history c.as_slice.result.now) ≡ true =
    subst (λ found. MatchOption found (is_err (file_history c.as_slice.result.now) ≡ true) (λ joins. AreOfFile c.as_slice.result.now joins.items)) c.in-Ok-None.field-0-is c.in-Ok-None.ensures in
    let file : IsRefusedFile (g.F.Shelf.held c.args.shelf.now) (option_map (λ text. text.now) c.args.name) c.in-Some.name.now bytes = record {
      named = ap (option_map (λ text. text.now)) c.in-Some.is;
      taken = c.in-Ok.ensures.bytes;
      refused = subst (λ t. is_err (file_history t) ≡ true) c.as_slice.ensures.value is_refused;
    } in
    ⊎_elim
    (λ seven. record {
      ending = refused c.in-Some.name.now bytes;
      ended = (seven, file, subst (λ t. Took before after (check_text t)) c.as_slice-in-Ok-None.ensures.value (c.write_refused.ensures.written seven));
    })
    (λ others. ⊎_elim
    (λ five. record {
      ending = cut c.in-Some.name.now bytes;
      ended = (five, file, subst (λ t. TookProperPrefix before after (check_text t)) c.as_slice-in-Ok-None.ensures.value (c.write_refused.ensures.cut five));
    })
    (λ six. record {
      ending = no_memory;
      ended = (six, subst (λ s. Took before (g.W.Sink.taken s) []) (sym (c.write_refused.ensures.memory_sink six)) (Took-nothing before));
    })
    others)
    c.write_refused.ensures.ends
