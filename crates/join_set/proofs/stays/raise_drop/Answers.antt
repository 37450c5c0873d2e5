use Rattle.std.proofs.Common.{◌≡◌, Some, max, sym, ap, ◌∙◌, if◌then◌else◌}
use Rattle.std.specs.Option.{option_copied}
use Rattle.std.proofs.lemmas.Result.{on_ok_weaker}
use Rattle.join_set.specs.Sets.{table_of_keys}
use Rattle.join_set.specs.Timelines.{end_of}
use Rattle.join_set.proofs.EndLemmas.{table_is}
use Rattle.join_set.proofs.stays.raise_drop.Goals as goal

pub returns-in-Some : goal.returns-in-Some
returns-in-Some c =
    let output = c.args.stay.now.join.output in
    let own : table_of_keys output ≡ Some c.in-Some.table.now = sym c.table.ensures ∙ ap (λ o. option_copied o) c.in-Some.is in
    on_ok_weaker c.raise_end.result
    (λ each q. each q ∙ (λ i. max (end_of q c.args.ends.now) (if (sym (table_is output c.in-Some.table.now q own) i) then (c.end_up_to.ensures i) else 0))) c.raise_end.ensures
