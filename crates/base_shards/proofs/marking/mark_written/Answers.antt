use Rattle.std.proofs.Common.{◌≡◌, ◌+◌, [], ◌∷◌, ◌++◌, take, flat_map, sym, ap, ◌∙◌}
use Rattle.std.proofs.lemmas.List.{take_more}
use Rattle.growing_history.specs.Changes.{written}
use Rattle.updater_index.specs.Registered.{stabbed}
use Rattle.base_versions.specs.declared.placed.Placed.{Placed}
use Rattle.base_versions.proofs.EnterLemmas.{on_err_always}
use Rattle.base_shards.specs.Marks.{keys_of, marked_by_keys}
use Rattle.base_shards.proofs.MarkLemmas.{keys_of-push, marked_by_keys-append, marks_then}
use Rattle.base_shards.proofs.marking.mark_written.Goals as goal

pub returns-in_err-mark_entry-clause-err : goal.returns-in_err-mark_entry-clause-err
returns-in_err-mark_entry-clause-err c =
    let first = c.args.index.now in
    on_err_always c.from_residual.result
    (marks_then (flat_map (λ key. stabbed key first.held) (keys_of (take c.loop-placed.placed-index c.args.own.now))) first c.loop-placed.index c.mark_entry.new.index c.loop-placed.invariant c.in_err-mark_entry.ensures.err)

pub loop-placed-preserved : goal.loop-placed-preserved
loop-placed-preserved c =
    let own = c.args.own.now in
    let i = c.loop-placed.placed-index in
    let p = c.placed-item.result in
    let first = c.args.index.now in
    let more : take (i + 1) own ≡ take i own ++ p ∷ [] = take_more own i p c.loop-placed-test.true ∙ ap (λ (x : Placed). take i own ++ x ∷ []) (sym c.placed-item.is) in
    c.in_ok-mark_entry.ensures.ok
    ∙ ap (marked_by_keys (written p.entry.write)) c.loop-placed.invariant
    ∙ sym (marked_by_keys-append (keys_of (take i own)) (written p.entry.write) first)
    ∙ ap (λ keys. marked_by_keys keys first) (sym (ap keys_of more ∙ keys_of-push (take i own) p))
