use Rattle.std.proofs.Common.{◌≡◌, ◌-◌, [], ◌∷◌, ◌++◌, drop, sym, ap, ◌∙◌, append_assoc}
use Rattle.std.specs.List.{flat_map}
use Rattle.std.proofs.lemmas.List.{drop-append-le}
use Rattle.write_history.specs.Stored.{EntriesWithRoom}
use Rattle.write_history.proofs.entry_list.EntryList.push.Goals as goal

pub returns-clause-entries : goal.returns-clause-entries
returns-clause-entries c =
    let inside = c.self.inside in
    let e = c.args.entry in
    let flat = flat_map (λ chunk. chunk.items) inside.full.items in
    let n = inside.lacks - inside.gone in
    ap (λ items. drop n (flat ++ items)) c.push_reserved.ensures.items
    ∙ ap (drop n) (sym (append_assoc flat inside.last.items (e ∷ [])))
    ∙ drop-append-le n (flat ++ inside.last.items) (e ∷ []) c.self.invariant.3
    ∙ ap (λ (list : EntriesWithRoom). list.entries ++ e ∷ []) c.self.view_is
