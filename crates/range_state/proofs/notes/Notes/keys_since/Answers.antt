use Rattle.std.proofs.Common.{◌≡◌, IfOk, sym, ◌∙◌, ap, subst}
use Rattle.range_state.specs.NotesSince.{GathersMore, keys_since}
use Rattle.range_state.proofs.SinceLemmas.{gathers_all}
use Rattle.range_state.proofs.notes.Notes.keys_since.Goals as goal

pub returns : goal.returns
returns c =
    let first = c.in_ok-gather_keys.ensures in
    let rest = c.in_ok-gather_keys-2.ensures in
    let e : c.gather_keys-2.new.sorted.keys ≡ keys_since c.args.since c.args.range.now c.args.self.now.list =
    gathers_all c.args.range.now c.args.since c.as_slices.result.0.now c.as_slices.result.1.now c.args.self.now.list c.gather_keys.new.sorted.keys c.gather_keys-2.new.sorted.keys (cc) (λ before h. first before (c.new-sorted.ensures.empty ∙ h)) rest in
    subst (λ ks. IfOk c.listed.result (λ keys. keys.items ≡ ks)) e c.listed.ensures
