use Rattle.std.proofs.Common.{◌<◌, ◌≤◌, List, ℕ, length, false, sym, ap, ◌∙◌, arith}
use Rattle.std.proofs.lemmas.List.{get_or_past}
use Rattle.updater_index.specs.Registered.{has_id}
use Rattle.updater_index.proofs.IndexLemmas.{any_default}
use Rattle.updater_index.proofs.marks.Marks.is_marked.Goals as goal

pub returns-then-id-len : goal.returns-then-id-len
returns-then-id-len c =
    let tests = c.self.inside.queued.items in
    let past : length tests ≤ c.args.id = omega (arith, c.len.ensures, c.if-id-len.true) in
    sym (get_or_past tests c.args.id false past) ∙ c.self.invariant.agrees c.args.id ∙ ap (λ (ids : List ℕ). has_id ids c.args.id) c.self.view_is

pub returns : goal.returns
returns c =
    let tests = c.self.inside.queued.items in
    let known : c.args.id < length tests = omega (arith, c.len.ensures, c.if-id-len.false) in
    c.index.ensures ∙ any_default tests c.args.id c.index.result.now false known ∙ c.self.invariant.agrees c.args.id ∙ ap (λ (ids : List ℕ). has_id ids c.args.id) c.self.view_is
