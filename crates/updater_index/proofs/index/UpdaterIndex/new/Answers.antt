use Rattle.std.proofs.Common.{◌≡◌, ℕ, ◌-◌, List, [], replicate, ap, ◌∙◌, arith}
use Rattle.semantics.specs.Texts.{Range}
use Rattle.updater_index.specs.Registered.{filled}
use Rattle.updater_index.proofs.index.UpdaterIndex.new.Goals as goal

pub returns-clause-held : goal.returns-clause-held
returns-clause-held c =
    let all : c.args.ids - 0 ≡ c.args.ids = omega arith in
    let none : List Range = [] in
    ap (filled c.args.ids) c.new-registered.ensures ∙ ap (λ (n : ℕ). replicate n none) all
