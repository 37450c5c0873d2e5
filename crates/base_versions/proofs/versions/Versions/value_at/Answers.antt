use Rattle.std.proofs.Common.{◌≡◌, List, [], ◌∷◌, ◌++◌, Some, None, sym, ap, ◌∙◌, subst, arith}
use Rattle.std.proofs.lemmas.Bool.Decides.{nat_tests}
use Rattle.base_versions.specs.declared.versions.Version.{Version}
use Rattle.base_versions.specs.Versions.{AscendFrom, value_in, with_newest}
use Rattle.base_versions.proofs.NewestLemmas.{ascend-older, value_in-older}
use Rattle.base_versions.proofs.versions.Versions.value_at.Goals as goal
use Rattle.base_versions.proofs.versions.Versions.value_at.Goals.{in_default-via-in-Some+else-newest-p, in_default-via-in_default}

pub returns-in_default : goal.returns-in_default
returns-in_default c = λ a.
    let older = c.self.inside.older in
    elim c.in_default.branch [
      | in_default-via-in-Some+else-newest-p w ↦
          let newest = w.in-Some.newest in
          let e : older ++ newest ∷ [] ≡ c.args.self.now = ap (with_newest older) (sym w.in-Some.is) ∙ c.self.view_is in
          c.value_at.ensures (ascend-older 0 older newest (subst (λ (vs : List Version). AscendFrom 0 vs) (sym e) a))
          ∙ sym (value_in-older c.args.p older newest (grind (arith, nat_tests, w.if-newest-p.false))) ∙ ap (value_in c.args.p) e
      | in_default-via-in_default w ↦
          let e : older ≡ c.args.self.now = ap (with_newest older) (sym w.in_default.is) ∙ c.self.view_is in
          c.value_at.ensures (subst (λ (vs : List Version). AscendFrom 0 vs) (sym e) a) ∙ ap (value_in c.args.p) e
    ]
