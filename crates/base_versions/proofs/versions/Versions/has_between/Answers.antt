use Rattle.std.proofs.Common.{◌≡◌, List, [], ◌∷◌, ◌++◌, Some, None, sym, ap, ◌∙◌, subst, arith}
use Rattle.std.proofs.lemmas.Bool.Decides.{nat_tests}
use Rattle.base_versions.specs.declared.versions.Version.{Version}
use Rattle.base_versions.specs.Versions.{AscendFrom, has_between, with_newest}
use Rattle.base_versions.proofs.NewestLemmas.{ascend-older, between-older, between-newest}
use Rattle.base_versions.proofs.versions.Versions.has_between.Goals as goal
use Rattle.base_versions.proofs.versions.Versions.has_between.Goals.{in_default-via-in-Some+else-newest-p, in_default-via-in_default}

pub returns-in-Some : goal.returns-in-Some
returns-in-Some c = λ a.
    let older = c.self.inside.older in
    let newest = c.in-Some.newest in
    let e : older ++ newest ∷ [] ≡ c.args.self.now = ap (with_newest older) (sym c.in-Some.is) ∙ c.self.view_is in
    between-newest c.args.q c.args.p older newest (subst (λ (vs : List Version). AscendFrom 0 vs) (sym e) a) (grind (arith, nat_tests)) ∙ ap (has_between c.args.q c.args.p) e

pub returns-in_default : goal.returns-in_default
returns-in_default c = λ a.
    let older = c.self.inside.older in
    elim c.in_default.branch [
      | in_default-via-in-Some+else-newest-p w ↦
          let newest = w.in-Some.newest in
          let e : older ++ newest ∷ [] ≡ c.args.self.now = ap (with_newest older) (sym w.in-Some.is) ∙ c.self.view_is in
          c.has_between.ensures (ascend-older 0 older newest (subst (λ (vs : List Version). AscendFrom 0 vs) (sym e) a))
          ∙ sym (between-older c.args.q c.args.p older newest (grind (arith, nat_tests))) ∙ ap (has_between c.args.q c.args.p) e
      | in_default-via-in_default w ↦
          let e : older ≡ c.args.self.now = ap (with_newest older) (sym w.in_default.is) ∙ c.self.view_is in
          c.has_between.ensures (subst (λ (vs : List Version). AscendFrom 0 vs) (sym e) a) ∙ ap (has_between c.args.q c.args.p) e
    ]
