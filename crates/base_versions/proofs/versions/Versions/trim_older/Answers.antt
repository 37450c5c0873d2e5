use Rattle.std.proofs.Common.{◌≡◌, ◌≤◌, List, [], ◌∷◌, ◌++◌, Some, None, sym, ap, ◌∙◌, subst, arith}
use Rattle.std.proofs.lemmas.Bool.Decides.{nat_tests}
use Rattle.base_versions.specs.declared.versions.Version.{Version}
use Rattle.base_versions.specs.declared.versions.Versions.TheInside.{Inside}
use Rattle.base_versions.specs.Versions.{AscendFrom, TrimsTo, with_newest}
use Rattle.base_versions.proofs.NewestLemmas.{ascend-older}
use Rattle.base_versions.proofs.TrimLemmas.{trims-newest, trims-with, trims-older, early-newest}
use Rattle.base_versions.proofs.versions.Versions.trim_older.Goals as goal
use Rattle.base_versions.proofs.versions.Versions.trim_older.Goals.{in_default-via-in-Some+else-newest-to, in_default-via-in_default}

pub returns-in-Some : goal.returns-in-Some
returns-in-Some c = λ a.
    let older = c.self.inside.older in
    let newest = c.in-Some.newest in
    let to = c.args.to in
    let e : older ++ newest ∷ [] ≡ c.args.self.now = ap (with_newest older) (sym c.in-Some.is) ∙ c.self.view_is in
    let less : newest.position ≤ to = grind (arith, nat_tests, c.if-newest-to.true) in
    subst (λ (x : List Version × List Version). TrimsTo to x.0 x.1) (λ i. (e i, with_newest (sym c.clear.ensures i) (sym c.in-Some.is i)))
    (trims-newest to older newest (early-newest 0 to older newest (subst (λ (vs : List Version). AscendFrom 0 vs) (sym e) a) less))

pub returns-in_default : goal.returns-in_default
returns-in_default c = λ a.
    let inside = c.in_default.self-inside in
    let older = inside.older in
    let to = c.args.to in
    elim c.in_default.branch [
      | in_default-via-in-Some+else-newest-to w ↦
          let newest = w.in-Some.newest in
          let is : inside.newest ≡ Some newest = ap (λ (x : Inside). x.newest) w.self-inside-is ∙ w.in-Some.is in
          let e : older ++ newest ∷ [] ≡ c.args.self.now = (λ i. (w.self-inside-is i).older ++ newest ∷ []) ∙ ap (with_newest c.self.inside.older) (sym w.in-Some.is) ∙ c.self.view_is in
          subst (λ (x : List Version × List Version). TrimsTo to x.0 x.1) (λ i. (e i, with_newest c.trim.new.self (sym is i)))
          (trims-with to older c.trim.new.self (newest ∷ []) (c.trim.ensures (ascend-older 0 older newest (subst (λ (vs : List Version). AscendFrom 0 vs) (sym e) a))))
      | in_default-via-in_default w ↦
          let is : inside.newest ≡ None = ap (λ (x : Inside). x.newest) w.self-inside-is ∙ w.in_default.is in
          let e : older ≡ c.args.self.now = (λ i. (w.self-inside-is i).older) ∙ ap (with_newest c.self.inside.older) (sym w.in_default.is) ∙ c.self.view_is in
          subst (λ (x : List Version × List Version). TrimsTo to x.0 x.1) (λ i. (e i, with_newest c.trim.new.self (sym is i)))
          (trims-older to older c.trim.new.self (c.trim.ensures (subst (λ (vs : List Version). AscendFrom 0 vs) (sym e) a)))
    ]
