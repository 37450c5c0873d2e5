use Rattle.std.proofs.Common.{◌≡◌, ◌≤◌, List, [], ◌∷◌, ◌++◌, Option, Some, None, Bool, true, not, is_some, refl, sym, ap, ◌∙◌, subst, arith}
use Rattle.std.proofs.lemmas.Bool.{false≢true}
use Rattle.std.proofs.lemmas.Bool.Decides.{nat_tests}
use Rattle.base_versions.specs.declared.versions.Version.{Version}
use Rattle.base_versions.specs.Versions.{AscendFrom, TrimsTo, with_newest}
use Rattle.base_versions.proofs.TrimLemmas.{trims-spent}
use Rattle.base_versions.proofs.versions.Versions.is_spent.Goals as goal

-- there is none where it is said so
none_from : {A : Type 0} (o : Option A) (said : Bool) → is_some o ≡ not said → said ≡ true → o ≡ None
none_from None said e t = refl
none_from (Some x) said e t = absurd (false≢true (sym (e ∙ ap not t)))

pub returns-in-Some : goal.returns-in-Some
returns-in-Some c = λ spent a.
    let older = c.self.inside.older in
    let newest = c.in-Some.newest in
    let to = c.args.to in
    let e : older ++ newest ∷ [] ≡ c.args.self.now = ap (with_newest older) (sym c.in-Some.is) ∙ c.self.view_is in
    let less : newest.position ≤ to = grind (arith, nat_tests, c.if-newest-to.true) in
    let none : newest.value ≡ None = none_from newest.value c.is_none.result c.is_none.ensures spent in
    subst (λ (vs : List Version). TrimsTo to vs []) e (trims-spent to older newest (subst (λ (vs : List Version). AscendFrom 0 vs) (sym e) a) less none)
