use Rattle.std.proofs.Common.{[], ◌∙◌, refl, subst}
use Rattle.semantics.specs.Texts.{table_of}
use Rattle.base_versions.specs.Versions.{SayFrom, versions_at, versions_of}
use Rattle.base_versions.specs.Kept.{TableKept}
use Rattle.base_versions.proofs.VersionLemmas.{ascend-say_from, value_in-say_from}
use Rattle.base_versions.proofs.EnterLemmas.{table_found}
use Rattle.base_versions.proofs.base.BaseVersions.get_at.Goals as goal

pub returns-in-None : goal.returns-in-None
returns-in-None c = λ start h s g.
    let key = c.args.key.now in
    let is = table_found c.args.self.now _ c.table.result.now (table_of key) c.self.inside.tables.entries _ c.self.view_is refl c.table.ensures.table c.in-None.ensures.value in
    let said = subst (λ (t : TableKept). SayFrom start (versions_at key t.tracks) (versions_of key h)) is (s.versions key c.requires.own) in
    value_in-say_from start [] key h c.args.p said g

pub returns-in-Some : goal.returns-in-Some
returns-in-Some c = λ start h s g.
    let key = c.args.key.now in
    let is = table_found c.args.self.now _ c.table.result.now (table_of key) c.self.inside.tables.entries _ c.self.view_is refl c.table.ensures.table c.in-Some.ensures.value in
    let kept = versions_at key c.in-Some.table.now.tracks in
    let said = subst (λ (t : TableKept). SayFrom start (versions_at key t.tracks) (versions_of key h)) is (s.versions key c.requires.own) in
    c.value_at.ensures (ascend-say_from start kept key h said) ∙ value_in-say_from start kept key h c.args.p said g
