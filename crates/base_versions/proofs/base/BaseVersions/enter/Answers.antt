use Rattle.std.proofs.Common.{◌≡◌, ◌++◌, ◌∷◌, [], Some, None, sym, ◌∙◌, ap, refl, subst}
use Rattle.semantics.specs.Histories.{Write, put, remove, declare, drop_join, Entry}
use Rattle.join_types.specs.Writes.{plain_write}
use Rattle.base_versions.specs.Versions.{version_by}
use Rattle.base_versions.specs.Changes.{change_by}
use Rattle.base_versions.specs.Kept.{Kept, StandsFor}
use Rattle.base_versions.proofs.EnterLemmas.{Gives, raised, stands-kept, stands-change, stands-declared, on_err_always}
use Rattle.base_versions.proofs.base.BaseVersions.enter.Goals as goal
use Rattle.base_versions.proofs.base.BaseVersions.enter.Goals.{in-Put+in_ok-copy-in-Put+in_ok-change-in-Put, in-Remove+in_ok-change-in-Remove, in-Declare, in-Drop}

pub returns-in_err-change-in-Put-clause-err : goal.returns-in_err-change-in-Put-clause-err
returns-in_err-change-in-Put-clause-err c =
    let e = c.change.ensures in
    on_err_always c.from_residual-in_err-change-in-Put.result (λ start h s. stands-kept start c.args.self.now c.change.new.self h e.position e.shard e.shards c.in_err-change-in-Put.ensures.err s)

pub returns-in_err-change-in-Remove-clause-err : goal.returns-in_err-change-in-Remove-clause-err
returns-in_err-change-in-Remove-clause-err c =
    let e = c.change-in-Remove.ensures in
    on_err_always c.from_residual-in_err-change-in-Remove.result (λ start h s. stands-kept start c.args.self.now c.change-in-Remove.new.self h e.position e.shard e.shards c.in_err-change-in-Remove.ensures.err s)

pub returns-clause-ok : goal.returns-clause-ok
returns-clause-ok c = λ start h s.
    let entry = c.args.entry.now in
    let write : entry.write ≡ plain_write c.entry.inside.write = ap (λ (e : Entry). e.write) (sym c.entry.view_is) in
    elim c.match-entry.branch [
      | in-Put+in_ok-copy-in-Put+in_ok-change-in-Put w ↦
          let is : entry.write ≡ put w.in-Put.key w.in_ok-copy-in-Put.field-0 = write ∙ ap plain_write w.in-Put.is ∙ ap (put w.in-Put.key) (sym w.in_ok-copy-in-Put.ensures) in
          let gives = subst (λ (x : Write). Gives x w.in-Put.key (Some w.in_ok-copy-in-Put.field-0)) (sym is) ((λ n q. refl), (λ n t. refl)) in
          let stands = stands-change start c.args.self.now w.change.new.self h entry w.in-Put.key (Some w.in_ok-copy-in-Put.field-0) gives w.in_ok-change-in-Put.ensures.ok w.change.ensures.position w.change.ensures.shard w.change.ensures.shards s in
          subst (λ (k : Kept). StandsFor start (raised k) (h ++ entry ∷ [])) (sym (c.self.view_is ∙ w.self-is)) stands
      | in-Remove+in_ok-change-in-Remove w ↦
          let is : entry.write ≡ remove w.in-Remove.key = write ∙ ap plain_write w.in-Remove.is in
          let gives = subst (λ (x : Write). Gives x w.in-Remove.key None) (sym is) ((λ n q. refl), (λ n t. refl)) in
          let stands = stands-change start c.args.self.now w.change-in-Remove.new.self h entry w.in-Remove.key None gives w.in_ok-change-in-Remove.ensures.ok w.change-in-Remove.ensures.position w.change-in-Remove.ensures.shard w.change-in-Remove.ensures.shards s in
          subst (λ (k : Kept). StandsFor start (raised k) (h ++ entry ∷ [])) (sym (c.self.view_is ∙ w.self-is)) stands
      | in-Declare w ↦
          let is : entry.write ≡ declare w.in-Declare.field-0 = write ∙ ap plain_write w.in-Declare.is in
          let stands = stands-declared start c.args.self.now h entry (λ n q. ap (version_by n q) is) (λ n t. ap (change_by n t) is) s in
          subst (λ (k : Kept). StandsFor start (raised k) (h ++ entry ∷ [])) (sym (c.self.view_is ∙ w.self-is)) stands
      | in-Drop w ↦
          let is : entry.write ≡ drop_join w.in-Drop.field-0 = write ∙ ap plain_write w.in-Drop.is in
          let stands = stands-declared start c.args.self.now h entry (λ n q. ap (version_by n q) is) (λ n t. ap (change_by n t) is) s in
          subst (λ (k : Kept). StandsFor start (raised k) (h ++ entry ∷ [])) (sym (c.self.view_is ∙ w.self-is)) stands
    ]
