use Rattle.std.proofs.Common.{◌≡◌, length, Option, IfSome, IfNone, ◌∙◌, subst}
use Rattle.semantics.specs.Histories.{changed_at}
use Rattle.join_set.specs.Sets.{Joins, AreJoins}
use Rattle.write_history.specs.Marks.{before}
use Rattle.pequod_cache.proofs.JoinsLemmas.{keeps_longer, keeps_all, all_kept, from_reach}
use Rattle.pequod_cache.proofs.cache.Cache.look.Goals as goal

pub returns-in_err-looked-clause-kept : goal.returns-in_err-looked-clause-kept
returns-in_err-looked-clause-kept g c =
    keeps_longer c.args.joins.now c.args.pass.now.view c.look_joins.new.pass.view c.in_err-looked.ensures.goes_on.begins c.requires.kept

pub returns-in_default-clause-kept : goal.returns-in_default-clause-kept
returns-in_default-clause-kept g c =
    keeps_longer c.args.joins.now c.args.pass.now.view c.look_joins.new.pass.view c.in_ok-looked.ensures.pinned.begins c.requires.kept

pub returns-in_default-clause-brought : goal.returns-in_default-clause-brought
returns-in_default-clause-brought g c =
    let view = c.look_joins.new.pass.view in
    let kept = keeps_longer c.args.joins.now c.args.pass.now.view view c.in_ok-looked.ensures.pinned.begins c.requires.kept in
    let same = subst (λ (told : Option Joins). IfNone told (changed_at view ≡ c.changed_at.result)) c.in_default.is c.in_ok-looked.ensures.told.same in
    from_reach c.look_joins.new.pass.mark view c.args.joins.now _ c.in_ok-looked.ensures.pinned.same_mark c.in_ok-looked.ensures.length (all_kept c.args.joins.now view kept (same ∙ c.changed_at.ensures.changed))

pub returns-clause-kept : goal.returns-clause-kept
returns-clause-kept g c =
    let view = c.look_joins.new.pass.view in
    keeps_all c.in-Some.found view (subst (λ (told : Option Joins). IfSome told (λ joins. AreJoins (before (length view)) joins view)) c.in-Some.is c.in_ok-looked.ensures.told.joins)

pub returns-clause-brought : goal.returns-clause-brought
returns-clause-brought g c =
    let view = c.look_joins.new.pass.view in
    from_reach c.look_joins.new.pass.mark view c.in-Some.found _ c.in_ok-looked.ensures.pinned.same_mark c.in_ok-looked.ensures.length
    (subst (λ (told : Option Joins). IfSome told (λ joins. AreJoins (before (length view)) joins view)) c.in-Some.is c.in_ok-looked.ensures.told.joins)
