use Rattle.std.proofs.Common.{◌≡◌, ◌+◌, length, cond, sym, ap, ◌∙◌, subst}
use Rattle.std.specs.Result.{is_err}
use Rattle.semantics.specs.Texts.{Table, with_pair}
use Rattle.join_rows.specs.Found.{Finds}
use Rattle.join_rows.proofs.FoundLemmas.{length-found}
use Rattle.join_rows.proofs.ResultLemmas.{on_err_by}
use Rattle.join_rows.proofs.leaf.Leaf.put.Goals as goal

pub put_at-requires-clause-found : goal.put_at-requires-clause-found
put_at-requires-clause-found c =
    subst (λ (t : Table). Finds c.args.key.now t c.find-found.result) (sym (c.self.view_is ∙ c.make_room.ensures)) c.find-found.ensures.found

pub returns-in_err-put_at-clause-err : goal.returns-in_err-put_at-clause-err
returns-in_err-put_at-clause-err c = on_err_by c.from_residual-in_err-put_at.result _ (c.in_err-put_at.ensures.err.is ∙ c.self.view_is ∙ c.make_room.ensures)

pub returns-clause-ok : goal.returns-clause-ok
returns-clause-ok c = c.in_ok-put_at.ensures.ok.is ∙ ap (with_pair c.args.key.now c.args.value.now) (c.self.view_is ∙ c.make_room.ensures)

pub returns-clause-fresh : goal.returns-clause-fresh
returns-clause-fresh c =
    ap length (c.in_ok-put_at.ensures.ok.is ∙ ap (with_pair c.args.key.now c.args.value.now) (c.self.view_is ∙ c.make_room.ensures))
    ∙ length-found c.args.key.now c.args.value.now c.args.self.now c.find-found.result c.find-found.ensures.rows.ascending c.find-found.ensures.found
    ∙ ap (λ b. length c.args.self.now + cond b 1 0) (sym c.is_err.ensures.value)
