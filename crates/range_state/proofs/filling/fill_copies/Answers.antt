use Rattle.std.proofs.Common.{◌≡◌, ℕ, length, take, false, None, ◌∙◌, sym, ap, subst}
use Rattle.std.proofs.lemmas.Bool.{false≢true}
use Rattle.std.proofs.lemmas.Result.{err_from_is_err_and}
use Rattle.semantics.specs.Joins.{is_aggregate, value_operator}
use Rattle.semantics.specs.States.{below}
use Rattle.range_evaluation.specs.Trees.{tree}
use Rattle.join_eval.specs.Bounds.{Allows, Exceeds, most_of}
use Rattle.join_eval.proofs.CollectingLemmas.{loose_needs, loose_pairs, whole_needs, whole_pairs}
use Rattle.range_state.proofs.HeldLemmas.{filled_by, tree_fills}
use Rattle.range_state.proofs.filling.fill_copies.Goals as goal

pub returns-in_err-found-clause-wide : goal.returns-in_err-found-clause-wide
returns-in_err-found-clause-wide g c =
    let p = err_from_is_err_and c.from_residual.result c.from_residual.ensures.1 in
    rw (p.1, p.2) c.in_err-found.ensures.wide

pub hold-requires : goal.hold-requires
hold-requires g c = ap is_aggregate c.requires.copies

pub returns-in_ok-held-in-Whole-clause-filled : goal.returns-in_ok-held-in-Whole-clause-filled
returns-in_ok-held-in-Whole-clause-filled g c =
    let s = c.args.subject.now in
    let most = most_of c.args.bound in
    let table = below (take c.args.p (g.R.Reader.list c.args.reader.now)) s.rank in
    let rows = c.in-Whole.rows in
    let plain : is_aggregate (value_operator s.join) ≡ false = ap is_aggregate c.requires.copies in
    let needs = whole_needs most (tree s.join c.args.slots.now s.range table) c.in_ok-found.found rows c.in-Whole.is c.in_ok-found.ensures.needs in (
      filled_by s c.args.slots.now table c.args.p rows None c.in_ok-held-in-Whole.held c.requires.of_range c.in_ok-held-in-Whole.ensures (whole_pairs c.in_ok-found.found rows c.in-Whole.is ∙ c.in_ok-found.ensures.rows) needs.0
          (λ aggregates. absurd (false≢true (sym plain ∙ aggregates))),
      subst (λ (n : ℕ). Allows most n) (tree_fills s c.args.slots.now table c.requires.of_range) needs.1,
    )

pub returns-in-Loose-clause-filled : goal.returns-in-Loose-clause-filled
returns-in-Loose-clause-filled g c =
    let s = c.args.subject.now in
    let most = most_of c.args.bound in
    let table = below (take c.args.p (g.R.Reader.list c.args.reader.now)) s.rank in
    let rows = c.in-Loose.rows in
    let many = loose_needs most (tree s.join c.args.slots.now s.range table) c.in_ok-found.found rows c.in-Loose.more c.in-Loose.is c.in_ok-found.ensures.needs in (
      loose_pairs c.in_ok-found.found rows c.in-Loose.more c.in-Loose.is ∙ c.in_ok-found.ensures.rows,
      subst (λ (n : ℕ). Exceeds most n) (tree_fills s c.args.slots.now table c.requires.of_range) many,
    )
