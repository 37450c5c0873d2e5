use Rattle.std.proofs.Common.{sym, ap, ◌∙◌, arith}
use Rattle.join_set.specs.Sets.{bare_since}
use Rattle.base_reader.proofs.ReachingLemmas.{steady_between, bare_between, other_between}
use Rattle.base_reader.proofs.reaching.between.Goals as goal

pub returns-then-changed_at-q : goal.returns-then-changed_at-q
returns-then-changed_at-q c =
    let last = c.changed_at.ensures.changed in
    let upto = c.if-changed_at-q.true in
    steady_between c.args.joins.now c.args.q c.args.range.now (omega (arith, last, upto))

pub returns-then-bare_since : goal.returns-then-bare_since
returns-then-bare_since c =
    bare_between c.args.joins.now c.args.q c.args.range.now
    (ap (λ table. bare_since c.args.q table c.args.joins.now) (sym c.table.ensures.table) ∙ sym c.bare_since.ensures ∙ c.if-bare_since.true)

pub returns : goal.returns
returns c =
    let last = c.changed_at.ensures.changed in
    let later = c.if-changed_at-q.false in
    other_between c.args.joins.now c.args.q c.args.range.now (omega (arith, last, later))
    (ap (λ table. bare_since c.args.q table c.args.joins.now) (sym c.table.ensures.table) ∙ sym c.bare_since.ensures ∙ c.if-bare_since.false)
