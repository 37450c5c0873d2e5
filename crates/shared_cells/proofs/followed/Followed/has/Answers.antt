use Rattle.std.proofs.Common.{◌||◌, sym, ap, ◌∙◌, arith}
use Rattle.std.specs.BTreeSet.{contains}
use Rattle.std.proofs.lemmas.Bool.{le-ltb, lt-ltb, or_left}
use Rattle.shared_cells.specs.Listings.{ranked_cmp}
use Rattle.shared_cells.proofs.followed.Followed.has.Goals as goal

pub returns-then-self-join : goal.returns-then-self-join
returns-then-self-join c =
    let followed = c.args.self.now in
    let join = c.args.join in
    sym (or_left _ (contains ranked_cmp followed.joins join) (lt-ltb followed.changed join.at (omega (arith, c.if-self-join.true))))

pub returns : goal.returns
returns c =
    let followed = c.args.self.now in
    let join = c.args.join in
    c.contains.ensures ∙ ap (λ b. b || contains ranked_cmp followed.joins join) (sym (le-ltb followed.changed join.at (omega (arith, c.if-self-join.false))))
