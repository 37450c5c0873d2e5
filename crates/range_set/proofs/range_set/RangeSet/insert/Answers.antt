use Rattle.std.proofs.Common.{◌≡◌, true, sym, ap, ◌∙◌, subst, string_bytes}
use Rattle.semantics.specs.Texts.{table_of}
use Rattle.range_set.specs.Held.{Held, is_free, are_of_table, with_range}
use Rattle.range_set.specs.Stored.{held_of, AreStored}
use Rattle.range_set.proofs.StoredLemmas.{put_held, put_stored}
use Rattle.range_set.proofs.range_set.RangeSet.insert.Goals as goal

pub returns-clause-ok : goal.returns-clause-ok
returns-clause-ok g c =
    let free = subst (λ (h : Held g.row.T.Denot). is_free h c.args.range ≡ true) (sym c.self.view_is) c.requires.free in
    ap held_of c.in_ok-insert.ensures.entries
    ∙ put_held string_bytes c.in_ok-low.low c.args.range c.args.item c.self.inside.ranges.entries (c.in_ok-low.ensures.ok ∙ c.lo.ensures.text) c.self.invariant.own c.requires.open free c.self.invariant.apart
    ∙ ap (with_range c.args.range c.args.item) c.self.view_is

pub invariant_of-self-2 : goal.invariant_of-self-2
invariant_of-self-2 g c =
    let free = subst (λ (h : Held g.row.T.Denot). is_free h c.args.range ≡ true) (sym c.self.view_is) c.requires.free in
    let table = subst (λ (h : Held g.row.T.Denot). are_of_table h (table_of c.args.range.low) ≡ true) (sym c.self.view_is) c.requires.table in
    subst (AreStored string_bytes) (sym c.in_ok-insert.ensures.entries)
    (put_stored string_bytes c.in_ok-low.low c.args.range c.args.item c.self.inside.ranges.entries (c.in_ok-low.ensures.ok ∙ c.lo.ensures.text) c.requires.open free table c.self.invariant)
