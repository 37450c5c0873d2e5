use Rattle.std.proofs.Common.{◌≡◌, true, Some, sym, subst}
use Rattle.key_ranges.proofs.OrderLemmas.{is_up_to, up_to_itself}
use Rattle.key_ranges.proofs.RangeLemmas.{bounds_of}
use Rattle.scan_core.specs.Progress.{Puts, begun}
use Rattle.scan_core.specs.Stored.{table_of, AllLieInRange}
use Rattle.scan_core.proofs.TableLemmas.{puts, lie_after}
use Rattle.scan_core.proofs.scan_table.ScanTable.begin.Goals as goal

pub invariant_of-self : goal.invariant_of-self
invariant_of-self c = subst AllLieInRange (sym c.in_err-insert.ensures.err) c.self.invariant

pub invariant_of-self-2 : goal.invariant_of-self-2
invariant_of-self-2 c =
    let low = c.args.range.low in
    let high = c.args.range.high in
    lie_after c.args.number _ c.self.inside.scans.entries c.insert.new.self.entries c.in_ok-insert.ensures.updates.0
    (record {
      begins = subst (λ p. is_up_to low p ≡ true) (sym c.in_ok-place.ensures) (up_to_itself low);
      ends = subst (λ p. is_up_to p high ≡ true) (sym c.in_ok-place.ensures) (bounds_of low high c.lo-low.ensures.is_range).ascend;
    }) c.self.invariant

pub returns-clause-ok : goal.returns-clause-ok
returns-clause-ok c =
    subst (λ t. Puts c.args.number (Some (begun c.args.number c.args.range c.args.position)) t (table_of c.insert.new.self.entries)) c.self.view_is
    (subst (λ o. Puts c.args.number o (table_of c.self.inside.scans.entries) (table_of c.insert.new.self.entries))
    (λ i. Some (record {
      scan = record { number = c.args.number; range = c.args.range; position = c.args.position; place = c.in_ok-place.ensures i };
      pairs = c.new.ensures.items i;
    }))
    (puts c.args.number _ c.self.inside.scans.entries c.insert.new.self.entries c.in_ok-insert.ensures.updates.0))
