use Rattle.std.proofs.Common.{◌≡◌, true, Result, Ok, Err, OnErr, Some, None, IsSomeAnd, option_map, sym, ap, ◌∙◌, subst, rules}
use Rattle.std.specs.Option.{option_copied_mut}
use Rattle.std.proofs.lemmas.Bool.{and_parts}
use Rattle.key_ranges.specs.Ranges.{is_below}
use Rattle.key_ranges.proofs.OrderLemmas.{is_up_to, up_to_trans, up_to_from_below}
use Rattle.core_events.specs.Plain.{goes_on}
use Rattle.scan_core.specs.declared.scan_table.UnderWay.{UnderWay}
use Rattle.scan_core.specs.Progress.{Puts, further}
use Rattle.scan_core.specs.Stored.{progress_of, table_of, LiesInRange}
use Rattle.scan_core.proofs.TableLemmas.{stored_at, found_in, puts, same_table, lie_after}
use Rattle.scan_core.proofs.scan_table.ScanTable.add_part.Goals as goal

-- what is so is so where a call fails
where_fails : {A E P : Type 0} (result : Result A E) → P → OnErr result P
where_fails (Ok a) p = tt
where_fails (Err e) p = p

pub unreachable-requires : goal.unreachable-requires
unreachable-requires c =
    let none : stored_at c.args.number c.self.inside.scans.entries ≡ None = sym c.get_mut.ensures.value ∙ ap option_copied_mut c.in_default.is in
    subst (λ o. IsSomeAnd o (λ g. goes_on c.args.upto g.scan ≡ true)) (found_in c.args.number c.self.inside.scans.entries c.args.self.now None c.self.view_is none) c.requires

pub invariant_of-self : goal.invariant_of-self
invariant_of-self c =
    let scan = c.in-Some.scan.now in
    let v : UnderWay = record { range = scan.range; position = scan.position; place = scan.place; pairs = c.append.new.self } in
    let lies = c.self.invariant c.args.number scan (sym c.in-Some.ensures.value) in
    lie_after c.args.number (Some v) c.self.inside.scans.entries (c.get_mut.follows.lender v).entries ((c.get_mut.follows.holds v).3 (search rules)).0
    (record { begins = lies.begins; ends = lies.ends }) c.self.invariant

pub returns-in_err-append-clause-err : goal.returns-in_err-append-clause-err
returns-in_err-append-clause-err c =
    let scan = c.in-Some.scan.now in
    let v : UnderWay = record { range = scan.range; position = scan.position; place = scan.place; pairs = c.append.new.self } in
    where_fails c.from_residual.result
    (ap table_of ((c.get_mut.follows.holds v).0)
    ∙ same_table c.args.number v scan c.self.inside.scans.entries
    (λ k. λ i. record { scan = record { number = k; range = scan.range; position = scan.position; place = scan.place }; pairs = c.in_err-append.ensures.items i }) (sym c.in-Some.ensures.value)
    ∙ c.self.view_is)

pub invariant_of-self-2 : goal.invariant_of-self-2
invariant_of-self-2 c =
    let scan = c.in-Some.scan.now in
    let v : UnderWay = record { range = scan.range; position = scan.position; place = c.args.upto; pairs = c.append.new.self } in
    let lies = c.self.invariant c.args.number scan (sym c.in-Some.ensures.value) in
    let goes : goes_on c.args.upto (progress_of (c.args.number, scan)).scan ≡ true =
    subst (λ o. IsSomeAnd o (λ g. goes_on c.args.upto g.scan ≡ true)) (found_in c.args.number c.self.inside.scans.entries c.args.self.now (Some scan) c.self.view_is (sym c.in-Some.ensures.value)) c.requires in
    let parts = and_parts (is_below scan.place c.args.upto) (is_up_to c.args.upto scan.range.high) goes in
    lie_after c.args.number (Some v) c.self.inside.scans.entries (c.get_mut.follows.lender v).entries ((c.get_mut.follows.holds v).3 (search rules)).0
    (record { begins = up_to_trans scan.range.low scan.place c.args.upto lies.begins (up_to_from_below scan.place c.args.upto parts.0); ends = parts.1 }) c.self.invariant

pub returns-clause-ok : goal.returns-clause-ok
returns-clause-ok c =
    let scan = c.in-Some.scan.now in
    let v : UnderWay = record { range = scan.range; position = scan.position; place = c.args.upto; pairs = c.append.new.self } in
    let new = (c.get_mut.follows.lender v).entries in
    let shown : Some (progress_of (c.args.number, v)) ≡ Some (further c.args.upto c.args.pairs.items (progress_of (c.args.number, scan))) =
    (λ i. Some (record { scan = record { number = c.args.number; range = scan.range; position = scan.position; place = c.args.upto }; pairs = c.in_ok-append.ensures.items i })) in
    subst (λ o. Puts c.args.number o c.args.self.now (table_of new))
    (shown ∙ ap (option_map (further c.args.upto c.args.pairs.items)) (sym (found_in c.args.number c.self.inside.scans.entries c.args.self.now (Some scan) c.self.view_is (sym c.in-Some.ensures.value))))
    (subst (λ t. Puts c.args.number (Some (progress_of (c.args.number, v))) t (table_of new)) c.self.view_is
    (puts c.args.number (Some v) c.self.inside.scans.entries new ((c.get_mut.follows.holds v).3 (search rules)).0))
