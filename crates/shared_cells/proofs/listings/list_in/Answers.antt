use Rattle.std.proofs.Common.{◌≡◌, true, false, [], IfOk, OnErr, unwrap_or, sym, ap, ◌∙◌, subst, rules}
use Rattle.std.proofs.lemmas.Result.{IfOk-weaker, on_err_weaker}
use Rattle.shared_cells.specs.Listings.{IsListed, Listed, StayListed, listed_at}
use Rattle.shared_cells.proofs.ListingLemmas.{lists_one, lists_the_same}
use Rattle.shared_cells.proofs.listings.list_in.Goals as goal

pub returns-in-Some-clause-listed : goal.returns-in-Some-clause-listed
returns-in-Some-clause-listed c =
    let old = c.args.joins.now.entries in
    let new = (c.get_mut.follows.lender c.add.new.self).entries in
    let set = ((c.get_mut.follows.holds c.add.new.self).3 (search rules)).0 in
    IfOk-weaker c.add.result _ _ (λ is_listed added yes. lists_one c.args.join c.args.range.now c.args.id c.in-Some.listing.now c.add.new.self old new set (ap (λ o. unwrap_or o []) c.in-Some.ensures.value) (added yes)) c.add.ensures.added

pub returns-in-Some-clause-left : goal.returns-in-Some-clause-left
returns-in-Some-clause-left c =
    let old = c.args.joins.now.entries in
    let new = (c.get_mut.follows.lender c.add.new.self).entries in
    let set = ((c.get_mut.follows.holds c.add.new.self).3 (search rules)).0 in
    IfOk-weaker c.add.result _ _ (λ is_listed left no. lists_the_same c.args.join c.add.new.self old new set (left no ∙ ap (λ o. unwrap_or o []) c.in-Some.ensures.value)) c.add.ensures.left

pub returns-in-Some-clause-err : goal.returns-in-Some-clause-err
returns-in-Some-clause-err c =
    let old = c.args.joins.now.entries in
    let new = (c.get_mut.follows.lender c.add.new.self).entries in
    let set = ((c.get_mut.follows.holds c.add.new.self).3 (search rules)).0 in
    on_err_weaker c.add.result (λ still. lists_the_same c.args.join c.add.new.self old new set (still ∙ ap (λ o. unwrap_or o []) c.in-Some.ensures.value)) c.add.ensures.err

pub list_first-requires : goal.list_first-requires
list_first-requires c = ap (λ l. listed_at l c.args.join) (ap (λ m. m.entries) c.get_mut.follows.holds-at-none) ∙ ap (λ o. unwrap_or o []) (sym c.in-None.ensures.value)

pub returns-in-None-clause-listed : goal.returns-in-None-clause-listed
returns-in-None-clause-listed c =
    subst (λ (old : Listed). IfOk c.list_first.result (λ is_listed. is_listed ≡ true → IsListed c.args.join c.args.range.now c.args.id old c.list_first.new.joins.entries)) (ap (λ m. m.entries) c.get_mut.follows.holds-at-none) c.list_first.ensures.listed

pub returns-in-None-clause-left : goal.returns-in-None-clause-left
returns-in-None-clause-left c =
    subst (λ (old : Listed). IfOk c.list_first.result (λ is_listed. is_listed ≡ false → StayListed old c.list_first.new.joins.entries)) (ap (λ m. m.entries) c.get_mut.follows.holds-at-none) c.list_first.ensures.left

pub returns-in-None-clause-err : goal.returns-in-None-clause-err
returns-in-None-clause-err c =
    subst (λ (old : Listed). OnErr c.list_first.result (StayListed old c.list_first.new.joins.entries)) (ap (λ m. m.entries) c.get_mut.follows.holds-at-none) c.list_first.ensures.err
