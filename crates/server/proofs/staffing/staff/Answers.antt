use Rattle.std.proofs.Common.{◌≡◌, ◌+◌, List, length, sym, ap, ◌∙◌, subst, arith}
use Rattle.growing_history.proofs.ElementLemmas.{put_back}
use Rattle.write_history.specs.Passes.{PassView, new_pass, own}
use Rattle.server.specs.Staffs.{AreStaff}
use Rattle.server.proofs.StaffLemmas.{first_is_new, new_are_alone}
use Rattle.server.proofs.staffing.staff.Goals as goal

pub declare_all-requires-clause-alone : goal.declare_all-requires-clause-alone
declare_all-requires-clause-alone g c =
    let counted = c.in_ok-clients.clients.ok.0 in
    let one = c.in_ok-workers.ensures.len in
    let two = c.requires.two in
    let first : c.in-Some.first ≡ new_pass g.N.Naming.history 0 =
    first_is_new g.N.Naming.history _ c.in_ok-clients.clients.items _ c.in-Some.first c.in_ok-workers.ensures.items c.in_ok-workers.ensures.len (c.in-Some.ensures.value c.in-Some.first (omega arith))
    (c.in_ok-clients.ensures.each 0 (omega arith)) in
    new_are_alone g.N.Naming.history (length c.args.seats.clients.items) c.in_ok-clients.clients.items c.deref_mut.result.now c.in-Some.first
    c.in_ok-clients.ensures.each c.requires.clients.all c.in_ok-clients.ensures.count (omega arith) (c.deref_mut.ensures.value ∙ c.in_ok-workers.ensures.tail) first

pub declare_all-requires-clause-none : goal.declare_all-requires-clause-none
declare_all-requires-clause-none g c =
    let counted = c.in_ok-clients.clients.ok.0 in
    let one = c.in_ok-workers.ensures.len in
    let two = c.requires.two in
    ap (λ (p : PassView). own p)
    (first_is_new g.N.Naming.history _ c.in_ok-clients.clients.items _ c.in-Some.first c.in_ok-workers.ensures.items c.in_ok-workers.ensures.len (c.in-Some.ensures.value c.in-Some.first (omega arith))
    (c.in_ok-clients.ensures.each 0 (omega arith)))

pub returns-clause-count : goal.returns-clause-count
returns-clause-count g c =
    let olds = c.in_ok-workers.workers in
    let news = c.declare_all.new.others in
    let all = c.in_ok-clients.clients in
    let lent = c.deref_mut.ensures.value in
    let same = c.declare_all.auto.others in
    let back = put_back news olds.items olds.len olds.ok.0 (rw lent at same) in
    let counted = olds.ok.0 in
    let counted_all = all.ok.0 in
    let tail = c.in_ok-workers.ensures.tail_len in
    let count = c.in_ok-clients.ensures.count in
    let equal : length news ≡ length olds.items = rw lent at same in
    ap (λ (xs : List PassView). length xs + 1) back ∙ omega arith

pub returns-clause-staff : goal.returns-clause-staff
returns-clause-staff g c =
    let olds = c.in_ok-workers.workers in
    let news = c.declare_all.new.others in
    let lent = c.deref_mut.ensures.value in
    let same = c.declare_all.auto.others in
    let back = put_back news olds.items olds.len olds.ok.0 (rw lent at same) in
    subst (λ (clients : List PassView). AreStaff g.N.Naming.history c.args.joins.items c.declare_all.new.first clients) (sym back) c.in_ok-declare_all.ensures
