use Rattle.std.proofs.Common.{◌≡◌, ◌+◌, ◌≤◌, length, List, ◌∙◌, subst, arith}
use Rattle.std.proofs.lemmas.Result.{IfOk-weaker}
use Rattle.load_gen.specs.declared.acts.Act.{Act}
use Rattle.load_run.specs.Jobs.{HaveWorked}
use Rattle.load_run.proofs.LoadLemmas.{are_new, line_is_loads}
use Rattle.load_run.proofs.loading.load_seats.Goals as goal

pub returns : goal.returns
returns g c =
    let load = c.args.load in
    let all = c.in_ok-clients.clients in
    let others = c.remove-first.new.self in
    let counted_all = all.ok.0 in
    let counted_others = others.ok.0 in
    let removed = c.remove-first.ensures.len in
    let count = c.in_ok-clients.ensures.count in
    let two = c.requires.two in
    let counted : length others.items + 1 ≡ length c.args.seats.clients.items = omega arith in
    let some : 1 ≤ length others.items = omega arith in
    let is = line_is_loads load.number load.steps load.users g.N.Naming.history c.remove-first.result c.declare_joins.new.first others.items c.in_ok-workers.workers.items c.in_ok-tables.tables
    some c.requires.some_users c.requires.few_users
    (record {
      new = are_new g.N.Naming.history (length c.args.seats.clients.items) all.items others.items c.remove-first.result counted c.requires.clients.all c.in_ok-clients.ensures.each c.remove-first.ensures.value c.remove-first.ensures.by_index.1;
      added = c.in_ok-declare_joins.ensures.added;
      begins = c.in_ok-declare_joins.ensures.begins;
      worked = subst (λ (acts : List Act). HaveWorked acts others.items c.in_ok-workers.workers.items) c.in_ok-acts.ensures c.in_ok-workers.ensures;
    })
    c.in_ok-tables.ensures in
    IfOk-weaker c.tables_line.result _ _ (λ line e. e ∙ is) c.tables_line.ensures
