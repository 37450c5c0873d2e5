use Rattle.std.proofs.Common.{◌≡◌, ◌≤◌, ◌<◌, List, length, drop, get_or, sym, ap, ◌∙◌, rules, subst, arith}
use Rattle.std.proofs.lemmas.Bool.Decides.{nat_tests}
use Rattle.base_versions.specs.declared.versions.Version.{Version}
use Rattle.base_versions.specs.Versions.{AscendFrom, IsTrimmed}
use Rattle.base_versions.proofs.TrimLemmas.{trimmed-first, trimmed-none}
use Rattle.base_versions.proofs.older.OlderVersions.trim.Goals as goal

pub returns-in-Some : goal.returns-in-Some
returns-in-Some c = λ ascend.
    let vs = c.self.inside.queue.items in
    let second = c.in-Some.second.now in
    let less : second.position ≤ c.args.to = grind (arith, nat_tests, c.if-second-to.true) in
    let left : drop 1 vs ≡ c.let_room_go.new.queue.items = sym (c.let_room_go.ensures ∙ c.pop_front.ensures.rest) in
    subst (λ (x : List Version × List Version). IsTrimmed c.args.to x.0 x.1) (λ i. (c.self.view_is i, left i))
    (trimmed-first c.args.to vs second (search rules) c.in-Some.ensures.lookup less (subst (λ (ws : List Version). AscendFrom 0 ws) (sym c.self.view_is) ascend))
