use Rattle.std.proofs.Common.{◌≡◌, IfSome, sym, ◌∙◌, ap, inl, inr, subst}
use Rattle.std.proofs.lemmas.Result.{IfOk-weaker}
use Rattle.base_versions.specs.Versions.{Tracks, AllAscend, keys_changed}
use Rattle.base_versions.specs.Changes.{changed_in}
use Rattle.base_versions.specs.Kept.{TableKept}
use Rattle.base_versions.proofs.GroupedLemmas.{found_by_changes}
use Rattle.base_versions.proofs.table.TableVersions.changed.Goals as goal

pub returns-in_default : goal.returns-in_default
returns-in_default c = λ ascend. inl (c.new.ensures.items ∙ c.in_default.ensures.none.changed c.args.q c.args.p ∙ ap (λ (t : TableKept). changed_in c.args.q c.args.p c.args.range.now t.changes) c.self.view_is)

pub returns-then-last-first-le-FEW : goal.returns-then-last-first-le-FEW
returns-then-last-first-le-FEW c = λ ascend.
    let is : c.self.inside.changes.items ≡ c.args.self.now.changes = ap (λ (t : TableKept). t.changes) c.self.view_is in
    IfOk-weaker c.keys_in_order.result _ _
    (λ keys e. found_by_changes c.args.q c.args.p c.args.range.now c.args.self.now c.self.inside.changes.items c.in-Some.changes.now.items _ keys.items is c.in-Some.ensures.some ascend c.between-first.ensures.exact e) c.keys_in_order.ensures

pub returns-in-None : goal.returns-in-None
returns-in-None c = λ ascend.
    let is : c.self.inside.changes.items ≡ c.args.self.now.changes = ap (λ (t : TableKept). t.changes) c.self.view_is in
    IfOk-weaker c.keys_in_order-in-None.result _ _
    (λ keys e. found_by_changes c.args.q c.args.p c.args.range.now c.args.self.now c.self.inside.changes.items c.in-Some.changes.now.items _ keys.items is c.in-Some.ensures.some ascend c.between-first.ensures.exact e) c.keys_in_order-in-None.ensures

pub returns-in-Some-2 : goal.returns-in-Some-2
returns-in-Some-2 c = λ ascend.
    let is = c.in_ok-tracks.ensures.tracks in
    inr (record {
      ordered = c.in_ok-tracks.ensures.ordered;
      found = λ all.
          let few = c.in_ok-keys.ensures (subst (λ (ts : Tracks). AllAscend ts) (sym is) all) in
          subst (λ found. IfSome found (λ keys. keys.items ≡ keys_changed c.args.q c.args.p c.in_ok-tracks.tracks)) c.in-Some-2.is few ∙ ap (keys_changed c.args.q c.args.p) is;
    })
