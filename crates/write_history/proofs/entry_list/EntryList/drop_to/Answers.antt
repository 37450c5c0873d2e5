use Rattle.std.proofs.Common.{◌≡◌, ◌+◌, ◌-◌, ◌≤◌, ◌++◌, length, drop, refl, sym, ap, ◌∙◌, arith}
use Rattle.std.specs.List.{flat_map}
use lib.Seq.{drop-drop}
use Rattle.write_history.specs.Stored.{EntriesWithRoom}
use Rattle.write_history.proofs.entry_list.EntryList.drop_to.Goals as goal

pub loop-chunk-init : goal.loop-chunk-init
loop-chunk-init c =
    let inside = c.self.inside in
    let floor = c.args.floor in
    let all = flat_map (λ chunk. chunk.items) inside.full.items ++ inside.last.items in
    let lacks : inside.lacks ≡ c.args.self.now.lacks = ap (λ (l : EntriesWithRoom). l.lacks) c.self.view_is in
    let same : floor - inside.gone ≡ inside.lacks - inside.gone + (floor - c.args.self.now.lacks) = let k = c.requires.kept in let low = c.self.invariant.2 in omega arith in
    record {
      entries = ap (λ n. drop n all) same ∙ sym (drop-drop (floor - c.args.self.now.lacks) (inside.lacks - inside.gone) all) ∙ ap (λ (l : EntriesWithRoom). drop (floor - c.args.self.now.lacks) l.entries) c.self.view_is;
      lacks = refl;
    }
