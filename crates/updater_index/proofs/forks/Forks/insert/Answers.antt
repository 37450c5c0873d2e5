use Rattle.std.proofs.Common.{◌≡◌, ap, sym, ◌∙◌, length, true}
use Rattle.std.specs.Ordering.{nat_cmp}
use Rattle.std.specs.BTreeSet.{contains}
use Rattle.updater_index.specs.declared.fork.Fork.{Fork}
use Rattle.updater_index.specs.Forks.{fork_of}
use Rattle.updater_index.specs.Sides.{AreForks}
use Rattle.updater_index.proofs.SideLemmas.{forks_more, forks_kept, lengths_grow, by_result}
use Rattle.updater_index.proofs.forks.Forks.insert.Goals as goal

pub invariant_of-self-2 : goal.invariant_of-self-2
invariant_of-self-2 c =
    let b = c.args.bounds.now in
    let lengths = c.self.inside.lengths in
    let more = c.insert.new.self in
    let old = c.self.inside.sides.entries in
    let new = c.insert_in.new.sides.entries in
    let long : c.len.result ≡ length (fork_of b).beginning = c.len.ensures ∙ ap (λ (f : Fork). length f.beginning) c.fork.ensures in
    let grows = lengths_grow lengths more c.len.result c.in_ok-insert.ensures.updates.0 in
    let own : contains nat_cmp more (length (fork_of b).beginning) ≡ true = ap (contains nat_cmp more) (sym long) ∙ c.in_ok-insert.ensures.updates.1 in
    by_result (AreForks more new) c.insert_in.result c.insert_in.ensures.ok c.insert_in.ensures.err
    (λ a. forks_more b c.args.id lengths more old new own grows c.self.invariant a)
    (λ k. forks_kept lengths more old new grows c.self.invariant k)
