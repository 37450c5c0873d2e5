use Rattle.std.proofs.Common.{◌≡◌, ◌+◌, All, length, vec_len}
use Rattle.write_history.specs.Passes.{PassView}
use Rattle.write_history.specs.declared.known.Mark.TheVariants.{Noted}
use Rattle.base_shards.proofs.base_shards.make_shards.Given as goal

-- each pass that is left is of the history and has noted nothing yet, and there are as many parts as passes were taken
abbrev pub invariant-loop-pass : goal.invariant-loop-pass
invariant-loop-pass g l =
    (goal.iterator-loop-pass g).can_next l.pass-iterator ×
    (goal.iterator-loop-pass g).is_finite l.pass-iterator ×
    (l.number + length l.pass-iterator.rest.items ≡ 16) ×
    (vec_len l.shards ≡ l.number) ×
    All (λ (pass : PassView). pass.history ≡ g.N.Naming.history) l.pass-iterator.rest.items ×
    All (λ (pass : PassView). pass.mark ≡ Noted 0) l.pass-iterator.rest.items
