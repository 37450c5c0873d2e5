use Rattle.std.proofs.Common.{◌≡◌, ℕ, ◌<◌, [], length, slice_get, Some}
use Rattle.write_history.specs.Rule.{dealer}
use Rattle.write_history.specs.Passes.{new_pass}
use Rattle.write_history.specs.declared.known.Role.TheVariants.{Deals}
use Rattle.write_history.proofs.history.deal.Given as goal

abbrev pub invariant-loop-number : goal.invariant-loop-number
invariant-loop-number l = record {
  own : l.first.table_id ≡ l.board.table_id;
  next : l.first.me ≡ (record (dealer l.board.key) { role = Deals l.number }, []);
  count : length l.passes.items ≡ l.number;
  each : (number : ℕ) → number < l.number → slice_get l.passes.items number ≡ Some (new_pass (record { table = l.board.table_id; kinds = l.board.key }) number);
}
