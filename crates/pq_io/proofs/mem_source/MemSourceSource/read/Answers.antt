-- What was left is the bytes copied and then what is left now.
use Rattle.std.proofs.Common.{◌≡◌, ◌≤◌, ◌-◌, ◌∙◌, ap, sym, length, take, drop, arith}
use Rattle.std.specs.Prelude.{Some}
use Rattle.pq_io.proofs.StreamLemmas.{copied_then_left, slice_from}
use Rattle.pq_io.proofs.mem_source.MemSourceSource.read.Goals as goal

pub returns-clause-bytes : goal.returns-clause-bytes
returns-clause-bytes c =
    let bytes = c.self.inside.bytes.items in
    let given = c.self.inside.given in
    let n = c.min-count.result in
    let left = c.args.self.now.left in
    let held = c.deref-2.result.now in
    let is_left : left ≡ drop given bytes = ap (λ s. s.left) (sym c.self.view_is) in
    let is_slice : take (length held - given) (drop given held) ≡ left =
    slice_from given held ∙ ap (drop given) c.deref-2.ensures.value ∙ sym is_left in
    let enough : n ≤ length left = omega (arith, ap length is_slice) in
    let copied : c.copy_from_slice.new.self ≡ take n left = c.copy_from_slice.ensures.after ∙ ap (take n) is_slice in
    ap Some (copied_then_left bytes left c.copy_from_slice.new.self c.args.into.now given n is_left enough copied)
