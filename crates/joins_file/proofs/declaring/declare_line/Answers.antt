use Rattle.std.proofs.Common.{◌∙◌, sym}
use Rattle.joins_file.proofs.DeclareLemmas.{declare_line-enters}
use Rattle.joins_file.proofs.declaring.declare_line.Goals as goal

pub returns : goal.returns
returns c = λ h s.
    let none = rw c.in_default-2.is at c.in_ok-cause.ensures.verdict h s in
    let join = rw c.in-Some.is at c.in_ok-join.ensures in
    (_, declare_line-enters c.args.line.now h c.in-Some.join (sym c.is_skipped.ensures ∙ c.if-is_skipped.false) (sym join) (sym none), c.in_ok-enter.ensures.history h 0 s)
