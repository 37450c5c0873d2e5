-- One read more, and each end.
use Rattle.std.proofs.Common.{◌≡◌, ◌+◌, ◌++◌, take, length, sym, ap, ◌∙◌, inl, inr, subst, arith, length-append}
use Rattle.pq_io.specs.Streams.{Gave}
use Rattle.pq_io.proofs.StreamLemmas.{Gave-append}
use Rattle.request_codec.specs.Feeding.{ends}
use Rattle.follow_node.proofs.ReadingLemmas.{short_after, more_is, ends_with, followed, long_with}
use Rattle.follow_node.proofs.reading.read_line.Goals as goal
use Rattle.follow_node.proofs.reading.read_line.Goals.{in_default-via-in-Line+else-end-count, in_default-via-in_default}

pub loop-count-smaller : goal.loop-count-smaller
loop-count-smaller g c =
    let so_far = c.loop-count.invariant in
    let piece = take c.in-Ok.count c.read.new.into in
    let is = more_is c.loop-count.lines.line piece c.feed.new.self.line so_far.line (sym c.feed.ensures.fed ∙ c.in-More.is) c.feed.ensures.line in
    let longer : length c.feed.new.self.line ≡ length c.loop-count.lines.line + length piece = ap length is ∙ length-append c.loop-count.lines.line piece in
    let short = (short_after c.loop-count.lines.line piece c.feed.new.self.line so_far.line c.feed.ensures.line).short in
    let count = c.in-Ok.ensures.bound.1 in
    let some = c.in-Ok.count-test.1 in
    omega arith

pub loop-count-preserved : goal.loop-count-preserved
loop-count-preserved g c =
    let so_far = c.loop-count.invariant in
    let read = c.in-Ok.ensures in
    let piece = take c.in-Ok.count c.read.new.into in
    record {
      gave = subst (Gave _ _) (sym (more_is c.loop-count.lines.line piece c.feed.new.self.line so_far.line (sym c.feed.ensures.fed ∙ c.in-More.is) c.feed.ensures.line))
          (Gave-append _ _ _ c.loop-count.lines.line piece so_far.gave read.bytes);
      open_line = c.feed.ensures.ended ∙ ap ends c.in-More.is;
      line = short_after c.loop-count.lines.line piece c.feed.new.self.line so_far.line c.feed.ensures.line;
      same_read_faults = read.cause.kept ∙ so_far.same_read_faults;
      same_taken = read.same_taken ∙ so_far.same_taken;
      same_write_faults = read.same_faults ∙ so_far.same_write_faults;
      same_borrows = read.same_borrows ∙ so_far.same_borrows;
    }

pub returns-in-Line-clause-heard : goal.returns-in-Line-clause-heard
returns-in-Line-clause-heard g c =
    let so_far = c.loop-count.invariant in
    let read = c.in-Ok.ensures in
    let piece = take c.in-Ok.count c.read.new.into in (
      c.loop-count.lines.line ++ piece,
      Gave-append _ _ _ c.loop-count.lines.line piece so_far.gave read.bytes,
      (
        ends_with c.loop-count.lines.line piece c.feed.new.self.line c.in-Line.end so_far.line (sym c.feed.ensures.fed ∙ c.in-Line.is) c.feed.ensures.line (c.if-end-count.true ∙ read.bound.1),
        short_after c.loop-count.lines.line piece c.feed.new.self.line so_far.line c.feed.ensures.line,
      ),
    )

pub returns-in_default-clause-heard : goal.returns-in_default-clause-heard
returns-in_default-clause-heard g c =
    let so_far = c.loop-count.invariant in
    let read = c.in-Ok.ensures in
    let piece = take c.in-Ok.count c.read.new.into in (
      c.loop-count.lines.line ++ piece,
      Gave-append _ _ _ c.loop-count.lines.line piece so_far.gave read.bytes,
      elim c.in_default.branch [
        | in_default-via-in-Line+else-end-count w ↦
            inl (followed c.loop-count.lines.line piece c.feed.new.self.line w.in-Line.end so_far.line (sym c.feed.ensures.fed ∙ w.in-Line.is) c.feed.ensures.line
            (λ e. w.if-end-count.false (e ∙ sym read.bound.1)))
        | in_default-via-in_default w ↦ inr (long_with c.loop-count.lines.line piece w.in_default.field-0 so_far.line (sym c.feed.ensures.fed ∙ w.in_default.is))
      ],
    )
