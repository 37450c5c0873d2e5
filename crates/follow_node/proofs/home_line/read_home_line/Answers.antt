use Rattle.std.proofs.Common.{◌≡◌, Option, None, sym, ap, ◌∙◌}
use Rattle.std.proofs.lemmas.Result.{IfOk-weaker}
use Rattle.protocol.specs.Requests.{json_of}
use Rattle.protocol.specs.Batches.{Batch, batch_of}
use Rattle.request_codec.specs.FeedFaults.{IsNone}
use Rattle.request_codec.specs.declared.batch.FeedFault.{FeedFault}
use Rattle.request_codec.specs.declared.batch.FeedFault.TheVariants.{Bad, OutOfMemory}
use Rattle.follow_node.specs.FedLines.{refusal_in, line_of, fed_line}
use Rattle.follow_node.specs.HomeLines.{plain_line}
use Rattle.follow_node.specs.declared.home_line.HomeLine.{HomeLine}
use Rattle.follow_node.proofs.home_line.read_home_line.Goals as goal

-- a fault that is no want of memory says that there is nothing
is_none : (found : Option Batch) (fault : FeedFault) → IsNone found fault → fault ≡ Bad → found ≡ None
is_none found Bad h e = h
is_none found (OutOfMemory memory) h e = absurd (cc)

pub returns-in-Ok : goal.returns-in-Ok
unfolding fed_line
returns-in-Ok c = ap (λ (b : Option Batch). line_of b (json_of c.args.line.now)) (sym c.in-Ok.ensures.entries)

pub returns-in-Err-Bad : goal.returns-in-Err-Bad
unfolding fed_line
returns-in-Err-Bad c =
    let bad : c.in-Err-Bad.field-0 ≡ Bad = cc in
    let none = is_none (batch_of c.args.line.now) c.in-Err-Bad.field-0 c.in-Err-Bad.ensures.fault bad in
    IfOk-weaker c.read_other.result (λ (found : HomeLine). plain_line found ≡ refusal_in (json_of c.args.line.now)) (λ (found : HomeLine). plain_line found ≡ fed_line c.args.line.now)
    (λ found is. is ∙ ap (λ (b : Option Batch). line_of b (json_of c.args.line.now)) (sym none)) c.read_other.ensures
