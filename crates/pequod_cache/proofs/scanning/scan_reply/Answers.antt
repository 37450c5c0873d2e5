use Rattle.std.proofs.Common.{◌≡◌, IfOk, ap, subst}
use Rattle.semantics.specs.Texts.{Table}
use Rattle.semantics.specs.Answers.{pairs}
use Rattle.protocol.specs.Replies.{answered}
use Rattle.pequod_cache.specs.Scanning.{HasFound}
use Rattle.pequod_cache.proofs.scanning.scan_reply.Goals as goal

pub end-requires : goal.end-requires
end-requires c =
    let found = subst (λ r. (rows : Table) × IfOk r (λ given. HasFound c.args.position c.args.line given rows)) c.in_ok-given.was c.requires in
    (found.0, subst (λ given. HasFound c.args.position c.args.line given found.0) c.in_default.is found.1)

pub returns-in_default : goal.returns-in_default
returns-in_default c = λ rows found.
    let given = subst (λ r. IfOk r (λ given. HasFound c.args.position c.args.line given rows)) c.in_ok-given.was found in
    let had = subst (λ given. HasFound c.args.position c.args.line given rows) c.in_default.is given in
    (λ i. answered (pairs (c.in_ok-scan.ensures.position i) (c.in_ok-scan.ensures.pairs rows had i)))

pub returns : goal.returns
returns c = λ rows found.
    let given = subst (λ r. IfOk r (λ given. HasFound c.args.position c.args.line given rows)) c.in_ok-given.was found in
    ap (λ (t : Table). answered (pairs c.args.position t)) (subst (λ given. HasFound c.args.position c.args.line given rows) c.in-Some.is given)
