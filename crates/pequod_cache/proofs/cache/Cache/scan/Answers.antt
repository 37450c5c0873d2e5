use Rattle.std.proofs.Common.{◌≡◌, take, IfOk, subst, arith}
use Rattle.std.proofs.lemmas.List.{take_all}
use Rattle.semantics.specs.Texts.{Table, pairs_within}
use Rattle.semantics.specs.States.{state}
use Rattle.base_shards.proofs.ReadingLemmas.{reads_on-refl}
use Rattle.pequod_cache.specs.Scanning.{HasFound}
use Rattle.pequod_cache.proofs.EarlierLemmas.{joins_now}
use Rattle.pequod_cache.proofs.ScanningLemmas.{has_found}
use Rattle.pequod_cache.proofs.cache.Cache.scan.Goals as goal

pub returns-in_err-line-clause-reads_on : goal.returns-in_err-line-clause-reads_on
returns-in_err-line-clause-reads_on g c = reads_on-refl c.args.pass.now

pub scan-found-requires-clause-pinned : goal.scan-found-requires-clause-pinned
scan-found-requires-clause-pinned g c = record { pin = c.args.position; pinned = c.requires.pinned; near = omega arith }

pub scan-found-requires-clause-joins : goal.scan-found-requires-clause-joins
scan-found-requires-clause-joins g c = joins_now c.args.pass.now c.args.position c.args.joins.now c.requires.whole c.requires.joins

pub scan_reply-requires : goal.scan_reply-requires
scan_reply-requires g c =
    let rows : Table = pairs_within c.args.range.now (state (take c.args.position c.args.pass.now.view)) in
    (rows, has_found c.args.position rows c.in_ok-line.line c.scan-found.new.sink c.scan-found.result c.in_ok-line.ensures c.scan-found.ensures.exact)

pub returns-clause-replied : goal.returns-clause-replied
returns-clause-replied g c =
    let seen = c.args.pass.now.view in
    let all : take c.args.position seen ≡ seen = take_all c.args.position seen (omega (arith, c.requires.whole)) in
    c.scan_reply.ensures (pairs_within c.args.range.now (state seen))
    (subst (λ h. IfOk c.scan-found.result (λ given. HasFound c.args.position c.scan-found.new.sink given (pairs_within c.args.range.now (state h)))) all
    (has_found c.args.position (pairs_within c.args.range.now (state (take c.args.position seen))) c.in_ok-line.line c.scan-found.new.sink c.scan-found.result c.in_ok-line.ensures c.scan-found.ensures.exact))
