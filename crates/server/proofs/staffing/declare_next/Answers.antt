use Rattle.std.proofs.Common.{◌∷◌, [], subst}
use Rattle.semantics.specs.Histories.{declare}
use Rattle.protocol.specs.Requests.{write}
use Rattle.protocol.specs.Replies.{Reply}
use Rattle.protocol.specs.Told.{Told}
use Rattle.request_codec.specs.Plain.{plain_reply}
use Rattle.server.proofs.StaffLemmas.{alone_still, enters, seen_is_own, wrote_next}
use Rattle.server.proofs.staffing.declare_next.Goals as goal

-- what the first client had seen when it was told the reply is its own: the others had written nothing when they met it later
pub entered_at-requires : goal.entered_at-requires
entered_at-requires g c =
    enters c.args.first.now c.declare-reply.new.self c.args.join (plain_reply c.declare-reply.result) c.requires.alone.numbered c.declare-reply.ensures.told
    (seen_is_own g.N.Naming.history c.args.first.now c.declare-reply.new.self c.meet_all.new.first.view c.args.others.now c.meet_all.new.others
    c.requires.alone c.declare-reply.ensures.goes_on c.meet_all.ensures.met)
    c.requires.free

pub returns-clause-alone : goal.returns-clause-alone
returns-clause-alone g c =
    alone_still g.N.Naming.history c.args.first.now c.declare-reply.new.self c.meet_all.new.first c.meet_all.new.first.view c.args.others.now c.meet_all.new.others
    c.requires.alone c.declare-reply.ensures.goes_on c.meet_all.ensures.added c.meet_all.ensures.met

pub returns-clause-wrote : goal.returns-clause-wrote
returns-clause-wrote g c =
    let old = c.args.first.now in
    let now = c.declare-reply.new.self in
    wrote_next old now c.meet_all.new.first c.args.join _ c.requires.alone.numbered c.declare-reply.ensures.goes_on
    (subst (λ (reply : Reply). Told old.view now.view old.number (write (declare c.args.join) ∷ []) (reply ∷ [])) c.in_ok-entered_at.ensures c.declare-reply.ensures.told)
    c.meet_all.ensures.added
