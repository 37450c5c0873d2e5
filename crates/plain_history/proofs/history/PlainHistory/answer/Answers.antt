use Rattle.std.proofs.Common.{◌∷◌, [], IfOk, sym, subst}
use Rattle.semantics.specs.Answers.{get, scan, answer}
use Rattle.protocol.specs.Requests.{read, earlier, scan_at, changes_since, feed_from}
use Rattle.protocol.specs.Replies.{answered}
use Rattle.protocol.specs.Earlier.{earlier_reply}
use Rattle.protocol.specs.Told.{Told}
use Rattle.protocol.proofs.TellingSteps.{told_read, told_earlier}
use Rattle.request_codec.specs.Plain.{plain_reply, plain_request}
use Rattle.request_codec.specs.declared.reply.Reply.{Reply}
use Rattle.request_codec.specs.declared.request.Request.{Request}
use Rattle.plain_history.proofs.AnswerLemmas.{told_as}
use Rattle.plain_history.proofs.history.PlainHistory.answer.Goals as goal

pub returns-in-Get-clause-told : goal.returns-in-Get-clause-told
returns-in-Get-clause-told c =
    subst (λ (q : Request). IfOk c.get.result (λ (r : Reply). Told c.args.self.now c.args.self.now 0 (plain_request q ∷ []) (plain_reply r ∷ []))) (sym c.in-Get.is)
    (told_as c.args.self.now (read (get c.in-Get.key)) (answered (answer (get c.in-Get.key) c.args.self.now)) c.get.result (told_read c.args.self.now 0 (get c.in-Get.key)) c.get.ensures)

pub returns-in-Scan-clause-told : goal.returns-in-Scan-clause-told
returns-in-Scan-clause-told c =
    subst (λ (q : Request). IfOk c.scan.result (λ (r : Reply). Told c.args.self.now c.args.self.now 0 (plain_request q ∷ []) (plain_reply r ∷ []))) (sym c.in-Scan.is)
    (told_as c.args.self.now (read (scan c.in-Scan.range)) (answered (answer (scan c.in-Scan.range) c.args.self.now)) c.scan.result (told_read c.args.self.now 0 (scan c.in-Scan.range)) c.scan.ensures)

pub returns-in-ScanAt-clause-told : goal.returns-in-ScanAt-clause-told
returns-in-ScanAt-clause-told c =
    subst (λ (q : Request). IfOk c.scan_at.result (λ (r : Reply). Told c.args.self.now c.args.self.now 0 (plain_request q ∷ []) (plain_reply r ∷ []))) (sym c.in-ScanAt.is)
    (told_as c.args.self.now (earlier (scan_at c.in-ScanAt.range c.in-ScanAt.at)) (earlier_reply (scan_at c.in-ScanAt.range c.in-ScanAt.at) c.args.self.now) c.scan_at.result (told_earlier c.args.self.now 0 (scan_at c.in-ScanAt.range c.in-ScanAt.at)) c.scan_at.ensures)

pub returns-in-Changes-clause-told : goal.returns-in-Changes-clause-told
returns-in-Changes-clause-told c =
    subst (λ (q : Request). IfOk c.changes.result (λ (r : Reply). Told c.args.self.now c.args.self.now 0 (plain_request q ∷ []) (plain_reply r ∷ []))) (sym c.in-Changes.is)
    (told_as c.args.self.now (earlier (changes_since c.in-Changes.range c.in-Changes.from)) (earlier_reply (changes_since c.in-Changes.range c.in-Changes.from) c.args.self.now) c.changes.result (told_earlier c.args.self.now 0 (changes_since c.in-Changes.range c.in-Changes.from)) c.changes.ensures)

pub returns-in-Feed-clause-told : goal.returns-in-Feed-clause-told
returns-in-Feed-clause-told c =
    subst (λ (q : Request). IfOk c.feed.result (λ (r : Reply). Told c.args.self.now c.args.self.now 0 (plain_request q ∷ []) (plain_reply r ∷ []))) (sym c.in-Feed.is)
    (told_as c.args.self.now (earlier (feed_from c.in-Feed.from)) (earlier_reply (feed_from c.in-Feed.from) c.args.self.now) c.feed.result (told_earlier c.args.self.now 0 (feed_from c.in-Feed.from)) c.feed.ensures)
