use Rattle.std.proofs.Common.{◌∷◌, [], length, sym, refl, subst}
use Rattle.semantics.specs.Texts.{pairs_within}
use Rattle.semantics.specs.States.{state}
use Rattle.semantics.specs.Answers.{Answer, scan}
use Rattle.protocol.specs.Requests.{read}
use Rattle.protocol.specs.Replies.{Reply, answered}
use Rattle.protocol.specs.Told.{Told}
use Rattle.write_history.specs.Passes.{PassView}
use Rattle.key_ranges.proofs.AnswerLemmas.{pairs_answer}
use Rattle.pequod_cache.proofs.ToldLemmas.{told_answer, told_no_answer}
use Rattle.pequod_cache.proofs.client.Client.scan.Goals as goal

pub returns-in-Ok-clause-told : goal.returns-in-Ok-clause-told
returns-in-Ok-clause-told g c =
    let old : PassView = c.args.self.now in
    let new : PassView = c.scan_counted.new.self in
    let scanned = c.in-Ok.ensures.scanned in
    subst (λ (r : Reply). Told old.view new.view old.number (read (scan c.args.range.now) ∷ []) (r ∷ [])) (sym scanned.is)
    (subst (λ (a : Answer). Told old.view new.view old.number (read (scan c.args.range.now) ∷ []) (answered a ∷ []))
    (sym (pairs_answer c.args.range.now scanned.seen (length scanned.seen) (pairs_within c.args.range.now (state scanned.seen)) refl refl))
    (told_answer old new scanned.seen (scan c.args.range.now) scanned.begins scanned.goes_on c.in-Ok.ensures.goes_on c.in-Ok.ensures.own))

pub returns-in-Err-clause-told : goal.returns-in-Err-clause-told
returns-in-Err-clause-told g c = told_no_answer c.args.self.now c.scan_counted.new.self (scan c.args.range.now) c.in-Err.ensures.goes_on c.in-Err.ensures.own
