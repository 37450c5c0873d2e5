use Rattle.std.proofs.Common.{◌≡◌, ◌∷◌, ◌∙◌, [], length, ap, sym, subst, arith}
use Rattle.semantics.specs.Texts.{Text}
use Rattle.semantics.specs.Answers.{Answer, get, found}
use Rattle.protocol.specs.Requests.{read}
use Rattle.protocol.specs.Replies.{answered}
use Rattle.protocol.specs.Told.{Told}
use Rattle.write_history.specs.Passes.{PassView}
use Rattle.key_ranges.proofs.AnswerLemmas.{found_answers, absent_answers, none_by_length}
use Rattle.pequod_cache.proofs.ToldLemmas.{told_answer}
use Rattle.pequod_cache.proofs.client.Client.try_get.Goals as goal

pub returns-in-Some-clause-told : goal.returns-in-Some-clause-told
returns-in-Some-clause-told g c =
    let old : PassView = c.args.self.now in
    let new : PassView = c.read.new.self in
    let key : Text = c.args.key.now in
    let reading = c.in_ok-position.field-0 in
    let read_at = c.in_ok-position.ensures.found in
    let items = sym c.into_iter.ensures.rest ∙ c.in-Some.ensures.items in
    let value = ap (λ (p : Text × Text). p.1) c.pair.view_is in
    subst (λ (a : Answer). Told old.view new.view old.number (read (get key) ∷ []) (answered a ∷ []))
    (sym (ap (found reading.position) value ∙ found_answers key _ read_at.seen reading.position reading.pairs.items c.in-Some.pair _ c.in_ok-range.ensures read_at.at read_at.is items))
    (told_answer old new read_at.seen (get key) read_at.begins read_at.goes_on c.in_ok-position.ensures.goes_on c.in_ok-position.ensures.own)

pub returns-clause-told : goal.returns-clause-told
returns-clause-told g c =
    let old : PassView = c.args.self.now in
    let new : PassView = c.read.new.self in
    let key : Text = c.args.key.now in
    let reading = c.in_ok-position.field-0 in
    let read_at = c.in_ok-position.ensures.found in
    let counted = reading.pairs.ok.0 in
    let count = c.into_iter.ensures.len in
    let none = c.in-None.ensures.cases.0 in
    let short : length reading.pairs.items ≡ 0 = omega arith in
    subst (λ (a : Answer). Told old.view new.view old.number (read (get key) ∷ []) (answered a ∷ []))
    (sym (absent_answers key _ read_at.seen reading.position reading.pairs.items c.in_ok-range.ensures read_at.at read_at.is (none_by_length _ short)))
    (told_answer old new read_at.seen (get key) read_at.begins read_at.goes_on c.in_ok-position.ensures.goes_on c.in_ok-position.ensures.own)
