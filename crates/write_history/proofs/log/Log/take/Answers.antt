use Rattle.std.proofs.Common.{◌≡◌, ℕ, ◌+◌, [], ◌∷◌, ◌++◌, cond, length, length-append, refl, ap, ◌∙◌, arith}
use Rattle.semantics.specs.Histories.{Entry}
use Rattle.join_set.specs.Summaries.{Summary}
use Rattle.base_versions.specs.Own.{is_of}
use Rattle.write_history.specs.Numbers.{positions_of, AreNumbered}
use Rattle.write_history.proofs.Numbering.{numbered_as, numbered_more}
use Rattle.write_history.proofs.log.Log.take.Goals as goal

pub invariant_of-self-2 : goal.invariant_of-self-2
invariant_of-self-2 c =
    let inside = c.self.inside in
    let es = inside.entries.entries in
    let lacks = inside.entries.lacks in
    let e = c.args.entry in
    let count = c.length-count.result in
    let room = c.reserve-2.new.self in
    let list = c.push-2.new.self in
    let longer : c.enter.new.self.length ≡ inside.standing.length + 1 = ap (λ (s : Summary). s.length) c.in_ok-enter.ensures.exact in
    let position : count ≡ lacks + length es + 1 = omega (arith, c.length-count.ensures.length, longer, c.self.invariant.0) in
    let adds : (part : ℕ) → positions_of part c.push.new.self ≡ positions_of part room ++ cond (is_of 16 part e.write) (count ∷ []) [] =
    λ part. c.push.ensures part ∙ ap (λ (x : Entry). positions_of part room ++ cond (is_of 16 part x.write) (count ∷ []) []) c.entry.view_is in
    let same : AreNumbered lacks es room = numbered_as lacks lacks es es inside.numbers room refl refl c.self.invariant.1 c.in_ok-reserve-2.ensures.positions in
    let entries : list.entries ≡ es ++ e ∷ [] = c.push-2.ensures.entries ∙ ap (λ xs. xs ++ e ∷ []) c.in_ok-reserve.ensures.entries in
    let same_lacks : list.lacks ≡ lacks = c.push-2.ensures.lacks ∙ c.in_ok-reserve.ensures.lacks in (
      omega (arith, longer, c.self.invariant.0, same_lacks, ap length entries ∙ length-append es (e ∷ [])),
      numbered_as lacks list.lacks (es ++ e ∷ []) list.entries c.push.new.self c.push.new.self same_lacks entries (numbered_more lacks count es e room c.push.new.self position same adds) (λ part. refl),
      omega (arith, ap (λ (s : Summary). s.floor) c.in_ok-enter.ensures.exact, c.self.invariant.2, same_lacks),
    )
