use Rattle.std.proofs.Common.{◌≡◌, ℕ, ◌+◌, ◌-◌, ◌≤◌, List, ◌∷◌, ◌++◌, length, drop, sym, ap, ◌∙◌, subst, arith}
use Rattle.std.specs.List.{AllByRecursion, flat_map}
use Rattle.std.specs.Vec.{vec_len, vec_capacity}
use Rattle.std.proofs.lemmas.List.{length-append}
use Rattle.write_history.specs.Stored.{EntriesWithRoom}
use Rattle.write_history.proofs.Chunks.{drop-chunk}
use Rattle.write_history.proofs.entry_list.EntryList.let_chunk_go.Goals as goal

pub returns-in-Some : goal.returns-in-Some
returns-in-Some c =
    let inside = c.self.inside in
    let chunk = c.in-Some._chunk in
    let rest = c.pop_front.new.self.items in
    let last = inside.last.items in
    let n = inside.lacks - inside.gone in
    let is : inside.full.items ≡ chunk ∷ rest = c.in-Some.ensures.items in
    let long : length chunk.items ≡ 1024 = (subst (AllByRecursion (λ x. length x.items ≡ 1024)) is c.self.invariant.0).0 in
    let past : 1024 ≤ n = omega arith in
    let same : n - 1024 ≡ inside.lacks - (inside.gone + 1024) = omega arith in
    let entries = sym (ap (λ xs. drop n (flat_map (λ x. x.items) xs ++ last)) is ∙ drop-chunk (λ x. x.items) 1024 chunk rest last n long past ∙ ap (λ k. drop k (flat_map (λ x. x.items) rest ++ last)) same) in
    (λ i. let list : EntriesWithRoom = record { lacks = inside.lacks; entries = entries i; room = vec_capacity inside.last - vec_len inside.last } in list) ∙ c.self.view_is

pub invariant_of-self : goal.invariant_of-self
invariant_of-self c =
    let inside = c.self.inside in
    let chunk = c.in-Some._chunk in
    let rest = c.pop_front.new.self.items in
    let last = inside.last.items in
    let is : inside.full.items ≡ chunk ∷ rest = c.in-Some.ensures.items in
    let all = subst (AllByRecursion (λ x. length x.items ≡ 1024)) is c.self.invariant.0 in
    let first : length chunk.items ≡ 1024 = all.0 in
    let whole = ap (λ xs. length (flat_map (λ x. x.items) xs ++ last)) is in
    let parts = length-append (chunk.items ++ flat_map (λ x. x.items) rest) last in
    let both = length-append chunk.items (flat_map (λ x. x.items) rest) in
    let left = length-append (flat_map (λ x. x.items) rest) last in
    let room = c.self.invariant.3 in
    let low = c.self.invariant.2 in
    (all.1, c.self.invariant.1, omega arith, omega arith)
