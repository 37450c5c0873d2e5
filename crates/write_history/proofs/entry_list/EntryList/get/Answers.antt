use Rattle.std.specs.List.{flat_map}
use Rattle.std.proofs.Common.{◌++◌, ◌+◌, ◌-◌, ◌*◌, ◌≡◌, ◌/◌, ◌<◌, ◌≤◌, length, drop, arith, sym, ap, ◌∙◌, get_or, ◌%◌}
use Rattle.std.proofs.lemmas.List.{get_or-drop, length-drop}
use Rattle.write_history.specs.Stored.{EntriesWithRoom}
use Rattle.write_history.proofs.Chunks.{entry_in-chunk, entry_in-last, within_last}
use Rattle.write_history.proofs.entry_list.EntryList.get.Goals as goal

pub returns-then-chunk-len : goal.returns-then-chunk-len
returns-then-chunk-len c =
    let full = c.self.inside.full in
    let gone = c.self.inside.gone in
    let spent = c.self.inside.lacks - gone in
    let at = c.args.place - gone in
    let kept = ap (λ (l : EntriesWithRoom). l.lacks) c.self.view_is in
    let low = c.self.invariant.2 in
    let same : at ≡ spent + (c.args.place - c.args.self.now.lacks) = let k = c.requires.kept in omega arith in
    let within : at / 1024 < length full.items = omega (arith, full.ok) in
    let d = c.index.result.now in
    let all = flat_map (λ chunk. chunk.items) full.items ++ c.self.inside.last.items in
    c.index.ensures
    ∙ ap (λ chunk. get_or chunk.items (at % 1024) d) c.index-chunk.ensures
    ∙ sym (entry_in-chunk (λ chunk. chunk.items) full.items c.self.inside.last.items at c.index-chunk.result.now d c.self.invariant.0 within)
    ∙ ap (λ i. get_or all i d) same
    ∙ sym (get_or-drop spent all (c.args.place - c.args.self.now.lacks) d)
    ∙ ap (λ (list : EntriesWithRoom). get_or list.entries (c.args.place - c.args.self.now.lacks) d) c.self.view_is

pub index-requires-2 : goal.index-requires-2
index-requires-2 c =
    let full = c.self.inside.full in
    let last = c.self.inside.last in
    let gone = c.self.inside.gone in
    let spent = c.self.inside.lacks - gone in
    let at = c.args.place - gone in
    let kept = ap (λ (l : EntriesWithRoom). l.lacks) c.self.view_is in
    let low = c.self.invariant.2 in
    let same : at ≡ spent + (c.args.place - c.args.self.now.lacks) = let k = c.requires.kept in omega arith in
    let past : length full.items ≤ at / 1024 = omega (arith, full.ok) in
    let all = flat_map (λ chunk. chunk.items) full.items ++ last.items in
    let size = length-drop spent all in
    let now = ap (λ (l : EntriesWithRoom). length l.entries) c.self.view_is in
    let short = c.requires.within in
    let whole = c.self.invariant.3 in
    let here : at < length all = omega arith in
    let found = within_last (λ chunk. chunk.items) full.items last.items at c.self.invariant.0 past here in
    omega (arith, full.ok, last.ok)

pub returns : goal.returns
returns c =
    let full = c.self.inside.full in
    let last = c.self.inside.last in
    let gone = c.self.inside.gone in
    let spent = c.self.inside.lacks - gone in
    let at = c.args.place - gone in
    let kept = ap (λ (l : EntriesWithRoom). l.lacks) c.self.view_is in
    let low = c.self.invariant.2 in
    let same : at ≡ spent + (c.args.place - c.args.self.now.lacks) = let k = c.requires.kept in omega arith in
    let past : length full.items ≤ at / 1024 = omega (arith, full.ok) in
    let d = c.index-2.result.now in
    let all = flat_map (λ chunk. chunk.items) full.items ++ last.items in
    let len : c.len-2.result ≡ length full.items = omega (arith, full.ok) in
    c.index-2.ensures
    ∙ ap (λ n. get_or last.items (at - n * 1024) d) len
    ∙ sym (entry_in-last (λ chunk. chunk.items) full.items last.items at d c.self.invariant.0 past)
    ∙ ap (λ i. get_or all i d) same
    ∙ sym (get_or-drop spent all (c.args.place - c.args.self.now.lacks) d)
    ∙ ap (λ (list : EntriesWithRoom). get_or list.entries (c.args.place - c.args.self.now.lacks) d) c.self.view_is

pub overflow_mul-len : goal.overflow_mul-len
overflow_mul-len c = let past = c.if-chunk-len.false in omega arith
