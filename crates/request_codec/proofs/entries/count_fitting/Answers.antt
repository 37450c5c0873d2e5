use Rattle.std.proofs.Common.{◌≡◌, ◌+◌, ◌-◌, ◌<◌, ◌≤◌, ◌∙◌, suc, length, take, vec_len, refl, sym, ap, subst, arith}
use Rattle.protocol.specs.Feeds.{longest, most_entries}
use Rattle.request_codec.proofs.FittingLemmas.{spent, spent_by, frame, room_for, spent-next, longest-all, longest-some}
use Rattle.request_codec.proofs.entries.count_fitting.Goals as goal

pub loop-entry-init : goal.loop-entry-init
loop-entry-init c =
    let size : c.len.result ≡ frame c.args.from c.args.position = c.len.ensures ∙ c.in_ok-text.text.ok.0 ∙ ap length c.in_ok-text.ensures in
    let left = c.saturating_sub-room.ensures ∙ ap (λ m. 1048578 - m) size in
    (refl, omega (arith, left))

pub returns-then-len-room-clause-count : goal.returns-then-len-room-clause-count
returns-then-len-room-clause-count c = omega (arith, c.loop-entry.invariant.0)

pub returns-then-len-room-clause-longest : goal.returns-then-len-room-clause-longest
returns-then-len-room-clause-longest c =
    let i = c.loop-entry.entry-index in
    let es = c.args.entries.now in
    let next : spent (take (suc i) es) ≡ spent (take i es) + spent_by c.entry-item.result = spent-next es i c.entry-item.result c.loop-entry-test.true c.entry-item.is in
    let size : c.len-in-loop-entry.result + 1 ≡ spent_by c.entry-item.result = ap (λ m. m + 1) (c.len-in-loop-entry.ensures ∙ c.in_ok-text-2.text.ok.0 ∙ ap length c.in_ok-text-2.ensures) in
    let within : spent (take i es) ≤ room_for c.args.from c.args.position = omega (arith, c.loop-entry.invariant.1) in
    let beyond : room_for c.args.from c.args.position < spent (take (suc i) es) = omega (arith, c.loop-entry.invariant.1, c.if-len-room.true, next, size) in
    longest-some c.args.from c.args.position es i most_entries c.loop-entry-test.true c.requires within beyond ∙ ap (λ m. take m es) (sym c.loop-entry.invariant.0)

pub loop-entry-preserved : goal.loop-entry-preserved
loop-entry-preserved c =
    let i = c.loop-entry.entry-index in
    let es = c.args.entries.now in
    let next : spent (take (suc i) es) ≡ spent (take i es) + spent_by c.entry-item.result = spent-next es i c.entry-item.result c.loop-entry-test.true c.entry-item.is in
    let same : i + 1 ≡ suc i = omega arith in
    let size : c.len-in-loop-entry.result + 1 ≡ spent_by c.entry-item.result = ap (λ m. m + 1) (c.len-in-loop-entry.ensures ∙ c.in_ok-text-2.text.ok.0 ∙ ap length c.in_ok-text-2.ensures) in
    let again : c.len-in-loop-entry-2.result ≡ c.len-in-loop-entry.result = c.len-in-loop-entry-2.ensures ∙ sym c.len-in-loop-entry.ensures in
    let left = c.loop-entry.room - (c.len-in-loop-entry-2.result + 1) in
    let sum : spent (take (suc i) es) + left ≡ room_for c.args.from c.args.position = omega (arith, c.loop-entry.invariant.1, c.if-len-room.false, next, size, again) in
    (ap (λ m. m + 1) c.loop-entry.invariant.0, ap (λ m. spent (take m es) + left) same ∙ sum)

pub returns-clause-count : goal.returns-clause-count
returns-clause-count c = omega (arith, c.loop-entry.invariant.0)

pub returns-clause-longest : goal.returns-clause-longest
returns-clause-longest c =
    let all : c.loop-entry.entry-index ≡ length c.args.entries.now = omega arith in
    let count : c.loop-entry.count ≡ length c.args.entries.now = c.loop-entry.invariant.0 ∙ all in
    let within : spent (take (length c.args.entries.now) c.args.entries.now) ≤ room_for c.args.from c.args.position =
    omega (arith, subst (λ m. spent (take m c.args.entries.now) + c.loop-entry.room ≡ room_for c.args.from c.args.position) all c.loop-entry.invariant.1) in
    longest-all c.args.from c.args.position c.args.entries.now most_entries c.requires within ∙ ap (λ m. take m c.args.entries.now) (sym count)
