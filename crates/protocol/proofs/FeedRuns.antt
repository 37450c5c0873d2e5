-- The first entries that one line has room for, from no more than it may have.
use Rattle.std.proofs.Common.{◌≡◌, ℕ, zero, suc, ◌+◌, ◌-◌, ◌≤◌, ◌⊎◌, inl, inr, List, length, take, drop, nat_le, refl, sym, ap, ap₂, ◌∙◌, arith, take-take}
use Rattle.std.specs.Prelude.{if◌then◌else◌}
use Rattle.semantics.specs.Histories.{History}
use Rattle.protocol.specs.Lines.{line_limit}
use Rattle.protocol.specs.Replies.{fed, reply_text}
use Rattle.protocol.specs.Feeds.{longest, most_entries, run}

-- the longest beginning of so many or fewer is that of the first of them
longest-take : (from n : ℕ) (es : History) (m k : ℕ) → k ≤ m → longest from n (take m es) k ≡ longest from n es k
unfolding longest
longest-take from n es m zero h = refl
longest-take from n es m (suc k) h =
    ap₂ (λ first others. if nat_le (length (reply_text (fed from n first))) (line_limit + 1) then first else others)
    (take-take (suc k) m es h) (longest-take from n es m k (omega arith))

-- how far entries are looked at: to the end, or as many as a line may have
abbrev pub IsFarEnough : ℕ → ℕ → ℕ → Type 0
IsFarEnough from n to = (to ≡ n) ⊎ ((to ≡ from + most_entries) × (to ≤ n))

-- it is enough to look at so many entries
pub run-is : (view : History) (from n to : ℕ) → IsFarEnough from n to → longest from n (take (to - from) (drop from view)) most_entries ≡ run view from n
unfolding run
run-is view from n to (inl all) = ap (λ m. longest from n (take (m - from) (drop from view)) most_entries) all
run-is view from n to (inr some) =
    let size : to - from ≡ most_entries = omega (arith, some.0) in
    let more : most_entries ≤ n - from = omega (arith, some.0, some.1) in
    ap (λ m. longest from n (take m (drop from view)) most_entries) size
    ∙ longest-take from n (drop from view) most_entries most_entries (omega arith)
    ∙ sym (longest-take from n (drop from view) (n - from) most_entries more)
