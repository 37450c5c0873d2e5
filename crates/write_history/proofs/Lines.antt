-- Words that lie on lines of their own: where they are, and how many there are.
use Rattle.std.proofs.Common.{◌≡◌, ℕ, zero, suc, ◌+◌, ◌*◌, List, [], ◌∷◌, ◌++◌, length, set, get_or, replicate, refl, sym, ap, ◌∙◌, arith}
use Rattle.write_history.specs.Lines.{lines}

next_line : (i : ℕ) → 8 * suc i ≡ suc (suc (suc (suc (suc (suc (suc (suc (8 * i))))))))
next_line i = omega arith

-- a word stands at the head of its line
pub get_line : (i : ℕ) (ws : List ℕ) → get_or (lines ws) (8 * i) 0 ≡ get_or ws i 0
get_line i [] = refl
get_line zero (w ∷ ws) = refl
get_line (suc i) (w ∷ ws) = ap (λ k. get_or (lines (w ∷ ws)) k 0) (next_line i) ∙ get_line i ws

-- and is stored there
pub set_line : (i x : ℕ) (ws : List ℕ) → set (lines ws) (8 * i) x ≡ lines (set ws i x)
set_line i x [] = refl
set_line zero x (w ∷ ws) = refl
set_line (suc i) x (w ∷ ws) = ap (λ k. set (lines (w ∷ ws)) k x) (next_line i) ∙ ap (λ rest. w ∷ 0 ∷ 0 ∷ 0 ∷ 0 ∷ 0 ∷ 0 ∷ 0 ∷ rest) (set_line i x ws)

pub length-lines : (ws : List ℕ) → length (lines ws) ≡ 8 * length ws
length-lines [] = refl
length-lines (w ∷ ws) = ap (λ n. suc (suc (suc (suc (suc (suc (suc (suc n)))))))) (length-lines ws) ∙ sym (next_line (length ws))

pub lines-append : (ws more : List ℕ) → lines (ws ++ more) ≡ lines ws ++ lines more
lines-append [] more = refl
lines-append (w ∷ ws) more = ap (λ rest. w ∷ 0 ∷ 0 ∷ 0 ∷ 0 ∷ 0 ∷ 0 ∷ 0 ∷ rest) (lines-append ws more)

replicated : (n x : ℕ) → x ∷ replicate n x ≡ replicate n x ++ x ∷ []
replicated zero x = refl
replicated (suc n) x = ap (λ rest. x ∷ rest) (replicated n x)

-- where the word of a pass with a number stands
abbrev pub mark_at : ℕ → ℕ
mark_at number = 8 * suc (suc (suc (suc number)))

-- one line more of a word
pub lines_more : (n x : ℕ) → lines (replicate (n + 1) x) ≡ lines (replicate n x) ++ lines (x ∷ [])
lines_more n x =
    let next : n + 1 ≡ suc n = omega arith in
    ap (λ m. lines (replicate m x)) next ∙ ap lines (replicated n x) ∙ lines-append (replicate n x) (x ∷ [])
