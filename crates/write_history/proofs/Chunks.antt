-- Entries in chunks of one size, one after another.
use Rattle.std.proofs.Common.{◌≡◌, ℕ, zero, suc, ◌+◌, ◌-◌, ◌*◌, ◌/◌, ◌%◌, ◌<◌, ◌≤◌, List, [], ◌∷◌, ◌++◌, length, drop, get_or, append_assoc, ap, ◌∙◌, arith}
use Rattle.std.specs.List.{AllByRecursion, flat_map}
use Rattle.std.proofs.lemmas.List.{length-append, get_or-append-add, get_or_append_left}
use Rattle.std.proofs.Math.Seq.{get_or-append_right}

-- more than a first list is dropped
drop_past : {A : Type 0} (xs ys : List A) (n : ℕ) → length xs ≤ n → drop n (xs ++ ys) ≡ drop (n - length xs) ys
drop_past [] ys n h = ap (λ k. drop k ys) (omega arith)
drop_past (x ∷ xs) ys zero h = absurd (omega arith)
drop_past (x ∷ xs) ys (suc n) h = drop_past xs ys n (omega arith) ∙ ap (λ k. drop k ys) (omega arith)

module _ {X A : Type 0} (f : X → List A) (size : ℕ) where
  -- without its first chunk a list has so many entries fewer to drop
  pub drop-chunk : (x : X) (xs : List X) (more : List A) (n : ℕ) → length (f x) ≡ size → size ≤ n → drop n (flat_map f (x ∷ xs) ++ more) ≡ drop (n - size) (flat_map f xs ++ more)
  drop-chunk x xs more n long past =
      ap (drop n) (append_assoc (f x) (flat_map f xs) more)
      ∙ drop_past (f x) (flat_map f xs ++ more) n (omega arith)
      ∙ ap (λ k. drop (n - k) (flat_map f xs ++ more)) long

  -- so many chunks have so many entries
  pub length-chunks : (xs : List X) → AllByRecursion (λ x. length (f x) ≡ size) xs → length (flat_map f xs) ≡ length xs * size
  length-chunks [] all = omega arith
  length-chunks (x ∷ xs) all =
      let here : length (f x) ≡ size = all.0 in
      let others : length (flat_map f xs) ≡ length xs * size = length-chunks xs all.1 in
      length-append (f x) (flat_map f xs) ∙ grind (arith)

  -- an entry of a chunk
  pub get_or-chunk : (xs : List X) (chunk place : ℕ) (e : X) (d : A) → AllByRecursion (λ x. length (f x) ≡ size) xs → chunk < length xs → place < size →
      get_or (flat_map f xs) (chunk * size + place) d ≡ get_or (f (get_or xs chunk e)) place d
  get_or-chunk [] chunk place e d all within short = absurd (omega arith)
  get_or-chunk (x ∷ xs) zero place e d all within short =
      let n : length (f x) ≡ size = all.0 in
      let less : place < length (f x) = omega arith in
      ap (λ i. get_or (f x ++ flat_map f xs) i d) (omega arith) ∙ get_or_append_left (f x) (flat_map f xs) d place less
  get_or-chunk (x ∷ xs) (suc chunk) place e d all within short =
      let n : length (f x) ≡ size = all.0 in
      ap (λ i. get_or (f x ++ flat_map f xs) i d) (grind arith) ∙ get_or-append-add (f x) (flat_map f xs) (chunk * size + place) d
      ∙ get_or-chunk xs chunk place e d all.1 (omega arith) short

module _ {X A : Type 0} (f : X → List A) where
  -- the entry at a place, among the chunks
  pub entry_in-chunk : (xs : List X) (last : List A) (place : ℕ) (e : X) (d : A) → AllByRecursion (λ x. length (f x) ≡ 1024) xs → place / 1024 < length xs →
      get_or (flat_map f xs ++ last) place d ≡ get_or (f (get_or xs (place / 1024) e)) (place % 1024) d
  entry_in-chunk xs last place e d all within =
      let n : length (flat_map f xs) ≡ length xs * 1024 = length-chunks f 1024 xs all in
      let cut : place ≡ place / 1024 * 1024 + place % 1024 = omega arith in
      let small : place % 1024 < 1024 = omega arith in
      let less : place < length (flat_map f xs) = omega arith in
      get_or_append_left (flat_map f xs) last d place less ∙ ap (λ i. get_or (flat_map f xs) i d) cut
      ∙ get_or-chunk f 1024 xs (place / 1024) (place % 1024) e d all within small

  -- past the chunks, in the last one
  pub entry_in-last : (xs : List X) (last : List A) (place : ℕ) (d : A) → AllByRecursion (λ x. length (f x) ≡ 1024) xs → length xs ≤ place / 1024 →
      get_or (flat_map f xs ++ last) place d ≡ get_or last (place - length xs * 1024) d
  entry_in-last xs last place d all past =
      let n : length (flat_map f xs) ≡ length xs * 1024 = length-chunks f 1024 xs all in
      let over : length (flat_map f xs) ≤ place = omega arith in
      get_or-append_right (flat_map f xs) last place d over ∙ ap (λ i. get_or last (place - i) d) n

  -- the last chunk holds what is past the others
  pub within_last : (xs : List X) (last : List A) (place : ℕ) → AllByRecursion (λ x. length (f x) ≡ 1024) xs → length xs ≤ place / 1024 →
      place < length (flat_map f xs ++ last) → place - length xs * 1024 < length last
  within_last xs last place all past less =
      let n : length (flat_map f xs) ≡ length xs * 1024 = length-chunks f 1024 xs all in
      let both = length-append (flat_map f xs) last in
      omega arith
