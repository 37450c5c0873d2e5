-- What several reads gave and several writes took together.
use Rattle.std.proofs.Common.{◌≡◌, ℕ, ◌+◌, ◌-◌, ◌≤◌, ◌<◌, List, [], ◌++◌, length, take, drop, refl, sym, ap, ◌∙◌, append_assoc, arith, length-append, length-drop}
use Rattle.std.proofs.lemmas.List.{append-nil, drop-drop, length-take-le, take-append-drop, take-append-le, take_all}
use Rattle.std.proofs.Math.Seq.{take-add, take-append-add, take-length}
use Rattle.std.specs.Prelude.{is_some, IfSome}
use Rattle.std.specs.declared.option.Option.{Option}
use Rattle.std.specs.declared.option.Option.TheVariants.{None, Some}
use Rattle.std.specs.Io.KnownBytes.{IsAtEnd, append_known, prepend_known}
use Rattle.pq_io.specs.Streams.{Gave, Took, TookProperPrefix}

-- nothing was given where nothing changed
pub Gave-nothing : (left : Option (List ℕ)) → Gave left left []
Gave-nothing None = refl
Gave-nothing (Some xs) = refl

-- what two parts gave, one after the other
pub Gave-append : (a b c : Option (List ℕ)) (xs ys : List ℕ) → Gave a b xs → Gave b c ys → Gave a c (xs ++ ys)
Gave-append a b None xs ys first second = first ∙ ap (prepend_known xs) second
Gave-append a b (Some zs) xs ys first second =
    first ∙ ap (prepend_known xs) second ∙ ap Some (sym (append_assoc xs ys zs))

-- what is told to be left stays told, and what is not told stays untold
pub Gave-told : (a b : Option (List ℕ)) (xs : List ℕ) → Gave a b xs → is_some a ≡ is_some b
Gave-told a None xs gave = ap is_some gave
Gave-told a (Some ys) xs gave = ap is_some gave

-- where nothing is left any more, all that was left was given
pub Gave-to_end : (a b : Option (List ℕ)) (xs : List ℕ) → Gave a b xs → IsAtEnd b → IfSome a (λ left. left ≡ xs)
Gave-to_end a None xs gave at_end = rw gave tt
Gave-to_end a (Some ys) xs gave at_end = rw gave (ap (λ zs. xs ++ zs) at_end ∙ append-nil xs)

-- nothing was taken where nothing changed
pub Took-nothing : (taken : Option (List ℕ)) → Took taken taken []
Took-nothing None = refl
Took-nothing (Some xs) = ap Some (sym (append-nil xs))

-- what two parts took, one after the other
pub Took-append : (a b c : Option (List ℕ)) (xs ys : List ℕ) → Took a b xs → Took b c ys → Took a c (xs ++ ys)
Took-append None b c xs ys first second = second ∙ ap (λ known. append_known known ys) first
Took-append (Some zs) b c xs ys first second =
    second ∙ ap (λ known. append_known known ys) first ∙ ap Some (append_assoc zs xs ys)

-- what is told to be taken stays told, and what is not told stays untold
pub Took-told : (a b : Option (List ℕ)) (xs : List ℕ) → Took a b xs → is_some a ≡ is_some b
Took-told None b xs took = ap is_some (sym took)
Took-told (Some ys) b xs took = ap is_some (sym took)

-- the first m bytes were taken, and then the first n of the others
pub Took-take : (a b c : Option (List ℕ)) (bytes : List ℕ) (m n : ℕ) → Took a b (take m bytes) → Took b c (take n (drop m bytes)) → Took a c (take (m + n) bytes)
Took-take a b c bytes m n first second =
    rw take-add (Took-append a b c (take m bytes) (take n (drop m bytes)) first second)

-- all bytes were taken where the first m were, and there are m
pub Took-whole : (a b : Option (List ℕ)) (bytes : List ℕ) (m : ℕ) → m ≡ length bytes → Took a b (take m bytes) → Took a b bytes
Took-whole a b bytes m all took =
    took ∙ ap (append_known a) (ap (λ n. take n bytes) all ∙ take-length bytes)

-- a proper prefix of what came after is one of the whole
pub TookProperPrefix-append : (a b c : Option (List ℕ)) (xs ys : List ℕ) → Took a b xs → TookProperPrefix b c ys → TookProperPrefix a c (xs ++ ys)
TookProperPrefix-append a b c xs ys first part =
    let n = part.0 in
    let more : length xs + n < length (xs ++ ys) = omega (arith, part.1, length-append xs ys) in
    let front : take (length xs + n) (xs ++ ys) ≡ xs ++ take n ys = take-append-add xs ys n in
    (length xs + n, more, Took-append a b c xs (take n ys) first part.2 ∙ ap (append_known a) (sym front))

-- the slice of all bytes from place m on
pub slice_from : (m : ℕ) (bytes : List ℕ) → take (length bytes - m) (drop m bytes) ≡ drop m bytes
slice_from m bytes = take_all (length bytes - m) (drop m bytes) (omega (arith, length-drop m bytes))

-- bytes from place m on, of which n were copied to the front of `into`
pub copied_then_left : (bytes left copied into : List ℕ) (m n : ℕ) → left ≡ drop m bytes → n ≤ length left → copied ≡ take n left → left ≡ take n (copied ++ drop n into) ++ drop (m + n) bytes
copied_then_left bytes left copied into m n is_left enough is_copied =
    let len : length copied ≡ n = ap length is_copied ∙ length-take-le n left enough in
    let front : take n (copied ++ drop n into) ≡ take n left = take-append-le n copied (drop n into) (omega arith) ∙ take_all n copied (omega arith) ∙ is_copied in
    let back : drop (m + n) bytes ≡ drop n left = sym (drop-drop n m bytes) ∙ ap (drop n) (sym is_left) in
    sym (take-append-drop n left) ∙ ap (λ xs. xs ++ drop n left) (sym front) ∙ ap (λ ys. take n (copied ++ drop n into) ++ ys) (sym back)
