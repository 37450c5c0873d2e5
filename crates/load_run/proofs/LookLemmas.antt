-- The text with which the keys of a timeline begin.
use Rattle.std.proofs.Common.{◌≡◌, ℕ, ◌-◌, ◌<◌, ◌≤◌, ◌^◌, true, [], ◌∷◌, ◌++◌, length, replicate, decimal, refl, ap, ◌∙◌, arith, length-append, le-leb}
use Rattle.std.specs.Prelude.{nat_eq, codes}
use Rattle.std.specs.List.{ends_with}
use Rattle.std.proofs.lemmas.Bool.{and_from}
use Rattle.std.proofs.lemmas.Fmt.{length-decimal-le}
use Rattle.std.proofs.lemmas.List.{length-replicate}
use Rattle.std.proofs.Math.Seq.{drop-append_seam}
use Rattle.semantics.specs.Texts.{Text, bar, is_key}
use Rattle.key_ranges.proofs.ContainingLemmas.{names_from_name}
use Rattle.load_gen.specs.Keys.{padded}

-- what the keys of a user's timeline begin with
abbrev pub timeline_prefix : ℕ → Text
timeline_prefix user = codes "t|" ++ padded 4 user ++ bar ∷ []

-- a text that is written of a number
pub prefix_text : (user : ℕ) (text bytes digits : Text) → digits ≡ padded 4 user → text ≡ bytes → bytes ≡ 116 ∷ bar ∷ (digits ++ bar ∷ []) → text ≡ timeline_prefix user
prefix_text user text bytes digits is_digits same is = same ∙ is ∙ ap (λ (d : Text). 116 ∷ bar ∷ (d ++ bar ∷ [])) is_digits

short_padded : (n : ℕ) → n < 2 ^ 32 → length (padded 4 n) ≤ 14
short_padded n h =
    let digits : length (decimal n) ≤ 10 = length-decimal-le 10 n (omega arith) (omega arith) (omega arith) in
    let both = length-append (replicate (4 - length (decimal n)) 48) (decimal n) in
    let zeros : length (replicate {A = ℕ} (4 - length (decimal n)) 48) ≡ 4 - length (decimal n) = length-replicate (4 - length (decimal n)) 48 in
    omega arith

-- it might be a key
pub prefix_is_key : (user : ℕ) → user < 2 ^ 32 → is_key (timeline_prefix user) ≡ true
prefix_is_key user h =
    let digits = short_padded user h in
    let both = length-append (padded 4 user) (bar ∷ []) in
    let short : length (timeline_prefix user) ≤ 512 = omega arith in
    and_from _ _ (le-leb (length (timeline_prefix user)) 512 short) (names_from_name (116 ∷ []) (padded 4 user ++ bar ∷ []) refl refl refl)

ends_by : (front : Text) → ends_with nat_eq (front ++ bar ∷ []) (bar ∷ []) ≡ true
ends_by front =
    let both = length-append front (bar ∷ []) in
    let seam : length (front ++ bar ∷ []) - 1 ≡ length front = omega arith in
    rw (seam, drop-append_seam front (bar ∷ [])) refl

-- and ends a segment
pub prefix_ends : (user : ℕ) → ends_with nat_eq (timeline_prefix user) (bar ∷ []) ≡ true
prefix_ends user = ends_by (116 ∷ bar ∷ padded 4 user)
