-- Scans that are kept under their numbers, looked up.
use Rattle.std.proofs.Common.{◌≡◌, ◌==◌, ◌⊎◌, ℕ, ◌<◌, Bool, true, false, cond, eqb, find, map, List, [], ◌∷◌, Option, Some, None, IfSome, is_some, option_map, Less, Equal, Greater, refl, sym, ap, ◌∙◌, subst, ⊎_elim, arith, is_eq, nat_cmp}
use Rattle.std.specs.Cmp.{nat_cmp_is}
use Rattle.std.specs.Map.{lookup, set_value}
use Rattle.std.proofs.lemmas.Bool.{cases_lt, ne_eqb, eq-eqb, eqb-true}
use Rattle.std.proofs.lemmas.Option.{none-some, same_Some}
use Rattle.scan_core.specs.declared.scan_table.UnderWay.{UnderWay}
use Rattle.scan_core.specs.Progress.{Progress, progress_at, Puts}
use Rattle.scan_core.specs.Stored.{progress_of, table_of, LiesInRange, AllLieInRange}

-- the scan that is kept under a number
abbrev pub stored_at : ℕ → List (ℕ × UnderWay) → Option UnderWay
stored_at number entries = lookup (λ key. is_eq (nat_cmp number key)) entries

-- scans of which one number has another, or none
abbrev pub Sets : ℕ → Option UnderWay → List (ℕ × UnderWay) → List (ℕ × UnderWay) → Type 0
Sets number found before after = (q : ℕ) → stored_at q after ≡ cond (is_eq (nat_cmp number q)) found (stored_at q before)

-- the test of a number
at_is : (number key : ℕ) → is_eq (nat_cmp number key) ≡ eqb key number
at_is number key = ⊎_elim
    (λ less. ap is_eq (sym (nat_cmp_is number key Less less)) ∙ sym (ne_eqb key number (λ e. absurd (omega (arith, less, e)))))
    (λ most. ⊎_elim
    (λ less. ap is_eq (sym (nat_cmp_is number key Greater less)) ∙ sym (ne_eqb key number (λ e. absurd (omega (arith, less, e)))))
    (λ least. let is : number ≡ key = omega (arith, most, least) in ap is_eq (sym (nat_cmp_is number key Equal is)) ∙ sym (eq-eqb key number (sym is)))
    (cases_lt key number))
    (cases_lt number key)

-- one entry, by whether it is under the number
found_by : (number : ℕ) (e : ℕ × UnderWay) (b d : Bool) (others : Option Progress) (stored : Option UnderWay) → eqb e.0 number ≡ b → d ≡ eqb e.0 number → others ≡ option_map (λ w. progress_of (number, w)) stored →
    cond b (Some (progress_of e)) others ≡ option_map (λ w. progress_of (number, w)) (cond d (Some e.1) stored)
found_by number e true d others stored is same rest =
    ap (λ n. Some (progress_of (n, e.1))) (eqb-true e.0 number is)
    ∙ ap (λ x. option_map (λ w. progress_of (number, w)) (cond x (Some e.1) stored)) (sym (same ∙ is))
found_by number e false d others stored is same rest =
    rest ∙ ap (λ x. option_map (λ w. progress_of (number, w)) (cond x (Some e.1) stored)) (sym (same ∙ is))

-- the scan with a number is the one that is kept under it
pub found : (number : ℕ) (entries : List (ℕ × UnderWay)) → progress_at number (table_of entries) ≡ option_map (λ w. progress_of (number, w)) (stored_at number entries)
found number [] = refl
found number (e ∷ es) =
    found_by number e (eqb e.0 number) (is_eq (nat_cmp number e.0)) (progress_at number (table_of es)) (stored_at number es) refl (at_is number e.0) (found number es)

-- so it is in what is seen of the entries
pub found_in : (number : ℕ) (entries : List (ℕ × UnderWay)) (now : List Progress) (o : Option UnderWay) → table_of entries ≡ now → stored_at number entries ≡ o → progress_at number now ≡ option_map (λ w. progress_of (number, w)) o
found_in number entries now o view there = ap (progress_at number) (sym view) ∙ found number entries ∙ ap (option_map (λ w. progress_of (number, w))) there

-- there is a scan where one is kept
pub has_found : (number : ℕ) (entries : List (ℕ × UnderWay)) (now : List Progress) → table_of entries ≡ now → is_some (stored_at number entries) ≡ is_some (progress_at number now)
has_found number entries now view = by (stored_at number entries) ∙ ap is_some (sym (found_in number entries now (stored_at number entries) view refl))
  where
    by : (o : Option UnderWay) → is_some o ≡ is_some (option_map (λ w. progress_of (number, w)) o)
    by None = refl
    by (Some w) = refl

-- scans after one is put under a number, or taken out
pub puts : (number : ℕ) (o : Option UnderWay) (before after : List (ℕ × UnderWay)) → Sets number o before after → Puts number (option_map (λ w. progress_of (number, w)) o) (table_of before) (table_of after)
puts number o before after sets other =
    found other after ∙ ap (option_map (λ w. progress_of (other, w))) (sets other) ∙ by (eqb other number) (is_eq (nat_cmp number other)) refl (at_is number other)
  where
    by : (b d : Bool) → eqb other number ≡ b → d ≡ eqb other number →
        option_map (λ w. progress_of (other, w)) (cond d o (stored_at other before)) ≡ cond b (option_map (λ w. progress_of (number, w)) o) (progress_at other (table_of before))
    by true d is same =
        ap (λ x. option_map (λ w. progress_of (other, w)) (cond x o (stored_at other before))) (same ∙ is)
        ∙ ap (λ n. option_map (λ w. progress_of (n, w)) o) (eqb-true other number is)
    by false d is same =
        ap (λ x. option_map (λ w. progress_of (other, w)) (cond x o (stored_at other before))) (same ∙ is) ∙ sym (found other before)

-- one entry whose value is set, by whether it is under the number
set_by : (number : ℕ) (w was : UnderWay) (e : ℕ × UnderWay) (es others : List (ℕ × UnderWay)) (b : Bool) → ((k : ℕ) → progress_of (k, w) ≡ progress_of (k, was)) → cond b (Some e.1) (stored_at number es) ≡ Some was →
    (stored_at number es ≡ Some was → table_of others ≡ table_of es) → table_of (cond b ((e.0, w) ∷ es) (e ∷ others)) ≡ table_of (e ∷ es)
set_by number w was e es others true same there rest = ap (λ g. g ∷ table_of es) (same e.0 ∙ ap (λ x. progress_of (e.0, x)) (sym (same_Some e.1 was there)))
set_by number w was e es others false same there rest = ap (λ t. progress_of e ∷ t) (rest there)

-- scans are seen the same after a value is set under a number that is seen the same
pub same_table : (number : ℕ) (w was : UnderWay) (entries : List (ℕ × UnderWay)) → ((k : ℕ) → progress_of (k, w) ≡ progress_of (k, was)) → stored_at number entries ≡ Some was →
    table_of (set_value (λ key. is_eq (nat_cmp number key)) entries w) ≡ table_of entries
same_table number w was [] same there = refl
same_table number w was (e ∷ es) same there =
    set_by number w was e es (set_value (λ key. is_eq (nat_cmp number key)) es w) (is_eq (nat_cmp number e.0)) same there (λ rest. same_table number w was es same rest)

-- the places of scans lie in their ranges after one is put
pub lie_after : (number : ℕ) (o : Option UnderWay) (before after : List (ℕ × UnderWay)) → Sets number o before after → IfSome o LiesInRange → AllLieInRange before → AllLieInRange after
lie_after number o before after sets lies all q w is = by (is_eq (nat_cmp number q)) (sym (sets q) ∙ is)
  where
    of : (found : Option UnderWay) → IfSome found LiesInRange → found ≡ Some w → LiesInRange w
    of None h e = absurd (none-some w e)
    of (Some x) h e = subst LiesInRange (same_Some x w e) h

    by : (b : Bool) → cond b o (stored_at q before) ≡ Some w → LiesInRange w
    by true e = of o lies e
    by false e = all q w e
