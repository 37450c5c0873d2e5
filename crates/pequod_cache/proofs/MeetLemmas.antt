-- Clients that meet one of them, and what a history has of those that have met it before and after.
use Rattle.std.proofs.Common.{◌≡◌, ◌≢◌, ℕ, zero, suc, ◌+◌, ◌<◌, ◌≤◌, List, [], ◌∷◌, length, get_or, set, refl, sym, ap, ◌∙◌, subst, arith, length-set, ⊎_elim}
use Rattle.std.specs.List.{AllByRecursion}
use Rattle.std.proofs.lemmas.Bool.{cases_eq}
use Rattle.std.proofs.lemmas.List.{get_or-set_same, get_or-set_other}
use Rattle.std.proofs.lemmas.Option.{get_or_from_slice_get, slice_get-get_or}
use Rattle.semantics.specs.Histories.{History, IsPrefix}
use Rattle.growing_history.proofs.PrefixLemmas.{prefix_refl, prefix_trans}
use Rattle.write_history.specs.Entries.{IsRecorded, written_by}
use Rattle.write_history.specs.Passes.{PassView, own}
use Rattle.write_history.proofs.Entering.{written_by-between, IsRecorded-prefix}
use Rattle.pequod_cache.specs.Adding.{OnlyReads}
use Rattle.pequod_cache.specs.Meeting.{HasMet, HaveMet, HasAllOf}

-- ---- one after another

-- the clients below an index have met, and the others are as they were
pub record HaveMetUpTo (n : ℕ) (low high : History) (before after : List PassView) : Type 0 where
  pub counted : length after ≡ length before
  pub met : (i : ℕ) (d e : PassView) → i < n → i < length before → HasMet low high (get_or before i d) (get_or after i e)
  pub others : (i : ℕ) (d : PassView) → n ≤ i → get_or after i d ≡ get_or before i d

pub none_met : (low high : History) (clients : List PassView) → HaveMetUpTo 0 low high clients clients
none_met low high clients = record { counted = refl; met = λ i d e less within. absurd (omega arith); others = λ i d past. refl }

-- an element within a list, whatever is read past its end
within_list : {A : Type 0} (xs : List A) (i : ℕ) (d e : A) → i < length xs → get_or xs i d ≡ get_or xs i e
within_list xs i d e less = get_or_from_slice_get xs i (get_or xs i e) d (slice_get-get_or xs i e less)

-- a client more has met
pub met_more : (n : ℕ) (low high higher : History) (before after : List PassView) (x y : PassView) → n < length after → x ≡ get_or after n x → OnlyReads x y →
    IsPrefix low high → IsPrefix high higher → higher ≡ y.view → HaveMetUpTo n low high before after → HaveMetUpTo (n + 1) low higher before (set after n y)
met_more n low high higher before after x y less was reads begins grows same so_far =
    let size = length-set after n y in
    let counted = so_far.counted in
    let has : HasMet low higher x y = record {
      reads = reads;
      begins = subst (IsPrefix low) same (prefix_trans low high higher begins grows);
      within = subst (IsPrefix y.view) (sym same) (prefix_refl y.view);
    } in
    record {
      counted = omega arith;
      met = λ i d e below within. ⊎_elim
          (λ (last : i ≡ n).
          let old : x ≡ get_or before i d =
          was ∙ so_far.others n x (omega arith) ∙ within_list before n x d (omega arith) ∙ ap (λ (k : ℕ). get_or before k d) (sym last) in
          let new : y ≡ get_or (set after n y) i e = sym (get_or-set_same after n y e less) ∙ ap (λ (k : ℕ). get_or (set after n y) k e) (sym last) in
          subst (λ (p : PassView). HasMet low higher p (get_or (set after n y) i e)) old (subst (λ (p : PassView). HasMet low higher x p) new has))
          (λ (other : i ≢ n).
          let met = so_far.met i d e (omega arith) within in
          subst (λ (p : PassView). HasMet low higher (get_or before i d) p) (sym (get_or-set_other after n i y e other))
          (record { reads = met.reads; begins = met.begins; within = prefix_trans (get_or after i e).view high higher met.within grows }))
          (cases_eq i n);
      others = λ i d past. get_or-set_other after n i y d (λ e. omega arith) ∙ so_far.others i d (omega arith);
    }

-- all have met
pub all_met : (n : ℕ) (low high : History) (before after : List PassView) → length after ≤ n → HaveMetUpTo n low high before after → HaveMet low high before after
all_met n low high before after all so_far =
    let counted = so_far.counted in
    record { counted = counted; each = λ i d e less. so_far.met i d e (omega arith) less }

-- ---- between two meetings

-- what was seen of a history between two meetings of a client has exactly what the client had written: it had seen nothing beyond it at the first, and had seen it at the second, and it had written nothing
pub has_all_of : (low mid high top seen : History) (client soon late : PassView) → HasMet low mid client soon → HasMet high top soon late → IsPrefix mid seen → IsPrefix seen high → HasAllOf seen client
has_all_of low mid high top seen client soon late first then begins within =
    let number : ℕ = client.number in
    let of_soon : written_by number soon.view ≡ own client = ap (λ (n : ℕ). written_by n soon.view) (sym first.reads.goes_on.same_number) ∙ first.reads.none in
    let of_late : written_by number late.view ≡ written_by number soon.view =
    ap (λ (n : ℕ). written_by n late.view) (sym first.reads.goes_on.same_number ∙ sym then.reads.goes_on.same_number) ∙ then.reads.none
    ∙ ap (λ (n : ℕ). written_by n soon.view) first.reads.goes_on.same_number in
    let after : IsPrefix soon.view seen = prefix_trans soon.view mid seen first.within begins in
    let before : IsPrefix seen late.view = prefix_trans seen high late.view within then.begins in
    record {
      within = prefix_trans client.view soon.view seen first.reads.goes_on.begins after;
      own = sym (written_by-between number soon.view seen late.view after before of_late) ∙ of_late ∙ of_soon;
      recorded = subst (λ (n : ℕ). IsRecorded n seen) (then.reads.goes_on.same_writers ∙ first.reads.goes_on.same_writers)
          (IsRecorded-prefix late.writers seen late.view before then.reads.goes_on.recorded);
    }

-- what holds of each element, whatever is read past the end, holds of all
all_from_each : {A : Type 0} (P : A → Type 0) (xs : List A) → ((i : ℕ) (d : A) → i < length xs → P (get_or xs i d)) → AllByRecursion P xs
all_from_each P [] each = tt
all_from_each P (x ∷ xs) each = (each zero x (omega arith), all_from_each P xs (λ i d less. each (suc i) d (omega arith)))

-- where clients meet one of them twice, what that has seen at the first time has exactly what each of them had written
pub have_all_of : (low high top : History) (clients soon late : List PassView) → HaveMet low high clients soon → HaveMet high top soon late → AllByRecursion (HasAllOf high) clients
have_all_of low high top clients soon late first then =
    let counted = first.counted in
    all_from_each (HasAllOf high) clients
    (λ i d less. has_all_of low high high top high (get_or clients i d) (get_or soon i d) (get_or late i d) (first.each i d d less) (then.each i d d (omega arith)) (prefix_refl high) (prefix_refl high))
