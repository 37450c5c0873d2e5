-- Jobs that are dealt acts, and the clients that have done them.
use Rattle.std.proofs.Common.{◌≡◌, ◌≢◌, ℕ, ◌-◌, ◌<◌, List, [], ◌∷◌, ◌++◌, length, map, get_or, Result, Ok, refl, sym, ap, ◌∙◌, subst, arith, length-append, ⊎_elim}
use Rattle.std.specs.Prelude.{IfOk}
use Rattle.std.proofs.lemmas.Bool.{cases_eq}
use Rattle.std.proofs.lemmas.List.{get_or-map, get_or_append_left, get_or-append_right, length-map}
use Rattle.write_history.specs.Passes.{PassView}
use Rattle.load_gen.specs.declared.acts.Act.{Act}
use Rattle.load_gen.specs.Shares.{acts_of}
use Rattle.load_run.specs.Jobs.{Assigned, AreIdle, AreDealt, IsDone, HaveWorked}

-- ---- jobs without acts

abbrev idle_job : PassView → Assigned
idle_job client = record { client = client; acts = [] }

-- a client more
pub idle_more : (clients : List PassView) (jobs : List Assigned) (client : PassView) (job : Assigned) → AreIdle clients jobs → job ≡ idle_job client →
    AreIdle (clients ++ client ∷ []) (jobs ++ job ∷ [])
idle_more clients jobs client job idle is =
    let counted = idle.counted in
    let longer = length-append jobs (job ∷ []) in
    let more = length-append clients (client ∷ []) in
    record {
      counted = omega arith;
      each = λ i d less. ⊎_elim
          (λ (last : i ≡ length clients).
          let first : get_or (jobs ++ job ∷ []) i d ≡ get_or (job ∷ []) (i - length jobs) d = get_or-append_right jobs (job ∷ []) (length jobs) i d refl (omega arith) in
          let second : get_or (clients ++ client ∷ []) i d.client ≡ get_or (client ∷ []) (i - length clients) d.client = get_or-append_right clients (client ∷ []) (length clients) i d.client refl (omega arith) in
          let one : i - length jobs ≡ 0 = omega arith in
          let two : i - length clients ≡ 0 = omega arith in
          first ∙ ap (λ (k : ℕ). get_or (job ∷ []) k d) one ∙ is ∙ ap idle_job (sym (second ∙ ap (λ (k : ℕ). get_or (client ∷ []) k d.client) two)))
          (λ (other : i ≢ length clients).
          let before : i < length clients = omega arith in
          get_or_append_left jobs (job ∷ []) d i (omega arith) ∙ idle.each i d before ∙ ap idle_job (sym (get_or_append_left clients (client ∷ []) d.client i before)))
          (cases_eq i (length clients));
    }

-- a job with acts behind its own
abbrev with_acts : Assigned → List Act → Assigned
with_acts job acts = record job { acts = job.acts ++ acts }

-- ---- jobs that are done

-- the clients of jobs that were done
pub have_worked : {E : Type 0} (clients workers : List PassView) (idle jobs : List Assigned) (ends : List (Result PassView E)) (acts : List Act) →
    AreIdle clients idle → AreDealt acts idle jobs → length ends ≡ length jobs → ends ≡ map Ok workers →
    ((i : ℕ) (d : Assigned) (e : Result PassView E) → i < length jobs → IfOk (get_or ends i e) (IsDone (get_or jobs i d))) → HaveWorked acts clients workers
have_worked {E = E} clients workers idle jobs ends acts are_idle dealt counted ok each =
    let first = are_idle.counted in
    let second = dealt.counted in
    let all : length ends ≡ length workers = ap length ok ∙ length-map workers Ok in
    record {
      counted = omega arith;
      each = λ i d e less.
          let none : Assigned = idle_job d in
          let client : PassView = get_or clients i d in
          let share : List Act = acts_of (length clients) i acts in
          let job : get_or jobs i none ≡ record { client = client; acts = share } =
          dealt.each i none (omega arith) ∙ ap (λ (x : Assigned). with_acts x (acts_of (length idle) i acts)) (are_idle.each i none less)
          ∙ ap (λ (n : ℕ). record { client = client; acts = acts_of n i acts }) first in
          let end : get_or ends i (Ok e) ≡ Ok (get_or workers i e) =
          ap (λ (rs : List (Result PassView E)). get_or rs i (Ok e)) ok ∙ get_or-map Ok workers i e (Ok e) (omega arith) in
          subst (λ (x : Assigned). IsDone x (get_or workers i e)) job
          (subst (λ (r : Result PassView E). IfOk r (IsDone (get_or jobs i none))) end (each i none (Ok e) (omega arith)));
    }
