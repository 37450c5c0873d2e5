-- What a pull makes of the lines of a home, line after line.
use Rattle.std.proofs.Common.{◌≡◌, ℕ, ◌-◌, ◌^◌, ◌<◌, inl, inr, List, [], ◌++◌, length, true, false, sym, ◌∙◌, subst, append_assoc}
use Rattle.std.specs.Prelude.{Option, Some, None, Ok, Err, ⊤}
use Rattle.pq_io.specs.Streams.{Gave}
use Rattle.pq_io.proofs.StreamLemmas.{Gave-nothing, Gave-append}
use Rattle.semantics.specs.Histories.{Write}
use Rattle.protocol.specs.Lines.{Bytes}
use Rattle.follow_node.specs.Feeders.{FeederView}
use Rattle.follow_node.specs.Pulls.{Pulls, Readies, kept_line, read_line, TakesLine, IsHeard, unasked, unheard, goes_on}
use Rattle.follow_node.specs.declared.pulled.Pulled.{Pulled}

-- what a pull from here comes to, one from the first comes to
pub record PullSoFar (f₀ : FeederView) (ws₀ : List Write) (left₀ : Option Bytes) (first : Option ℕ) (f : FeederView) (ws : List Write) (left : Option Bytes) : Type 0 where
  pub bytes : Bytes
  pub gave : Gave left₀ left bytes
  pub goes : (at_end : Option Bytes) (more : Bytes) (pulled : Pulled) (f' : FeederView) (ws' : List Write) → Pulls at_end first f ws more pulled f' ws' → Pulls at_end None f₀ ws₀ (bytes ++ more) pulled f' ws'

pub pull_first : (f : FeederView) (ws : List Write) (left : Option Bytes) → PullSoFar f ws left None f ws left
pull_first f ws left = record { bytes = []; gave = Gave-nothing left; goes = λ at_end more pulled f' ws' h. h }

readies_then : (left left' : Option Bytes) (f : FeederView) (ws : List Write) (bytes : Bytes) (g : FeederView) → Readies left f ws bytes g → Readies left' f ws bytes g
readies_then left left' f ws _ _ (kept_line opened kept) = kept_line opened kept
readies_then left left' f ws _ _ (read_line bytes g opened kept hears asked none) = read_line bytes g opened kept hears asked none

-- one more line
pub pull_more : (f₀ : FeederView) (ws₀ : List Write) (left₀ : Option Bytes) (first : Option ℕ) (f g f' : FeederView) (ws ws' : List Write) (left left' : Option Bytes) (bytes : Bytes) (goal : ℕ) →
    PullSoFar f₀ ws₀ left₀ first f ws left → Gave left left' bytes → Readies left' f ws bytes g → TakesLine first g f' ws ws' (Ok goal) → length ws' < goal →
    PullSoFar f₀ ws₀ left₀ (Some goal) f' ws' left'
pull_more f₀ ws₀ left₀ first f g f' ws ws' left left' bytes goal so_far gave ready takes short = record {
  bytes = so_far.bytes ++ bytes;
  gave = Gave-append left₀ left left' so_far.bytes bytes so_far.gave gave;
  goes = λ at_end more pulled f'' ws'' h.
      subst (λ all. Pulls at_end None f₀ ws₀ all pulled f'' ws'') (sym (append_assoc so_far.bytes bytes more))
      (so_far.goes at_end (bytes ++ more) pulled f'' ws'' (goes_on first f g f' f'' ws ws' ws'' bytes more goal pulled (readies_then left' at_end f ws bytes g ready) takes short h));
}

-- and the end
pub pull_ends : (f₀ : FeederView) (ws₀ : List Write) (left₀ : Option Bytes) (first : Option ℕ) (f f' : FeederView) (ws ws' : List Write) (left left' : Option Bytes) (bytes : Bytes) (pulled : Pulled) →
    PullSoFar f₀ ws₀ left₀ first f ws left → Gave left left' bytes → Pulls left' first f ws bytes pulled f' ws' →
    (all : Bytes) × Gave left₀ left' all × Pulls left' None f₀ ws₀ all pulled f' ws'
pull_ends f₀ ws₀ left₀ first f f' ws ws' left left' bytes pulled so_far gave ends =
    (so_far.bytes ++ bytes, Gave-append left₀ left left' so_far.bytes bytes so_far.gave gave, so_far.goes left' bytes pulled f' ws' ends)

-- how far there is to go
abbrev pub far : Option ℕ → List Write → ℕ
far None ws = 2 ^ 64
far (Some goal) ws = goal - length ws

-- where the first line was taken, none is kept, and there is more to take
abbrev pub IsShortOf : Option ℕ → FeederView → List Write → Type 0
IsShortOf None f ws = ⊤
IsShortOf (Some goal) f ws = (f.kept ≡ false) × (length ws < goal)

-- the line that is taken next is there
pub record IsReady (left left' : Option Bytes) (f : FeederView) (ws : List Write) (g : FeederView) : Type 0 where
  pub bytes : Bytes
  pub gave : Gave left left' bytes
  pub ready : Readies left' f ws bytes g

-- it was heard
pub ready_heard : (left left' left'' : Option Bytes) (f g g' : FeederView) (ws : List Write) (asked : ℕ) (bytes : Bytes) → f.ended ≡ false → f.kept ≡ false → asked ≡ length ws → Gave left left' bytes →
    IsHeard left' bytes asked f g (Ok tt) → left'' ≡ left' → g' ≡ g → IsReady left left'' f ws g'
ready_heard left left' left'' f g g' ws asked bytes opened none is gave heard same same' =
    subst (λ l. IsReady left l f ws g') (sym same)
    (subst (IsReady left left' f ws) (sym same') (record { bytes = bytes; gave = gave; ready = read_line bytes g opened none heard.0 (heard.2 ∙ is) heard.3 }))

-- it was kept
pub ready_kept : (left left'' : Option Bytes) (f g' : FeederView) (ws : List Write) → f.ended ≡ false → f.kept ≡ true → left'' ≡ left → g' ≡ f → IsReady left left'' f ws g'
ready_kept left left'' f g' ws opened kept same same' =
    subst (λ l. IsReady left l f ws g') (sym same) (subst (IsReady left left f ws) (sym same') (record { bytes = []; gave = Gave-nothing left; ready = kept_line opened kept }))

-- none was heard
pub pulls_unheard : (left : Option Bytes) (first : Option ℕ) (f f' : FeederView) (ws : List Write) (bytes : Bytes) (asked : ℕ) (pulled : Pulled) → f.ended ≡ false → f.kept ≡ false →
    IsHeard left bytes asked f f' (Err pulled) → Pulls left first f ws bytes pulled f' ws
pulls_unheard left first f f' ws bytes asked pulled opened none (inl why, ended, same) =
    subst (λ bs. Pulls left first f ws bs pulled f' ws) (sym why.0) (subst (λ p. Pulls left first f ws [] p f' ws) (sym why.1) (unasked first f f' ws opened none ended))
pulls_unheard left first f f' ws bytes asked pulled opened none (inr why, ended, same) = unheard first f f' ws bytes why.0 pulled opened none why.1 ended
