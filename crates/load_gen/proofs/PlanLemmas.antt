-- How the acts are made, one after another.
use Rattle.std.proofs.Common.{◌≡◌, ℕ, suc, ◌+◌, List, [], ◌∷◌, ◌++◌, sym, ap, ◌∙◌, append-nil, append_assoc}
use Rattle.rand_pcg.specs.Lcg.{Lcg}
use Rattle.rand_core.specs.Pcg32Seed.{pcg32_seed}
use Rattle.rand_pcg.specs.Pcg.{pcg32, pcg32_of_seed}
use Rattle.load_gen.specs.declared.acts.Act.{Act}
use Rattle.load_gen.specs.Plans.{seeded, word_of, drawn, words_of, rest_of, act_of, acts_from, planned}

-- a word that was drawn, and the generator after it
pub draws : (word : ℕ) (g h : Lcg) → (word, h) ≡ pcg32 g → (word ≡ word_of g) × (h ≡ drawn g)
unfolding word_of drawn
draws word g h e = (ap (λ p. p.0) e, ap (λ p. p.1) e)

more_by : (users number count more : ℕ) (g : Lcg) → count ≡ suc more → acts_from users number count g ≡ act_of (words_of g) number users ∷ acts_from users (number + 1) more (rest_of g)
more_by users number count more g e = ap (λ n. acts_from users number n g) e

-- one act more
pub acts_more : (users number count more : ℕ) (g h : Lcg) (act : Act) (acts longer target : List Act) → count ≡ suc more → act ≡ act_of (words_of g) number users → h ≡ rest_of g → longer ≡ acts ++ act ∷ [] →
    acts ++ acts_from users number count g ≡ target → longer ++ acts_from users (number + 1) more h ≡ target
acts_more users number count more g h act acts longer target e is rest made found =
    ap (λ l. l ++ acts_from users (number + 1) more h) made
    ∙ append_assoc acts (act ∷ []) (acts_from users (number + 1) more h)
    ∙ ap (λ a. acts ++ (a ∷ acts_from users (number + 1) more h)) is
    ∙ ap (λ f. acts ++ (act_of (words_of g) number users ∷ acts_from users (number + 1) more f)) rest
    ∙ ap (λ l. acts ++ l) (sym (more_by users number count more g e)) ∙ found

-- no act is made at the start
pub acts_begin : (users steps number left : ℕ) (g : Lcg) (acts : List Act) → acts ≡ [] → left ≡ steps → g ≡ pcg32_of_seed (pcg32_seed 16 number) → acts ++ acts_from users 1 left g ≡ planned number steps users
unfolding seeded
acts_begin users steps number left g acts none all is =
    ap (λ l. l ++ acts_from users 1 left g) none ∙ ap (λ n. acts_from users 1 n g) all ∙ ap (acts_from users 1 steps) is

-- all are made at the end
pub acts_end : (users number left : ℕ) (g : Lcg) (acts target : List Act) → left ≡ 0 → acts ++ acts_from users number left g ≡ target → acts ≡ target
acts_end users number left g acts target none found = sym (append-nil acts) ∙ ap (λ n. acts ++ acts_from users number n g) (sym none) ∙ found
