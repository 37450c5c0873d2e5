-- What is done, act by act.
use Rattle.std.specs.Prelude.{ℕ, zero, suc, ◌+◌, ◌%◌, List, [], ◌∷◌, ◌++◌, codes, decimal, nat_lt, if◌then◌else◌}
use Rattle.rand_core.specs.Pcg32Seed.{pcg32_seed}
use Rattle.rand_pcg.specs.Lcg.{Lcg}
use Rattle.rand_pcg.specs.Pcg.{pcg32, pcg32_of_seed}
use Rattle.join_types.specs.declared.write.Write.TheVariants.{Put, Remove}
use Rattle.load_gen.specs.Keys.{subscription, post, vote}
use Rattle.load_gen.specs.declared.acts.Act.{Act}
use Rattle.load_gen.specs.declared.acts.Act.TheVariants.{Change, Look}
use Rattle.load_gen.specs.declared.acts.Words.{Words}

-- the generator that a number seeds
unfoldable pub seeded : ℕ → Lcg
seeded number = pcg32_of_seed (pcg32_seed 16 number)

-- the word that a generator draws
unfoldable pub word_of : Lcg → ℕ
word_of g = (pcg32 g).0

-- the generator when it has drawn a word
unfoldable pub drawn : Lcg → Lcg
drawn g = (pcg32 g).1

-- the four words that are drawn for an act
abbrev pub words_of : Lcg → Words
words_of g = record { kind = word_of g; user = word_of (drawn g); poster = word_of (drawn (drawn g)); time = word_of (drawn (drawn (drawn g))) }

-- the generator when it has drawn them
abbrev pub rest_of : Lcg → Lcg
rest_of g = drawn (drawn (drawn (drawn g)))

-- the act of this kind, a number below 100, that a user and a poster make as the act with this number; `time` chooses the post that is removed
abbrev pub act_of_kind : ℕ → ℕ → ℕ → ℕ → ℕ → Act
act_of_kind kind user poster time number =
    if nat_lt kind 10 then Change poster (Put (subscription user poster) (codes "1"))
    else (if nat_lt kind 15 then Change poster (Remove (subscription user poster))
    else (if nat_lt kind 55 then Change poster (Put (post poster number) (codes "m" ++ decimal number))
    else (if nat_lt kind 60 then Change poster (Remove (post poster (1 + time % number)))
    else (if nat_lt kind 70 then Change poster (Put (vote poster user) (codes "1"))
    else (if nat_lt kind 75 then Change poster (Remove (vote poster user))
    else Look poster user)))))

-- the act that four words make as the act with this number, with so many users
unfoldable pub act_of : Words → ℕ → ℕ → Act
act_of words number users = act_of_kind (words.kind % 100) (words.user % users) (words.poster % users) words.time number

-- so many acts, the first of them with this number, from the words that a generator draws
abbrev pub acts_from : ℕ → ℕ → ℕ → Lcg → List Act
acts_from users number zero g = []
acts_from users number (suc count) g = act_of (words_of g) number users ∷ acts_from users (number + 1) count (rest_of g)

-- the acts of the load: so many, by so many users, from the words that are drawn by the generator which this number seeds
abbrev pub planned : ℕ → ℕ → ℕ → List Act
planned number steps users = acts_from users 1 steps (seeded number)
