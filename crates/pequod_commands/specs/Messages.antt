-- What the program says on standard error of how it ended.
use Rattle.std.specs.Prelude.{ℕ, ◌==◌, ◌++◌, codes, if◌then◌else◌, Option, Some, None, option_map}
use Rattle.semantics.specs.Texts.{Text}

-- what a status says, in words; the work that was done says nothing
abbrev words_of : ℕ → Option Text
words_of status =
    if status == 2 then Some (codes "words")
    else (if status == 3 then Some (codes "long")
    else (if status == 4 then Some (codes "read fault")
    else (if status == 5 then Some (codes "write fault")
    else (if status == 6 then Some (codes "memory")
    else (if status == 7 then Some (codes "file refused")
    else (if status == 8 then Some (codes "doors fault")
    else (if status == 9 then Some (codes "shelf fault")
    else (if status == 10 then Some (codes "spent") else None))))))))

-- the line of a status, without its end
abbrev pub message_of : ℕ → Option Text
message_of status = option_map (λ words. codes "pequod: " ++ words) (words_of status)
