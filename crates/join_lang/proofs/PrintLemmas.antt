-- How a canonical text comes together.
use Rattle.std.proofs.Common.{◌≡◌, List, [], ◌∷◌, ◌++◌, codes, sym, ap, ◌∙◌, append_assoc}
use Rattle.std.specs.List.{join_with_byte}
use Rattle.std.proofs.lemmas.List.{append-nil}
use Rattle.semantics.specs.Texts.{Text, bar}
use Rattle.semantics.specs.Patterns.{Segment, Pattern}
use Rattle.semantics.specs.Joins.{Join, Source, Kind, push, pull}
use Rattle.protocol.specs.JoinText.{segment_print, pattern_print, operator_word, kind_words, source_words, canonical_text}
use Rattle.join_lang.specs.Printed.{kind_print, segments_print, sources_print}

-- a pattern is its first segment, and the others behind `|`
pub pattern_print-cons : (names : List Text) (s : Segment) (ss : Pattern) → pattern_print names (s ∷ ss) ≡ segment_print names s ++ segments_print names ss
pattern_print-cons names s [] = sym (append-nil (segment_print names s))
pattern_print-cons names s (r ∷ rs) = ap (λ t. segment_print names s ++ bar ∷ t) (pattern_print-cons names r rs)

-- a word and the words of sources are the word, and the sources behind spaces
pub words_print : (names : List Text) (w : Text) (ss : List Source) → join_with_byte 32 (w ∷ source_words names ss) ≡ w ++ sources_print names ss
words_print names w [] = sym (append-nil w)
words_print names w (s ∷ ss) =
    ap (λ t. w ++ 32 ∷ (operator_word s.operator ++ 32 ∷ t)) (words_print names (pattern_print names s.pattern) ss)

words_kind : (names : List Text) (w : Text) (kind : Kind) (ss : List Source) → join_with_byte 32 (w ∷ (kind_words kind ++ source_words names ss)) ≡ w ++ (kind_print kind ++ sources_print names ss)
words_kind names w push ss = words_print names w ss
words_kind names w pull ss = ap (λ t. w ++ 32 ∷ t) (words_print names (codes "pull") ss)

-- a canonical text is its output, `=`, the kind and the sources
pub canonical_text-parts : (j : Join) → canonical_text j ≡ ((pattern_print j.names j.output ++ 32 ∷ 61 ∷ []) ++ kind_print j.kind) ++ sources_print j.names j.sources
unfolding canonical_text
canonical_text-parts j =
    let p = pattern_print j.names j.output in
    let t = sources_print j.names j.sources in
    ap (λ t. p ++ 32 ∷ t) (words_kind j.names (61 ∷ []) j.kind j.sources)
    ∙ sym (append_assoc p (32 ∷ 61 ∷ []) (kind_print j.kind ++ t))
    ∙ sym (append_assoc (p ++ 32 ∷ 61 ∷ []) (kind_print j.kind) t)

-- what is printed piece by piece is the whole text
pub print_chain : (t0 t1 t2 t3 t4 p q k l s r : Text) → t0 ≡ [] → t1 ≡ t0 ++ q → t2 ≡ t1 ++ 32 ∷ 61 ∷ [] → t3 ≡ t2 ++ l → t4 ≡ t3 ++ r → q ≡ p → l ≡ k → r ≡ s → t4 ≡ ((p ++ 32 ∷ 61 ∷ []) ++ k) ++ s
print_chain t0 t1 t2 t3 t4 p q k l s r e0 e1 e2 e3 e4 f g h =
    e4 ∙ ap (λ t. t3 ++ t) h
    ∙ ap (λ t. t ++ s) (e3 ∙ ap (λ t. t2 ++ t) g ∙ ap (λ t. t ++ k) (e2 ∙ ap (λ t. t ++ 32 ∷ 61 ∷ []) (e1 ∙ ap (λ t. t ++ q) e0 ∙ f)))
