use Rattle.std.proofs.Common.{◌≡◌, List, filter, sym, ap, ◌∙◌, rules, subst}
use Rattle.std.specs.BTreeMap.Range.{range_contains}
use Rattle.std.specs.declared.ops.Bound.TheVariants.{Included, Excluded}
use Rattle.semantics.specs.Texts.{Text, text_cmp, Range, within}
use Rattle.base_versions.specs.declared.changes.Change.{Change}
use Rattle.base_versions.specs.Versions.{Tracks}
use Rattle.base_versions.specs.Kept.{TableKept}
use Rattle.base_versions.proofs.MapLemmas.{AreKeys, keys-filter, between_is_within}
use Rattle.base_versions.proofs.table.TableVersions.within.Goals as goal

-- the part of the map that is walked is what lies within the range
walked : (kept : TableKept) (tracks : Tracks) (changes : List Change) (walk : Tracks) (r : Range) (low high : Text) → record { tracks = tracks; changes = changes } ≡ kept → low ≡ r.low → high ≡ r.high →
    walk ≡ filter (λ t. range_contains text_cmp (Included low) (Excluded high) t.0) tracks → walk ≡ filter (λ t. within r t.0) kept.tracks
walked kept tracks changes walk r low high e l h w =
    w ∙ ap (λ x. filter (λ t. range_contains text_cmp (Included x) (Excluded high) t.0) tracks) l
    ∙ ap (λ x. filter (λ t. range_contains text_cmp (Included r.low) (Excluded x) t.0) tracks) h
    ∙ between_is_within r tracks ∙ ap (λ k. filter (λ t. within r t.0) k.tracks) e

pub returns-clause-tracks : goal.returns-clause-tracks
returns-clause-tracks c =
    walked c.args.self.now c.self.inside.tracks.entries c.self.inside.changes.items c.range.result c.args.range.now c.in_ok-first_place.field-0 c.in_ok-last_place.field-0 c.self.view_is c.in_ok-first_place.ensures.place c.in_ok-last_place.ensures (c.range.ensures.between (search rules))

pub returns-clause-keys : goal.returns-clause-keys
returns-clause-keys c = subst (λ (ts : Tracks). AreKeys ts) (sym (c.range.ensures.between (search rules))) (keys-filter _ c.self.inside.tracks.entries c.self.invariant.0)
