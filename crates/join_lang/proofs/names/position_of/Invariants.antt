use Rattle.std.proofs.Common.{◌≡◌, ◌+◌, map, drop, string_bytes}
use Rattle.std.specs.List.{list_any, position_or_len}
use Rattle.semantics.specs.Texts.{same}
use Rattle.join_lang.proofs.names.position_of.Given as goal

abbrev pub invariant-loop-place : goal.invariant-loop-place
invariant-loop-place l =
    (list_any (same l.name) (map string_bytes l.names) ≡ list_any (same l.name) (map string_bytes (drop l.place l.names)))
    × (position_or_len (same l.name) (map string_bytes l.names) ≡ l.place + position_or_len (same l.name) (map string_bytes (drop l.place l.names)))
