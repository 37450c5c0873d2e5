-- How the doors are left.
use Rattle.std.specs.Prelude.{◌≡◌, List, [], Option, IfSome}

-- where the doors tell what they hold, they hold no link any more
abbrev pub HoldNone : {K : Type 0} → Option (List K) → Type 0
HoldNone held = IfSome held (λ links. links ≡ [])
