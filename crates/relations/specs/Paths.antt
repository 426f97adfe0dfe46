-- Whether a path leads from one number to another, computed: a path whose inner numbers are among some is one that passes by the
-- first of them or not. Computed: no demand rests on it. Assumes nothing.
use Rattle.std.specs.Prelude.{ℕ, Bool, List, [], ◌∷◌}
use Rattle.basics.specs.Tests.{◌and◌, ◌or◌}

-- a path of one arc or more from a to b whose inner numbers are all in the list
unfoldable pub path : (ℕ → ℕ → Bool) → List ℕ → ℕ → ℕ → Bool
path arc [] a b = arc a b
path arc (m ∷ ms) a b = path arc ms a b or (path arc ms a m and path arc ms m b)
