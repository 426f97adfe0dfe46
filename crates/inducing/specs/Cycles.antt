-- Document 01, refusals 9 and 10: "the lowest-numbered rule, and in it the lowest occurrence, that lies on a cycle", read off the rows.
-- Computed: no demand rests on it. Assumes nothing.
use Rattle.std.specs.Prelude.{ℕ, ◌+◌, ◌*◌, Bool, cond, List, Option, Some, None}
use Rattle.basics.specs.Tests.{some, least}
use Rattle.bits.specs.Bit.{hasb}
use Rattle.basics.specs.Lists.{word}

-- occurrence o of rule r lies on a cycle
unfoldable pub lies : List ℕ → ℕ → ℕ → Bool
lies rows r o = hasb o (word rows (64 * r + o))

-- some occurrence of rule r does
unfoldable pub cyclic : List ℕ → ℕ → Bool
cyclic rows r = some 64 (λ o. lies rows r o)

-- the lowest rule of the first n, and its lowest occurrence, that lies on a cycle
unfoldable pub cycle_in : List ℕ → ℕ → Option (ℕ × ℕ)
cycle_in rows n =
    let r = least n (λ r. cyclic rows r) in
    cond (some n (λ r. cyclic rows r)) (Some (r, least 64 (λ o. lies rows r o))) None
