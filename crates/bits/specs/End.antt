-- The end of a set: the least number above all its members. For proofs of the code: no demand rests on it. Assumes nothing.
use Rattle.std.specs.Prelude.{ℕ, ◌+◌, ◌*◌, ◌^◌, ◌≤◌, ◌<◌}

-- n is the least number above all members of s, a set of numbers below 64
pub record End (s n : ℕ) : Type 0 where
  pub small : n ≤ 64
  pub above : s < 2 ^ n
  pub least : 2 ^ n ≤ 2 * s + 1
