-- How many words of a buffer are no longer what stood there before. Assumes nothing.
use Rattle.std.specs.Prelude.{ℕ, zero, suc, ◌+◌, ◌≤◌, ◌≡◌, Bool, true, cond, not, List, eqb, ℤ, pos, length, get_or}
use Rattle.std.specs.Int.Signed.{lt_z}

-- of the first k, where a test says which changed
unfoldable pub changed_to : (ℕ → Bool) → ℕ → ℕ
changed_to test zero = 0
changed_to test (suc k) = changed_to test k + cond (test k) 1 0

-- word i is no longer as it was
abbrev pub other : List ℕ → ℕ → ℕ → Bool
other ws before i = not (eqb (get_or ws i 0) before)

unfoldable pub changed : List ℕ → ℕ → ℕ
changed ws before = changed_to (λ i. other ws before i) (length ws)

-- the same of values, where 9 stood before
unfoldable pub other_value : ℤ → Bool
other_value v = cond (lt_z v (pos 9)) true (lt_z (pos 9) v)

unfoldable pub values_changed : List ℤ → ℕ
values_changed vs = changed_to (λ i. other_value (get_or vs i (pos 0))) (length vs)

-- the first i words are counted
pub record Counted (test : ℕ → Bool) (end count i : ℕ) : Type 0 where
  pub is : count ≡ changed_to test i
  pub few : count ≤ i
  pub inside : i ≤ end
