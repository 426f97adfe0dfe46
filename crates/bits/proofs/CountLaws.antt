-- How many members a set has: one for each bit that is 1, which is what the machine's count of ones gives, and one less after a member is removed.
-- Assumes nothing.
use Prim.Native.Nat.{ℕ, zero, suc, ◌+◌, ◌/◌, ◌%◌, ◌^◌, ◌≤◌, ◌<◌}
use native.Mathlib.Nat.{eq-or-lt_of_le, le_of_suc-le-suc}
use native.Mathlib.Omega.{arith}
use mathlib.Core.Path.{◌≡◌, refl, ap}
use mathlib.Core.Logic.{◌⊎◌, inl, inr}
use lib.Count.{ones, ones_step}
use Rattle.bits.specs.Bit.{bit, count, remove}
use Rattle.bits.proofs.BitLaws.{bit_zero, bit_suc, bit_le}
use Rattle.bits.proofs.SetLaws.{bit_remove_same, bit_remove_other}

pub count_le : (w s : ℕ) → count w s ≤ w
unfolding count
count_le zero s = omega arith
count_le (suc w) s = omega (arith, count_le w s, bit_le w s)

-- the lowest bit, and the rest
pub count_step : (w s : ℕ) → count (suc w) s ≡ s % 2 + count w (s / 2)
unfolding count
count_step zero s = omega (arith, bit_zero s)
count_step (suc w) s = omega (arith, count_step w s, bit_suc w s)

pub ones_count : (w s : ℕ) → s < 2 ^ w → ones s ≡ count w s
unfolding count ones
ones_count zero s h = let e : s ≡ 0 = omega arith in ap ones e
ones_count (suc w) s h = omega (arith, ones_step s, ones_count w (s / 2) (omega arith), count_step w s)

-- sets with the same members below w
pub count_ext : (w x y : ℕ) → ((j : ℕ) → j < w → bit j x ≡ bit j y) → count w x ≡ count w y
unfolding count
count_ext zero x y e = refl
count_ext (suc w) x y e = omega (arith, count_ext w x y (λ j l. e j (omega arith)), e w (omega arith))

-- sets that differ at i alone
pub count_but_one : (w i x y : ℕ) → i < w → ((j : ℕ) → (j ≡ i → ⊥) → bit j x ≡ bit j y) → count w x + bit i y ≡ count w y + bit i x
unfolding count
count_but_one zero i x y l e = absurd (omega arith)
count_but_one (suc w) i x y l e = go (eq-or-lt_of_le (le_of_suc-le-suc l)) (λ k. count_but_one w i x y k e)
  where
    go : (i ≡ w) ⊎ (i < w) → (i < w → count w x + bit i y ≡ count w y + bit i x) → count w x + bit w x + bit i y ≡ count w y + bit w y + bit i x
    go (inl q) rest = omega (arith, count_ext w x y (λ j k. e j (λ r. omega arith)), ap (λ (k : ℕ). bit k x) q, ap (λ (k : ℕ). bit k y) q)
    go (inr k) rest = omega (arith, rest k, e w (λ r. omega arith))

pub count_remove : (w i s : ℕ) → i < w → count w (remove i s) + bit i s ≡ count w s
count_remove w i s l = omega (arith, count_but_one w i (remove i s) s l (λ j d. bit_remove_other i j s d), bit_remove_same i s)
