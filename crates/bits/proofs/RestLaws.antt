-- A number and one less have all their digits in common but the lowest that is 1. Assumes nothing.
use Prim.Native.Nat.{ℕ, zero, suc, ◌+◌, ◌-◌, ◌*◌, ◌/◌, ◌%◌, ◌^◌, ◌≤◌, ◌<◌, min}
use native.Mathlib.Nat.{pow-suc}
use native.Mathlib.Omega.{arith}
use mathlib.Core.Path.{◌≡◌, refl, sym, ap, ◌∙◌, subst, subst⁻¹}
use lib.Bits.{bit_and, and_step}
use Rattle.bits.specs.Bit.{bit, remove, lowest, First}
use Rattle.bits.proofs.BitLaws.{bit_zero, bit_suc, bit_of_zero}
use Rattle.bits.proofs.LowestLaws.{lowest_is, bit_lowest}
use Rattle.bits.proofs.SetLaws.{remove_less}

-- a set meets itself in itself
common_self : (w s : ℕ) → s < 2 ^ w → bit_and s s ≡ s
common_self zero s h = let z : s ≡ 0 = omega arith in subst (λ (n : ℕ). bit_and n n ≡ n) (sym z) refl
common_self (suc w) s h =
    omega (arith, and_step s s, common_self w (s / 2) (omega arith))

and_less : (w l s : ℕ) → s < 2 ^ w → bit l s ≡ 1 → ((i : ℕ) → i < l → bit i s ≡ 0) → bit_and s (s - 1) ≡ remove l s
unfolding remove
and_less w zero s h m f =
    let odd : s % 2 ≡ 1 = sym (bit_zero s) ∙ m in
    let half : (s - 1) / 2 ≡ s / 2 = omega arith in
    let e : bit_and s (s - 1) ≡ bit_and (s / 2) ((s - 1) / 2) * 2 + min (s % 2) ((s - 1) % 2) = and_step s (s - 1) in
    let same : bit_and (s / 2) ((s - 1) / 2) ≡ s / 2 = ap (bit_and (s / 2)) half ∙ common_self w (s / 2) (omega arith) in
    omega (arith, e, same)
and_less w (suc l) s h m f =
    let even : s % 2 ≡ 0 = sym (bit_zero s) ∙ f 0 (omega arith) in
    let member : bit l (s / 2) ≡ 1 = sym (bit_suc l s) ∙ m in
    let some : 1 ≤ s / 2 = below l (s / 2) member in
    let half : (s - 1) / 2 ≡ s / 2 - 1 = omega arith in
    let e : bit_and s (s - 1) ≡ bit_and (s / 2) ((s - 1) / 2) * 2 + min (s % 2) ((s - 1) % 2) = and_step s (s - 1) in
    let ih : bit_and (s / 2) (s / 2 - 1) ≡ s / 2 - bit l (s / 2) * 2 ^ l =
    and_less w l (s / 2) (omega arith) member (λ i k. sym (bit_suc i s) ∙ f (suc i) (omega arith)) in
    let same : bit_and (s / 2) ((s - 1) / 2) ≡ s / 2 - bit l (s / 2) * 2 ^ l = ap (bit_and (s / 2)) half ∙ ih in
    let twice : 2 ^ suc l ≡ 2 ^ l * 2 = pow-suc 2 l in
    let one : bit l (s / 2) * 2 ^ l ≡ 1 * 2 ^ l = ap (λ (n : ℕ). n * 2 ^ l) member in
    let one' : bit (suc l) s * 2 ^ suc l ≡ 1 * 2 ^ suc l = ap (λ (n : ℕ). n * 2 ^ suc l) m in
    omega (arith, e, same, twice, one, one')
  where
    below : (l x : ℕ) → bit l x ≡ 1 → 1 ≤ x
    below l zero e = absurd (let z : bit l 0 ≡ 0 = bit_of_zero l in omega (arith, z, e))
    below l (suc x) e = omega arith

-- what `rest` computes
pub rest_is : (s : ℕ) → s < 2 ^ 64 → 0 < s → bit_and s (s - 1) ≡ remove (lowest 64 s) s
rest_is s h k = and_less 64 (lowest 64 s) s h (bit_lowest 64 s h k) (lowest_is 64 s).free

-- without the lowest member, whichever is named so
pub rest_of : (s l r : ℕ) → First s l → r ≡ remove (lowest 64 s) s → r ≡ remove l s
rest_of s l r f e = e ∙ ap (λ (i : ℕ). remove i s) (sym f.is)

-- and that is less, as a number
pub rest_less : (s l r : ℕ) → First s l → r ≡ remove (lowest 64 s) s → r < s
rest_less s l r f e = subst⁻¹ (λ (x : ℕ). x < s) (rest_of s l r f e) (remove_less l s f.member)
