-- The bits of a number that is shifted up or down, or cut to a width.
-- Assumes nothing.
use Prim.Native.Nat.{ℕ, suc, ◌+◌, ◌-◌, ◌*◌, ◌/◌, ◌%◌, ◌^◌, ◌≤◌, ◌<◌}
use native.Mathlib.Nat.{mul_assoc}
use native.Mathlib.Omega.{arith}
use mathlib.Core.Path.{◌≡◌, sym, ap, ◌∙◌}
use mathlib.Core.Bool.{false}
use lib.Bits.{shifted_even}
use lib.Dec.{eqb}
use lib.Pow.{pow-add, pow_pos, shl-shr, shr-shr, field, mod-mod-pow}
use native.Mathlib.Nat.{mod-lt}
use Rattle.bits.specs.Bit.{bit, hasb, field as field_of, raised}
use Rattle.bits.proofs.BitLaws.{bit_above}

-- shifted down by s, bit i is what bit s + i was
pub bit_down : (s i x : ℕ) → bit i (x / 2 ^ s) ≡ bit (s + i) x
bit_down s i x = ap (λ (n : ℕ). n % 2) (shr-shr x s i)

-- cut to w bits, the bits below w stay and the others are gone
pub bit_cut : (w i x : ℕ) → i < w → bit i (x % 2 ^ w) ≡ bit i x
bit_cut w i x h =
    let m : ℕ = w - i - 1 in
    let e : w ≡ (m + 1) + i = omega arith in
    ap (λ (n : ℕ). x % 2 ^ n / 2 ^ i % 2) e
    ∙ (ap (λ (n : ℕ). n % 2) (field x (m + 1) i) ∙ mod-mod-pow (x / 2 ^ i) m 1)

pub bit_cut_above : (w i x : ℕ) → w ≤ i → bit i (x % 2 ^ w) ≡ 0
bit_cut_above w i x h = bit_above w i (x % 2 ^ w) (mod-lt x (pow_pos w)) h

-- shifted up by s, the bits below s are 0 and bit s + i is what bit i was
pub bit_up_low : (s i x : ℕ) → i < s → bit i (x * 2 ^ s) ≡ 0
bit_up_low s i x h =
    let m : ℕ = s - i - 1 in
    let e : s ≡ suc m + i = omega arith in
    ap (λ (n : ℕ). x * 2 ^ n / 2 ^ i % 2) e
    ∙ (ap (λ (n : ℕ). x * n / 2 ^ i % 2) (pow-add 2 (suc m) i)
    ∙ (ap (λ (n : ℕ). n / 2 ^ i % 2) (sym (mul_assoc x (2 ^ suc m) (2 ^ i)))
    ∙ (ap (λ (n : ℕ). n % 2) (shl-shr (x * 2 ^ suc m) i) ∙ shifted_even x m)))

pub bit_up : (s i x : ℕ) → s ≤ i → bit i (x * 2 ^ s) ≡ bit (i - s) x
bit_up s i x h =
    let e : i ≡ s + (i - s) = omega arith in
    ap (λ (n : ℕ). x * 2 ^ s / 2 ^ n % 2) e
    ∙ (ap (λ (n : ℕ). n % 2) (sym (shr-shr (x * 2 ^ s) s (i - s))) ∙ ap (λ (n : ℕ). n / 2 ^ (i - s) % 2) (shl-shr x s))

-- the members of eight places, and of a set put back there
pub field_lt : (n s : ℕ) → field_of n s < 256
unfolding field_of
field_lt n s = omega arith

pub has_field : (n b s : ℕ) → b < 8 → hasb b (field_of n s) ≡ hasb (n + b) s
unfolding field_of
has_field n b s h = ap (λ (x : ℕ). eqb x 1) (bit_cut 8 b (s / 2 ^ n) h ∙ bit_down n b s)

pub has_raised : (n k s : ℕ) → n ≤ k → hasb k (raised n s) ≡ hasb (k - n) s
unfolding raised
has_raised n k s h = ap (λ (x : ℕ). eqb x 1) (bit_up n k s h)

pub raised_low : (n k s : ℕ) → k < n → hasb k (raised n s) ≡ false
unfolding raised
raised_low n k s h = ap (λ (x : ℕ). eqb x 1) (bit_up_low n k s h)
