-- The laws of one bit: of sums of powers, of or and and, and that a number is its bits.
-- Each is proved once, over the index or the width, by halving. Assumes nothing.
use Prim.Native.Nat.{ℕ, zero, suc, ◌+◌, ◌-◌, ◌/◌, ◌%◌, ◌^◌, ◌≤◌, ◌<◌, min, max}
use native.Mathlib.Nat.{div-one, zero-div, div-div-eq-div-mul, div-eq_of_lt, lt_of_lt_of_le, mul_comm, pow-suc}
use native.Mathlib.Omega.{arith}
use mathlib.Core.Path.{◌≡◌, refl, sym, ap, ◌∙◌}
use mathlib.Core.Bool.{true, false}
use mathlib.Core.Logic.{◌⊎◌, inl, inr}
use borrow.Author.Tests.{eqb-true, eq-eqb, ne_eqb}
use lib.Bits.{bit_and, bit_or, or_step, and_step, or_shr, and_shr}
use lib.Pow.{pow_pos, pow_mono, pow-lt}
use Rattle.bits.specs.Bit.{bit, number, hasb}

pub bit_zero : (x : ℕ) → bit 0 x ≡ x % 2
bit_zero x = ap (λ (n : ℕ). n % 2) (div-one x)

pub bit_suc : (i x : ℕ) → bit (suc i) x ≡ bit i (x / 2)
bit_suc i x =
    ap (λ (n : ℕ). n % 2) (ap (λ (p : ℕ). x / p) (pow-suc 2 i ∙ mul_comm (2 ^ i) 2) ∙ sym (div-div-eq-div-mul x 2 (2 ^ i)))

pub bit_le : (i x : ℕ) → bit i x ≤ 1
bit_le i x = omega arith

pub bit_cases : (i x : ℕ) → (bit i x ≡ 0) ⊎ (bit i x ≡ 1)
bit_cases i x = go (bit i x) (bit_le i x)
  where
    go : (b : ℕ) → b ≤ 1 → (b ≡ 0) ⊎ (b ≡ 1)
    go zero h = inl refl
    go (suc b) h = inr (omega arith)

pub bit_of_zero : (i : ℕ) → bit i 0 ≡ 0
bit_of_zero i = ap (λ (n : ℕ). n % 2) (zero-div (2 ^ i))

-- a number below 2 ^ w has no bit at or above w
pub bit_above : (w i x : ℕ) → x < 2 ^ w → w ≤ i → bit i x ≡ 0
bit_above w i x h l = ap (λ (n : ℕ). n % 2) (div-eq_of_lt (lt_of_lt_of_le h (pow_mono l)))

-- two numbers below 2 ^ w with the same bits are equal
pub bit_ext : (w x y : ℕ) → x < 2 ^ w → y < 2 ^ w → ((i : ℕ) → i < w → bit i x ≡ bit i y) → x ≡ y
bit_ext zero x y h k e = omega arith
bit_ext (suc w) x y h k e =
    let low : x % 2 ≡ y % 2 = sym (bit_zero x) ∙ e 0 (omega arith) ∙ bit_zero y in
    let high : x / 2 ≡ y / 2 = bit_ext w (x / 2) (y / 2) (omega arith) (omega arith) (λ i l. sym (bit_suc i x) ∙ e (suc i) (omega arith) ∙ bit_suc i y) in
    omega arith

-- ---- or and and

-- a number is below two to itself, so numbers with the same bits are one, whatever their width
below_pow : (n : ℕ) → n < 2 ^ n
below_pow zero = omega arith
below_pow (suc n) = omega (arith, below_pow n, pow-lt {i = n} {j = suc n} (omega arith))

pub bits_ext : (x y : ℕ) → ((i : ℕ) → bit i x ≡ bit i y) → x ≡ y
bits_ext x y same =
    bit_ext (x + y) x y (omega (arith, below_pow x, pow_mono {i = x} {j = x + y} (omega arith)))
    (omega (arith, below_pow y, pow_mono {i = y} {j = x + y} (omega arith))) (λ i h. same i)

pub bit_or_law : (i a b : ℕ) → bit i (bit_or a b) ≡ max (bit i a) (bit i b)
bit_or_law i a b = ap (λ (n : ℕ). n % 2) (or_shr a b i) ∙ low (a / 2 ^ i) (b / 2 ^ i)
  where
    low : (x y : ℕ) → bit_or x y % 2 ≡ max (x % 2) (y % 2)
    low x y = omega (arith, or_step x y)

pub bit_and_law : (i a b : ℕ) → bit i (bit_and a b) ≡ min (bit i a) (bit i b)
bit_and_law i a b = ap (λ (n : ℕ). n % 2) (and_shr a b i) ∙ low (a / 2 ^ i) (b / 2 ^ i)
  where
    low : (x y : ℕ) → bit_and x y % 2 ≡ min (x % 2) (y % 2)
    low x y = omega (arith, and_step x y)

-- the complement of b in w bits
pub bit_not : (w i b : ℕ) → i < w → b < 2 ^ w → bit i (2 ^ w - 1 - b) ≡ 1 - bit i b
bit_not zero i b l h = absurd (omega arith)
bit_not (suc w) zero b l h = bit_zero (2 ^ suc w - 1 - b) ∙ low ∙ ap (λ (n : ℕ). 1 - n) (sym (bit_zero b))
  where
    low : (2 ^ suc w - 1 - b) % 2 ≡ 1 - b % 2
    low = omega arith
bit_not (suc w) (suc i) b l h =
    let half : (2 ^ suc w - 1 - b) / 2 ≡ 2 ^ w - 1 - b / 2 = omega arith in
    bit_suc i (2 ^ suc w - 1 - b) ∙ ap (bit i) half ∙ bit_not w i (b / 2) (omega arith) (omega arith) ∙ ap (λ (n : ℕ). 1 - n) (sym (bit_suc i b))

-- ---- powers

half_pow : (j : ℕ) → 2 ^ suc j / 2 ≡ 2 ^ j
half_pow j = omega arith

pub bit_single_same : (j : ℕ) → bit j (2 ^ j) ≡ 1
bit_single_same zero = refl
bit_single_same (suc j) = bit_suc j (2 ^ suc j) ∙ ap (bit j) (half_pow j) ∙ bit_single_same j

pub bit_single_other : (i j : ℕ) → (i ≡ j → ⊥) → bit i (2 ^ j) ≡ 0
bit_single_other zero zero d = absurd (d refl)
bit_single_other zero (suc j) d = bit_zero (2 ^ suc j) ∙ even
  where
    even : 2 ^ suc j % 2 ≡ 0
    even = omega arith
bit_single_other (suc i) zero d = bit_suc i 1 ∙ bit_of_zero i
bit_single_other (suc i) (suc j) d = bit_suc i (2 ^ suc j) ∙ ap (bit i) (half_pow j) ∙ bit_single_other i j (λ e. d (ap suc e))

-- all numbers below n
pub bit_below : (n i : ℕ) → i < n → bit i (2 ^ n - 1) ≡ 1
bit_below n i l = ap (bit i) less ∙ bit_not n i 0 l (pow_pos n) ∙ ap (λ (b : ℕ). 1 - b) (bit_of_zero i)
  where
    less : 2 ^ n - 1 ≡ 2 ^ n - 1 - 0
    less = omega arith

-- ---- as a test

pub number_hasb : (i x : ℕ) → number (hasb i x) ≡ bit i x
number_hasb i x = go (bit_cases i x)
  where
    go : (bit i x ≡ 0) ⊎ (bit i x ≡ 1) → number (hasb i x) ≡ bit i x
    go (inl e) = ap number (ne_eqb (bit i x) 1 (λ q. omega arith)) ∙ sym e
    go (inr e) = ap number (eq-eqb (bit i x) 1 e) ∙ sym e

pub has_bit : (i x : ℕ) → hasb i x ≡ true → bit i x ≡ 1
has_bit i x e = eqb-true (bit i x) 1 e

pub bit_has : (i x : ℕ) → bit i x ≡ 1 → hasb i x ≡ true
bit_has i x e = eq-eqb (bit i x) 1 e

pub bit_lacks : (i x : ℕ) → bit i x ≡ 0 → hasb i x ≡ false
bit_lacks i x e = ne_eqb (bit i x) 1 (λ q. omega arith)
