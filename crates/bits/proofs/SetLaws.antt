-- The members of a set after each operation: bit by bit, and that the set stays below 2 ^ w.
-- The set of i alone meets s in bit i of s, so to insert and to remove are or and and-not with that set. Assumes nothing.
use Prim.Native.Nat.{ℕ, zero, suc, ◌+◌, ◌-◌, ◌*◌, ◌/◌, ◌%◌, ◌^◌, ◌<◌, min, max}
use native.Mathlib.Nat.{lt_of_le_of_lt, sub-le, mul-one, one-mul, zero-mul, pow-suc, mul_assoc}
use native.Mathlib.Omega.{arith}
use mathlib.Core.Path.{◌≡◌, sym, ap, ap₂, ◌∙◌, subst}
use mathlib.Core.Bool.{Bool, true, cond}
use mathlib.Core.Logic.{◌⊎◌, inl, inr}
use lib.Bits.{bit_and, bit_or, and_step, and_mask, or_add_and, or_lt, and_le_l}
use lib.Pow.{pow_pos, pow-lt}
use Rattle.bits.specs.Bit.{bit, insert, remove, union, common, minus}
use Rattle.bits.proofs.BitLaws.{bit_zero, bit_suc, bit_le, bit_cases, bit_or_law, bit_and_law, bit_not, bit_ext, bit_single_same, bit_single_other}

-- ---- union, common, minus

pub bit_union : (i a b : ℕ) → bit i (union a b) ≡ max (bit i a) (bit i b)
unfolding union
bit_union i a b = bit_or_law i a b

pub bit_common : (i a b : ℕ) → bit i (common a b) ≡ min (bit i a) (bit i b)
unfolding common
bit_common i a b = bit_and_law i a b

-- the lowest digit, and the rest
minus_step : (a b : ℕ) → minus a b ≡ minus (a / 2) (b / 2) * 2 + (a % 2 - b % 2)
unfolding minus
minus_step a b = omega (arith, and_step a b, and_le_l (a / 2) (b / 2))

pub bit_minus : (i a b : ℕ) → bit i (minus a b) ≡ bit i a - bit i b
bit_minus zero a b = bit_zero (minus a b) ∙ low ∙ sym (ap₂ (λ (x y : ℕ). x - y) (bit_zero a) (bit_zero b))
  where
    low : minus a b % 2 ≡ a % 2 - b % 2
    low = omega (arith, minus_step a b)
bit_minus (suc i) a b =
    let half : minus a b / 2 ≡ minus (a / 2) (b / 2) = omega (arith, minus_step a b) in
    bit_suc i (minus a b) ∙ ap (bit i) half ∙ bit_minus i (a / 2) (b / 2) ∙ sym (ap₂ (λ (x y : ℕ). x - y) (bit_suc i a) (bit_suc i b))

pub union_lt : (w a b : ℕ) → a < 2 ^ w → b < 2 ^ w → union a b < 2 ^ w
unfolding union
union_lt = or_lt

pub common_lt : (w a b : ℕ) → a < 2 ^ w → common a b < 2 ^ w
unfolding common
common_lt w a b h = lt_of_le_of_lt (and_le_l a b) h

pub minus_lt : (w a b : ℕ) → a < 2 ^ w → minus a b < 2 ^ w
unfolding minus
minus_lt w a b h = lt_of_le_of_lt (sub-le a (bit_and a b)) h

-- `a & !b`, in w bits
pub and_not : (w a b : ℕ) → a < 2 ^ w → b < 2 ^ w → bit_and a (2 ^ w - 1 - b) ≡ minus a b
and_not w a b h k =
    bit_ext w (bit_and a (2 ^ w - 1 - b)) (minus a b) (lt_of_le_of_lt (and_le_l a (2 ^ w - 1 - b)) h) (minus_lt w a b h)
    (λ i l. omega (arith, bit_and_law i a (2 ^ w - 1 - b), bit_not w i b l k, bit_minus i a b, bit_le i a, bit_le i b))

-- ---- the set of i alone

pub and_single : (i s : ℕ) → bit_and s (2 ^ i) ≡ bit i s * 2 ^ i
and_single zero s = and_mask s 1 ∙ sym (bit_zero s) ∙ sym (mul-one (bit 0 s))
and_single (suc i) s =
    let half : 2 ^ suc i / 2 ≡ 2 ^ i = omega arith in
    let even : 2 ^ suc i % 2 ≡ 0 = omega arith in
    let rest : bit_and (s / 2) (2 ^ suc i / 2) ≡ bit i (s / 2) * 2 ^ i = ap (bit_and (s / 2)) half ∙ and_single i (s / 2) in
    let double : bit (suc i) s * 2 ^ suc i ≡ bit i (s / 2) * 2 ^ i * 2 =
    ap (λ (b : ℕ). b * 2 ^ suc i) (bit_suc i s) ∙ ap (λ (p : ℕ). bit i (s / 2) * p) (pow-suc 2 i) ∙ sym (mul_assoc (bit i (s / 2)) (2 ^ i) 2) in
    omega (arith, and_step s (2 ^ suc i), rest, even, double)

-- `s | 1 << i`
pub or_single : (i s : ℕ) → bit_or s (2 ^ i) ≡ insert i s
unfolding insert
or_single i s = go (bit_cases i s)
  where
    go : (bit i s ≡ 0) ⊎ (bit i s ≡ 1) → bit_or s (2 ^ i) ≡ s + (1 - bit i s) * 2 ^ i
    go (inl e) =
        omega (arith, or_add_and s (2 ^ i), and_single i s, ap (λ (b : ℕ). b * 2 ^ i) e ∙ zero-mul (2 ^ i), ap (λ (b : ℕ). (1 - b) * 2 ^ i) e ∙ one-mul (2 ^ i))
    go (inr e) =
        omega (arith, or_add_and s (2 ^ i), and_single i s, ap (λ (b : ℕ). b * 2 ^ i) e ∙ one-mul (2 ^ i), ap (λ (b : ℕ). (1 - b) * 2 ^ i) e ∙ zero-mul (2 ^ i))

pub minus_single : (i s : ℕ) → minus s (2 ^ i) ≡ remove i s
unfolding minus remove
minus_single i s = ap (λ (n : ℕ). s - n) (and_single i s)

-- ---- insert, remove

pub bit_insert_same : (i s : ℕ) → bit i (insert i s) ≡ 1
bit_insert_same i s = omega (arith, ap (bit i) (or_single i s), bit_or_law i s (2 ^ i), bit_single_same i, bit_le i s)

pub bit_insert_other : (i j s : ℕ) → (j ≡ i → ⊥) → bit j (insert i s) ≡ bit j s
bit_insert_other i j s d = omega (arith, ap (bit j) (or_single i s), bit_or_law j s (2 ^ i), bit_single_other j i d)

pub bit_remove_same : (i s : ℕ) → bit i (remove i s) ≡ 0
bit_remove_same i s = omega (arith, ap (bit i) (minus_single i s), bit_minus i s (2 ^ i), bit_single_same i, bit_le i s)

pub bit_remove_other : (i j s : ℕ) → (j ≡ i → ⊥) → bit j (remove i s) ≡ bit j s
bit_remove_other i j s d = omega (arith, ap (bit j) (minus_single i s), bit_minus j s (2 ^ i), bit_single_other j i d)

pub insert_lt : (w i s : ℕ) → i < w → s < 2 ^ w → insert i s < 2 ^ w
insert_lt w i s l h = subst (λ (n : ℕ). n < 2 ^ w) (or_single i s) (or_lt w s (2 ^ i) h (pow-lt l))

pub remove_lt : (w i s : ℕ) → s < 2 ^ w → remove i s < 2 ^ w
unfolding remove
remove_lt w i s h = lt_of_le_of_lt (sub-le s (bit i s * 2 ^ i)) h

-- to remove a member makes the set less
pub remove_less : (i s : ℕ) → bit i s ≡ 1 → remove i s < s
unfolding remove
remove_less i s e = omega (arith, and_single i s, and_le_l s (2 ^ i), ap (λ (b : ℕ). b * 2 ^ i) e ∙ one-mul (2 ^ i), pow_pos i)

-- a member that is put in where a test holds
pub put_yes : (set i r : ℕ) (t : Bool) → t ≡ true → r ≡ insert i set → r ≡ cond t (insert i set) set
put_yes set i r t e h = h ∙ sym (ap (λ (b : Bool). cond b (insert i set) set) e)
