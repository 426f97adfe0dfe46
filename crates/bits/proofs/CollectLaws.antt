-- The set that a test collects: it is below 2 ^ w, its bits are the test's answers, and it depends on those alone.
-- Assumes nothing.
use Prim.Native.Nat.{ℕ, zero, suc, ◌+◌, ◌*◌, ◌^◌, ◌≤◌, ◌<◌, max}
use native.Mathlib.Nat.{add_comm, one-mul, zero-mul, eq-or-lt_of_le, le_of_suc-le-suc}
use native.Mathlib.Omega.{arith}
use mathlib.Core.Path.{◌≡◌, sym, ap, ◌∙◌, subst}
use mathlib.Core.Bool.{Bool, true, false}
use mathlib.Core.Logic.{◌⊎◌, inl, inr}
use lib.Bits.{or_shifted}
use Rattle.bits.specs.Bit.{bit, number, collect}
use Rattle.bits.proofs.BitLaws.{bit_or_law, bit_above, bit_ext, bit_of_zero, bit_single_same, bit_single_other}

-- one bit more on top
number_mul : (c : Bool) (p : ℕ) → number c * p ≤ p
number_mul true p = omega arith
number_mul false p = omega arith

pub collect_lt : (w : ℕ) (f : ℕ → Bool) → collect w f < 2 ^ w
unfolding collect
collect_lt zero f = omega arith
collect_lt (suc w) f = omega (arith, collect_lt w f, number_mul (f w) (2 ^ w))

top : (w i x : ℕ) (c : Bool) → x < 2 ^ w → bit i (x + number c * 2 ^ w) ≡ max (bit i (number c * 2 ^ w)) (bit i x)
top w i x c h = ap (bit i) (add_comm x (number c * 2 ^ w) ∙ sym (or_shifted (number c) w x h)) ∙ bit_or_law i (number c * 2 ^ w) x

top_same : (w : ℕ) (c : Bool) → bit w (number c * 2 ^ w) ≡ number c
top_same w true = ap (bit w) (one-mul (2 ^ w)) ∙ bit_single_same w
top_same w false = ap (bit w) (zero-mul (2 ^ w)) ∙ bit_of_zero w

top_other : (w i : ℕ) (c : Bool) → (i ≡ w → ⊥) → bit i (number c * 2 ^ w) ≡ 0
top_other w i true d = ap (bit i) (one-mul (2 ^ w)) ∙ bit_single_other i w d
top_other w i false d = ap (bit i) (zero-mul (2 ^ w)) ∙ bit_of_zero i

pub bit_collect : (w i : ℕ) (f : ℕ → Bool) → i < w → bit i (collect w f) ≡ number (f i)
unfolding collect
bit_collect zero i f l = absurd (omega arith)
bit_collect (suc w) i f l = go (eq-or-lt_of_le (le_of_suc-le-suc l)) (bit_collect w i f)
  where
    go : (i ≡ w) ⊎ (i < w) → (i < w → bit i (collect w f) ≡ number (f i)) → bit i (collect w f + number (f w) * 2 ^ w) ≡ number (f i)
    go (inl e) rest =
        subst (λ (k : ℕ). bit k (collect w f + number (f w) * 2 ^ w) ≡ number (f k)) (sym e)
        (omega (arith, top w w (collect w f) (f w) (collect_lt w f), top_same w (f w), bit_above w w (collect w f) (collect_lt w f) (omega arith)))
    go (inr k) rest = omega (arith, top w i (collect w f) (f w) (collect_lt w f), top_other w i (f w) (λ q. omega arith), rest k)

pub bit_collect_above : (w i : ℕ) (f : ℕ → Bool) → w ≤ i → bit i (collect w f) ≡ 0
bit_collect_above w i f l = bit_above w i (collect w f) (collect_lt w f) l

-- the one set below 2 ^ w with these members
pub collect_unique : (w s : ℕ) (f : ℕ → Bool) → s < 2 ^ w → ((i : ℕ) → i < w → bit i s ≡ number (f i)) → s ≡ collect w f
collect_unique w s f h e = bit_ext w s (collect w f) h (collect_lt w f) (λ i l. e i l ∙ sym (bit_collect w i f l))
