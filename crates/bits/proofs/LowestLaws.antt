-- The lowest member: what says that l is it, that there is one such l, and that the walk up and the count of trailing zeros both find it;
-- and the end of a set, by the count of leading zeros. Assumes nothing.
use Prim.Native.Nat.{ℕ, zero, suc, ◌+◌, ◌-◌, ◌/◌, ◌%◌, ◌^◌, ◌≤◌, ◌<◌}
use native.Mathlib.Nat.{eq-or-lt_of_le, le_of_suc-le-suc}
use native.Mathlib.Omega.{arith}
use mathlib.Core.Path.{◌≡◌, refl, sym, ap, ◌∙◌, subst, subst⁻¹}
use mathlib.Core.Logic.{◌⊎◌, inl, inr}
use lib.Count.{count_trailing_zeros, count_leading_zeros, leading_le, leading_length, under}
use lib.Pow.{pow_pos}
use Rattle.bits.specs.Bit.{bit, lowest, First}
use Rattle.bits.specs.End.{End}
use Rattle.bits.proofs.BitLaws.{bit_zero, bit_suc, bit_cases, bit_of_zero, bit_ext}

-- l is the lowest member of s below w, or w where there is none
pub record IsLowest (w s l : ℕ) : Type 0 where
  pub within : l ≤ w
  pub member : l < w → bit l s ≡ 1
  pub free : (i : ℕ) → i < l → bit i s ≡ 0

not_before : (w s l m : ℕ) → IsLowest w s l → IsLowest w s m → ¬ (l < m)
not_before w s l m p q h = omega (arith, p.member (omega arith), q.free l h)

pub lowest_unique : (w s l m : ℕ) → IsLowest w s l → IsLowest w s m → l ≡ m
lowest_unique w s l m p q = omega (arith, not_before w s l m p q, not_before w s m l q p)

-- one step up
walk : (w s l : ℕ) → IsLowest w s l → (bit l s ≡ 0) ⊎ (bit l s ≡ 1) → IsLowest (suc w) s (l + (1 - bit l s))
walk w s l p (inl e) = subst (IsLowest (suc w) s) up (record { within = omega arith; member = λ h. omega (arith, p.member (omega arith)); free = go })
  where
    up : suc l ≡ l + (1 - bit l s)
    up = omega arith

    go : (i : ℕ) → i < suc l → bit i s ≡ 0
    go i h = pick (eq-or-lt_of_le (le_of_suc-le-suc h))
      where
        pick : (i ≡ l) ⊎ (i < l) → bit i s ≡ 0
        pick (inl q) = ap (λ (k : ℕ). bit k s) q ∙ e
        pick (inr k) = p.free i k
walk w s l p (inr e) = subst (IsLowest (suc w) s) stay (record { within = omega arith; member = λ h. e; free = p.free })
  where
    stay : l ≡ l + (1 - bit l s)
    stay = omega arith

pub lowest_is : (w s : ℕ) → IsLowest w s (lowest w s)
unfolding lowest
lowest_is zero s = record { within = omega arith; member = λ h. absurd (omega arith); free = λ i h. absurd (omega arith) }
lowest_is (suc w) s = walk w s (lowest w s) (lowest_is w s) (bit_cases (lowest w s) s)

-- below the lowest digit d of s, with t trailing zeros in the rest
halve : (w s d t : ℕ) → s % 2 ≡ d → IsLowest w (s / 2) t → IsLowest (suc w) s (under d t)
halve w s zero t e p = record { within = omega arith; member = λ h. bit_suc t s ∙ p.member (omega arith); free = go }
  where
    go : (i : ℕ) → i < suc t → bit i s ≡ 0
    go zero h = bit_zero s ∙ e
    go (suc i) h = bit_suc i s ∙ p.free i (omega arith)
halve w s (suc d) t e p = record { within = omega arith; member = λ h. omega (arith, bit_zero s); free = λ i h. absurd (omega arith) }

pub trailing_is : (w s : ℕ) → IsLowest w s (count_trailing_zeros w s)
unfolding count_trailing_zeros
trailing_is zero s = record { within = omega arith; member = λ h. absurd (omega arith); free = λ i h. absurd (omega arith) }
trailing_is (suc w) s = halve w s (s % 2) (count_trailing_zeros w (s / 2)) refl (trailing_is w (s / 2))

pub trailing_lowest : (w s : ℕ) → count_trailing_zeros w s ≡ lowest w s
trailing_lowest w s = lowest_unique w s (count_trailing_zeros w s) (lowest w s) (trailing_is w s) (lowest_is w s)

-- only the empty set has no lowest member
pub lowest_lt : (w s : ℕ) → s < 2 ^ w → 0 < s → lowest w s < w
lowest_lt w s h k = go (eq-or-lt_of_le (lowest_is w s).within)
  where
    go : (lowest w s ≡ w) ⊎ (lowest w s < w) → lowest w s < w
    go (inl e) =
        let none : s ≡ 0 = bit_ext w s 0 h (pow_pos w) (λ i l. (lowest_is w s).free i (omega arith) ∙ sym (bit_of_zero i)) in
        absurd (omega arith)
    go (inr l) = l

pub bit_lowest : (w s : ℕ) → s < 2 ^ w → 0 < s → bit (lowest w s) s ≡ 1
bit_lowest w s h k = (lowest_is w s).member (lowest_lt w s h k)

pub bit_under_lowest : (w i s : ℕ) → i < lowest w s → bit i s ≡ 0
bit_under_lowest w i s l = (lowest_is w s).free i l

-- what answers the lowest member of a set that is not empty
pub first_of : (s l : ℕ) → l ≡ lowest 64 s → s < 2 ^ 64 → 0 < s → First s l
first_of s l e h p =
    record {
      is = e;
      small = subst⁻¹ (λ (x : ℕ). x < 64) e (lowest_lt 64 s h p);
      member = subst⁻¹ (λ (x : ℕ). bit x s ≡ 1) e (bit_lowest 64 s h p);
    }

-- what answers the end of a set
pub zeros_fit : (s zeros : ℕ) → zeros ≡ count_leading_zeros 64 s → zeros ≤ 64
zeros_fit s zeros e = omega (arith, e, leading_le 64 s)

pub end_of : (s zeros : ℕ) → zeros ≡ count_leading_zeros 64 s → s < 2 ^ 64 → End s (64 - zeros)
end_of s zeros e h =
    let l = leading_length 64 s h in
    let q : 64 - zeros ≡ l.0 = omega (arith, e, l.1) in
    subst⁻¹ (λ (n : ℕ). End s n) q (record { small = omega (arith, l.1); above = l.2; least = l.3 })
