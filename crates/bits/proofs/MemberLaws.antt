-- Members of sets as tests: of a collected set, of a union, of a set with a number put in or taken out, and that a set is known by them.
-- Assumes nothing.
use Prim.Native.Nat.{ℕ, ◌%◌, ◌^◌, ◌≤◌, ◌<◌}
use mathlib.Core.Path.{◌≡◌, refl, sym, ◌∙◌, ap, subst⁻¹}
use mathlib.Core.Logic.{◌⊎◌, inl, inr, ⊎_elim}
use mathlib.Core.Bool.{Bool, true, false, not}
use native.Mathlib.Omega.{arith}
use native.Mathlib.Nat.{mod-lt}
use lib.Dec.{T, eqb, eqb→eq, T_not}
use lib.Pow.{pow_pos}
use Rattle.basics.proofs.TestLaws.{true_T, T_true, false_T, same_or_not, below_or_not}
use Rattle.bits.specs.Bit.{bit, number, hasb, collect, insert, remove, union, common, minus, lowest}
use Rattle.bits.proofs.BitLaws.{bit_above, bit_cases, bit_ext, bits_ext, bit_has, bit_lacks, bit_le, bit_of_zero, has_bit, number_hasb}
use Rattle.bits.proofs.CollectLaws.{bit_collect}
use Rattle.bits.proofs.LowestLaws.{lowest_lt, bit_lowest}
use Rattle.bits.proofs.ShiftLaws.{bit_cut, bit_cut_above}
use Rattle.bits.proofs.SetLaws.{bit_union, bit_common, bit_minus, bit_insert_same, bit_insert_other, bit_remove_same, bit_remove_other}

-- a collected set has the numbers that pass
number_is_law : (b : Bool) → eqb (number b) 1 ≡ b
number_is_law true = refl
number_is_law false = refl

pub hasb_collect : (w k : ℕ) (f : ℕ → Bool) → k < w → hasb k (collect w f) ≡ f k
hasb_collect w k f h = ap (λ (n : ℕ). eqb n 1) (bit_collect w k f h) ∙ number_is_law (f k)

-- a set below 2 ^ w has numbers below w alone
pub hasb_below : (w k s : ℕ) → s < 2 ^ w → T (hasb k s) → k < w
hasb_below w k s h t =
    ⊎_elim (λ l. l) (λ l. absurd (omega (arith, bit_above w k s h l, eqb→eq (bit k s) 1 t))) (below_or_not k w)

-- and a set of numbers below w is below 2 ^ w
pub small_set : (w s : ℕ) → ((k : ℕ) → T (hasb k s) → k < w) → s < 2 ^ w
small_set w s f =
    let e : s ≡ s % 2 ^ w =
    bits_ext s (s % 2 ^ w) (λ k. ⊎_elim (λ l. sym (bit_cut w k s l)) (λ l. high k l ∙ sym (bit_cut_above w k s l)) (below_or_not k w)) in
    subst⁻¹ (λ (n : ℕ). n < 2 ^ w) e (mod-lt s (pow_pos w))
  where
    high : (k : ℕ) → w ≤ k → bit k s ≡ 0
    high k l = ⊎_elim (λ z. z) (λ o. absurd (let m = f k (true_T _ (bit_has k s o)) in omega arith)) (bit_cases k s)

-- a set is known by its members
pub hasb_ext : (w s t : ℕ) → s < 2 ^ w → t < 2 ^ w → ((k : ℕ) → k < w → hasb k s ≡ hasb k t) → s ≡ t
hasb_ext w s t h l e = bit_ext w s t h l (λ k m. sym (number_hasb k s) ∙ (ap (λ (b : Bool). number b) (e k m) ∙ number_hasb k t))

-- a member of a union is a member of one of the two, and back
pub union_cases : (x s t : ℕ) → T (hasb x (union s t)) → T (hasb x s) ⊎ T (hasb x t)
union_cases x s t h =
    ⊎_elim (λ e. inr (true_T _ (bit_has x t (omega (arith, e, bit_union x s t, has_bit x (union s t) (T_true _ h))))))
    (λ e. inl (true_T _ (bit_has x s e))) (bit_cases x s)

pub union_left : (x s t : ℕ) → T (hasb x s) → T (hasb x (union s t))
union_left x s t h =
    true_T _ (bit_has x (union s t) (omega (arith, bit_union x s t, has_bit x s (T_true _ h), bit_le x t)))

pub union_right : (x s t : ℕ) → T (hasb x t) → T (hasb x (union s t))
union_right x s t h =
    true_T _ (bit_has x (union s t) (omega (arith, bit_union x s t, has_bit x t (T_true _ h), bit_le x s)))

-- a member of a set with i inserted is i or was one before, and back
pub insert_cases : (x i s : ℕ) → T (hasb x (insert i s)) → (x ≡ i) ⊎ T (hasb x s)
insert_cases x i s h =
    ⊎_elim (λ e. inl e) (λ n. inr (true_T _ (bit_has x s (sym (bit_insert_other i x s n) ∙ has_bit x (insert i s) (T_true _ h)))))
    (same_or_not x i)

pub insert_new : (i s : ℕ) → T (hasb i (insert i s))
insert_new i s = true_T _ (bit_has i (insert i s) (bit_insert_same i s))

pub insert_old : (x i s : ℕ) → T (hasb x s) → T (hasb x (insert i s))
insert_old x i s h =
    ⊎_elim (λ e. subst⁻¹ (λ (y : ℕ). T (hasb y (insert i s))) e (insert_new i s))
    (λ n. true_T _ (bit_has x (insert i s) (bit_insert_other i x s n ∙ has_bit x s (T_true _ h)))) (same_or_not x i)

-- what is taken out is no member, the others stay; the empty set has none, no other set has none, and every other has one
pub has_not : (i s : ℕ) → T (not (hasb i (remove i s)))
has_not i s = false_T _ (bit_lacks i (remove i s) (bit_remove_same i s))

pub has_other : (i j s : ℕ) → (j ≡ i → ⊥) → hasb j (remove i s) ≡ hasb j s
has_other i j s h = ap (λ (x : ℕ). eqb x 1) (bit_remove_other i j s h)

pub none_left : (i : ℕ) → T (not (hasb i 0))
none_left i = false_T _ (bit_lacks i 0 (bit_of_zero i))

pub no_member : (s : ℕ) → ((i : ℕ) → T (hasb i s) → ⊥) → s ≡ 0
no_member s n =
    bits_ext s 0 (λ i. ⊎_elim (λ z. z ∙ sym (bit_of_zero i)) (λ o. absurd (n i (true_T _ (bit_has i s o)))) (bit_cases i s))

pub some_member : (w s : ℕ) → s < 2 ^ w → (s ≡ 0 → ⊥) → (i : ℕ) × (i < w) × T (hasb i s)
some_member w s h n =
    let p : 0 < s = omega arith in (lowest w s, lowest_lt w s h p, true_T _ (bit_has (lowest w s) s (bit_lowest w s h p)))

-- a member of what two sets share is one of both, and of what one lacks of the other is one of the first alone
pub common_both : (a s t : ℕ) → T (hasb a (common s t)) → T (hasb a s) × T (hasb a t)
common_both a s t h =
    let e : bit a (common s t) ≡ 1 = has_bit a (common s t) (T_true _ h) in (
      true_T _ (bit_has a s (omega (arith, e, bit_common a s t, bit_le a s, bit_le a t))),
      true_T _ (bit_has a t (omega (arith, e, bit_common a s t, bit_le a s, bit_le a t))),
    )

pub both_common : (a s t : ℕ) → T (hasb a s) → T (hasb a t) → T (hasb a (common s t))
both_common a s t h l =
    true_T _ (bit_has a (common s t) (omega (arith, has_bit a s (T_true _ h), has_bit a t (T_true _ l), bit_common a s t)))

pub minus_both : (a s t : ℕ) → T (hasb a (minus s t)) → T (hasb a s) × T (not (hasb a t))
minus_both a s t h =
    let e : bit a (minus s t) ≡ 1 = has_bit a (minus s t) (T_true _ h) in (
      true_T _ (bit_has a s (omega (arith, e, bit_minus a s t, bit_le a s))),
      false_T _ (bit_lacks a t (omega (arith, e, bit_minus a s t, bit_le a s))),
    )

pub both_minus : (a s t : ℕ) → T (hasb a s) → T (not (hasb a t)) → T (hasb a (minus s t))
both_minus a s t h l =
    true_T _ (bit_has a (minus s t) (omega (arith, has_bit a s (T_true _ h), lacks a t l, bit_minus a s t)))
  where
    lacks : (a t : ℕ) → T (not (hasb a t)) → bit a t ≡ 0
    lacks a t n = ⊎_elim (λ e. e) (λ e. absurd (T_not (hasb a t) n (true_T _ (bit_has a t e)))) (bit_cases a t)
