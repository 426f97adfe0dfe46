-- The actions that are left, by the three sets: one range of numbers each, and one action less with a member taken out.
-- Assumes nothing.
use Prim.Native.Nat.{ℕ, ◌+◌, ◌-◌, ◌<◌}
use mathlib.Core.Path.{◌≡◌, sym, ◌∙◌, ap, subst, subst⁻¹}
use mathlib.Core.Logic.{⊎_elim}
use mathlib.Core.Bool.{Bool}
use native.Mathlib.Omega.{arith}
use lib.Dec.{T, ltb, lt→ltb, T_not}
use borrow.Author.Tests.{le-ltb}
use Rattle.bits.specs.Bit.{hasb, remove}
use Rattle.bits.proofs.MemberLaws.{has_not, has_other}
use Rattle.basics.proofs.TestLaws.{chosen, passed_over, false_T, below_or_not}
use Rattle.remaining.specs.Remaining.{remains}

-- a is no longer left, and nothing else changed
pub record Less (before left : ℕ → Bool) (a : ℕ) : Type 0 where
  pub gone : T (left a) → ⊥
  pub others : (k : ℕ) → (k ≡ a → ⊥) → left k ≡ before k

module _ (c v l : ℕ) where
  pub remains_compute : (o : ℕ) → o < 64 → remains c v l o ≡ hasb o c
  unfolding remains
  remains_compute o h = chosen (ltb o 64) _ _ (lt→ltb o 64 h)

  pub remains_visit : (b : ℕ) → b < 64 → remains c v l (64 + b) ≡ hasb b v
  unfolding remains
  remains_visit b h =
      let e : 64 + b - 64 ≡ b = omega arith in
      passed_over (ltb (64 + b) 64) _ _ (false_T _ (le-ltb (64 + b) 64 (omega arith)))
      ∙ (chosen (ltb (64 + b) 128) _ _ (lt→ltb (64 + b) 128 (omega arith)) ∙ ap (λ (k : ℕ). hasb k v) e)

  pub remains_leave : (b : ℕ) → remains c v l (128 + b) ≡ hasb b l
  unfolding remains
  remains_leave b =
      let e : 128 + b - 128 ≡ b = omega arith in
      passed_over (ltb (128 + b) 64) _ _ (false_T _ (le-ltb (128 + b) 64 (omega arith)))
      ∙ (passed_over (ltb (128 + b) 128) _ _ (false_T _ (le-ltb (128 + b) 128 (omega arith))) ∙ ap (λ (k : ℕ). hasb k l) e)

-- a number is that of a compute, a visit or a leave
pub data Kind (a : ℕ) : Type 0 where
  a_compute : a < 64 → Kind a
  a_visit : (b : ℕ) → b < 64 → a ≡ 64 + b → Kind a
  a_leave : (b : ℕ) → a ≡ 128 + b → Kind a

pub kind_of : (a : ℕ) → Kind a
kind_of a =
    ⊎_elim (λ h. a_compute h)
    (λ h. ⊎_elim (λ k. a_visit (a - 64) (omega arith) (omega arith)) (λ k. a_leave (a - 128) (omega arith)) (below_or_not a 128))
    (below_or_not a 64)

module _ (c v l : ℕ) where
  -- three sets that differ in one member
  pub less_compute : (o : ℕ) → o < 64 → Less (remains c v l) (remains (remove o c) v l) o
  less_compute o h =
      record {
        gone = λ t. T_not (hasb o (remove o c)) (has_not o c) (subst (λ (b : Bool). T b) (remains_compute (remove o c) v l o h) t);
        others = λ k n. go k n (kind_of k);
      }
    where
      go : (k : ℕ) → (k ≡ o → ⊥) → Kind k → remains (remove o c) v l k ≡ remains c v l k
      go k n (a_compute i) = remains_compute (remove o c) v l k i ∙ (has_other o k c n ∙ sym (remains_compute c v l k i))
      go k n (a_visit b i e) =
          subst⁻¹ (λ (k : ℕ). remains (remove o c) v l k ≡ remains c v l k) e
          (remains_visit (remove o c) v l b i ∙ sym (remains_visit c v l b i))
      go k n (a_leave b e) =
          subst⁻¹ (λ (k : ℕ). remains (remove o c) v l k ≡ remains c v l k) e
          (remains_leave (remove o c) v l b ∙ sym (remains_leave c v l b))

  pub less_visit : (o : ℕ) → o < 64 → Less (remains c v l) (remains c (remove o v) l) (64 + o)
  less_visit o h =
      record {
        gone = λ t. T_not (hasb o (remove o v)) (has_not o v) (subst (λ (b : Bool). T b) (remains_visit c (remove o v) l o h) t);
        others = λ k n. go k n (kind_of k);
      }
    where
      go : (k : ℕ) → (k ≡ 64 + o → ⊥) → Kind k → remains c (remove o v) l k ≡ remains c v l k
      go k n (a_compute i) = remains_compute c (remove o v) l k i ∙ sym (remains_compute c v l k i)
      go k n (a_visit b i e) =
          subst⁻¹ (λ (k : ℕ). remains c (remove o v) l k ≡ remains c v l k) e
          (remains_visit c (remove o v) l b i ∙ (has_other o b v (λ q. n (omega arith)) ∙ sym (remains_visit c v l b i)))
      go k n (a_leave b e) =
          subst⁻¹ (λ (k : ℕ). remains c (remove o v) l k ≡ remains c v l k) e
          (remains_leave c (remove o v) l b ∙ sym (remains_leave c v l b))

  pub less_leave : (o : ℕ) → Less (remains c v l) (remains c v (remove o l)) (128 + o)
  less_leave o =
      record {
        gone = λ t. T_not (hasb o (remove o l)) (has_not o l) (subst (λ (b : Bool). T b) (remains_leave c v (remove o l) o) t);
        others = λ k n. go k n (kind_of k);
      }
    where
      go : (k : ℕ) → (k ≡ 128 + o → ⊥) → Kind k → remains c v (remove o l) k ≡ remains c v l k
      go k n (a_compute i) = remains_compute c v (remove o l) k i ∙ sym (remains_compute c v l k i)
      go k n (a_visit b i e) =
          subst⁻¹ (λ (k : ℕ). remains c v (remove o l) k ≡ remains c v l k) e
          (remains_visit c v (remove o l) b i ∙ sym (remains_visit c v l b i))
      go k n (a_leave b e) =
          subst⁻¹ (λ (k : ℕ). remains c v (remove o l) k ≡ remains c v l k) e
          (remains_leave c v (remove o l) b ∙ (has_other o b l (λ q. n (omega arith)) ∙ sym (remains_leave c v l b)))
