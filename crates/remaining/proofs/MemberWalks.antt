-- A set walked through from its lowest member up: what is left of it without that member is smaller, and lacks nothing else. Assumes nothing.
use Prim.Native.Nat.{ℕ, ◌<◌}
use mathlib.Core.Path.{◌≡◌, subst, subst⁻¹}
use mathlib.Core.Logic.{◌⊎◌, inl, inr, ⊎_elim}
use mathlib.Core.Bool.{Bool, not}
use native.Mathlib.Omega.{arith}
use lib.Dec.{T, T_not}
use Rattle.basics.proofs.TestLaws.{same_or_not, true_T, false_T}
use Rattle.bits.specs.Bit.{hasb, remove, First}
use Rattle.bits.proofs.BitLaws.{bit_has, bit_lacks}
use Rattle.bits.proofs.LowestLaws.{bit_under_lowest}
use Rattle.bits.proofs.SetLaws.{remove_less}
use Rattle.bits.proofs.MemberLaws.{has_not, has_other}

module _ (left a : ℕ) where
  pub was_left : (b : ℕ) → T (hasb b (remove a left)) → T (hasb b left)
  was_left b t =
      ⊎_elim (λ e. absurd (T_not (hasb a (remove a left)) (has_not a left) (subst (λ (x : ℕ). T (hasb x (remove a left))) e t)))
      (λ n. subst (λ (x : Bool). T x) (has_other a b left n) t) (same_or_not b a)

  pub gone : (b : ℕ) → T (not (hasb b (remove a left))) → (b ≡ a) ⊎ T (not (hasb b left))
  gone b t =
      ⊎_elim (λ e. inl e) (λ n. inr (subst (λ (x : Bool). T (not x)) (has_other a b left n) t)) (same_or_not b a)

pub left_less : (left a next : ℕ) → First left a → next ≡ remove a left → next < left
left_less left a next f e = subst⁻¹ (λ (x : ℕ). x < left) e (remove_less a left f.member)

-- the lowest member is one, and none is lower
pub first_member : (s l : ℕ) → First s l → T (hasb l s)
first_member s l f = true_T _ (bit_has l s f.member)

pub under_first : (s l k : ℕ) → First s l → k < l → T (hasb k s) → ⊥
under_first s l k f h t = T_not (hasb k s) (false_T _ (bit_lacks k s (bit_under_lowest 64 k s (omega (arith, f.is))))) t
