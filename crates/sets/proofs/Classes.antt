-- The class of a set by odd and even: an inherited attribute is of the class of the even sets, a synthesized one of the odd.
-- So of two sets next to each other each attribute is of the class of one. Assumes nothing.
use Prim.Native.Nat.{ℕ, suc, ◌%◌}
use mathlib.Core.Path.{◌≡◌}
use mathlib.Core.Logic.{◌⊎◌, inl, inr, ⊎_elim}
use mathlib.Core.Bool.{Bool, true, false, cond, not}
use mathlib.Core.List.{List}
use native.Mathlib.Omega.{arith}
use lib.Dec.{T, eqb, eqb→eq}
use Rattle.basics.proofs.TestLaws.{tested, same_or_not, eq_T}
use Rattle.grammar.specs.Table.{inherited}
use Rattle.sets.specs.Paper.{of_class}

module _ (g : List ℕ) (x k a : ℕ) where
  -- a set that has an inherited attribute is even
  pub inherited_even : T (of_class g x k a) → T (inherited g x a) → k % 2 ≡ 0
  unfolding of_class
  inherited_even = go (inherited g x a)
    where
      go : (i : Bool) → T (eqb (k % 2) (cond i 0 1)) → T i → k % 2 ≡ 0
      go true t p = eqb→eq (k % 2) 0 t
      go false t p = absurd p

  -- a set that has a synthesized attribute is odd
  pub synthesized_odd : T (of_class g x k a) → T (not (inherited g x a)) → k % 2 ≡ 1
  unfolding of_class
  synthesized_odd = go (inherited g x a)
    where
      go : (i : Bool) → T (eqb (k % 2) (cond i 0 1)) → T (not i) → k % 2 ≡ 1
      go true t p = absurd p
      go false t p = eqb→eq (k % 2) 1 t

  -- an inherited attribute is of the class of an even set
  pub even_inherited : T (inherited g x a) → k % 2 ≡ 0 → T (of_class g x k a)
  unfolding of_class
  even_inherited = go (inherited g x a)
    where
      go : (i : Bool) → T i → k % 2 ≡ 0 → T (eqb (k % 2) (cond i 0 1))
      go true p e = eq_T (k % 2) 0 e
      go false p e = absurd p

  -- a synthesized attribute is of the class of an odd set
  pub odd_synthesized : T (not (inherited g x a)) → k % 2 ≡ 1 → T (of_class g x k a)
  unfolding of_class
  odd_synthesized = go (inherited g x a)
    where
      go : (i : Bool) → T (not i) → k % 2 ≡ 1 → T (eqb (k % 2) (cond i 0 1))
      go true p e = absurd p
      go false p e = eq_T (k % 2) 1 e

-- an attribute is of the class of set k or of set k + 1
pub class_or_next : (g : List ℕ) (x k a : ℕ) → T (of_class g x k a) ⊎ T (of_class g x (suc k) a)
class_or_next g x k a =
    ⊎_elim
    (λ p.
    ⊎_elim (λ e. inl (even_inherited g x k a p e)) (λ d. inr (even_inherited g x (suc k) a p (omega arith)))
    (same_or_not (k % 2) 0))
    (λ p.
    ⊎_elim (λ e. inl (odd_synthesized g x k a p e)) (λ d. inr (odd_synthesized g x (suc k) a p (omega arith)))
    (same_or_not (k % 2) 1)) (tested (inherited g x a))
