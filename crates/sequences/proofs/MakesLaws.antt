-- What an action makes available, and what a visit or a leave takes along and hands over: the tests of the plan's words as facts, both ways.
-- Assumes nothing.
use Prim.Native.Nat.{ℕ, suc, ◌<◌}
use mathlib.Core.Path.{◌≡◌, subst⁻¹}
use mathlib.Core.Bool.{not}
use mathlib.Core.List.{List}
use lib.Dec.{T, eqb→eq, eqb_refl}
use Rattle.basics.proofs.TestLaws.{and_intro, and_left, and_right, eq_T}
use Rattle.grammar.specs.Limits.{most_occurrences}
use Rattle.grammar.specs.Table.{symbol_of, nonterminal, occurrence, inherited_at, defining, position}
use Rattle.sequences.specs.Actions.{Action, compute, visit, leave, none, decode, visit_at, inherited_of, synthesized_of, makes}
use Rattle.sequences.proofs.ActionNumbers.{decode_compute}

-- occurrence o is an attribute at position i, of visit n
pub record OfVisit (g s : List ℕ) (r i n o : ℕ) : Type 0 where
  pub occurs : T (occurrence g r o)
  pub stands : position o ≡ i
  pub visit_is : visit_at g s r o ≡ n

module _ (g s : List ℕ) (r i n o : ℕ) where
  -- o is an inherited attribute at position i, of visit n
  pub inherited_of_law : T (inherited_of g s r i n o) → OfVisit g s r i n o × T (inherited_at g r o)
  unfolding inherited_of
  inherited_of_law t =
      let u = and_right _ _ t in
      let v = and_right _ _ u in (
        record { occurs = and_left _ _ t; stands = eqb→eq _ _ (and_left _ _ u); visit_is = eqb→eq _ _ (and_right _ _ v) },
        and_left _ _ v,
      )

  -- and back
  pub of_inherited : OfVisit g s r i n o → T (inherited_at g r o) → T (inherited_of g s r i n o)
  unfolding inherited_of
  of_inherited w t =
      and_intro _ _ w.occurs (and_intro _ _ (eq_T _ _ w.stands) (and_intro _ _ t (eq_T _ _ w.visit_is)))

  -- o is a synthesized attribute at position i, of visit n
  pub synthesized_of_law : T (synthesized_of g s r i n o) → OfVisit g s r i n o × T (not (inherited_at g r o))
  unfolding synthesized_of
  synthesized_of_law t =
      let u = and_right _ _ t in
      let v = and_right _ _ u in (
        record { occurs = and_left _ _ t; stands = eqb→eq _ _ (and_left _ _ u); visit_is = eqb→eq _ _ (and_right _ _ v) },
        and_left _ _ v,
      )

  -- and back
  pub of_synthesized : OfVisit g s r i n o → T (not (inherited_at g r o)) → T (synthesized_of g s r i n o)
  unfolding synthesized_of
  of_synthesized w t =
      and_intro _ _ w.occurs (and_intro _ _ (eq_T _ _ w.stands) (and_intro _ _ t (eq_T _ _ w.visit_is)))

module _ (g s : List ℕ) (r : ℕ) where
  -- a compute makes its own occurrence available
  pub makes_compute : (p o : ℕ) → T (makes g s r (compute p) o) → T (defining g r o) × (p ≡ o)
  unfolding makes
  makes_compute p o t = (and_left _ _ t, eqb→eq _ _ (and_right _ _ t))

  -- and every defining occurrence has its compute
  pub compute_makes : (o : ℕ) → T (defining g r o) → T (makes g s r (compute o) o)
  unfolding makes
  compute_makes o t = and_intro _ _ t (eqb_refl o)

  -- the compute is the action of its occurrence's number
  pub compute_made : (o : ℕ) → o < most_occurrences → T (defining g r o) → T (makes g s r (decode o) o)
  compute_made o h t = subst⁻¹ (λ (x : Action). T (makes g s r x o)) (decode_compute o h) (compute_makes o t)

  -- a visit makes the child's synthesized attributes of that visit available
  pub makes_visit : (i n o : ℕ) → T (makes g s r (visit i n) o) → T (nonterminal g (symbol_of g r i)) × T (synthesized_of g s r i n o)
  unfolding makes
  makes_visit i n o t = (and_left _ _ t, and_right _ _ t)

  -- all of them
  pub visit_makes : (i n o : ℕ) → T (nonterminal g (symbol_of g r i)) → T (synthesized_of g s r i n o) → T (makes g s r (visit i n) o)
  unfolding makes
  visit_makes i n o t u = and_intro _ _ t u

  -- leave n makes the left side's inherited attributes of visit n + 1 available
  pub makes_leave : (n o : ℕ) → T (makes g s r (leave n) o) → T (inherited_of g s r 0 (suc n) o)
  unfolding makes
  makes_leave n o t = t

  -- all of them
  pub leave_makes : (n o : ℕ) → T (inherited_of g s r 0 (suc n) o) → T (makes g s r (leave n) o)
  unfolding makes
  leave_makes n o t = t

  -- none makes nothing available
  pub makes_none : (o : ℕ) → T (makes g s r none o) → ⊥
  unfolding makes
  makes_none o t = t
