-- Every occurrence of a nonterminal is there from the start or made available by some action, and that action stands before the compute to which
-- an EDP arc leads: so the arguments of a compute are there first. Assumes nothing.
use Prim.Native.Nat.{ℕ, suc, ◌-◌, ◌≤◌, ◌<◌}
use mathlib.Core.Path.{◌≡◌, refl, sym, ◌∙◌, ap, subst, subst⁻¹}
use mathlib.Core.Logic.{◌⊎◌, inl, inr, ⊎_elim}
use mathlib.Core.Bool.{not}
use mathlib.Core.List.{List}
use native.Mathlib.Omega.{arith}
use lib.Dec.{T}
use Rattle.basics.proofs.TestLaws.{tested, or_left, below_or_not}
use Rattle.grammar.specs.Limits.{most_occurrences}
use Rattle.grammar.specs.Table.{
  symbol_of,
  nonterminal,
  functions,
  target,
  argument,
  arguments,
  occurrence,
  inherited_at,
  defining,
  position,
  attribute,
}
use Rattle.relations.specs.Paper.{Path⁺}
use Rattle.relations.specs.Computed.{dp}
use Rattle.relations.proofs.Occurrences.{occurs_inside, dp_complete}
use Rattle.sets.specs.Visits.{visits}
use Rattle.sets.proofs.Visits.{visit_inside}
use Rattle.order.specs.Computed.{beside_arc, edp}
use Rattle.sequences.specs.Actions.{
  Action,
  compute,
  visit,
  leave,
  number_of,
  decode,
  is_action,
  visit_at,
  inherited_of,
  synthesized_of,
  makes,
}
use Rattle.sequences.specs.Follows.{follows}
use Rattle.sequences.specs.Order.{sequence_of}
use Rattle.sequences.specs.Paper.{DoneBefore}
use Rattle.sequences.proofs.ActionNumbers.{decode_compute, number_decode}
use Rattle.sequences.proofs.ActionLaws.{ChildVisit, LeftLeave, belongs_compute, action_belongs, action_below}
use Rattle.sequences.proofs.MakesLaws.{of_inherited, of_synthesized, makes_compute, compute_made, visit_makes, leave_makes}
use Rattle.grammar.proofs.OccurrenceLaws.{left_defining, child_defining}
use Rattle.sequences.proofs.FollowsLaws.{compute_after}
use Rattle.sequences.proofs.OrderlyRules.{Orderly, fits, arc_starts, set_at, set_low}
use Rattle.sequences.proofs.SequenceTie.{size, stands_at}
use Rattle.sequences.proofs.SequenceLaws.{
  defining_fits,
  compute_stands,
  leave_number_law,
  leave_stands,
  visit_number_law,
  visit_stands,
  nothing_else_law,
  stands_after,
}

-- an action of the rule makes occurrence a available
abbrev pub Maker : List ℕ → List ℕ → ℕ → ℕ → Type 0
Maker g s r a = (e : ℕ) × T (is_action g s r e) × T (makes g s r (decode e) a)

module _ (g ids s : List ℕ) (r : ℕ) where
  module _ (h : Orderly g ids s r) where
    module _ (five : (x : ℕ) → visits s x ≤ 5) where
      compute_maker : (a : ℕ) → T (defining g r a) → Maker g s r a
      compute_maker a t = (
        a,
        compute_stands g ids s r h a t,
        compute_made g s r a (defining_fits g ids s r h a t) t,
      )

      leave_maker : (a n : ℕ) → LeftLeave g s r n → T (inherited_of g s r 0 (suc n) a) → Maker g s r a
      leave_maker a n c t = (
        number_of (leave n),
        leave_stands g ids s r h five n c,
        subst⁻¹ (λ (x : Action). T (makes g s r x a)) (leave_number_law g ids s r h five n c) (leave_makes g s r n a t),
      )

      visit_maker : (a i n : ℕ) → ChildVisit g s r i n → T (synthesized_of g s r i n a) → Maker g s r a
      visit_maker a i n c t = (
        number_of (visit i n),
        visit_stands g ids s r h five i n c,
        subst⁻¹ (λ (x : Action). T (makes g s r x a)) (visit_number_law g ids s r h five i n c) (visit_makes g s r i n a c.nonterminal_there t),
      )

      -- an attribute belongs to one of its symbol's visits
      pub visit_counts : (a : ℕ) → T (occurrence g r a) → T (nonterminal g (symbol_of g r (position a)))
          → (1 ≤ visit_at g s r a) × (visit_at g s r a ≤ visits s (symbol_of g r (position a)))
      unfolding visit_at set_at
      visit_counts a t n = visit_inside s (symbol_of g r (position a)) (attribute a) (omega arith) (set_low g ids s r h a t n)

      -- an occurrence of a nonterminal is there from the start, or some action makes it available
      pub maker : (a : ℕ) → T (occurrence g r a) → T (nonterminal g (symbol_of g r (position a))) → T (inherited_of g s r 0 1 a) ⊎ Maker g s r a
      maker a t n = ⊎_elim child left (below_or_not 0 (position a))
        where
          counted : (1 ≤ visit_at g s r a) × (visit_at g s r a ≤ visits s (symbol_of g r (position a)))
          counted = visit_counts a t n

          child : 1 ≤ position a → T (inherited_of g s r 0 1 a) ⊎ Maker g s r a
          child l =
              ⊎_elim (λ c. inr (compute_maker a (child_defining g r a t l c)))
              (λ c.
              inr (visit_maker a (position a) (visit_at g s r a)
              (record {
                child = l;
                inside = occurs_inside g r a t;
                nonterminal_there = n;
                first = counted.0;
                last = counted.1;
              })
              (of_synthesized g s r (position a) (visit_at g s r a) a (record { occurs = t; stands = refl; visit_is = refl }) c)))
              (tested (inherited_at g r a))

          left : position a ≤ 0 → T (inherited_of g s r 0 1 a) ⊎ Maker g s r a
          left l =
              let p : position a ≡ 0 = omega arith in
              ⊎_elim
              (λ c.
              ⊎_elim
              (λ k.
              inr (leave_maker a (visit_at g s r a - 1)
              (record {
                first = omega arith;
                last = omega (arith, counted.1, ap (λ (j : ℕ). visits s (symbol_of g r j)) p);
              })
              (of_inherited g s r 0 (suc (visit_at g s r a - 1)) a (record { occurs = t; stands = p; visit_is = omega arith }) c)))
              (λ k.
              inl (of_inherited g s r 0 1 a (record { occurs = t; stands = p; visit_is = omega (arith, counted.0) }) c))
              (below_or_not 1 (visit_at g s r a)))
              (λ c. inr (compute_maker a (left_defining g r a t p c)))
              (tested (inherited_at g r a))

      -- where a compute stands, its occurrence is its number
      compute_there : (j o : ℕ) → j < size g ids s r → decode (stands_at g ids s r j) ≡ compute o → (stands_at g ids s r j ≡ o) × T (defining g r o)
      compute_there j o l d = (
        sym (number_decode (stands_at g ids s r j) (action_below g s r (stands_at g ids s r j) (nothing_else_law g ids s r j l))) ∙ ap number_of d,
        belongs_compute g s r o (action_belongs g s r (stands_at g ids s r j) (compute o) d (nothing_else_law g ids s r j l)),
      )

      -- what an EDP arc leads from is a terminal's, or available from the start, or some action before the compute makes it so
      pub available_first : (j o a : ℕ) → j < size g ids s r → decode (stands_at g ids s r j) ≡ compute o → T (edp g ids s r a o)
          → T (not (nonterminal g (symbol_of g r (position a)))) ⊎ (T (inherited_of g s r 0 1 a)
          ⊎ ((e : ℕ) × DoneBefore (sequence_of g ids s r) j e × T (makes g s r (decode e) a)))
      available_first j o a l d arc =
          let t : T (occurrence g r a) = arc_starts g ids s r h a o arc in
          ⊎_elim (λ n. inr (⊎_elim (λ f. inl f) (λ w. inr (w.0, before w.0 w.1 w.2 t, w.2)) (maker a t n))) (λ n. inl n)
          (tested (nonterminal g (symbol_of g r (position a))))
        where
          before : (e : ℕ) → T (is_action g s r e) → T (makes g s r (decode e) a) → T (occurrence g r a)
              → DoneBefore (sequence_of g ids s r) j e
          before e u m t =
              let c : (stands_at g ids s r j ≡ o) × T (defining g r o) = compute_there j o l d in
              let k : o < most_occurrences = defining_fits g ids s r h o c.1 in
              stands_after g ids s r j l e u
              (subst⁻¹ (λ (b : ℕ). T (follows g ids s r b e)) c.0
              (compute_after g ids s r o e a c.1 k (fits g ids s r h a t)
              (λ q.
              let z : o ≡ a =
              (makes_compute g s r o a
              (subst (λ (x : Action). T (makes g s r x a)) (ap decode (sym q) ∙ decode_compute o k) m)).1 in
              h.acyclic o (Path⁺.one (subst⁻¹ (λ (b : ℕ). T (edp g ids s r b o)) z arc)))
              m arc))

      -- "each compute follows what makes its arguments available"
      pub arguments_first_law : (j o k i : ℕ) → j < size g ids s r → decode (stands_at g ids s r j) ≡ compute o → k < functions g r → target g r k ≡ o
          → i < arguments g r k
          → T (not (nonterminal g (symbol_of g r (position (argument g r k i))))) ⊎ (T (inherited_of g s r 0 1 (argument g r k i))
          ⊎ ((e : ℕ) × DoneBefore (sequence_of g ids s r) j e × T (makes g s r (decode e) (argument g r k i))))
      unfolding edp
      arguments_first_law j o k i l d f e p =
          available_first j o (argument g r k i) l d
          (or_left (dp g r (argument g r k i) o) (beside_arc g ids s r (argument g r k i) o)
          (dp_complete g r (argument g r k i) o
          (record { function = k; function_fits = f; target_is = e; place = i; place_fits = p; argument_is = refl })))
