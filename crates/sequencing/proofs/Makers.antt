-- What makes an occurrence available: it is one action, and which one is seen by the position and the set of the occurrence.
-- Assumes nothing.
use Prim.Native.Nat.{ℕ, suc, ◌+◌, ◌*◌, ◌-◌, ◌%◌, ◌≤◌}
use mathlib.Core.Path.{◌≡◌, sym, ◌∙◌, ap, subst, subst⁻¹}
use mathlib.Core.Logic.{⊎_elim}
use mathlib.Core.Bool.{cond, not}
use mathlib.Core.List.{List}
use native.Mathlib.Omega.{arith}
use lib.Dec.{T, eqb, eqb→eq, T_not, not_T}
use Rattle.bits.specs.Bit.{hasb}
use Rattle.bits.proofs.MemberLaws.{none_left}
use Rattle.basics.proofs.TestLaws.{tested, chosen, passed_over, eq_T, or_cases, same_or_not, below_or_not}
use Rattle.grammar.specs.Table.{kind, symbol_of, nonterminal, occurrence, inherited_at, defining, position, attribute}
use Rattle.grammar.proofs.AcceptedTable.{defining_occurs}
use Rattle.relations.proofs.Occurrences.{dp_sound, dp_target}
use Rattle.sets.specs.Visits.{visits, visit_of_set, visit_of}
use Rattle.sets.proofs.Visits.{number_to_last}
use Rattle.order.specs.Computed.{edp}
use Rattle.sequences.specs.Actions.{Action, decode, is_action, visit_at, inherited_of, synthesized_of, makes}
use Rattle.sequences.proofs.ActionLaws.{ActionIs, computes, visits_child, leaves, action_is}
use Rattle.sequences.proofs.MakesLaws.{inherited_of_law, synthesized_of_law, of_inherited, of_synthesized, makes_compute, makes_visit, makes_leave}
use Rattle.grammar.proofs.OccurrenceLaws.{defining_left, defining_child}
use Rattle.sequences.proofs.OrderlyRules.{
  Orderly,
  set_at,
  symbol_fits,
  left_nonterminal_law,
  BesideArc,
  beside_find,
  set_even,
  set_odd,
  set_inherited,
  set_synthesized,
}

-- o is an attribute of a nonterminal in the rule
pub record Attribute (g : List ℕ) (r o : ℕ) : Type 0 where
  pub occurs : T (occurrence g r o)
  pub there : T (nonterminal g (symbol_of g r (position o)))

module _ (g ids s : List ℕ) (r : ℕ) where
  -- the number of the action that makes o available
  maker_of : ℕ → ℕ
  maker_of o =
      cond (defining g r o) o (cond (eqb (position o) 0) (126 + visit_at g s r o) (63 + 8 * position o + visit_at g s r o))

  not_defining : (o : ℕ) → (T (defining g r o) → ⊥) → maker_of o ≡ cond (eqb (position o) 0) (126 + visit_at g s r o) (63 + 8 * position o + visit_at g s r o)
  unfolding maker_of
  not_defining o n = passed_over (defining g r o) _ _ (not_T (defining g r o) n)

  made_by : (e o : ℕ) → ActionIs g s r e → T (makes g s r (decode e) o) → e ≡ maker_of o
  unfolding maker_of
  made_by e o (computes p l i d w) t =
      let m = makes_compute g s r p o (subst (λ (x : Action). T (makes g s r x o)) d t) in
      i ∙ (m.1 ∙ sym (chosen (defining g r o) o _ m.0))
  made_by e o (visits_child k n l q i d w) t =
      let v = synthesized_of_law g s r k n o (makes_visit g s r k n o (subst (λ (x : Action). T (makes g s r x o)) d t)).1 in
      let z : maker_of o ≡ 63 + 8 * position o + visit_at g s r o =
      not_defining o (λ f. T_not (inherited_at g r o) v.1 (defining_child g r o f (omega (arith, v.0.stands, w.child))))
      ∙ passed_over (eqb (position o) 0) _ _
      (not_T (eqb (position o) 0) (λ f. let y : position o ≡ 0 = eqb→eq (position o) 0 f in omega (arith, v.0.stands, w.child))) in
      omega (arith, v.0.stands, v.0.visit_is, w.first)
  made_by e o (leaves n q i d w) t =
      let v = inherited_of_law g s r 0 (suc n) o (makes_leave g s r n o (subst (λ (x : Action). T (makes g s r x o)) d t)) in
      let z : maker_of o ≡ 126 + visit_at g s r o =
      not_defining o (λ f. T_not (inherited_at g r o) (defining_left g r o f v.0.stands) v.1)
      ∙ chosen (eqb (position o) 0) _ _ (eq_T (position o) 0 v.0.stands) in
      omega (arith, v.0.visit_is, w.first)

  -- one action makes it available
  pub one_maker : (d e o : ℕ) → T (is_action g s r d) → T (is_action g s r e) → T (makes g s r (decode d) o) → T (makes g s r (decode e) o)
      → d ≡ e
  one_maker d e o a b t u = made_by d o (action_is g s r d a) t ∙ sym (made_by e o (action_is g s r e b) u)

  module _ (h : Orderly g ids s r) where
    -- a terminal inherits nothing
    pub inherits : (o : ℕ) → T (occurrence g r o) → T (inherited_at g r o) → T (nonterminal g (symbol_of g r (position o)))
    unfolding inherited_at
    inherits o t i =
        ⊎_elim (λ n. n)
        (λ n.
        let f = h.formed.symbol (symbol_of g r (position o)) (symbol_fits g ids s r h o t) in
        let k : kind g (symbol_of g r (position o)) ≡ 1 =
        ⊎_elim (λ z. absurd (T_not (nonterminal g (symbol_of g r (position o))) n (eq_T _ _ z))) (λ z. omega (arith, f.kind_fits))
        (same_or_not (kind g (symbol_of g r (position o))) 0) in
        absurd (T_not (hasb (attribute o) 0) (none_left (attribute o))
        (subst (λ (m : ℕ). T (hasb (attribute o) m)) (f.terminal_mask k) i)))
        (tested (nonterminal g (symbol_of g r (position o))))

    -- what is computed is an attribute of a nonterminal
    pub defining_attribute : (o : ℕ) → T (defining g r o) → Attribute g r o
    defining_attribute o t =
        record {
          occurs = defining_occurs g r o t;
          there =
              ⊎_elim (λ p. inherits o (defining_occurs g r o t) (defining_child g r o t p))
              (λ p. subst⁻¹ (λ (j : ℕ). T (nonterminal g (symbol_of g r j))) (omega arith) (left_nonterminal_law g ids s r h))
              (below_or_not 0 (position o));
        }

    -- what an action makes available is one
    pub made_attribute : (e o : ℕ) → T (is_action g s r e) → T (makes g s r (decode e) o) → Attribute g r o
    made_attribute e o a t = go (action_is g s r e a)
      where
        go : ActionIs g s r e → Attribute g r o
        go (computes p l i d w) = defining_attribute o (makes_compute g s r p o (subst (λ (x : Action). T (makes g s r x o)) d t)).0
        go (visits_child k n l q i d w) =
            let m = makes_visit g s r k n o (subst (λ (x : Action). T (makes g s r x o)) d t) in
            let v = (synthesized_of_law g s r k n o m.1).0 in
            record { occurs = v.occurs; there = subst⁻¹ (λ (j : ℕ). T (nonterminal g (symbol_of g r j))) v.stands m.0 }
        go (leaves n q i d w) =
            let v = (inherited_of_law g s r 0 (suc n) o (makes_leave g s r n o (subst (λ (x : Action). T (makes g s r x o)) d t))).0 in
            record {
              occurs = v.occurs;
              there = subst⁻¹ (λ (j : ℕ). T (nonterminal g (symbol_of g r j))) v.stands (left_nonterminal_law g ids s r h);
            }

    -- every EDP arc leads to one
    pub arc_goal : (a b : ℕ) → T (edp g ids s r a b) → Attribute g r b
    unfolding edp
    arc_goal a b t =
        ⊎_elim (λ u. defining_attribute b (dp_target g h.formed r a b h.counts (dp_sound g r a b u)))
        (λ u.
        let w : BesideArc g ids s r a b = beside_find g ids s r a b u in
        record {
          occurs = w.goal;
          there = subst (λ (j : ℕ). T (nonterminal g (symbol_of g r j))) w.same w.nonterminal_there;
        })
        (or_cases _ _ t)

    -- no set is higher than twice the visits
    pub set_high : (o : ℕ) → set_at g s r o ≤ 2 * visits s (symbol_of g r (position o))
    unfolding set_at visits
    set_high o = omega (arith, number_to_last s (symbol_of g r (position o)) (attribute o) (omega arith))

    -- the class by the set
    even_set_inherited : (o : ℕ) → Attribute g r o → set_at g s r o % 2 ≡ 0 → T (inherited_at g r o)
    even_set_inherited o w e =
        ⊎_elim (λ t. t) (λ t. absurd (omega (arith, set_odd g ids s r h o w.occurs w.there t))) (tested (inherited_at g r o))

    odd_set_synthesized : (o : ℕ) → Attribute g r o → set_at g s r o % 2 ≡ 1 → T (not (inherited_at g r o))
    odd_set_synthesized o w e =
        not_T (inherited_at g r o) (λ t. omega (arith, set_even g ids s r h o w.occurs w.there t))

    -- the inherited attributes of visit n are those of its even set
    pub even_of_visit : (i n o : ℕ) → Attribute g r o → position o ≡ i → 1 ≤ n → n ≤ visits s (symbol_of g r i)
        → set_at g s r o ≡ 2 * (visits s (symbol_of g r i) + 1 - n) → T (inherited_of g s r i n o)
    unfolding visit_at set_at visit_of visit_of_set
    even_of_visit i n o w p l m e =
        let f : visits s (symbol_of g r (position o)) ≡ visits s (symbol_of g r i) = ap (λ (j : ℕ). visits s (symbol_of g r j)) p in
        of_inherited g s r i n o (record { occurs = w.occurs; stands = p; visit_is = omega arith }) (even_set_inherited o w (omega arith))

    -- the synthesized ones those of its odd set
    pub odd_of_visit : (i n o : ℕ) → Attribute g r o → position o ≡ i → 1 ≤ n → n ≤ visits s (symbol_of g r i)
        → set_at g s r o ≡ 2 * (visits s (symbol_of g r i) + 1 - n) - 1 → T (synthesized_of g s r i n o)
    unfolding visit_at set_at visit_of visit_of_set
    odd_of_visit i n o w p l m e =
        let f : visits s (symbol_of g r (position o)) ≡ visits s (symbol_of g r i) = ap (λ (j : ℕ). visits s (symbol_of g r j)) p in
        of_synthesized g s r i n o (record { occurs = w.occurs; stands = p; visit_is = omega arith }) (odd_set_synthesized o w (omega arith))

    -- and back
    pub visit_even : (i n o : ℕ) → T (nonterminal g (symbol_of g r i)) → T (inherited_of g s r i n o)
        → set_at g s r o ≡ 2 * (visits s (symbol_of g r i) + 1 - n)
    visit_even i n o there t = let v = inherited_of_law g s r i n o t in set_inherited g ids s r h i n o v.0 there v.1

    pub visit_odd : (i n o : ℕ) → T (nonterminal g (symbol_of g r i)) → T (synthesized_of g s r i n o)
        → set_at g s r o ≡ 2 * (visits s (symbol_of g r i) + 1 - n) - 1
    visit_odd i n o there t = let v = synthesized_of_law g s r i n o t in set_synthesized g ids s r h i n o v.0 there v.1

    -- the left side's inherited attributes of visit 1 come from the start: no action makes them available
    pub first_unmade : (e o : ℕ) → T (is_action g s r e) → T (makes g s r (decode e) o) → position o ≡ 0
        → set_at g s r o ≡ 2 * visits s (symbol_of g r 0) → ⊥
    first_unmade e o a t p k = go (action_is g s r e a)
      where
        made : Attribute g r o
        made = made_attribute e o a t

        go : ActionIs g s r e → ⊥
        go (computes q l i d w) =
            T_not (inherited_at g r o)
            (defining_left g r o (makes_compute g s r q o (subst (λ (x : Action). T (makes g s r x o)) d t)).0 p)
            (even_set_inherited o made (omega arith))
        go (visits_child j n l q i d w) =
            omega (
              arith,
              w.child,
              (synthesized_of_law g s r j n o (makes_visit g s r j n o (subst (λ (x : Action). T (makes g s r x o)) d t)).1).0.stands,
            )
        go (leaves n q i d w) =
            omega (
              arith,
              w.first,
              w.last,
              visit_even 0 (suc n) o (left_nonterminal_law g ids s r h)
                  (makes_leave g s r n o (subst (λ (x : Action). T (makes g s r x o)) d t)),
            )
