-- A visit is ready exactly where it is the next one of its child and none of the inherited attributes that it takes along waits: what goes before
-- it stands at the child, in a set that is not lower. Assumes nothing.
use Prim.Native.Nat.{ℕ, zero, suc, ◌+◌, ◌*◌, ◌-◌, ◌≤◌, ◌<◌}
use mathlib.Core.Path.{◌≡◌, refl, sym, ◌∙◌, ap, subst}
use mathlib.Core.Logic.{◌⊎◌, ⊎_elim}
use mathlib.Core.Bool.{Bool, not}
use mathlib.Core.List.{List}
use native.Mathlib.Omega.{arith}
use lib.Dec.{T, eqb, eqb→eq, T_not}
use Rattle.bits.specs.Bit.{hasb}
use Rattle.basics.proofs.TestLaws.{and_left, and_right, below_or_not, below_suc}
use Rattle.grammar.specs.Limits.{most_occurrences}
use Rattle.grammar.specs.Table.{symbol_of, inherited_at, defining, position}
use Rattle.sets.specs.Visits.{visits}
use Rattle.sequences.specs.Actions.{Action, visit, number_of, decode, visit_at, inherited_of, synthesized_of, makes}
use Rattle.sequences.specs.Follows.{besides, before_visit}
use Rattle.sequences.proofs.ActionLaws.{ChildVisit, ActionIs, computes, visits_child, leaves, action_is}
use Rattle.sequences.proofs.MakesLaws.{
  OfVisit,
  inherited_of_law,
  synthesized_of_law,
  of_inherited,
  makes_compute,
  makes_visit,
  makes_leave,
  compute_made,
}
use Rattle.grammar.proofs.AcceptedTable.{defining_occurs}
use Rattle.grammar.proofs.OccurrenceLaws.{defining_child, child_defining}
use Rattle.sequences.proofs.FollowsLaws.{LinkedByArc, follows_cases, visit_after_visit, visit_after_compute}
use Rattle.sequences.proofs.OrderlyRules.{Orderly, BesideArc, set_at, fits, arc_beside, beside_down}
use Rattle.sequences.proofs.SequenceLaws.{visit_number_law, visit_stands}
use Rattle.sequences.proofs.AvailableFirst.{visit_counts}
use Rattle.sequencing.specs.Going.{Going}
use Rattle.sequencing.proofs.Makers.{Attribute, made_attribute, even_of_visit, visit_even, visit_odd}
use Rattle.sequencing.proofs.ReadyComputes.{Free, waits_attribute, waiting_left}

-- the odd set of a visit is not higher than that of an earlier one
not_later : (u v m n k : ℕ) → u ≡ v → k ≡ 2 * (u + 1 - m) - 1 → 2 * (v + 1 - n) - 1 ≤ k → n ≤ v → m ≤ n
not_later u v m n k e f l h = omega arith

-- a visit of a child but the first has one before it
earlier_visit : (g s : List ℕ) (r i n : ℕ) → 1 ≤ n → ChildVisit g s r i (suc n) → ChildVisit g s r i n
earlier_visit g s r i n l c =
    record {
      child = c.child;
      inside = c.inside;
      nonterminal_there = c.nonterminal_there;
      first = l;
      last = omega (arith, c.last);
    }

-- visit n of child i is the next one of it, and none of the attributes that it takes along waits
pub record VisitReady (g ids s : List ℕ) (r : ℕ) (left : ℕ → Bool) (w i n : ℕ) : Type 0 where
  pub next : (m : ℕ) → 1 ≤ m → m < n → T (left (number_of (visit i m))) → ⊥
  pub handed : (o : ℕ) → T (hasb o w) → position o ≡ i → set_at g s r o ≡ 2 * (visits s (symbol_of g r i) + 1 - n) → ⊥

module _ (g ids s : List ℕ) (r : ℕ) (h : Orderly g ids s r) (five : (x : ℕ) → visits s x ≤ 5) (left : ℕ → Bool) (w : ℕ)
    (going : Going g ids s r left w) where
  -- visits of a child that are left are left with all later ones
  pub later_visits : (i m n : ℕ) → 1 ≤ m → m ≤ n → ChildVisit g s r i n → T (left (number_of (visit i m))) → T (left (number_of (visit i n)))
  later_visits i m zero l k c t = absurd (omega arith)
  later_visits i m (suc n) l k c t =
      ⊎_elim
      (λ q.
      let c' = earlier_visit g s r i n (omega arith) c in
      going.done (number_of (visit i (suc n))) (number_of (visit i n)) (visit_stands g ids s r h five i (suc n) c)
      (later_visits i m n l (omega arith) c' t)
      (visit_after_visit g ids s r (number_of (visit i (suc n))) (number_of (visit i n)) i n (visit_number_law g ids s r h five i (suc n) c)
      (visit_number_law g ids s r h five i n c')))
      (λ q. subst (λ (x : ℕ). T (left (number_of (visit i x)))) q t) (below_suc m (suc n) (omega arith))

  pub free_visit : (i n : ℕ) → ChildVisit g s r i n → Free g ids s r left (number_of (visit i n)) → VisitReady g ids s r left w i n
  free_visit i zero c f = absurd (omega (arith, c.first))
  free_visit i (suc n) c f =
      record {
        next = λ m l k t.
            let c' = earlier_visit g s r i n (omega arith) c in
            f (number_of (visit i n)) (later_visits i m n l (omega arith) c' t)
            (visit_after_visit g ids s r (number_of (visit i (suc n))) (number_of (visit i n)) i n (visit_number_law g ids s r h five i (suc n) c)
            (visit_number_law g ids s r h five i n c'));
        handed = λ o t p k.
            let a = waits_attribute g ids s r h five left w going o t in
            let i' : T (inherited_of g s r i (suc n) o) = even_of_visit g ids s r h i (suc n) o a p (omega arith) c.last k in
            let d : T (defining g r o) =
            child_defining g r o a.occurs (omega (arith, c.child)) (inherited_of_law g s r i (suc n) o i').1 in
            let l : o < most_occurrences = fits g ids s r h o a.occurs in
            f o (waiting_left g ids s r h five left w going o t d)
            (visit_after_compute g ids s r (number_of (visit i (suc n))) i (suc n) o (visit_number_law g ids s r h five i (suc n) c) l i');
      }

  module _ (i n : ℕ) (c : ChildVisit g s r i n) (ready : VisitReady g ids s r left w i n) where
    -- what is computed at the child and left, of visit n or an earlier one
    no_compute : (o : ℕ) → T (left o) → T (defining g r o) → position o ≡ i → visit_at g s r o ≤ n → ⊥
    no_compute o t d p l =
        let k : o < most_occurrences = fits g ids s r h o (defining_occurs g r o d) in
        let made : T (makes g s r (decode o) o) = compute_made g s r o k d in
        let a : Attribute g r o = made_attribute g ids s r h o o (going.actions o t) made in
        let u : T (inherited_at g r o) = defining_child g r o d (omega (arith, c.child)) in
        let v = visit_counts g ids s r h five o a.occurs a.there in
        let j : T (inherited_of g s r i (visit_at g s r o) o) =
        of_inherited g s r i (visit_at g s r o) o (record { occurs = a.occurs; stands = p; visit_is = refl }) u in
        ⊎_elim
        (λ q.
        let c' : ChildVisit g s r i (visit_at g s r o) =
        record {
          child = c.child;
          inside = c.inside;
          nonterminal_there = c.nonterminal_there;
          first = v.0;
          last = omega (arith, c.last);
        } in
        ready.next (visit_at g s r o) v.0 q
        (going.done (number_of (visit i (visit_at g s r o))) o (visit_stands g ids s r h five i (visit_at g s r o) c') t
        (visit_after_compute g ids s r (number_of (visit i (visit_at g s r o))) i (visit_at g s r o) o
        (visit_number_law g ids s r h five i (visit_at g s r o) c') k j)))
        (λ q.
        let z : visit_at g s r o ≡ n = omega arith in
        ready.handed o (going.makers o o t made) p
        (visit_even g ids s r h i n o c.nonterminal_there (subst (λ (m : ℕ). T (inherited_of g s r i m o)) z j)))
        (below_or_not (visit_at g s r o) n)

    pub ready_visit : Free g ids s r left (number_of (visit i n))
    unfolding besides before_visit
    ready_visit b t f = go (action_is g s r b (going.actions b t)) (follows_cases g ids s r (number_of (visit i n)) b f)
      where
        number : decode (number_of (visit i n)) ≡ visit i n
        number = visit_number_law g ids s r h five i n c

        linked : LinkedByArc g ids s r (decode (number_of (visit i n))) (decode b) → ActionIs g s r b → (number_of (visit i n) ≡ b → ⊥) → ⊥
        linked u x differs = go₂ x
          where
            goal : T (synthesized_of g s r i n u.goal)
            goal = (makes_visit g s r i n u.goal (subst (λ (x : Action). T (makes g s r x u.goal)) number u.goal_made)).1

            v : OfVisit g s r i n u.goal × T (not (inherited_at g r u.goal))
            v = synthesized_of_law g s r i n u.goal goal

            beside : BesideArc g ids s r u.source u.goal
            beside =
                arc_beside g ids s r h u.source u.goal u.arc
                (λ q. T_not (inherited_at g r u.goal) v.1 (defining_child g r u.goal q (omega (arith, c.child, v.0.stands))))

            place : position u.source ≡ i
            place = beside.same ∙ v.0.stands

            high : 2 * (visits s (symbol_of g r i) + 1 - n) - 1 ≤ set_at g s r u.source
            high =
                omega (
                  arith,
                  beside_down g ids s r h u.source u.goal beside,
                  visit_odd g ids s r h i n u.goal c.nonterminal_there goal,
                )

            go₂ : ActionIs g s r b → ⊥
            go₂ (computes o l e d m) =
                let k = makes_compute g s r o u.source (subst (λ (x : Action). T (makes g s r x u.source)) d u.source_made) in
                let y : b ≡ u.source = e ∙ k.1 in
                let z : T (inherited_of g s r i (visit_at g s r u.source) u.source) =
                of_inherited g s r i (visit_at g s r u.source) u.source
                (record { occurs = beside.source; stands = place; visit_is = refl })
                (defining_child g r u.source k.0 (omega (arith, c.child, place))) in
                no_compute u.source (subst (λ (x : ℕ). T (left x)) y t) k.0 place
                (omega (arith, high, c.last, visit_even g ids s r h i (visit_at g s r u.source) u.source c.nonterminal_there z))
            go₂ (visits_child j m l q e d x) =
                let k = makes_visit g s r j m u.source (subst (λ (x : Action). T (makes g s r x u.source)) d u.source_made) in
                let y : j ≡ i = sym (synthesized_of_law g s r j m u.source k.1).0.stands ∙ place in
                let z = visit_odd g ids s r h j m u.source k.0 k.1 in
                let lower : m ≤ n = not_later (visits s (symbol_of g r j)) (visits s (symbol_of g r i)) m n (set_at g s r u.source)
                (ap (λ (p : ℕ). visits s (symbol_of g r p)) y) z high c.last in
                ⊎_elim
                (λ p.
                ready.next m x.first p
                (subst (λ (p : ℕ). T (left (number_of (visit p m)))) y (subst (λ (p : ℕ). T (left p)) e t)))
                (λ p. differs (omega arith)) (below_or_not m n)
            go₂ (leaves m q e d x) =
                omega (
                  arith,
                  c.child,
                  place,
                  (inherited_of_law g s r 0 (suc m) u.source
                      (makes_leave g s r m u.source (subst (λ (x : Action). T (makes g s r x u.source)) d u.source_made))).0.stands,
                )

        besides₂ : ActionIs g s r b → T (before_visit g s r i n (decode b)) → ⊥
        besides₂ (computes o l e d m) u =
            let v = inherited_of_law g s r i n o (subst (λ (x : Action). T (before_visit g s r i n x)) d u) in
            no_compute o (subst (λ (x : ℕ). T (left x)) e t) m v.0.stands (omega (arith, v.0.visit_is))
        besides₂ (visits_child j m l q e d x) u =
            let v = subst (λ (x : Action). T (before_visit g s r i n x)) d u in
            let y : j ≡ i = eqb→eq j i (and_left (eqb j i) (eqb (suc m) n) v) in
            let z : suc m ≡ n = eqb→eq (suc m) n (and_right (eqb j i) (eqb (suc m) n) v) in
            ready.next m x.first (omega arith)
            (subst (λ (p : ℕ). T (left (number_of (visit p m)))) y (subst (λ (p : ℕ). T (left p)) e t))
        besides₂ (leaves m q e d x) u = subst (λ (x : Action). T (before_visit g s r i n x)) d u

        go : ActionIs g s r b
            → (number_of (visit i n) ≡ b → ⊥) × (LinkedByArc g ids s r (decode (number_of (visit i n))) (decode b) ⊎ T
            (besides g s r (decode (number_of (visit i n))) (decode b)))
            → ⊥
        go x e =
            ⊎_elim (λ u. linked u x e.0)
            (λ u. besides₂ x (subst (λ (y : Action). T (besides g s r y (decode b))) number u)) e.1
