-- A leave is ready exactly where it is the next one, none of the synthesized attributes that it hands up waits and, if it is the last, nothing else
-- is left: what goes before it stands at the left side, in a set that is not lower. Assumes nothing.
use Prim.Native.Nat.{ℕ, zero, suc, ◌+◌, ◌*◌, ◌-◌, ◌≤◌, ◌<◌}
use mathlib.Core.Path.{◌≡◌, refl, sym, ◌∙◌, ap, subst, subst⁻¹}
use mathlib.Core.Logic.{◌⊎◌, ⊎_elim}
use mathlib.Core.Bool.{Bool}
use mathlib.Core.List.{List}
use native.Mathlib.Omega.{arith}
use lib.Dec.{T, eqb, eqb→eq, T_not}
use Rattle.bits.specs.Bit.{hasb}
use Rattle.basics.proofs.TestLaws.{or_cases, same_or_not, below_or_not, below_suc}
use Rattle.grammar.specs.Limits.{most_occurrences}
use Rattle.grammar.specs.Table.{symbol_of, nonterminal, inherited_at, defining, position}
use Rattle.sets.specs.Visits.{visits}
use Rattle.sequences.specs.Actions.{Action, leave, number_of, decode, visit_at, inherited_of, synthesized_of, makes}
use Rattle.sequences.specs.Follows.{besides, before_leave}
use Rattle.sequences.proofs.ActionLaws.{LeftLeave, ActionIs, computes, visits_child, leaves, action_is}
use Rattle.sequences.proofs.MakesLaws.{
  OfVisit,
  inherited_of_law,
  synthesized_of_law,
  of_synthesized,
  makes_compute,
  makes_visit,
  makes_leave,
  compute_made,
}
use Rattle.grammar.proofs.AcceptedTable.{defining_occurs}
use Rattle.grammar.proofs.OccurrenceLaws.{defining_left, left_defining}
use Rattle.sequences.proofs.FollowsLaws.{LinkedByArc, follows_cases, leave_after_leave, leave_after_compute, last_leave_after}
use Rattle.sequences.proofs.OrderlyRules.{Orderly, BesideArc, set_at, fits, set_low, left_nonterminal_law, arc_beside, beside_down}
use Rattle.sequences.proofs.SequenceLaws.{leave_number_law, leave_stands}
use Rattle.sequences.proofs.AvailableFirst.{visit_counts}
use Rattle.sequencing.specs.Going.{Going}
use Rattle.sequencing.proofs.Makers.{Attribute, defining_attribute, made_attribute, odd_of_visit, visit_even, visit_odd}
use Rattle.sequencing.proofs.ReadyComputes.{Free, waits_attribute, waiting_left}

-- a set not below the even one of the visit after n is of visit n at the latest, if odd, and of the one after n, if even
odd_not_later : (v m n k : ℕ) → k ≡ 2 * (v + 1 - m) - 1 → 2 * (v + 1 - suc n) ≤ k → n ≤ v → 1 ≤ k → m ≤ n
odd_not_later v m n k f l h low = omega arith

even_not_later : (v m n k : ℕ) → k ≡ 2 * (v + 1 - suc m) → 2 * (v + 1 - suc n) ≤ k → n ≤ v → 1 ≤ k → m ≤ n
even_not_later v m n k f l h low = omega arith

-- leave n is the next one, none of the attributes that it hands up waits, and where it is the last nothing else is left
pub record LeaveReady (g ids s : List ℕ) (r : ℕ) (left : ℕ → Bool) (w n : ℕ) : Type 0 where
  pub next : (m : ℕ) → 1 ≤ m → m < n → T (left (number_of (leave m))) → ⊥
  pub handed : (o : ℕ) → T (hasb o w) → position o ≡ 0 → set_at g s r o ≡ 2 * (visits s (symbol_of g r 0) + 1 - n) - 1 → ⊥
  pub last : n ≡ visits s (symbol_of g r 0) → (b : ℕ) → T (left b) → b ≡ number_of (leave n)

module _ (g ids s : List ℕ) (r : ℕ) (h : Orderly g ids s r) (five : (x : ℕ) → visits s x ≤ 5) (left : ℕ → Bool) (w : ℕ)
    (going : Going g ids s r left w) where
  -- leaves that are left are left with all later ones
  pub later_leaves : (m n : ℕ) → 1 ≤ m → m ≤ n → LeftLeave g s r n → T (left (number_of (leave m))) → T (left (number_of (leave n)))
  later_leaves m zero l k c t = absurd (omega arith)
  later_leaves m (suc n) l k c t =
      ⊎_elim
      (λ q.
      let c' : LeftLeave g s r n = record { first = omega arith; last = omega (arith, c.last) } in
      going.done (number_of (leave (suc n))) (number_of (leave n)) (leave_stands g ids s r h five (suc n) c)
      (later_leaves m n l (omega arith) c' t)
      (leave_after_leave g ids s r (number_of (leave (suc n))) (number_of (leave n)) n (leave_number_law g ids s r h five (suc n) c)
      (leave_number_law g ids s r h five n c')))
      (λ q. subst (λ (x : ℕ). T (left (number_of (leave x)))) q t) (below_suc m (suc n) (omega arith))

  pub free_leave : (n : ℕ) → LeftLeave g s r n → Free g ids s r left (number_of (leave n)) → LeaveReady g ids s r left w n
  free_leave zero c f = absurd (omega (arith, c.first))
  free_leave (suc n) c f =
      record {
        next = λ m l k t.
            let c' : LeftLeave g s r n = record { first = omega arith; last = omega (arith, c.last) } in
            f (number_of (leave n)) (later_leaves m n l (omega arith) c' t)
            (leave_after_leave g ids s r (number_of (leave (suc n))) (number_of (leave n)) n (leave_number_law g ids s r h five (suc n) c)
            (leave_number_law g ids s r h five n c'));
        handed = λ o t p k.
            let a = waits_attribute g ids s r h five left w going o t in
            let i : T (synthesized_of g s r 0 (suc n) o) = odd_of_visit g ids s r h 0 (suc n) o a p (omega arith) c.last k in
            let d : T (defining g r o) = left_defining g r o a.occurs p (synthesized_of_law g s r 0 (suc n) o i).1 in
            let l : o < most_occurrences = fits g ids s r h o a.occurs in
            f o (waiting_left g ids s r h five left w going o t d)
            (leave_after_compute g ids s r (number_of (leave (suc n))) (suc n) o (leave_number_law g ids s r h five (suc n) c) l i);
        last = λ q b t.
            ⊎_elim (λ e. sym e)
            (λ e.
            absurd (f b t
            (last_leave_after g ids s r (number_of (leave (suc n))) b
            (leave_number_law g ids s r h five (suc n) c ∙ ap (λ (x : ℕ). leave x) q) e)))
            (same_or_not (number_of (leave (suc n))) b);
      }

  module _ (n : ℕ) (c : LeftLeave g s r n) (ready : LeaveReady g ids s r left w n) where
    -- what is computed at the left side and left, of visit n or an earlier one
    no_left_compute : (o : ℕ) → T (left o) → T (defining g r o) → position o ≡ 0 → visit_at g s r o ≤ n → ⊥
    no_left_compute o t d p l =
        let k : o < most_occurrences = fits g ids s r h o (defining_occurs g r o d) in
        let made : T (makes g s r (decode o) o) = compute_made g s r o k d in
        let a : Attribute g r o = made_attribute g ids s r h o o (going.actions o t) made in
        let v = visit_counts g ids s r h five o a.occurs a.there in
        let j : T (synthesized_of g s r 0 (visit_at g s r o) o) =
        of_synthesized g s r 0 (visit_at g s r o) o (record { occurs = a.occurs; stands = p; visit_is = refl }) (defining_left g r o d p) in
        ⊎_elim
        (λ q.
        let c' : LeftLeave g s r (visit_at g s r o) = record { first = v.0; last = omega (arith, c.last) } in
        ready.next (visit_at g s r o) v.0 q
        (going.done (number_of (leave (visit_at g s r o))) o (leave_stands g ids s r h five (visit_at g s r o) c') t
        (leave_after_compute g ids s r (number_of (leave (visit_at g s r o))) (visit_at g s r o) o
        (leave_number_law g ids s r h five (visit_at g s r o) c') k j)))
        (λ q.
        let z : visit_at g s r o ≡ n = omega arith in
        ready.handed o (going.makers o o t made) p
        (visit_odd g ids s r h 0 n o (left_nonterminal_law g ids s r h) (subst (λ (m : ℕ). T (synthesized_of g s r 0 m o)) z j)))
        (below_or_not (visit_at g s r o) n)

    pub ready_leave : Free g ids s r left (number_of (leave n))
    unfolding besides before_leave
    ready_leave b t f = go (action_is g s r b (going.actions b t)) (follows_cases g ids s r (number_of (leave n)) b f)
      where
        number : decode (number_of (leave n)) ≡ leave n
        number = leave_number_law g ids s r h five n c

        linked : LinkedByArc g ids s r (decode (number_of (leave n))) (decode b) → ActionIs g s r b → (number_of (leave n) ≡ b → ⊥) → ⊥
        linked u x differs = go₂ x
          where
            goal : T (inherited_of g s r 0 (suc n) u.goal)
            goal = makes_leave g s r n u.goal (subst (λ (x : Action). T (makes g s r x u.goal)) number u.goal_made)

            v : OfVisit g s r 0 (suc n) u.goal × T (inherited_at g r u.goal)
            v = inherited_of_law g s r 0 (suc n) u.goal goal

            beside : BesideArc g ids s r u.source u.goal
            beside =
                arc_beside g ids s r h u.source u.goal u.arc
                (λ q. T_not (inherited_at g r u.goal) (defining_left g r u.goal q v.0.stands) v.1)

            place : position u.source ≡ 0
            place = beside.same ∙ v.0.stands

            high : 2 * (visits s (symbol_of g r 0) + 1 - suc n) ≤ set_at g s r u.source
            high =
                omega (
                  arith,
                  beside_down g ids s r h u.source u.goal beside,
                  visit_even g ids s r h 0 (suc n) u.goal (left_nonterminal_law g ids s r h) goal,
                )

            go₂ : ActionIs g s r b → ⊥
            go₂ (computes o l e d m) =
                let k = makes_compute g s r o u.source (subst (λ (x : Action). T (makes g s r x u.source)) d u.source_made) in
                let y : b ≡ u.source = e ∙ k.1 in
                let a : Attribute g r u.source = defining_attribute g ids s r h u.source k.0 in
                let z : T (synthesized_of g s r 0 (visit_at g s r u.source) u.source) =
                of_synthesized g s r 0 (visit_at g s r u.source) u.source
                (record { occurs = beside.source; stands = place; visit_is = refl }) (defining_left g r u.source k.0 place) in
                no_left_compute u.source (subst (λ (x : ℕ). T (left x)) y t) k.0 place
                (odd_not_later (visits s (symbol_of g r 0)) (visit_at g s r u.source) n (set_at g s r u.source)
                (visit_odd g ids s r h 0 (visit_at g s r u.source) u.source (left_nonterminal_law g ids s r h) z) high c.last
                (set_low g ids s r h u.source a.occurs a.there))
            go₂ (visits_child j m l q e d x) =
                omega (
                  arith,
                  x.child,
                  place,
                  (synthesized_of_law g s r j m u.source
                      (makes_visit g s r j m u.source (subst (λ (x : Action). T (makes g s r x u.source)) d u.source_made)).1).0.stands,
                )
            go₂ (leaves m q e d x) =
                let k = makes_leave g s r m u.source (subst (λ (x : Action). T (makes g s r x u.source)) d u.source_made) in
                let a : Attribute g r u.source =
                record { occurs = beside.source; there = subst⁻¹ (λ (j : ℕ). T (nonterminal g (symbol_of g r j))) place (left_nonterminal_law g ids s r h) } in
                let lower : m ≤ n =
                even_not_later (visits s (symbol_of g r 0)) m n (set_at g s r u.source)
                (visit_even g ids s r h 0 (suc m) u.source (left_nonterminal_law g ids s r h) k) high c.last
                (set_low g ids s r h u.source a.occurs a.there) in
                ⊎_elim (λ p. ready.next m x.first p (subst (λ (p : ℕ). T (left p)) e t))
                (λ p. differs (omega arith)) (below_or_not m n)

        before : ActionIs g s r b → T (before_leave g s r n (decode b)) → ⊥
        before (computes o l e d m) u =
            let v = synthesized_of_law g s r 0 n o (subst (λ (x : Action). T (before_leave g s r n x)) d u) in
            no_left_compute o (subst (λ (x : ℕ). T (left x)) e t) m v.0.stands (omega (arith, v.0.visit_is))
        before (visits_child j m l q e d x) u = subst (λ (x : Action). T (before_leave g s r n x)) d u
        before (leaves m q e d x) u =
            let z : suc m ≡ n = eqb→eq (suc m) n (subst (λ (x : Action). T (before_leave g s r n x)) d u) in
            ready.next m x.first (omega arith) (subst (λ (p : ℕ). T (left p)) e t)

        go : ActionIs g s r b
            → (number_of (leave n) ≡ b → ⊥) × (LinkedByArc g ids s r (decode (number_of (leave n))) (decode b) ⊎ T
            (besides g s r (decode (number_of (leave n))) (decode b)))
            → ⊥
        go x e =
            ⊎_elim (λ u. linked u x e.0)
            (λ u.
            ⊎_elim (λ q. e.0 (sym (ready.last (eqb→eq n (visits s (symbol_of g r 0)) q) b t))) (λ q. before x q)
            (or_cases (eqb n (visits s (symbol_of g r 0))) (before_leave g s r n (decode b))
            (subst (λ (y : Action). T (besides g s r y (decode b))) number u))) e.1
