-- Where no compute is ready, the lowest visit in the set of ready visits is the next action: the set has exactly the visits that are ready.
-- Assumes nothing.
use Prim.Native.Nat.{ℕ, ◌+◌, ◌*◌, ◌-◌, ◌/◌, ◌%◌, ◌<◌}
use mathlib.Core.Path.{◌≡◌, refl, sym, ◌∙◌, ap, subst, subst⁻¹}
use mathlib.Core.Logic.{⊎_elim}
use mathlib.Core.Bool.{Bool}
use mathlib.Core.List.{List}
use native.Mathlib.Omega.{arith}
use lib.Dec.{T, T_not, not_T}
use Rattle.bits.specs.Bit.{hasb, remove, common, minus, raised, First}
use Rattle.bits.proofs.MemberLaws.{none_left, has_not, has_other, union_cases, union_left, union_right, minus_both, both_minus}
use Rattle.basics.proofs.TestLaws.{same_or_not, below_or_not}
use Rattle.grammar.specs.Table.{symbol_of, position}
use Rattle.relations.specs.Computed.{ids_of}
use Rattle.sets.specs.Visits.{set_number}
use Rattle.access.specs.ByPlace.{symbol_from}
use Rattle.sequences.specs.Actions.{Action, visit, decode, makes}
use Rattle.sequences.proofs.ActionNumbers.{decode_number}
use Rattle.sequences.proofs.ActionLaws.{ChildVisit, belongs_visit, action_belongs}
use Rattle.sequences.proofs.MakesLaws.{makes_visit, visit_makes, synthesized_of_law}
use Rattle.sequencing.specs.Given.{RuleGiven}
use Rattle.remaining.specs.declared.ByVisit.{ByVisit as Kept}
use Rattle.remaining.specs.Remaining.{remains}
use Rattle.sequencing.specs.Going.{Going, Taken}
use Rattle.remaining.specs.RuleSets.{inherited_mask, handed_up, wanted_next, NextVisit, Along, ready_visits}
use Rattle.remaining.proofs.MemberWalks.{was_left, first_member, under_first}
use Rattle.sequencing.proofs.Makers.{odd_of_visit, visit_odd}
use Rattle.sequencing.proofs.ReadyComputes.{waits_attribute}
use Rattle.sequencing.proofs.ReadyVisits.{later_visits, VisitReady, free_visit, ready_visit}
use Rattle.sequencing.proofs.OrderSteps.{taken}
use Rattle.remaining.proofs.RemainsLaws.{remains_visit, Kind, a_compute, a_visit, a_leave, kind_of, less_visit}
use Rattle.remaining.proofs.MaskLaws.{SeenVisits, Rising, inherited_small, raised_at, at_raised, in_child, child_in, up_at, at_up, Passes, ready_at, at_ready}
use Rattle.sequencing.proofs.GivenLaws.{left_visit, seen_at, set_from, visits_from, ActionReady, orderly_rule, five_visits}

-- visit b is visit b % 8 + 1 of child b / 8
visit_is_law : (b : ℕ) → b < 64 → decode (64 + b) ≡ visit (b / 8) (b % 8 + 1)
visit_is_law b h =
    let e : 64 + b ≡ 64 + 8 * (b / 8) + (b % 8 + 1 - 1) = omega arith in
    ap decode e ∙ decode_number (visit (b / 8) (b % 8 + 1)) (omega arith, omega arith, omega arith)

module _ (g s : List ℕ) (by : Kept) (rows : List ℕ) (p r : ℕ) (given : RuleGiven g s by rows p r) where
  module _ (c v l w : ℕ) (going : Going g (ids_of g) s r (remains c v l) w) where
    pub child : (b : ℕ) → b < 64 → T (hasb b v) → ChildVisit g s r (b / 8) (b % 8 + 1)
    child b h t =
        belongs_visit g s r (b / 8) (b % 8 + 1)
        (action_belongs g s r (64 + b) (visit (b / 8) (b % 8 + 1)) (visit_is_law b h) (going.actions (64 + b) (left_visit c v l b h t)))

    -- the test of a visit says that it is ready
    passes_next : (b : ℕ) → b < 64 → Passes g s p v w b → VisitReady g (ids_of g) s r (remains c v l) w (b / 8) (b % 8 + 1)
    passes_next b h u =
        record {
          next = λ m k q t.
              let e : 64 + 8 * (b / 8) + (m - 1) ≡ 64 + (8 * (b / 8) + (m - 1)) = omega arith in
              u.next (m - 1) (omega arith)
              (subst (λ (x : Bool). T x) (remains_visit c v l (8 * (b / 8) + (m - 1)) (omega arith))
              (subst (λ (a : ℕ). T (remains c v l a)) e t));
          handed = λ o t q k.
              let e : 8 * (b / 8) + o % 8 ≡ o = omega arith in
              u.handed (o % 8) (omega arith) (subst⁻¹ (λ (x : ℕ). T (hasb x w)) e t)
              (set_from g s by rows p r given (b / 8) o q ∙ (k ∙ ap (λ (x : ℕ). 2 * (x + 1 - (b % 8 + 1))) (sym (visits_from g s by rows p r given (b / 8)))));
        }

    next_passes : (b : ℕ) → b < 64 → VisitReady g (ids_of g) s r (remains c v l) w (b / 8) (b % 8 + 1) → Passes g s p v w b
    next_passes b h u =
        record {
          next = λ k q t.
              let e : 64 + (8 * (b / 8) + k) ≡ 64 + 8 * (b / 8) + (k + 1 - 1) = omega arith in
              u.next (k + 1) (omega arith) (omega arith)
              (subst (λ (a : ℕ). T (remains c v l a)) e (left_visit c v l (8 * (b / 8) + k) (omega arith) t));
          handed = λ a k t q.
              let e : (8 * (b / 8) + a) / 8 ≡ b / 8 = omega arith in
              let f : (8 * (b / 8) + a) % 8 ≡ a = omega arith in
              u.handed (8 * (b / 8) + a) t e
              (sym (set_from g s by rows p r given (b / 8) (8 * (b / 8) + a) e)
              ∙ (ap (λ (x : ℕ). set_number s (symbol_from g p (b / 8)) x) f
              ∙ (q ∙ ap (λ (x : ℕ). 2 * (x + 1 - (b % 8 + 1))) (visits_from g s by rows p r given (b / 8)))));
        }

    -- the table has the children whose visits are left
    pub seen_visits : SeenVisits g s by p v
    seen_visits b h t =
        let k = child b h t in
        (seen_at g s by rows p r given (b / 8) k.inside, omega (arith, k.last, visits_from g s by rows p r given (b / 8)))

    -- the visits of a child that are left are its last ones, and it has at most five
    pub rising : Rising v
    rising =
        record {
          later = λ b k h t i u.
              let z = child b h t in
              let there : ChildVisit g s r (b / 8) (b % 8) =
              record {
                child = z.child;
                inside = z.inside;
                nonterminal_there = z.nonterminal_there;
                first = omega arith;
                last = omega (arith, z.last);
              } in
              let e : 64 + (8 * (b / 8) + k) ≡ 64 + 8 * (b / 8) + (k + 1 - 1) = omega arith in
              let f : 64 + 8 * (b / 8) + (b % 8 - 1) ≡ 64 + (b - 1) = omega arith in
              subst (λ (x : Bool). T x) (remains_visit c v l (b - 1) (omega arith))
              (subst (λ (a : ℕ). T (remains c v l a)) f
              (later_visits g (ids_of g) s r (orderly_rule g s by rows p r given) (five_visits g s by rows p r given) (remains c v l) w going (b / 8)
              (k + 1) (b % 8) (omega arith) (omega arith) there
              (subst (λ (a : ℕ). T (remains c v l a)) e (left_visit c v l (8 * (b / 8) + k) (omega arith) u))));
          apart = λ b h t e u.
              let z = child (b - 1) (omega arith) u in
              omega (arith, z.child, z.last, five_visits g s by rows p r given (symbol_of g r ((b - 1) / 8)));
        }

    -- of the visits of a child that are left after the next one, the one after it is the next
    next_one : (b n : ℕ) → b < 64 → n < 64 → T (hasb b v) → NextVisit v b → T (hasb n (remove b v)) → NextVisit (remove b v) n → n / 8 ≡ b / 8
        → n % 8 ≡ b % 8 + 1
    next_one b n h k t lowest u after q =
        ⊎_elim
        (λ i.
        let e : n ≡ 8 * (b / 8) + n % 8 = omega arith in
        absurd (lowest (n % 8) i (subst (λ (x : ℕ). T (hasb x v)) e left)))
        (λ i. ⊎_elim (λ j. absurd (after (b % 8 + 1) j (between j))) (λ j. omega (arith, differs)) (below_or_not (b % 8 + 1) (n % 8)))
        (below_or_not (n % 8) (b % 8))
      where
        left : T (hasb n v)
        left = was_left v b n u

        differs : n ≡ b → ⊥
        differs e = T_not (hasb b (remove b v)) (has_not b v) (subst (λ (x : ℕ). T (hasb x (remove b v))) e u)

        between : b % 8 + 1 < n % 8 → T (hasb (8 * (n / 8) + (b % 8 + 1)) (remove b v))
        between below =
            let m : ℕ = 8 * (n / 8) + (b % 8 + 1) in
            let z = child n k left in
            let there : ChildVisit g s r (n / 8) (b % 8 + 2) =
            record {
              child = z.child;
              inside = z.inside;
              nonterminal_there = z.nonterminal_there;
              first = omega arith;
              last = omega (arith, z.last);
            } in
            let e : 64 + b ≡ 64 + 8 * (n / 8) + (b % 8 + 1 - 1) = omega arith in
            let f : 64 + 8 * (n / 8) + (b % 8 + 2 - 1) ≡ 64 + m = omega arith in
            subst⁻¹ (λ (x : Bool). T x) (has_other b m v (λ y. omega arith))
            (subst (λ (x : Bool). T x) (remains_visit c v l m (omega arith))
            (subst (λ (a : ℕ). T (remains c v l a)) f
            (later_visits g (ids_of g) s r (orderly_rule g s by rows p r given) (five_visits g s by rows p r given) (remains c v l) w going (n / 8)
            (b % 8 + 1) (b % 8 + 2) (omega arith) (omega arith) there
            (subst (λ (a : ℕ). T (remains c v l a)) e (left_visit c v l b h t)))))

    module _ (d : ℕ) (along : Along g by p v d) where
      -- after the next visit of a child is wanted what the one after it takes along
      pub visit_along : (b : ℕ) → b < 64 → T (hasb b v) → NextVisit v b → Along g by p (remove b v) (wanted_next g by p b d)
      unfolding wanted_next
      visit_along b h t lowest =
          record {
            takes = λ n o k u after q y.
                ⊎_elim
                (λ i.
                let e : n % 8 ≡ b % 8 + 1 = next_one b n h k t lowest u after i in
                let here : o / 8 ≡ b / 8 = q ∙ i in
                ⊎_elim
                (λ z. absurd (T_not (hasb o (raised (8 * (b / 8)) 255)) (minus_both o d (raised (8 * (b / 8)) 255) z).1 (child_in (b / 8) o here)))
                (λ z.
                subst⁻¹ (λ (j : ℕ). T (hasb (o % 8) (inherited_mask by (symbol_from g p j) (n % 8)))) i
                (subst⁻¹ (λ (j : ℕ). T (hasb (o % 8) (inherited_mask by (symbol_from g p (b / 8)) j))) e (raised_at (own b) (b / 8) o (small b) z).1))
                (union_cases o _ _ y))
                (λ i.
                ⊎_elim (λ z. along.takes n o k (was_left v b n u) (others b n u after i) q (minus_both o d (raised (8 * (b / 8)) 255) z).0)
                (λ z. absurd (i (sym q ∙ (raised_at (own b) (b / 8) o (small b) z).0))) (union_cases o _ _ y))
                (same_or_not (n / 8) (b / 8));
            taken = λ n o k u after q y.
                ⊎_elim
                (λ i.
                let e : n % 8 ≡ b % 8 + 1 = next_one b n h k t lowest u after i in
                union_right o _ _
                (at_raised (own b) (b / 8) o (q ∙ i)
                (subst (λ (j : ℕ). T (hasb (o % 8) (inherited_mask by (symbol_from g p (b / 8)) j))) e
                (subst (λ (j : ℕ). T (hasb (o % 8) (inherited_mask by (symbol_from g p j) (n % 8)))) i y))))
                (λ i.
                union_left o _ _
                (both_minus o d (raised (8 * (b / 8)) 255) (along.taken n o k (was_left v b n u) (others b n u after i) q y)
                (not_T (hasb o (raised (8 * (b / 8)) 255)) (λ z. i (sym q ∙ in_child (b / 8) o z)))))
                (same_or_not (n / 8) (b / 8));
          }
        where
          own : ℕ → ℕ
          own b = inherited_mask by (symbol_from g p (b / 8)) (b % 8 + 1)

          small : (b : ℕ) → own b < 256
          small b = inherited_small by (symbol_from g p (b / 8)) (b % 8 + 1) (own b) refl

          others : (b n : ℕ) → T (hasb n (remove b v)) → NextVisit (remove b v) n → (n / 8 ≡ b / 8 → ⊥) → NextVisit v n
          others b n u after i k l z =
              after k l (subst⁻¹ (λ (x : Bool). T x) (has_other b (8 * (n / 8) + k) v (λ y. i (omega arith))) z)

      ready_is_visit : (b : ℕ) → b < 64 → T (hasb b v) → ActionReady g s r c v l (64 + b) → T (hasb b (ready_visits v (common d w)))
      ready_is_visit b h t f =
          let e : 64 + b ≡ 64 + 8 * (b / 8) + (b % 8 + 1 - 1) = omega arith in
          at_ready g s by p v w d seen_visits rising along b h t
          (next_passes b h
          (free_visit g (ids_of g) s r (orderly_rule g s by rows p r given) (five_visits g s by rows p r given) (remains c v l) w going (b / 8)
          (b % 8 + 1) (child b h t)
          (subst (λ (a : ℕ). ActionReady g s r c v l a) e f)))

      visit_is_ready : (b : ℕ) → T (hasb b (ready_visits v (common d w))) → ActionReady g s r c v l (64 + b)
      visit_is_ready b t =
          let u = ready_at g s by p v w d seen_visits rising along b t in
          let e : 64 + b ≡ 64 + 8 * (b / 8) + (b % 8 + 1 - 1) = omega (arith, u.0) in
          subst⁻¹ (λ (a : ℕ). ActionReady g s r c v l a) e
          (ready_visit g (ids_of g) s r (orderly_rule g s by rows p r given) (five_visits g s by rows p r given) (remains c v l) w going (b / 8)
          (b % 8 + 1) (child b u.0 u.1)
          (passes_next b u.0 u.2))

      -- an action below that of visit b that is ready would be a compute, or a visit below b
      pub take_visit : (b : ℕ) → ((o : ℕ) → o < 64 → T (remains c v l o) → ActionReady g s r c v l o → ⊥) → First (ready_visits v (common d w)) b
          → Taken g (ids_of g) s r (remains c v l) (64 + b) (remains c (remove b v) l) (minus w (handed_up g by p b))
      take_visit b none f =
          taken g (ids_of g) s r (remains c v l) w going (64 + b) (left_visit c v l b f.small here.1)
          (visit_is_ready b (first_member _ b f)) (λ a k t u. lower a k t u (kind_of a))
          (remains c (remove b v) l) (less_visit c v l b f.small) (minus w (handed_up g by p b))
          (λ o t.
          let u = minus_both o w (handed_up g by p b) t in
          (u.0, λ m. T_not (hasb o (handed_up g by p b)) u.1 (up o m)))
          (λ o t n. both_minus o w (handed_up g by p b) t (not_T (hasb o (handed_up g by p b)) (λ u. n (of_up o t u))))
        where
          here : (b < 64) × T (hasb b v) × Passes g s p v w b
          here = ready_at g s by p v w d seen_visits rising along b (first_member _ b f)

          lower : (a : ℕ) → a < 64 + b → T (remains c v l a) → ActionReady g s r c v l a → Kind a → ⊥
          lower a k t u (a_compute h) = none a h t u
          lower a k t u (a_visit d h e) =
              under_first _ b d f (omega arith)
              (ready_is_visit d h (subst (λ (x : Bool). T x) (remains_visit c v l d h) (subst (λ (x : ℕ). T (remains c v l x)) e t))
              (subst (λ (x : ℕ). ActionReady g s r c v l x) e u))
          lower a k t u (a_leave d e) = omega (arith, f.small)

          visited : ChildVisit g s r (b / 8) (b % 8 + 1)
          visited = child b f.small here.1

          up : (o : ℕ) → T (makes g s r (decode (64 + b)) o) → T (hasb o (handed_up g by p b))
          up o m =
              let k = makes_visit g s r (b / 8) (b % 8 + 1) o (subst (λ (y : Action). T (makes g s r y o)) (visit_is_law b f.small) m) in
              let q : position o ≡ b / 8 = (synthesized_of_law g s r (b / 8) (b % 8 + 1) o k.1).0.stands in
              at_up g s by p b (seen_visits b f.small here.1).0 (seen_visits b f.small here.1).1 o q
              (set_from g s by rows p r given (b / 8) o q
              ∙ (visit_odd g (ids_of g) s r (orderly_rule g s by rows p r given) (b / 8) (b % 8 + 1) o k.0 k.1
              ∙ ap (λ (x : ℕ). 2 * (x + 1 - (b % 8 + 1)) - 1) (sym (visits_from g s by rows p r given (b / 8)))))

          of_up : (o : ℕ) → T (hasb o w) → T (hasb o (handed_up g by p b)) → T (makes g s r (decode (64 + b)) o)
          of_up o t u =
              let k = up_at g s by p b (seen_visits b f.small here.1).0 (seen_visits b f.small here.1).1 o u in
              subst⁻¹ (λ (y : Action). T (makes g s r y o)) (visit_is_law b f.small)
              (visit_makes g s r (b / 8) (b % 8 + 1) o visited.nonterminal_there
              (odd_of_visit g (ids_of g) s r (orderly_rule g s by rows p r given) (b / 8) (b % 8 + 1) o
              (waits_attribute g (ids_of g) s r (orderly_rule g s by rows p r given) (five_visits g s by rows p r given) (remains c v l) w going o t)
              k.0 (omega arith) visited.last
              (sym (set_from g s by rows p r given (b / 8) o k.0) ∙
              (k.1 ∙ ap (λ (x : ℕ). 2 * (x + 1 - (b % 8 + 1)) - 1) (visits_from g s by rows p r given (b / 8))))))

      pub no_visit_ready : ready_visits v (common d w) ≡ 0 → (b : ℕ) → b < 64 → T (remains c v l (64 + b)) → ActionReady g s r c v l (64 + b) → ⊥
      no_visit_ready e b h t f =
          T_not (hasb b 0) (none_left b)
          (subst (λ (x : ℕ). T (hasb b x)) e (ready_is_visit b h (subst (λ (x : Bool). T x) (remains_visit c v l b h) t) f))
