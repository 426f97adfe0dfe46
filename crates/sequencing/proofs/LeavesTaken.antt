-- Where neither a compute nor a visit is ready, some leave is, since an ordered rule never gets stuck, and the lowest that is ready is the next
-- action. Assumes nothing.
use Prim.Native.Nat.{ℕ, suc, ◌+◌, ◌*◌, ◌-◌, ◌%◌, ◌≤◌, ◌<◌}
use mathlib.Core.Path.{◌≡◌, sym, ◌∙◌, ap, subst, subst⁻¹}
use mathlib.Core.Bool.{Bool}
use mathlib.Core.List.{List}
use native.Mathlib.Omega.{arith}
use lib.Dec.{T, T_not, not_T}
use lib.ListN.{length}
use Rattle.bits.specs.Bit.{hasb, remove, minus, First}
use Rattle.bits.proofs.MemberLaws.{minus_both, both_minus}
use Rattle.basics.specs.Lists.{member}
use Rattle.basics.proofs.ListLaws.{passing_member, member_passing}
use Rattle.grammar.specs.Table.{symbol_of, position}
use Rattle.relations.specs.Computed.{ids_of}
use Rattle.sets.specs.Visits.{set_number, visits}
use Rattle.access.specs.ByPlace.{symbol_from}
use Rattle.sequences.specs.Actions.{Action, decode, action_numbers, inherited_of, makes}
use Rattle.sequences.specs.Follows.{follows}
use Rattle.sequences.specs.Order.{ready}
use Rattle.sequences.proofs.ActionLaws.{action_below}
use Rattle.sequences.proofs.MakesLaws.{makes_leave, leave_makes, inherited_of_law}
use Rattle.sequences.proofs.TieLaws.{ready_use}
use Rattle.sequences.proofs.AlwaysReady.{always_ready}
use Rattle.sequences.proofs.OrderlyRules.{set_at, left_nonterminal_law, set_low}
use Rattle.sequencing.specs.Given.{RuleGiven}
use Rattle.remaining.specs.declared.ByVisit.{ByVisit as Kept}
use Rattle.remaining.specs.Remaining.{remains, remaining}
use Rattle.sequencing.specs.Going.{Going, Taken}
use Rattle.remaining.specs.RuleSets.{handed_down, ready_leaves}
use Rattle.remaining.proofs.MemberWalks.{first_member, under_first}
use Rattle.remaining.proofs.LeaveSetLaws.{leave_ready_at, leave_at_ready}
use Rattle.sequencing.proofs.Makers.{Attribute, even_of_visit, visit_even}
use Rattle.sequencing.proofs.ReadyComputes.{waits_attribute}
use Rattle.sequencing.proofs.ReadyLeaves.{free_leave, ready_leave}
use Rattle.sequencing.proofs.OrderSteps.{taken}
use Rattle.remaining.proofs.RemainsLaws.{remains_leave, Kind, a_compute, a_visit, a_leave, kind_of, less_leave}
use Rattle.remaining.proofs.MaskLaws.{Seen, down_at, at_down}
use Rattle.sequencing.proofs.GivenLaws.{ActionReady, orderly_rule, five_visits, seen_at, left_leave, set_from, visits_from}
use Rattle.sequencing.proofs.LeaveTests.{left_side, ready_next, leave_few, leave_inside, next_ready, leave_is}

module _ (g s : List ℕ) (by : Kept) (rows : List ℕ) (p r : ℕ) (given : RuleGiven g s by rows p r) where
  module _ (c v l w : ℕ) (going : Going g (ids_of g) s r (remains c v l) w) where
    leave_is_ready : (b : ℕ) → T (hasb b (ready_leaves g by p c v l w)) → ActionReady g s r c v l (128 + b)
    leave_is_ready b t =
        let u = leave_ready_at g by p c v l w b t in
        let e : 128 + b ≡ 128 + (b + 1 - 1) = omega arith in
        subst⁻¹ (λ (a : ℕ). ActionReady g s r c v l a) e
        (ready_leave g (ids_of g) s r (orderly_rule g s by rows p r given) (five_visits g s by rows p r given) (remains c v l) w going (b + 1)
        (left_side g s by rows p r given c v l w going b u.1) (ready_next g s by rows p r given c v l w going b u.1 u.2))

    pub ready_is_leave : (b : ℕ) → T (hasb b l) → ActionReady g s r c v l (128 + b) → T (hasb b (ready_leaves g by p c v l w))
    ready_is_leave b t f =
        let e : 128 + b ≡ 128 + (b + 1 - 1) = omega arith in
        leave_at_ready g by p c v l w b (omega (arith, leave_few g s by rows p r given c v l w going b t)) t
        (next_ready g s by rows p r given c v l w going b t
        (free_leave g (ids_of g) s r (orderly_rule g s by rows p r given) (five_visits g s by rows p r given) (remains c v l) w going (b + 1)
        (left_side g s by rows p r given c v l w going b t) (subst (λ (a : ℕ). ActionReady g s r c v l a) e f)))

    -- where neither a compute nor a visit is ready, a leave is
    module _ (no_compute : (o : ℕ) → o < 64 → T (remains c v l o) → ActionReady g s r c v l o → ⊥)
        (no_visit : (b : ℕ) → b < 64 → T (remains c v l (64 + b)) → ActionReady g s r c v l (64 + b) → ⊥) where
      pub some_leave : 1 ≤ length (remaining (remains c v l)) → (d : ℕ) × T (hasb d l) × ActionReady g s r c v l (128 + d)
      unfolding remaining
      some_leave some = go (kind_of a.0)
        where
          a : (a : ℕ) × T (member a (remaining (remains c v l))) × T (ready (λ a b. follows g (ids_of g) s r a b) (remaining (remains c v l)) a)
          a =
              always_ready g (ids_of g) s r (orderly_rule g s by rows p r given) (remaining (remains c v l)) some
              (λ a m. going.actions a (passing_member action_numbers (remains c v l) a m).1)

          there : T (remains c v l a.0)
          there = (passing_member action_numbers (remains c v l) a.0 a.1).1

          free : ActionReady g s r c v l a.0
          free b t f =
              ready_use (λ a b. follows g (ids_of g) s r a b) (remaining (remains c v l)) a.0 a.2 b
              (member_passing action_numbers (remains c v l) b (action_below g s r b (going.actions b t)) t) f

          go : Kind a.0 → (d : ℕ) × T (hasb d l) × ActionReady g s r c v l (128 + d)
          go (a_compute h) = absurd (no_compute a.0 h there free)
          go (a_visit b h e) =
              absurd (no_visit b h (subst (λ (x : ℕ). T (remains c v l x)) e there) (subst (λ (x : ℕ). ActionReady g s r c v l x) e free))
          go (a_leave b e) = (
            b,
            subst (λ (x : Bool). T x) (remains_leave c v l b) (subst (λ (x : ℕ). T (remains c v l x)) e there),
            subst (λ (x : ℕ). ActionReady g s r c v l x) e free,
          )

      -- the lowest of them is next
      pub take_leave : (b : ℕ) → First (ready_leaves g by p c v l w) b
          → Taken g (ids_of g) s r (remains c v l) (128 + b) (remains c v (remove b l)) (minus w (handed_down g by p b))
      take_leave b f =
          taken g (ids_of g) s r (remains c v l) w going (128 + b) (left_leave c v l b here) (leave_is_ready b (first_member _ b f))
          (λ a k t u. lower a k t u (kind_of a))
          (remains c v (remove b l)) (less_leave c v l b) (minus w (handed_down g by p b))
          (λ o t.
          let u = minus_both o w (handed_down g by p b) t in
          (u.0, λ m. T_not (hasb o (handed_down g by p b)) u.1 (down o m)))
          (λ o t n. both_minus o w (handed_down g by p b) t (not_T (hasb o (handed_down g by p b)) (λ u. n (of_down o t u))))
        where
          here : T (hasb b l)
          here = (leave_ready_at g by p c v l w b (first_member _ b f)).1

          seen : Seen s by (symbol_from g p 0)
          seen = seen_at g s by rows p r given 0 (omega arith)

          few : b < 7
          few = leave_few g s by rows p r given c v l w going b here

          inside : b < visits s (symbol_from g p 0)
          inside = leave_inside g s by rows p r given c v l w going b here

          lower : (a : ℕ) → a < 128 + b → T (remains c v l a) → ActionReady g s r c v l a → Kind a → ⊥
          lower a k t u (a_compute h) = no_compute a h t u
          lower a k t u (a_visit d h e) =
              no_visit d h (subst (λ (x : ℕ). T (remains c v l x)) e t) (subst (λ (x : ℕ). ActionReady g s r c v l x) e u)
          lower a k t u (a_leave d e) =
              under_first _ b d f (omega arith)
              (ready_is_leave d
              (subst (λ (x : Bool). T x) (remains_leave c v l d) (subst (λ (x : ℕ). T (remains c v l x)) e t))
              (subst (λ (x : ℕ). ActionReady g s r c v l x) e u))

          down : (o : ℕ) → T (makes g s r (decode (128 + b)) o) → T (hasb o (handed_down g by p b))
          down o m =
              let k : T (inherited_of g s r 0 (suc (b + 1)) o) =
              makes_leave g s r (b + 1) o (subst (λ (y : Action). T (makes g s r y o)) (leave_is g s by rows p r given c v l w going b here) m) in
              let q : position o ≡ 0 = (inherited_of_law g s r 0 (suc (b + 1)) o k).0.stands in
              let z : o % 8 ≡ o = omega arith in
              let n : suc (b + 1) ≡ b + 2 = omega arith in
              at_down g s by p b seen few inside o (omega arith)
              (ap (λ (x : ℕ). set_number s (symbol_from g p 0) x) (sym z)
              ∙ (set_from g s by rows p r given 0 o q
              ∙ (visit_even g (ids_of g) s r (orderly_rule g s by rows p r given) 0 (suc (b + 1)) o
              (left_nonterminal_law g (ids_of g) s r (orderly_rule g s by rows p r given)) k
              ∙ (ap (λ (x : ℕ). 2 * (visits s (symbol_of g r 0) + 1 - x)) n
              ∙ ap (λ (x : ℕ). 2 * (x + 1 - (b + 2))) (sym (visits_from g s by rows p r given 0))))))

          of_down : (o : ℕ) → T (hasb o w) → T (hasb o (handed_down g by p b)) → T (makes g s r (decode (128 + b)) o)
          of_down o t u =
              let k = down_at g s by p b seen few inside o u in
              let a : Attribute g r o = waits_attribute g (ids_of g) s r (orderly_rule g s by rows p r given) (five_visits g s by rows p r given)
              (remains c v l) w going o t in
              let q : position o ≡ 0 = omega (arith, k.0) in
              let z : o % 8 ≡ o = omega (arith, k.0) in
              let n : b + 2 ≡ suc (b + 1) = omega arith in
              let e : set_at g s r o ≡ 2 * (visits s (symbol_of g r 0) + 1 - suc (b + 1)) =
              sym (set_from g s by rows p r given 0 o q)
              ∙ (ap (λ (x : ℕ). set_number s (symbol_from g p 0) x) z
              ∙ (k.1
              ∙ (ap (λ (x : ℕ). 2 * (x + 1 - (b + 2))) (visits_from g s by rows p r given 0)
              ∙ ap (λ (x : ℕ). 2 * (visits s (symbol_of g r 0) + 1 - x)) n))) in
              subst⁻¹ (λ (y : Action). T (makes g s r y o)) (leave_is g s by rows p r given c v l w going b here)
              (leave_makes g s r (b + 1) o
              (even_of_visit g (ids_of g) s r (orderly_rule g s by rows p r given) 0 (suc (b + 1)) o a q (omega arith)
              (omega (arith, set_low g (ids_of g) s r (orderly_rule g s by rows p r given) o a.occurs a.there)) e))
