-- The test of a leave says exactly that it is ready: it is the lowest that is left, and either nothing that it hands up waits, or it is the last
-- and nothing else is left. Assumes nothing.
use Prim.Native.Nat.{ℕ, suc, ◌+◌, ◌*◌, ◌-◌, ◌%◌, ◌≤◌, ◌<◌}
use mathlib.Core.Path.{◌≡◌, sym, ◌∙◌, ap, subst, subst⁻¹}
use mathlib.Core.Logic.{◌⊎◌, inl, inr, ⊎_elim}
use mathlib.Core.Bool.{Bool, not}
use mathlib.Core.List.{List}
use native.Mathlib.Omega.{arith}
use lib.Dec.{T, eqb, eqb→eq, leb→le, le→leb, T_not}
use Rattle.bits.specs.Bit.{hasb, remove, common, lowest}
use Rattle.bits.proofs.BitLaws.{bit_has, bit_lacks}
use Rattle.bits.proofs.LowestLaws.{lowest_is, bit_under_lowest}
use Rattle.bits.proofs.CollectLaws.{collect_lt}
use Rattle.bits.proofs.MemberLaws.{hasb_collect, hasb_below, none_left, no_member, has_not, has_other, common_both, both_common}
use Rattle.basics.specs.Tests.{◌or◌}
use Rattle.basics.proofs.TestLaws.{
  and_intro,
  and_left,
  and_right,
  or_left,
  or_right,
  or_cases,
  tested,
  chosen,
  passed_over,
  true_T,
  false_T,
  eq_T,
  same_or_not,
  below_or_not,
}
use Rattle.grammar.specs.Table.{symbol_of, position}
use Rattle.relations.specs.Computed.{ids_of}
use Rattle.sets.specs.Visits.{set_number, visits}
use Rattle.access.specs.ByPlace.{symbol_from}
use Rattle.sequences.specs.Actions.{Action, leave, decode, inherited_of, makes}
use Rattle.sequences.proofs.ActionNumbers.{decode_leave}
use Rattle.sequences.proofs.ActionLaws.{LeftLeave, belongs_leave, action_belongs, action_below}
use Rattle.sequences.proofs.MakesLaws.{makes_leave}
use Rattle.sequences.proofs.OrderlyRules.{set_at, left_nonterminal_law}
use Rattle.sequencing.specs.Given.{RuleGiven}
use Rattle.remaining.specs.declared.ByVisit.{ByVisit as Kept}
use Rattle.remaining.specs.Remaining.{remains}
use Rattle.sequencing.specs.Going.{Going}
use Rattle.remaining.specs.RuleSets.{synthesized_mask, leave_free, others, leave_ready}
use Rattle.remaining.proofs.MemberWalks.{was_left}
use Rattle.sequencing.proofs.Makers.{visit_even}
use Rattle.sequencing.proofs.ReadyLeaves.{later_leaves, LeaveReady}
use Rattle.remaining.proofs.RemainsLaws.{remains_compute, remains_visit, remains_leave, Kind, a_compute, a_visit, a_leave, kind_of}
use Rattle.remaining.proofs.MaskLaws.{in_synthesized, synthesized_in}
use Rattle.sequencing.proofs.GivenLaws.{left_leave, five_visits, orderly_rule, seen_at, set_from, visits_from, left_compute, left_visit}

-- what is left besides the leaves
in_others : (c v k : ℕ) → k < 64 → T (hasb k c or hasb k v) → T (hasb k (others c v))
unfolding others
in_others c v k h t = subst⁻¹ (λ (x : Bool). T x) (hasb_collect 64 k _ h) t

from_others : (c v k : ℕ) → T (hasb k (others c v)) → (k < 64) × (T (hasb k c) ⊎ T (hasb k v))
unfolding others
from_others c v k t =
    let h : k < 64 = hasb_below 64 k (others c v) (collect_lt 64 _) t in
    (h, or_cases _ _ (subst (λ (x : Bool). T x) (hasb_collect 64 k _ h) t))

module _ (g s : List ℕ) (by : Kept) (rows : List ℕ) (p r : ℕ) (given : RuleGiven g s by rows p r) where
  module _ (c v l w : ℕ) (going : Going g (ids_of g) s r (remains c v l) w) where
    -- leave b is leave b + 1 of the left side
    pub leave_is : (b : ℕ) → T (hasb b l) → decode (128 + b) ≡ leave (b + 1)
    leave_is b t =
        let e : 128 + b - 128 + 1 ≡ b + 1 = omega arith in
        decode_leave (128 + b) (omega arith) (action_below g s r (128 + b) (going.actions (128 + b) (left_leave c v l b t)))
        ∙ ap (λ (n : ℕ). leave n) e

    pub left_side : (b : ℕ) → T (hasb b l) → LeftLeave g s r (b + 1)
    left_side b t =
        belongs_leave g s r (b + 1)
        (action_belongs g s r (128 + b) (leave (b + 1)) (leave_is b t) (going.actions (128 + b) (left_leave c v l b t)))

    abbrev NextLeave : ℕ → Type 0
    NextLeave n = LeaveReady g (ids_of g) s r (remains c v l) w n

    pub leave_few : (b : ℕ) → T (hasb b l) → b < 7
    leave_few b t = omega (arith, (left_side b t).last, five_visits g s by rows p r given (symbol_of g r 0))

    pub leave_inside : (b : ℕ) → T (hasb b l) → b < visits s (symbol_from g p 0)
    leave_inside b t = omega (arith, (left_side b t).last, visits_from g s by rows p r given 0)

    -- the test of a leave says that it is ready
    pub ready_next : (b : ℕ) → T (hasb b l) → T (leave_ready g by p c v l w b) → NextLeave (b + 1)
    unfolding leave_ready leave_free
    ready_next b t u =
        record {
          next = λ m k q y.
              lower (m - 1) (omega arith) (subst (λ (x : Bool). T x) (remains_leave c v l (m - 1)) y);
          handed = λ o y q k.
              ⊎_elim (λ i. unmade o k (eqb→eq _ _ i) (going.waits o y)) (λ i. quiet o y q k i) (tested (eqb (remove b l) 0));
          last = λ q a y. alone q a y (kind_of a);
        }
      where
        low : b ≤ lowest 64 l
        low = leb→le b (lowest 64 l) (and_left _ _ u)

        lower : (k : ℕ) → k < b → T (hasb k l) → ⊥
        lower k h y = T_not (hasb k l) (false_T _ (bit_lacks k l (bit_under_lowest 64 k l (omega (arith, low))))) y

        only : (k : ℕ) → b + 1 ≡ visits s (symbol_of g r 0) → T (hasb k l) → k ≡ b
        only k q y = ⊎_elim (λ h. absurd (lower k h y)) (λ h. omega (arith, (left_side k y).last)) (below_or_not k b)

        -- where no later leave is left, nothing is
        nothing_else_law : remove b l ≡ 0 → others c v ≡ 0
        nothing_else_law q =
            eqb→eq _ _ (subst (λ (x : Bool). T x) (chosen (eqb (remove b l) 0) _ _ (eq_T (remove b l) 0 q)) (and_right _ _ u))

        nothing : b + 1 ≡ visits s (symbol_of g r 0) → others c v ≡ 0
        nothing q =
            nothing_else_law (no_member (remove b l)
            (λ k i.
            T_not (hasb b (remove b l)) (has_not b l)
            (subst (λ (x : ℕ). T (hasb x (remove b l))) (only k q (was_left l b k i)) i)))

        quiet : (o : ℕ) → T (hasb o w) → position o ≡ 0 → set_at g s r o ≡ 2 * (visits s (symbol_of g r 0) + 1 - (b + 1)) - 1
            → T (not (eqb (remove b l) 0)) → ⊥
        quiet o y q k i =
            let z : o % 8 ≡ o = omega arith in
            T_not (hasb o 0) (none_left o)
            (subst (λ (x : ℕ). T (hasb o x))
            (eqb→eq _ _ (subst (λ (x : Bool). T x) (passed_over (eqb (remove b l) 0) _ _ i) (and_right _ _ u)))
            (both_common o _ w
            (synthesized_in s by (symbol_from g p 0) b (seen_at g s by rows p r given 0 (omega arith)) (omega (arith, leave_few b t)) (leave_inside b t) o (omega arith)
            (ap (λ (x : ℕ). set_number s (symbol_from g p 0) x) (sym z)
            ∙ (set_from g s by rows p r given 0 o q ∙ (k ∙ ap (λ (x : ℕ). 2 * (x + 1 - (b + 1)) - 1) (sym (visits_from g s by rows p r given 0)))))) y))

        -- the leave itself, which alone is left, makes nothing that it hands up
        unmade : (o : ℕ) → set_at g s r o ≡ 2 * (visits s (symbol_of g r 0) + 1 - (b + 1)) - 1 → remove b l ≡ 0
            → (e : ℕ) × T (remains c v l e) × T (makes g s r (decode e) o) → ⊥
        unmade o k q e = go (kind_of e.0)
          where
            go : Kind e.0 → ⊥
            go (a_compute h) =
                T_not (hasb e.0 0) (none_left e.0)
                (subst (λ (x : ℕ). T (hasb e.0 x)) (nothing_else_law q)
                (in_others c v e.0 h (or_left _ _ (subst (λ (x : Bool). T x) (remains_compute c v l e.0 h) e.1))))
            go (a_visit d h f) =
                T_not (hasb d 0) (none_left d)
                (subst (λ (x : ℕ). T (hasb d x)) (nothing_else_law q)
                (in_others c v d h
                (or_right _ _ (subst (λ (x : Bool). T x) (remains_visit c v l d h) (subst (λ (x : ℕ). T (remains c v l x)) f e.1)))))
            go (a_leave d f) =
                let y : T (hasb d l) = subst (λ (x : Bool). T x) (remains_leave c v l d) (subst (λ (x : ℕ). T (remains c v l x)) f e.1) in
                ⊎_elim
                (λ z.
                let m : T (inherited_of g s r 0 (suc (b + 1)) o) =
                makes_leave g s r (b + 1) o
                (subst (λ (x : Action). T (makes g s r x o)) (leave_is b t)
                (subst (λ (x : ℕ). T (makes g s r (decode (128 + x)) o)) z (subst (λ (x : ℕ). T (makes g s r (decode x) o)) f e.2))) in
                omega (
                  arith,
                  (left_side b t).last,
                  visit_even g (ids_of g) s r (orderly_rule g s by rows p r given) 0 (suc (b + 1)) o
                      (left_nonterminal_law g (ids_of g) s r (orderly_rule g s by rows p r given)) m,
                ))
                (λ z.
                T_not (hasb d 0) (none_left d)
                (subst (λ (x : ℕ). T (hasb d x)) q (subst⁻¹ (λ (x : Bool). T x) (has_other b d l z) y)))
                (same_or_not d b)

        alone : b + 1 ≡ visits s (symbol_of g r 0) → (a : ℕ) → T (remains c v l a) → Kind a → a ≡ 128 + (b + 1 - 1)
        alone q a y (a_compute h) =
            absurd (T_not (hasb a 0) (none_left a)
            (subst (λ (x : ℕ). T (hasb a x)) (nothing q) (in_others c v a h (or_left _ _ (subst (λ (x : Bool). T x) (remains_compute c v l a h) y)))))
        alone q a y (a_visit d h e) =
            absurd (T_not (hasb d 0) (none_left d)
            (subst (λ (x : ℕ). T (hasb d x)) (nothing q)
            (in_others c v d h
            (or_right _ _ (subst (λ (x : Bool). T x) (remains_visit c v l d h) (subst (λ (x : ℕ). T (remains c v l x)) e y))))))
        alone q a y (a_leave d e) =
            omega (arith, only d q (subst (λ (x : Bool). T x) (remains_leave c v l d) (subst (λ (x : ℕ). T (remains c v l x)) e y)))

    pub next_ready : (b : ℕ) → T (hasb b l) → NextLeave (b + 1) → T (leave_ready g by p c v l w b)
    unfolding leave_ready leave_free
    next_ready b t n =
        and_intro _ _ (⊎_elim (λ q. absurd (lower q)) (λ q. le→leb _ _ q) (below_or_not (lowest 64 l) b))
        (⊎_elim
        (λ q.
        subst⁻¹ (λ (x : Bool). T x) (chosen (eqb (remove b l) 0) _ _ q)
        (eq_T _ _ (no_member (others c v) (λ k y. let i = from_others c v k y in alone (eqb→eq _ _ q) k i.0 i.1))))
        (λ q.
        subst⁻¹ (λ (x : Bool). T x) (passed_over (eqb (remove b l) 0) _ _ q)
        (eq_T _ _ (no_member (common (synthesized_mask by (symbol_from g p 0) b) w) handed)))
        (tested (eqb (remove b l) 0)))
      where
        lower : lowest 64 l < b → ⊥
        lower q =
            let h : lowest 64 l < 64 = omega (arith, leave_few b t) in
            let e : 128 + lowest 64 l ≡ 128 + (lowest 64 l + 1 - 1) = omega arith in
            n.next (lowest 64 l + 1) (omega arith) (omega arith)
            (subst (λ (a : ℕ). T (remains c v l a)) e (left_leave c v l (lowest 64 l) (true_T _ (bit_has _ l ((lowest_is 64 l).member h)))))

        handed : (o : ℕ) → T (hasb o (common (synthesized_mask by (symbol_from g p 0) b) w)) → ⊥
        handed o y =
            let k = common_both o _ w y in
            let i = in_synthesized s by (symbol_from g p 0) b (seen_at g s by rows p r given 0 (omega arith)) (omega (arith, leave_few b t)) (leave_inside b t) o k.0 in
            let q : position o ≡ 0 = omega (arith, i.0) in
            let z : o % 8 ≡ o = omega (arith, i.0) in
            n.handed o k.1 q
            (sym (set_from g s by rows p r given 0 o q)
            ∙ (ap (λ (x : ℕ). set_number s (symbol_from g p 0) x) z ∙ (i.1 ∙ ap (λ (x : ℕ). 2 * (x + 1 - (b + 1)) - 1) (visits_from g s by rows p r given 0))))

        whole : remove b l ≡ 0 → b + 1 ≡ visits s (symbol_of g r 0)
        whole q =
            ⊎_elim
            (λ k.
            let e : 128 + b ≡ 128 + (b + 1 - 1) = omega arith in
            let f : 128 + (b + 2 - 1) ≡ 128 + (b + 1) = omega arith in
            absurd (T_not (hasb (b + 1) 0) (none_left (b + 1))
            (subst (λ (x : ℕ). T (hasb (b + 1) x)) q
            (subst⁻¹ (λ (x : Bool). T x) (has_other b (b + 1) l (λ y. omega arith))
            (subst (λ (x : Bool). T x) (remains_leave c v l (b + 1))
            (subst (λ (a : ℕ). T (remains c v l a)) f
            (later_leaves g (ids_of g) s r (orderly_rule g s by rows p r given) (five_visits g s by rows p r given) (remains c v l) w going (b + 1)
            (b + 2) (omega arith) (omega arith)
            (record { first = omega arith; last = omega arith }) (subst (λ (a : ℕ). T (remains c v l a)) e (left_leave c v l b t)))))))))
            (λ k. omega (arith, (left_side b t).last)) (below_or_not (b + 1) (visits s (symbol_of g r 0)))

        alone : remove b l ≡ 0 → (k : ℕ) → k < 64 → T (hasb k c) ⊎ T (hasb k v) → ⊥
        alone q k h (inl y) = omega (arith, n.last (whole q) k (left_compute c v l k h y))
        alone q k h (inr y) = omega (arith, n.last (whole q) (64 + k) (left_visit c v l k h y))
