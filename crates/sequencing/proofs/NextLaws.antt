-- The next action as the code meets it: what each of the three sets answers is the action that the tie rule takes, and what is then left and
-- waits is as it should be. Assumes nothing.
use Prim.Native.Nat.{ℕ, ◌+◌, ◌/◌, ◌%◌, ◌≤◌, ◌<◌}
use mathlib.Core.Path.{◌≡◌, sym, ◌∙◌, subst, subst⁻¹}
use mathlib.Core.Logic.{⊎_elim}
use mathlib.Core.Bool.{Bool}
use mathlib.Core.List.{List}
use native.Mathlib.Omega.{arith}
use lib.Dec.{T, T_not}
use lib.ListN.{length}
use Rattle.bits.specs.Bit.{hasb, remove, common, minus, First}
use Rattle.bits.proofs.MemberLaws.{none_left}
use Rattle.basics.proofs.TestLaws.{below_or_not}
use Rattle.grammar.specs.Limits.{most_symbols, row_words}
use Rattle.grammar.specs.Table.{symbol_of}
use Rattle.relations.specs.Computed.{ids_of}
use Rattle.access.specs.ByPlace.{symbol_from}
use Rattle.sequences.specs.Follows.{follows}
use Rattle.sequencing.specs.Given.{RuleGiven}
use Rattle.remaining.specs.declared.ByVisit.{ByVisit as Kept}
use Rattle.remaining.specs.Remaining.{remains, remaining, Done}
use Rattle.sequencing.specs.Going.{Going, Taken}
use Rattle.sequencing.specs.Blocked.{Unblocked}
use Rattle.remaining.specs.RuleSets.{handed_up, handed_down, wanted_next, FewLeaves, Along, ready_visits, ready_leaves}
use Rattle.remaining.proofs.MemberWalks.{first_member}
use Rattle.remaining.proofs.LeaveSetLaws.{leave_ready_at}
use Rattle.remaining.proofs.MaskLaws.{Passes, ready_at}
use Rattle.sequencing.proofs.GivenLaws.{symbol_low, five_visits}
use Rattle.sequencing.proofs.ComputesTaken.{take_compute, no_compute_ready}
use Rattle.sequencing.proofs.VisitsTaken.{child, seen_visits, rising, visit_along, take_visit, no_visit_ready}
use Rattle.sequencing.proofs.LeaveTests.{leave_few}
use Rattle.sequencing.proofs.LeavesTaken.{take_leave, ready_is_leave, some_leave}

module _ (g s : List ℕ) (by : Kept) (rows : List ℕ) (p r : ℕ) where
  module _ (c v l w : ℕ) where
    -- what was answered is what was taken
    done_taken : {before : ℕ → Bool} (action c' v' l' w' d' a x u m z y : ℕ) → Done action c' v' l' w' d' a x u m z y
        → Taken g (ids_of g) s r before a (remains x u m) z → Taken g (ids_of g) s r before action (remains c' v' l') w'
    done_taken {before} action c' v' l' w' d' a x u m z y e t =
        subst⁻¹ (λ (k : ℕ). Taken g (ids_of g) s r before k (remains c' v' l') w') e.action_is
        (subst⁻¹ (λ (k : ℕ). Taken g (ids_of g) s r before a (remains k v' l') w') e.computes_are
        (subst⁻¹ (λ (k : ℕ). Taken g (ids_of g) s r before a (remains x k l') w') e.visits_are
        (subst⁻¹ (λ (k : ℕ). Taken g (ids_of g) s r before a (remains x u k) w') e.leaves_are
        (subst⁻¹ (λ (k : ℕ). Taken g (ids_of g) s r before a (remains x u m) k) e.waiting_are t))))

    -- what is wanted stays where no visit is done
    pub along_kept : (d action c' v' l' w' d' a x m z : ℕ) → Along g by p v d → Done action c' v' l' w' d' a x v m z d → Along g by p v' d'
    along_kept d action c' v' l' w' d' a x m z along e =
        subst⁻¹ (λ (k : ℕ). Along g by p k d') e.visits_are (subst⁻¹ (λ (k : ℕ). Along g by p v k) e.wanted_are along)

    pub next_compute : (ready o action c' v' l' w' d d' : ℕ) → RuleGiven g s by rows p r → Going g (ids_of g) s r (remains c v l) w
        → Unblocked rows (row_words r) w c ready → First ready o → Done action c' v' l' w' d' o (remove o c) v l (remove o w) d
        → Taken g (ids_of g) s r (remains c v l) action (remains c' v' l') w'
    next_compute ready o action c' v' l' w' d d' given going k f done =
        done_taken action c' v' l' w' d' o (remove o c) v l (remove o w) d done
        (take_compute g s by rows p r given c v l w going ready k o f)

    pub next_visit : (ready calls b action c' v' l' w' d d' e' : ℕ) → RuleGiven g s by rows p r
        → Going g (ids_of g) s r (remains c v l) w → Along g by p v d → Unblocked rows (row_words r) w c ready → ready ≡ 0
        → calls ≡ ready_visits v (common d w) → First calls b
        → Done action c' v' l' w' d' (64 + b) c (remove b v) l (minus w (handed_up g by p b)) e'
        → Taken g (ids_of g) s r (remains c v l) action (remains c' v' l') w'
    next_visit ready calls b action c' v' l' w' d d' e' given going along k z e f done =
        done_taken action c' v' l' w' d' (64 + b) c (remove b v) l (minus w (handed_up g by p b)) e' done
        (take_visit g s by rows p r given c v l w going d along b (no_compute_ready g s by rows p r given c v l w going ready k z)
        (subst (λ (x : ℕ). First x b) e f))

    -- a visit that is ready is left, and passes the test
    ready_there : (d calls b : ℕ) → RuleGiven g s by rows p r → Going g (ids_of g) s r (remains c v l) w → Along g by p v d → calls ≡ ready_visits v (common d w) → First calls b → (b < 64) × T (hasb b v) × Passes g s p v w b
    ready_there d calls b given going along e f =
        ready_at g s by p v w d (seen_visits g s by rows p r given c v l w going) (rising g s by rows p r given c v l w going) along b
        (subst (λ (x : ℕ). T (hasb b x)) e (first_member calls b f))

    pub along_next : (calls b action c' v' l' w' d d' a x m z : ℕ) → RuleGiven g s by rows p r → Going g (ids_of g) s r (remains c v l) w
        → Along g by p v d → calls ≡ ready_visits v (common d w) → First calls b
        → Done action c' v' l' w' d' a x (remove b v) m z (wanted_next g by p b d) → Along g by p v' d'
    along_next calls b action c' v' l' w' d d' a x m z given going along e f done =
        let there = ready_there d calls b given going along e f in
        subst⁻¹ (λ (k : ℕ). Along g by p k d') done.visits_are
        (subst⁻¹ (λ (k : ℕ). Along g by p (remove b v) k) done.wanted_are
        (visit_along g s by rows p r given c v l w going d along b there.0 there.1 there.2.next))

    -- it is a visit of a child, one of few
    pub visit_child : (d calls b : ℕ) → RuleGiven g s by rows p r → Going g (ids_of g) s r (remains c v l) w → Along g by p v d
        → calls ≡ ready_visits v (common d w) → First calls b → symbol_from g p (b / 8) < most_symbols
    visit_child d calls b given going along e f =
        symbol_low g s by rows p r given (b / 8)
        (child g s by rows p r given c v l w going b f.small (ready_there d calls b given going along e f).1).inside

    pub visit_few : (d calls b : ℕ) → RuleGiven g s by rows p r → Going g (ids_of g) s r (remains c v l) w → Along g by p v d
        → calls ≡ ready_visits v (common d w) → First calls b → b % 8 < 7
    visit_few d calls b given going along e f =
        omega (
          arith,
          (child g s by rows p r given c v l w going b f.small (ready_there d calls b given going along e f).1).last,
          five_visits g s by rows p r given (symbol_of g r (b / 8)),
        )

    -- the leaves of the left side are few
    pub leaves_left : RuleGiven g s by rows p r → Going g (ids_of g) s r (remains c v l) w → FewLeaves l
    leaves_left given going b t = leave_few g s by rows p r given c v l w going b t

    pub next_leave : (ready calls leaves b action c' v' l' w' d d' : ℕ) → RuleGiven g s by rows p r
        → Going g (ids_of g) s r (remains c v l) w → Along g by p v d → Unblocked rows (row_words r) w c ready → ready ≡ 0
        → calls ≡ ready_visits v (common d w) → calls ≡ 0 → leaves ≡ ready_leaves g by p c v l w → First leaves b
        → Done action c' v' l' w' d' (128 + b) c v (remove b l) (minus w (handed_down g by p b)) d
        → Taken g (ids_of g) s r (remains c v l) action (remains c' v' l') w'
    next_leave ready calls leaves b action c' v' l' w' d d' given going along k z n h m f done =
        done_taken action c' v' l' w' d' (128 + b) c v (remove b l) (minus w (handed_down g by p b)) d done
        (take_leave g s by rows p r given c v l w going (no_compute_ready g s by rows p r given c v l w going ready k z)
        (no_visit_ready g s by rows p r given c v l w going d along (sym n ∙ h)) b (subst (λ (x : ℕ). First x b) m f))

    -- where nothing else is ready a leave is
    pub leave_ready_then : (ready calls leaves d : ℕ) → RuleGiven g s by rows p r
        → Going g (ids_of g) s r (remains c v l) w → 1 ≤ length (remaining (remains c v l)) → Along g by p v d
        → Unblocked rows (row_words r) w c ready → ready ≡ 0 → calls ≡ ready_visits v (common d w)
        → calls ≡ 0 → leaves ≡ ready_leaves g by p c v l w → 0 < leaves
    leave_ready_then ready calls leaves d given going some along k z n i m =
        ⊎_elim (λ h. h)
        (λ h.
        let y : leaves ≡ 0 = omega arith in
        absurd (T_not (hasb t.0 0) (none_left t.0)
        (subst (λ (x : ℕ). T (hasb t.0 x)) (sym m ∙ y) (ready_is_leave g s by rows p r given c v l w going t.0 t.1 t.2))))
        (below_or_not 0 leaves)
      where
        t : (d : ℕ) × T (hasb d l) × ((b : ℕ) → T (remains c v l b) → T (follows g (ids_of g) s r (128 + d) b) → ⊥)
        t =
            some_leave g s by rows p r given c v l w going (no_compute_ready g s by rows p r given c v l w going ready k z)
            (no_visit_ready g s by rows p r given c v l w going d along (sym n ∙ i)) some

    pub leave_inside : (leaves b : ℕ) → RuleGiven g s by rows p r → Going g (ids_of g) s r (remains c v l) w → leaves ≡ ready_leaves g by p c v l w
        → First leaves b → b < 7
    leave_inside leaves b given going m f =
        leaves_left given going b (leave_ready_at g by p c v l w b (subst (λ (x : ℕ). T (hasb b x)) m (first_member leaves b f))).1
