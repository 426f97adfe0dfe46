-- The lowest compute that nothing blocks is the next action: a compute is ready exactly where nothing blocks it, and every other action has a
-- higher number. Assumes nothing.
use Prim.Native.Nat.{ℕ, ◌<◌}
use mathlib.Core.Path.{◌≡◌, sym, subst, subst⁻¹}
use mathlib.Core.Logic.{⊎_elim}
use mathlib.Core.Bool.{Bool}
use mathlib.Core.List.{List}
use native.Mathlib.Omega.{arith}
use lib.Dec.{T, T_not}
use Rattle.bits.specs.Bit.{hasb, remove, First}
use Rattle.bits.proofs.MemberLaws.{none_left, has_not, has_other}
use Rattle.basics.proofs.TestLaws.{same_or_not}
use Rattle.grammar.specs.Limits.{row_words}
use Rattle.grammar.specs.Table.{defining}
use Rattle.relations.specs.Computed.{ids_of}
use Rattle.sequences.specs.Actions.{Action, compute, decode, makes}
use Rattle.sequences.proofs.ActionNumbers.{decode_compute}
use Rattle.sequences.proofs.ActionLaws.{belongs_compute, action_belongs}
use Rattle.sequences.proofs.MakesLaws.{makes_compute, compute_made}
use Rattle.sequencing.specs.Given.{RuleGiven}
use Rattle.remaining.specs.declared.ByVisit.{ByVisit as Kept}
use Rattle.remaining.specs.Remaining.{remains}
use Rattle.sequencing.specs.Going.{Going, Taken}
use Rattle.sequencing.specs.Blocked.{Unblocked}
use Rattle.remaining.proofs.MemberWalks.{first_member, under_first}
use Rattle.sequencing.proofs.ReadyComputes.{free_quiet, quiet_free}
use Rattle.sequencing.proofs.OrderSteps.{taken}
use Rattle.remaining.proofs.RemainsLaws.{remains_compute, less_compute}
use Rattle.sequencing.proofs.GivenLaws.{left_compute, ActionReady, orderly_rule, five_visits, row_path, waiting_fits}

module _ (g s : List ℕ) (by : Kept) (rows : List ℕ) (p r : ℕ) (given : RuleGiven g s by rows p r) where
  module _ (c v l w : ℕ) (going : Going g (ids_of g) s r (remains c v l) w) where
    computed : (o : ℕ) → o < 64 → T (hasb o c) → T (defining g r o)
    computed o h t =
        belongs_compute g s r o (action_belongs g s r o (compute o) (decode_compute o h) (going.actions o (left_compute c v l o h t)))

    module _ (quiet : ℕ) (rule : Unblocked rows (row_words r) w c quiet) where
      -- a compute is ready exactly where nothing blocks it
      unblocked : (o : ℕ) → o < 64 → T (hasb o c) → ActionReady g s r c v l o → T (hasb o quiet)
      unblocked o h t f =
          rule.all o t
          (λ x k u.
          free_quiet g (ids_of g) s r (orderly_rule g s by rows p r given) (five_visits g s by rows p r given) (remains c v l) w going o
          (computed o h t) f x k
          (subst (λ (b : Bool). T b) (row_path g s by rows p r given x o (waiting_fits g s by rows p r given c v l w going x k) h) u))

      ready_compute : (o : ℕ) → o < 64 → T (hasb o quiet) → ActionReady g s r c v l o
      ready_compute o h t =
          quiet_free g (ids_of g) s r (orderly_rule g s by rows p r given) (five_visits g s by rows p r given) (remains c v l) w going o
          (computed o h (rule.within o t)) h
          (λ x k q.
          rule.free o x t k
          (subst⁻¹ (λ (b : Bool). T b) (row_path g s by rows p r given x o (waiting_fits g s by rows p r given c v l w going x k) h) q))

      -- the lowest of them is next
      pub take_compute : (o : ℕ) → First quiet o
          → Taken g (ids_of g) s r (remains c v l) o (remains (remove o c) v l) (remove o w)
      take_compute o f =
          taken g (ids_of g) s r (remains c v l) w going o (left_compute c v l o f.small here)
          (ready_compute o f.small (first_member _ o f))
          (λ b k t u.
          under_first _ o b f k
          (unblocked b (omega (arith, f.small)) (subst (λ (x : Bool). T x) (remains_compute c v l b (omega (arith, f.small))) t) u))
          (remains (remove o c) v l) (less_compute c v l o f.small) (remove o w)
          (λ x t.
          ⊎_elim (λ q. absurd (T_not (hasb o (remove o w)) (has_not o w) (subst (λ (y : ℕ). T (hasb y (remove o w))) q t)))
          (λ q. (
            subst (λ (y : Bool). T y) (has_other o x w q) t,
            λ m. q (sym (makes_compute g s r o x (subst (λ (y : Action). T (makes g s r y x)) (decode_compute o f.small) m)).1),
          ))
          (same_or_not x o))
          (λ x t n.
          ⊎_elim
          (λ q.
          absurd (n (subst⁻¹ (λ (y : ℕ). T (makes g s r (decode o) y)) q
          (compute_made g s r o f.small (computed o f.small here)))))
          (λ q. subst⁻¹ (λ (y : Bool). T y) (has_other o x w q) t) (same_or_not x o))
        where
          here : T (hasb o c)
          here = rule.within o (first_member _ o f)

      pub no_compute_ready : quiet ≡ 0 → (o : ℕ) → o < 64 → T (remains c v l o) → ActionReady g s r c v l o → ⊥
      no_compute_ready e o h t f =
          T_not (hasb o 0) (none_left o)
          (subst (λ (x : ℕ). T (hasb o x)) e (unblocked o h (subst (λ (x : Bool). T x) (remains_compute c v l o h) t) f))
