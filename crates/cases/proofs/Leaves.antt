-- How far planning came where a refusal answers: 1 to 8 before it wrote anything, 9 with IDP, 10 with EDP, 12 to 18 after it was
-- done, and then the values stay. Assumes nothing.
use Prim.Native.Nat.{ℕ, ◌≤◌, ◌<◌}
use mathlib.Core.Path.{◌≡◌, refl, ◌∙◌}
use mathlib.Core.Bool.{cond}
use mathlib.Core.List.{List}
use native.Mathlib.Omega.{arith}
use lib.Dec.{leb, leb→le, le→leb, not_T}
use lib.IntN.{ℤ}
use lib.ListN.{length}
use Rattle.std.specs.Prelude.{Ok, Err}
use Rattle.basics.proofs.TestLaws.{chosen, passed_over}
use Rattle.refusals.specs.declared.Refusal.{Refusal}
use Rattle.grammar.specs.Verdicts.{Verdict}
use Rattle.plans.specs.Answer.{Outcome, untouched, circular_idp, unordered, accepted, outcome}
use Rattle.trees.specs.Checking.{check_tree}
use Rattle.runs.specs.Run.{ran, run_answer, values_after}
use Rattle.runner.specs.Whole.{came, left_plan, answer, values}
use Rattle.cases.specs.First.{room_walk, idp_walk, edp_walk, walk, earlier_walk}
use Rattle.cases.specs.AllCases.{in_plan, PlanRefuses, Refuses}
use Rattle.cases.proofs.PlanTests.{plan_walk}
use Rattle.cases.proofs.PlanOutcomes.{refused_with, plan_outcome, plan_done}
use Rattle.cases.proofs.RunTests.{not_refused, run_refused}

-- how far planning came, by the walk of the refusal
early : (g : List ℕ) (n : Refusal) → walk g n ≤ room_walk → refused_with g n ≡ untouched n
early g n h = chosen (leb (walk g n) room_walk) (untouched n) _ (le→leb (walk g n) room_walk h)

late : (g : List ℕ) (n : Refusal) → room_walk < walk g n → refused_with g n ≡ cond (leb (walk g n) idp_walk) (circular_idp n) (unordered n)
late g n h =
    passed_over (leb (walk g n) room_walk) (untouched n) _
    (not_T (leb (walk g n) room_walk) (λ t. let l : walk g n ≤ room_walk = leb→le (walk g n) room_walk t in omega arith))

ninth : (g : List ℕ) (n : Refusal) → walk g n ≡ idp_walk → refused_with g n ≡ circular_idp n
ninth g n e = late g n (omega arith) ∙ chosen (leb (walk g n) idp_walk) (circular_idp n) (unordered n) (le→leb (walk g n) idp_walk (omega arith))

after_nine_law : (g : List ℕ) (n : Refusal) → idp_walk < walk g n → refused_with g n ≡ unordered n
after_nine_law g n h =
    late g n (omega arith)
    ∙ passed_over (leb (walk g n) idp_walk) (circular_idp n) (unordered n)
    (not_T (leb (walk g n) idp_walk) (λ t. let l : walk g n ≤ idp_walk = leb→le (walk g n) idp_walk t in omega arith))

module _ (g rows plan : List ℕ) where
  abbrev reached : Outcome
  reached = outcome g (length rows) (length plan)

  module _ (n : Refusal) (refuses : PlanRefuses g (length rows) (length plan) n) where
    came_to : reached ≡ refused_with g n
    came_to = (plan_outcome g (length rows) (length plan) n).1 refuses

    -- "1 to 8 change nothing"
    pub early_came : walk g n ≤ room_walk → reached ≡ untouched n
    early_came h = came_to ∙ early g n h

    -- 9
    pub nine_came : walk g n ≡ idp_walk → reached ≡ circular_idp n
    nine_came h = came_to ∙ ninth g n h

    -- 10
    pub ten_came : idp_walk < walk g n → reached ≡ unordered n
    ten_came h = came_to ∙ after_nine_law g n h

  module _ (t : List ℕ) (vs : List ℤ) (budget : ℕ) (n : Refusal) (refuses : Refuses g (length rows) (length plan) t (length vs) n) where
    -- 12 to 18 come after planning
    pub tree_late : edp_walk < walk g n → reached ≡ accepted
    tree_late h =
        (plan_done g (length rows) (length plan)).1
        (λ m c. refuses.no_earlier m (in_plan c) (earlier_walk (omega (arith, plan_walk g (length rows) (length plan) m c))))

    -- "and leave the values": every refusal does
    pub values_stay_law : values g rows plan t vs budget ≡ vs
    unfolding values answer came
    values_stay_law = stay reached (check_tree g t (length vs)) ((run_refused g rows plan t vs budget n).1 refuses)
      where
        stay : (o : Outcome) (v : Verdict) → run_answer g (left_plan g rows plan) t o v vs budget ≡ Err n
            → values_after g (left_plan g rows plan) t o v vs budget ≡ vs
        stay (untouched k) v e = unfold values_after in refl
        stay (circular_idp k) v e = unfold values_after in refl
        stay (unordered k) v e = unfold values_after in refl
        stay accepted (Err k) e = unfold values_after in refl
        stay accepted (Ok _) e = absurd (not_refused (ran g (left_plan g rows plan) t vs budget).answer n (unfold run_answer in e))
