-- The code meets the three demands: whatever `plan` or `run` may answer and leave by its contract meets them, on every input, and for each
-- input its contract is met by one answer and one content of the buffers. Assumes nothing.
use Prim.Native.Nat.{ℕ, ◌≤◌}
use mathlib.Core.Path.{◌≡◌, refl, sym, ◌∙◌, ap, subst, subst⁻¹}
use mathlib.Core.List.{List}
use native.Mathlib.Omega.{arith}
use lib.Dec.{T}
use lib.IntN.{ℤ}
use lib.ListN.{length}
use Rattle.std.specs.Prelude.{Result}
use Rattle.refusals.specs.declared.Refusal.{Refusal}
use Rattle.grammar.specs.Limits.{plan_words}
use Rattle.grammar.specs.Verdicts.{Verdict, Good}
use Rattle.grammar.specs.Table.{rules, rule_counts}
use Rattle.grammar.specs.Reading.{read_table}
use Rattle.grammar.specs.WellFormed.{WellFormed}
use Rattle.grammar.proofs.FormedTable.{accepted_exactly_law as read_exactly}
use Rattle.order.specs.Paper.{IsOrdered}
use Rattle.order.proofs.WholeGrammar.{computed_sets, one_numbering_law, ordered_idp, sets_exist_law, neighbouring_same}
use Rattle.sequences.specs.Paper.{Sequence}
use Rattle.sequences.proofs.PaperSequence.{sequence_obeys, sequence_only, paper_ready, all_actions_law}
use Rattle.plans.specs.Answer.{Outcome, accepted, outcome, room, answer_of, rows_after, plan_after}
use Rattle.plans.proofs.Ordered.{accepted_exactly_law, ordered_free}
use Rattle.plans.proofs.Left.{accepted_written}
use Rattle.plans.proofs.Stays.{accepted_room, rows_stay, plan_stay}
use Rattle.planner.specs.Answered.{Answered}
use Rattle.planner.proofs.RoomLaws.{both_long}
use Rattle.trees.specs.Checking.{check_tree}
use Rattle.trees.proofs.AcceptedTree.{accepted_tree}
use Rattle.runs.specs.declared.Report.{Report}
use Rattle.runs.specs.Sound.{Sound}
use Rattle.runs.specs.Automaton.{Machine}
use Rattle.runs.specs.Totals.{total_of, total}
use Rattle.runs.specs.Run.{reported, ran, run_answer, values_after}
use Rattle.runs.proofs.PlannedSound.{planned_sound}
use Rattle.runs.proofs.Totals.{total_stands}
use Rattle.runs.proofs.EverySoundPlan as run
use Rattle.runner.specs.Whole as whole
use Rattle.runner.specs.Answered as runner
use Rattle.cases.specs.First.{edp_walk, walk}
use Rattle.cases.specs.PlanningCases.{PlanCase}
use Rattle.cases.specs.TreeCases.{TreeCase}
use Rattle.cases.specs.AllCases.{RunCase, in_plan, in_tree, PlanRefuses, Refuses}
use Rattle.cases.proofs.TreeKeys.{tree_place}
use Rattle.cases.proofs.PlanTests.{plan_walk}
use Rattle.cases.proofs.Refusals.{outcome_accepted, planning_refused, planning_accepted, tree_good, run_refused}
use Rattle.cases.proofs.Leaves.{tree_late, values_stay_law}
use Rattle.demands.specs.Demands.{Demand1, Demand1Run, Given, Demand2, Demand3, Demand3Run}
use Rattle.demands.proofs.LeavesLaws.{accepted_read, written_accepted, leaves_of}

module _ (g rows plan : List ℕ) where
  abbrev came : Outcome
  came = outcome g (length rows) (length plan)

  pub computed_1 : Demand1 g rows plan (answer_of g came) (rows_after g came rows) (plan_after g came plan)
  computed_1 =
      record {
        refuses = planning_refused g (length rows) (length plan);
        accepts = planning_accepted g (length rows) (length plan);
        leaves = λ n e.
            let f : PlanRefuses g (length rows) (length plan) n = (planning_refused g (length rows) (length plan) n).0 e in
            leaves_of g rows plan n (λ h. f)
            (λ h. absurd (omega (arith, plan_walk g (length rows) (length plan) n f.applies)));
        stays = record { rows_beyond = rows_stay g rows plan; plan_beyond = plan_stay g rows plan };
      }

  -- "Every table, tree and buffer size gets an answer."
  pub every_plan : (answer : Result ℕ Refusal) × (rows' : List ℕ) × (plan' : List ℕ) × Demand1 g rows plan answer rows' plan'
  every_plan = (answer_of g came, rows_after g came rows, plan_after g came plan, computed_1)

  -- Demand 1, of `plan`.
  pub demand_1 : (answer : Result ℕ Refusal) (rows' plan' : List ℕ) → Answered g rows plan answer rows' plan' → Demand1 g rows plan answer rows' plan'
  demand_1 answer rows' plan' w =
      subst⁻¹ (λ (a : Result ℕ Refusal). Demand1 g rows plan a rows' plan') w.answers
      (subst⁻¹ (λ (x : List ℕ). Demand1 g rows plan (answer_of g came) x plan') w.rows_are
      (subst⁻¹ (λ (x : List ℕ). Demand1 g rows plan (answer_of g came) (rows_after g came rows) x) w.plan_is computed_1))

  -- Demand 2, of a well-formed table with room.
  module _ (given : Given g rows plan) where
    good : read_table g ≡ Good
    good = (read_exactly g).1 given.formed

    space : room g (length rows) (length plan) ≡ Good
    space = sym (both_long g (length rows) (length plan) (rules g) refl given.rows_room given.plan_room)

    ordered_came : IsOrdered g → came ≡ accepted
    ordered_came o = (accepted_exactly_law g good (length rows) (length plan) space).1 o

    pub computed_2 : Demand2 g (answer_of g came) (rows_after g came rows) (plan_after g came plan)
    unfolding plan_after
    computed_2 =
        record {
          accepted_exactly = (
            λ e.
                (accepted_exactly_law g good (length rows) (length plan) space).0
                ((outcome_accepted g (length rows) (length plan)).1 ((planning_accepted g (length rows) (length plan) (plan_words (rules g))).0 e).1),
            λ o.
                (planning_accepted g (length rows) (length plan) (plan_words (rules g))).1
                (refl, (outcome_accepted g (length rows) (length plan)).0 (ordered_came o)),
          );
          written = λ o set sets. written_accepted g rows plan (ordered_came o) set sets;
          sets_exist = λ free. (computed_sets g, sets_exist_law g good free);
          one_numbering = one_numbering_law g;
          neighbouring = λ free set sets. neighbouring_same g good free set sets;
          sequence = λ o r c. (_, sequence_obeys g good (ordered_idp g given.formed o) o.set o.are_sets r c);
          one_sequence = λ o r c s t v w.
              let only = sequence_only g good (ordered_idp g given.formed o) o.set o.are_sets r c in only s v ∙ sym (only t w);
          always_ready = λ o r c. paper_ready g good o o.set o.are_sets r c;
          all_actions = λ o r c. all_actions_law g good o o.set o.are_sets r c;
          sound = λ o.
              let f = ordered_free g good o in
              subst⁻¹ (λ (x : Outcome). Sound g (plan_after g x plan)) (ordered_came o) (planned_sound g good plan f.no_idp_cycle f.no_edp_cycle);
        }

    pub demand_2 : (answer : Result ℕ Refusal) (rows' plan' : List ℕ) → Answered g rows plan answer rows' plan' → Demand2 g answer rows' plan'
    demand_2 answer rows' plan' w =
        subst⁻¹ (λ (a : Result ℕ Refusal). Demand2 g a rows' plan') w.answers
        (subst⁻¹ (λ (x : List ℕ). Demand2 g (answer_of g came) x plan') w.rows_are
        (subst⁻¹ (λ (x : List ℕ). Demand2 g (answer_of g came) (rows_after g came rows) x) w.plan_is computed_2))

-- Demand 3 for every sound plan, whoever drew it up, and every tree to which no case of 12 to 18 applies.
pub demand_3_sound : (g p t : List ℕ) (v : List ℤ) (budget : ℕ) → WellFormed g → Sound g p → ((n : Refusal) → ¬ TreeCase g t (length v) n)
    → Demand3 g p t v budget (total p t) (reported (ran g p t v budget).answer) (ran g p t v budget).machine.values
demand_3_sound g p t v budget formed sound none =
    let good : read_table g ≡ Good = (read_exactly g).1 formed in
    let tree : check_tree g t (length v) ≡ Good = (tree_good g t (length v) good).1 none in
    record {
      done = λ h. ap reported (run.run_done g p t v good sound tree budget h);
      stopped = λ h. ap reported (run.run_stopped g p t v good sound tree budget h);
      same_run = ap (λ (m : Machine). m.values) (run.run_machine g p t v good sound tree budget);
      once = run.attribute_once g p t v good sound tree;
      after_arguments = run.arguments_before g p t v good sound tree;
      solves = run.run_solves g p t v good sound tree budget;
      only_ones = run.run_only g p t v good sound tree budget;
      as_many = run.run_length g p t v good sound tree budget;
      others = run.run_others g p t v good sound tree budget;
      stack_bound = run.stack_bound_law g p t v good sound tree;
    }

module _ (g rows plan t : List ℕ) (v : List ℤ) (budget : ℕ) where
  abbrev reached : Outcome
  reached = outcome g (length rows) (length plan)

  -- a case of planning is the first of all cases exactly where it is the first of planning's
  pub plan_first : (n : Refusal) → Refuses g (length rows) (length plan) t (length v) n → walk g n ≤ edp_walk → PlanRefuses g (length rows) (length plan) n
  plan_first n f h = record { applies = of_plan f.applies; no_earlier = λ m c. f.no_earlier m (in_plan c) }
    where
      of_plan : RunCase g (length rows) (length plan) t (length v) n → PlanCase g (length rows) (length plan) n
      of_plan (in_plan c) = c
      of_plan (in_tree c) = absurd (omega (arith, (tree_place g t (length v) n c).late))

  pub computed_1_run : Demand1Run g rows plan t v (whole.answer g rows plan t v budget) (whole.values g rows plan t v budget)
      (rows_after g reached rows) (plan_after g reached plan)
  computed_1_run =
      record {
        refuses = run_refused g rows plan t v budget;
        leaves = λ n e.
            let f = (run_refused g rows plan t v budget n).0 e in
            leaves_of g rows plan n (plan_first n f) (tree_late g rows plan t v budget n f);
        values_stay = λ n e. values_stay_law g rows plan t v budget n ((run_refused g rows plan t v budget n).0 e);
        written = λ none. written_accepted g rows plan ((outcome_accepted g (length rows) (length plan)).1 (λ n c. none n (in_plan c)));
        stays = record { rows_beyond = rows_stay g rows plan; plan_beyond = plan_stay g rows plan };
      }

  pub every_run : (answer : Result Report Refusal) × (v' : List ℤ) × (rows' : List ℕ) × (plan' : List ℕ) × Demand1Run g rows plan t v answer v' rows' plan'
  every_run = (
    whole.answer g rows plan t v budget,
    whole.values g rows plan t v budget,
    rows_after g reached rows,
    plan_after g reached plan,
    computed_1_run,
  )

  -- Demand 1, of `run`.
  pub demand_1_run : (answer : Result Report Refusal) (v' : List ℤ) (rows' plan' : List ℕ) → runner.Answered g rows plan t v budget answer v' rows' plan'
      → Demand1Run g rows plan t v answer v' rows' plan'
  unfolding whole.came
  demand_1_run answer v' rows' plan' w =
      let told : Result Report Refusal = whole.answer g rows plan t v budget in
      subst⁻¹ (λ (a : Result Report Refusal). Demand1Run g rows plan t v a v' rows' plan') w.answers
      (subst⁻¹ (λ (x : List ℤ). Demand1Run g rows plan t v told x rows' plan') w.values_are
      (subst⁻¹ (λ (x : List ℕ). Demand1Run g rows plan t v told (whole.values g rows plan t v budget) x plan') w.rows_are
      (subst⁻¹ (λ (x : List ℕ). Demand1Run g rows plan t v told (whole.values g rows plan t v budget) (rows_after g reached rows) x)
      w.plan_is computed_1_run)))

  -- Demand 3, of `run`, where no case of 1 to 18 applies.
  module _ (none : (n : Refusal) → ¬ RunCase g (length rows) (length plan) t (length v) n) where
    pub is_accepted : reached ≡ accepted
    is_accepted = (outcome_accepted g (length rows) (length plan)).1 (λ n c. none n (in_plan c))

    pub is_read : read_table g ≡ Good
    is_read = accepted_read g rows plan is_accepted

    is_tree : check_tree g t (length v) ≡ Good
    is_tree = (tree_good g t (length v) is_read).1 (λ n c. none n (in_tree c))

    has_room : room g (length rows) (length plan) ≡ Good
    has_room = accepted_room g (length rows) (length plan) is_accepted

    -- the grammar is ordered
    pub run_ordered : IsOrdered g
    run_ordered = (accepted_exactly_law g is_read (length rows) (length plan) has_room).0 is_accepted

    abbrev p : List ℕ
    p = plan_after g accepted plan

    planned : Sound g p
    unfolding plan_after
    planned = let f = ordered_free g is_read run_ordered in planned_sound g is_read plan f.no_idp_cycle f.no_edp_cycle

    -- what is answered and left is what a run of that plan answers and leaves
    is_run : (answer : Result Report Refusal) (v' : List ℤ) (rows' plan' : List ℕ) → runner.Answered g rows plan t v budget answer v' rows' plan'
        → (plan' ≡ p) × (answer ≡ reported (ran g p t v budget).answer) × (v' ≡ (ran g p t v budget).machine.values)
    unfolding whole.came whole.answer whole.values run_answer values_after
    is_run answer v' rows' plan' w =
        let left : plan_after g reached plan ≡ p = ap (λ (o : Outcome). plan_after g o plan) is_accepted in (
          w.plan_is ∙ left,
          w.answers
              ∙ (ap (λ (x : List ℕ). run_answer g x t reached (check_tree g t (length v)) v budget) left
              ∙ (ap (λ (o : Outcome). run_answer g p t o (check_tree g t (length v)) v budget) is_accepted
              ∙ ap (λ (c : Verdict). run_answer g p t accepted c v budget) is_tree)),
          w.values_are
              ∙ (ap (λ (x : List ℕ). values_after g x t reached (check_tree g t (length v)) v budget) left
              ∙ (ap (λ (o : Outcome). values_after g p t o (check_tree g t (length v)) v budget) is_accepted
              ∙ ap (λ (c : Verdict). values_after g p t accepted c v budget) is_tree)),
        )

    runs : (answer : Result Report Refusal) (v' : List ℤ) (rows' plan' : List ℕ) → runner.Answered g rows plan t v budget answer v' rows' plan'
        → (o : IsOrdered g) (sequence : ℕ → List ℕ) → ((r : ℕ) → T (rule_counts g r) → Sequence g o.set r (sequence r))
        → Demand3 g plan' t v budget (total_of sequence t) answer v'
    runs answer v' rows' plan' w o sequence are =
        let e = is_run answer v' rows' plan' w in
        let formed : WellFormed g = (read_exactly g).0 is_read in
        let added : total p t ≡ total_of sequence t =
        total_stands g p t (length v) (accepted_tree g t (length v) formed is_tree) sequence
        (λ r c.
        (accepted_written g is_read (ordered_idp g formed o) o.set o.are_sets rows plan).sequence r c (sequence r) (are r c)) in
        subst⁻¹ (λ (x : List ℕ). Demand3 g x t v budget (total_of sequence t) answer v') e.0
        (subst⁻¹ (λ (a : Result Report Refusal). Demand3 g p t v budget (total_of sequence t) a v') e.1
        (subst⁻¹ (λ (x : List ℤ). Demand3 g p t v budget (total_of sequence t) (reported (ran g p t v budget).answer) x) e.2
        (subst (λ (n : ℕ). Demand3 g p t v budget n (reported (ran g p t v budget).answer) (ran g p t v budget).machine.values) added
        (demand_3_sound g p t v budget formed planned (λ n c. none n (in_tree c))))))

    pub demand_3 : (answer : Result Report Refusal) (v' : List ℤ) (rows' plan' : List ℕ) → runner.Answered g rows plan t v budget answer v' rows' plan'
        → Demand3Run g t v budget answer v' plan'
    demand_3 answer v' rows' plan' w = record { ordered = run_ordered; runs = runs answer v' rows' plan' w }
