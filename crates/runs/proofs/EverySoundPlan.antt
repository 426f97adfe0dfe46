-- Demand 3 for every sound plan, whoever drew it up, and every accepted tree: how long the run takes, what it computes and when, what it
-- leaves in the values, and that nothing else solves the tree. Assumes nothing.
use Prim.Native.Nat.{ℕ, suc, ◌+◌, ◌*◌, ◌≤◌, ◌<◌, min}
use mathlib.Core.Path.{◌≡◌, refl, sym, ◌∙◌, ap, subst⁻¹}
use mathlib.Core.Logic.{◌⊎◌, ⊎_elim}
use mathlib.Core.Bool.{not}
use mathlib.Core.List.{List, [], ◌∷◌}
use native.Mathlib.Omega.{arith}
use lib.Dec.{T, lt→ltb}
use lib.IntN.{ℤ}
use lib.ListN.{length}
use Rattle.std.specs.Prelude.{Ok}
use Rattle.basics.specs.Lists.{word}
use Rattle.basics.proofs.TestLaws.{below_or_not}
use Rattle.grammar.specs.Limits.{longest_sequence}
use Rattle.grammar.specs.Verdicts.{Good}
use Rattle.grammar.specs.Table.{rules, attributes, functions, target, argument, arguments, position}
use Rattle.grammar.specs.Reading.{read_table}
use Rattle.grammar.proofs.AcceptedTable.{accepted}
use Rattle.sequences.specs.Actions.{is_action}
use Rattle.trees.specs.Tree.{most_nodes, nodes, rule_of, applies_rule, symbol_at_node, node_at, cell, value_words}
use Rattle.trees.specs.Checking.{check_tree}
use Rattle.trees.specs.Equations.{value_at, function_value, Solution, SameTerminals}
use Rattle.trees.specs.Definers.{DefinedAt, AttributeOf}
use Rattle.trees.proofs.AcceptedTree.{accepted_tree}
use Rattle.runs.specs.declared.Ran as R
use Rattle.plans.specs.Sequences.{sequence_length, action_at}
use Rattle.runs.specs.Sound.{Sound}
use Rattle.runs.specs.Automaton.{Machine, started, after}
use Rattle.plans.specs.Answer.{accepted as planned}
use Rattle.runs.specs.Totals.{total}
use Rattle.runs.specs.Run.{Ended, reported, ran, run_answer, values_after}
use Rattle.runs.specs.Depth.{longest_down}
use Rattle.runs.specs.Balance.{RunGiven, times, Balanced}
use Rattle.runs.specs.Computing.{machine_at, Computing, AboutTo, ComputedBefore, ExactlyOnce}
use Rattle.runs.proofs.Steps.{top_inside, top_applies, no_node_twice}
use Rattle.runs.proofs.Balance.{top_left}
use Rattle.runs.proofs.BalanceKept.{after_balanced}
use Rattle.runs.proofs.StepsCounted.{busy, empty_after, all_at_end}
use Rattle.runs.proofs.TotalFits.{total_bound}
use Rattle.runs.proofs.RunAnswers.{ran_done, ran_stopped}
use Rattle.runs.proofs.ComputedOnce.{balanced_at, defined_computed, attribute_computed, computed_once, only_attributes, no_terminal}
use Rattle.runs.proofs.AfterArguments.{after_arguments}
use Rattle.runs.proofs.ValuesWritten.{values_length, compute_writes}
use Rattle.runs.proofs.Solved.{solved, terminals_stay}
use Rattle.runs.proofs.OthersStay.{others_stay, beyond_stays, nothing_stays}
use Rattle.runs.proofs.OnlySolution.{only_solution}
use Rattle.runs.proofs.SameValues.{same_values}
use Rattle.runs.proofs.StackDepth.{stack_depth, stack_fits}

module _ (g p t : List ℕ) (values : List ℤ) (good : read_table g ≡ Good) (sound : Sound g p) (tree : check_tree g t (length values) ≡ Good) where
  -- what the run is given
  pub given : RunGiven g p t (length values)
  given = record { table = accepted g good; sound = sound; tree = accepted_tree g t (length values) (accepted g good) tree }

  -- "done with its count of actions", which is what the lengths of the nodes' sequences add up to
  pub run_done : (budget : ℕ) → total p t ≤ budget → (ran g p t values budget).answer ≡ R.TheVariants.Done (total p t)
  run_done budget h = ap (λ (e : Ended). e.answer) (ran_done given values budget h)

  -- "or stopped with the budget"
  pub run_stopped : (budget : ℕ) → budget < total p t → (ran g p t values budget).answer ≡ R.TheVariants.Stopped budget
  run_stopped budget h = ap (λ (e : Ended). e.answer) (ran_stopped given values budget h)

  -- what is left is the automaton after the budget, or after the total
  pub run_machine : (budget : ℕ) → (ran g p t values budget).machine ≡ after g p t (min budget (total p t)) (started t values)
  run_machine budget =
      ⊎_elim
      (λ h.
      let e : budget ≡ min budget (total p t) = omega arith in
      ap (λ (x : Ended). x.machine) (ran_stopped given values budget h) ∙ ap (λ (k : ℕ). after g p t k (started t values)) e)
      (λ h.
      let e : total p t ≡ min budget (total p t) = omega arith in
      ap (λ (x : Ended). x.machine) (ran_done given values budget h) ∙ ap (λ (k : ℕ). after g p t k (started t values)) e)
      (below_or_not budget (total p t))

  -- the same of a table that is planned and a tree that is accepted: what is answered
  pub answer_done : (budget : ℕ) → total p t ≤ budget → run_answer g p t planned Good values budget ≡ Ok (record { ran = R.TheVariants.Done (total p t) })
  unfolding run_answer
  answer_done budget h = ap reported (run_done budget h)

  pub answer_stopped : (budget : ℕ) → budget < total p t → run_answer g p t planned Good values budget ≡ Ok (record { ran = R.TheVariants.Stopped budget })
  unfolding run_answer
  answer_stopped budget h = ap reported (run_stopped budget h)

  -- and the values that are left
  pub values_left : (budget : ℕ) → values_after g p t planned Good values budget ≡ (machine_at g p t values (min budget (total p t))).values
  unfolding values_after
  values_left budget = ap (λ (m : Machine). m.values) (run_machine budget)

  -- after the total where the budget lasts
  pub run_end : (budget : ℕ) → total p t ≤ budget → (ran g p t values budget).machine ≡ after g p t (total p t) (started t values)
  run_end budget h = ap (λ (e : Ended). e.machine) (ran_done given values budget h)

  -- at the end the stack is empty
  pub run_empties : (budget : ℕ) → total p t ≤ budget → (ran g p t values budget).machine.stack ≡ []
  run_empties budget h = ap (λ (m : Machine). m.stack) (run_end budget h) ∙ empty_after given values

  -- and every node is at the end of its sequence
  pub run_completes : (budget : ℕ) → total p t ≤ budget → (n : ℕ) → n < nodes t → T (applies_rule t n)
      → word (ran g p t values budget).machine.places n ≡ sequence_length p (rule_of t n)
  run_completes budget h n i a = ap (λ (m : Machine). word m.places n) (run_end budget h) ∙ all_at_end given values n i a

  -- before the total a node is on top
  pub run_busy : (k : ℕ) → k < total p t → (n : ℕ) × (rest : List ℕ) × ((machine_at g p t values k).stack ≡ n ∷ rest)
  run_busy k h = busy given values k h

  -- the node on top is a node that applies a rule
  pub top_node : (k n : ℕ) (rest : List ℕ) → (machine_at g p t values k).stack ≡ n ∷ rest → (n < nodes t) × T (applies_rule t n)
  top_node k n rest e =
      let b : Balanced g p t (n ∷ rest) (machine_at g p t values k).places = balanced_at given values k n rest e in
      (top_inside given n rest b.path, top_applies given n rest b.path)

  -- it has an action left
  pub top_goes_on : (k n : ℕ) (rest : List ℕ) → (machine_at g p t values k).stack ≡ n ∷ rest
      → word (machine_at g p t values k).places n < sequence_length p (rule_of t n)
  top_goes_on k n rest e = top_left given n rest (machine_at g p t values k).places (balanced_at given values k n rest e)

  -- and that action belongs to its rule
  pub top_belongs : (k n : ℕ) (rest : List ℕ) → (machine_at g p t values k).stack ≡ n ∷ rest
      → T (is_action g p (rule_of t n) (action_at p (rule_of t n) (word (machine_at g p t values k).places n)))
  top_belongs k n rest e =
      let a : rule_of t n < rules g = given.tree.rule_known n (top_node k n rest e).0 (top_node k n rest e).1 in
      (sound.rule (rule_of t n) (lt→ltb (rule_of t n) (rules g) a)).nothing_else _ (top_goes_on k n rest e)

  -- the total is at most as many actions a node as a sequence has room for
  pub total_fits : total p t ≤ longest_sequence * nodes t
  total_fits = total_bound given

  -- no node stands on the stack twice
  pub stack_once : (k n : ℕ) → times n (machine_at g p t values k).stack ≤ 1
  stack_once k n = no_node_twice given n (machine_at g p t values k).stack (after_balanced given values k).path

  -- "The stack never exceeds the number of nonterminals on the longest path down."
  pub stack_bound_law : (k : ℕ) → length (machine_at g p t values k).stack ≤ longest_down g t
  stack_bound_law k = stack_depth given values k

  -- so it fits the arrays of 1,024
  pub stack_array : (k : ℕ) → length (machine_at g p t values k).stack ≤ most_nodes
  stack_array k = stack_fits given values k

  -- every attribute of every nonterminal node is computed exactly once
  pub attribute_once : (n a : ℕ) → T (applies_rule t n) → AttributeOf g t n a → ExactlyOnce g p t values (total p t) (8 * n + a)
  attribute_once n a h w =
      let v = attribute_computed given values n a h w in
      record {
        moment = v.0;
        inside = v.1;
        about_to = v.2;
        no_other = λ k u. computed_once given values k v.0 (8 * n + a) u v.2;
      }

  -- every defining occurrence of the rule at every node is computed exactly once
  pub occurrence_once : (n o : ℕ) → DefinedAt g t n o → ExactlyOnce g p t values (total p t) (cell t n o)
  occurrence_once n o d =
      let v = defined_computed given values n o d in
      let u : AboutTo g p t values v.0 (cell t n o) = record { node = n; occurs = o; computing = v.2; is_cell = refl } in
      record { moment = v.0; inside = v.1; about_to = u; no_other = λ k w. computed_once given values k v.0 (cell t n o) w u }

  -- a compute writes the value of its function, by the values before it
  pub compute_value : (k n f : ℕ) → f < functions g (rule_of t n) → Computing g p t values k n (target g (rule_of t n) f)
      → value_at (machine_at g p t values (suc k)).values (cell t n (target g (rule_of t n) f))
      ≡ function_value g t (machine_at g p t values k).values n f
  compute_value k n f h w = compute_writes values given k n f h w

  -- nothing else is computed
  pub attributes_only : (k c : ℕ) → AboutTo g p t values k c
      → (n : ℕ) × (a : ℕ) × (c ≡ 8 * n + a) × T (applies_rule t n) × AttributeOf g t n a
  attributes_only k c v = only_attributes given values k c v

  -- a terminal's least of all
  pub terminals_never : (k n a : ℕ) → a < 8 → T (not (applies_rule t n)) → AboutTo g p t values k (8 * n + a) → ⊥
  terminals_never k n a h s v = no_terminal given values k n a h s v

  -- each function after its arguments, which are terminals' or computed earlier
  pub arguments_before : (k n o f j : ℕ) → Computing g p t values k n o → f < functions g (rule_of t n) → target g (rule_of t n) f ≡ o
      → j < arguments g (rule_of t n) f
      → T (not (applies_rule t (node_at t n (position (argument g (rule_of t n) f j)))))
      ⊎ ComputedBefore g p t values k (cell t n (argument g (rule_of t n) f j))
  arguments_before k n o f j w h e s = after_arguments given values k n o f j w h e s

  -- the values at the end satisfy every equation of the tree
  pub run_solves : (budget : ℕ) → total p t ≤ budget → Solution g t (ran g p t values budget).machine.values
  run_solves budget h = subst⁻¹ (λ (m : Machine). Solution g t m.values) (run_end budget h) (solved values given)

  -- with any budget the terminals' values stay
  pub run_terminals : (budget : ℕ) → SameTerminals g t (ran g p t values budget).machine.values values
  run_terminals budget =
      subst⁻¹ (λ (m : Machine). SameTerminals g t m.values values) (run_machine budget)
      (terminals_stay values given (min budget (total p t)))

  -- whatever is no attribute of a nonterminal node stays
  pub run_others : (budget c : ℕ) → ((n a : ℕ) → c ≡ 8 * n + a → T (applies_rule t n) → AttributeOf g t n a → ⊥)
      → value_at (ran g p t values budget).machine.values c ≡ value_at values c
  run_others budget c none =
      subst⁻¹ (λ (m : Machine). value_at m.values c ≡ value_at values c) (run_machine budget)
      (others_stay values given c (min budget (total p t)) none)

  -- "Words beyond these sizes, and values of attributes that do not exist, stay": a word beyond stays
  pub run_beyond : (budget c : ℕ) → value_words t ≤ c → value_at (ran g p t values budget).machine.values c ≡ value_at values c
  run_beyond budget c h =
      subst⁻¹ (λ (m : Machine). value_at m.values c ≡ value_at values c) (run_machine budget)
      (beyond_stays values given c (min budget (total p t)) h)

  -- an attribute that does not exist has a value that stays
  pub run_nothing : (budget n a : ℕ) → a < 8 → attributes g (symbol_at_node g t n) ≤ a
      → value_at (ran g p t values budget).machine.values (8 * n + a) ≡ value_at values (8 * n + a)
  run_nothing budget n a h s =
      subst⁻¹ (λ (m : Machine). value_at m.values (8 * n + a) ≡ value_at values (8 * n + a)) (run_machine budget)
      (nothing_stays values given n a (min budget (total p t)) h s)

  -- the values keep their number
  pub run_length : (budget : ℕ) → length (ran g p t values budget).machine.values ≡ length values
  run_length budget =
      subst⁻¹ (λ (m : Machine). length m.values ≡ length values) (run_machine budget)
      (values_length g p t values (min budget (total p t)))

  -- no other values satisfy the equations with these terminals' values
  pub run_only : (budget : ℕ) → total p t ≤ budget → (w : List ℤ) → Solution g t w → SameTerminals g t w values → (n a : ℕ) → AttributeOf g t n a
      → value_at w (8 * n + a) ≡ value_at (ran g p t values budget).machine.values (8 * n + a)
  run_only budget h w s e n a v =
      subst⁻¹ (λ (m : Machine). value_at w (8 * n + a) ≡ value_at m.values (8 * n + a)) (run_end budget h)
      (only_solution values given w s e n a v)

-- two sound plans for one grammar leave the same values on every tree
pub plans_agree : (g p q t : List ℕ) (values : List ℤ) → read_table g ≡ Good → Sound g p → Sound g q → check_tree g t (length values) ≡ Good
    → (b c : ℕ) → total p t ≤ b → total q t ≤ c → (ran g p t values b).machine.values ≡ (ran g q t values c).machine.values
plans_agree g p q t values good v w tree b c h l =
    ap (λ (m : Machine). m.values) (run_end g p t values good v tree b h)
    ∙ (same_values values (given g p t values good v tree) (given g q t values good w tree)
    ∙ ap (λ (m : Machine). m.values) (sym (run_end g q t values good w tree c l)))
