-- Each refusal of the reader is a case of document 01's table, and the reader's tests stand in the order of the cases' keys: in the rules,
-- in their functions, and so in the whole table. Assumes nothing.
use Prim.Native.Nat.{ℕ, zero, suc, ◌+◌, ◌*◌, ◌≤◌, ◌<◌}
use mathlib.Core.Path.{◌≡◌, subst⁻¹}
use mathlib.Core.Logic.{⊎_elim}
use mathlib.Core.Bool.{not}
use mathlib.Core.List.{List}
use native.Mathlib.Omega.{arith}
use lib.Dec.{T, ltb, leb, eqb, ltb→lt, lt→ltb, le→leb, eqb→eq, T_not, not_T, nleb→lt}
use lib.ListN.{length}
use Rattle.basics.specs.Tests.{◌and◌, ◌or◌, ◌implies◌}
use Rattle.basics.specs.Lists.{word}
use Rattle.basics.proofs.TestLaws.{and_intro, or_left, or_right, some_at, some_find, all_fails, implies_fails, eq_T, passed_over, tested}
use Rattle.refusals.specs.declared.Refusal.TheVariants.{WrongClass, NoOccurrence, NotDefining, Undefined, LeftOver}
use Rattle.grammar.specs.Limits.{longest_right, most_functions, last_operation, most_occurrences}
use Rattle.grammar.specs.Table.{
  symbols,
  rules,
  nonterminal,
  argument_words,
  is_constant,
  length_at,
  functions_at,
  function_of,
  functions,
  rule_at,
  right_length,
  symbol_of,
  arguments,
  target,
  operation,
  argument,
  occurrence,
  defining,
}
use Rattle.grammar.specs.Verdicts.{each}
use Rattle.grammar.specs.Reading.{
  ranged,
  left_fault,
  defined_below,
  argument_fault,
  function_fault,
  body_fault,
  complete,
  rule_before,
  rule_fault,
  left_over,
  read_table,
}
use Rattle.grammar.proofs.AcceptedSymbols.{ranged_passes, header_start}
use Rattle.grammar.proofs.RuleStarts.{rule_step}
use Rattle.cases.specs.TableCases.{HasFunction, TableCase}
use Rattle.cases.specs.TableCases as case
use Rattle.cases.proofs.PassedLaws.{within_good, within_then, within_unless, within_each}
use Rattle.cases.proofs.TableKeys.{key, after_header, rule_inside_law, class_key, function_next, function_inside_law, first_rule}
use Rattle.cases.proofs.SymbolRefusals.{
  In,
  terminal_kind,
  in_ranged,
  Kinds,
  in_then,
  in_present,
  in_header,
  in_start,
  in_symbols,
  good_kinds,
}

module _ (g : List ℕ) where
  -- the left symbol of a rule
  in_left : (r end : ℕ) → Kinds g → r < rules g → 16 * rule_at g r + 4 ≤ end → In g (left_fault g r) end
  unfolding left_fault symbol_of
  in_left r end kinds h l =
      let a = after_header g r in
      within_then (TableCase g) (key g) _ _ end
      (in_ranged g (rule_at g r) _ end (omega (arith, rule_inside_law g r h, rule_step g r)) (omega arith)
      (λ t. case.left_symbol r h (λ s. T_not (ltb (word g (rule_at g r)) (symbols g)) t (lt→ltb (word g (rule_at g r)) (symbols g) s))))
      (λ inside.
      within_unless (TableCase g) (key g) (nonterminal g (word g (rule_at g r))) (WrongClass (rule_at g r)) end
      (λ t.
      case.terminal_left r h
      (terminal_kind g (word g (rule_at g r))
      (kinds (word g (rule_at g r)) (ltb→lt (word g (rule_at g r)) (symbols g) (ranged_passes g (rule_at g r) _ inside))) t))
      (omega (arith, class_key g (rule_at g r) (omega arith))))

  -- one of the first k functions has this target, or none
  none_below : (r k o : ℕ) → T (not (defined_below g r k o)) → (j : ℕ) → j < k → ¬ (target g r j ≡ o)
  unfolding defined_below
  none_below r k o t j h e = T_not (defined_below g r k o) t (some_at k (λ j. eqb (target g r j) o) j h (eq_T (target g r j) o e))

  -- the rule before is complete
  incomplete : (r : ℕ) → r < rules g → T (not (complete g r)) → TableCase g (Undefined (rule_at g (suc r)))
  unfolding complete
  incomplete r h t =
      let w = all_fails most_occurrences (λ o. defining g r o implies defined_below g r (functions g r) o) t in
      let u = implies_fails (defining g r w.0) (defined_below g r (functions g r) w.0) w.2 in
      case.undefined r w.0 h u.0 (none_below r (functions g r) w.0 u.1)

  pub in_before : (r end : ℕ) → r ≤ rules g → 16 * rule_at g r + 7 ≤ end → In g (rule_before g r) end
  unfolding rule_before
  in_before zero end h l = within_good (TableCase g) (key g) end
  in_before (suc r) end h l =
      within_unless (TableCase g) (key g) (complete g r) (Undefined (rule_at g (suc r))) end (incomplete r h) (omega arith)

  -- an argument of a function
  in_argument : (r k j end : ℕ) → HasFunction g r k → j < argument_words (operation g r k) → 16 * function_of g r (suc k) ≤ end
      → In g (argument_fault g r k j) end
  unfolding argument_fault arguments
  in_argument r k j end h s l =
      let n = function_next g r k in
      in_then g _ _ end
      (in_present g (function_of g r k + 2 + j) end
      (omega (arith, function_inside_law g r k h.function_inside, rule_inside_law g r h.rule_inside)) (omega arith))
      (within_unless (TableCase g) (key g) (is_constant (operation g r k) or occurrence g r (argument g r k j))
      (NoOccurrence (function_of g r k + 2 + j)) end
      (λ t.
      let c : T (not (is_constant (operation g r k))) =
      not_T (is_constant (operation g r k)) (λ i.
      T_not (is_constant (operation g r k) or occurrence g r (argument g r k j)) t
      (or_left (is_constant (operation g r k)) (occurrence g r (argument g r k j)) i)) in
      case.argument_foreign r k j h
      (subst⁻¹ (λ (m : ℕ). j < m) (passed_over (is_constant (operation g r k)) 0 (argument_words (operation g r k)) c) s)
      (λ i.
      T_not (is_constant (operation g r k) or occurrence g r (argument g r k j)) t
      (or_right (is_constant (operation g r k)) (occurrence g r (argument g r k j)) i)))
      (omega arith))

  -- the target of an earlier function
  defined_before_law : (r k : ℕ) → HasFunction g r k → T (defined_below g r k (target g r k)) → TableCase g (NotDefining (function_of g r k))
  unfolding defined_below
  defined_before_law r k h t =
      let w = some_find k (λ j. eqb (target g r j) (target g r k)) t in
      case.defined_before r k w.0 h w.1 (eqb→eq (target g r w.0) (target g r k) w.2)

  -- a function
  pub in_function : (r k end : ℕ) → HasFunction g r k → 16 * function_of g r (suc k) ≤ end → In g (function_fault g r k) end
  unfolding function_fault
  in_function r k end h l =
      let n = function_next g r k in
      let i = function_inside_law g r k h.function_inside in
      let e = rule_inside_law g r h.rule_inside in
      in_then g _ _ end (in_present g (function_of g r k) end (omega arith) (omega arith))
      (in_then g _ _ end
      (within_unless (TableCase g) (key g) (occurrence g r (target g r k)) (NoOccurrence (function_of g r k)) end
      (λ t. case.target_foreign r k h (T_not (occurrence g r (target g r k)) t)) (omega arith))
      (in_then g _ _ end
      (within_unless (TableCase g) (key g) (defining g r (target g r k) and not (defined_below g r k (target g r k)))
      (NotDefining (function_of g r k)) end (wrong_target r k h) (omega arith))
      (in_then g _ _ end
      (in_ranged g (function_of g r k + 1) _ end (omega arith) (omega arith)
      (λ t. case.operation_number r k h (λ s. T_not (leb (operation g r k) last_operation) t (le→leb (operation g r k) last_operation s))))
      (within_each (TableCase g) (key g) (argument_words (operation g r k)) (λ j. argument_fault g r k j) end
      (λ j s. in_argument r k j end h s l)))))
    where
      wrong_target : (r k : ℕ) → HasFunction g r k → T (not (defining g r (target g r k) and not (defined_below g r k (target g r k))))
          → TableCase g (NotDefining (function_of g r k))
      wrong_target r k h t =
          ⊎_elim (λ b. defined_before_law r k h b)
          (λ b. case.target_not_defining r k h (λ d.
          T_not (defining g r (target g r k) and not (defined_below g r k (target g r k))) t (and_intro _ _ d b)))
          (tested (defined_below g r k (target g r k)))

  -- what follows the left symbol of a rule
  pub in_body : (r end : ℕ) → r < rules g → 16 * rule_at g (suc r) ≤ end → In g (body_fault g r) end
  unfolding body_fault right_length functions symbol_of
  in_body r end h l =
      let s = rule_step g r in
      let e = rule_inside_law g r h in
      in_then g _ _ end
      (in_ranged g (rule_at g r + 1) _ end (omega arith) (omega arith)
      (λ t. case.right_count r h (λ q.
      T_not (leb (length_at g (rule_at g r)) longest_right) t (le→leb (length_at g (rule_at g r)) longest_right q))))
      (in_then g _ _ end
      (within_each (TableCase g) (key g) (length_at g (rule_at g r))
      (λ i. ranged g (rule_at g r + 2 + i) (ltb (word g (rule_at g r + 2 + i)) (symbols g))) end
      (λ i m.
      in_ranged g (rule_at g r + 2 + i) _ end (omega arith) (omega arith)
      (λ t. case.right_symbol r i h m (λ q.
      T_not (ltb (word g (rule_at g r + 2 + i)) (symbols g)) t (lt→ltb (word g (rule_at g r + 2 + i)) (symbols g) q)))))
      (in_then g _ _ end
      (in_ranged g (rule_at g r + 2 + length_at g (rule_at g r)) _ end (omega arith) (omega arith)
      (λ t. case.function_count r h (λ q.
      T_not (leb (functions_at g (rule_at g r)) most_functions) t (le→leb (functions_at g (rule_at g r)) most_functions q))))
      (within_each (TableCase g) (key g) (functions g r) (λ k. function_fault g r k) end
      (λ k m.
      in_function r k end (record { rule_inside = h; function_inside = m }) (omega (arith, function_inside_law g r k m))))))

  -- a rule
  in_rule : (r end : ℕ) → Kinds g → r < rules g → 16 * rule_at g (suc r) ≤ end → In g (rule_fault g r) end
  unfolding rule_fault
  in_rule r end kinds h l =
      let s = rule_step g r in
      in_then g _ _ end (in_left r end kinds h (omega arith))
      (in_then g _ _ end (in_before r end (omega arith) (omega arith)) (in_body r end h l))

  in_over : (end : ℕ) → 16 * rule_at g (rules g) + 8 ≤ end → In g (left_over g) end
  unfolding left_over
  in_over end l =
      within_unless (TableCase g) (key g) (leb (length g) (rule_at g (rules g))) (LeftOver (rule_at g (rules g))) end
      (λ t. case.left_over (nleb→lt (length g) (rule_at g (rules g)) t)) (omega arith)

  in_rules : (end : ℕ) → Kinds g → 16 * rule_at g (rules g) ≤ end → In g (each (rules g) (λ r. rule_fault g r)) end
  in_rules end kinds l =
      within_each (TableCase g) (key g) (rules g) (λ r. rule_fault g r) end (λ r m. in_rule r end kinds m (omega (arith, rule_inside_law g r m)))

  -- what the reader refuses is a case
  pub in_table : In g (read_table g) (16 * rule_at g (rules g) + 8)
  unfolding read_table
  in_table =
      let end : ℕ = 16 * rule_at g (rules g) + 8 in
      let a = after_header g (rules g) in
      let f = first_rule g in
      within_then (TableCase g) (key g) _ _ end (in_header g end (omega arith)) (λ h.
      within_then (TableCase g) (key g) _ _ end (in_symbols g end (omega arith)) (λ s.
      in_then g _ _ end (in_start g end (good_kinds g s) (header_start g h) (omega arith))
      (in_then g _ _ end (in_rules end (good_kinds g s) (omega arith))
      (in_then g _ _ end (in_before (rules g) end (omega arith) (omega arith)) (in_over end (omega arith))))))
