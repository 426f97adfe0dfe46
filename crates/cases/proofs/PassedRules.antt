-- What the reader has found once it has passed a key: in a rule, in its right side and in its functions. Each part ends below the keys of the
-- next, so what has passed the whole has passed the part. Assumes nothing.
use Prim.Native.Nat.{ℕ, suc, ◌+◌, ◌*◌, ◌≤◌, ◌<◌}
use mathlib.Core.Bool.{not}
use mathlib.Core.List.{List}
use native.Mathlib.Omega.{arith}
use lib.Dec.{T, ltb, leb}
use lib.ListN.{length}
use Rattle.basics.specs.Tests.{◌and◌, ◌or◌}
use Rattle.basics.specs.Lists.{word}
use Rattle.refusals.specs.declared.Refusal.TheVariants.{WrongClass, NoOccurrence, NotDefining}
use Rattle.grammar.specs.Limits.{longest_right, most_functions, last_operation}
use Rattle.grammar.specs.Table.{
  symbols,
  rules,
  nonterminal,
  argument_words,
  is_constant,
  length_at,
  functions_at,
  function_of,
  functions,
  rule_at,
  right_length,
  target,
  operation,
  argument,
  occurrence,
  defining,
}
use Rattle.grammar.specs.Verdicts.{◌then◌, unless, each}
use Rattle.grammar.specs.Reading.{present, ranged, left_fault, defined_below, argument_fault, function_fault, body_fault, rule_before, rule_fault}
use Rattle.grammar.proofs.RuleStarts.{functions_rise, rule_step}
use Rattle.cases.specs.TableCases.{HasFunction, TableCase}
use Rattle.cases.proofs.PassedLaws.{EndsBelow, ends_then, ends_unless, ends_each, passed_each}
use Rattle.cases.proofs.TableKeys.{key, after_header, function_after, class_key}
use Rattle.cases.proofs.TableRefusals.{in_before, in_function, in_body}
use Rattle.cases.proofs.PassedWords.{Past, past_first, past_second, ends_ranged, ends_present, present_there, past_unless}

module _ (g : List ℕ) where
  -- The parts of a rule.
  pub rule_left : (r k : ℕ) → Past g (rule_fault g r) k → Past g (left_fault g r) k
  unfolding rule_fault
  rule_left r k p = past_first g _ _ k p

  pub left_symbol_law : (r k : ℕ) → Past g (left_fault g r) k → Past g (ranged g (rule_at g r) (ltb (word g (rule_at g r)) (symbols g))) k
  unfolding left_fault
  left_symbol_law r k p = past_first g _ _ k p

  pub left_class : (r k : ℕ) → 16 * rule_at g r + 2 ≤ k → Past g (left_fault g r) k
      → Past g (unless (nonterminal g (word g (rule_at g r))) (WrongClass (rule_at g r))) k
  unfolding left_fault
  left_class r k l p = past_second g _ _ k (ends_ranged g (rule_at g r) _ (suc k) (omega arith)) p

  ends_left : (r end : ℕ) → 16 * rule_at g r + 4 ≤ end → EndsBelow (TableCase g) (key g) (left_fault g r) end
  unfolding left_fault
  ends_left r end l =
      let a = after_header g r in
      ends_then (TableCase g) (key g) _ _ end (ends_ranged g (rule_at g r) _ end (omega arith))
      (ends_unless (TableCase g) (key g) _ (WrongClass (rule_at g r)) end (omega (arith, class_key g (rule_at g r) (omega arith))))

  pub ends_rule : (r end : ℕ) → r < rules g → 16 * rule_at g (suc r) ≤ end → EndsBelow (TableCase g) (key g) (rule_fault g r) end
  unfolding rule_fault
  ends_rule r end h l =
      let s = rule_step g r in
      ends_then (TableCase g) (key g) _ _ end (ends_left r end (omega arith))
      (ends_then (TableCase g) (key g) _ _ end (in_before g r end (omega arith) (omega arith)).ends (in_body g r end h l).ends)

  pub rule_before_law : (r k : ℕ) → r < rules g → 16 * rule_at g r + 3 ≤ k → Past g (rule_fault g r) k → Past g (rule_before g r) k
  unfolding rule_fault
  rule_before_law r k h l p = past_first g _ _ k (past_second g _ _ k (ends_left r (suc k) (omega arith)) p)

  pub rule_body : (r k : ℕ) → r < rules g → 16 * (rule_at g r + 1) ≤ k → Past g (rule_fault g r) k → Past g (body_fault g r) k
  unfolding rule_fault
  rule_body r k h l p =
      past_second g _ _ k (in_before g r (suc k) (omega arith) (omega arith)).ends
      (past_second g _ _ k (ends_left r (suc k) (omega arith)) p)

  pub body_length : (r k : ℕ) → Past g (body_fault g r) k → Past g (ranged g (rule_at g r + 1) (leb (length_at g (rule_at g r)) longest_right)) k
  unfolding body_fault
  body_length r k p = past_first g _ _ k p

  pub body_symbol : (r i k : ℕ) → i < right_length g r → 16 * (rule_at g r + 2 + i) ≤ k → Past g (body_fault g r) k
      → Past g (ranged g (rule_at g r + 2 + i) (ltb (word g (rule_at g r + 2 + i)) (symbols g))) k
  unfolding body_fault right_length
  body_symbol r i k h l p =
      passed_each (TableCase g) (key g) (length_at g (rule_at g r))
      (λ i. ranged g (rule_at g r + 2 + i) (ltb (word g (rule_at g r + 2 + i)) (symbols g))) k i h
      (λ j s. ends_ranged g (rule_at g r + 2 + j) _ (suc k) (omega arith))
      (past_first g _ _ k (past_second g _ _ k (ends_ranged g (rule_at g r + 1) _ (suc k) (omega arith)) p))

  body_rest : (r k : ℕ) → 16 * (rule_at g r + 2 + right_length g r) ≤ k → Past g (body_fault g r) k
      → Past g (ranged g (rule_at g r + 2 + length_at g (rule_at g r)) (leb (functions_at g (rule_at g r)) most_functions)
      then each (functions g r) (λ k. function_fault g r k)) k
  unfolding body_fault right_length
  body_rest r k l p =
      past_second g _ _ k
      (ends_each (TableCase g) (key g) (length_at g (rule_at g r))
      (λ i. ranged g (rule_at g r + 2 + i) (ltb (word g (rule_at g r + 2 + i)) (symbols g))) (suc k)
      (λ j s. ends_ranged g (rule_at g r + 2 + j) _ (suc k) (omega arith)))
      (past_second g _ _ k (ends_ranged g (rule_at g r + 1) _ (suc k) (omega arith)) p)

  pub body_count : (r k : ℕ) → 16 * (rule_at g r + 2 + right_length g r) ≤ k → Past g (body_fault g r) k
      → Past g (ranged g (rule_at g r + 2 + length_at g (rule_at g r)) (leb (functions_at g (rule_at g r)) most_functions)) k
  body_count r k l p = past_first g _ _ k (body_rest r k l p)

  pub body_function : (r f k : ℕ) → HasFunction g r f → 16 * function_of g r f ≤ k → Past g (body_fault g r) k → Past g (function_fault g r f) k
  unfolding right_length
  body_function r f k h l p =
      let a = function_after g r f in
      passed_each (TableCase g) (key g) (functions g r) (λ f. function_fault g r f) k f h.function_inside
      (λ j s.
      (in_function g r j (suc k) (record { rule_inside = h.rule_inside; function_inside = omega (arith, h.function_inside) })
      (omega (arith, functions_rise g (rule_at g r) (suc j) f s))).ends)
      (past_second g _ _ k (ends_ranged g (rule_at g r + 2 + length_at g (rule_at g r)) _ (suc k) (omega arith)) (body_rest r k (omega arith) p))

  -- The parts of a function.
  pub function_target : (r f k : ℕ) → Past g (function_fault g r f) k → Past g (present g (function_of g r f)) k
  unfolding function_fault
  function_target r f k p = past_first g _ _ k p

  pub function_occurs : (r f k : ℕ) → 16 * function_of g r f + 1 ≤ k → Past g (function_fault g r f) k
      → Past g (unless (occurrence g r (target g r f)) (NoOccurrence (function_of g r f))) k
  unfolding function_fault
  function_occurs r f k l p = past_first g _ _ k (past_second g _ _ k (ends_present g (function_of g r f) (suc k) (omega arith)) p)

  pub function_defining : (r f k : ℕ) → 16 * function_of g r f + 4 ≤ k → Past g (function_fault g r f) k
      → Past g (unless (defining g r (target g r f) and not (defined_below g r f (target g r f))) (NotDefining (function_of g r f))) k
  unfolding function_fault
  function_defining r f k l p =
      past_first g _ _ k
      (past_second g _ _ k
      (ends_unless (TableCase g) (key g) (occurrence g r (target g r f)) (NoOccurrence (function_of g r f)) (suc k) (omega arith))
      (past_second g _ _ k (ends_present g (function_of g r f) (suc k) (omega arith)) p))

  function_rest : (r f k : ℕ) → 16 * (function_of g r f + 1) ≤ k → Past g (function_fault g r f) k
      → Past g (ranged g (function_of g r f + 1) (leb (operation g r f) last_operation)
      then each (argument_words (operation g r f)) (λ j. argument_fault g r f j)) k
  unfolding function_fault
  function_rest r f k l p =
      past_second g _ _ k
      (ends_unless (TableCase g) (key g) (defining g r (target g r f) and not (defined_below g r f (target g r f)))
      (NotDefining (function_of g r f)) (suc k) (omega arith))
      (past_second g _ _ k
      (ends_unless (TableCase g) (key g) (occurrence g r (target g r f)) (NoOccurrence (function_of g r f)) (suc k) (omega arith))
      (past_second g _ _ k (ends_present g (function_of g r f) (suc k) (omega arith)) p))

  pub function_operation : (r f k : ℕ) → 16 * (function_of g r f + 1) ≤ k → Past g (function_fault g r f) k
      → Past g (ranged g (function_of g r f + 1) (leb (operation g r f) last_operation)) k
  function_operation r f k l p = past_first g _ _ k (function_rest r f k l p)

  ends_argument : (r f j end : ℕ) → 16 * (function_of g r f + 2 + j) + 5 ≤ end → EndsBelow (TableCase g) (key g) (argument_fault g r f j) end
  unfolding argument_fault
  ends_argument r f j end l =
      ends_then (TableCase g) (key g) _ _ end (ends_present g (function_of g r f + 2 + j) end (omega arith))
      (ends_unless (TableCase g) (key g) _ (NoOccurrence (function_of g r f + 2 + j)) end (omega arith))

  pub function_argument : (r f j k : ℕ) → j < argument_words (operation g r f) → 16 * (function_of g r f + 2 + j) ≤ k
      → Past g (function_fault g r f) k → Past g (argument_fault g r f j) k
  function_argument r f j k h l p =
      passed_each (TableCase g) (key g) (argument_words (operation g r f)) (λ j. argument_fault g r f j) k j h
      (λ i s. ends_argument r f i (suc k) (omega arith))
      (past_second g _ _ k (ends_ranged g (function_of g r f + 1) _ (suc k) (omega arith)) (function_rest r f k (omega arith) p))

  pub argument_there : (r f j k : ℕ) → 16 * (function_of g r f + 2 + j) + 1 ≤ k → Past g (argument_fault g r f j) k
      → function_of g r f + 2 + j < length g
  unfolding argument_fault
  argument_there r f j k l p = present_there g (function_of g r f + 2 + j) k l (past_first g _ _ k p)

  pub argument_occurs : (r f j k : ℕ) → 16 * (function_of g r f + 2 + j) + 4 ≤ k → Past g (argument_fault g r f j) k
      → T (is_constant (operation g r f) or occurrence g r (argument g r f j))
  unfolding argument_fault
  argument_occurs r f j k l p =
      past_unless g _ (NoOccurrence (function_of g r f + 2 + j)) k (omega arith)
      (past_second g _ _ k (ends_present g (function_of g r f + 2 + j) (suc k) (omega arith)) p)
