-- Each case of document 01's table is tested by the reader at its key: a reader that has passed the key shows that it does not apply.
-- With that, the reader's verdict is the first case that applies. Assumes nothing.
use Prim.Native.Nat.{ℕ, suc, ◌+◌, ◌*◌, ◌^◌, ◌≤◌, ◌<◌}
use mathlib.Core.Path.{◌≡◌, subst}
use mathlib.Core.Logic.{◌⊎◌, inl, inr, ⊎_elim}
use mathlib.Core.Bool.{not}
use mathlib.Core.List.{List}
use native.Mathlib.Omega.{arith}
use lib.Dec.{T, leb, eqb, ltb→lt, leb→le, eqb→eq, T_not}
use lib.ListN.{length}
use Rattle.basics.specs.Tests.{◌and◌, ◌or◌, ◌implies◌}
use Rattle.basics.specs.Lists.{word}
use Rattle.basics.proofs.TestLaws.{
  and_left,
  and_right,
  or_cases,
  some_at,
  some_find,
  all_at,
  implies_use,
  eq_T,
  passed_over,
  tested,
  chosen,
}
use Rattle.refusals.specs.declared.Refusal.{Refusal}
use Rattle.refusals.specs.declared.Refusal.TheVariants.{OutOfRange, WrongClass, NoOccurrence, NotDefining, Undefined, LeftOver}
use Rattle.grammar.specs.Limits.{most_symbols, most_rules, most_attributes, longest_right, most_functions, last_operation, most_occurrences}
use Rattle.grammar.specs.Table.{
  symbols,
  rules,
  start,
  symbol_at,
  kind,
  attributes,
  mask,
  nonterminal,
  argument_words,
  is_constant,
  length_at,
  functions_at,
  function_of,
  functions,
  rule_at,
  right_length,
  symbol_of,
  arguments,
  target,
  operation,
  argument,
  occurrence,
  defining,
}
use Rattle.grammar.specs.Reading.{start_class, defined_below, complete, rule_before, left_over, read_table}
use Rattle.grammar.proofs.AcceptedTable.{defining_occurs}
use Rattle.grammar.proofs.OccurrenceLaws.{occurs_inside}
use Rattle.grammar.proofs.RuleStarts.{rule_step}
use Rattle.cases.specs.First.{GoesBy}
use Rattle.cases.specs.TableCases.{HasFunction, TableCase}
use Rattle.cases.specs.TableCases as case
use Rattle.cases.proofs.PassedLaws.{by_keys}
use Rattle.cases.proofs.TableKeys.{key, after_header, class_key}
use Rattle.cases.proofs.TableRefusals.{in_before, in_table}
use Rattle.cases.proofs.PassedWords.{
  Past,
  past_second,
  past_unless,
  ends_ranged,
  symbol_last,
  ranged_passes,
  past_first,
  past_down,
  header_symbols,
  header_rules,
  header_start,
  symbol_kind_law,
  symbol_count_law,
}
use Rattle.cases.proofs.PassedRules.{
  rule_left,
  left_class,
  function_defining,
  function_argument,
  argument_occurs,
  body_length,
  left_symbol_law,
  body_symbol,
  body_count,
  function_occurs,
  function_operation,
}
use Rattle.cases.proofs.PassedTable.{
  table_symbol,
  table_rule,
  table_start,
  table_function,
  table_body,
  table_before,
  table_last,
  table_header,
  word_there,
}
use Rattle.cases.proofs.TableOrder.{keys_order}

module _ (g : List ℕ) where
  -- The class of a symbol, of a left side and of the start, and the targets, as they have passed.
  terminal_passed : (x : ℕ) → x < symbols g → Past g (read_table g) (key g (WrongClass (symbol_at x + 2)))
      → T (nonterminal g x or eqb (mask g x) 0)
  terminal_passed x h q =
      let e = class_key g (symbol_at x + 2) (omega arith) in
      let k : ℕ = key g (WrongClass (symbol_at x + 2)) in
      past_unless g (nonterminal g x or eqb (mask g x) 0) (WrongClass (symbol_at x + 2)) k (omega arith)
      (past_second g _ _ k (ends_ranged g (symbol_at x + 2) _ (suc k) (omega arith))
      (symbol_last g x k (omega arith) (table_symbol g x k h (omega arith) q)))

  left_passed : (r : ℕ) → r < rules g → Past g (read_table g) (key g (WrongClass (rule_at g r))) → T (nonterminal g (word g (rule_at g r)))
  left_passed r h q =
      let a = after_header g r in
      let e = class_key g (rule_at g r) (omega arith) in
      let k : ℕ = key g (WrongClass (rule_at g r)) in
      past_unless g (nonterminal g (word g (rule_at g r))) (WrongClass (rule_at g r)) k (omega arith)
      (left_class g r k (omega arith) (rule_left g r k (table_rule g r k h (omega arith) q)))

  start_passed : Past g (read_table g) (key g (WrongClass 2)) → T (nonterminal g (start g) and eqb (mask g (start g)) 0)
  unfolding start_class
  start_passed q =
      let k : ℕ = key g (WrongClass 2) in
      past_unless g (nonterminal g (start g) and eqb (mask g (start g)) 0) (WrongClass 2) k (omega arith)
      (table_start g k (omega arith) q)

  target_passed : (r f : ℕ) → HasFunction g r f → Past g (read_table g) (key g (NotDefining (function_of g r f)))
      → T (defining g r (target g r f) and not (defined_below g r f (target g r f)))
  target_passed r f h q =
      let k : ℕ = key g (NotDefining (function_of g r f)) in
      past_unless g _ (NotDefining (function_of g r f)) k (omega arith)
      (function_defining g r f k (omega arith) (table_function g r f k h (omega arith) q))

  not_before : (r f j : ℕ) → T (not (defined_below g r f (target g r f))) → j < f → target g r j ≡ target g r f → ⊥
  unfolding defined_below
  not_before r f j t l e =
      T_not (defined_below g r f (target g r f)) t (some_at f (λ j. eqb (target g r j) (target g r f)) j l (eq_T _ _ e))

  argument_passed : (r f j : ℕ) → HasFunction g r f → j < arguments g r f
      → Past g (read_table g) (key g (NoOccurrence (function_of g r f + 2 + j))) → T (occurrence g r (argument g r f j))
  unfolding arguments
  argument_passed r f j h l q = go (tested (is_constant (operation g r f)))
    where
      go : T (is_constant (operation g r f)) ⊎ T (not (is_constant (operation g r f))) → T (occurrence g r (argument g r f j))
      go (inl c) = absurd (omega (arith, chosen (is_constant (operation g r f)) 0 (argument_words (operation g r f)) c))
      go (inr c) =
          let k : ℕ = key g (NoOccurrence (function_of g r f + 2 + j)) in
          let w : j < argument_words (operation g r f) =
          subst (λ (m : ℕ). j < m) (passed_over (is_constant (operation g r f)) 0 (argument_words (operation g r f)) c) l in
          ⊎_elim (λ s. absurd (T_not (is_constant (operation g r f)) c s)) (λ s. s)
          (or_cases (is_constant (operation g r f)) (occurrence g r (argument g r f j))
          (argument_occurs g r f j k (omega arith) (function_argument g r f j k w (omega arith) (table_function g r f k h (omega arith) q))))

  length_passed : (r k : ℕ) → r < rules g → 16 * (rule_at g r + 1) + 2 ≤ k → Past g (read_table g) k → right_length g r ≤ longest_right
  unfolding right_length
  length_passed r k h l q =
      leb→le (length_at g (rule_at g r)) longest_right
      (ranged_passes g (rule_at g r + 1) _ k l (body_length g r k (table_body g r k h (omega arith) q)))

  -- a defining occurrence has a function
  defined_passed : (r o : ℕ) → r < rules g → T (defining g r o) → Past g (read_table g) (key g (Undefined (rule_at g (suc r))))
      → (k : ℕ) × (k < functions g r) × (target g r k ≡ o)
  unfolding rule_before complete defined_below
  defined_passed r o h d q =
      let k : ℕ = key g (Undefined (rule_at g (suc r))) in
      let fits : o < most_occurrences =
      omega (arith, occurs_inside g r o (defining_occurs g r o d), length_passed r k h (omega (arith, rule_step g r)) q) in
      let w = some_find (functions g r) (λ k. eqb (target g r k) o)
      (implies_use (defining g r o) (defined_below g r (functions g r) o)
      (all_at most_occurrences (λ o. defining g r o implies defined_below g r (functions g r) o)
      (past_unless g (complete g r) (Undefined (rule_at g (suc r))) k (omega arith) (table_before g r k h (omega arith) q)) o fits) d) in
      (w.0, w.1, eqb→eq (target g r w.0) o w.2)

  over_passed : Past g (read_table g) (key g (LeftOver (rule_at g (rules g)))) → length g ≤ rule_at g (rules g)
  unfolding left_over
  over_passed q =
      let k : ℕ = key g (LeftOver (rule_at g (rules g))) in
      leb→le (length g) (rule_at g (rules g))
      (past_unless g (leb (length g) (rule_at g (rules g))) (LeftOver (rule_at g (rules g))) k (omega arith)
      (past_second g _ _ k (in_before g (rules g) (suc k) (omega arith) (omega arith)).ends (table_last g k (omega arith) q)))

  -- Each case is tested at its key.
  tested_at : (n : Refusal) → TableCase g n → Past g (read_table g) (key g n) → ⊥
  unfolding symbol_of right_length functions
  tested_at n (case.ends_early p l h) q =
      let k : ℕ = 16 * p + 1 in
      let w : p < length g = word_there g p h (past_down g (read_table g) k _ (omega arith) q) in
      omega arith
  tested_at n (case.symbol_count c) q =
      let t = ranged_passes g 0 _ 2 (omega arith) (header_symbols g 2 (table_header g 2 q)) in
      c (leb→le 1 (symbols g) (and_left _ _ t), leb→le (symbols g) most_symbols (and_right _ _ t))
  tested_at n (case.rule_count c) q =
      let t = ranged_passes g 1 _ 18 (omega arith) (header_rules g 18 (omega arith) (table_header g 18 q)) in
      c (leb→le 1 (rules g) (and_left _ _ t), leb→le (rules g) most_rules (and_right _ _ t))
  tested_at n (case.start_symbol c) q =
      c (ltb→lt (start g) (symbols g) (ranged_passes g 2 _ 34 (omega arith) (header_start g 34 (omega arith) (table_header g 34 q))))
  tested_at n (case.symbol_kind x h c) q =
      let k : ℕ = key g (OutOfRange (symbol_at x)) in
      c (leb→le (kind g x) 1 (ranged_passes g (symbol_at x) _ k (omega arith) (symbol_kind_law g x k (table_symbol g x k h (omega arith) q))))
  tested_at n (case.attribute_count x h c) q =
      let k : ℕ = key g (OutOfRange (symbol_at x + 1)) in
      c (leb→le (attributes g x) most_attributes
      (ranged_passes g (symbol_at x + 1) _ k (omega arith) (symbol_count_law g x k (omega arith) (table_symbol g x k h (omega arith) q))))
  tested_at n (case.symbol_mask x h c) q =
      let k : ℕ = key g (OutOfRange (symbol_at x + 2)) in
      c (ltb→lt (mask g x) (2 ^ attributes g x)
      (ranged_passes g (symbol_at x + 2) _ k (omega arith)
      (past_first g _ _ k (symbol_last g x k (omega arith) (table_symbol g x k h (omega arith) q)))))
  tested_at n (case.left_symbol r h c) q =
      let k : ℕ = key g (OutOfRange (rule_at g r)) in
      c (ltb→lt (word g (rule_at g r)) (symbols g)
      (ranged_passes g (rule_at g r) _ k (omega arith) (left_symbol_law g r k (rule_left g r k (table_rule g r k h (omega arith) q)))))
  tested_at n (case.right_count r h c) q = c (length_passed r (key g (OutOfRange (rule_at g r + 1))) h (omega arith) q)
  tested_at n (case.right_symbol r i h l c) q =
      let k : ℕ = key g (OutOfRange (rule_at g r + 2 + i)) in
      c (ltb→lt (word g (rule_at g r + 2 + i)) (symbols g)
      (ranged_passes g (rule_at g r + 2 + i) _ k (omega arith) (body_symbol g r i k l (omega arith) (table_body g r k h (omega arith) q))))
  tested_at n (case.function_count r h c) q =
      let k : ℕ = key g (OutOfRange (rule_at g r + 2 + length_at g (rule_at g r))) in
      c (leb→le (functions_at g (rule_at g r)) most_functions
      (ranged_passes g (rule_at g r + 2 + length_at g (rule_at g r)) _ k (omega arith)
      (body_count g r k (omega arith) (table_body g r k h (omega arith) q))))
  tested_at n (case.operation_number r f h c) q =
      let k : ℕ = key g (OutOfRange (function_of g r f + 1)) in
      c (leb→le (operation g r f) last_operation
      (ranged_passes g (function_of g r f + 1) _ k (omega arith)
      (function_operation g r f k (omega arith) (table_function g r f k h (omega arith) q))))
  tested_at n (case.terminal_inherits x h c d) q =
      ⊎_elim (λ t. let z : kind g x ≡ 0 = eqb→eq (kind g x) 0 t in omega arith) (λ t. d (eqb→eq (mask g x) 0 t))
      (or_cases (nonterminal g x) (eqb (mask g x) 0) (terminal_passed x h q))
  tested_at n (case.terminal_left r h c) q =
      let z : kind g (word g (rule_at g r)) ≡ 0 = eqb→eq (kind g (word g (rule_at g r))) 0 (left_passed r h q) in omega arith
  tested_at n (case.start_terminal c) q =
      let z : kind g (start g) ≡ 0 = eqb→eq (kind g (start g)) 0 (and_left _ _ (start_passed q)) in omega arith
  tested_at n (case.start_inherits c) q = c (eqb→eq (mask g (start g)) 0 (and_right _ _ (start_passed q)))
  tested_at n (case.target_foreign r f h c) q =
      let k : ℕ = key g (NoOccurrence (function_of g r f)) in
      c (past_unless g (occurrence g r (target g r f)) (NoOccurrence (function_of g r f)) k (omega arith)
      (function_occurs g r f k (omega arith) (table_function g r f k h (omega arith) q)))
  tested_at n (case.argument_foreign r f j h l c) q = c (argument_passed r f j h l q)
  tested_at n (case.target_not_defining r f h c) q = c (and_left _ _ (target_passed r f h q))
  tested_at n (case.defined_before r f j h l e) q = not_before r f j (and_right _ _ (target_passed r f h q)) l e
  tested_at n (case.undefined r o h d c) q = let w = defined_passed r o h d q in c w.0 w.1 w.2
  tested_at n (case.left_over c) q = let l = over_passed q in omega arith

  -- The reader's verdict: good exactly if no case of 1 to 7 applies, and refusal n exactly if n is the first that applies.
  pub table_verdict : GoesBy g (TableCase g) (read_table g)
  table_verdict =
      by_keys (TableCase g) (key g) g (read_table g) (16 * rule_at g (rules g) + 8) (in_table g) tested_at (keys_order g)
