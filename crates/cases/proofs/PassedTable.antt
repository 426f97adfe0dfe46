-- What has passed a key of the whole table has passed the part in which the key lies, and so each word below it is there: every word from the
-- header to the end of the last rule is the word of some test. Assumes nothing.
use Prim.Native.Nat.{ℕ, zero, suc, ◌+◌, ◌*◌, ◌-◌, ◌/◌, ◌≤◌, ◌<◌}
use mathlib.Core.Path.{◌≡◌, ap, subst}
use mathlib.Core.Logic.{⊎_elim}
use mathlib.Core.List.{List}
use native.Mathlib.Omega.{arith}
use lib.ListN.{length}
use Rattle.basics.proofs.TestLaws.{below_or_not}
use Rattle.refusals.specs.declared.Refusal.TheVariants.{WrongClass}
use Rattle.grammar.specs.Table.{symbols, rules, symbol_at, length_at, function_of, functions, rule_at, right_length}
use Rattle.grammar.specs.Verdicts.{◌then◌, each}
use Rattle.grammar.specs.Reading.{header, symbol_fault, start_class, function_fault, body_fault, rule_before, rule_fault, left_over, read_table}
use Rattle.grammar.proofs.RuleStarts.{rules_rise}
use Rattle.cases.specs.TableCases.{HasFunction, TableCase}
use Rattle.cases.proofs.PassedLaws.{EndsBelow, ends_unless, ends_each, passed_each}
use Rattle.cases.proofs.TableKeys.{key, first_rule, rule_end, functions_start, function_next, rule_inside_law, function_after}
use Rattle.cases.proofs.SymbolRefusals.{in_header, in_symbol, in_symbols}
use Rattle.cases.proofs.PassedWords.{
  Past,
  past_first,
  past_second,
  present_there,
  ranged_there,
  header_symbols,
  header_rules,
  header_start,
  symbol_kind_law,
  symbol_count_law,
  symbol_last,
}
use Rattle.cases.proofs.PassedRules.{
  ends_rule,
  rule_body,
  body_function,
  rule_before_law,
  function_target,
  function_operation,
  function_argument,
  argument_there,
  rule_left,
  left_symbol_law,
  body_length,
  body_symbol,
  body_count,
}

-- a number from f 0 up to f n lies in one of the n steps
data InStep (f : ℕ → ℕ) (n p : ℕ) : Type 0 where
  step : (k : ℕ) → k < n → f k ≤ p → p < f (suc k) → InStep f n p

find_step : (f : ℕ → ℕ) (n p : ℕ) → f 0 ≤ p → p < f n → InStep f n p
find_step f zero p l h = absurd (omega arith)
find_step f (suc n) p l h =
    ⊎_elim (λ s. more (find_step f n p l s)) (λ s. step n (omega arith) s h) (below_or_not p (f n))
  where
    more : InStep f n p → InStep f (suc n) p
    more (step k s a b) = step k (omega arith) a b

module _ (g : List ℕ) where
  -- The parts of the table, in the whole reading.
  pub table_header : (k : ℕ) → Past g (read_table g) k → Past g (header g) k
  unfolding read_table
  table_header k p = past_first g _ _ k p

  pub table_symbol : (x k : ℕ) → x < symbols g → 16 * symbol_at x ≤ k → Past g (read_table g) k → Past g (symbol_fault g x) k
  unfolding read_table
  table_symbol x k h l p =
      passed_each (TableCase g) (key g) (symbols g) (λ x. symbol_fault g x) k x h
      (λ j s. (in_symbol g j (suc k) (omega arith) (omega arith)).ends)
      (past_first g _ _ k (past_second g _ _ k (in_header g (suc k) (omega arith)).ends p))

  pub table_start : (k : ℕ) → key g (WrongClass 2) ≤ k → Past g (read_table g) k → Past g (start_class g) k
  unfolding read_table
  table_start k l p =
      let f = first_rule g in
      past_first g _ _ k
      (past_second g _ _ k
      (ends_each (TableCase g) (key g) (symbols g) (λ x. symbol_fault g x) (suc k)
      (λ x h. (in_symbol g x (suc k) h (omega arith)).ends))
      (past_second g _ _ k (in_header g (suc k) (omega arith)).ends p))

  ends_start : (end : ℕ) → 16 * rule_at g 0 ≤ end → EndsBelow (TableCase g) (key g) (start_class g) end
  unfolding start_class
  ends_start end l = ends_unless (TableCase g) (key g) _ (WrongClass 2) end (omega (arith, first_rule g))

  table_rules : (k : ℕ) → 16 * rule_at g 0 ≤ k → Past g (read_table g) k
      → Past g (each (rules g) (λ r. rule_fault g r) then rule_before g (rules g) then left_over g) k
  unfolding read_table
  table_rules k l p =
      let f = first_rule g in
      past_second g _ _ k (ends_start (suc k) (omega arith))
      (past_second g _ _ k (in_symbols g (suc k) (omega arith)).ends (past_second g _ _ k (in_header g (suc k) (omega arith)).ends p))

  pub table_rule : (r k : ℕ) → r < rules g → 16 * rule_at g r ≤ k → Past g (read_table g) k → Past g (rule_fault g r) k
  table_rule r k h l p =
      passed_each (TableCase g) (key g) (rules g) (λ r. rule_fault g r) k r h
      (λ q s. ends_rule g q (suc k) (omega arith) (omega (arith, rules_rise g (suc q) r s)))
      (past_first g _ _ k (table_rules k (omega (arith, rules_rise g 0 r (omega arith))) p))

  pub table_last : (k : ℕ) → 16 * rule_at g (rules g) ≤ k → Past g (read_table g) k → Past g (rule_before g (rules g) then left_over g) k
  table_last k l p =
      past_second g _ _ k (ends_each (TableCase g) (key g) (rules g) (λ r. rule_fault g r) (suc k)
      (λ r h. ends_rule g r (suc k) h (omega (arith, rule_inside_law g r h))))
      (table_rules k (omega (arith, rules_rise g 0 (rules g) (omega arith))) p)

  pub table_body : (r k : ℕ) → r < rules g → 16 * (rule_at g r + 1) ≤ k → Past g (read_table g) k → Past g (body_fault g r) k
  table_body r k h l p = rule_body g r k h l (table_rule r k h (omega arith) p)

  pub table_function : (r f k : ℕ) → HasFunction g r f → 16 * function_of g r f ≤ k → Past g (read_table g) k → Past g (function_fault g r f) k
  table_function r f k h l p = body_function g r f k h l (table_body r k h.rule_inside (omega (arith, function_after g r f)) p)

  -- 6 is tested at the first word of the next rule, or after the last
  pub table_before : (r k : ℕ) → r < rules g → 16 * rule_at g (suc r) + 6 ≤ k → Past g (read_table g) k → Past g (rule_before g (suc r)) k
  table_before r k h l p =
      ⊎_elim (λ s. rule_before_law g (suc r) k s (omega arith) (table_rule (suc r) k s (omega arith) p))
      (λ s.
      let e : rules g ≡ suc r = omega arith in
      subst (λ (n : ℕ). Past g (rule_before g n) k) e
      (past_first g _ _ k (table_last k (omega (arith, ap (λ (n : ℕ). rule_at g n) e)) p)))
      (below_or_not (suc r) (rules g))

  -- 1: every word of the announced table is looked for, function by function and rule by rule
  function_words : (r f p : ℕ) → HasFunction g r f → function_of g r f ≤ p → p < function_of g r (suc f) → Past g (read_table g) (16 * p + 1)
      → p < length g
  function_words r f p h l m q =
      let n = function_next g r f in
      let s = table_function r f (16 * p + 1) h (omega arith) q in
      ⊎_elim (λ t. omega (arith, present_there g (function_of g r f) (16 * p + 1) (omega arith) (function_target g r f (16 * p + 1) s)))
      (λ t.
      ⊎_elim
      (λ u.
      omega (
        arith,
        ranged_there g (function_of g r f + 1) _ (16 * p + 1) (omega arith)
            (function_operation g r f (16 * p + 1) (omega arith) s),
      ))
      (λ u.
      let j : ℕ = p - (function_of g r f + 2) in
      omega (
        arith,
        argument_there g r f j (16 * p + 1) (omega arith)
            (function_argument g r f j (16 * p + 1) (omega arith) (omega arith) s),
      ))
      (below_or_not p (function_of g r f + 2)))
      (below_or_not p (function_of g r f + 1))

  rule_words : (r p : ℕ) → r < rules g → rule_at g r ≤ p → p < rule_at g (suc r) → Past g (read_table g) (16 * p + 1) → p < length g
  unfolding right_length
  rule_words r p h l m q =
      ⊎_elim
      (λ t.
      omega (
        arith,
        ranged_there g (rule_at g r) _ (16 * p + 1) (omega arith)
            (left_symbol_law g r (16 * p + 1) (rule_left g r (16 * p + 1) (table_rule r (16 * p + 1) h (omega arith) q))),
      ))
      (λ t. body (table_body r (16 * p + 1) h (omega arith) q) t)
      (below_or_not p (rule_at g r + 1))
    where
      within : InStep (function_of g r) (functions g r) p → p < length g
      within (step f s a b) = function_words r f p (record { rule_inside = h; function_inside = s }) a b q

      body : Past g (body_fault g r) (16 * p + 1) → rule_at g r + 1 ≤ p → p < length g
      body s t =
          ⊎_elim (λ u. omega (arith, ranged_there g (rule_at g r + 1) _ (16 * p + 1) (omega arith) (body_length g r (16 * p + 1) s)))
          (λ u.
          ⊎_elim
          (λ v.
          let i : ℕ = p - (rule_at g r + 2) in
          omega (
            arith,
            ranged_there g (rule_at g r + 2 + i) _ (16 * p + 1) (omega arith)
                (body_symbol g r i (16 * p + 1) (omega arith) (omega arith) s),
          ))
          (λ v.
          ⊎_elim
          (λ w.
          omega (
            arith,
            ranged_there g (rule_at g r + 2 + length_at g (rule_at g r)) _ (16 * p + 1) (omega arith)
                (body_count g r (16 * p + 1) (omega arith) s),
          ))
          (λ w.
          within
          (find_step (function_of g r) (functions g r) p (omega (arith, functions_start g r)) (omega (arith, rule_end g r))))
          (below_or_not p (rule_at g r + 3 + right_length g r)))
          (below_or_not p (rule_at g r + 2 + right_length g r)))
          (below_or_not p (rule_at g r + 2))

  pub word_there : (p : ℕ) → p < rule_at g (rules g) → Past g (read_table g) (16 * p + 1) → p < length g
  word_there p h q =
      ⊎_elim in_head (λ l. ⊎_elim (in_symbols_words l) in_rules_words (below_or_not p (rule_at g 0))) (below_or_not p 3)
    where
      within : InStep (λ r. rule_at g r) (rules g) p → p < length g
      within (step r s a b) = rule_words r p s a b q

      in_head : p < 3 → p < length g
      in_head l =
          ⊎_elim
          (λ s.
          omega (
            arith,
            ranged_there g 0 _ (16 * p + 1) (omega arith)
                (header_symbols g (16 * p + 1) (table_header (16 * p + 1) q)),
          ))
          (λ s.
          ⊎_elim
          (λ t.
          omega (
            arith,
            ranged_there g 1 _ (16 * p + 1) (omega arith)
                (header_rules g (16 * p + 1) (omega arith) (table_header (16 * p + 1) q)),
          ))
          (λ t.
          omega (
            arith,
            ranged_there g 2 _ (16 * p + 1) (omega arith)
                (header_start g (16 * p + 1) (omega arith) (table_header (16 * p + 1) q)),
          ))
          (below_or_not p 2))
          (below_or_not p 1)

      in_symbols_words : 3 ≤ p → p < rule_at g 0 → p < length g
      in_symbols_words l m =
          let f = first_rule g in
          let x : ℕ = (p - 3) / 3 in
          let inside : x < symbols g = omega arith in
          let s = table_symbol x (16 * p + 1) inside (omega arith) q in
          ⊎_elim (λ t. omega (arith, ranged_there g (symbol_at x) _ (16 * p + 1) (omega arith) (symbol_kind_law g x (16 * p + 1) s)))
          (λ t.
          ⊎_elim
          (λ u.
          omega (
            arith,
            ranged_there g (symbol_at x + 1) _ (16 * p + 1) (omega arith)
                (symbol_count_law g x (16 * p + 1) (omega arith) s),
          ))
          (λ u.
          omega (
            arith,
            ranged_there g (symbol_at x + 2) _ (16 * p + 1) (omega arith)
                (past_first g _ _ (16 * p + 1) (symbol_last g x (16 * p + 1) (omega arith) s)),
          ))
          (below_or_not p (symbol_at x + 2)))
          (below_or_not p (symbol_at x + 1))

      in_rules_words : rule_at g 0 ≤ p → p < length g
      in_rules_words l = within (find_step (λ r. rule_at g r) (rules g) p l h)
