-- A well-formed table is accepted: every word is there and every test passes. With `accepted`, the two say the same.
-- Assumes nothing.
use Prim.Native.Nat.{ℕ, zero, suc, ◌+◌, ◌^◌, ◌≤◌, ◌<◌}
use mathlib.Core.Path.{◌≡◌, refl, subst⁻¹}
use mathlib.Core.Logic.{⊎_elim, ◌↔◌}
use mathlib.Core.Bool.{Bool, true, false, cond}
use mathlib.Core.List.{List}
use native.Mathlib.Omega.{arith}
use lib.Dec.{T, eqb, lt→ltb, le→leb, eqb→eq, not_T}
use lib.ListN.{length}
use borrow.Author.Tests.{eqb-false}
use Rattle.basics.specs.Tests.{◌or◌, ◌implies◌, some}
use Rattle.basics.proofs.TestLaws.{
  and_intro,
  or_left,
  or_right,
  some_at,
  some_find,
  all_intro,
  implies_intro,
  eq_T,
  tested,
  T_false,
  true_T,
}
use Rattle.grammar.specs.Verdicts.{Good}
use Rattle.grammar.specs.Limits.{
  most_symbols,
  most_rules,
  most_attributes,
  longest_right,
  most_functions,
  last_operation,
  most_occurrences,
}
use Rattle.grammar.specs.Table.{
  symbols,
  rules,
  start,
  symbol_at,
  kind,
  attributes,
  mask,
  nonterminal,
  argument_words,
  is_constant,
  length_at,
  functions_at,
  function_at,
  function_of,
  functions,
  rule_at,
  right_length,
  symbol_of,
  arguments,
  target,
  operation,
  argument,
  occurrence,
  defining,
}
use Rattle.grammar.specs.Reading.{
  present,
  ranged,
  header,
  symbol_fault,
  start_class,
  left_fault,
  defined_below,
  argument_fault,
  function_fault,
  body_fault,
  complete,
  rule_before,
  rule_fault,
  left_over,
  read_table,
}
use Rattle.grammar.specs.WellFormed.{SymbolFormed, RuleFormed, FunctionFormed, WellFormed}
use Rattle.grammar.proofs.VerdictLaws.{then_good, unless_good, each_good}
use Rattle.grammar.proofs.AcceptedTable.{accepted, defining_occurs}
use Rattle.grammar.proofs.RuleStarts.{functions_rise, function_step, rule_step, rules_rise}

module _ (g : List ℕ) (w : WellFormed g) where
  is_present : (p : ℕ) → p < length g → present g p ≡ Good
  unfolding present
  is_present p h = unless_good _ _ (lt→ltb p (length g) h)

  is_ranged : (p : ℕ) (b : Bool) → p < length g → T b → ranged g p b ≡ Good
  unfolding ranged
  is_ranged p b h t = then_good _ _ (is_present p h) (unless_good b _ t)

  -- the words of the symbols, of a rule and of a function stand before the end
  symbols_inside : symbol_at (symbols g) ≤ length g
  symbols_inside =
      omega (arith, w.ends, rules_rise g 0 (rules g) (omega arith), first)
    where
      first : rule_at g 0 ≡ symbol_at (symbols g)
      first = unfold rule_at in refl

  rule_inside_law : (r : ℕ) → r < rules g → rule_at g (suc r) ≤ length g
  rule_inside_law r h = omega (arith, w.ends, rules_rise g (suc r) (rules g) h)

  head_inside : (r : ℕ) → r < rules g → rule_at g r + 3 + right_length g r ≤ length g
  head_inside r h = omega (arith, rule_inside_law r h, rule_step g r)

  function_inside_law : (r k : ℕ) → r < rules g → k < functions g r → function_of g r (suc k) ≤ length g
  unfolding rule_at functions
  function_inside_law r k h l = omega (arith, rule_inside_law r h, functions_rise g (rule_at g r) (suc k) (functions g r) l)

  -- the header
  header_good : header g ≡ Good
  unfolding header
  header_good =
      let few : 3 ≤ length g = omega (arith, symbols_inside) in
      then_good _ _
      (is_ranged 0 _ (omega arith) (and_intro _ _ (le→leb 1 (symbols g) w.some_symbols) (le→leb (symbols g) most_symbols w.symbols_fit)))
      (then_good _ _
      (is_ranged 1 _ (omega arith) (and_intro _ _ (le→leb 1 (rules g) w.some_rules) (le→leb (rules g) most_rules w.rules_fit)))
      (is_ranged 2 _ (omega arith) (lt→ltb (start g) (symbols g) w.start_fits)))

  symbol_good : (x : ℕ) → x < symbols g → symbol_fault g x ≡ Good
  unfolding symbol_fault
  symbol_good x h =
      let f : SymbolFormed g x = w.symbol x h in
      let inside : symbol_at x + 3 ≤ length g = omega (arith, symbols_inside) in
      then_good _ _ (is_ranged (symbol_at x) _ (omega arith) (le→leb (kind g x) 1 f.kind_fits))
      (then_good _ _ (is_ranged (symbol_at x + 1) _ (omega arith) (le→leb (attributes g x) most_attributes f.attributes_fit))
      (then_good _ _ (is_ranged (symbol_at x + 2) _ (omega arith) (lt→ltb (mask g x) (2 ^ attributes g x) f.mask_fits))
      (unless_good _ _ (class x f))))
    where
      class : (x : ℕ) → SymbolFormed g x → T (nonterminal g x or eqb (mask g x) 0)
      class x f =
          ⊎_elim (λ t. or_left _ _ t)
          (λ t.
          or_right (nonterminal g x) _
          (eq_T _ _ (f.terminal_mask (omega (arith, f.kind_fits, eqb-false (kind g x) 0 (T_false _ t))))))
          (tested (nonterminal g x))

  module _ (r : ℕ) (h : r < rules g) where
    left_good : left_fault g r ≡ Good
    unfolding left_fault symbol_of
    left_good =
        then_good _ _
        (is_ranged (rule_at g r) _ (omega (arith, head_inside r h)) (lt→ltb _ (symbols g) ((w.rule r h).symbols_fit 0 (omega arith))))
        (unless_good _ _ (eq_T _ _ (w.rule r h).left_nonterminal))

    argument_good : (k j : ℕ) → k < functions g r → j < argument_words (operation g r k) → argument_fault g r k j ≡ Good
    unfolding argument_fault function_at operation arguments
    argument_good k j l m =
        then_good _ _ (is_present _ (omega (arith, function_inside_law r k h l)))
        (unless_good _ _ (occurs (is_constant (operation g r k)) refl))
      where
        occurs : (b : Bool) → is_constant (operation g r k) ≡ b → T (is_constant (operation g r k) or occurrence g r (argument g r k j))
        occurs true e = or_left _ _ (true_T _ e)
        occurs false e =
            or_right (is_constant (operation g r k)) _
            ((w.function r k h l).argument_occurs j (subst⁻¹ (λ (b : Bool). j < cond b 0 (argument_words (operation g r k))) e m))

    function_good : (k : ℕ) → k < functions g r → function_fault g r k ≡ Good
    unfolding function_fault defined_below
    function_good k l =
        let f : FunctionFormed g r k = w.function r k h l in
        let inside : function_of g r k + 3 ≤ length g = omega (arith, function_inside_law r k h l, (function_step g (rule_at g r) k).0) in
        then_good _ _ (is_present _ (omega arith))
        (then_good _ _ (unless_good _ _ (defining_occurs g r (target g r k) f.target_defining))
        (then_good _ _
        (unless_good _ _ (and_intro _ _ f.target_defining (not_T (defined_below g r k (target g r k)) (λ t. earlier f (some_find _ _ t)))))
        (then_good _ _ (is_ranged (function_of g r k + 1) _ (omega arith) (le→leb (operation g r k) last_operation f.operation_fits))
        (each_good _ _ (λ j m. argument_good k j l m)))))
      where
        earlier : FunctionFormed g r k → (j : ℕ) × (j < k) × T (eqb (target g r j) (target g r k)) → ⊥
        earlier f v = f.target_once v.0 v.1 (eqb→eq _ _ v.2)

    body_good : body_fault g r ≡ Good
    unfolding body_fault right_length functions symbol_of
    body_good =
        let f : RuleFormed g r = w.rule r h in
        let inside : rule_at g r + 3 + length_at g (rule_at g r) ≤ length g = head_inside r h in
        then_good _ _ (is_ranged (rule_at g r + 1) _ (omega arith) (le→leb (length_at g (rule_at g r)) longest_right f.length_fits))
        (then_good _ _
        (each_good _ _ (λ i l. is_ranged (rule_at g r + 2 + i) _ (omega arith) (lt→ltb _ (symbols g) (f.symbols_fit (suc i) l))))
        (then_good _ _
        (is_ranged (rule_at g r + 2 + length_at g (rule_at g r)) _ (omega arith) (le→leb (functions_at g (rule_at g r)) most_functions f.functions_fit))
        (each_good _ _ (λ k l. function_good k l))))

    complete_good : T (complete g r)
    unfolding complete defined_below
    complete_good =
        all_intro most_occurrences (λ o. defining g r o implies defined_below g r (functions g r) o)
        (λ o l. implies_intro _ _ (λ d. found o (w.defined r o h d)))
      where
        found : (o : ℕ) → (k : ℕ) × (k < functions g r) × (target g r k ≡ o) → T (some (functions g r) (λ k. eqb (target g r k) o))
        found o v = some_at (functions g r) (λ k. eqb (target g r k) o) v.0 v.1 (eq_T _ _ v.2)

  before_good : (r : ℕ) → r ≤ rules g → rule_before g r ≡ Good
  unfolding rule_before
  before_good zero h = refl
  before_good (suc r) h = unless_good _ _ (complete_good r h)

  -- a well-formed table is accepted
  pub formed_accepted : read_table g ≡ Good
  unfolding read_table start_class rule_fault left_over
  formed_accepted =
      then_good _ _ header_good
      (then_good _ _ (each_good _ _ symbol_good)
      (then_good _ _
      (unless_good _ _
      (and_intro _ _ (eq_T (kind g (start g)) 0 w.start_nonterminal) (eq_T (mask g (start g)) 0 w.start_mask)))
      (then_good _ _
      (each_good _ _ (λ r h. then_good _ _ (left_good r h) (then_good _ _ (before_good r (omega arith)) (body_good r h))))
      (then_good _ _ (before_good (rules g) (omega arith))
      (unless_good _ _ (le→leb (length g) (rule_at g (rules g)) (omega (arith, w.ends))))))))

-- the reader accepts exactly the well-formed tables
pub accepted_exactly_law : (g : List ℕ) → (read_table g ≡ Good) ↔ WellFormed g
accepted_exactly_law g = (accepted g, formed_accepted g)
