-- A rule that the reader accepts is well formed, its functions are, and its words are all there: each fact is one of the tests that passed.
-- Assumes nothing.
use Prim.Native.Nat.{ℕ, zero, suc, ◌+◌, ◌≤◌, ◌<◌}
use mathlib.Core.Path.{◌≡◌, refl, subst}
use mathlib.Core.Logic.{◌⊎◌, ⊎_elim}
use mathlib.Core.Bool.{Bool, true, false, cond}
use mathlib.Core.List.{List}
use native.Mathlib.Omega.{arith}
use lib.Dec.{T, ltb, leb, eqb, ltb→lt, leb→le, eqb→eq, T_not}
use lib.ListN.{length}
use Rattle.basics.specs.Tests.{◌implies◌}
use Rattle.basics.specs.Lists.{word}
use Rattle.basics.proofs.TestLaws.{and_left, and_right, or_cases, some_at, some_find, all_at, implies_use, eq_T, true_T}
use Rattle.refusals.specs.declared.Refusal.TheVariants.{WrongClass}
use Rattle.grammar.specs.Verdicts.{Good}
use Rattle.grammar.specs.Limits.{longest_right, most_functions, last_operation, most_occurrences}
use Rattle.grammar.specs.Table.{
  symbols,
  kind,
  nonterminal,
  argument_words,
  is_constant,
  length_at,
  functions_at,
  function_at,
  function_of,
  functions,
  rule_at,
  right_length,
  symbol_of,
  arguments,
  target,
  operation,
  argument,
  occurrence,
  defining,
}
use Rattle.grammar.specs.Reading.{ranged, left_fault, defined_below, argument_fault, function_fault, body_fault, complete, rule_fault}
use Rattle.grammar.specs.WellFormed.{RuleFormed, FunctionFormed}
use Rattle.grammar.proofs.VerdictLaws.{then_first, then_second, unless_passes, each_at}
use Rattle.grammar.proofs.AcceptedSymbols.{ranged_passes, present_at, ranged_there}

module _ (g : List ℕ) where
  module _ (r : ℕ) where
    pub left_fits : left_fault g r ≡ Good → (word g (rule_at g r) < symbols g) × (kind g (word g (rule_at g r)) ≡ 0)
    unfolding left_fault
    left_fits e = (
      ltb→lt (word g (rule_at g r)) (symbols g)
          (ranged_passes g (rule_at g r) (ltb (word g (rule_at g r)) (symbols g)) (then_first _ _ e)),
      eqb→eq (kind g (word g (rule_at g r))) 0
          (unless_passes (nonterminal g (word g (rule_at g r))) (WrongClass (rule_at g r)) (then_second _ _ e)),
    )

    pub rule_formed : rule_fault g r ≡ Good → RuleFormed g r
    unfolding rule_fault body_fault symbol_of right_length functions
    rule_formed e =
        let p = rule_at g r in
        let l = left_fits (then_first _ _ e) in
        let b = then_second _ _ (then_second _ _ e) in
        let b₁ = then_second _ _ b in
        let b₂ = then_second _ _ b₁ in
        record {
          symbols_fit = go l.0 (λ i h.
              ltb→lt (word g (p + 2 + i)) (symbols g)
              (ranged_passes g (p + 2 + i) (ltb (word g (p + 2 + i)) (symbols g))
              (each_at (length_at g p) (λ i. ranged g (p + 2 + i) (ltb (word g (p + 2 + i)) (symbols g))) (then_first _ _ b₁) i h)));
          left_nonterminal = l.1;
          length_fits = leb→le (length_at g p) longest_right (ranged_passes g (p + 1) (leb (length_at g p) longest_right) (then_first _ _ b));
          functions_fit =
              leb→le (functions_at g p) most_functions
              (ranged_passes g (p + 2 + length_at g p) (leb (functions_at g p) most_functions) (then_first _ _ b₂));
        }
      where
        go : word g (rule_at g r) < symbols g → ((i : ℕ) → i < length_at g (rule_at g r) → word g (rule_at g r + 2 + i) < symbols g)
            → (i : ℕ) → i ≤ length_at g (rule_at g r) → symbol_of g r i < symbols g
        go l f zero h = l
        go l f (suc i) h = f i h

    -- the functions of the rule, from its body
    pub functions_pass : rule_fault g r ≡ Good → (k : ℕ) → k < functions g r → function_fault g r k ≡ Good
    unfolding rule_fault body_fault
    functions_pass e k h =
        each_at (functions g r) (λ k. function_fault g r k)
        (then_second _ _ (then_second _ _ (then_second _ _ (then_second _ _ (then_second _ _ e))))) k h

    argument_pass : (k j : ℕ) → argument_fault g r k j ≡ Good
        → (function_of g r k + 2 + j < length g) × (T (is_constant (operation g r k)) ⊎ T (occurrence g r (argument g r k j)))
    unfolding argument_fault
    argument_pass k j e =
        (present_at g (function_of g r k + 2 + j) (then_first _ _ e), or_cases _ _ (unless_passes _ _ (then_second _ _ e)))

    arguments_pass : (k : ℕ) → function_fault g r k ≡ Good → (j : ℕ) → j < argument_words (operation g r k) → argument_fault g r k j ≡ Good
    unfolding function_fault
    arguments_pass k e j h =
        each_at (argument_words (operation g r k)) (λ j. argument_fault g r k j)
        (then_second _ _ (then_second _ _ (then_second _ _ (then_second _ _ e)))) j h

    pub function_formed : (k : ℕ) → function_fault g r k ≡ Good → FunctionFormed g r k
    unfolding function_fault defined_below arguments
    function_formed k e =
        let t = unless_passes _ _ (then_first _ _ (then_second _ _ (then_second _ _ e))) in
        record {
          target_defining = and_left _ _ t;
          target_once = λ j h i.
              T_not (defined_below g r k (target g r k)) (and_right _ _ t)
              (some_at k (λ j. eqb (target g r j) (target g r k)) j h (eq_T _ _ i));
          operation_fits =
              leb→le (operation g r k) last_operation
              (ranged_passes g (function_of g r k + 1) _ (then_first _ _ (then_second _ _ (then_second _ _ (then_second _ _ e)))));
          argument_occurs = λ j. occurs j (is_constant (operation g r k)) refl;
        }
      where
        occurs : (j : ℕ) (b : Bool) → is_constant (operation g r k) ≡ b → j < cond b 0 (argument_words (operation g r k))
            → T (occurrence g r (argument g r k j))
        occurs j true c h = absurd (let z : suc j ≤ 0 = h in omega arith)
        occurs j false c h =
            ⊎_elim (λ s. absurd (subst (λ (x : Bool). T x) c s)) (λ s. s) (argument_pass k j (arguments_pass k e j h)).1

    some_words : (op : ℕ) → 1 ≤ argument_words op
    unfolding argument_words
    some_words op = go (leb op 1) (leb op 6) (eqb op 7)
      where
        go : (a b c : Bool) → 1 ≤ cond a 1 (cond b 2 (cond c 3 4))
        go true b c = omega arith
        go false true c = omega arith
        go false false true = omega arith
        go false false false = omega arith

    -- the words of a function are all there
    function_words : (k : ℕ) → function_fault g r k ≡ Good → function_of g r (suc k) ≤ length g
    unfolding function_at operation
    function_words k e =
        let n = argument_words (operation g r k) in
        let w : 1 ≤ n = some_words (operation g r k) in
        last n w (λ j h. (argument_pass k j (arguments_pass k e j h)).0)
      where
        last : (n : ℕ) → 1 ≤ n → ((j : ℕ) → j < n → function_of g r k + 2 + j < length g) → function_of g r k + 2 + n ≤ length g
        last zero w f = omega arith
        last (suc n) w f = omega (arith, f n (omega arith))

    -- and so are the rule's
    count_there : rule_fault g r ≡ Good → function_of g r 0 ≤ length g
    unfolding rule_fault body_fault function_at
    count_there e =
        omega (arith, ranged_there g _ _ (then_first _ _ (then_second _ _ (then_second _ _ (then_second _ _ (then_second _ _ e))))))

    pub rule_words : rule_fault g r ≡ Good → rule_at g (suc r) ≤ length g
    unfolding rule_at functions
    rule_words e = go (functions_at g (rule_at g r)) (functions_pass e)
      where
        go : (n : ℕ) → ((k : ℕ) → k < n → function_fault g r k ≡ Good) → function_of g r n ≤ length g
        go zero f = count_there e
        go (suc n) f = function_words n (f n (omega arith))

    pub rule_complete : complete g r ≡ true → (o : ℕ) → T (defining g r o) → o < most_occurrences
        → (k : ℕ) × (k < functions g r) × (target g r k ≡ o)
    unfolding complete defined_below
    rule_complete e o d h =
        let w = some_find (functions g r) (λ k. eqb (target g r k) o)
        (implies_use _ _ (all_at most_occurrences (λ o. defining g r o implies defined_below g r (functions g r) o) (true_T _ e) o h) d) in
        (w.0, w.1, eqb→eq _ _ w.2)
