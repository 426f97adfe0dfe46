-- Where rules and functions stand: each later one further on, all of them before the end, and no table over 25,315 words.
-- Assumes nothing.
use Prim.Native.Nat.{ℕ, zero, suc, ◌+◌, ◌*◌, ◌≤◌, ◌<◌}
use mathlib.Core.Path.{◌≡◌}
use mathlib.Core.Logic.{⊎_elim}
use mathlib.Core.Bool.{Bool, true, false, cond}
use mathlib.Core.List.{List}
use native.Mathlib.Omega.{arith}
use lib.Dec.{leb, eqb}
use lib.ListN.{length}
use Rattle.basics.specs.Lists.{word}
use Rattle.basics.proofs.TestLaws.{below_suc}
use Rattle.grammar.specs.Limits.{longest_table}
use Rattle.grammar.specs.Table.{rules, argument_words, length_at, functions_at, function_at, rule_at, right_length, functions}
use Rattle.grammar.specs.Verdicts.{Good}
use Rattle.grammar.specs.Reading.{read_table}
use Rattle.grammar.specs.WellFormed.{WellFormed, RuleFormed}
use Rattle.grammar.proofs.AcceptedTable.{accepted}

-- an operation has one to four argument words
pub argument_words_law : (op : ℕ) → (1 ≤ argument_words op) × (argument_words op ≤ 4)
unfolding argument_words
argument_words_law op = go (leb op 1) (leb op 6) (eqb op 7)
  where
    go : (a b c : Bool) → (1 ≤ cond a 1 (cond b 2 (cond c 3 4))) × (cond a 1 (cond b 2 (cond c 3 4)) ≤ 4)
    go true b c = omega arith
    go false true c = omega arith
    go false false true = omega arith
    go false false false = omega arith

module _ (g : List ℕ) where
  -- a function is three to six words
  pub function_step : (p k : ℕ) → (function_at g p k + 3 ≤ function_at g p (suc k)) × (function_at g p (suc k) ≤ function_at g p k + 6)
  unfolding function_at
  function_step p k =
      let w : (1 ≤ argument_words (word g (function_at g p k + 1))) × (argument_words (word g (function_at g p k + 1)) ≤ 4) =
      argument_words_law (word g (function_at g p k + 1)) in
      (omega (arith, w.0), omega (arith, w.1))

  pub functions_rise : (p k n : ℕ) → k ≤ n → function_at g p k ≤ function_at g p n
  functions_rise p k zero h = let e : k ≡ 0 = omega arith in rw e (omega arith)
  functions_rise p k (suc n) h =
      ⊎_elim (λ l. omega (arith, functions_rise p k n (omega arith), (function_step p n).0)) (λ e. rw e (omega arith))
      (below_suc k (suc n) (omega arith))

  pub functions_bound : (p n : ℕ) → function_at g p n ≤ p + 3 + length_at g p + 6 * n
  unfolding function_at
  functions_bound p zero = omega arith
  functions_bound p (suc n) = omega (arith, functions_bound p n, (function_step p n).1)

  pub rule_step : (r : ℕ) → rule_at g r + 3 + right_length g r ≤ rule_at g (suc r)
  unfolding rule_at right_length function_at
  rule_step r = functions_rise (rule_at g r) 0 (functions_at g (rule_at g r)) (omega arith)

  pub rules_rise : (r n : ℕ) → r ≤ n → rule_at g r ≤ rule_at g n
  rules_rise r zero h = let e : r ≡ 0 = omega arith in rw e (omega arith)
  rules_rise r (suc n) h =
      ⊎_elim (λ l. omega (arith, rules_rise r n (omega arith), rule_step n)) (λ e. rw e (omega arith)) (below_suc r (suc n) (omega arith))

  module _ (w : WellFormed g) where
    rule_bound : (r : ℕ) → r < rules g → rule_at g (suc r) ≤ rule_at g r + 394
    unfolding rule_at functions right_length
    rule_bound r h =
        let f : RuleFormed g r = w.rule r h in
        omega (arith, functions_bound (rule_at g r) (functions_at g (rule_at g r)), f.length_fits, f.functions_fit)

    rules_bound : (n : ℕ) → n ≤ rules g → rule_at g n ≤ 99 + 394 * n
    unfolding rule_at
    rules_bound zero h = omega (arith, w.symbols_fit)
    rules_bound (suc n) h = omega (arith, rules_bound n (omega arith), rule_bound n h)

    pub formed_length : length g ≤ longest_table
    formed_length = omega (arith, rules_bound (rules g) (omega arith), w.ends, w.rules_fit)

-- "no table exceeds 25,315 words"
pub no_longer_table : (g : List ℕ) → read_table g ≡ Good → length g ≤ longest_table
no_longer_table g e = formed_length g (accepted g e)
