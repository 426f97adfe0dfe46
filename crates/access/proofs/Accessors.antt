-- What callers of the accessors need: from an accepted table and a rule's offset to the views by number.
-- Assumes nothing.
use Prim.Native.Nat.{ℕ, suc, ◌-◌, ◌≤◌, ◌<◌}
use mathlib.Core.Path.{◌≡◌, sym, ◌∙◌, ap, subst}
use mathlib.Core.List.{List}
use native.Mathlib.Omega.{arith}
use lib.ListN.{length, get_or, replicate, get_or-append}
use Rattle.basics.specs.Lists.{tabulate, padded}
use Rattle.basics.proofs.ListLaws.{length_tabulate, get_d_tabulate}
use Rattle.bits.specs.Bit.{collect}
use Rattle.grammar.specs.Verdicts.{Good}
use Rattle.grammar.specs.Limits.{most_rules, longest_table}
use Rattle.grammar.specs.Table.{symbols, rules, function_at, rule_at, right_length, symbol_of, defining}
use Rattle.grammar.specs.Reading.{read_table}
use Rattle.grammar.specs.WellFormed.{WellFormed}
use Rattle.grammar.proofs.AcceptedTable.{accepted}
use Rattle.grammar.proofs.RuleStarts.{rules_rise, no_longer_table}
use Rattle.access.specs.Offsets.{offsets_for, RuleOf}
use Rattle.access.specs.ByPlace.{symbol_from, next_function, definings_at, Shaped}
use Rattle.access.proofs.Same.{symbol_same, definings_same}

-- the function after function k
pub next_function_law : (g : List ℕ) (p k f : ℕ) → f ≡ function_at g p k → next_function g f ≡ function_at g p (suc k)
unfolding function_at
next_function_law g p k f e = ap (next_function g) e

module _ (g : List ℕ) (r p : ℕ) (e : p ≡ rule_at g r) where
  pub symbol_at_rule : (i : ℕ) → symbol_from g p i ≡ symbol_of g r i
  symbol_at_rule i = ap (λ (q : ℕ). symbol_from g q i) e ∙ symbol_same g r i

  pub definings_at_rule : definings_at g p ≡ collect 64 (λ o. defining g r o)
  definings_at_rule = ap (definings_at g) e ∙ definings_same g r

  -- a rule of an accepted table has what its sets require
  pub shaped_rule : read_table g ≡ Good → r < rules g → Shaped g p
  unfolding right_length
  shaped_rule good h =
      let w : WellFormed g = accepted g good in
      subst (λ (q : ℕ). Shaped g q) (sym e)
      (record {
        short = (w.rule r h).length_fits;
        formed = λ i l.
            w.symbol (symbol_from g (rule_at g r) i)
            (subst (λ (x : ℕ). x < symbols g) (sym (symbol_same g r i)) ((w.rule r h).symbols_fit i l));
      })

-- the offsets of an accepted table are where its rules start
pub offset_is : (g offsets : List ℕ) (r p : ℕ) → offsets ≡ offsets_for g Good → r < rules g → p ≡ get_or offsets r 0 → p ≡ rule_at g r
unfolding offsets_for padded
offset_is g offsets r p e h q =
    q
    ∙ (ap (λ (s : List ℕ). get_or s r 0) e
    ∙ (get_or-append (tabulate (rules g) (λ n. rule_at g n)) (replicate (most_rules - length (tabulate (rules g) (λ n. rule_at g n))) 0) 0 r
    (omega (arith, length_tabulate (rules g) (λ n. rule_at g n)))
    ∙ get_d_tabulate (rules g) (λ n. rule_at g n) 0 r h))

-- and that is before its end
pub rule_fits : (g : List ℕ) (r : ℕ) → read_table g ≡ Good → r ≤ rules g → rule_at g r ≤ longest_table
rule_fits g r good h = omega (arith, rules_rise g r (rules g) h, (accepted g good).ends, no_longer_table g good)

-- one of the first n rules, where these are all
pub rule_of : (g offsets : List ℕ) (r n : ℕ) → read_table g ≡ Good → offsets ≡ offsets_for g Good → n ≡ rules g → r < n → RuleOf g offsets r
rule_of g offsets r n good o e h = record { good = good; offsets_are = o; inside = omega arith }

module _ (g offsets : List ℕ) (r : ℕ) (w : RuleOf g offsets r) where
  pub rule_small : r < most_rules
  rule_small = omega (arith, w.inside, (accepted g w.good).rules_fit)

  module _ (p : ℕ) (e : p ≡ get_or offsets r 0) where
    pub rule_starts : p ≡ rule_at g r
    rule_starts = offset_is g offsets r p w.offsets_are w.inside e

    pub rule_near : p < 65536
    rule_near = omega (arith, rule_starts, w.inside, rule_fits g r w.good (omega (arith, w.inside)))

    pub rule_shaped : Shaped g p
    rule_shaped = shaped_rule g r p rule_starts w.good w.inside
