-- A table that the reader accepts is well formed: its parts are, and it ends where its last rule ends. Assumes nothing.
use Prim.Native.Nat.{ℕ, zero, suc, ◌≤◌, ◌<◌}
use mathlib.Core.Path.{◌≡◌, subst}
use mathlib.Core.Logic.{⊎_elim}
use mathlib.Core.Bool.{true}
use mathlib.Core.List.{List}
use native.Mathlib.Omega.{arith}
use lib.Dec.{T, leb, eqb, leb→le, eqb→eq}
use lib.ListN.{length}
use Rattle.basics.specs.Tests.{◌and◌}
use Rattle.basics.proofs.TestLaws.{and_left, and_right, T_true, below_or_not}
use Rattle.refusals.specs.declared.Refusal.TheVariants.{Undefined, LeftOver}
use Rattle.grammar.specs.Verdicts.{Good}
use Rattle.grammar.specs.Limits.{most_occurrences}
use Rattle.grammar.specs.Table.{symbols, rules, start, kind, mask, nonterminal, rule_at, right_length, occurrence, defining, position}
use Rattle.grammar.specs.Reading.{header, symbol_fault, start_class, complete, rule_before, rule_fault, left_over, read_table}
use Rattle.grammar.specs.WellFormed.{RuleFormed, WellFormed}
use Rattle.grammar.proofs.VerdictLaws.{then_first, then_second, unless_passes, each_at}
use Rattle.grammar.proofs.AcceptedSymbols.{header_symbols, header_rules, header_start, symbol_formed}
use Rattle.grammar.proofs.AcceptedRules.{rule_words, rule_formed, functions_pass, function_formed, rule_complete}

module _ (g : List ℕ) where
  -- a defining occurrence is an occurrence
  pub defining_occurs : (r o : ℕ) → T (defining g r o) → T (occurrence g r o)
  unfolding defining
  defining_occurs r o t = and_left _ _ t

  -- an occurrence of a rule is below 64
  pub occurrence_fits : (r o : ℕ) → RuleFormed g r → T (occurrence g r o) → o < most_occurrences
  unfolding occurrence
  occurrence_fits r o f t = omega (arith, leb→le (position o) (right_length g r) (and_left _ _ t), f.length_fits)

  module _ (good : read_table g ≡ Good) where
    -- the parts of the table, in the order of reading
    header_pass : header g ≡ Good
    unfolding read_table
    header_pass = then_first _ _ good

    symbols_pass : (x : ℕ) → x < symbols g → symbol_fault g x ≡ Good
    unfolding read_table
    symbols_pass x h = each_at (symbols g) (λ x. symbol_fault g x) (then_first _ _ (then_second _ _ good)) x h

    start_pass : start_class g ≡ Good
    unfolding read_table
    start_pass = then_first _ _ (then_second _ _ (then_second _ _ good))

    rules_pass : (r : ℕ) → r < rules g → rule_fault g r ≡ Good
    unfolding read_table
    rules_pass r h =
        each_at (rules g) (λ r. rule_fault g r) (then_first _ _ (then_second _ _ (then_second _ _ (then_second _ _ good)))) r h

    last_pass : rule_before g (rules g) ≡ Good
    unfolding read_table
    last_pass = then_first _ _ (then_second _ _ (then_second _ _ (then_second _ _ (then_second _ _ good))))

    over_pass : left_over g ≡ Good
    unfolding read_table
    over_pass = then_second _ _ (then_second _ _ (then_second _ _ (then_second _ _ (then_second _ _ good))))

    -- each rule is complete: the next one's first word is read after it, and the last one is tested at the end
    all_complete : (r : ℕ) → r < rules g → complete g r ≡ true
    unfolding rule_fault rule_before
    all_complete r h =
        ⊎_elim
        (λ l. T_true _ (unless_passes _ _ (then_first _ _ (then_second _ _ (rules_pass (suc r) l)))))
        (λ l.
        let e : rules g ≡ suc r = omega arith in
        T_true _ (unless_passes (complete g r) (Undefined (rule_at g (suc r)))
        (subst (λ (n : ℕ). rule_before g n ≡ Good) e last_pass)))
        (below_or_not (suc r) (rules g))

    words_end : 1 ≤ rules g → length g ≡ rule_at g (rules g)
    unfolding left_over
    words_end h =
        let le : length g ≤ rule_at g (rules g) =
        leb→le _ _ (unless_passes (leb (length g) (rule_at g (rules g))) (LeftOver (rule_at g (rules g))) over_pass) in
        go (rules g) h rules_pass le
      where
        go : (n : ℕ) → 1 ≤ n → ((r : ℕ) → r < n → rule_fault g r ≡ Good) → length g ≤ rule_at g n → length g ≡ rule_at g n
        go zero h f le = absurd (let z : suc 0 ≤ 0 = h in omega arith)
        go (suc n) h f le = let ge : rule_at g (suc n) ≤ length g = rule_words g n (f n (omega arith)) in omega arith

    -- what the reader accepts is well formed
    pub accepted : WellFormed g
    unfolding start_class
    accepted =
        let c : T (nonterminal g (start g) and eqb (mask g (start g)) 0) = unless_passes _ _ start_pass in
        record {
          some_symbols = (header_symbols g header_pass).0;
          symbols_fit = (header_symbols g header_pass).1;
          some_rules = (header_rules g header_pass).0;
          rules_fit = (header_rules g header_pass).1;
          start_fits = header_start g header_pass;
          symbol = λ x h. symbol_formed g x (symbols_pass x h);
          start_nonterminal = eqb→eq (kind g (start g)) 0 (and_left _ _ c);
          start_mask = eqb→eq (mask g (start g)) 0 (and_right _ _ c);
          rule = λ r h. rule_formed g r (rules_pass r h);
          function = λ r k h l. function_formed g r k (functions_pass g r (rules_pass r h) k l);
          defined = λ r o h d. rule_complete g r (all_complete r h) o d (occurrence_fits r o (rule_formed g r (rules_pass r h)) (defining_occurs r o d));
          ends = words_end (header_rules g header_pass).0;
        }
