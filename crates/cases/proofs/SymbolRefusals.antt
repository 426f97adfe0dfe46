-- Each refusal of the reader in the header and in the symbols is a case of document 01's table: a test that fails there is the case's own
-- condition, and the tests stand in the order of the keys. Assumes nothing.
use Prim.Native.Nat.{ℕ, ◌+◌, ◌*◌, ◌^◌, ◌≤◌, ◌<◌}
use mathlib.Core.Path.{◌≡◌}
use mathlib.Core.Logic.{⊎_elim}
use mathlib.Core.Bool.{Bool, not}
use mathlib.Core.List.{List}
use native.Mathlib.Omega.{arith}
use lib.Dec.{T, ltb, leb, eqb, leb→le, lt→ltb, le→leb, T_not, not_T, nltb→le}
use lib.ListN.{length}
use Rattle.basics.specs.Tests.{◌and◌, ◌or◌}
use Rattle.basics.proofs.TestLaws.{and_intro, or_left, or_right, eq_T, tested, below_or_not}
use Rattle.refusals.specs.declared.Refusal.TheVariants.{EndsEarly, OutOfRange, WrongClass}
use Rattle.grammar.specs.Limits.{most_symbols, most_rules, most_attributes}
use Rattle.grammar.specs.Table.{symbols, rules, start, symbol_at, kind, attributes, mask, nonterminal, rule_at}
use Rattle.grammar.specs.Verdicts.{Verdict, Good, ◌then◌, unless, each}
use Rattle.grammar.specs.Reading.{present, ranged, header, symbol_fault, start_class}
use Rattle.grammar.proofs.VerdictLaws.{each_at}
use Rattle.grammar.proofs.AcceptedSymbols.{ranged_passes, symbol_formed}
use Rattle.cases.specs.TableCases.{TableCase}
use Rattle.cases.specs.TableCases as case
use Rattle.cases.proofs.PassedLaws.{CasesWithin, within_then, within_unless, within_each}
use Rattle.cases.proofs.TableKeys.{key, after_header, class_key, first_rule}

module _ (g : List ℕ) where
  abbrev pub In : Verdict → ℕ → Type 1
  In v end = CasesWithin (TableCase g) (key g) v end

  pub in_then : (v w : Verdict) (end : ℕ) → In v end → In w end → In (v then w) end
  in_then v w end p q = within_then (TableCase g) (key g) v w end p (λ e. q)

  -- a kind in its range that is no nonterminal's is a terminal's
  pub terminal_kind : (x : ℕ) → kind g x ≤ 1 → T (not (nonterminal g x)) → kind g x ≡ 1
  terminal_kind x h t =
      ⊎_elim (λ l. absurd (T_not (nonterminal g x) t (eq_T (kind g x) 0 (omega arith)))) (λ l. omega arith) (below_or_not (kind g x) 1)

  pub in_present : (p end : ℕ) → p < rule_at g (rules g) → 16 * p + 2 ≤ end → In (present g p) end
  unfolding present
  in_present p end h l =
      within_unless (TableCase g) (key g) (ltb p (length g)) (EndsEarly p) end
      (λ t. case.ends_early p (nltb→le p (length g) t) h) (omega arith)

  pub in_ranged : (p : ℕ) (b : Bool) (end : ℕ) → p < rule_at g (rules g) → 16 * p + 3 ≤ end → (T (not b) → TableCase g (OutOfRange p))
      → In (ranged g p b) end
  unfolding ranged
  in_ranged p b end h l c =
      in_then (present g p) (unless b (OutOfRange p)) end (in_present p end h (omega arith))
      (within_unless (TableCase g) (key g) b (OutOfRange p) end c (omega arith))

  -- the three words of the header
  pub in_header : (end : ℕ) → 35 ≤ end → In (header g) end
  unfolding header
  in_header end l =
      let e = after_header g (rules g) in
      in_then _ _ end
      (in_ranged 0 _ end (omega arith) (omega arith)
      (λ t. case.symbol_count (λ h.
      T_not (leb 1 (symbols g) and leb (symbols g) most_symbols) t
      (and_intro _ _ (le→leb 1 (symbols g) h.0) (le→leb (symbols g) most_symbols h.1)))))
      (in_then _ _ end
      (in_ranged 1 _ end (omega arith) (omega arith)
      (λ t. case.rule_count (λ h.
      T_not (leb 1 (rules g) and leb (rules g) most_rules) t
      (and_intro _ _ (le→leb 1 (rules g) h.0) (le→leb (rules g) most_rules h.1)))))
      (in_ranged 2 _ end (omega arith) (omega arith)
      (λ t. case.start_symbol (λ h. T_not (ltb (start g) (symbols g)) t (lt→ltb (start g) (symbols g) h)))))

  -- the three words of a symbol
  pub in_symbol : (x end : ℕ) → x < symbols g → 16 * symbol_at x + 36 ≤ end → In (symbol_fault g x) end
  unfolding symbol_fault
  in_symbol x end h l =
      let e = after_header g (rules g) in
      within_then (TableCase g) (key g) _ _ end
      (in_ranged (symbol_at x) _ end (omega arith) (omega arith)
      (λ t. case.symbol_kind x h (λ s. T_not (leb (kind g x) 1) t (le→leb (kind g x) 1 s))))
      (λ known.
      in_then _ _ end
      (in_ranged (symbol_at x + 1) _ end (omega arith) (omega arith)
      (λ t. case.attribute_count x h (λ s. T_not (leb (attributes g x) most_attributes) t (le→leb (attributes g x) most_attributes s))))
      (in_then _ _ end
      (in_ranged (symbol_at x + 2) _ end (omega arith) (omega arith)
      (λ t. case.symbol_mask x h (λ s. T_not (ltb (mask g x) (2 ^ attributes g x)) t (lt→ltb (mask g x) (2 ^ attributes g x) s))))
      (within_unless (TableCase g) (key g) (nonterminal g x or eqb (mask g x) 0) (WrongClass (symbol_at x + 2)) end
      (λ t.
      case.terminal_inherits x h
      (terminal_kind x (leb→le (kind g x) 1 (ranged_passes g (symbol_at x) (leb (kind g x) 1) known))
      (not_T (nonterminal g x)
      (λ s. T_not (nonterminal g x or eqb (mask g x) 0) t (or_left (nonterminal g x) (eqb (mask g x) 0) s))))
      (λ s. T_not (nonterminal g x or eqb (mask g x) 0) t (or_right (nonterminal g x) (eqb (mask g x) 0) (eq_T (mask g x) 0 s))))
      (omega (arith, class_key g (symbol_at x + 2) (omega arith))))))

  -- the start's class, where each kind is in its range
  abbrev pub Kinds : Type 0
  Kinds = (x : ℕ) → x < symbols g → kind g x ≤ 1

  pub in_start : (end : ℕ) → Kinds → start g < symbols g → 16 * rule_at g 0 ≤ end → In (start_class g) end
  unfolding start_class
  in_start end kinds inside l =
      within_unless (TableCase g) (key g) (nonterminal g (start g) and eqb (mask g (start g)) 0) (WrongClass 2) end
      (λ t.
      ⊎_elim
      (λ s. case.start_inherits (λ m.
      T_not (nonterminal g (start g) and eqb (mask g (start g)) 0) t
      (and_intro (nonterminal g (start g)) (eqb (mask g (start g)) 0) s (eq_T (mask g (start g)) 0 m))))
      (λ s. case.start_terminal (terminal_kind (start g) (kinds (start g) inside) s)) (tested (nonterminal g (start g))))
      (omega (arith, first_rule g))

  pub in_symbols : (end : ℕ) → 16 * rule_at g 0 ≤ end → In (each (symbols g) (λ x. symbol_fault g x)) end
  in_symbols end l =
      within_each (TableCase g) (key g) (symbols g) (λ x. symbol_fault g x) end (λ x m. in_symbol x end m (omega (arith, first_rule g)))

  -- symbols that are good have their kinds in range
  pub good_kinds : each (symbols g) (λ x. symbol_fault g x) ≡ Good → Kinds
  good_kinds e x h = (symbol_formed g x (each_at (symbols g) (λ x. symbol_fault g x) e x h)).kind_fits
