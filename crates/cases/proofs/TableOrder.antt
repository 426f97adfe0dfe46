-- The order of the cases 1 to 7 is that of their keys: each case has a walk and a turn in it, and at one turn the lower number goes first.
-- Assumes nothing.
use Prim.Native.Nat.{ℕ, ◌≤◌, ◌<◌}
use mathlib.Core.Path.{◌≡◌}
use mathlib.Core.List.{List}
use native.Mathlib.Omega.{arith}
use Rattle.refusals.specs.declared.Refusal.{Refusal}
use Rattle.refusals.specs.Numbers.{number_of, second_of}
use Rattle.cases.specs.First.{rule_walk, walk, Earlier, earlier_walk, earlier_place, lower_occurrence, lower_number}
use Rattle.cases.proofs.FirstLaws.{later_walk}
use Rattle.cases.specs.TableCases.{TableCase}
use Rattle.cases.specs.TableCases as case
use Rattle.cases.proofs.TableKeys.{HasTurn, in_symbols, at_start, in_rules, turned, key, first_rule}

module _ (g : List ℕ) where
  -- The cases are those of the walks over the words, and their order is that of their keys.
  table_number : (n : Refusal) → TableCase g n → (number_of n ≤ 7) × (second_of n ≡ 0)
  table_number n (case.ends_early p l h) = omega arith
  table_number n (case.symbol_count c) = omega arith
  table_number n (case.rule_count c) = omega arith
  table_number n (case.start_symbol c) = omega arith
  table_number n (case.symbol_kind x h c) = omega arith
  table_number n (case.attribute_count x h c) = omega arith
  table_number n (case.symbol_mask x h c) = omega arith
  table_number n (case.left_symbol r h c) = omega arith
  table_number n (case.right_count r h c) = omega arith
  table_number n (case.right_symbol r i h l c) = omega arith
  table_number n (case.function_count r h c) = omega arith
  table_number n (case.operation_number r f h c) = omega arith
  table_number n (case.terminal_inherits x h c d) = omega arith
  table_number n (case.terminal_left r h c) = omega arith
  table_number n (case.start_terminal c) = omega arith
  table_number n (case.start_inherits c) = omega arith
  table_number n (case.target_foreign r f h c) = omega arith
  table_number n (case.argument_foreign r f j h l c) = omega arith
  table_number n (case.target_not_defining r f h c) = omega arith
  table_number n (case.defined_before r f j h l e) = omega arith
  table_number n (case.undefined r o h d c) = omega arith
  table_number n (case.left_over c) = omega arith

  pub table_walk : (n : Refusal) → TableCase g n → walk g n ≤ rule_walk
  table_walk n c = go (turned g n (table_number n c).0)
    where
      go : HasTurn g n → walk g n ≤ rule_walk
      go (in_symbols w e h) = omega arith
      go (at_start w e h) = omega arith
      go (in_rules w e h) = omega arith

  pub keys_order : (m n : Refusal) → TableCase g m → TableCase g n → Earlier g m n → key g m < key g n
  keys_order m n c d e = go (turned g m (table_number m c).0) (turned g n (table_number n d).0) e
    where
      small : (number_of m ≤ 7) × (second_of n ≡ 0)
      small = ((table_number m c).0, (table_number n d).1)

      go : HasTurn g m → HasTurn g n → Earlier g m n → key g m < key g n
      go (in_symbols w e h) (in_symbols v f l) (earlier_place a b) = omega (arith, small)
      go (in_symbols w e h) (in_symbols v f l) (earlier_walk a) = absurd (omega arith)
      go (in_symbols w e h) (in_symbols v f l) (lower_occurrence a b k) = absurd (omega (arith, small))
      go (in_symbols w e h) (in_symbols v f l) (lower_number a b c d) = omega arith
      go (in_symbols w e h) (at_start v f l) x = omega (arith, small)
      go (in_symbols w e h) (in_rules v f l) x = omega (arith, small)
      go (at_start w e h) (in_symbols v f l) x = absurd (later_walk g m n (omega arith) x)
      go (at_start w e h) (at_start v f l) (earlier_walk a) = absurd (omega arith)
      go (at_start w e h) (at_start v f l) (earlier_place a b) = absurd (omega arith)
      go (at_start w e h) (at_start v f l) (lower_occurrence a b k) = absurd (omega (arith, small))
      go (at_start w e h) (at_start v f l) (lower_number a b c d) = omega arith
      go (at_start w e h) (in_rules v f l) x = omega (arith, small, first_rule g)
      go (in_rules w e h) (in_symbols v f l) x = absurd (later_walk g m n (omega arith) x)
      go (in_rules w e h) (at_start v f l) x = absurd (later_walk g m n (omega arith) x)
      go (in_rules w e h) (in_rules v f l) (earlier_walk a) = absurd (omega arith)
      go (in_rules w e h) (in_rules v f l) (earlier_place a b) = omega (arith, small)
      go (in_rules w e h) (in_rules v f l) (lower_occurrence a b k) = absurd (omega (arith, small))
      go (in_rules w e h) (in_rules v f l) (lower_number a b c d) = omega arith
