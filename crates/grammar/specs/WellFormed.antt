-- Document 01, "The grammar table": what a well-formed table is, as plain facts about its words.
-- Assumes nothing.
use Rattle.std.specs.Prelude.{ℕ, ◌^◌, ◌≤◌, ◌<◌, ◌≡◌, List, T, length}
use Rattle.grammar.specs.Limits.{
  most_symbols,
  most_rules,
  most_attributes,
  longest_right,
  most_functions,
  last_operation,
}
use Rattle.grammar.specs.Table.{
  symbols,
  rules,
  start,
  kind,
  attributes,
  mask,
  functions,
  rule_at,
  right_length,
  symbol_of,
  arguments,
  target,
  operation,
  argument,
  occurrence,
  defining,
}

-- "kind (0 nonterminal, 1 terminal), attribute count (0..8), mask (below 2 to that count)"; "terminals have synthesized attributes only"
pub record SymbolFormed (g : List ℕ) (x : ℕ) : Type 0 where
  pub kind_fits : kind g x ≤ 1
  pub attributes_fit : attributes g x ≤ most_attributes
  pub mask_fits : mask g x < 2 ^ attributes g x
  pub terminal_mask : kind g x ≡ 1 → mask g x ≡ 0

-- "left symbol, right length n (0..7), n symbols, number of functions (0..64)"; the left side is a nonterminal
pub record RuleFormed (g : List ℕ) (r : ℕ) : Type 0 where
  pub symbols_fit : (i : ℕ) → i ≤ right_length g r → symbol_of g r i < symbols g
  pub left_nonterminal : kind g (symbol_of g r 0) ≡ 0
  pub length_fits : right_length g r ≤ longest_right
  pub functions_fit : functions g r ≤ most_functions

-- "A function is target, operation, arguments", its target a defining occurrence that no earlier function has
pub record FunctionFormed (g : List ℕ) (r k : ℕ) : Type 0 where
  pub target_defining : T (defining g r (target g r k))
  pub target_once : (j : ℕ) → j < k → target g r j ≡ target g r k → ⊥
  pub operation_fits : operation g r k ≤ last_operation
  pub argument_occurs : (j : ℕ) → j < arguments g r k → T (occurrence g r (argument g r k j))

-- a well-formed table
pub record WellFormed (g : List ℕ) : Type 0 where
  pub some_symbols : 1 ≤ symbols g
  pub symbols_fit : symbols g ≤ most_symbols
  pub some_rules : 1 ≤ rules g
  pub rules_fit : rules g ≤ most_rules
  pub start_fits : start g < symbols g
  pub symbol : (x : ℕ) → x < symbols g → SymbolFormed g x
  pub start_nonterminal : kind g (start g) ≡ 0
  pub start_mask : mask g (start g) ≡ 0
  pub rule : (r : ℕ) → r < rules g → RuleFormed g r
  pub function : (r k : ℕ) → r < rules g → k < functions g r → FunctionFormed g r k
  -- "Each has exactly one function"
  pub defined : (r o : ℕ) → r < rules g → T (defining g r o) → (k : ℕ) × (k < functions g r) × (target g r k ≡ o)
  -- the words end with the last rule
  pub ends : length g ≡ rule_at g (rules g)
