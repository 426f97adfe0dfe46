-- Document 01, "Refusal numbers" 1 to 7, each "When" as a proposition about the words of a table, with its "Place".
-- The views of a table are total, 0 past its end: what they say of words after the first fault means nothing, and answers nothing.
-- Assumes nothing.
use Rattle.std.specs.Prelude.{ℕ, suc, ◌+◌, ◌^◌, ◌≤◌, ◌<◌, ◌≡◌, List, T, length}
use Rattle.refusals.specs.declared.Refusal.{Refusal}
use Rattle.refusals.specs.declared.Refusal.TheVariants.{EndsEarly, OutOfRange, WrongClass, NoOccurrence, NotDefining, Undefined, LeftOver}
use Rattle.grammar.specs.Limits.{most_symbols, most_rules, most_attributes, longest_right, most_functions, last_operation}
use Rattle.grammar.specs.Table.{
  symbols,
  rules,
  start,
  symbol_at,
  kind,
  attributes,
  mask,
  rule_at,
  right_length,
  symbol_of,
  functions,
  function_of,
  target,
  operation,
  argument,
  arguments,
  occurrence,
  defining,
}

-- rule r has function k
pub record HasFunction (g : List ℕ) (r k : ℕ) : Type 0 where
  pub rule_inside : r < rules g
  pub function_inside : k < functions g r

pub data TableCase (g : List ℕ) : Refusal → Type 1 where
  -- 1: "the words end too early", at "index of the missing word". Rule R would start where the table is to end.
  ends_early : (p : ℕ) → length g ≤ p → p < rule_at g (rules g) → TableCase g (EndsEarly p)
  -- 2: "a count, kind, mask, symbol or operation outside its range", at its word.
  -- "number of symbols S (1..32), number of rules R (1..64), start symbol (< S)"
  symbol_count : ¬ ((1 ≤ symbols g) × (symbols g ≤ most_symbols)) → TableCase g (OutOfRange 0)
  rule_count : ¬ ((1 ≤ rules g) × (rules g ≤ most_rules)) → TableCase g (OutOfRange 1)
  start_symbol : ¬ (start g < symbols g) → TableCase g (OutOfRange 2)
  -- "kind (0 nonterminal, 1 terminal), attribute count (0..8), mask (below 2 to that count)"
  symbol_kind : (x : ℕ) → x < symbols g → ¬ (kind g x ≤ 1) → TableCase g (OutOfRange (symbol_at x))
  attribute_count : (x : ℕ) → x < symbols g → ¬ (attributes g x ≤ most_attributes) → TableCase g (OutOfRange (symbol_at x + 1))
  symbol_mask : (x : ℕ) → x < symbols g → ¬ (mask g x < 2 ^ attributes g x) → TableCase g (OutOfRange (symbol_at x + 2))
  -- "left symbol, right length n (0..7), n symbols, number of functions (0..64)"
  left_symbol : (r : ℕ) → r < rules g → ¬ (symbol_of g r 0 < symbols g) → TableCase g (OutOfRange (rule_at g r))
  right_count : (r : ℕ) → r < rules g → ¬ (right_length g r ≤ longest_right) → TableCase g (OutOfRange (rule_at g r + 1))
  right_symbol : (r i : ℕ) → r < rules g → i < right_length g r → ¬ (symbol_of g r (suc i) < symbols g)
      → TableCase g (OutOfRange (rule_at g r + 2 + i))
  function_count : (r : ℕ) → r < rules g → ¬ (functions g r ≤ most_functions) → TableCase g (OutOfRange (rule_at g r + 2 + right_length g r))
  -- operations 0 to 8; the operation is a function's second word
  operation_number : (r k : ℕ) → HasFunction g r k → ¬ (operation g r k ≤ last_operation) → TableCase g (OutOfRange (function_of g r k + 1))
  -- 3: "terminal with inherited attribute, terminal as left side, bad class of start", at the "word (start: 2)".
  -- A bit of the mask says that an attribute is inherited; the start is "a nonterminal with no inherited attribute".
  terminal_inherits : (x : ℕ) → x < symbols g → kind g x ≡ 1 → ¬ (mask g x ≡ 0) → TableCase g (WrongClass (symbol_at x + 2))
  terminal_left : (r : ℕ) → r < rules g → kind g (symbol_of g r 0) ≡ 1 → TableCase g (WrongClass (rule_at g r))
  start_terminal : kind g (start g) ≡ 1 → TableCase g (WrongClass 2)
  start_inherits : ¬ (mask g (start g) ≡ 0) → TableCase g (WrongClass 2)
  -- 4: "target or argument is no occurrence of the rule", at its word. The constant of operation 0 is no argument.
  target_foreign : (r k : ℕ) → HasFunction g r k → ¬ T (occurrence g r (target g r k)) → TableCase g (NoOccurrence (function_of g r k))
  argument_foreign : (r k j : ℕ) → HasFunction g r k → j < arguments g r k → ¬ T (occurrence g r (argument g r k j))
      → TableCase g (NoOccurrence (function_of g r k + 2 + j))
  -- 5: "target not defining, or defined before", at its word
  target_not_defining : (r k : ℕ) → HasFunction g r k → ¬ T (defining g r (target g r k)) → TableCase g (NotDefining (function_of g r k))
  defined_before : (r k j : ℕ) → HasFunction g r k → j < k → target g r j ≡ target g r k → TableCase g (NotDefining (function_of g r k))
  -- 6: "a defining occurrence has no function", at the "word after the rule's last"
  undefined : (r o : ℕ) → r < rules g → T (defining g r o) → ((k : ℕ) → k < functions g r → ¬ (target g r k ≡ o))
      → TableCase g (Undefined (rule_at g (suc r)))
  -- 7: "words left over", at the "first of them"
  left_over : rule_at g (rules g) < length g → TableCase g (LeftOver (rule_at g (rules g)))
