-- Document 01, "Refusal numbers" 1 to 7: words are read left to right and the first fault answers; at one word the lower number.
-- Each test stands where the reader meets its word. Computed: no demand rests on it. Assumes nothing.
use Rattle.std.specs.Prelude.{ℕ, zero, suc, ◌+◌, ◌^◌, Bool, not, List, ltb, leb, eqb, length}
use Rattle.basics.specs.Tests.{◌and◌, ◌or◌, ◌implies◌, some, all}
use Rattle.basics.specs.Lists.{word}
use Rattle.refusals.specs.declared.Refusal.TheVariants.{
  EndsEarly,
  OutOfRange,
  WrongClass,
  NoOccurrence,
  NotDefining,
  Undefined,
  LeftOver,
}
use Rattle.grammar.specs.Limits.{
  most_symbols,
  most_rules,
  most_attributes,
  longest_right,
  most_functions,
  last_operation,
  most_occurrences,
}
use Rattle.grammar.specs.Table.{
  symbols,
  rules,
  start,
  symbol_at,
  kind,
  attributes,
  mask,
  nonterminal,
  argument_words,
  is_constant,
  length_at,
  functions_at,
  function_of,
  functions,
  rule_at,
  target,
  operation,
  argument,
  occurrence,
  defining,
}
use Rattle.grammar.specs.Verdicts.{Verdict, Good, ◌then◌, unless, each}

-- 1: "the words end too early", at the index of the missing word
unfoldable pub present : List ℕ → ℕ → Verdict
present g p = unless (ltb p (length g)) (EndsEarly p)

-- 2: "a count, kind, mask, symbol or operation outside its range", at its word, which must be there
unfoldable pub ranged : List ℕ → ℕ → Bool → Verdict
ranged g p test = present g p then unless test (OutOfRange p)

-- "number of symbols S (1..32), number of rules R (1..64), start symbol (< S)"
unfoldable pub header : List ℕ → Verdict
header g =
    ranged g 0 (leb 1 (symbols g) and leb (symbols g) most_symbols)
    then ranged g 1 (leb 1 (rules g) and leb (rules g) most_rules)
    then ranged g 2 (ltb (start g) (symbols g))

-- "kind (0 nonterminal, 1 terminal), attribute count (0..8), mask (below 2 to that count)", and 3: terminal with inherited attribute
unfoldable pub symbol_fault : List ℕ → ℕ → Verdict
symbol_fault g x =
    ranged g (symbol_at x) (leb (kind g x) 1)
    then ranged g (symbol_at x + 1) (leb (attributes g x) most_attributes)
    then ranged g (symbol_at x + 2) (ltb (mask g x) (2 ^ attributes g x))
    then unless (nonterminal g x or eqb (mask g x) 0) (WrongClass (symbol_at x + 2))

-- "The start symbol is a nonterminal with no inherited attribute": 3 at word 2, after the symbols, before the rules
unfoldable pub start_class : List ℕ → Verdict
start_class g = unless (nonterminal g (start g) and eqb (mask g (start g)) 0) (WrongClass 2)

-- the left symbol, which is no terminal
unfoldable pub left_fault : List ℕ → ℕ → Verdict
left_fault g r =
    ranged g (rule_at g r) (ltb (word g (rule_at g r)) (symbols g))
    then unless (nonterminal g (word g (rule_at g r))) (WrongClass (rule_at g r))

-- one of the first k functions of rule r has this target
unfoldable pub defined_below : List ℕ → ℕ → ℕ → ℕ → Bool
defined_below g r k o = some k (λ j. eqb (target g r j) o)

-- argument word j of function k: 4 unless it is a constant or an occurrence of the rule
unfoldable pub argument_fault : List ℕ → ℕ → ℕ → ℕ → Verdict
argument_fault g r k j =
    present g (function_of g r k + 2 + j)
    then unless (is_constant (operation g r k) or occurrence g r (argument g r k j)) (NoOccurrence (function_of g r k + 2 + j))

-- a function: 4 before 5 at its target, then its operation, then its arguments
unfoldable pub function_fault : List ℕ → ℕ → ℕ → Verdict
function_fault g r k =
    present g (function_of g r k)
    then unless (occurrence g r (target g r k)) (NoOccurrence (function_of g r k))
    then unless (defining g r (target g r k) and not (defined_below g r k (target g r k))) (NotDefining (function_of g r k))
    then ranged g (function_of g r k + 1) (leb (operation g r k) last_operation)
    then each (argument_words (operation g r k)) (λ j. argument_fault g r k j)

-- what follows the left symbol: right length n, n symbols, number of functions, the functions
unfoldable pub body_fault : List ℕ → ℕ → Verdict
body_fault g r =
    let p = rule_at g r in
    ranged g (p + 1) (leb (length_at g p) longest_right)
    then each (length_at g p) (λ i. ranged g (p + 2 + i) (ltb (word g (p + 2 + i)) (symbols g)))
    then ranged g (p + 2 + length_at g p) (leb (functions_at g p) most_functions)
    then each (functions g r) (λ k. function_fault g r k)

-- 6: "a defining occurrence has no function", at the word after the rule's last
unfoldable pub complete : List ℕ → ℕ → Bool
complete g r = all most_occurrences (λ o. defining g r o implies defined_below g r (functions g r) o)

-- the rule before rule r, if there is one, is complete; its place is the first word of rule r
unfoldable pub rule_before : List ℕ → ℕ → Verdict
rule_before g zero = Good
rule_before g (suc r) = unless (complete g r) (Undefined (rule_at g (suc r)))

-- A rule. At its first word its own faults 1 to 3 go before 6 of the rule before it.
unfoldable pub rule_fault : List ℕ → ℕ → Verdict
rule_fault g r = left_fault g r then rule_before g r then body_fault g r

-- 7: "words left over", at the first of them
unfoldable pub left_over : List ℕ → Verdict
left_over g = unless (leb (length g) (rule_at g (rules g))) (LeftOver (rule_at g (rules g)))

-- the verdict on a table
unfoldable pub read_table : List ℕ → Verdict
read_table g =
    header g
    then each (symbols g) (λ x. symbol_fault g x)
    then start_class g
    then each (rules g) (λ r. rule_fault g r)
    then rule_before g (rules g)
    then left_over g
