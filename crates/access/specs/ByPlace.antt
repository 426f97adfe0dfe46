-- Document 01, "The grammar table", by place: the rule that starts at word p and the function that starts at word f.
-- A reader knows the places and keeps occurrences as sets; proofs/Same.antt shows that this says what grammar's Reading says.
-- Computed: no demand rests on it. Assumes nothing.
use Rattle.std.specs.Prelude.{ℕ, zero, suc, ◌+◌, ◌≤◌, ◌<◌, Bool, cond, not, List, ltb, leb, eqb}
use Rattle.basics.specs.Tests.{◌and◌, ◌or◌}
use Rattle.basics.specs.Lists.{word}
use Rattle.bits.specs.Bit.{hasb, collect, remove}
use Rattle.refusals.specs.declared.Refusal.TheVariants.{WrongClass, NoOccurrence, NotDefining, Undefined}
use Rattle.grammar.specs.Limits.{longest_right, most_functions, last_operation, most_occurrences}
use Rattle.grammar.specs.Table.{symbols, attributes, nonterminal, inherited, argument_words, is_constant, length_at, function_at, functions_at, position, attribute}
use Rattle.grammar.specs.Verdicts.{Verdict, ◌then◌, unless, each}
use Rattle.grammar.specs.Reading.{present, ranged}
use Rattle.grammar.specs.WellFormed.{SymbolFormed}

-- the symbol at position i of the rule at word p; position 0 is the left side
unfoldable pub symbol_from : List ℕ → ℕ → ℕ → ℕ
symbol_from g p zero = word g p
symbol_from g p (suc i) = word g (p + 2 + i)

-- the function after the one at word f starts here
abbrev pub next_function : List ℕ → ℕ → ℕ
next_function g f = f + 2 + argument_words (word g (f + 1))

-- o is an occurrence, and a defining one, of the rule at word p
unfoldable pub occurrence_from : List ℕ → ℕ → ℕ → Bool
occurrence_from g p o =
    leb (position o) (length_at g p) and ltb (attribute o) (attributes g (symbol_from g p (position o)))

unfoldable pub defining_from : List ℕ → ℕ → ℕ → Bool
defining_from g p o =
    let i = inherited g (symbol_from g p (position o)) (attribute o) in
    occurrence_from g p o and cond (eqb (position o) 0) (not i) i

-- the sets of them
unfoldable pub occurrences_at : List ℕ → ℕ → ℕ
occurrences_at g p = collect most_occurrences (λ o. occurrence_from g p o)

unfoldable pub definings_at : List ℕ → ℕ → ℕ
definings_at g p = collect most_occurrences (λ o. defining_from g p o)

-- the rule at word p is short enough and its symbols are well formed, so each of its occurrences has a bit of its own
pub record Shaped (g : List ℕ) (p : ℕ) : Type 0 where
  pub short : length_at g p ≤ longest_right
  pub formed : (i : ℕ) → i ≤ length_at g p → SymbolFormed g (symbol_from g p i)

-- every symbol is well formed
abbrev pub Symbols : List ℕ → Type 0
Symbols g = (x : ℕ) → x < symbols g → SymbolFormed g x

-- the tests of a rule's left symbol
unfoldable pub left_from : List ℕ → ℕ → Verdict
left_from g p = ranged g p (ltb (word g p) (symbols g)) then unless (nonterminal g (word g p)) (WrongClass p)

-- the test of a symbol on the right, at word p
unfoldable pub symbol_test : List ℕ → ℕ → Verdict
symbol_test g p = ranged g p (ltb (word g p) (symbols g))

-- the test of the argument word at q
unfoldable pub argument_from : List ℕ → ℕ → Bool → ℕ → Verdict
argument_from g q constant occurrences =
    present g q then unless (constant or hasb (word g q) occurrences) (NoOccurrence q)

unfoldable pub arguments_from : List ℕ → ℕ → ℕ → Verdict
arguments_from g f occurrences =
    each (argument_words (word g (f + 1))) (λ j. argument_from g (f + 2 + j) (is_constant (word g (f + 1))) occurrences)

-- the tests of the function at word f, where the defining occurrences in `undefined` have no function yet
unfoldable pub function_from : List ℕ → ℕ → ℕ → ℕ → Verdict
function_from g f occurrences undefined =
    present g f
    then unless (hasb (word g f) occurrences) (NoOccurrence f)
    then unless (hasb (word g f) undefined) (NotDefining f)
    then ranged g (f + 1) (leb (word g (f + 1)) last_operation)
    then arguments_from g f occurrences

-- what is left of a set of defining occurrences after the first k functions of the rule at word p
unfoldable pub undefined_after : List ℕ → ℕ → ℕ → ℕ → ℕ
undefined_after g p zero defining = defining
undefined_after g p (suc k) defining = remove (word g (function_at g p k)) (undefined_after g p k defining)

unfoldable pub functions_from : List ℕ → ℕ → ℕ → ℕ → Verdict
functions_from g p occurrences defining =
    each (functions_at g p) (λ k. function_from g (function_at g p k) occurrences (undefined_after g p k defining))

-- the tests of what follows the left symbol
unfoldable pub body_from : List ℕ → ℕ → Verdict
body_from g p =
    ranged g (p + 1) (leb (length_at g p) longest_right)
    then each (length_at g p) (λ i. symbol_test g (p + 2 + i))
    then ranged g (p + 2 + length_at g p) (leb (functions_at g p) most_functions)
    then functions_from g p (occurrences_at g p) (definings_at g p)

-- the tests of the rule at word p, where the rule before it left the set `undefined` without functions
unfoldable pub rule_from : List ℕ → ℕ → ℕ → Verdict
rule_from g p undefined = left_from g p then unless (eqb undefined 0) (Undefined p) then body_from g p

-- where the next rule starts, and what the rule at word p leaves without functions
abbrev pub next_rule : List ℕ → ℕ → ℕ
next_rule g p = function_at g p (functions_at g p)

abbrev pub leaves : List ℕ → ℕ → ℕ
leaves g p = undefined_after g p (functions_at g p) (definings_at g p)
