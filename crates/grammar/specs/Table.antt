-- Document 01, "The grammar table": the words of a table, looked at by symbol, rule, position and function.
-- The views are total: past the end of the words stands 0. What is well formed is said in WellFormed. Assumes nothing.
use Rattle.std.specs.Prelude.{ℕ, zero, suc, ◌+◌, ◌*◌, ◌/◌, ◌%◌, Bool, cond, not, List, ltb, leb, eqb}
use Rattle.bits.specs.Bit.{hasb}
use Rattle.basics.specs.Tests.{◌and◌}
use Rattle.basics.specs.Lists.{word}

-- "number of symbols S, number of rules R, start symbol"
abbrev pub symbols : List ℕ → ℕ
symbols g = word g 0

abbrev pub rules : List ℕ → ℕ
rules g = word g 1

abbrev pub start : List ℕ → ℕ
start g = word g 2

-- "For each symbol three words: kind, attribute count, mask"
abbrev pub symbol_at : ℕ → ℕ
symbol_at x = 3 + 3 * x

unfoldable pub kind : List ℕ → ℕ → ℕ
kind g x = word g (symbol_at x)

unfoldable pub attributes : List ℕ → ℕ → ℕ
attributes g x = word g (symbol_at x + 1)

unfoldable pub mask : List ℕ → ℕ → ℕ
mask g x = word g (symbol_at x + 2)

-- "kind (0 nonterminal, 1 terminal)"
abbrev pub nonterminal : List ℕ → ℕ → Bool
nonterminal g x = eqb (kind g x) 0

-- "bit j says that attribute j is inherited; the others are synthesized"
abbrev pub inherited : List ℕ → ℕ → ℕ → Bool
inherited g x a = hasb a (mask g x)

-- how many arguments an operation takes, and how many words they are: operation 0 has one constant word
unfoldable pub argument_words : ℕ → ℕ
argument_words op =
    cond (leb op 1) 1 (cond (leb op 6) 2 (cond (eqb op 7) 3 4))

abbrev pub is_constant : ℕ → Bool
is_constant op = eqb op 0

-- A rule at word p: left symbol, right length n, n symbols, number of functions, the functions.
abbrev pub length_at : List ℕ → ℕ → ℕ
length_at g p = word g (p + 1)

-- "A function is target, operation, arguments": function k of the rule at word p starts here
unfoldable pub function_at : List ℕ → ℕ → ℕ → ℕ
function_at g p zero = p + 3 + length_at g p
function_at g p (suc k) =
    let f = function_at g p k in f + 2 + argument_words (word g (f + 1))

abbrev pub functions_at : List ℕ → ℕ → ℕ
functions_at g p = word g (p + 2 + length_at g p)

-- the word at which rule r starts; rule R would start at the end of the table
unfoldable pub rule_at : List ℕ → ℕ → ℕ
rule_at g zero = symbol_at (symbols g)
rule_at g (suc r) = let p = rule_at g r in function_at g p (functions_at g p)

-- The rule's parts, by its number.
unfoldable pub right_length : List ℕ → ℕ → ℕ
right_length g r = length_at g (rule_at g r)

-- the symbol at position i of rule r; position 0 is the left side
unfoldable pub symbol_of : List ℕ → ℕ → ℕ → ℕ
symbol_of g r zero = word g (rule_at g r)
symbol_of g r (suc i) = word g (rule_at g r + 2 + i)

unfoldable pub functions : List ℕ → ℕ → ℕ
functions g r = functions_at g (rule_at g r)

-- the word at which function k of rule r starts
abbrev pub function_of : List ℕ → ℕ → ℕ → ℕ
function_of g r k = function_at g (rule_at g r) k

unfoldable pub target : List ℕ → ℕ → ℕ → ℕ
target g r k = word g (function_of g r k)

unfoldable pub operation : List ℕ → ℕ → ℕ → ℕ
operation g r k = word g (function_of g r k + 1)

-- argument word j of function k: an occurrence, or the constant of operation 0
unfoldable pub argument : List ℕ → ℕ → ℕ → ℕ → ℕ
argument g r k j = word g (function_of g r k + 2 + j)

-- how many of its argument words are occurrences
unfoldable pub arguments : List ℕ → ℕ → ℕ → ℕ
arguments g r k = cond (is_constant (operation g r k)) 0 (argument_words (operation g r k))

-- "Attribute a at position i (0 = left side) is occurrence 8i + a"
abbrev pub occurrence_of : ℕ → ℕ → ℕ
occurrence_of i a = 8 * i + a

abbrev pub position : ℕ → ℕ
position o = o / 8

abbrev pub attribute : ℕ → ℕ
attribute o = o % 8

-- o is an occurrence of rule r: its position stands in the rule, its attribute belongs to the symbol there
unfoldable pub occurrence : List ℕ → ℕ → ℕ → Bool
occurrence g r o = leb (position o) (right_length g r) and ltb (attribute o) (attributes g (symbol_of g r (position o)))

-- the attribute of occurrence o is inherited
unfoldable pub inherited_at : List ℕ → ℕ → ℕ → Bool
inherited_at g r o = inherited g (symbol_of g r (position o)) (attribute o)

-- "Defining occurrences are synthesized ones at position 0 and inherited ones at positions above 0."
unfoldable pub defining_class : List ℕ → ℕ → ℕ → Bool
defining_class g r o = cond (eqb (position o) 0) (not (inherited_at g r o)) (inherited_at g r o)

unfoldable pub defining : List ℕ → ℕ → ℕ → Bool
defining g r o = occurrence g r o and defining_class g r o

-- Which rules and symbols count: all of the table's.
abbrev pub rule_counts : List ℕ → ℕ → Bool
rule_counts g r = ltb r (rules g)

abbrev pub symbol_counts : List ℕ → ℕ → Bool
symbol_counts g x = ltb x (symbols g)
