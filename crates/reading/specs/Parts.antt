-- The chains of tests of grammar's Reading and access' ByPlace, cut where the code of the reader is cut, and what its parts hand on.
-- Computed: no demand rests on it. Assumes nothing.
use Rattle.std.specs.Prelude.{ℕ, ◌+◌, ◌^◌, ◌≤◌, ◌≡◌, Bool, List, ltb, leb, eqb, length, Option, Some, None, Result, Ok, Err}
use Rattle.basics.specs.Tests.{◌and◌, ◌or◌}
use Rattle.basics.specs.Lists.{word}
use Rattle.bits.specs.Bit.{hasb}
use Rattle.refusals.specs.declared.Refusal.{Refusal}
use Rattle.refusals.specs.declared.Refusal.TheVariants.{WrongClass, NoOccurrence, NotDefining, Undefined, LeftOver}
use Rattle.grammar.specs.Limits.{longest_right, most_functions, last_operation}
use Rattle.grammar.specs.Table.{symbols, symbol_at, attributes, mask, nonterminal, argument_words, length_at, functions_at}
use Rattle.grammar.specs.Verdicts.{Verdict, Good, Refused, ◌then◌, unless, each}
use Rattle.grammar.specs.Reading.{ranged, header, symbol_fault, start_class, read_table}
use Rattle.access.specs.declared.Table.{Table}
use Rattle.access.specs.Offsets.{offsets_for}
use Rattle.access.specs.ByPlace.{symbol_test, arguments_from, function_from, functions_from, undefined_after, next_rule, leaves}
use Rattle.reading.specs.declared.functions.RuleEnd.{RuleEnd}

-- the mask of symbol x, and its class
unfoldable pub mask_fault : List ℕ → ℕ → Verdict
mask_fault g x =
    ranged g (symbol_at x + 2) (ltb (mask g x) (2 ^ attributes g x))
    then unless (nonterminal g x or eqb (mask g x) 0) (WrongClass (symbol_at x + 2))

-- everything before the rules
unfoldable pub opening_fault : List ℕ → Verdict
opening_fault g = header g then each (symbols g) (λ x. symbol_fault g x) then start_class g

-- the target t of the function at word f
unfoldable pub target_fault : ℕ → ℕ → ℕ → ℕ → Verdict
target_fault f t occurrences undefined = unless (hasb t occurrences) (NoOccurrence f) then unless (hasb t undefined) (NotDefining f)

-- four words that are all occurrences
unfoldable pub four_occur : ℕ → ℕ → ℕ → ℕ → ℕ → Bool
four_occur occurrences a b c d = hasb a occurrences and hasb b occurrences and hasb c occurrences and hasb d occurrences

-- what follows the target of the function at word f
unfoldable pub operands_fault : List ℕ → ℕ → ℕ → Verdict
operands_fault g f occurrences = ranged g (f + 1) (leb (word g (f + 1)) last_operation) then arguments_from g f occurrences

-- how many words the function at word f has: its target, its operation and its arguments
abbrev pub function_words : List ℕ → ℕ → ℕ
function_words g f = 2 + argument_words (word g (f + 1))

-- a number of words where the verdict is good
unfoldable pub words_if : Verdict → ℕ → Option ℕ
words_if (Ok _) n = Some n
words_if (Err m) n = None

-- n symbols of a right side, from word p on
unfoldable pub right_fault : List ℕ → ℕ → ℕ → Verdict
right_fault g p n = each n (λ i. symbol_test g (p + i))

-- the right side of the rule at word p, and the number of its functions
unfoldable pub shape_fault : List ℕ → ℕ → Verdict
shape_fault g p =
    ranged g (p + 1) (leb (length_at g p) longest_right)
    then each (length_at g p) (λ i. symbol_test g (p + 2 + i))
    then ranged g (p + 2 + length_at g p) (leb (functions_at g p) most_functions)

-- the end of the rules, at word p, where the last one left the set `undefined` without functions
unfoldable pub ending_fault : List ℕ → ℕ → ℕ → Verdict
ending_fault g p undefined = unless (eqb undefined 0) (Undefined p) then unless (leb (length g) p) (LeftOver p)

-- what reading the function at word f answers: how many words it has where it passes, else its first fault
abbrev pub FunctionRead : List ℕ → ℕ → ℕ → ℕ → Result ℕ Refusal → Type 0
FunctionRead g f occurrences undefined (Ok n) = (function_from g f occurrences undefined ≡ Good) × (n ≡ function_words g f) × (n ≤ 6)
FunctionRead g f occurrences undefined (Err m) = function_from g f occurrences undefined ≡ Refused m

-- What reading the functions of the rule at word p hands on where they pass: where the next rule starts, and the defining occurrences without a
-- function.
pub record FunctionsPass (g : List ℕ) (p occurrences defining : ℕ) (rule : RuleEnd) : Type 0 where
  pub passes : functions_from g p occurrences defining ≡ Good
  pub goes : rule.next ≡ next_rule g p
  pub left : rule.undefined ≡ undefined_after g p (functions_at g p) defining

abbrev pub FunctionsRead : List ℕ → ℕ → ℕ → ℕ → Result RuleEnd Refusal → Type 0
FunctionsRead g p occurrences defining (Ok rule) = FunctionsPass g p occurrences defining rule
FunctionsRead g p occurrences defining (Err m) = functions_from g p occurrences defining ≡ Refused m

-- the same of the rule at word p, or of a part of it that ends with its functions, by the tests of it; the next rule is not far
pub record RulePasses (g : List ℕ) (p : ℕ) (tests : Verdict) (rule : RuleEnd) : Type 0 where
  pub passes : tests ≡ Good
  pub goes : rule.next ≡ next_rule g p
  pub left : rule.undefined ≡ leaves g p
  pub near : rule.next ≤ p + 394

abbrev pub RuleRead : List ℕ → ℕ → Verdict → Result RuleEnd Refusal → Type 0
RuleRead g p tests (Ok rule) = RulePasses g p tests rule
RuleRead g p tests (Err m) = tests ≡ Refused m

-- what reading the rules answers, where everything before them passed: the word at which each starts
abbrev pub RulesRead : List ℕ → Result (List ℕ) Refusal → Type 0
RulesRead g (Ok offsets) = (read_table g ≡ Good) × (offsets ≡ offsets_for g Good)
RulesRead g (Err m) = read_table g ≡ Refused m

-- what reading a table answers: these words, with the word at which each rule starts, which the type says; else the refusal
abbrev pub TableRead : List ℕ → Result Table Refusal → Type 0
TableRead g (Ok table) = (read_table g ≡ Good) × (table.words.now ≡ g)
TableRead g (Err m) = read_table g ≡ Refused m
