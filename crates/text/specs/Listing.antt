-- Document 01, "Checked examples": what the listing prints for the bytes that it reads.
-- Assumes nothing.
use Rattle.std.specs.Prelude.{ℕ, ◌+◌, ◌*◌, ◌/◌, ◌%◌, cond, List, [], ◌∷◌, ◌++◌, eqb, length, take}
use Rattle.basics.specs.Lists.{word, tabulate, blocks}
use Rattle.refusals.specs.declared.Refusal.{Refusal}
use Rattle.refusals.specs.declared.Refusal.TheVariants.{EndsEarly}
use Rattle.refusals.specs.Numbers.{number_of, place_of, second_of}
use Rattle.grammar.specs.Limits.{most_rules, row_words, plan_words}
use Rattle.grammar.specs.Table.{symbols, rules, nonterminal, attributes}
use Rattle.relations.specs.Computed.{ids_of}
use Rattle.sets.specs.Computed.{sets_of}
use Rattle.sets.specs.Visits.{set_number, visits}
use Rattle.plans.specs.Answer.{Outcome, untouched, circular_idp, unordered, accepted, outcome, sequences_of}
use Rattle.text.specs.Lines.{line, plan_word, symbol_word, rule_word, refused_word}

-- "A refusal prints `refused` and three numbers: number, place, second place."
unfoldable pub refusal_line : Refusal → List ℕ
refusal_line n = line refused_word (number_of n ∷ place_of n ∷ second_of n ∷ [])

-- "The first line is symbols, rules."
unfoldable pub first_line : List ℕ → List ℕ
first_line g = line plan_word (symbols g ∷ rules g ∷ [])

-- "An `s` line, one for each nonterminal, is symbol, visits, the set of each attribute."
unfoldable pub symbol_line : List ℕ → List ℕ → ℕ → List ℕ
symbol_line g s x =
    cond (nonterminal g x) (line symbol_word (x ∷ visits s x ∷ tabulate (attributes g x) (λ a. set_number s x a))) []

-- "An `r` line is rule, actions."
unfoldable pub rule_line : List ℕ → ℕ → List ℕ
rule_line g r = line rule_word (r ∷ sequences_of g r)

-- the listing of an accepted table
unfoldable pub plan_text : List ℕ → List ℕ
plan_text g =
    let s = sets_of g (ids_of g) in
    first_line g ++ (blocks (symbols g) (λ x. symbol_line g s x) ++ blocks (rules g) (λ r. rule_line g r))

unfoldable pub outcome_text : List ℕ → Outcome → List ℕ
outcome_text g (untouched n) = refusal_line n
outcome_text g (circular_idp n) = refusal_line n
outcome_text g (unordered n) = refusal_line n
outcome_text g accepted = plan_text g

-- the listing of a table, in buffers that have room for every table
unfoldable pub table_text : List ℕ → List ℕ
table_text g = outcome_text g (outcome g (row_words most_rules) (plan_words most_rules))

-- "little-endian words": word i of the bytes
unfoldable pub words_of : List ℕ → List ℕ
words_of bytes = tabulate (length bytes / 2) (λ i. word bytes (2 * i) + 256 * word bytes (2 * i + 1))

-- "looks at the first 65,536 bytes"
abbrev pub most_bytes : ℕ
most_bytes = 65536

-- "An odd count of bytes looked at prints `refused 1 w 0`, w the whole words, before anything else."
unfoldable pub bytes_text : List ℕ → List ℕ
bytes_text bytes =
    cond (eqb (length bytes % 2) 0) (table_text (words_of bytes)) (refusal_line (EndsEarly (length bytes / 2)))

-- what the listing prints for what stands in its input
unfoldable pub listing : List ℕ → List ℕ
listing input = bytes_text (take most_bytes input)
