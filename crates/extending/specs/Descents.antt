-- Document 01, "EDP of a rule": at each nonterminal position an arc from a to b wherever a's set number is higher. The arcs of each
-- symbol as a set, in which 8a + b is the arc from a to b. Computed: no demand rests on it. Assumes nothing.
use Rattle.std.specs.Prelude.{ℕ, ◌+◌, ◌*◌, ◌/◌, ◌%◌, Bool, List, ltb}
use Rattle.basics.specs.Tests.{◌and◌}
use Rattle.basics.specs.Lists.{word, tabulate, padded}
use Rattle.bits.specs.Bit.{collect}
use Rattle.grammar.specs.Limits.{most_symbols}
use Rattle.grammar.specs.Table.{symbols, attributes, length_at, rule_at}
use Rattle.relations.specs.Computed.{ids_of}
use Rattle.sets.specs.Computed.{sets_of}
use Rattle.inducing.specs.Arcs.{SpreadArc}

-- arc 8a + b leads down: b is one of the first count attributes, and its set number, from word p of the set words on, is lower than a's
unfoldable pub descends : List ℕ → ℕ → ℕ → ℕ → Bool
descends s p count k = ltb (k % 8) count and ltb (word s (p + k % 8)) (word s (p + k / 8))

-- the arcs that lead down between the attributes of symbol x
unfoldable pub descents_of : List ℕ → List ℕ → ℕ → ℕ
descents_of g s x = collect (8 * attributes g x) (λ k. descends s (8 * x) (attributes g x) k)

-- those of the first n symbols, and of all
unfoldable pub order_to : List ℕ → List ℕ → ℕ → List ℕ
order_to g s n = padded most_symbols (tabulate n (λ x. descents_of g s x))

unfoldable pub order_of : List ℕ → List ℕ → List ℕ
order_of g s = order_to g s (symbols g)

-- the set numbers of a table, and the arcs of rule r that lead down in them
abbrev pub numbers : List ℕ → List ℕ
numbers g = sets_of g (ids_of g)

abbrev pub Down : List ℕ → ℕ → ℕ → ℕ → Type 0
Down g r a b = SpreadArc g (rule_at g r) (order_of g (numbers g)) (length_at g (rule_at g r) + 1) a b
