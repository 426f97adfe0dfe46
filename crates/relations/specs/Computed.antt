-- The relations as definitions that compute. The state is IDS: for each symbol a number whose bit 8a + b says that there is an arc
-- from attribute a to attribute b. A round adds what the rules' paths induce, until a round adds nothing.
-- Computed: no demand rests on it. Assumes nothing.
use Rattle.std.specs.Prelude.{ℕ, zero, suc, ◌+◌, ◌*◌, ◌/◌, ◌%◌, Bool, true, false, List, ltb, eqb, replicate}
use Rattle.bits.specs.Bit.{hasb, collect}
use Rattle.basics.specs.Tests.{◌and◌, ◌or◌, some, all}
use Rattle.basics.specs.Lists.{word, tabulate, passing}
use Rattle.grammar.specs.Limits.{most_occurrences}
use Rattle.grammar.specs.Table.{
  symbols,
  rules,
  attributes,
  functions,
  target,
  argument,
  arguments,
  right_length,
  symbol_of,
  occurrence,
  occurrence_of,
  position,
  attribute,
  rule_counts,
}
use Rattle.relations.specs.Paths.{path}

-- DP of rule r: function k has the target b and the argument a
unfoldable pub dp : List ℕ → ℕ → ℕ → ℕ → Bool
dp g r a b =
    some (functions g r) (λ k. eqb (target g r k) b and some (arguments g r k) (λ j. eqb (argument g r k j) a))

-- the occurrences of rule r, rising
unfoldable pub occurrences : List ℕ → ℕ → List ℕ
occurrences g r = passing most_occurrences (λ o. occurrence g r o)

-- the state has the arc from attribute a to attribute b of symbol x
unfoldable pub arc_in : List ℕ → ℕ → ℕ → ℕ → Bool
arc_in ids x a b = hasb (8 * a + b) (word ids x)

-- the arc from a to b stands at one occurrence of a symbol, and the state has it
unfoldable pub induced_arc : List ℕ → List ℕ → ℕ → ℕ → ℕ → Bool
induced_arc g ids r a b =
    occurrence g r a and occurrence g r b and eqb (position a) (position b)
    and arc_in ids (symbol_of g r (position a)) (attribute a) (attribute b)

-- IDP of rule r, where IDS is the state
unfoldable pub idp : List ℕ → List ℕ → ℕ → ℕ → ℕ → Bool
idp g ids r a b = dp g r a b or induced_arc g ids r a b

-- its paths
unfoldable pub idp_path : List ℕ → List ℕ → ℕ → ℕ → ℕ → Bool
idp_path g ids r a b = path (λ c d. idp g ids r c d) (occurrences g r) a b

-- position i of rule r has symbol x, and a path leads there from attribute a to attribute b
unfoldable pub induced_at : List ℕ → List ℕ → ℕ → ℕ → ℕ → ℕ → ℕ → Bool
induced_at g ids x a b r i =
    eqb (symbol_of g r i) x and idp_path g ids r (occurrence_of i a) (occurrence_of i b)

-- some rule that counts induces the arc
unfoldable pub is_induced : List ℕ → List ℕ → ℕ → ℕ → ℕ → Bool
is_induced g ids x a b =
    ltb a (attributes g x) and ltb b (attributes g x)
    and some (rules g) (λ r. rule_counts g r and some (suc (right_length g r)) (λ i. induced_at g ids x a b r i))

-- the state after one more round
unfoldable pub round : List ℕ → List ℕ → List ℕ
round g ids =
    tabulate (symbols g) (λ x. collect 64 (λ k. hasb k (word ids x) or is_induced g ids x (k / 8) (k % 8)))

-- two states have the same words
unfoldable pub same_state : List ℕ → List ℕ → List ℕ → Bool
same_state g s t = all (symbols g) (λ x. eqb (word s x) (word t x))

-- rounds until one adds nothing, as many as there are arcs to add
unfoldable pub rounds : List ℕ → ℕ → List ℕ → List ℕ
rounds g zero ids = ids
rounds g (suc n) ids =
    let next = round g ids in elim (same_state g ids next) [ true ↦ ids | false ↦ rounds g n next ]

-- IDS of every symbol
unfoldable pub ids_of : List ℕ → List ℕ
ids_of g = rounds g (64 * symbols g) (replicate (symbols g) 0)
