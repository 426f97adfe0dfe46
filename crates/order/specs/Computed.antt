-- EDP and its paths as definitions that compute, and the search for the lowest cycle.
-- Computed: no demand rests on it. Assumes nothing.
use Rattle.std.specs.Prelude.{ℕ, Bool, List, ltb, eqb}
use Rattle.basics.specs.Tests.{◌and◌, ◌or◌, some, least}
use Rattle.grammar.specs.Limits.{most_occurrences}
use Rattle.grammar.specs.Table.{rules, nonterminal, symbol_of, occurrence, position, attribute, rule_counts}
use Rattle.relations.specs.Paths.{path}
use Rattle.relations.specs.Computed.{dp, arc_in, occurrences}
use Rattle.sets.specs.Visits.{set_number}

-- a and b stand at one nonterminal position, and IDS has the arc or a's set number is higher
unfoldable pub beside_arc : List ℕ → List ℕ → List ℕ → ℕ → ℕ → ℕ → Bool
beside_arc g ids s r a b =
    let x = symbol_of g r (position a) in
    occurrence g r a and occurrence g r b and eqb (position a) (position b) and nonterminal g x
    and (arc_in ids x (attribute a) (attribute b) or ltb (set_number s x (attribute b)) (set_number s x (attribute a)))

-- EDP of rule r, where IDS and the set words are as given
unfoldable pub edp : List ℕ → List ℕ → List ℕ → ℕ → ℕ → ℕ → Bool
edp g ids s r a b = dp g r a b or beside_arc g ids s r a b

-- its paths
unfoldable pub edp_path : List ℕ → List ℕ → List ℕ → ℕ → ℕ → ℕ → Bool
edp_path g ids s r a b = path (λ c d. edp g ids s r c d) (occurrences g r) a b

-- The paths of a whole grammar are a test of rule, occurrence and occurrence. Rule r has a cycle:
unfoldable pub has_cycle : List ℕ → (ℕ → ℕ → ℕ → Bool) → ℕ → Bool
has_cycle g paths r = rule_counts g r and some most_occurrences (λ o. paths r o o)

-- some rule has a cycle
unfoldable pub circular : List ℕ → (ℕ → ℕ → ℕ → Bool) → Bool
circular g paths = some (rules g) (λ r. has_cycle g paths r)

-- "the lowest-numbered rule, and in it the lowest occurrence, that lies on a cycle"
unfoldable pub cycle_rule : List ℕ → (ℕ → ℕ → ℕ → Bool) → ℕ
cycle_rule g paths = least (rules g) (λ r. has_cycle g paths r)

unfoldable pub cycle_occurrence : List ℕ → (ℕ → ℕ → ℕ → Bool) → ℕ
cycle_occurrence g paths = least most_occurrences (λ o. paths (cycle_rule g paths) o o)
