-- The sets as definitions that compute: set after set from 1 to 9, each taking the unplaced attributes of its class all of whose
-- unplaced IDS successors are of that class too. Computed: no demand rests on it. Assumes nothing.
use Rattle.std.specs.Prelude.{ℕ, zero, suc, Bool, cond, List, ltb, eqb, replicate}
use Rattle.basics.specs.Tests.{◌and◌, ◌implies◌, all}
use Rattle.basics.specs.Lists.{word, tabulate, blocks}
use Rattle.grammar.specs.Limits.{most_symbols, most_attributes}
use Rattle.grammar.specs.Table.{attributes, nonterminal, symbol_counts}
use Rattle.relations.specs.Computed.{arc_in}
use Rattle.sets.specs.Paper.{of_class}

-- "m is at most 9"
abbrev pub most_sets : ℕ
most_sets = 9

-- attribute a has no set yet
abbrev pub unplaced : List ℕ → ℕ → Bool
unplaced placed a = eqb (word placed a) 0

-- set k takes attribute a of symbol x, where the sets below k are as placed
unfoldable pub takes : List ℕ → List ℕ → ℕ → List ℕ → ℕ → ℕ → Bool
takes g ids x placed k a =
    ltb a (attributes g x) and unplaced placed a and of_class g x k a
    and all (attributes g x) (λ b. (arc_in ids x a b and unplaced placed b) implies of_class g x k b)

-- the set numbers of symbol x, with sets 1 to k placed
unfoldable pub placed_up_to : List ℕ → List ℕ → ℕ → ℕ → List ℕ
placed_up_to g ids x zero = replicate most_attributes 0
placed_up_to g ids x (suc k) =
    let placed = placed_up_to g ids x k in
    tabulate most_attributes (λ a. cond (takes g ids x placed (suc k) a) (suc k) (word placed a))

-- the set numbers of symbol x: zeros for terminals and where nothing stands
unfoldable pub sets_of_symbol : List ℕ → List ℕ → ℕ → List ℕ
sets_of_symbol g ids x =
    cond (symbol_counts g x and nonterminal g x) (placed_up_to g ids x most_sets) (replicate most_attributes 0)

-- the set words of a plan
unfoldable pub sets_of : List ℕ → List ℕ → List ℕ
sets_of g ids = blocks most_symbols (λ x. sets_of_symbol g ids x)
