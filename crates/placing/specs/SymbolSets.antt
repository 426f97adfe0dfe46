-- The sets of a symbol with its attributes as sets of numbers below 8: which of them set k takes.
-- For proofs of the code: no demand rests on it. Assumes nothing.
use Rattle.std.specs.Prelude.{ℕ, zero, suc, ◌*◌, ◌%◌, Bool, cond, List, eqb}
use Rattle.bits.specs.Bit.{hasb, collect, common, minus, field, below}
use Rattle.basics.specs.Tests.{◌and◌}
use Rattle.grammar.specs.Table.{nonterminal, attributes, mask}
use Rattle.closing.specs.Rows.{rewritten}

-- "Odd sets hold synthesized attributes, even sets inherited": the class of set k, of all the attributes and the inherited ones
unfoldable pub class_of : ℕ → ℕ → ℕ → ℕ
class_of every inherited k = cond (eqb (k % 2) 1) (minus every inherited) inherited

-- all unplaced successors of attribute a are of the class
unfoldable pub stays : ℕ → ℕ → ℕ → ℕ → Bool
stays arcs unplaced class a = eqb (minus (common (field (8 * a) arcs) unplaced) class) 0

-- what a set takes: the unplaced attributes of its class all of whose unplaced successors are of the class
unfoldable pub taken_from : ℕ → ℕ → ℕ → ℕ
taken_from arcs unplaced class = collect 64 (λ a. hasb a (common unplaced class) and stays arcs unplaced class a)

-- the set words with number k at the attributes of a set, which stand from word `at` on
unfoldable pub numbered : List ℕ → ℕ → ℕ → ℕ → List ℕ
numbered sets at taken k = rewritten sets at taken (λ a. k)

-- What is unplaced after k sets, what set k + 1 takes, and the set words after k sets, where the symbol's stand from word `at` on.
unfoldable pub left_after : ℕ → ℕ → ℕ → ℕ → ℕ
left_after every inherited arcs zero = every
left_after every inherited arcs (suc k) =
    let left = left_after every inherited arcs k in minus left (taken_from arcs left (class_of every inherited (suc k)))

unfoldable pub taken_next : ℕ → ℕ → ℕ → ℕ → ℕ
taken_next every inherited arcs k = taken_from arcs (left_after every inherited arcs k) (class_of every inherited (suc k))

unfoldable pub numbered_to : List ℕ → ℕ → ℕ → ℕ → ℕ → ℕ → List ℕ
numbered_to sets at every inherited arcs zero = sets
numbered_to sets at every inherited arcs (suc k) =
    numbered (numbered_to sets at every inherited arcs k) at (taken_next every inherited arcs k) (suc k)

-- the set words with the nine sets of symbol x, and with them if it is a nonterminal
unfoldable pub placed_attributes : List ℕ → ℕ → ℕ → List ℕ → List ℕ
placed_attributes g x arcs sets = numbered_to sets (8 * x) (below (attributes g x)) (mask g x) arcs 9

unfoldable pub placed_nonterminal : List ℕ → ℕ → ℕ → List ℕ → List ℕ
placed_nonterminal g x arcs sets = cond (nonterminal g x) (placed_attributes g x arcs sets) sets
