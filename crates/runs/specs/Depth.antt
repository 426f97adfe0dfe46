-- Paths down the tree over nonterminal nodes, and how many nonterminal nodes the longest of them has.
-- Assumes nothing.
use Rattle.std.specs.Prelude.{ℕ, zero, suc, ◌≡◌, cond, List, [], ◌∷◌, T}
use Rattle.grammar.specs.Table.{right_length}
use Rattle.sets.specs.Visits.{highest}
use Rattle.trees.specs.Tree.{nodes, rule_of, applies_rule, child}
use Rattle.trees.specs.Formed.{ChildOf}

-- from node n a step down to its nonterminal child c
pub record StepDown (g t : List ℕ) (n c : ℕ) : Type 0 where
  pub slot : ℕ
  pub is_child : ChildOf g t n slot c
  pub applies : T (applies_rule t c)

-- a path down from the root, its last node first
abbrev pub PathDown : List ℕ → List ℕ → List ℕ → Type 0
PathDown g t [] = Unit {0}
PathDown g t (c ∷ []) = c ≡ 0
PathDown g t (c ∷ n ∷ rest) = StepDown g t n c × PathDown g t (n ∷ rest)

-- how many nonterminal nodes the longest path down from node n has, where no path has more nodes than the first number says
unfoldable pub depth_below : List ℕ → List ℕ → ℕ → ℕ → ℕ
depth_below g t zero n = 0
depth_below g t (suc d) n =
    cond (applies_rule t n) (suc (highest (right_length g (rule_of t n)) (λ i. depth_below g t d (child t n (suc i))))) 0

-- "the number of nonterminals on the longest path down"
unfoldable pub longest_down : List ℕ → List ℕ → ℕ
longest_down g t = depth_below g t (nodes t) 0
