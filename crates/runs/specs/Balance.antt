-- What holds of stack and places at each step of a run: a nonterminal node has left, or is on the stack, as often as its parent has
-- visited it; the root once. For proofs of the code: no demand rests on it. Assumes nothing.
use Rattle.std.specs.Prelude.{ℕ, ◌+◌, ◌≤◌, ◌<◌, ◌≡◌, cond, List, [], ◌∷◌, T, eqb, length}
use Rattle.basics.specs.Lists.{word}
use Rattle.grammar.specs.WellFormed.{WellFormed}
use Rattle.trees.specs.Tree.{nodes, rule_of, applies_rule}
use Rattle.trees.specs.Formed.{ChildOf, TreeFormed}
use Rattle.plans.specs.Sequences.{sequence_length}
use Rattle.runs.specs.Sound.{Sound}
use Rattle.runs.specs.Counts.{leaves_done, visits_done}
use Rattle.runs.specs.Depth.{PathDown}

-- what a run is given: a well-formed table, a sound plan for it, a well-formed tree with this many values
pub record RunGiven (g p t : List ℕ) (values_length : ℕ) : Type 0 where
  pub table : WellFormed g
  pub sound : Sound g p
  pub tree : TreeFormed g t values_length

-- how often n stands on the stack
unfoldable pub times : ℕ → List ℕ → ℕ
times n [] = 0
times n (m ∷ rest) = cond (eqb n m) 1 0 + times n rest

-- the leaves that node n has done, and its visits of child i
abbrev pub leaves_at : List ℕ → List ℕ → List ℕ → ℕ → ℕ
leaves_at p t places n = leaves_done p (rule_of t n) (word places n)

abbrev pub visits_at : List ℕ → List ℕ → List ℕ → ℕ → ℕ → ℕ
visits_at p t places n i = visits_done p (rule_of t n) i (word places n)

pub record Balanced (g p t stack places : List ℕ) : Type 0 where
  pub places_length : length places ≡ nodes t
  -- the stack is a path down
  pub path : PathDown g t stack
  -- no place passes its sequence's end
  pub inside : (n : ℕ) → n < nodes t → T (applies_rule t n) → word places n ≤ sequence_length p (rule_of t n)
  pub root : leaves_at p t places 0 + times 0 stack ≡ 1
  pub child : (n i c : ℕ) → ChildOf g t n i c → T (applies_rule t c)
      → leaves_at p t places c + times c stack ≡ visits_at p t places n i
