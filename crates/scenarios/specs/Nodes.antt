-- The trees that the program runs over, word by word as they are put together. Assumes nothing.
use Rattle.std.specs.Prelude.{ℕ, zero, suc, ◌+◌, ◌*◌, ◌≡◌, List, length, set}

-- the tree is this one, with room for 1,024 nodes
pub record Holds (expected tree : List ℕ) : Type 0 where
  pub is : tree ≡ expected
  pub long : length tree ≡ 8192

-- a tree with node n as given: its first word and two children
unfoldable pub put : ℕ → ℕ → ℕ → ℕ → List ℕ → List ℕ
put n rule first second t = set (set (set t (8 * n) rule) (8 * n + 1) first) (8 * n + 2) second

-- rule 1 at node 2k + 1, and its line behind it
unfoldable pub line : ℕ → List ℕ → List ℕ
line k t = put (2 * k + 2) 32770 0 0 (put (2 * k + 1) 1 (2 * k + 2) (2 * k + 3) t)

-- k times that, from node 1 on
unfoldable pub lines : ℕ → List ℕ → List ℕ
lines zero t = t
lines (suc k) t = line k (lines k t)

-- G's tree of 511 lines
unfoldable pub many_lines : List ℕ → List ℕ
many_lines t = put 1022 32770 0 0 (put 1021 2 1022 0 (lines 510 (put 0 0 1 0 t)))

-- k links of the chain, from node 1 on
unfoldable pub links : ℕ → List ℕ → List ℕ
links zero t = t
links (suc k) t = put (k + 1) 1 (k + 2) 0 (links k t)

-- the chain of 1,024 nodes
unfoldable pub long_chain : List ℕ → List ℕ
long_chain t = put 1023 2 0 0 (links 1022 (put 0 0 1 0 t))
