-- The value of the function that starts at word f of a table, by the values at node n of a tree.
-- A run knows a function by its word; proofs/PlaceLaws.antt shows that this is the value that trees' Equations give.
-- Computed: no demand rests on it. Assumes nothing.
use Rattle.std.specs.Prelude.{ℕ, ◌+◌, ◌≤◌, ◌<◌, cond, List, ltb, ℤ, pos, length}
use Rattle.basics.specs.Lists.{word}
use Rattle.values.specs.Value.{result, constant}
use Rattle.grammar.specs.Table.{argument_words, is_constant}
use Rattle.trees.specs.Tree.{nodes, cell}
use Rattle.trees.specs.Equations.{value_at}

-- the operation of the function at word f, its argument word j, and how many of these are occurrences
abbrev pub operation_at : List ℕ → ℕ → ℕ
operation_at g f = word g (f + 1)

abbrev pub argument_at : List ℕ → ℕ → ℕ → ℕ
argument_at g f j = word g (f + 2 + j)

abbrev pub arguments_at : List ℕ → ℕ → ℕ
arguments_at g f = cond (is_constant (operation_at g f)) 0 (argument_words (operation_at g f))

-- the value of an occurrence at node n
abbrev pub occurrence_value : List ℕ → List ℤ → ℕ → ℕ → ℤ
occurrence_value t values n o = value_at values (cell t n o)

-- argument j of the function: the constant of operation 0, else the value of the occurrence; an operation looks no further
unfoldable pub argument_given : List ℕ → List ℕ → List ℤ → ℕ → ℕ → ℕ → ℤ
argument_given g t values n f j =
    cond (is_constant (operation_at g f)) (constant (argument_at g f 0))
    (cond (ltb j (arguments_at g f)) (occurrence_value t values n (argument_at g f j)) (pos 0))

-- the value that the function gives
unfoldable pub value_from : List ℕ → List ℕ → List ℤ → ℕ → ℕ → ℤ
value_from g t values n f =
    result (operation_at g f) (argument_given g t values n f 0) (argument_given g t values n f 1) (argument_given g t values n f 2)
    (argument_given g t values n f 3)

-- The argument word at q is there, and so is the value of the occurrence that it names at node n, among l values.
pub record Named (g : List ℕ) (q : ℕ) (t : List ℕ) (n l : ℕ) : Type 0 where
  pub there : q < length g
  pub node : n < nodes t
  pub near : n < 65536
  pub named : word g q < 64
  pub in_values : cell t n (word g q) < l

-- What the function at word f reads is there: its words, and a value for each argument that its operation has.
pub record Valued (g : List ℕ) (f : ℕ) (t : List ℕ) (n l : ℕ) : Type 0 where
  pub near : f < 65536
  pub ends : f + 2 < length g
  pub one : 1 ≤ operation_at g f → Named g (f + 2) t n l
  pub two : 2 ≤ operation_at g f → Named g (f + 3) t n l
  pub three : 7 ≤ operation_at g f → Named g (f + 4) t n l
  pub four : 8 ≤ operation_at g f → Named g (f + 5) t n l
