-- The equations of a tree: at each node that applies a rule, each function of the rule gives the value of its target.
-- Assumes nothing.
use Rattle.std.specs.Prelude.{ℕ, ◌+◌, ◌*◌, ◌<◌, ◌≡◌, cond, List, T, ltb, ℤ, pos, get_or}
use Rattle.values.specs.Value.{result, constant}
use Rattle.grammar.specs.Table.{
  kind,
  attributes,
  functions,
  target,
  operation,
  argument,
  arguments,
  is_constant,
}
use Rattle.trees.specs.Tree.{nodes, rule_of, applies_rule, symbol_at_node, cell}

-- the value at a place, 0 past the end
abbrev pub value_at : List ℤ → ℕ → ℤ
value_at values c = get_or values c (pos 0)

-- argument j of function k at node n: the constant of operation 0, else the value of the occurrence; an operation looks no further
unfoldable pub argument_value : List ℕ → List ℕ → List ℤ → ℕ → ℕ → ℕ → ℤ
argument_value g t values n k j =
    let r = rule_of t n in
    cond (is_constant (operation g r k)) (constant (argument g r k 0))
    (cond (ltb j (arguments g r k)) (value_at values (cell t n (argument g r k j))) (pos 0))

-- the value that function k gives at node n
unfoldable pub function_value : List ℕ → List ℕ → List ℤ → ℕ → ℕ → ℤ
function_value g t values n k =
    result (operation g (rule_of t n) k) (argument_value g t values n k 0) (argument_value g t values n k 1)
    (argument_value g t values n k 2) (argument_value g t values n k 3)

-- the values satisfy every equation of the tree
abbrev pub Solution : List ℕ → List ℕ → List ℤ → Type 0
Solution g t values =
    (n k : ℕ) → n < nodes t → T (applies_rule t n) → k < functions g (rule_of t n)
    → value_at values (cell t n (target g (rule_of t n) k)) ≡ function_value g t values n k

-- two lists of values agree on the terminals
abbrev pub SameTerminals : List ℕ → List ℕ → List ℤ → List ℤ → Type 0
SameTerminals g t v w =
    (n a : ℕ) → n < nodes t → kind g (symbol_at_node g t n) ≡ 1 → a < attributes g (symbol_at_node g t n)
    → value_at v (8 * n + a) ≡ value_at w (8 * n + a)
