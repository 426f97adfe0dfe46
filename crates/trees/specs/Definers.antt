-- Where an attribute's value is defined: at the node itself for a synthesized one, at its parent for an inherited one.
-- Assumes nothing.
use Rattle.std.specs.Prelude.{ℕ, ◌<◌, ◌≡◌, List, T}
use Rattle.grammar.specs.Table.{attributes, defining}
use Rattle.trees.specs.Tree.{nodes, rule_of, applies_rule, symbol_at_node, cell}

-- occurrence o is a defining one of the rule at node n
pub record DefinedAt (g t : List ℕ) (n o : ℕ) : Type 0 where
  pub inside : n < nodes t
  pub applies : T (applies_rule t n)
  pub is_defining : T (defining g (rule_of t n) o)

-- cell c is that of a defining occurrence of the rule at some node
pub record Definer (g t : List ℕ) (c : ℕ) : Type 0 where
  pub node : ℕ
  pub occurs : ℕ
  pub defined_at : DefinedAt g t node occurs
  pub is_cell : cell t node occurs ≡ c

-- attribute a of node n exists
pub record AttributeOf (g t : List ℕ) (n a : ℕ) : Type 0 where
  pub inside : n < nodes t
  pub exists : a < attributes g (symbol_at_node g t n)
