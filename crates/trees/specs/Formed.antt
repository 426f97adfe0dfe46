-- What an accepted tree is, as plain facts by node number: each node but the root is the child of one node that applies a rule.
-- Assumes nothing.
use Rattle.std.specs.Prelude.{ℕ, ◌-◌, ◌%◌, ◌≤◌, ◌<◌, ◌≡◌, not, List, T, length}
use Rattle.grammar.specs.Table.{symbols, rules, start, nonterminal, right_length, symbol_of}
use Rattle.trees.specs.Tree.{
  most_nodes,
  terminal_mark,
  nodes,
  rule_of,
  applies_rule,
  child,
  used_slots,
  symbol_at_node,
  value_words,
}

-- node c is the child of node n at position i of its rule
pub record ChildOf (g t : List ℕ) (n i c : ℕ) : Type 0 where
  pub inside : n < nodes t
  pub applies : T (applies_rule t n)
  pub first : 1 ≤ i
  pub last : i ≤ right_length g (rule_of t n)
  pub names : child t n i ≡ c

-- a node but the root has a parent, at a position of the parent's rule
pub record Parent (g t : List ℕ) (c : ℕ) : Type 0 where
  pub parent : ℕ
  pub slot : ℕ
  pub is_child : ChildOf g t parent slot c

pub record TreeFormed (g t : List ℕ) (values_length : ℕ) : Type 0 where
  -- "8 words a node", "1 to 1,024 nodes"
  pub whole_nodes : length t % 8 ≡ 0
  pub some_node : 1 ≤ nodes t
  pub nodes_fit : nodes t ≤ most_nodes
  -- "the rule number, or 32,768 + symbol for a terminal"
  pub rule_known : (n : ℕ) → n < nodes t → T (applies_rule t n) → rule_of t n < rules g
  pub terminal_known : (n : ℕ) → n < nodes t → T (not (applies_rule t n)) → rule_of t n - terminal_mark < symbols g
  pub terminal_is : (n : ℕ) → n < nodes t → T (not (applies_rule t n)) → T (not (nonterminal g (rule_of t n - terminal_mark)))
  -- "the children's node numbers, each higher than the node's own, zero where unused"
  pub child_higher : (n i c : ℕ) → ChildOf g t n i c → n < c
  pub child_node : (n i c : ℕ) → ChildOf g t n i c → c < nodes t
  pub unused_zero : (n i : ℕ) → n < nodes t → used_slots g t n < i → i ≤ 7 → child t n i ≡ 0
  -- the symbols of the root and of the children
  pub root_start : symbol_at_node g t 0 ≡ start g
  pub child_symbol : (n i c : ℕ) → ChildOf g t n i c → symbol_at_node g t c ≡ symbol_of g (rule_of t n) i
  -- each node but the root is a child exactly once
  pub parent_of : (c : ℕ) → 1 ≤ c → c < nodes t → Parent g t c
  pub same_parent : (n i m j c : ℕ) → ChildOf g t n i c → ChildOf g t m j c → n ≡ m
  pub same_slot : (n i m j c : ℕ) → ChildOf g t n i c → ChildOf g t m j c → i ≡ j
  -- "at least 8 for each node"
  pub values_fit : value_words t ≤ values_length
