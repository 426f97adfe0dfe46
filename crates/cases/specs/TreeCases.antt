-- Document 01, "Refusal numbers" 12 to 18, each "When" as a proposition about the words of a tree, with its "Place".
-- Assumes nothing.
use Rattle.std.specs.Prelude.{ℕ, ◌+◌, ◌%◌, ◌≤◌, ◌<◌, ◌≡◌, List, length}
use Rattle.refusals.specs.declared.Refusal.{Refusal}
use Rattle.refusals.specs.declared.Refusal.TheVariants.{
  TreeSize,
  NoSuchRule,
  BadChild,
  RootNotStart,
  ChildDiffers,
  NotOneParent,
  ValuesTooShort,
}
use Rattle.grammar.specs.Table.{symbols, rules, start, kind, symbol_of}
use Rattle.trees.specs.Tree.{most_nodes, terminal_mark, nodes, rule_of, child, used_slots, symbol_at_node, value_words}
use Rattle.trees.specs.Formed.{ChildOf}

-- "32,768 + symbol for a terminal"
pub record NamesTerminal (g : List ℕ) (w : ℕ) : Type 0 where
  pub symbol : ℕ
  pub inside : symbol < symbols g
  pub is_terminal : kind g symbol ≡ 1
  pub marked : w ≡ terminal_mark + symbol

-- The tree's words are t, and there is room for so many values. `ChildOf g t n i c` says that slot i of node n is used and names c.
pub data TreeCase (g t : List ℕ) (values_length : ℕ) : Refusal → Type 1 where
  -- 12: "tree words not a multiple of 8, or no nodes, or over 1,024"
  broken_node : ¬ (length t % 8 ≡ 0) → TreeCase g t values_length TreeSize
  no_nodes : nodes t ≡ 0 → TreeCase g t values_length TreeSize
  too_many_nodes : most_nodes < nodes t → TreeCase g t values_length TreeSize
  -- 13: "first word is no rule and no terminal", at the node
  unknown_word : (n : ℕ) → n < nodes t → ¬ (rule_of t n < rules g) → ¬ NamesTerminal g (rule_of t n) → TreeCase g t values_length (NoSuchRule n)
  -- 14: "used child not above its parent or not a node; unused slot not zero", at the parent
  child_not_above : (n i c : ℕ) → ChildOf g t n i c → c ≤ n → TreeCase g t values_length (BadChild n)
  child_no_node : (n i c : ℕ) → ChildOf g t n i c → nodes t ≤ c → TreeCase g t values_length (BadChild n)
  unused_not_zero : (n i : ℕ) → n < nodes t → used_slots g t n < i → i ≤ 7 → ¬ (child t n i ≡ 0) → TreeCase g t values_length (BadChild n)
  -- 15: "root's symbol is not the start"
  root_differs : ¬ (symbol_at_node g t 0 ≡ start g) → TreeCase g t values_length RootNotStart
  -- 16: "child's symbol differs from the rule's", at the parent
  child_differs : (n i c : ℕ) → ChildOf g t n i c → ¬ (symbol_at_node g t c ≡ symbol_of g (rule_of t n) i)
      → TreeCase g t values_length (ChildDiffers n)
  -- 17: "a node but the root is a child other than exactly once", at the node: it is no child, or it is one in two slots
  never_child : (c : ℕ) → 1 ≤ c → c < nodes t → ((n i : ℕ) → ¬ ChildOf g t n i c) → TreeCase g t values_length (NotOneParent c)
  child_twice : (c n i m j : ℕ) → 1 ≤ c → c < nodes t → ChildOf g t n i c → ChildOf g t m j c → ¬ ((n ≡ m) × (i ≡ j))
      → TreeCase g t values_length (NotOneParent c)
  -- 18: "values too short": "at least 8 for each node"
  few_values : values_length < value_words t → TreeCase g t values_length ValuesTooShort
