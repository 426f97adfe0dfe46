-- Document 01, "Lent buffers", the tree: 8 words a node, looked at by node and slot. The views are total: past the end stands 0.
-- Assumes nothing.
use Rattle.std.specs.Prelude.{ℕ, zero, suc, ◌+◌, ◌*◌, ◌-◌, ◌/◌, Bool, cond, List, ltb, length}
use Rattle.basics.specs.Lists.{word}
use Rattle.grammar.specs.Table.{right_length, symbol_of, position, attribute}

-- "8 words a node"
abbrev pub node_words : ℕ
node_words = 8

-- "1 to 1,024 nodes"
abbrev pub most_nodes : ℕ
most_nodes = 1024

-- "32,768 + symbol for a terminal"
abbrev pub terminal_mark : ℕ
terminal_mark = 32768

abbrev pub nodes : List ℕ → ℕ
nodes t = length t / node_words

-- "The first word is the rule number, or 32,768 + symbol for a terminal"
abbrev pub rule_of : List ℕ → ℕ → ℕ
rule_of t n = word t (8 * n)

-- the node applies a rule; else it is a terminal
abbrev pub applies_rule : List ℕ → ℕ → Bool
applies_rule t n = ltb (rule_of t n) terminal_mark

-- "the next seven are the children's node numbers": slot i, from 1 to 7
abbrev pub child : List ℕ → ℕ → ℕ → ℕ
child t n i = word t (8 * n + i)

-- how many slots are used: as many as the rule has symbols on its right, none at a terminal
unfoldable pub used_slots : List ℕ → List ℕ → ℕ → ℕ
used_slots g t n = cond (applies_rule t n) (right_length g (rule_of t n)) 0

-- the symbol of a node: the left side of its rule, or the terminal
unfoldable pub symbol_at_node : List ℕ → List ℕ → ℕ → ℕ
symbol_at_node g t n = cond (applies_rule t n) (symbol_of g (rule_of t n) 0) (rule_of t n - terminal_mark)

-- the node at position i of the rule at node n: itself at 0, else its child
unfoldable pub node_at : List ℕ → ℕ → ℕ → ℕ
node_at t n zero = n
node_at t n (suc i) = child t n (suc i)

-- "value 8n + a": where the value of occurrence o of the rule at node n stands
unfoldable pub cell : List ℕ → ℕ → ℕ → ℕ
cell t n o = 8 * node_at t n (position o) + attribute o

-- the values that a tree of these nodes needs
abbrev pub value_words : List ℕ → ℕ
value_words t = 8 * nodes t
