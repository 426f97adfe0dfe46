-- What the walks over a tree are handed and hand on.
-- For proofs of the code: no demand rests on it. Assumes nothing.
use Rattle.std.specs.Prelude.{ℕ, zero, suc, ◌+◌, ◌*◌, ◌-◌, ◌≤◌, ◌<◌, ◌≡◌, ◌⊎◌, Bool, true, false, cond, IsTrue, Option, Some, None, IfSome, List, ltb, leb, eqb, length}
use Rattle.basics.specs.Tests.{◌and◌, all, count}
use Rattle.basics.specs.Lists.{word}
use Rattle.refusals.specs.declared.Refusal.TheVariants.{ChildDiffers, NotOneParent}
use Rattle.grammar.specs.Verdicts.{Verdict, Good, unless, each}
use Rattle.grammar.specs.Reading.{read_table}
use Rattle.grammar.specs.Table.{rules, start, rule_at, symbol_of}
use Rattle.trees.specs.Tree.{most_nodes, terminal_mark, nodes, rule_of, child, used_slots, symbol_at_node}
use Rattle.trees.specs.Checking.{known_word, node_fault, root_is_start, children_fit, names_node, once_child}

-- 14 at slot i of a node that uses so many slots
unfoldable pub slot_test : List ℕ → ℕ → ℕ → ℕ → Bool
slot_test t n i used = cond (leb i used) (ltb n (child t n i) and ltb (child t n i) (nodes t)) (eqb (child t n i) 0)

-- at the first k slots
unfoldable pub slot_tests_to : List ℕ → ℕ → ℕ → ℕ → Bool
slot_tests_to t n used k = all k (λ i. slot_test t n (suc i) used)

abbrev pub slot_tests : List ℕ → ℕ → ℕ → Bool
slot_tests t n used = slot_tests_to t n used 7

-- the first walk passed: every node is known and its used slots name nodes
pub record Known (g t : List ℕ) : Type 0 where
  pub few : nodes t ≤ most_nodes
  pub known : (n : ℕ) → n < nodes t → IsTrue (known_word g t n)
  pub inside : (n i : ℕ) → n < nodes t → 1 ≤ i → i ≤ used_slots g t n → child t n i < nodes t

-- slot i of node n is used, and p is where the node's rule starts
pub record UsedSlot (g t : List ℕ) (n p i : ℕ) : Type 0 where
  pub node : n < nodes t
  pub first : 1 ≤ i
  pub last : i ≤ used_slots g t n
  pub short : i ≤ 7
  pub rule : p ≡ rule_at g (rule_of t n)
  pub in_table : p + 1 + i < length g

-- 16 at slot i
unfoldable pub child_test : List ℕ → List ℕ → ℕ → ℕ → Bool
child_test g t n i = eqb (symbol_at_node g t (child t n i)) (symbol_of g (rule_of t n) i)

-- 16 at the first k slots
unfoldable pub child_tests_to : List ℕ → List ℕ → ℕ → ℕ → Bool
child_tests_to g t n k = all k (λ i. child_test g t n (suc i))

-- all used slots of node n, whose rule starts at word p
pub record AllSlots (g t : List ℕ) (n p used : ℕ) : Type 0 where
  pub node : n < nodes t
  pub used_is : used ≡ used_slots g t n
  pub short : used ≤ 7
  pub rule : p ≡ rule_at g (rule_of t n)
  pub in_table : p + 1 + used < length g

-- 16 at node n
unfoldable pub children_fault : List ℕ → List ℕ → ℕ → Verdict
children_fault g t n = unless (children_fit g t n) (ChildDiffers n)

-- how many of the first k slots of node n name node m
unfoldable pub slot_names : List ℕ → ℕ → ℕ → ℕ → ℕ
slot_names t n m k = count k (λ i. eqb (child t n (suc i)) m)

-- the counts have room for the slots of node n, whose used slots name nodes that are counted
pub record Naming (named t : List ℕ) (n used : ℕ) : Type 0 where
  pub node : n < most_nodes
  pub there : n < nodes t
  pub short : used ≤ 7
  pub low : (m : ℕ) → word named m ≤ 8 * n
  pub inside : (i : ℕ) → i < used → child t n (suc i) < length named

-- each count has grown by the slots that name its node
pub record NamedMore (before after t : List ℕ) (n used : ℕ) : Type 0 where
  pub size : length after ≡ length before
  pub counts : (m : ℕ) → m < length before → word after m ≡ word before m + slot_names t n m used

-- the counts after the first n nodes: how many words of the tree up to there are used slots that name node m
pub record Names (g t : List ℕ) (n : ℕ) (named : List ℕ) : Type 0 where
  pub size : length named ≡ most_nodes
  pub counts : (m : ℕ) → m < most_nodes → word named m ≡ count (8 * n) (λ k. names_node g t m k)

-- 17 at node n, from the counts
unfoldable pub named_once : List ℕ → ℕ → Bool
named_once named zero = true
named_once named (suc n) = eqb (word named (suc n)) 1

unfoldable pub named_fault : List ℕ → ℕ → Verdict
named_fault named n = unless (named_once named n) (NotOneParent n)

-- ---- the one walk

-- slot i of a node that uses so many slots, where it is not used, else 0
unfoldable pub unused_word : List ℕ → ℕ → ℕ → ℕ → ℕ
unused_word t n i used = cond (leb i used) 0 (child t n i)

unfoldable pub unused_empty : List ℕ → ℕ → ℕ → Bool
unused_empty t n used = all 7 (λ i. eqb (unused_word t n (suc i) used) 0)

-- stands for a symbol where there is none
abbrev pub no_symbol : ℕ
no_symbol = 255

-- node n of a tree, with a symbol or none written down for each node
pub record OnNode (wanted t : List ℕ) (n : ℕ) : Type 0 where
  pub node : n < most_nodes
  pub there : n < nodes t
  pub few : nodes t ≤ most_nodes
  pub size : length wanted ≡ most_nodes

-- c is a node above node n, and nothing is written for it
unfoldable pub is_new : List ℕ → List ℕ → ℕ → ℕ → Bool
is_new wanted t n c = ltb n c and ltb c (nodes t) and eqb (word wanted c) no_symbol

-- the used slots of node n, whose rule starts at word p
pub record Writing (wanted g t : List ℕ) (n p used : ℕ) : Type 0 where
  pub on : OnNode wanted t n
  pub short : used ≤ 7
  pub in_table : p + 1 + used < length g
  pub low : (i : ℕ) → i < used → word g (p + 2 + i) < no_symbol

-- no slot names node m, and what is written for it stays
pub record Kept (before after t : List ℕ) (n used m : ℕ) : Type 0 where
  pub same : word after m ≡ word before m
  pub unnamed : slot_names t n m used ≡ 0

-- one slot names node m, for which nothing was written before
pub record Fresh (before after t : List ℕ) (n used m : ℕ) : Type 0 where
  pub free : word before m ≡ no_symbol
  pub taken : word after m < no_symbol
  pub once : slot_names t n m used ≡ 1

-- the symbols of the first slots of node n are written down: each slot names a node above that no other slot names
pub record Written (before after g t : List ℕ) (n p used : ℕ) : Type 0 where
  pub size : length after ≡ length before
  pub above : (i : ℕ) → i < used → n < child t n (suc i)
  pub inside : (i : ℕ) → i < used → child t n (suc i) < nodes t
  pub symbols : (i : ℕ) → i < used → word after (child t n (suc i)) ≡ word g (p + 2 + i)
  pub taken : (i : ℕ) → i < used → word after (child t n (suc i)) < no_symbol
  pub names : (m : ℕ) → m < length before → Kept before after t n used m ⊎ Fresh before after t n used m
  pub under : (m : ℕ) → m ≤ n → word after m ≡ word before m

-- a used slot of node n names no new node above, or one that another of its slots names too
pub record Refuses (before t : List ℕ) (n used : ℕ) : Type 0 where
  pub slot : ℕ
  pub in_use : slot < used
  pub why : (is_new before t n (child t n (suc slot)) ≡ false) ⊎ (2 ≤ slot_names t n (child t n (suc slot)) used)

-- node n applies the rule at word p
pub record AtRule (wanted g t : List ℕ) (n p : ℕ) : Type 0 where
  pub good : read_table g ≡ Good
  pub on : OnNode wanted t n
  pub applies : rule_of t n < terminal_mark
  pub below : rule_of t n < rules g
  pub rule : p ≡ rule_at g (rule_of t n)

-- node n is terminal x, if there is one
pub record AtTerminal (g t : List ℕ) (n x : ℕ) : Type 0 where
  pub good : read_table g ≡ Good
  pub node : n < most_nodes
  pub there : n < nodes t
  pub mark : terminal_mark ≤ rule_of t n
  pub terminal : x ≡ rule_of t n - terminal_mark

-- node n passes 13 and 14 and has this symbol
pub record NodeFits (g t : List ℕ) (n symbol : ℕ) : Type 0 where
  pub passes : node_fault g t n ≡ Good
  pub symbol_is : symbol ≡ symbol_at_node g t n
  pub small : symbol < no_symbol

-- and the symbols of its children are written down
pub record NodeRead (before after g t : List ℕ) (n symbol : ℕ) : Type 0 where
  pub fits : NodeFits g t n symbol
  pub short : used_slots g t n ≤ 7
  pub written : Written before after g t n (rule_at g (rule_of t n)) (used_slots g t n)

-- or else the node is refused by 13 or 14, or names a node that was named before
abbrev pub Unread : List ℕ → List ℕ → List ℕ → ℕ → Type 0
Unread before g t n = (node_fault g t n ≡ Good → ⊥) ⊎ Refuses before t n (used_slots g t n)

-- where the first node without a parent stands, the end where there is none
abbrev pub place : Option ℕ → ℕ → ℕ
place (Some k) end = k
place None end = end

-- what the first n nodes have named: nobody node m, or one slot
pub record Nobody (g t wanted : List ℕ) (n m : ℕ) : Type 0 where
  pub free : word wanted m ≡ no_symbol
  pub none : count (8 * n) (λ k. names_node g t m k) ≡ 0

pub record Somebody (g t wanted : List ℕ) (n m : ℕ) : Type 0 where
  pub taken : word wanted m < no_symbol
  pub once : count (8 * n) (λ k. names_node g t m k) ≡ 1

-- After n nodes: all passed 13 and 14, what they want of their children is written down, and a node whose symbol is not the one written has no parent;
-- `orphan` is the first such.
pub record Walked (g t wanted : List ℕ) (n : ℕ) (orphan : Option ℕ) (end : ℕ) : Type 0 where
  pub good : read_table g ≡ Good
  pub end_is : end ≡ nodes t
  pub some : 1 ≤ end
  pub few : end ≤ most_nodes
  pub done : n ≤ end
  pub size : length wanted ≡ most_nodes
  pub root : word wanted 0 ≡ start g
  pub passes : (k : ℕ) → k < n → node_fault g t k ≡ Good
  pub names : (m : ℕ) → 1 ≤ m → m < most_nodes → Nobody g t wanted n m ⊎ Somebody g t wanted n m
  pub child_inside : (k i : ℕ) → k < n → i < used_slots g t k → child t k (suc i) < nodes t
  pub symbol : (k i : ℕ) → k < n → i < used_slots g t k → word wanted (child t k (suc i)) ≡ symbol_of g (rule_of t k) (suc i)
  pub taken : (k i : ℕ) → k < n → i < used_slots g t k → word wanted (child t k (suc i)) < no_symbol
  pub seen : (k : ℕ) → k < n → (word wanted k ≡ symbol_at_node g t k) ⊎ (word wanted k ≡ no_symbol)
  pub before : (k : ℕ) → k < n → k < place orphan end → word wanted k < no_symbol
  pub orphan_is : IfSome orphan (λ k. (k < n) × (word wanted k ≡ no_symbol))

-- the tree passes 13 to 16, and no node is a child twice
pub record Apart (g t : List ℕ) : Type 0 where
  pub passes : each (nodes t) (λ n. node_fault g t n) ≡ Good
  pub root : root_is_start g t ≡ true
  pub children : each (nodes t) (λ n. unless (children_fit g t n) (ChildDiffers n)) ≡ Good
  pub once : (m : ℕ) → 1 ≤ m → m < nodes t → count (8 * nodes t) (λ k. names_node g t m k) ≤ 1

-- and each node before this one is a child exactly once, but this one is not, or each node is where there is none
pub record OneWalk (g t : List ℕ) (orphan : Option ℕ) : Type 0 where
  pub apart : Apart g t
  pub parents : each (place orphan (nodes t)) (λ n. unless (once_child g t n) (NotOneParent n)) ≡ Good
  pub lost : IfSome orphan (λ k. (k < nodes t) × (once_child g t k ≡ false))
