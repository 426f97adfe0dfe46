-- Document 01, refusals 12 to 18, in their order: 13 and 14 together in one walk up the nodes, the others each in a walk of its own.
-- Computed: no demand rests on it. Assumes nothing.
use Rattle.std.specs.Prelude.{ℕ, zero, suc, ◌*◌, ◌-◌, ◌/◌, ◌%◌, Bool, true, cond, not, List, ltb, leb, eqb, length}
use Rattle.basics.specs.Tests.{◌and◌, all, count}
use Rattle.basics.specs.Lists.{word}
use Rattle.refusals.specs.declared.Refusal.TheVariants.{
  TreeSize,
  NoSuchRule,
  BadChild,
  RootNotStart,
  ChildDiffers,
  NotOneParent,
  ValuesTooShort,
}
use Rattle.grammar.specs.Table.{symbols, rules, start, nonterminal, symbol_of}
use Rattle.grammar.specs.Verdicts.{Verdict, ◌then◌, unless, each}
use Rattle.trees.specs.Tree.{
  most_nodes,
  terminal_mark,
  nodes,
  rule_of,
  applies_rule,
  child,
  used_slots,
  symbol_at_node,
  value_words,
}

-- 12: "tree words not a multiple of 8, or no nodes, or over 1,024"
unfoldable pub size_fits : List ℕ → Bool
size_fits t = eqb (length t % 8) 0 and leb 1 (nodes t) and leb (nodes t) most_nodes

-- 13: "first word is no rule and no terminal"
unfoldable pub known_word : List ℕ → List ℕ → ℕ → Bool
known_word g t n =
    cond (applies_rule t n) (ltb (rule_of t n) (rules g))
    (ltb (rule_of t n - terminal_mark) (symbols g) and not (nonterminal g (rule_of t n - terminal_mark)))

-- 14: "used child not above its parent or not a node; unused slot not zero"
unfoldable pub slot_fits : List ℕ → List ℕ → ℕ → ℕ → Bool
slot_fits g t n i =
    cond (leb i (used_slots g t n)) (ltb n (child t n i) and ltb (child t n i) (nodes t)) (eqb (child t n i) 0)

unfoldable pub slots_fit : List ℕ → List ℕ → ℕ → Bool
slots_fit g t n = all 7 (λ i. slot_fits g t n (suc i))

unfoldable pub node_fault : List ℕ → List ℕ → ℕ → Verdict
node_fault g t n = unless (known_word g t n) (NoSuchRule n) then unless (slots_fit g t n) (BadChild n)

-- 15: "root's symbol is not the start"
unfoldable pub root_is_start : List ℕ → List ℕ → Bool
root_is_start g t = eqb (symbol_at_node g t 0) (start g)

-- 16: "child's symbol differs from the rule's"
unfoldable pub children_fit : List ℕ → List ℕ → ℕ → Bool
children_fit g t n =
    all (used_slots g t n) (λ i. eqb (symbol_at_node g t (child t n (suc i))) (symbol_of g (rule_of t n) (suc i)))

-- word k of the tree is a used slot that names node n
unfoldable pub names_node : List ℕ → List ℕ → ℕ → ℕ → Bool
names_node g t n k = leb 1 (k % 8) and leb (k % 8) (used_slots g t (k / 8)) and eqb (word t k) n

-- 17: "a node but the root is a child other than exactly once"; each slot that names it counts
unfoldable pub once_child : List ℕ → List ℕ → ℕ → Bool
once_child g t zero = true
once_child g t (suc n) = eqb (count (8 * nodes t) (λ k. names_node g t (suc n) k)) 1

-- the verdict on a tree with values of this length
unfoldable pub check_tree : List ℕ → List ℕ → ℕ → Verdict
check_tree g t values_length =
    unless (size_fits t) TreeSize
    then each (nodes t) (λ n. node_fault g t n)
    then unless (root_is_start g t) RootNotStart
    then each (nodes t) (λ n. unless (children_fit g t n) (ChildDiffers n))
    then each (nodes t) (λ n. unless (once_child g t n) (NotOneParent n))
    then unless (leb (value_words t) values_length) ValuesTooShort
