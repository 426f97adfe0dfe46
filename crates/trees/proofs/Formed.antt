-- A well-formed tree is accepted: every test of the check passes. So the check accepts exactly the well-formed trees.
-- Assumes nothing.
use Prim.Native.Nat.{ℕ, zero, suc, ◌+◌, ◌*◌, ◌-◌, ◌/◌, ◌%◌, ◌≤◌, ◌<◌}
use mathlib.Core.Path.{◌≡◌, subst⁻¹}
use mathlib.Core.Logic.{⊎_elim, ◌↔◌}
use mathlib.Core.Bool.{Bool}
use mathlib.Core.List.{List}
use native.Mathlib.Omega.{arith}
use lib.Dec.{T, leb, eqb, lt→ltb, leb→le, le→leb, nleb→lt}
use lib.ListN.{length}
use Rattle.basics.specs.Tests.{count}
use Rattle.basics.proofs.TestLaws.{and_intro, all_intro, eq_T, tested, chosen, passed_over}
use Rattle.basics.proofs.CountingLaws.{count_one}
use Rattle.grammar.specs.Verdicts.{Good}
use Rattle.grammar.specs.Table.{symbols, rules, start, symbol_of}
use Rattle.grammar.specs.WellFormed.{WellFormed}
use Rattle.grammar.proofs.VerdictLaws.{then_good, unless_good, each_good}
use Rattle.trees.specs.Tree.{
  most_nodes,
  terminal_mark,
  nodes,
  rule_of,
  applies_rule,
  child,
  used_slots,
  symbol_at_node,
  value_words,
}
use Rattle.trees.specs.Checking.{
  size_fits,
  known_word,
  slot_fits,
  slots_fit,
  node_fault,
  root_is_start,
  children_fit,
  names_node,
  once_child,
  check_tree,
}
use Rattle.trees.specs.Formed.{ChildOf, Parent, TreeFormed}
use Rattle.trees.proofs.AcceptedTree.{used_child, slot_names, names_slot, accepted_tree}

module _ (g t : List ℕ) (l : ℕ) (table : WellFormed g) (tree : TreeFormed g t l) where
  size : T (size_fits t)
  unfolding size_fits
  size =
      and_intro _ _ (eq_T (length t % 8) 0 tree.whole_nodes)
      (and_intro _ _ (le→leb 1 (nodes t) tree.some_node) (le→leb (nodes t) most_nodes tree.nodes_fit))

  known : (n : ℕ) → n < nodes t → T (known_word g t n)
  unfolding known_word
  known n h =
      ⊎_elim
      (λ a. subst⁻¹ (λ (b : Bool). T b) (chosen (applies_rule t n) _ _ a) (lt→ltb (rule_of t n) (rules g) (tree.rule_known n h a)))
      (λ a.
      subst⁻¹ (λ (b : Bool). T b) (passed_over (applies_rule t n) _ _ a)
      (and_intro _ _ (lt→ltb (rule_of t n - terminal_mark) (symbols g) (tree.terminal_known n h a)) (tree.terminal_is n h a)))
      (tested (applies_rule t n))

  slot : (n i : ℕ) → n < nodes t → 1 ≤ i → i ≤ 7 → T (slot_fits g t n i)
  unfolding slot_fits
  slot n i h f s =
      ⊎_elim
      (λ u.
      let c : ChildOf g t n i (child t n i) = used_child g t n i h f (leb→le i (used_slots g t n) u) in
      subst⁻¹ (λ (b : Bool). T b) (chosen (leb i (used_slots g t n)) _ _ u)
      (and_intro _ _ (lt→ltb n (child t n i) (tree.child_higher n i _ c)) (lt→ltb (child t n i) (nodes t) (tree.child_node n i _ c))))
      (λ u.
      subst⁻¹ (λ (b : Bool). T b) (passed_over (leb i (used_slots g t n)) _ _ u)
      (eq_T (child t n i) 0 (tree.unused_zero n i h (nleb→lt i (used_slots g t n) u) s)))
      (tested (leb i (used_slots g t n)))

  slots : (n : ℕ) → n < nodes t → T (slots_fit g t n)
  unfolding slots_fit
  slots n h = all_intro 7 (λ i. slot_fits g t n (suc i)) (λ i s. slot n (suc i) h (omega arith) s)

  fits : (n : ℕ) → n < nodes t → T (children_fit g t n)
  unfolding children_fit
  fits n h =
      all_intro (used_slots g t n) (λ i. eqb (symbol_at_node g t (child t n (suc i))) (symbol_of g (rule_of t n) (suc i)))
      (λ i s. eq_T _ _ (tree.child_symbol n (suc i) _ (used_child g t n (suc i) h (omega arith) s)))

  short : (n i c : ℕ) → ChildOf g t n i c → i ≤ 7
  short n i c w = omega (arith, (table.rule (rule_of t n) (tree.rule_known n w.inside w.applies)).length_fits, w.last)

  once : (n : ℕ) → n < nodes t → T (once_child g t n)
  unfolding once_child
  once zero h = tt
  once (suc n) h = eq_T _ 1 (one (tree.parent_of (suc n) (omega arith) h))
    where
      one : Parent g t (suc n) → count (8 * nodes t) (λ k. names_node g t (suc n) k) ≡ 1
      one q =
          let m : ℕ = q.parent in
          let i : ℕ = q.slot in
          let w : ChildOf g t m i (suc n) = q.is_child in
          let s : i ≤ 7 = short m i (suc n) w in
          count_one (λ k. names_node g t (suc n) k) (8 * nodes t) (8 * m + i) (omega (arith, w.inside))
          (slot_names g t m i (suc n) s w)
          (λ j h u.
          let v : ChildOf g t (j / 8) (j % 8) (suc n) = names_slot g t (suc n) j h u in
          omega (arith, tree.same_parent (j / 8) (j % 8) m i (suc n) v w, tree.same_slot (j / 8) (j % 8) m i (suc n) v w))

  -- a well-formed tree is accepted
  pub formed_tree : check_tree g t l ≡ Good
  unfolding check_tree node_fault root_is_start
  formed_tree =
      then_good _ _ (unless_good _ _ size)
      (then_good _ _ (each_good _ _ (λ n h. then_good _ _ (unless_good _ _ (known n h)) (unless_good _ _ (slots n h))))
      (then_good _ _ (unless_good _ _ (eq_T (symbol_at_node g t 0) (start g) tree.root_start))
      (then_good _ _ (each_good _ _ (λ n h. unless_good _ _ (fits n h)))
      (then_good _ _ (each_good _ _ (λ n h. unless_good _ _ (once n h)))
      (unless_good _ _ (le→leb (value_words t) l tree.values_fit))))))

-- the check accepts exactly the well-formed trees
pub accepted_tree_exactly : (g t : List ℕ) (l : ℕ) → WellFormed g → (check_tree g t l ≡ Good) ↔ TreeFormed g t l
accepted_tree_exactly g t l table = (accepted_tree g t l table, formed_tree g t l table)
