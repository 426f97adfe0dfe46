-- Each case of 12 to 18 is tested at its key: a check that has passed the key shows that the case does not apply. So the verdict on a tree is
-- the first case that applies. Assumes nothing.
use Prim.Native.Nat.{ℕ, zero, suc, ◌+◌, ◌*◌, ◌/◌, ◌%◌, ◌≤◌, ◌<◌}
use mathlib.Core.Path.{◌≡◌, sym, ◌∙◌, ap, subst}
use mathlib.Core.Logic.{⊎_elim}
use mathlib.Core.Bool.{Bool}
use mathlib.Core.List.{List}
use native.Mathlib.Omega.{arith}
use lib.Dec.{T, ltb, leb, eqb, ltb→lt, leb→le, le→leb, eqb→eq, not_T}
use lib.ListN.{length}
use Rattle.basics.specs.Tests.{◌and◌, count}
use Rattle.basics.proofs.TestLaws.{and_left, and_right, all_at, chosen, passed_over}
use Rattle.basics.proofs.CountingLaws.{count_find, count_only}
use Rattle.refusals.specs.declared.Refusal.{Refusal}
use Rattle.refusals.specs.declared.Refusal.TheVariants.{
  TreeSize,
  NoSuchRule,
  BadChild,
  RootNotStart,
  ChildDiffers,
  NotOneParent,
  ValuesTooShort,
}
use Rattle.grammar.specs.Table.{start, symbol_of}
use Rattle.grammar.specs.Verdicts.{Verdict, Good, ◌then◌, unless, each}
use Rattle.grammar.specs.WellFormed.{WellFormed}
use Rattle.trees.specs.Tree.{most_nodes, nodes, rule_of, child, used_slots, symbol_at_node, value_words}
use Rattle.trees.specs.Checking.{
  size_fits,
  known_word,
  slot_fits,
  slots_fit,
  node_fault,
  root_is_start,
  children_fit,
  names_node,
  once_child,
  check_tree,
}
use Rattle.trees.specs.Formed.{ChildOf}
use Rattle.trees.proofs.AcceptedTree.{names_slot}
use Rattle.cases.specs.First.{GoesBy}
use Rattle.cases.specs.TreeCases.{TreeCase}
use Rattle.cases.specs.TreeCases as case
use Rattle.cases.proofs.PassedLaws.{
  ends_unless,
  Passed,
  passed_down,
  passed_first,
  passed_all,
  passed_second,
  passed_unless,
  passed_each,
  by_keys,
}
use Rattle.cases.proofs.TreeKeys.{key, keys_order}
use Rattle.cases.proofs.TreeRefusals.{
  slots_short,
  child_slot,
  names,
  AllKnown,
  inside_words,
  nodes_part,
  children_part,
  once_part,
  in_size,
  in_node,
  in_nodes,
  in_root,
  in_children,
  in_once,
  known_one,
  nodes_known,
  in_tree,
}

module _ (g t : List ℕ) (l : ℕ) (table : WellFormed g) where
  size_passed : T (size_fits t) → (length t % 8 ≡ 0) × (1 ≤ nodes t) × (nodes t ≤ most_nodes)
  unfolding size_fits
  size_passed s = (
    eqb→eq (length t % 8) 0 (and_left _ _ s),
    leb→le 1 (nodes t) (and_left _ _ (and_right _ _ s)),
    leb→le (nodes t) most_nodes (and_right _ _ (and_right _ _ s)),
  )

  slot_at : (n i : ℕ) → T (slots_fit g t n) → 1 ≤ i → i ≤ 7 → T (slot_fits g t n i)
  unfolding slots_fit
  slot_at n zero s h m = absurd (omega arith)
  slot_at n (suc i) s h m = all_at 7 (λ i. slot_fits g t n (suc i)) s i (omega arith)

  child_passed : (n i c : ℕ) → T (known_word g t n) → T (slots_fit g t n) → ChildOf g t n i c → (n < c) × (c < nodes t)
  unfolding slot_fits
  child_passed n i c k s w =
      let u : T (ltb n (child t n i) and ltb (child t n i) (nodes t)) =
      subst (λ (b : Bool). T b) (chosen (leb i (used_slots g t n)) _ _ (le→leb i (used_slots g t n) (child_slot g t l table n i c w)))
      (slot_at n i s w.first (slots_short g t l table n i c k w)) in
      subst (λ (d : ℕ). (n < d) × (d < nodes t)) w.names
      (ltb→lt n (child t n i) (and_left _ _ u), ltb→lt (child t n i) (nodes t) (and_right _ _ u))

  unused_passed : (n i : ℕ) → T (slots_fit g t n) → used_slots g t n < i → i ≤ 7 → child t n i ≡ 0
  unfolding slot_fits
  unused_passed n i s h m =
      eqb→eq (child t n i) 0
      (subst (λ (b : Bool). T b)
      (passed_over (leb i (used_slots g t n)) _ _ (not_T (leb i (used_slots g t n)) (λ q. omega (arith, leb→le i (used_slots g t n) q))))
      (slot_at n i s (omega arith) m))

  root_passed : T (root_is_start g t) → symbol_at_node g t 0 ≡ start g
  unfolding root_is_start
  root_passed s = eqb→eq (symbol_at_node g t 0) (start g) s

  symbol_passed : (n i c : ℕ) → T (children_fit g t n) → ChildOf g t n i c → symbol_at_node g t c ≡ symbol_of g (rule_of t n) i
  unfolding children_fit
  symbol_passed n zero c s w = absurd (omega (arith, w.first))
  symbol_passed n (suc i) c s w =
      ap (λ (d : ℕ). symbol_at_node g t d) (sym w.names)
      ∙ eqb→eq _ _
      (all_at (used_slots g t n) (λ i. eqb (symbol_at_node g t (child t n (suc i))) (symbol_of g (rule_of t n) (suc i))) s i
      (child_slot g t l table n (suc i) c w))

  once_passed : (c : ℕ) → 1 ≤ c → T (once_child g t c) → count (8 * nodes t) (λ k. names_node g t c k) ≡ 1
  unfolding once_child
  once_passed zero a s = absurd (omega arith)
  once_passed (suc c) a s = eqb→eq _ 1 s

  some_parent : (c : ℕ) → 1 ≤ c → T (once_child g t c) → ((n i : ℕ) → ¬ ChildOf g t n i c) → ⊥
  some_parent c a s none =
      let w = count_find (λ k. names_node g t c k) (8 * nodes t) (omega (arith, once_passed c a s)) in
      none (w.0 / 8) (w.0 % 8) (names_slot g t c w.0 w.1 w.2)

  one_slot : AllKnown g t l table → (c n i m j : ℕ) → 1 ≤ c → T (once_child g t c) → ChildOf g t n i c → ChildOf g t m j c → (n ≡ m) × (i ≡ j)
  one_slot k c n i m j a s v w =
      let e : 8 * n + i ≡ 8 * m + j =
      count_only (λ k. names_node g t c k) (8 * nodes t) (8 * n + i) (8 * m + j) (once_passed c a s) (inside_words g t l table k n i c v)
      (inside_words g t l table k m j c w) (names g t l table k n i c v) (names g t l table k m j c w) in
      let x = slots_short g t l table n i c (k n v.inside) v in
      let y = slots_short g t l table m j c (k m w.inside) w in
      (omega arith, omega arith)

  abbrev Past : Verdict → ℕ → Type 0
  Past v k = Passed (TreeCase g t l) (key t) v k

  -- Each part, once the check has passed a key of it.
  past_unless : (b : Bool) (n : Refusal) (k : ℕ) → key t n ≤ k → Past (unless b n) k → T b
  past_unless b n k h p = passed_unless (TreeCase g t l) (key t) b n (passed_down (TreeCase g t l) (key t) (unless b n) (key t n) k h p)

  past_size : (k : ℕ) → Past (check_tree g t l) k → Past (unless (size_fits t) TreeSize) k
  unfolding check_tree
  past_size k p = passed_first (TreeCase g t l) (key t) _ _ k p

  after_size : (k : ℕ) → 13 * (2 * nodes t + 2) ≤ suc k → Past (check_tree g t l) k
      → Past (nodes_part g t l table then unless (root_is_start g t) RootNotStart then children_part g t l table then once_part g t l table
      then unless (leb (value_words t) l) ValuesTooShort) k
  unfolding check_tree nodes_part children_part once_part
  after_size k h p = passed_second (TreeCase g t l) (key t) _ _ k (in_size g t l table (suc k) h).ends p

  past_nodes : (k : ℕ) → 13 * (2 * nodes t + 2) ≤ suc k → Past (check_tree g t l) k → Past (nodes_part g t l table) k
  past_nodes k h p = passed_first (TreeCase g t l) (key t) _ _ k (after_size k h p)

  past_node : (n k : ℕ) → n < nodes t → 13 * (2 * nodes t + 2) + 2 * n ≤ k → Past (check_tree g t l) k → Past (node_fault g t n) k
  unfolding nodes_part
  past_node n k m h p =
      passed_each (TreeCase g t l) (key t) (nodes t) (λ n. node_fault g t n) k n m (λ j s. (in_node g t l table j (suc k) (omega arith) (omega arith)).ends)
      (past_nodes k (omega arith) p)

  past_word : (n k : ℕ) → n < nodes t → 13 * (2 * nodes t + 2) + 2 * n ≤ k → Past (check_tree g t l) k → T (known_word g t n)
  unfolding node_fault
  past_word n k m h p = past_unless (known_word g t n) (NoSuchRule n) k (omega arith) (passed_first (TreeCase g t l) (key t) _ _ k (past_node n k m h p))

  past_slots : (n k : ℕ) → n < nodes t → 13 * (2 * nodes t + 2) + 2 * n + 1 ≤ k → Past (check_tree g t l) k → T (slots_fit g t n)
  unfolding node_fault
  past_slots n k m h p =
      past_unless (slots_fit g t n) (BadChild n) k (omega arith)
      (passed_second (TreeCase g t l) (key t) _ _ k (ends_unless (TreeCase g t l) (key t) (known_word g t n) (NoSuchRule n) (suc k) (omega arith))
      (past_node n k m (omega arith) p))

  after_nodes : (k : ℕ) → 14 * (2 * nodes t + 2) ≤ suc k → Past (check_tree g t l) k
      → Past (unless (root_is_start g t) RootNotStart then children_part g t l table then once_part g t l table then unless (leb (value_words t) l) ValuesTooShort) k
  after_nodes k h p = passed_second (TreeCase g t l) (key t) _ _ k (in_nodes g t l table (suc k) h).ends (after_size k (omega arith) p)

  all_known : (k : ℕ) → 14 * (2 * nodes t + 2) ≤ suc k → Past (check_tree g t l) k → nodes_part g t l table ≡ Good
  all_known k h p = passed_all (TreeCase g t l) (key t) (nodes_part g t l table) k (in_nodes g t l table (suc k) h).ends (past_nodes k (omega arith) p)

  past_root : (k : ℕ) → 15 * (2 * nodes t + 2) ≤ k → Past (check_tree g t l) k → T (root_is_start g t)
  past_root k h p =
      past_unless (root_is_start g t) RootNotStart k (omega arith) (passed_first (TreeCase g t l) (key t) _ _ k (after_nodes k (omega arith) p))

  after_root : (k : ℕ) → 16 * (2 * nodes t + 2) ≤ suc k → Past (check_tree g t l) k
      → Past (children_part g t l table then once_part g t l table then unless (leb (value_words t) l) ValuesTooShort) k
  after_root k h p = passed_second (TreeCase g t l) (key t) _ _ k (in_root g t l table (suc k) h).ends (after_nodes k (omega arith) p)

  -- a walk that tests each node
  past_each : (test : ℕ → Bool) (fault : ℕ → Refusal) (n k : ℕ) → n < nodes t → ((j : ℕ) → j ≤ n → key t (fault j) ≤ k)
      → Past (each (nodes t) (λ j. unless (test j) (fault j))) k → T (test n)
  past_each test fault n k m h p =
      past_unless (test n) (fault n) k (h n (omega arith))
      (passed_each (TreeCase g t l) (key t) (nodes t) (λ j. unless (test j) (fault j)) k n m
      (λ j s. ends_unless (TreeCase g t l) (key t) (test j) (fault j) (suc k) (omega (arith, h j (omega arith)))) p)

  past_children : (n k : ℕ) → n < nodes t → 16 * (2 * nodes t + 2) + 2 * n ≤ k → Past (check_tree g t l) k → T (children_fit g t n)
  unfolding children_part
  past_children n k m h p =
      past_each (λ j. children_fit g t j) (λ j. ChildDiffers j) n k m (λ j s. omega arith)
      (passed_first (TreeCase g t l) (key t) _ _ k (after_root k (omega arith) p))

  after_children : (k : ℕ) → 17 * (2 * nodes t + 2) ≤ suc k → Past (check_tree g t l) k
      → Past (once_part g t l table then unless (leb (value_words t) l) ValuesTooShort) k
  after_children k h p = passed_second (TreeCase g t l) (key t) _ _ k (in_children g t l table (suc k) h).ends (after_root k (omega arith) p)

  past_once : (n k : ℕ) → n < nodes t → 17 * (2 * nodes t + 2) + 2 * n ≤ k → Past (check_tree g t l) k → T (once_child g t n)
  unfolding once_part
  past_once n k m h p =
      past_each (λ j. once_child g t j) (λ j. NotOneParent j) n k m (λ j s. omega arith)
      (passed_first (TreeCase g t l) (key t) _ _ k (after_children k (omega arith) p))

  past_values : (k : ℕ) → 18 * (2 * nodes t + 2) ≤ k → Past (check_tree g t l) k → value_words t ≤ l
  past_values k h p =
      leb→le (value_words t) l
      (past_unless (leb (value_words t) l) ValuesTooShort k (omega arith)
      (passed_second (TreeCase g t l) (key t) _ _ k
      (in_once g t l table (suc k) (all_known k (omega arith) p) (omega arith)).ends (after_children k (omega arith) p)))

  -- Each case is tested at its key.
  tested_at : (n : Refusal) → TreeCase g t l n → Past (check_tree g t l) (key t n) → ⊥
  tested_at n (case.broken_node c) p =
      c (size_passed (past_unless (size_fits t) TreeSize (key t TreeSize) (omega arith) (past_size (key t TreeSize) p))).0
  tested_at n (case.no_nodes c) p =
      omega (arith, (size_passed (past_unless (size_fits t) TreeSize (key t TreeSize) (omega arith) (past_size (key t TreeSize) p))).1)
  tested_at n (case.too_many_nodes c) p =
      omega (arith, (size_passed (past_unless (size_fits t) TreeSize (key t TreeSize) (omega arith) (past_size (key t TreeSize) p))).2)
  tested_at n (case.unknown_word m h c d) p = ⊎_elim c d (known_one g t l table m (past_word m (key t (NoSuchRule m)) h (omega arith) p))
  tested_at n (case.child_not_above m i c w h) p =
      let k : ℕ = key t (BadChild m) in
      omega (arith, (child_passed m i c (past_word m k w.inside (omega arith) p) (past_slots m k w.inside (omega arith) p) w).0)
  tested_at n (case.child_no_node m i c w h) p =
      let k : ℕ = key t (BadChild m) in
      omega (arith, (child_passed m i c (past_word m k w.inside (omega arith) p) (past_slots m k w.inside (omega arith) p) w).1)
  tested_at n (case.unused_not_zero m i h a b c) p =
      c (unused_passed m i (past_slots m (key t (BadChild m)) h (omega arith) p) a b)
  tested_at n (case.root_differs c) p = c (root_passed (past_root (key t RootNotStart) (omega arith) p))
  tested_at n (case.child_differs m i c w d) p =
      d (symbol_passed m i c (past_children m (key t (ChildDiffers m)) w.inside (omega arith) p) w)
  tested_at n (case.never_child c a h none) p = some_parent c a (past_once c (key t (NotOneParent c)) h (omega arith) p) none
  tested_at n (case.child_twice c m i q j a h v w d) p =
      let k : ℕ = key t (NotOneParent c) in
      d (one_slot (nodes_known g t l table (all_known k (omega arith) p)) c m i q j a (past_once c k h (omega arith) p) v w)
  tested_at n (case.few_values c) p = let v = past_values (key t ValuesTooShort) (omega arith) p in omega arith

  -- The verdict on a tree: good exactly if no case of 12 to 18 applies, and refusal n exactly if n is the first that applies.
  pub tree_verdict : GoesBy g (TreeCase g t l) (check_tree g t l)
  tree_verdict = by_keys (TreeCase g t l) (key t) g (check_tree g t l) (19 * (2 * nodes t + 2)) (in_tree g t l table) tested_at (keys_order g t l)
