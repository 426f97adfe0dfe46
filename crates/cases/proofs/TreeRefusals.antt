-- Each refusal of the check of a tree is a case of document 01's table, 12 to 18: where a test fails, what it looked for is missing, and the
-- parts of the check stand in the order of the keys. Assumes nothing.
use Prim.Native.Nat.{ℕ, zero, suc, ◌+◌, ◌*◌, ◌-◌, ◌/◌, ◌%◌, ◌≤◌, ◌<◌}
use mathlib.Core.Path.{◌≡◌, ap, subst, subst⁻¹}
use mathlib.Core.Logic.{◌⊎◌, inl, inr, ⊎_elim}
use mathlib.Core.Bool.{Bool, not}
use mathlib.Core.List.{List}
use native.Mathlib.Omega.{arith}
use lib.Dec.{T, ltb, leb, eqb, ltb→lt, lt→ltb, leb→le, nltb→le, nleb→lt, eqb→eq, T_not, not_T}
use lib.ListN.{length}
use Rattle.basics.specs.Tests.{◌and◌, count}
use Rattle.basics.proofs.TestLaws.{and_left, and_right, and_intro, all_fails, eq_T, tested, chosen, passed_over, below_or_not}
use Rattle.basics.proofs.CountingLaws.{count_yes, count_no, count_zero, count_up, count_find}
use Rattle.refusals.specs.declared.Refusal.{Refusal}
use Rattle.refusals.specs.declared.Refusal.TheVariants.{
  TreeSize,
  NoSuchRule,
  BadChild,
  RootNotStart,
  ChildDiffers,
  NotOneParent,
  ValuesTooShort,
}
use Rattle.grammar.specs.Table.{symbols, rules, start, kind, nonterminal, symbol_of}
use Rattle.grammar.specs.Verdicts.{Verdict, Good, unless, each}
use Rattle.grammar.specs.WellFormed.{SymbolFormed, RuleFormed, WellFormed}
use Rattle.grammar.proofs.VerdictLaws.{then_first, unless_passes, each_at}
use Rattle.trees.specs.Tree.{most_nodes, terminal_mark, nodes, rule_of, applies_rule, child, used_slots, symbol_at_node, value_words}
use Rattle.trees.specs.Checking.{
  size_fits,
  known_word,
  slot_fits,
  slots_fit,
  node_fault,
  root_is_start,
  children_fit,
  names_node,
  once_child,
  check_tree,
}
use Rattle.trees.specs.Formed.{ChildOf}
use Rattle.trees.proofs.AcceptedTree.{used_slots_law, used_child, slot_names, names_slot}
use Rattle.cases.specs.TreeCases.{NamesTerminal, TreeCase}
use Rattle.cases.specs.TreeCases as case
use Rattle.cases.proofs.PassedLaws.{CasesWithin, within_then, within_unless, within_each}
use Rattle.cases.proofs.TreeKeys.{key}

-- two that pass, where two or more count
count_pair : (f : ℕ → Bool) (n : ℕ) → 2 ≤ count n f → (j : ℕ) × (k : ℕ) × (j < k) × (k < n) × (T (f j)) × T (f k)
count_pair f zero h = absurd (omega (arith, count_zero f))
count_pair f (suc n) h =
    ⊎_elim (λ t. let w = count_find f n (omega (arith, count_yes f n t)) in (w.0, n, w.1, omega arith, w.2, t))
    (λ t.
    let w = count_pair f n (omega (arith, count_no f n (λ s. T_not (f n) t s))) in
    (w.0, w.1, w.2, omega (arith, w.3), w.4, w.5))
    (tested (f n))

module _ (g t : List ℕ) (l : ℕ) (table : WellFormed g) where
  abbrev C : Refusal → Type 1
  C = TreeCase g t l

  -- a word that is known names a rule or a terminal
  pub known_one : (n : ℕ) → T (known_word g t n) → (rule_of t n < rules g) ⊎ NamesTerminal g (rule_of t n)
  unfolding known_word
  known_one n k =
      ⊎_elim (λ a. inl (ltb→lt (rule_of t n) (rules g) (subst (λ (b : Bool). T b) (chosen (applies_rule t n) _ _ a) k)))
      (λ a.
      let w : T (ltb (rule_of t n - terminal_mark) (symbols g) and not (nonterminal g (rule_of t n - terminal_mark))) =
      subst (λ (b : Bool). T b) (passed_over (applies_rule t n) _ _ a) k in
      let x : rule_of t n - terminal_mark < symbols g = ltb→lt (rule_of t n - terminal_mark) (symbols g) (and_left _ _ w) in
      let f : SymbolFormed g (rule_of t n - terminal_mark) = table.symbol (rule_of t n - terminal_mark) x in
      inr (record {
        symbol = rule_of t n - terminal_mark;
        inside = x;
        is_terminal = one (kind g (rule_of t n - terminal_mark)) f.kind_fits (and_right _ _ w);
        marked = omega (arith, nltb→le (rule_of t n) terminal_mark a);
      }))
      (tested (applies_rule t n))
    where
      one : (k : ℕ) → k ≤ 1 → T (not (eqb k 0)) → k ≡ 1
      one k h c = ⊎_elim (λ s. absurd (T_not (eqb k 0) c (eq_T k 0 (omega arith)))) (λ s. omega arith) (below_or_not k 1)

  is_known : (n : ℕ) → (rule_of t n < rules g) ⊎ NamesTerminal g (rule_of t n) → T (known_word g t n)
  unfolding known_word
  is_known n (inl h) =
      subst⁻¹ (λ (b : Bool). T b) (chosen (applies_rule t n) _ _ (lt→ltb (rule_of t n) terminal_mark (omega (arith, table.rules_fit))))
      (lt→ltb (rule_of t n) (rules g) h)
  is_known n (inr w) =
      let e : rule_of t n - terminal_mark ≡ w.symbol = omega (arith, w.marked) in
      subst⁻¹ (λ (b : Bool). T b)
      (passed_over (applies_rule t n) _ _
      (not_T (applies_rule t n) (λ a. let s : rule_of t n < terminal_mark = ltb→lt (rule_of t n) terminal_mark a in omega (arith, w.marked))))
      (and_intro _ _ (lt→ltb (rule_of t n - terminal_mark) (symbols g) (omega (arith, w.inside)))
      (not_T (nonterminal g (rule_of t n - terminal_mark)) (λ z.
      let zero_kind : kind g (rule_of t n - terminal_mark) ≡ 0 = eqb→eq _ 0 z in
      omega (arith, w.is_terminal, ap (λ (x : ℕ). kind g x) e))))

  -- where the words are known, a child stands in one of seven slots
  pub slots_short : (n i c : ℕ) → T (known_word g t n) → ChildOf g t n i c → i ≤ 7
  slots_short n i c k w = go (known_one n k)
    where
      go : (rule_of t n < rules g) ⊎ NamesTerminal g (rule_of t n) → i ≤ 7
      go (inl h) = let f : RuleFormed g (rule_of t n) = table.rule (rule_of t n) h in omega (arith, f.length_fits, w.last)
      go (inr v) = absurd (omega (arith, ltb→lt (rule_of t n) terminal_mark w.applies, v.marked))

  pub child_slot : (n i c : ℕ) → ChildOf g t n i c → i ≤ used_slots g t n
  child_slot n i c w = omega (arith, used_slots_law g t n w.applies, w.last)

  -- 12
  size_case : T (not (size_fits t)) → C TreeSize
  unfolding size_fits
  size_case f =
      ⊎_elim
      (λ a.
      ⊎_elim
      (λ b.
      ⊎_elim (λ c. absurd (T_not (size_fits t) f (and_intro _ _ a (and_intro _ _ b c))))
      (λ c. case.too_many_nodes (nleb→lt (nodes t) most_nodes c)) (tested (leb (nodes t) most_nodes)))
      (λ b. let z : nodes t < 1 = nleb→lt 1 (nodes t) b in case.no_nodes (omega arith)) (tested (leb 1 (nodes t))))
      (λ a. case.broken_node (λ e. T_not (eqb (length t % 8) 0) a (eq_T (length t % 8) 0 e)))
      (tested (eqb (length t % 8) 0))

  -- 13
  word_case : (n : ℕ) → n < nodes t → T (not (known_word g t n)) → C (NoSuchRule n)
  word_case n h f =
      case.unknown_word n h (λ r. T_not (known_word g t n) f (is_known n (inl r))) (λ w. T_not (known_word g t n) f (is_known n (inr w)))

  -- 14
  slot_case : (n i : ℕ) → n < nodes t → i < 7 → T (not (slot_fits g t n (suc i))) → C (BadChild n)
  unfolding slot_fits
  slot_case n i h s f =
      ⊎_elim
      (λ u.
      let w : ChildOf g t n (suc i) (child t n (suc i)) =
      used_child g t n (suc i) h (omega arith) (leb→le (suc i) (used_slots g t n) u) in
      let e : T (not (ltb n (child t n (suc i)) and ltb (child t n (suc i)) (nodes t))) =
      subst (λ (b : Bool). T (not b)) (chosen (leb (suc i) (used_slots g t n)) _ _ u) f in
      ⊎_elim
      (λ a.
      ⊎_elim
      (λ b. absurd (T_not (ltb n (child t n (suc i)) and ltb (child t n (suc i)) (nodes t)) e (and_intro _ _ a b)))
      (λ b. case.child_no_node n (suc i) (child t n (suc i)) w (nltb→le (child t n (suc i)) (nodes t) b))
      (tested (ltb (child t n (suc i)) (nodes t))))
      (λ a. case.child_not_above n (suc i) (child t n (suc i)) w (nltb→le n (child t n (suc i)) a))
      (tested (ltb n (child t n (suc i)))))
      (λ u.
      let e : T (not (eqb (child t n (suc i)) 0)) =
      subst (λ (b : Bool). T (not b)) (passed_over (leb (suc i) (used_slots g t n)) _ _ u) f in
      case.unused_not_zero n (suc i) h (nleb→lt (suc i) (used_slots g t n) u) (omega arith)
      (λ z. T_not (eqb (child t n (suc i)) 0) e (eq_T (child t n (suc i)) 0 z)))
      (tested (leb (suc i) (used_slots g t n)))

  slots_case : (n : ℕ) → n < nodes t → T (not (slots_fit g t n)) → C (BadChild n)
  unfolding slots_fit
  slots_case n h f = let w = all_fails 7 (λ i. slot_fits g t n (suc i)) f in slot_case n w.0 h w.1 w.2

  -- 15
  root_case : T (not (root_is_start g t)) → C RootNotStart
  unfolding root_is_start
  root_case f = case.root_differs (λ e. T_not (root_is_start g t) f (eq_T (symbol_at_node g t 0) (start g) e))

  -- 16
  differs_case : (n : ℕ) → n < nodes t → T (not (children_fit g t n)) → C (ChildDiffers n)
  unfolding children_fit
  differs_case n h f =
      let w = all_fails (used_slots g t n) (λ i. eqb (symbol_at_node g t (child t n (suc i))) (symbol_of g (rule_of t n) (suc i))) f in
      case.child_differs n (suc w.0) (child t n (suc w.0)) (used_child g t n (suc w.0) h (omega arith) w.1)
      (λ e.
      T_not (eqb (symbol_at_node g t (child t n (suc w.0))) (symbol_of g (rule_of t n) (suc w.0))) w.2
      (eq_T (symbol_at_node g t (child t n (suc w.0))) (symbol_of g (rule_of t n) (suc w.0)) e))

  -- 17, where every first word is known
  abbrev pub AllKnown : Type 0
  AllKnown = (n : ℕ) → n < nodes t → T (known_word g t n)

  pub names : AllKnown → (n i c : ℕ) → ChildOf g t n i c → T (names_node g t c (8 * n + i))
  names k n i c w = slot_names g t n i c (slots_short n i c (k n w.inside) w) w

  pub inside_words : AllKnown → (n i c : ℕ) → ChildOf g t n i c → 8 * n + i < 8 * nodes t
  inside_words k n i c w = omega (arith, w.inside, slots_short n i c (k n w.inside) w)

  count_case : AllKnown → (c : ℕ) → 1 ≤ c → c < nodes t → (count (8 * nodes t) (λ k. names_node g t c k) ≡ 1 → ⊥) → C (NotOneParent c)
  count_case k c a h f =
      ⊎_elim
      (λ z. case.never_child c a h (λ n i w.
      omega (
        arith,
        count_yes (λ k. names_node g t c k) (8 * n + i) (names k n i c w),
        count_up (λ k. names_node g t c k) (suc (8 * n + i)) (8 * nodes t) (inside_words k n i c w),
      )))
      (λ z.
      ⊎_elim (λ y. absurd (f (omega arith)))
      (λ y.
      let w = count_pair (λ k. names_node g t c k) (8 * nodes t) y in
      case.child_twice c (w.0 / 8) (w.0 % 8) (w.1 / 8) (w.1 % 8) a h
      (names_slot g t c w.0 (omega (arith, w.2, w.3)) w.4) (names_slot g t c w.1 w.3 w.5)
      (λ e. omega (arith, w.2, e.0, e.1)))
      (below_or_not (count (8 * nodes t) (λ k. names_node g t c k)) 2))
      (below_or_not (count (8 * nodes t) (λ k. names_node g t c k)) 1)

  once_case : AllKnown → (c : ℕ) → c < nodes t → T (not (once_child g t c)) → C (NotOneParent c)
  unfolding once_child
  once_case k zero h f = absurd f
  once_case k (suc c) h f =
      count_case k (suc c) (omega arith) h
      (λ e. T_not (eqb (count (8 * nodes t) (λ k. names_node g t (suc c) k)) 1) f (eq_T _ 1 e))

  -- The parts of the check, and what each leaves for the next.
  abbrev In : Verdict → ℕ → Type 1
  In v end = CasesWithin C (key t) v end

  unfoldable pub nodes_part : Verdict
  nodes_part = each (nodes t) (λ n. node_fault g t n)

  unfoldable pub children_part : Verdict
  children_part = each (nodes t) (λ n. unless (children_fit g t n) (ChildDiffers n))

  unfoldable pub once_part : Verdict
  once_part = each (nodes t) (λ n. unless (once_child g t n) (NotOneParent n))

  pub in_size : (end : ℕ) → 13 * (2 * nodes t + 2) ≤ end → In (unless (size_fits t) TreeSize) end
  in_size end h = within_unless C (key t) (size_fits t) TreeSize end size_case (omega arith)

  pub in_node : (n end : ℕ) → n < nodes t → 13 * (2 * nodes t + 2) + 2 * n + 2 ≤ end → In (node_fault g t n) end
  unfolding node_fault
  in_node n end m h =
      within_then C (key t) _ _ end (within_unless C (key t) (known_word g t n) (NoSuchRule n) end (word_case n m) (omega arith))
      (λ e. within_unless C (key t) (slots_fit g t n) (BadChild n) end (slots_case n m) (omega arith))

  pub in_nodes : (end : ℕ) → 14 * (2 * nodes t + 2) ≤ end → In nodes_part end
  unfolding nodes_part
  in_nodes end h = within_each C (key t) (nodes t) (λ n. node_fault g t n) end (λ n m. in_node n end m (omega arith))

  -- a walk that is good has known every first word
  pub nodes_known : nodes_part ≡ Good → AllKnown
  unfolding nodes_part node_fault
  nodes_known e n h = unless_passes (known_word g t n) (NoSuchRule n) (then_first _ _ (each_at (nodes t) (λ n. node_fault g t n) e n h))

  pub in_root : (end : ℕ) → 16 * (2 * nodes t + 2) ≤ end → In (unless (root_is_start g t) RootNotStart) end
  in_root end h = within_unless C (key t) (root_is_start g t) RootNotStart end root_case (omega arith)

  pub in_children : (end : ℕ) → 17 * (2 * nodes t + 2) ≤ end → In children_part end
  unfolding children_part
  in_children end h =
      within_each C (key t) (nodes t) (λ n. unless (children_fit g t n) (ChildDiffers n)) end
      (λ n m. within_unless C (key t) (children_fit g t n) (ChildDiffers n) end (differs_case n m) (omega arith))

  pub in_once : (end : ℕ) → nodes_part ≡ Good → 18 * (2 * nodes t + 2) ≤ end → In once_part end
  unfolding once_part
  in_once end e h =
      within_each C (key t) (nodes t) (λ n. unless (once_child g t n) (NotOneParent n)) end
      (λ n m. within_unless C (key t) (once_child g t n) (NotOneParent n) end (once_case (nodes_known e) n m) (omega arith))

  pub in_tree : In (check_tree g t l) (19 * (2 * nodes t + 2))
  unfolding check_tree nodes_part children_part once_part
  in_tree =
      let end : ℕ = 19 * (2 * nodes t + 2) in
      within_then C (key t) _ _ end (in_size end (omega arith)) (λ a.
      within_then C (key t) _ _ end (in_nodes end (omega arith)) (λ b.
      within_then C (key t) _ _ end (in_root end (omega arith)) (λ c.
      within_then C (key t) _ _ end (in_children end (omega arith)) (λ d.
      within_then C (key t) _ _ end (in_once end b (omega arith)) (λ e.
      within_unless C (key t) (leb (value_words t) l) ValuesTooShort end
      (λ f. case.few_values (nleb→lt (value_words t) l f)) (omega arith))))))
