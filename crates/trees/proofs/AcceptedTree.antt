-- A tree that the check accepts is well formed: each fact by node number is one of the tests that passed.
-- Assumes nothing.
use Prim.Native.Nat.{ℕ, zero, suc, ◌+◌, ◌*◌, ◌-◌, ◌/◌, ◌%◌, ◌≤◌, ◌<◌}
use mathlib.Core.Path.{◌≡◌, refl, sym, ◌∙◌, ap, subst, subst⁻¹}
use mathlib.Core.Logic.{⊎_elim}
use mathlib.Core.Bool.{Bool, not}
use mathlib.Core.List.{List}
use native.Mathlib.Omega.{arith}
use lib.Dec.{T, ltb, leb, eqb, ltb→lt, leb→le, le→leb, eqb→eq, not_T}
use lib.ListN.{length}
use Rattle.basics.specs.Tests.{◌and◌, count}
use Rattle.basics.specs.Lists.{word}
use Rattle.basics.proofs.TestLaws.{and_left, and_right, and_intro, all_at, eq_T, tested, chosen, passed_over}
use Rattle.basics.proofs.CountingLaws.{count_find, count_only}
use Rattle.refusals.specs.declared.Refusal.TheVariants.{RootNotStart, ChildDiffers, NotOneParent, ValuesTooShort}
use Rattle.grammar.specs.Table.{symbols, rules, nonterminal, right_length, symbol_of}
use Rattle.grammar.specs.Verdicts.{Good, ◌then◌, unless, each}
use Rattle.grammar.specs.WellFormed.{WellFormed, RuleFormed}
use Rattle.grammar.proofs.VerdictLaws.{then_first, then_second, unless_passes, each_at}
use Rattle.trees.specs.Tree.{
  most_nodes,
  terminal_mark,
  nodes,
  rule_of,
  applies_rule,
  child,
  used_slots,
  symbol_at_node,
  value_words,
}
use Rattle.trees.specs.Checking.{
  size_fits,
  known_word,
  slot_fits,
  slots_fit,
  node_fault,
  root_is_start,
  children_fit,
  names_node,
  once_child,
  check_tree,
}
use Rattle.trees.specs.Formed.{ChildOf, Parent, TreeFormed}

module _ (g t : List ℕ) where
  -- the slots in use are the positions of the rule's right side
  pub used_slots_law : (n : ℕ) → T (applies_rule t n) → used_slots g t n ≡ right_length g (rule_of t n)
  unfolding used_slots
  used_slots_law n a = chosen (applies_rule t n) _ _ a

  -- a terminal has none
  pub no_slots : (n : ℕ) → T (not (applies_rule t n)) → used_slots g t n ≡ 0
  unfolding used_slots
  no_slots n a = passed_over (applies_rule t n) _ _ a

  -- a used slot is a child's
  pub used_child : (n i : ℕ) → n < nodes t → 1 ≤ i → i ≤ used_slots g t n → ChildOf g t n i (child t n i)
  used_child n i h l u =
      ⊎_elim
      (λ a. record { inside = h; applies = a; first = l; last = omega (arith, used_slots_law n a); names = refl })
      (λ a. absurd (omega (arith, no_slots n a))) (tested (applies_rule t n))

  child_used : (n i c : ℕ) → ChildOf g t n i c → i ≤ used_slots g t n
  child_used n i c w = omega (arith, used_slots_law n w.applies, w.last)

  -- the symbol of a node that applies a rule
  pub rule_symbol : (n : ℕ) → T (applies_rule t n) → symbol_at_node g t n ≡ symbol_of g (rule_of t n) 0
  unfolding symbol_at_node
  rule_symbol n a = chosen (applies_rule t n) _ _ a

  -- the symbol of a terminal
  pub terminal_symbol : (n : ℕ) → T (not (applies_rule t n)) → symbol_at_node g t n ≡ rule_of t n - terminal_mark
  unfolding symbol_at_node
  terminal_symbol n a = passed_over (applies_rule t n) _ _ a

  -- The tests, each as its fact.
  size_fits_law : T (size_fits t) → (length t % 8 ≡ 0) × (1 ≤ nodes t) × (nodes t ≤ most_nodes)
  unfolding size_fits
  size_fits_law s = (
    eqb→eq (length t % 8) 0 (and_left _ _ s),
    leb→le 1 (nodes t) (and_left _ _ (and_right _ _ s)),
    leb→le (nodes t) most_nodes (and_right _ _ (and_right _ _ s)),
  )

  known_rule : (n : ℕ) → T (known_word g t n) → T (applies_rule t n) → rule_of t n < rules g
  unfolding known_word
  known_rule n k a =
      ltb→lt (rule_of t n) (rules g) (subst (λ (b : Bool). T b) (chosen (applies_rule t n) _ _ a) k)

  known_terminal : (n : ℕ) → T (known_word g t n) → T (not (applies_rule t n))
      → (rule_of t n - terminal_mark < symbols g) × T (not (nonterminal g (rule_of t n - terminal_mark)))
  unfolding known_word
  known_terminal n k a =
      let s : T (ltb (rule_of t n - terminal_mark) (symbols g) and not (nonterminal g (rule_of t n - terminal_mark))) =
      subst (λ (b : Bool). T b) (passed_over (applies_rule t n) _ _ a) k in
      (ltb→lt _ _ (and_left _ _ s), and_right _ _ s)

  slot_used : (n i : ℕ) → T (slot_fits g t n i) → i ≤ used_slots g t n → (n < child t n i) × (child t n i < nodes t)
  unfolding slot_fits
  slot_used n i s h =
      let u : T (ltb n (child t n i) and ltb (child t n i) (nodes t)) =
      subst (λ (b : Bool). T b) (chosen (leb i (used_slots g t n)) _ _ (le→leb i (used_slots g t n) h)) s in
      (ltb→lt n (child t n i) (and_left _ _ u), ltb→lt (child t n i) (nodes t) (and_right _ _ u))

  slot_unused : (n i : ℕ) → T (slot_fits g t n i) → used_slots g t n < i → child t n i ≡ 0
  unfolding slot_fits
  slot_unused n i s h =
      eqb→eq (child t n i) 0
      (subst (λ (b : Bool). T b)
      (passed_over (leb i (used_slots g t n)) _ _ (not_T (leb i (used_slots g t n)) (λ l. omega (arith, leb→le i (used_slots g t n) l)))) s)

  slot_at : (n i : ℕ) → T (slots_fit g t n) → 1 ≤ i → i ≤ 7 → T (slot_fits g t n i)
  unfolding slots_fit
  slot_at n zero s h l = absurd (omega arith)
  slot_at n (suc i) s h l = all_at 7 (λ i. slot_fits g t n (suc i)) s i (omega arith)

  fits_at : (n i : ℕ) → T (children_fit g t n) → 1 ≤ i → i ≤ used_slots g t n
      → symbol_at_node g t (child t n i) ≡ symbol_of g (rule_of t n) i
  unfolding children_fit
  fits_at n zero s h l = absurd (omega arith)
  fits_at n (suc i) s h l =
      eqb→eq _ _ (all_at (used_slots g t n) (λ i. eqb (symbol_at_node g t (child t n (suc i))) (symbol_of g (rule_of t n) (suc i))) s i l)

  -- the word of a slot
  pub slot_names : (n i c : ℕ) → i ≤ 7 → ChildOf g t n i c → T (names_node g t c (8 * n + i))
  unfolding names_node
  slot_names n i c s w =
      let e : (8 * n + i) % 8 ≡ i = omega arith in
      let d : (8 * n + i) / 8 ≡ n = omega arith in
      subst⁻¹ (λ (k : ℕ). T (leb 1 k and leb k (used_slots g t ((8 * n + i) / 8)) and eqb (word t (8 * n + i)) c)) e
      (subst⁻¹ (λ (k : ℕ). T (leb 1 i and leb i (used_slots g t k) and eqb (word t (8 * n + i)) c)) d
      (and_intro _ _ (le→leb 1 i w.first)
      (and_intro _ _ (le→leb i (used_slots g t n) (child_used n i c w)) (eq_T _ _ w.names))))

  -- the slot of a word
  pub names_slot : (c k : ℕ) → k < 8 * nodes t → T (names_node g t c k) → ChildOf g t (k / 8) (k % 8) c
  unfolding names_node
  names_slot c k h s =
      let u = and_right _ _ s in
      let e : k ≡ 8 * (k / 8) + k % 8 = omega arith in
      let w : ChildOf g t (k / 8) (k % 8) (child t (k / 8) (k % 8)) =
      used_child (k / 8) (k % 8) (omega arith) (leb→le 1 (k % 8) (and_left _ _ s))
      (leb→le (k % 8) (used_slots g t (k / 8)) (and_left _ _ u)) in
      record {
        inside = w.inside;
        applies = w.applies;
        first = w.first;
        last = w.last;
        names = ap (λ (j : ℕ). word t j) (sym e) ∙ eqb→eq (word t k) c (and_right _ _ u);
      }

  names_once : (c : ℕ) → T (once_child g t c) → 1 ≤ c → count (8 * nodes t) (λ k. names_node g t c k) ≡ 1
  unfolding once_child
  names_once zero s h = absurd (omega arith)
  names_once (suc c) s h = eqb→eq _ 1 s

  module _ (values_length : ℕ) (table : WellFormed g) (good : check_tree g t values_length ≡ Good) where
    parts : each (nodes t) (λ n. node_fault g t n)
        then unless (root_is_start g t) RootNotStart
        then each (nodes t) (λ n. unless (children_fit g t n) (ChildDiffers n))
        then each (nodes t) (λ n. unless (once_child g t n) (NotOneParent n))
        then unless (leb (value_words t) values_length) ValuesTooShort ≡ Good
    unfolding check_tree
    parts = then_second _ _ good

    size : (length t % 8 ≡ 0) × (1 ≤ nodes t) × (nodes t ≤ most_nodes)
    unfolding check_tree
    size = size_fits_law (unless_passes _ _ (then_first _ _ good))

    known : (n : ℕ) → n < nodes t → T (known_word g t n)
    unfolding node_fault
    known n h = unless_passes _ _ (then_first _ _ (each_at (nodes t) (λ n. node_fault g t n) (then_first _ _ parts) n h))

    slots : (n : ℕ) → n < nodes t → T (slots_fit g t n)
    unfolding node_fault
    slots n h = unless_passes _ _ (then_second _ _ (each_at (nodes t) (λ n. node_fault g t n) (then_first _ _ parts) n h))

    differs : (n : ℕ) → n < nodes t → T (children_fit g t n)
    differs n h =
        unless_passes _ _
        (each_at (nodes t) (λ n. unless (children_fit g t n) (ChildDiffers n)) (then_first _ _ (then_second _ _ (then_second _ _ parts))) n h)

    once : (n : ℕ) → n < nodes t → T (once_child g t n)
    once n h =
        unless_passes _ _
        (each_at (nodes t) (λ n. unless (once_child g t n) (NotOneParent n))
        (then_first _ _ (then_second _ _ (then_second _ _ (then_second _ _ parts)))) n h)

    short : (n i c : ℕ) → ChildOf g t n i c → i ≤ 7
    short n i c w =
        let f : RuleFormed g (rule_of t n) = table.rule (rule_of t n) (known_rule n (known n w.inside) w.applies) in
        omega (arith, f.length_fits, w.last)

    slot_of : (n i c : ℕ) → ChildOf g t n i c → (n < child t n i) × (child t n i < nodes t)
    slot_of n i c w =
        slot_used n i (slot_at n i (slots n w.inside) w.first (short n i c w)) (child_used n i c w)

    same_word : (n i m j c : ℕ) → 1 ≤ c → c < nodes t → ChildOf g t n i c → ChildOf g t m j c → 8 * n + i ≡ 8 * m + j
    same_word n i m j c h l v w =
        count_only (λ k. names_node g t c k) (8 * nodes t) (8 * n + i) (8 * m + j) (names_once c (once c l) h)
        (omega (arith, v.inside, short n i c v)) (omega (arith, w.inside, short m j c w))
        (slot_names n i c (short n i c v) v) (slot_names m j c (short m j c w) w)

    child_inside : (n i c : ℕ) → ChildOf g t n i c → (n < c) × (c < nodes t)
    child_inside n i c w = subst (λ (k : ℕ). (n < k) × (k < nodes t)) w.names (slot_of n i c w)

    parent_of_law : (c : ℕ) → 1 ≤ c → c < nodes t → Parent g t c
    parent_of_law c h l =
        let v = count_find (λ k. names_node g t c k) (8 * nodes t) (omega (arith, names_once c (once c l) h)) in
        record { parent = v.0 / 8; slot = v.0 % 8; is_child = names_slot c v.0 v.1 v.2 }

    -- what the check accepts is well formed
    pub accepted_tree : TreeFormed g t values_length
    unfolding root_is_start
    accepted_tree =
        record {
          whole_nodes = size.0;
          some_node = size.1;
          nodes_fit = size.2;
          rule_known = λ n h a. known_rule n (known n h) a;
          terminal_known = λ n h a. (known_terminal n (known n h) a).0;
          terminal_is = λ n h a. (known_terminal n (known n h) a).1;
          child_higher = λ n i c w. (child_inside n i c w).0;
          child_node = λ n i c w. (child_inside n i c w).1;
          unused_zero = λ n i h l s. slot_unused n i (slot_at n i (slots n h) (omega arith) s) l;
          root_start = eqb→eq _ _ (unless_passes _ _ (then_first _ _ (then_second _ _ parts)));
          child_symbol = λ n i c w.
              subst (λ (k : ℕ). symbol_at_node g t k ≡ symbol_of g (rule_of t n) i) w.names
              (fits_at n i (differs n w.inside) w.first (child_used n i c w));
          parent_of = parent_of_law;
          same_parent = λ n i m j c v w.
              let s = child_inside n i c v in
              omega (arith, same_word n i m j c (omega (arith, s.0)) s.1 v w, short n i c v, short m j c w);
          same_slot = λ n i m j c v w.
              let s = child_inside n i c v in
              omega (arith, same_word n i m j c (omega (arith, s.0)) s.1 v w, short n i c v, short m j c w);
          values_fit =
              leb→le (value_words t) values_length
              (unless_passes _ _ (then_second _ _ (then_second _ _ (then_second _ _ (then_second _ _ parts)))));
        }
