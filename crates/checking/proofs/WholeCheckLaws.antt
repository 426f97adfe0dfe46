-- The whole check: what a passed walk shows for the next, and that each answer is the verdict of the chain.
-- Assumes nothing.
use Prim.Native.Nat.{ℕ, suc, ◌+◌, ◌*◌, ◌-◌, ◌≤◌, ◌<◌}
use mathlib.Core.Path.{◌≡◌, refl, sym, ◌∙◌, ap, subst, subst⁻¹}
use mathlib.Core.Logic.{⊎_elim}
use mathlib.Core.Bool.{Bool, true, false}
use mathlib.Core.List.{List}
use lib.ListN.{get_or}
use Rattle.std.specs.Prelude.{Option, Some, None, Ok, Err, IsErrAnd}
use native.Mathlib.Omega.{arith}
use lib.Dec.{T, leb, leb→le, le→leb, ltb→lt}
use borrow.Author.Tests.{le-leb, lt-leb, eq-eqb, ne_eqb}
use Rattle.basics.proofs.TestLaws.{and_left, and_right, true_T, T_true, chosen, passed_over, tested, all_at}
use Rattle.refusals.specs.declared.Refusal.{Refusal}
use Rattle.refusals.specs.declared.Refusal.TheVariants.{
  TreeSize,
  NoSuchRule,
  BadChild,
  RootNotStart,
  ChildDiffers,
  NotOneParent,
  ValuesTooShort,
}
use Rattle.grammar.specs.Table.{start, rules, right_length}
use Rattle.grammar.specs.Reading.{read_table}
use Rattle.grammar.proofs.AcceptedTable.{accepted}
use Rattle.grammar.specs.Verdicts.{Verdict, Good, Refused, ◌then◌, unless, each}
use Rattle.access.proofs.Laws.{each_none, each_more, each_stop, each_end}
use Rattle.grammar.proofs.VerdictLaws.{then_first, then_second, unless_passes, each_at}
use Rattle.trees.specs.Tree.{terminal_mark, most_nodes, nodes, rule_of, applies_rule, child, used_slots, symbol_at_node, value_words}
use Rattle.trees.specs.Checking.{
  size_fits,
  known_word,
  slot_fits,
  slots_fit,
  node_fault,
  root_is_start,
  children_fit,
  once_child,
  check_tree,
}
use Rattle.checking.specs.Walk.{Known, Names, children_fault, named_fault, Apart, OneWalk}
use Rattle.checking.proofs.NodeTestLaws.{known_below}
use Rattle.checking.proofs.NameLaws.{once_root, once_passed, once_refused, names_same}

-- a chain whose first verdict is known
good_then : (v w : Verdict) → v ≡ Good → (v then w) ≡ w
unfolding ◌then◌
good_then v w e = ap (λ (x : Verdict). x then w) e

bad_then : (v w : Verdict) (n : Refusal) → v ≡ Refused n → (v then w) ≡ Refused n
unfolding ◌then◌
bad_then v w n e = ap (λ (x : Verdict). x then w) e

unless_yes : (b : Bool) (n : Refusal) → b ≡ true → unless b n ≡ Good
unfolding unless
unless_yes b n e = ap (λ (x : Bool). unless x n) e

unless_not : (b : Bool) (n : Refusal) → b ≡ false → unless b n ≡ Refused n
unfolding unless
unless_not b n e = ap (λ (x : Bool). unless x n) e

-- what a test hands on that fails
pub left_err : (r w : Verdict) (n : Refusal) → IsErrAnd r (λ e. e ≡ n) → Refused n ≡ w → r ≡ w
left_err (Ok _) w n e f = absurd e
left_err (Err m) w n e f = ap Refused e ∙ f

-- what 12 shows
module _ (t : List ℕ) (e : size_fits t ≡ true) where
  pub size_shows : (1 ≤ nodes t) × (nodes t ≤ most_nodes)
  unfolding size_fits
  size_shows =
      let rest = and_right _ _ (true_T (size_fits t) e) in
      (leb→le 1 (nodes t) (and_left _ _ rest), leb→le (nodes t) most_nodes (and_right _ _ rest))

  pub some_node : 1 ≤ nodes t
  some_node = size_shows.0

  pub few_nodes : nodes t ≤ most_nodes
  few_nodes = size_shows.1

pub fits_true : (t : List ℕ) (u : Bool) → u ≡ size_fits t → u ≡ true → size_fits t ≡ true
fits_true t u e f = sym e ∙ f

-- a known node uses at most seven slots
pub used_seven : (g t : List ℕ) (n : ℕ) → read_table g ≡ Good → T (known_word g t n) → used_slots g t n ≤ 7
unfolding used_slots
used_seven g t n good k =
    ⊎_elim
    (λ a.
    let b : rule_of t n < rules g = known_below g t n (rule_of t n) (T_true _ k) refl (ltb→lt (rule_of t n) terminal_mark a) in
    subst⁻¹ (λ (x : ℕ). x ≤ 7) (chosen (applies_rule t n) (right_length g (rule_of t n)) 0 a) ((accepted g good).rule (rule_of t n) b).length_fits)
    (λ a. subst⁻¹ (λ (x : ℕ). x ≤ 7) (passed_over (applies_rule t n) (right_length g (rule_of t n)) 0 a) (omega arith)) (tested (applies_rule t n))

-- what 13 and 14 show
known_from : (g t : List ℕ) → read_table g ≡ Good → nodes t ≤ most_nodes → each (nodes t) (λ n. node_fault g t n) ≡ Good → Known g t
unfolding node_fault slots_fit slot_fits
known_from g t good few e =
    record {
      few = few;
      known = λ n l. T_true _ (word_known n l);
      inside = λ n i l b m.
          let q : suc (i - 1) ≡ i = omega arith in
          let s : T (slot_fits g t n i) = subst (λ (x : ℕ). T (slot_fits g t n x)) q (slot n (i - 1) l (omega (arith, seven n l))) in
          ltb→lt (child t n i) (nodes t)
          (and_right _ _ (subst (λ (x : Bool). T x) (chosen (leb i (used_slots g t n)) _ _ (le→leb i (used_slots g t n) m)) s));
    }
  where
    at : (n : ℕ) → n < nodes t → node_fault g t n ≡ Good
    at n l = each_at (nodes t) (λ n. node_fault g t n) e n l

    word_known : (n : ℕ) → n < nodes t → T (known_word g t n)
    word_known n l = unless_passes (known_word g t n) (NoSuchRule n) (then_first _ _ (at n l))

    slot : (n i : ℕ) → n < nodes t → i < 7 → T (slot_fits g t n (suc i))
    slot n i l b = all_at 7 (λ i. slot_fits g t n (suc i)) (unless_passes (slots_fit g t n) (BadChild n) (then_second _ _ (at n l))) i b

    seven : (n : ℕ) → n < nodes t → used_slots g t n ≤ 7
    seven n l = used_seven g t n good (word_known n l)

-- the chain from each test on
abbrev from_18 : List ℕ → ℕ → Verdict
from_18 t v = unless (leb (value_words t) v) ValuesTooShort

abbrev from_17 : List ℕ → List ℕ → ℕ → Verdict
from_17 g t v = each (nodes t) (λ n. unless (once_child g t n) (NotOneParent n)) then from_18 t v

abbrev from_16 : List ℕ → List ℕ → ℕ → Verdict
from_16 g t v = each (nodes t) (λ n. unless (children_fit g t n) (ChildDiffers n)) then from_17 g t v

abbrev from_15 : List ℕ → List ℕ → ℕ → Verdict
from_15 g t v = unless (root_is_start g t) RootNotStart then from_16 g t v

abbrev from_13 : List ℕ → List ℕ → ℕ → Verdict
from_13 g t v = each (nodes t) (λ n. node_fault g t n) then from_15 g t v

pub answer_12 : (g t : List ℕ) (v : ℕ) (u : Bool) → u ≡ size_fits t → u ≡ false → Refused TreeSize ≡ check_tree g t v
unfolding check_tree
answer_12 g t v u e f = sym (bad_then (unless (size_fits t) TreeSize) (from_13 g t v) TreeSize (unless_not _ _ (sym e ∙ f)))

-- past 12
past_12 : (g t : List ℕ) (v : ℕ) → size_fits t ≡ true → check_tree g t v ≡ from_13 g t v
unfolding check_tree
past_12 g t v s = good_then (unless (size_fits t) TreeSize) (from_13 g t v) (unless_yes _ _ s)

-- ---- the walks, each with what passed so far

-- 13 and 14 at the first k nodes
pub record NodesPass (g t : List ℕ) (k : ℕ) : Type 0 where
  pub done : k ≤ nodes t
  pub pass : each k (λ n. node_fault g t n) ≡ Good

-- 16
pub record ChildrenPass (g t : List ℕ) (k : ℕ) : Type 0 where
  pub done : k ≤ nodes t
  pub pass : each k (λ n. children_fault g t n) ≡ Good

-- 17, from the counts
pub record NamesPass (g t named : List ℕ) (k : ℕ) : Type 0 where
  pub done : k ≤ nodes t
  pub pass : each k (λ n. named_fault named n) ≡ Good

module _ (g t : List ℕ) where
  pub nodes_start : NodesPass g t 0
  nodes_start = record { done = omega arith; pass = each_none _ }

  pub nodes_more : (k : ℕ) (u : Verdict) → NodesPass g t k → k < nodes t → u ≡ node_fault g t k → u ≡ Good → NodesPass g t (k + 1)
  nodes_more k u w l e f = record { done = omega arith; pass = each_more k (λ n. node_fault g t n) u w.pass e f }

  pub children_start : ChildrenPass g t 0
  children_start = record { done = omega arith; pass = each_none _ }

  pub children_next : (k : ℕ) (u : Verdict) → ChildrenPass g t k → k < nodes t → u ≡ children_fault g t k → u ≡ Good → ChildrenPass g t (k + 1)
  children_next k u w l e f = record { done = omega arith; pass = each_more k (λ n. children_fault g t n) u w.pass e f }

  pub names_start : (named : List ℕ) → 1 ≤ nodes t → NamesPass g t named 1
  names_start named some = record { done = some; pass = each_more 0 (λ n. named_fault named n) Good (each_none _) (once_root named) refl }

  pub names_more : (named : List ℕ) (k : ℕ) → NamesPass g t named k → 1 ≤ k → k < nodes t → get_or named k 0 ≡ 1 → NamesPass g t named (k + 1)
  names_more named k w b l e = record { done = omega arith; pass = each_more k (λ n. named_fault named n) Good w.pass (once_passed named k b e) refl }

-- past 15
pub record Passed15 (g t : List ℕ) (v : ℕ) : Type 0 where
  pub rest : check_tree g t v ≡ (each (nodes t) (λ n. unless (children_fit g t n) (ChildDiffers n))
      then each (nodes t) (λ n. unless (once_child g t n) (NotOneParent n)) then unless (leb (value_words t) v) ValuesTooShort)

module _ (g t : List ℕ) (v : ℕ) (s : size_fits t ≡ true) where
  pub answer_13 : (k : ℕ) (u : Verdict) (m : Refusal) → NodesPass g t k → k < nodes t → u ≡ node_fault g t k → u ≡ Refused m → Refused m ≡ check_tree g t v
  answer_13 k u m w l e f =
      sym (past_12 g t v s
      ∙ bad_then (each (nodes t) (λ n. node_fault g t n)) (from_15 g t v) m
      (sym (each_stop (nodes t) k (λ n. node_fault g t n) u m l w.pass e f) ∙ f))

  module _ (k : ℕ) (w : NodesPass g t k) (l : nodes t ≤ k) where
    nodes_pass : each (nodes t) (λ n. node_fault g t n) ≡ Good
    nodes_pass = sym (each_end (nodes t) k (λ n. node_fault g t n) w.done l w.pass)

    pub known_all : read_table g ≡ Good → Known g t
    known_all good = known_from g t good (few_nodes t s) nodes_pass

    pub root_known : read_table g ≡ Good → known_word g t 0 ≡ true
    root_known good = (known_all good).known 0 (some_node t s)

    past_13 : check_tree g t v ≡ from_15 g t v
    past_13 = past_12 g t v s ∙ good_then (each (nodes t) (λ n. node_fault g t n)) (from_15 g t v) nodes_pass

    module _ (x y : ℕ) (i : x ≡ symbol_at_node g t 0) (j : y ≡ start g) where
      pub answer_15 : (x ≡ y → ⊥) → Refused RootNotStart ≡ check_tree g t v
      unfolding root_is_start
      answer_15 n =
          sym (past_13
          ∙ bad_then (unless (root_is_start g t) RootNotStart) (from_16 g t v) RootNotStart
          (unless_not _ _ (ne_eqb (symbol_at_node g t 0) (start g) (λ z. n (i ∙ (z ∙ sym j))))))

      pub passed_15 : x ≡ y → Passed15 g t v
      unfolding root_is_start
      passed_15 q =
          record {
            rest =
                past_13
                ∙ good_then (unless (root_is_start g t) RootNotStart) (from_16 g t v)
                (unless_yes _ _ (eq-eqb (symbol_at_node g t 0) (start g) (sym i ∙ (q ∙ j))));
          }

module _ (g t : List ℕ) (v : ℕ) (p : Passed15 g t v) where
  pub answer_16 : (k : ℕ) (u : Verdict) (m : Refusal) → ChildrenPass g t k → k < nodes t → u ≡ children_fault g t k → u ≡ Refused m
      → Refused m ≡ check_tree g t v
  unfolding children_fault
  answer_16 k u m w l e f =
      sym (p.rest
      ∙ bad_then (each (nodes t) (λ n. unless (children_fit g t n) (ChildDiffers n))) (from_17 g t v) m
      (sym (each_stop (nodes t) k (λ n. unless (children_fit g t n) (ChildDiffers n)) u m l w.pass e f) ∙ f))

  module _ (k : ℕ) (w : ChildrenPass g t k) (l : nodes t ≤ k) (few : nodes t ≤ most_nodes) (named : List ℕ) (c : Names g t (nodes t) named) where
    past_16 : check_tree g t v ≡ from_17 g t v
    unfolding children_fault
    past_16 =
        p.rest
        ∙ good_then (each (nodes t) (λ n. unless (children_fit g t n) (ChildDiffers n))) (from_17 g t v)
        (sym (each_end (nodes t) k (λ n. unless (children_fit g t n) (ChildDiffers n)) w.done l w.pass))

    pub answer_17 : (i : ℕ) → NamesPass g t named i → 1 ≤ i → i < nodes t → (get_or named i 0 ≡ 1 → ⊥) → Refused (NotOneParent i) ≡ check_tree g t v
    answer_17 i z b h e =
        sym (past_16
        ∙ bad_then (each (nodes t) (λ n. unless (once_child g t n) (NotOneParent n))) (from_18 t v) (NotOneParent i)
        (sym (names_same g t named few c)
        ∙ sym (each_stop (nodes t) i (λ n. named_fault named n) (Refused (NotOneParent i)) (NotOneParent i) h z.pass (once_refused named i b e) refl)))

    pub answer_18 : (i : ℕ) (r : Verdict) → NamesPass g t named i → nodes t ≤ i → r ≡ unless (leb (8 * nodes t) v) ValuesTooShort → r ≡ check_tree g t v
    answer_18 i r z h q =
        q
        ∙ sym (past_16
        ∙ good_then (each (nodes t) (λ n. unless (once_child g t n) (NotOneParent n))) (from_18 t v)
        (sym (names_same g t named few c) ∙ sym (each_end (nodes t) i (λ n. named_fault named n) z.done h z.pass)))

-- 18
pub values_short : (n v : ℕ) → v < 8 * n → Refused ValuesTooShort ≡ unless (leb (8 * n) v) ValuesTooShort
values_short n v h = sym (unless_not _ _ (lt-leb (8 * n) v h))

pub values_enough : (n v : ℕ) → 8 * n ≤ v → Good ≡ unless (leb (8 * n) v) ValuesTooShort
values_enough n v h = sym (unless_yes _ _ (le-leb (8 * n) v h))

-- the answers of the one walk
module _ (g t : List ℕ) (v : ℕ) (s : size_fits t ≡ true) where
  past_walk : Apart g t → check_tree g t v ≡ from_17 g t v
  past_walk a =
      past_12 g t v s
      ∙ (good_then (each (nodes t) (λ n. node_fault g t n)) (from_15 g t v) a.passes
      ∙ (good_then (unless (root_is_start g t) RootNotStart) (from_16 g t v) (unless_yes _ _ a.root)
      ∙ good_then (each (nodes t) (λ n. unless (children_fit g t n) (ChildDiffers n))) (from_17 g t v) a.children))

  lost : (k : ℕ) → OneWalk g t (Some k) → Refused (NotOneParent k) ≡ check_tree g t v
  lost k w =
      sym (past_walk w.apart
      ∙ bad_then (each (nodes t) (λ n. unless (once_child g t n) (NotOneParent n))) (from_18 t v) (NotOneParent k)
      (sym (each_stop (nodes t) k (λ n. unless (once_child g t n) (NotOneParent n)) (Refused (NotOneParent k)) (NotOneParent k) w.lost.0 w.parents
      (sym (unless_not _ _ w.lost.1)) refl)))

  pub answer_lost : (k : ℕ) (o : Option ℕ) → OneWalk g t o → o ≡ Some k → Refused (NotOneParent k) ≡ check_tree g t v
  answer_lost k o w e = lost k (subst (λ (x : Option ℕ). OneWalk g t x) e w)

  whole : (r : Verdict) → OneWalk g t None → r ≡ unless (leb (8 * nodes t) v) ValuesTooShort → r ≡ check_tree g t v
  whole r w k =
      k
      ∙ sym (past_walk w.apart ∙ good_then (each (nodes t) (λ n. unless (once_child g t n) (NotOneParent n))) (from_18 t v) w.parents)

  pub answer_whole : (r : Verdict) (o : Option ℕ) → OneWalk g t o → o ≡ None → r ≡ unless (leb (8 * nodes t) v) ValuesTooShort → r ≡ check_tree g t v
  answer_whole r o w e k = whole r (subst (λ (x : Option ℕ). OneWalk g t x) e w) k
