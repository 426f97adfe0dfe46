-- The tests of a tree as the code makes them, one way through each.
-- Assumes nothing.
use Prim.Native.Nat.{ℕ, suc, ◌+◌, ◌*◌, ◌-◌, ◌/◌, ◌%◌, ◌≤◌, ◌<◌}
use mathlib.Core.Path.{◌≡◌, refl, sym, ◌∙◌, ap, ap₂, subst, subst⁻¹}
use mathlib.Core.Logic.{◌⊎◌, ⊎_elim}
use mathlib.Core.Bool.{Bool, true, false, not}
use mathlib.Core.List.{List}
use native.Mathlib.Omega.{arith}
use lib.Dec.{T, ltb, leb, eqb, lt→ltb, le→leb, ltb→lt, not_T, T_not}
use lib.ListN.{length, get_or}
use borrow.Author.Tests.{le-ltb, lt-leb, ne_eqb}
use Rattle.std.specs.Bool.{MatchBool}
use Rattle.std.specs.List.{range_with_len, AllWithin, HoldsAt}
use Rattle.std.proofs.lemmas.List.FromFn.{length-range_with_len, get_or-range_with_len}
use Rattle.basics.specs.Tests.{all}
use Rattle.basics.specs.Lists.{word}
use Rattle.basics.proofs.TestLaws.{and_passed, and_failed, chosen, passed_over, true_T, false_T, eq_T, T_true, T_false, all_at, all_intro}
use Rattle.refusals.specs.declared.Refusal.TheVariants.{NoSuchRule, BadChild, ChildDiffers}
use Rattle.grammar.specs.Verdicts.{Good, Refused, unless}
use Rattle.grammar.proofs.VerdictLaws.{then_good, unless_good}
use Rattle.access.proofs.Laws.{symbol_right, stops, passes, unless_true, unless_false}
use Rattle.grammar.specs.Limits.{most_rules}
use Rattle.grammar.specs.Table.{symbols, rules, kind, nonterminal, length_at, rule_at, right_length, symbol_of}
use Rattle.grammar.specs.Reading.{read_table}
use Rattle.grammar.specs.WellFormed.{WellFormed}
use Rattle.grammar.proofs.AcceptedTable.{accepted}
use Rattle.grammar.proofs.RuleStarts.{rule_step, rules_rise}
use Rattle.access.specs.Offsets.{offsets_for}
use Rattle.access.proofs.Accessors.{offset_is, symbol_at_rule}
use Rattle.trees.specs.Tree.{most_nodes, nodes, rule_of, applies_rule, child, used_slots, symbol_at_node, terminal_mark}
use Rattle.trees.specs.Checking.{size_fits, known_word, slot_fits, slots_fit, node_fault, children_fit}
use Rattle.checking.specs.Walk.{Known, UsedSlot, AllSlots, children_fault, slot_test, slot_tests_to, child_test, child_tests_to}

-- 12
pub size_all : (t : List ℕ) → length t % 8 ≡ 0 → 1 ≤ length t / 8 → leb (length t / 8) most_nodes ≡ size_fits t
unfolding size_fits
size_all t e h = sym (and_passed _ _ (eq_T (length t % 8) 0 e) ∙ and_passed _ _ (le→leb 1 (length t / 8) h))

no_node : (t : List ℕ) → length t % 8 ≡ 0 → length t / 8 < 1 → false ≡ size_fits t
unfolding size_fits
no_node t e h = sym (and_passed _ _ (eq_T (length t % 8) 0 e) ∙ and_failed _ _ (false_T _ (lt-leb 1 (length t / 8) h)))

pub size_none : (t : List ℕ) (u : Bool) → u ≡ leb 1 (length t / 8) → length t % 8 ≡ 0
    → ((length t % 8 ≡ 0) × (length t / 8 < 1)) ⊎ (length t % 8 ≡ 0 → ⊥) → u ≡ size_fits t
size_none t u f e h = ⊎_elim (λ z. f ∙ (lt-leb 1 (length t / 8) z.1 ∙ no_node t e z.1)) (λ z. absurd (z e)) h

pub size_part : (t : List ℕ) (u : Bool) → u ≡ eqb (length t % 8) 0 → (length t % 8 ≡ 0 → ⊥) → u ≡ size_fits t
unfolding size_fits
size_part t u f n = f ∙ (ne_eqb (length t % 8) 0 n ∙ sym (and_failed _ _ (false_T _ (ne_eqb (length t % 8) 0 n))))

-- An accepted table has the words that are looked at: its first three, those of its symbols, and those of its rules up to the number of functions.
module _ (g : List ℕ) (good : read_table g ≡ Good) where
  formed : WellFormed g
  formed = accepted g good

  pub symbol_few : (x : ℕ) → x < symbols g → x < 256
  symbol_few x h = omega (arith, formed.symbols_fit)

  pub symbol_room : (x : ℕ) → x < symbols g → 3 + 3 * x < length g
  unfolding rule_at
  symbol_room x h = omega (arith, formed.ends, rules_rise g 0 (rules g) (omega arith))

  pub rule_room : (r : ℕ) → r < rules g → rule_at g r + 2 + length_at g (rule_at g r) < length g
  unfolding right_length
  rule_room r h = omega (arith, formed.ends, rule_step g r, rules_rise g (suc r) (rules g) h)

pub kind_zero : (g : List ℕ) (x k : ℕ) → k ≡ get_or g (3 + 3 * x) 0 → eqb k 0 ≡ nonterminal g x
unfolding kind
kind_zero g x k e = ap (λ (n : ℕ). eqb n 0) e

-- 13
pub known_rule : (g t : List ℕ) (n r m : ℕ) → r ≡ get_or t (8 * n) 0 → r < terminal_mark → m ≡ rules g → ltb r m ≡ known_word g t n
unfolding known_word
known_rule g t n r m e h f =
    ap₂ ltb e f ∙ sym (chosen (applies_rule t n) _ _ (lt→ltb (rule_of t n) terminal_mark (subst (λ (x : ℕ). x < terminal_mark) e h)))

pub known_terminal : (g t : List ℕ) (n r m : ℕ) (u : Bool) → r ≡ get_or t (8 * n) 0 → terminal_mark ≤ r → m ≡ symbols g → r - terminal_mark < m
    → u ≡ nonterminal g (r - terminal_mark) → not u ≡ known_word g t n
unfolding known_word
known_terminal g t n r m u e h f l q =
    ap not q
    ∙ (ap (λ (x : ℕ). not (nonterminal g (x - terminal_mark))) e
    ∙ (sym (and_passed (ltb (rule_of t n - terminal_mark) (symbols g)) _ (lt→ltb _ _ (subst (λ (x : ℕ). rule_of t n - terminal_mark < x) f (subst (λ (x : ℕ). x - terminal_mark < m) e l))))
    ∙ sym (passed_over (applies_rule t n) _ _ (false_T _ (le-ltb (rule_of t n) terminal_mark (subst (λ (x : ℕ). terminal_mark ≤ x) e h))))))

pub known_nothing : (g t : List ℕ) (n r m : ℕ) → r ≡ get_or t (8 * n) 0 → terminal_mark ≤ r → m ≡ symbols g → m ≤ r - terminal_mark → ltb (r - terminal_mark) m ≡ known_word g t n
unfolding known_word
known_nothing g t n r m e h f l =
    le-ltb (r - terminal_mark) m l
    ∙ sym (passed_over (applies_rule t n) _ _ (false_T _ (le-ltb (rule_of t n) terminal_mark (subst (λ (x : ℕ). terminal_mark ≤ x) e h)))
    ∙ and_failed _ _ (false_T _ (le-ltb _ _ (subst (λ (x : ℕ). x ≤ rule_of t n - terminal_mark) f (subst (λ (x : ℕ). m ≤ x - terminal_mark) e l)))))

-- the slots that a known node uses
pub known_below : (g t : List ℕ) (n r : ℕ) → known_word g t n ≡ true → r ≡ get_or t (8 * n) 0 → r < terminal_mark → r < rules g
unfolding known_word
known_below g t n r k e h =
    subst⁻¹ (λ (x : ℕ). x < rules g) e
    (ltb→lt (rule_of t n) (rules g)
    (subst (λ (b : Bool). T b) (chosen (applies_rule t n) _ _ (lt→ltb (rule_of t n) terminal_mark (subst (λ (x : ℕ). x < terminal_mark) e h))) (true_T _ k)))

pub starts_there : (g offsets : List ℕ) (r : ℕ) → read_table g ≡ Good → offsets ≡ offsets_for g Good → r < rules g → get_or offsets r 0 ≡ rule_at g r
starts_there g offsets r good placed h = offset_is g offsets r _ placed h refl

-- the left symbol and the right length of a rule that the offsets name
pub length_room : (g offsets : List ℕ) (r p : ℕ) → read_table g ≡ Good → offsets ≡ offsets_for g Good → r < rules g → p ≡ get_or offsets r 0 → p + 1 < length g
length_room g offsets r p good placed h e = omega (arith, starts_there g offsets r good placed h, rule_room g good r h)

pub left_room : (g offsets : List ℕ) (r p : ℕ) → read_table g ≡ Good → offsets ≡ offsets_for g Good → r < rules g → p ≡ get_or offsets r 0 → p < length g
left_room g offsets r p good placed h e = omega (arith, length_room g offsets r p good placed h e)

pub few_rules : (g : List ℕ) (r : ℕ) → read_table g ≡ Good → r < rules g → r < most_rules
few_rules g r good h = omega (arith, (accepted g good).rules_fit)

right_length_is : (g offsets : List ℕ) (r p v : ℕ) → read_table g ≡ Good → offsets ≡ offsets_for g Good → r < rules g → p ≡ get_or offsets r 0 → v ≡ length_at g p → v ≡ right_length g r
unfolding right_length
right_length_is g offsets r p v good placed l s f = f ∙ ap (length_at g) (s ∙ starts_there g offsets r good placed l)

pub used_rule : (g offsets t : List ℕ) (n r p v : ℕ) → read_table g ≡ Good → offsets ≡ offsets_for g Good → r ≡ get_or t (8 * n) 0 → r < terminal_mark → r < rules g
    → p ≡ get_or offsets r 0 → v ≡ length_at g p → v ≡ used_slots g t n
unfolding used_slots
used_rule g offsets t n r p v good placed e h l s f =
    right_length_is g offsets r p v good placed l s f
    ∙ (ap (right_length g) e ∙ sym (chosen (applies_rule t n) _ 0 (lt→ltb (rule_of t n) terminal_mark (subst (λ (x : ℕ). x < terminal_mark) e h))))

pub right_seven : (g offsets : List ℕ) (r p v : ℕ) → read_table g ≡ Good → offsets ≡ offsets_for g Good → r < rules g → p ≡ get_or offsets r 0 → v ≡ length_at g p → v ≤ 7
right_seven g offsets r p v good placed l s f =
    omega (arith, right_length_is g offsets r p v good placed l s f, ((accepted g good).rule r l).length_fits)

pub used_none : (g t : List ℕ) (n r : ℕ) → r ≡ get_or t (8 * n) 0 → terminal_mark ≤ r → 0 ≡ used_slots g t n
unfolding used_slots
used_none g t n r e h = sym (passed_over (applies_rule t n) _ 0 (false_T _ (le-ltb (rule_of t n) terminal_mark (subst (λ (x : ℕ). terminal_mark ≤ x) e h))))

-- 14
pub slot_inside : (t : List ℕ) (n i used c : ℕ) → c ≡ get_or t (8 * n + i) 0 → i ≤ used → n < c → ltb c (length t / 8) ≡ slot_test t n i used
unfolding slot_test
slot_inside t n i used c e h l =
    ap (λ (x : ℕ). ltb x (length t / 8)) e
    ∙ (sym (and_passed _ _ (lt→ltb n (child t n i) (subst (λ (x : ℕ). n < x) e l))) ∙ sym (chosen (leb i used) _ _ (le→leb i used h)))

pub slot_low : (t : List ℕ) (n i used c : ℕ) → c ≡ get_or t (8 * n + i) 0 → i ≤ used → c ≤ n → ltb n c ≡ slot_test t n i used
unfolding slot_test
slot_low t n i used c e h l =
    le-ltb n c l
    ∙ sym (chosen (leb i used) _ _ (le→leb i used h) ∙ and_failed _ _ (false_T _ (le-ltb n (child t n i) (subst (λ (x : ℕ). x ≤ n) e l))))

pub slot_unused : (t : List ℕ) (n i used c : ℕ) → c ≡ get_or t (8 * n + i) 0 → used < i → eqb c 0 ≡ slot_test t n i used
unfolding slot_test
slot_unused t n i used c e h = ap (λ (x : ℕ). eqb x 0) e ∙ sym (passed_over (leb i used) _ _ (false_T _ (lt-leb i used h)))

-- the rule of a node that is known
pub below_of_known : (g t : List ℕ) (n r : ℕ) → Known g t → n < nodes t → r ≡ get_or t (8 * n) 0 → r < terminal_mark → r < rules g
below_of_known g t n r k h e l = known_below g t n r (k.known n h) e l

-- 16 at a node
pub rule_slots : (g offsets t : List ℕ) (n r p v : ℕ) → read_table g ≡ Good → offsets ≡ offsets_for g Good → Known g t → n < nodes t → r ≡ get_or t (8 * n) 0 → r < terminal_mark
    → p ≡ get_or offsets r 0 → v ≡ length_at g p → AllSlots g t n p v
rule_slots g offsets t n r p v good placed k h e l f q =
    let m : r < rules g = below_of_known g t n r k h e l in
    record {
      node = h;
      used_is = used_rule g offsets t n r p v good placed e l m f q;
      short = right_seven g offsets r p v good placed m f q;
      rule = f ∙ (starts_there g offsets r good placed m ∙ ap (rule_at g) e);
      in_table =
          let s : p ≡ rule_at g r = f ∙ starts_there g offsets r good placed m in
          omega (arith, rule_room g good r m, s, q ∙ ap (length_at g) s);
    }

pub children_rule : (g offsets t : List ℕ) (n r p v : ℕ) (u : Bool) → read_table g ≡ Good → offsets ≡ offsets_for g Good → Known g t → n < nodes t → r ≡ get_or t (8 * n) 0 → r < terminal_mark
    → p ≡ get_or offsets r 0 → v ≡ length_at g p → u ≡ child_tests_to g t n v → u ≡ children_fit g t n
unfolding children_fit child_tests_to child_test
children_rule g offsets t n r p v u good placed k h e l f q i =
    i ∙ ap (λ (x : ℕ). child_tests_to g t n x) (rule_slots g offsets t n r p v good placed k h e l f q).used_is

pub children_terminal : (g t : List ℕ) (n r : ℕ) → r ≡ get_or t (8 * n) 0 → terminal_mark ≤ r → true ≡ children_fit g t n
unfolding children_fit all
children_terminal g t n r e h = ap (λ (x : ℕ). all x (λ i. eqb (symbol_at_node g t (child t n (suc i))) (symbol_of g (rule_of t n) (suc i)))) (used_none g t n r e h)

-- the walk for 16
pub children_passed : (g t : List ℕ) (n : ℕ) (u : Bool) → u ≡ children_fit g t n → u ≡ true → Good ≡ children_fault g t n
unfolding children_fault
children_passed g t n u e f = unless_true _ _ (sym e ∙ f)

pub children_refused : (g t : List ℕ) (n : ℕ) (u : Bool) → u ≡ children_fit g t n → u ≡ false → Refused (ChildDiffers n) ≡ children_fault g t n
unfolding children_fault
children_refused g t n u e f = unless_false _ _ (sym e ∙ f)

-- the two tests of a node, in their order
slots_same : (g t : List ℕ) (n used : ℕ) → used ≡ used_slots g t n → slot_tests_to t n used 7 ≡ slots_fit g t n
unfolding slots_fit slot_tests_to slot_fits slot_test
slots_same g t n used e = ap (λ (x : ℕ). all 7 (λ i. slot_test t n (suc i) x)) e

pub node_good : (g t : List ℕ) (n used : ℕ) (u v : Bool) → u ≡ known_word g t n → u ≡ true → used ≡ used_slots g t n
    → v ≡ slot_tests_to t n used 7 → v ≡ true → Good ≡ node_fault g t n
unfolding node_fault
node_good g t n used u v e f q h l =
    sym (then_good _ _ (unless_good _ _ (true_T _ (sym e ∙ f))) (unless_good _ _ (true_T _ (sym (slots_same g t n used q) ∙ (sym h ∙ l)))))

pub node_child : (g t : List ℕ) (n used : ℕ) (u v : Bool) → u ≡ known_word g t n → u ≡ true → used ≡ used_slots g t n
    → v ≡ slot_tests_to t n used 7 → v ≡ false → Refused (BadChild n) ≡ node_fault g t n
unfolding node_fault
node_child g t n used u v e f q h l =
    passes (unless (known_word g t n) (NoSuchRule n)) _ Good _ (unless_true _ _ (sym e ∙ f)) refl
    (unless_false _ _ (sym (slots_same g t n used q) ∙ (sym h ∙ l)))

pub node_unknown : (g t : List ℕ) (n : ℕ) (u : Bool) → u ≡ known_word g t n → u ≡ false → Refused (NoSuchRule n) ≡ node_fault g t n
unfolding node_fault
node_unknown g t n u e f = stops (unless (known_word g t n) (NoSuchRule n)) _ (Refused (NoSuchRule n)) (NoSuchRule n) (unless_false _ _ (sym e ∙ f)) refl

pub known_of : (g t : List ℕ) (n : ℕ) (u : Bool) → u ≡ known_word g t n → u ≡ true → known_word g t n ≡ true
known_of g t n u e f = sym e ∙ f

-- the symbol of a known node
pub symbol_rule : (g offsets t : List ℕ) (n r p v : ℕ) → read_table g ≡ Good → offsets ≡ offsets_for g Good → r ≡ get_or t (8 * n) 0 → r < terminal_mark → r < rules g
    → p ≡ get_or offsets r 0 → v ≡ get_or g p 0 → v ≡ symbol_at_node g t n
unfolding symbol_at_node symbol_of
symbol_rule g offsets t n r p v good placed e h l s f =
    f
    ∙ (ap (word g) (s ∙ starts_there g offsets r good placed l)
    ∙ (ap (λ (x : ℕ). symbol_of g x 0) e ∙ sym (chosen (applies_rule t n) _ _ (lt→ltb (rule_of t n) terminal_mark (subst (λ (x : ℕ). x < terminal_mark) e h)))))

pub symbol_terminal : (g t : List ℕ) (n r : ℕ) → r ≡ get_or t (8 * n) 0 → terminal_mark ≤ r → r - terminal_mark ≡ symbol_at_node g t n
unfolding symbol_at_node
symbol_terminal g t n r e h =
    ap (λ (x : ℕ). x - terminal_mark) e ∙ sym (passed_over (applies_rule t n) _ _ (false_T _ (le-ltb (rule_of t n) terminal_mark (subst (λ (x : ℕ). terminal_mark ≤ x) e h))))

-- 16 at one slot
module _ (g t : List ℕ) (n p i c : ℕ) (k : Known g t) (u : UsedSlot g t n p i) (e : c ≡ get_or t (8 * n + i) 0) where
  pub child_inside : c < nodes t
  child_inside = subst⁻¹ (λ (x : ℕ). x < nodes t) e (k.inside n i u.node u.first u.last)

  pub child_few : c < most_nodes
  child_few = omega (arith, k.few, child_inside)

  pub child_known : known_word g t c ≡ true
  child_known = k.known c child_inside

pub slot_room : (g t : List ℕ) (n p i : ℕ) → UsedSlot g t n p i → p + 1 + i < length g
slot_room g t n p i u = u.in_table

pub child_test_law : (g t : List ℕ) (n p i c v x : ℕ) → UsedSlot g t n p i → c ≡ get_or t (8 * n + i) 0 → v ≡ symbol_at_node g t c
    → x ≡ get_or g (p + 1 + i) 0 → eqb v x ≡ child_test g t n i
unfolding child_test
child_test_law g t n p i c v x u e f h =
    ap₂ eqb (f ∙ ap (symbol_at_node g t) e)
    (symbol_right g p i x (λ z. omega (arith, u.first)) h ∙ symbol_at_rule g (rule_of t n) p u.rule i)

-- the tests at 1, 2 and so on, as `all` makes them over a range
module _ (n : ℕ) (f : ℕ → Bool) where
  in_range : (k : ℕ) → k < n → get_or (range_with_len 1 n) k 0 ≡ suc k
  in_range k l = get_or-range_with_len 1 n k 0 l ∙ omega arith

  pub range_tests : (r : Bool) → MatchBool r (AllWithin (λ i. f i ≡ true) (range_with_len 1 n) 0 (length (range_with_len 1 n)))
      ((k : ℕ) × (k < length (range_with_len 1 n)) × HoldsAt (λ i. f i ≡ false) (range_with_len 1 n) k) → r ≡ all n (λ i. f (suc i))
  range_tests true h =
      sym (T_true _ (all_intro n (λ i. f (suc i))
      (λ k l.
      let b : k < length (range_with_len 1 n) = omega (arith, length-range_with_len 1 n) in
      true_T _ (subst (λ (i : ℕ). f i ≡ true) (in_range k l) (h k 0 (omega arith) b)))))
  range_tests false h =
      let l : h.0 < n = omega (arith, length-range_with_len 1 n, h.1) in
      let e : f (suc h.0) ≡ false = subst (λ (i : ℕ). f i ≡ false) (in_range h.0 l) (h.2 0) in
      sym (T_false _ (not_T (all n (λ i. f (suc i))) (λ s. T_not (f (suc h.0)) (false_T _ e) (all_at n (λ i. f (suc i)) s h.0 l))))
