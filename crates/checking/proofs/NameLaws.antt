-- Counting how often each node is named: slot after slot, node after node, and at the end that is 01's count over the whole tree.
-- Assumes nothing.
use Prim.Native.Nat.{ℕ, zero, suc, ◌+◌, ◌*◌, ◌-◌, ◌/◌, ◌%◌, ◌≤◌, ◌<◌}
use mathlib.Core.Path.{◌≡◌, refl, sym, ◌∙◌, ap, ap₂, subst, subst⁻¹}
use mathlib.Core.Logic.{⊎_elim}
use mathlib.Core.Bool.{Bool, true, false, cond}
use mathlib.Core.List.{List}
use native.Mathlib.Omega.{arith}
use native.Mathlib.Numerals.{add-one}
use lib.Dec.{T, leb, eqb, le→leb}
use lib.ListN.{length, get_or, take, drop, length-take, length-drop, set, length-set, replicate, length-replicate, get_or-replicate, get_or-eq_default}
use Rattle.std.proofs.lemmas.List.{get_or-take, get_or-drop}
use lib.Seq.{get_or-set_same, get_or-set_other}
use borrow.Author.Tests.{lt-leb, eq-eqb, ne_eqb}
use Rattle.basics.specs.Tests.{count}
use Rattle.basics.specs.Lists.{word}
use Rattle.basics.proofs.TestLaws.{and_passed, and_failed, false_T, same_or_not, below_or_not, count_le}
use Rattle.trees.specs.Tree.{most_nodes, nodes, child, used_slots}
use Rattle.trees.specs.Checking.{known_word, names_node, once_child}
use Rattle.refusals.specs.declared.Refusal.TheVariants.{NotOneParent}
use Rattle.grammar.specs.Verdicts.{Verdict, Good, Refused, ◌then◌, unless, each}
use Rattle.access.proofs.Laws.{unless_true, unless_false}
use Rattle.checking.specs.Walk.{Known, slot_names, Naming, NamedMore, Names, named_once, named_fault}

-- counting on from a
pub count_on : (a k : ℕ) (f : ℕ → Bool) → count (a + k) f ≡ count a f + count k (λ i. f (a + i))
unfolding count
count_on a zero f = let e : a + 0 ≡ a = omega arith in ap (λ (n : ℕ). count n f) e ∙ omega arith
count_on a (suc k) f =
    let e : a + suc k ≡ suc (a + k) = omega arith in
    ap (λ (n : ℕ). count n f) e ∙ omega (arith, count_on a k f)

pub count_same : (k : ℕ) (f h : ℕ → Bool) → ((i : ℕ) → i < k → f i ≡ h i) → count k f ≡ count k h
unfolding count
count_same zero f h e = refl
count_same (suc k) f h e =
    ap₂ (λ (n : ℕ) (b : Bool). n + cond b 1 0) (count_same k f h (λ i l. e i (omega arith))) (e k (omega arith))

count_nothing : (k : ℕ) (f : ℕ → Bool) → ((i : ℕ) → i < k → f i ≡ false) → count k f ≡ 0
unfolding count
count_nothing zero f e = refl
count_nothing (suc k) f e =
    ap₂ (λ (n : ℕ) (b : Bool). n + cond b 1 0) (count_nothing k f (λ i l. e i (omega arith))) (e k (omega arith))

-- word 8 n + i of the tree, where i is a slot of node n
slot_first : (g t : List ℕ) (n m : ℕ) → names_node g t m (8 * n + 0) ≡ false
unfolding names_node
slot_first g t n m =
    let e : (8 * n + 0) % 8 ≡ 0 = omega arith in
    and_failed _ _ (false_T _ (ap (λ (x : ℕ). leb 1 x) e))

slot_used : (g t : List ℕ) (n m i : ℕ) → 1 ≤ i → i ≤ 7 → i ≤ used_slots g t n → names_node g t m (8 * n + i) ≡ eqb (child t n i) m
unfolding names_node
slot_used g t n m i h l u =
    let e : (8 * n + i) % 8 ≡ i = omega arith in
    let f : (8 * n + i) / 8 ≡ n = omega arith in
    and_passed _ _ (subst⁻¹ (λ (x : ℕ). T (leb 1 x)) e (le→leb 1 i h))
    ∙ and_passed _ _ (subst⁻¹ (λ (x : ℕ). T (leb x (used_slots g t ((8 * n + i) / 8)))) e (subst⁻¹ (λ (x : ℕ). T (leb i (used_slots g t x))) f (le→leb i (used_slots g t n) u)))

slot_unused : (g t : List ℕ) (n m i : ℕ) → 1 ≤ i → i ≤ 7 → used_slots g t n < i → names_node g t m (8 * n + i) ≡ false
unfolding names_node
slot_unused g t n m i h l u =
    let e : (8 * n + i) % 8 ≡ i = omega arith in
    let f : (8 * n + i) / 8 ≡ n = omega arith in
    and_passed _ _ (subst⁻¹ (λ (x : ℕ). T (leb 1 x)) e (le→leb 1 i h))
    ∙ and_failed _ _
    (false_T _ (ap (λ (x : ℕ). leb x (used_slots g t ((8 * n + i) / 8))) e ∙ (ap (λ (x : ℕ). leb i (used_slots g t x)) f ∙ lt-leb i (used_slots g t n) u)))

-- the slots of one node, as 01 counts them
module _ (g t : List ℕ) (n m : ℕ) (h : used_slots g t n ≤ 7) where
  used_part : count (used_slots g t n) (λ i. names_node g t m (8 * n + (1 + i))) ≡ count (used_slots g t n) (λ i. eqb (child t n (suc i)) m)
  used_part =
      count_same (used_slots g t n) (λ i. names_node g t m (8 * n + (1 + i))) (λ i. eqb (child t n (suc i)) m)
      (λ i l.
      let e : 1 + i ≡ suc i = omega arith in
      ap (λ (x : ℕ). names_node g t m (8 * n + x)) e ∙ slot_used g t n m (suc i) (omega arith) (omega arith) l)

  unused_part : count (7 - used_slots g t n) (λ i. names_node g t m (8 * n + (1 + (used_slots g t n + i)))) ≡ 0
  unused_part =
      count_nothing (7 - used_slots g t n) (λ i. names_node g t m (8 * n + (1 + (used_slots g t n + i))))
      (λ i l. slot_unused g t n m (1 + (used_slots g t n + i)) (omega arith) (omega arith) (omega arith))

  seven : count 7 (λ i. names_node g t m (8 * n + (1 + i))) ≡ count (used_slots g t n) (λ i. eqb (child t n (suc i)) m)
  seven =
      let e : 7 ≡ used_slots g t n + (7 - used_slots g t n) = omega arith in
      ap (λ (k : ℕ). count k (λ i. names_node g t m (8 * n + (1 + i)))) e
      ∙ (count_on (used_slots g t n) (7 - used_slots g t n) (λ i. names_node g t m (8 * n + (1 + i)))
      ∙ omega (arith, used_part, unused_part))

  pub node_names : count 8 (λ i. names_node g t m (8 * n + i)) ≡ slot_names t n m (used_slots g t n)
  unfolding slot_names
  node_names =
      let none : count 1 (λ i. names_node g t m (8 * n + i)) ≡ 0 =
      count_nothing 1 (λ i. names_node g t m (8 * n + i))
      (λ i l. let e : i ≡ 0 = omega arith in ap (λ (x : ℕ). names_node g t m (8 * n + x)) e ∙ slot_first g t n m) in
      count_on 1 7 (λ i. names_node g t m (8 * n + i)) ∙ omega (arith, none, seven)

-- one slot more
pub slot_count : (t : List ℕ) (n m i : ℕ) → slot_names t n m (i + 1) ≡ slot_names t n m i + cond (eqb (child t n (suc i)) m) 1 0
unfolding slot_names count
slot_count t n m i = ap (λ (k : ℕ). count k (λ i. eqb (child t n (suc i)) m)) (add-one i)

slots_few : (t : List ℕ) (n m k : ℕ) → slot_names t n m k ≤ k
unfolding slot_names
slots_few t n m k = count_le k (λ i. eqb (child t n (suc i)) m)

-- ---- the used slots as a part of the tree

module _ (t : List ℕ) (n used i : ℕ) where
  abbrev slots : List ℕ
  slots = take (8 * n + 1 + used - (8 * n + 1)) (drop (8 * n + 1) t)

  pub slot_under : i < length slots → i < used
  slot_under h = omega (arith, length-take (8 * n + 1 + used - (8 * n + 1)) (drop (8 * n + 1) t))

  pub slot_read : i < length slots → get_or slots i 0 ≡ get_or t (8 * n + i + 1) 0
  slot_read h =
      let q : 8 * n + 1 + i ≡ 8 * n + i + 1 = omega arith in
      get_or-take (8 * n + 1 + used - (8 * n + 1)) (drop (8 * n + 1) t) i 0 (omega (arith, slot_under h))
      ∙ (get_or-drop (8 * n + 1) t i 0 ∙ ap (λ (x : ℕ). get_or t x 0) q)

  pub slots_done : n < nodes t → used ≤ 7 → length slots ≤ i → used ≤ i
  slots_done h l e =
      omega (arith, length-take (8 * n + 1 + used - (8 * n + 1)) (drop (8 * n + 1) t), length-drop (8 * n + 1) t)

-- the loop over the slots of a node
pub record NamedTo (entry t : List ℕ) (n used : ℕ) (named : List ℕ) (i : ℕ) : Type 0 where
  pub naming : Naming entry t n used
  pub done : i ≤ used
  pub size : length named ≡ length entry
  pub counts : (m : ℕ) → m < length entry → word named m ≡ word entry m + slot_names t n m i

pub named_start : (entry t : List ℕ) (n used : ℕ) → Naming entry t n used → NamedTo entry t n used entry 0
unfolding slot_names count
named_start entry t n used w = record { naming = w; done = omega arith; size = refl; counts = λ m l. omega arith }

pub named_inside : (entry t : List ℕ) (n used : ℕ) (named : List ℕ) (i c : ℕ) → NamedTo entry t n used named i → i < used
    → c ≡ get_or t (8 * n + i + 1) 0 → c < length named
named_inside entry t n used named i c w l e =
    let q : 8 * n + i + 1 ≡ 8 * n + suc i = omega arith in
    subst⁻¹ (λ (x : ℕ). c < x) w.size (subst⁻¹ (λ (x : ℕ). x < length entry) (e ∙ ap (λ (x : ℕ). get_or t x 0) q) (w.naming.inside i l))

pub named_fits : (entry t : List ℕ) (n used : ℕ) (named : List ℕ) (i c : ℕ) → NamedTo entry t n used named i → i < used
    → c ≡ get_or t (8 * n + i + 1) 0 → word named c + 1 < 65536
named_fits entry t n used named i c w l e =
    let b : c < length entry = subst (λ (x : ℕ). c < x) w.size (named_inside entry t n used named i c w l e) in
    omega (arith, w.counts c b, w.naming.low c, w.naming.node, w.naming.short, slots_few t n c i)

pub named_turn : (entry t : List ℕ) (n used : ℕ) (named : List ℕ) (i c : ℕ) → NamedTo entry t n used named i → i < used
    → c ≡ get_or t (8 * n + i + 1) 0 → NamedTo entry t n used (set named c (get_or named c 0 + 1)) (i + 1)
named_turn entry t n used named i c w l e =
    record {
      naming = w.naming;
      done = omega arith;
      size = length-set named c (get_or named c 0 + 1) ∙ w.size;
      counts = λ m b. ⊎_elim (λ q. here m b q) (λ q. there m b q) (same_or_not m c);
    }
  where
    is_child : c ≡ child t n (suc i)
    is_child = let q : 8 * n + i + 1 ≡ 8 * n + suc i = omega arith in e ∙ ap (λ (x : ℕ). get_or t x 0) q

    here : (m : ℕ) → m < length entry → m ≡ c → word (set named c (get_or named c 0 + 1)) m ≡ word entry m + slot_names t n m (i + 1)
    here m b q =
        let v : ◌≡◌ {A = ℕ} (cond (eqb (child t n (suc i)) m) 1 0) 1 = ap {B = ℕ} (λ (x : Bool). cond x 1 0) (eq-eqb (child t n (suc i)) m (sym is_child ∙ sym q)) in
        let z : word named m ≡ get_or named c 0 = ap (λ (x : ℕ). get_or named x 0) q in
        ap (λ (x : ℕ). word (set named c (get_or named c 0 + 1)) x) q
        ∙ (get_or-set_same named c (get_or named c 0 + 1) 0 (named_inside entry t n used named i c w l e)
        ∙ omega (arith, slot_count t n m i, v, z, w.counts m b))

    there : (m : ℕ) → m < length entry → (m ≡ c → ⊥) → word (set named c (get_or named c 0 + 1)) m ≡ word entry m + slot_names t n m (i + 1)
    there m b q =
        let v : ◌≡◌ {A = ℕ} (cond (eqb (child t n (suc i)) m) 1 0) 0 =
        ap {B = ℕ} (λ (x : Bool). cond x 1 0) (ne_eqb (child t n (suc i)) m (λ z. q (sym (is_child ∙ z)))) in
        get_or-set_other named c m (get_or named c 0 + 1) 0 q ∙ omega (arith, slot_count t n m i, v, w.counts m b)

pub named_finish : (entry t : List ℕ) (n used : ℕ) (named : List ℕ) (i : ℕ) → NamedTo entry t n used named i → used ≤ i
    → NamedMore entry named t n used
named_finish entry t n used named i w h =
    let e : i ≡ used = omega (arith, w.done) in
    record { size = w.size; counts = λ m b. w.counts m b ∙ ap (λ (k : ℕ). word entry m + slot_names t n m k) e }

-- 17 from the counts
pub once_root : (named : List ℕ) → Good ≡ named_fault named 0
unfolding named_once named_fault
once_root named = unless_true _ _ refl

pub once_other : (named : List ℕ) (n : ℕ) → 1 ≤ n → named_once named n ≡ eqb (get_or named n 0) 1
unfolding named_once
once_other named zero h = absurd (omega arith)
once_other named (suc n) h = refl

pub once_passed : (named : List ℕ) (n : ℕ) → 1 ≤ n → get_or named n 0 ≡ 1 → Good ≡ named_fault named n
unfolding named_fault
once_passed named n h e = unless_true _ _ (once_other named n h ∙ eq-eqb (get_or named n 0) 1 e)

pub once_refused : (named : List ℕ) (n : ℕ) → 1 ≤ n → (get_or named n 0 ≡ 1 → ⊥) → Refused (NotOneParent n) ≡ named_fault named n
unfolding named_fault
once_refused named n h e = unless_false _ _ (once_other named n h ∙ ne_eqb (get_or named n 0) 1 e)

-- the walk over the nodes that fills the counts
pub record CountedTo (g t named : List ℕ) (n end : ℕ) : Type 0 where
  pub known : Known g t
  pub end_is : end ≡ nodes t
  pub few : end ≤ most_nodes
  pub done : n ≤ end
  pub names : Names g t n named

pub counted_start : (g t : List ℕ) (end : ℕ) → Known g t → end ≡ nodes t → CountedTo g t (replicate most_nodes 0) 0 end
unfolding count
counted_start g t end k e =
    record {
      known = k;
      end_is = e;
      few = omega (arith, k.few);
      done = omega arith;
      names = record { size = length-replicate {A = ℕ} most_nodes 0; counts = λ m l. get_or-replicate {A = ℕ} most_nodes m 0 0 l };
    }

pub counted_naming : (g t named : List ℕ) (n end used : ℕ) → CountedTo g t named n end → n < end → used ≡ used_slots g t n → used ≤ 7
    → Naming named t n used
counted_naming g t named n end used w h e l =
    record {
      node = omega (arith, w.few);
      there = omega (arith, w.end_is);
      short = l;
      low = λ m.
          ⊎_elim (λ b. omega (arith, w.names.counts m b, count_le (8 * n) (λ k. names_node g t m k)))
          (λ b. omega (arith, get_or-eq_default named 0 {n = m} (omega (arith, w.names.size)))) (below_or_not m most_nodes);
      inside = λ i b.
          let q : child t n (suc i) < nodes t = w.known.inside n (suc i) (omega (arith, w.end_is)) (omega arith) (omega (arith, e)) in
          omega (arith, w.names.size, w.known.few);
    }

pub counted_turn : (g t named : List ℕ) (n end used : ℕ) (next : List ℕ) → CountedTo g t named n end → n < end → used ≡ used_slots g t n → used ≤ 7
    → NamedMore named next t n used → CountedTo g t next (n + 1) end
counted_turn g t named n end used next w h e l v =
    record {
      known = w.known;
      end_is = w.end_is;
      few = w.few;
      done = omega arith;
      names = record {
        size = v.size ∙ w.names.size;
        counts = λ m b.
            let p : 8 * (n + 1) ≡ 8 * n + 8 = omega arith in
            let q : slot_names t n m used ≡ slot_names t n m (used_slots g t n) = ap (slot_names t n m) e in
            omega (
              arith,
              v.counts m (omega (arith, w.names.size)),
              w.names.counts m b,
              ap (λ (k : ℕ). count k (λ k. names_node g t m k)) p,
              count_on (8 * n) 8 (λ k. names_node g t m k),
              node_names g t n m (subst (λ (x : ℕ). x ≤ 7) e l),
              q,
            );
      };
    }

pub counted_finish : (g t named : List ℕ) (n end : ℕ) → CountedTo g t named n end → end ≤ n → Names g t end named
counted_finish g t named n end w h =
    let q : n ≡ end = omega (arith, w.done) in subst (λ (x : ℕ). Names g t x named) q w.names

pub counted_known : (g t named : List ℕ) (n end : ℕ) → CountedTo g t named n end → n < end → known_word g t n ≡ true
counted_known g t named n end w h = w.known.known n (omega (arith, w.end_is))

-- verdicts that are the same one by one are the same in a row
each_alike : (n : ℕ) (f h : ℕ → Verdict) → ((k : ℕ) → k < n → f k ≡ h k) → each n f ≡ each n h
unfolding each
each_alike zero f h e = refl
each_alike (suc n) f h e = ap₂ (λ (v w : Verdict). v then w) (each_alike n f h (λ k l. e k (omega arith))) (e n (omega arith))

once_same : (g t named : List ℕ) (n : ℕ) → n < most_nodes → Names g t (nodes t) named → named_once named n ≡ once_child g t n
unfolding named_once once_child
once_same g t named zero l w = refl
once_same g t named (suc n) l w = ap (λ (x : ℕ). eqb x 1) (w.counts (suc n) l)

-- the counts say what 01 asks at every node
pub names_same : (g t named : List ℕ) → nodes t ≤ most_nodes → Names g t (nodes t) named
    → each (nodes t) (λ n. named_fault named n) ≡ each (nodes t) (λ n. unless (once_child g t n) (NotOneParent n))
unfolding named_fault
names_same g t named few w =
    each_alike (nodes t) (λ n. named_fault named n) (λ n. unless (once_child g t n) (NotOneParent n))
    (λ n l. ap (λ (b : Bool). unless b (NotOneParent n)) (once_same g t named n (omega arith) w))
