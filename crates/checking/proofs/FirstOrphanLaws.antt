-- The walk up the nodes that finds the first one without a parent. Once a node is passed nothing is written for it any more, so at the end each node's
-- symbol is the one that its parent wants, or it has no parent. Assumes nothing.
use Prim.Native.Nat.{ℕ, zero, suc, ◌+◌, ◌*◌, ◌-◌, ◌/◌, ◌%◌, ◌≤◌, ◌<◌}
use mathlib.Core.Path.{◌≡◌, refl, sym, ◌∙◌, ap, subst, subst⁻¹}
use mathlib.Core.Logic.{◌⊎◌, inl, inr, ⊎_elim}
use mathlib.Core.Bool.{true, false}
use mathlib.Core.List.{List}
use native.Mathlib.Omega.{arith}
use native.Mathlib.Nat.{not-suc-le-zero}
use lib.Dec.{T, leb, eqb, eqb→eq, leb→le}
use Rattle.std.specs.Prelude.{Option, Some, None, IfSome}
use Rattle.std.specs.Option.{option_or}
use lib.ListN.{get_or, set, length-set, replicate, length-replicate, get_or-replicate}
use lib.Seq.{get_or-set_same, get_or-set_other}
use borrow.Author.Tests.{eq-eqb, ne_eqb}
use Rattle.basics.specs.Tests.{◌and◌, count}
use Rattle.basics.specs.Lists.{word}
use Rattle.basics.proofs.CountingLaws.{count_up, count_find}
use Rattle.basics.proofs.TestLaws.{same_or_not, below_suc, eq_T, true_T, and_left, and_right, all_at, all_intro}
use Rattle.refusals.specs.declared.Refusal.TheVariants.{ChildDiffers, NotOneParent}
use Rattle.grammar.specs.Table.{start, symbol_of}
use Rattle.grammar.specs.Reading.{read_table}
use Rattle.grammar.specs.Verdicts.{Good, unless, each}
use Rattle.grammar.proofs.AcceptedTable.{accepted}
use Rattle.grammar.proofs.VerdictLaws.{unless_passes, unless_good, each_at, each_good}
use Rattle.trees.specs.Tree.{most_nodes, nodes, rule_of, child, used_slots, symbol_at_node}
use Rattle.trees.specs.Checking.{node_fault, root_is_start, children_fit, names_node, once_child}
use Rattle.checking.specs.Walk.{slot_names, no_symbol, Refuses, NodeRead, Unread, place, Nobody, Somebody, Walked, Apart, OneWalk}
use Rattle.checking.proofs.OneWalkLaws.{small_symbol, node_known, node_slots, slot_both, new_not, used_names}
use Rattle.checking.proofs.WholeCheckLaws.{used_seven}
use Rattle.checking.proofs.NameLaws.{count_on, node_names}

pub start_fits_law : (g : List ℕ) (x : ℕ) → read_table g ≡ Good → x ≡ start g → x < 256
start_fits_law g x good e = omega (arith, small_symbol g (start g) good (accepted g good).start_fits)

pub walk_start : (g t : List ℕ) (end x : ℕ) → read_table g ≡ Good → end ≡ nodes t → 1 ≤ end → end ≤ most_nodes → x ≡ start g
    → Walked g t (set (replicate most_nodes 255) 0 x) 0 None end
unfolding count
walk_start g t end x good e some few d =
    let all : List ℕ = replicate most_nodes 255 in
    record {
      good = good;
      end_is = e;
      some = some;
      few = few;
      done = omega arith;
      size = length-set all 0 x ∙ length-replicate {A = ℕ} most_nodes 255;
      root = get_or-set_same all 0 x 0 (omega (arith, length-replicate {A = ℕ} most_nodes 255)) ∙ d;
      passes = λ k l. absurd (not-suc-le-zero l);
      names = λ m h l.
          inl record {
            free = get_or-set_other all 0 m x 0 (λ q. omega arith) ∙ get_or-replicate {A = ℕ} most_nodes m 255 0 l;
            none = refl;
          };
      child_inside = λ k i l. absurd (not-suc-le-zero l);
      symbol = λ k i l. absurd (not-suc-le-zero l);
      taken = λ k i l. absurd (not-suc-le-zero l);
      seen = λ k l. absurd (not-suc-le-zero l);
      before = λ k l. absurd (not-suc-le-zero l);
      orphan_is = tt;
    }

-- how often node m is named, with one node more
counted : (g t : List ℕ) (n m : ℕ) → used_slots g t n ≤ 7
    → count (8 * (n + 1)) (λ k. names_node g t m k) ≡ count (8 * n) (λ k. names_node g t m k) + slot_names t n m (used_slots g t n)
counted g t n m h =
    let p : 8 * (n + 1) ≡ 8 * n + 8 = omega arith in
    omega (
      arith,
      ap (λ (k : ℕ). count k (λ k. names_node g t m k)) p,
      count_on (8 * n) 8 (λ k. names_node g t m k),
      node_names g t n m h,
    )

-- a word of the tree that names node m is a used slot
module _ (g t : List ℕ) (m k : ℕ) (y : T (names_node g t m k)) where
  names_parts : T (leb 1 (k % 8) and leb (k % 8) (used_slots g t (k / 8)) and eqb (word t k) m)
  unfolding names_node
  names_parts = y

  names_rest : T (leb (k % 8) (used_slots g t (k / 8)) and eqb (word t k) m)
  names_rest = and_right (leb 1 (k % 8)) (leb (k % 8) (used_slots g t (k / 8)) and eqb (word t k) m) names_parts

  names_first : 1 ≤ k % 8
  names_first = leb→le 1 (k % 8) (and_left (leb 1 (k % 8)) (leb (k % 8) (used_slots g t (k / 8)) and eqb (word t k) m) names_parts)

  names_last : k % 8 ≤ used_slots g t (k / 8)
  names_last = leb→le (k % 8) (used_slots g t (k / 8)) (and_left (leb (k % 8) (used_slots g t (k / 8))) (eqb (word t k) m) names_rest)

  names_it : child t (k / 8) (suc (k % 8 - 1)) ≡ m
  names_it =
      let q : 8 * (k / 8) + suc (k % 8 - 1) ≡ k = omega (arith, names_first) in
      ap (word t) q ∙ eqb→eq (word t k) m (and_right (leb (k % 8) (used_slots g t (k / 8))) (eqb (word t k) m) names_rest)

-- what the walk says of the nodes up to node n once it has gone past that
pub record Past (g t next : List ℕ) (n : ℕ) (o : Option ℕ) (end : ℕ) : Type 0 where
  pub own : (word next n ≡ symbol_at_node g t n) ⊎ (word next n ≡ no_symbol)
  pub before : (k : ℕ) → k < n + 1 → k < place o end → word next k < no_symbol
  pub orphan_is : IfSome o (λ k. (k < n + 1) × (word next k ≡ no_symbol))

module _ (g t wanted : List ℕ) (n : ℕ) (orphan : Option ℕ) (end : ℕ) (w : Walked g t wanted n orphan end) where
  module _ (next : List ℕ) (symbol : ℕ) (h : n < end) (v : NodeRead wanted next g t n symbol) where
    kept : (k : ℕ) → k < n → word next k ≡ word wanted k
    kept k b = v.written.under k (omega arith)

    -- what is written for a node stays
    stays : (m : ℕ) → m < most_nodes → word wanted m < no_symbol → word next m ≡ word wanted m
    stays m b s =
        ⊎_elim (λ a. a.same) (λ a. absurd (omega (arith, a.free))) (v.written.names m (omega (arith, w.size)))

    name : (m : ℕ) → 1 ≤ m → m < most_nodes → Nobody g t next (n + 1) m ⊎ Somebody g t next (n + 1) m
    name m b c =
        ⊎_elim
        (λ a.
        ⊎_elim (λ x. inl record { free = a.same ∙ x.free; none = omega (arith, counted g t n m v.short, a.unnamed, x.none) })
        (λ x. inr record { taken = omega (arith, a.same, x.taken); once = omega (arith, counted g t n m v.short, a.unnamed, x.once) }) (w.names m b c))
        (λ a.
        ⊎_elim (λ x. inr record { taken = a.taken; once = omega (arith, counted g t n m v.short, a.once, x.none) })
        (λ x. absurd (omega (arith, a.free, x.taken))) (w.names m b c)) (v.written.names m (omega (arith, w.size)))

    up_to : (k : ℕ) → k < n + 1 → (k < n) ⊎ (k ≡ n)
    up_to k b = below_suc k n (omega arith)

    -- a slot of an earlier node, and a slot of this one
    earlier : (k i : ℕ) → k < n → i < used_slots g t k → word next (child t k (suc i)) ≡ word wanted (child t k (suc i))
    earlier k i b c = stays (child t k (suc i)) (omega (arith, w.child_inside k i b c, w.end_is, w.few)) (w.taken k i b c)

    here : (i : ℕ) → i < used_slots g t n → word next (child t n (suc i)) ≡ symbol_of g (rule_of t n) (suc i)
    unfolding symbol_of
    here i c = v.written.symbols i c

    at_this : (k i : ℕ) → k ≡ n → i < used_slots g t k → i < used_slots g t n
    at_this k i q c = subst (λ (x : ℕ). i < used_slots g t x) q c

    -- the node has the symbol that is written down for it
    same_stands : (o : Option ℕ) → IfSome o (λ k. (k < n) × (word wanted k ≡ no_symbol)) → IfSome o (λ k. (k < n + 1) × (word next k ≡ no_symbol))
    same_stands (Some k) z = (omega (arith, z.0), kept k z.0 ∙ z.1)
    same_stands None z = tt

    same_past : word next n ≡ symbol → Past g t next n orphan end
    same_past q =
        record {
          own = inl (q ∙ v.fits.symbol_is);
          before = λ k b c.
              ⊎_elim (λ d. omega (arith, kept k d, w.before k d c))
              (λ z. subst⁻¹ (λ (x : ℕ). word next x < no_symbol) z (omega (arith, v.fits.small))) (up_to k b);
          orphan_is = same_stands orphan w.orphan_is;
        }

    -- none is written down for it, so it is the first node without a parent, unless one was found before it
    none_past : (o : Option ℕ) → ((k : ℕ) → k < n → k < place o end → word wanted k < no_symbol) → IfSome o (λ k. (k < n) × (word wanted k ≡ no_symbol))
        → word next n ≡ no_symbol → Past g t next n (option_or o (Some n)) end
    none_past (Some j) f z q =
        record {
          own = inr q;
          before = λ k b c. ⊎_elim (λ d. omega (arith, kept k d, f k d c)) (λ e. absurd (omega (arith, z.0))) (up_to k b);
          orphan_is = same_stands (Some j) z;
        }
    none_past None f z q =
        record {
          own = inr q;
          before = λ k b c. omega (arith, kept k c, f k c (omega (arith, w.done)));
          orphan_is = (omega arith, q);
        }

    walk_turn : (o : Option ℕ) → Past g t next n o end → Walked g t next (n + 1) o end
    walk_turn o p =
        record {
          good = w.good;
          end_is = w.end_is;
          some = w.some;
          few = w.few;
          done = omega arith;
          size = v.written.size ∙ w.size;
          root = v.written.under 0 (omega arith) ∙ w.root;
          passes = λ k b. ⊎_elim (λ c. w.passes k c) (λ q. ap (node_fault g t) q ∙ v.fits.passes) (up_to k b);
          names = name;
          child_inside = λ k i b c.
              ⊎_elim (λ d. w.child_inside k i d c)
              (λ q. subst⁻¹ (λ (x : ℕ). child t x (suc i) < nodes t) q (v.written.inside i (at_this k i q c))) (up_to k b);
          symbol = λ k i b c.
              ⊎_elim (λ d. earlier k i d c ∙ w.symbol k i d c)
              (λ q. subst⁻¹ (λ (x : ℕ). word next (child t x (suc i)) ≡ symbol_of g (rule_of t x) (suc i)) q (here i (at_this k i q c))) (up_to k b);
          taken = λ k i b c.
              ⊎_elim (λ d. omega (arith, earlier k i d c, w.taken k i d c))
              (λ q. subst⁻¹ (λ (x : ℕ). word next (child t x (suc i)) < no_symbol) q (v.written.taken i (at_this k i q c))) (up_to k b);
          seen = λ k b.
              ⊎_elim (λ c. ⊎_elim (λ x. inl (kept k c ∙ x)) (λ x. inr (kept k c ∙ x)) (w.seen k c))
              (λ q. subst⁻¹ (λ (x : ℕ). (word next x ≡ symbol_at_node g t x) ⊎ (word next x ≡ no_symbol)) q p.own) (up_to k b);
          before = p.before;
          orphan_is = p.orphan_is;
        }

    pub walk_same : (written : ℕ) → written ≡ get_or next n 0 → written ≡ symbol → Walked g t next (n + 1) orphan end
    walk_same written e q = walk_turn orphan (same_past (sym e ∙ q))

    pub walk_none : (written : ℕ) (o : Option ℕ) → written ≡ get_or next n 0 → written ≡ no_symbol → o ≡ option_or orphan (Some n)
        → Walked g t next (n + 1) o end
    walk_none written o e q f =
        subst⁻¹ (λ (x : Option ℕ). Walked g t next (n + 1) x end) f
        (walk_turn (option_or orphan (Some n)) (none_past orphan w.before w.orphan_is (sym e ∙ q)))

  -- ---- where the walk is not sure, the tree is not one that it can answer for
  module _ (h : n < end) (a : Apart g t) where
    passed : node_fault g t n ≡ Good
    passed = each_at (nodes t) (λ n. node_fault g t n) a.passes n (omega (arith, w.end_is))

    seven : used_slots g t n ≤ 7
    seven = used_seven g t n w.good (node_known g t n passed)

    few_names : (m : ℕ) → 1 ≤ m → m < nodes t → count (8 * n) (λ k. names_node g t m k) + slot_names t n m (used_slots g t n) ≤ 1
    few_names m b c =
        omega (arith, counted g t n m seven, count_up (λ k. names_node g t m k) (8 * (n + 1)) (8 * nodes t) (omega (arith, w.end_is)), a.once m b c)

    not_refused : Refuses wanted t n (used_slots g t n) → ⊥
    not_refused r =
        let both = slot_both g t n (used_slots g t n) refl (node_slots g t n passed) r.slot (omega (arith, seven, r.in_use)) r.in_use in
        let few = few_names (child t n (suc r.slot)) (omega (arith, both.0)) both.1 in
        ⊎_elim
        (λ e.
        ⊎_elim (λ x. new_not wanted t n (child t n (suc r.slot)) e both.0 both.1 x.free)
        (λ x. omega (arith, few, x.once, used_names t n (used_slots g t n) r.slot r.in_use))
        (w.names (child t n (suc r.slot)) (omega (arith, both.0)) (omega (arith, both.1, w.end_is, w.few)))) (λ e. omega (arith, few)) r.why

    pub not_unread : Unread wanted g t n → ⊥
    not_unread (inl d) = d passed
    not_unread (inr r) = not_refused r

    root_is : symbol_at_node g t 0 ≡ start g
    unfolding root_is_start
    root_is = eqb→eq (symbol_at_node g t 0) (start g) (true_T _ a.root)

    child_is : (k i : ℕ) → k < n → i < used_slots g t k → symbol_at_node g t (child t k (suc i)) ≡ symbol_of g (rule_of t k) (suc i)
    unfolding children_fit
    child_is k i b c =
        eqb→eq (symbol_at_node g t (child t k (suc i))) (symbol_of g (rule_of t k) (suc i))
        (all_at (used_slots g t k) (λ i. eqb (symbol_at_node g t (child t k (suc i))) (symbol_of g (rule_of t k) (suc i)))
        (unless_passes _ _
        (each_at (nodes t) (λ n. unless (children_fit g t n) (ChildDiffers n)) a.children k (omega (arith, w.end_is)))) i c)

    -- what is written down is the symbol, since the parent's children fit
    by_parent : count (8 * n) (λ k. names_node g t n k) ≡ 1 → word wanted n ≡ symbol_at_node g t n
    by_parent e =
        let f = count_find (λ k. names_node g t n k) (8 * n) (omega (arith, e)) in
        let k = f.0 in
        let l : k / 8 < n = omega (arith, f.1) in
        let u : k % 8 - 1 < used_slots g t (k / 8) = omega (arith, names_first g t n k f.2, names_last g t n k f.2) in
        let q : child t (k / 8) (suc (k % 8 - 1)) ≡ n = names_it g t n k f.2 in
        ap (word wanted) (sym q)
        ∙ (w.symbol (k / 8) (k % 8 - 1) l u ∙ (sym (child_is (k / 8) (k % 8 - 1) l u) ∙ ap (symbol_at_node g t) q))

    well_written : (word wanted n ≡ no_symbol → ⊥) → word wanted n ≡ symbol_at_node g t n
    well_written d =
        ⊎_elim (λ q. ap (word wanted) q ∙ (w.root ∙ (sym root_is ∙ ap (symbol_at_node g t) (sym q))))
        (λ q.
        ⊎_elim (λ x. absurd (d x.free)) (λ x. by_parent x.once) (w.names n (omega arith) (omega (arith, w.few))))
        (same_or_not n 0)

  pub past_differs : (next : List ℕ) (symbol written : ℕ) → n < end → NodeRead wanted next g t n symbol → written ≡ get_or next n 0
      → (written ≡ symbol → ⊥) → (written ≡ no_symbol → ⊥) → Apart g t → ⊥
  past_differs next symbol written h v e q z a =
      let own : written ≡ word wanted n = e ∙ v.written.under n (omega arith) in
      q (own ∙ (well_written h a (λ i. z (own ∙ i)) ∙ sym v.fits.symbol_is))

-- ---- its end

module _ (g t wanted : List ℕ) (n : ℕ) (orphan : Option ℕ) (end : ℕ) (w : Walked g t wanted n orphan end) (h : end ≤ n) where
  is_end : n ≡ nodes t
  is_end = omega (arith, w.done, w.end_is)

  root_taken : word wanted 0 < no_symbol
  root_taken = omega (arith, w.root, small_symbol g (start g) w.good (accepted g w.good).start_fits)

  root_fits : root_is_start g t ≡ true
  unfolding root_is_start
  root_fits =
      eq-eqb (symbol_at_node g t 0) (start g)
      (⊎_elim (λ q. sym q ∙ w.root) (λ q. absurd (omega (arith, root_taken))) (w.seen 0 (omega (arith, w.some))))

  children_fit_law : (k : ℕ) → k < nodes t → T (children_fit g t k)
  unfolding children_fit
  children_fit_law k b =
      all_intro (used_slots g t k) (λ i. eqb (symbol_at_node g t (child t k (suc i))) (symbol_of g (rule_of t k) (suc i)))
      (λ i c.
      let l : k < n = omega (arith, is_end) in
      eq_T (symbol_at_node g t (child t k (suc i))) (symbol_of g (rule_of t k) (suc i))
      (⊎_elim (λ q. sym q ∙ w.symbol k i l c) (λ q. absurd (omega (arith, w.taken k i l c)))
      (w.seen (child t k (suc i)) (omega (arith, w.child_inside k i l c, is_end)))))

  counts : (m : ℕ) → count (8 * n) (λ k. names_node g t m k) ≡ count (8 * nodes t) (λ k. names_node g t m k)
  counts m = ap (λ (x : ℕ). count (8 * x) (λ k. names_node g t m k)) is_end

  inside : (o : Option ℕ) → IfSome o (λ k. (k < n) × (word wanted k ≡ no_symbol)) → place o end ≤ end
  inside (Some k) z = omega (arith, z.0, w.done)
  inside None z = omega arith

  has_parent : (k : ℕ) → k < place orphan end → T (once_child g t k)
  unfolding once_child
  has_parent zero b = tt
  has_parent (suc k) b =
      ⊎_elim (λ x. absurd (omega (arith, x.free, w.before (suc k) (omega (arith, inside orphan w.orphan_is)) b)))
      (λ x. eq_T (count (8 * nodes t) (λ j. names_node g t (suc k) j)) 1 (sym (counts (suc k)) ∙ x.once))
      (w.names (suc k) (omega arith) (omega (arith, inside orphan w.orphan_is, w.few)))

  no_parent : (k : ℕ) → k < nodes t → word wanted k ≡ no_symbol → once_child g t k ≡ false
  unfolding once_child
  no_parent zero b z = absurd (omega (arith, root_taken))
  no_parent (suc k) b z =
      ⊎_elim (λ x. ne_eqb (count (8 * nodes t) (λ j. names_node g t (suc k) j)) 1 (λ q. omega (arith, counts (suc k), x.none)))
      (λ x. absurd (omega (arith, x.taken))) (w.names (suc k) (omega arith) (omega (arith, w.end_is, w.few)))

  few_times : (m : ℕ) → 1 ≤ m → m < nodes t → count (8 * nodes t) (λ k. names_node g t m k) ≤ 1
  few_times m b c =
      ⊎_elim (λ x. omega (arith, counts m, x.none)) (λ x. omega (arith, counts m, x.once)) (w.names m b (omega (arith, w.end_is, w.few)))

  lost : (o : Option ℕ) → IfSome o (λ k. (k < n) × (word wanted k ≡ no_symbol)) → IfSome o (λ k. (k < nodes t) × (once_child g t k ≡ false))
  lost (Some k) z = let b : k < nodes t = omega (arith, is_end, z.0) in (b, no_parent k b z.1)
  lost None z = tt

  pub walk_end : OneWalk g t orphan
  walk_end =
      record {
        apart = record {
          passes = each_good (nodes t) (λ n. node_fault g t n) (λ k b. w.passes k (omega (arith, is_end)));
          root = root_fits;
          children = each_good (nodes t) (λ n. unless (children_fit g t n) (ChildDiffers n)) (λ k b. unless_good _ _ (children_fit_law k b));
          once = few_times;
        };
        parents =
            subst (λ (e : ℕ). each (place orphan e) (λ n. unless (once_child g t n) (NotOneParent n)) ≡ Good) w.end_is
            (each_good (place orphan end) (λ n. unless (once_child g t n) (NotOneParent n)) (λ k b. unless_good _ _ (has_parent k b)));
        lost = lost orphan w.orphan_is;
      }
