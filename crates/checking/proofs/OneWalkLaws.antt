-- One walk up the nodes: what is written down for a node is the symbol that its parent's rule has there, since no slot names it but the parent's, and
-- nothing is written below a node. Assumes nothing.
use Prim.Native.Nat.{ℕ, suc, ◌+◌, ◌*◌, ◌-◌, ◌≤◌, ◌<◌}
use mathlib.Core.Path.{◌≡◌, refl, sym, ◌∙◌, ap, subst, subst⁻¹}
use mathlib.Core.Logic.{◌⊎◌, inl, inr, ⊎_elim}
use mathlib.Core.Bool.{Bool, true, false, cond, not}
use mathlib.Core.List.{List}
use native.Mathlib.Omega.{arith}
use native.Mathlib.Nat.{not-suc-le-zero}
use lib.Dec.{T, ltb, leb, eqb, eqb→eq, ltb→lt, lt→ltb, le→leb, T_not}
use lib.ListN.{length, get_or, set, length-set}
use lib.Seq.{get_or-set_same, get_or-set_other}
use borrow.Author.Tests.{le-ltb, lt-leb, eq-eqb, ne_eqb}
use Rattle.std.specs.Prelude.{Result, Ok, Err, IsErr, MatchResult}
use Rattle.basics.specs.Tests.{◌and◌, all, count}
use Rattle.basics.specs.Lists.{word}
use Rattle.basics.proofs.CountingLaws.{count_up}
use Rattle.basics.proofs.TestLaws.{same_test, same_or_not, below_or_not, below_suc, eq_T, true_T, false_T, chosen, passed_over, and_passed, and_failed, and_intro, and_left, and_right, all_at, all_intro}
use Rattle.grammar.specs.Verdicts.{Good}
use Rattle.grammar.specs.Limits.{most_rules}
use Rattle.access.specs.Offsets.{offsets_for}
use Rattle.grammar.specs.Table.{symbols, rules, nonterminal, length_at, rule_at, right_length, symbol_of}
use Rattle.grammar.specs.Reading.{read_table}
use Rattle.grammar.proofs.AcceptedTable.{accepted}
use Rattle.grammar.proofs.VerdictLaws.{then_first, then_second, then_good, unless_passes, unless_good}
use Rattle.trees.specs.Tree.{terminal_mark, nodes, rule_of, applies_rule, child, used_slots, symbol_at_node}
use Rattle.trees.specs.Checking.{known_word, slot_fits, slots_fit, node_fault}
use Rattle.checking.specs.Walk.{slot_names, unused_word, unused_empty, no_symbol, OnNode, is_new, Writing, Kept, Fresh, Written, Refuses, AtRule, AtTerminal, NodeFits, NodeRead, Unread}
use Rattle.checking.proofs.NodeTestLaws.{starts_there, rule_room, few_rules, known_rule, known_terminal, known_nothing, used_none, symbol_terminal}
use Rattle.checking.proofs.NameLaws.{slot_count}

-- ---- the slots that are not used

pub word_used : (t : List ℕ) (n i used : ℕ) → i ≤ used → 0 ≡ unused_word t n i used
unfolding unused_word
word_used t n i used h = sym (chosen (leb i used) 0 (child t n i) (le→leb i used h))

pub word_unused : (t : List ℕ) (n i used c : ℕ) → c ≡ get_or t (8 * n + i) 0 → used < i → c ≡ unused_word t n i used
unfolding unused_word
word_unused t n i used c e h = e ∙ sym (passed_over (leb i used) 0 (child t n i) (false_T _ (lt-leb i used h)))

-- the sum of the first i slots that are not used
pub record SumTo (t : List ℕ) (n used sum i : ℕ) : Type 0 where
  pub done : i ≤ 7
  pub low : sum ≤ 65535 * i
  pub nothing : sum ≡ 0 → (k : ℕ) → k < i → unused_word t n (suc k) used ≡ 0
  pub back : ((k : ℕ) → k < i → unused_word t n (suc k) used ≡ 0) → sum ≡ 0

module _ (t : List ℕ) (n used : ℕ) where
  pub sum_start : SumTo t n used 0 0
  sum_start = record { done = omega arith; low = omega arith; nothing = λ e k l. absurd (not-suc-le-zero l); back = λ h. refl }

  sum_more : (sum i w : ℕ) → SumTo t n used sum i → i < 7 → w ≡ unused_word t n (i + 1) used → w < 65536 → SumTo t n used (sum + w) (i + 1)
  sum_more sum i w s h e l =
      let q : i + 1 ≡ suc i = omega arith in
      let f : w ≡ unused_word t n (suc i) used = e ∙ ap (λ (k : ℕ). unused_word t n k used) q in
      record {
        done = omega arith;
        low = omega (arith, s.low);
        nothing = λ z k m.
            ⊎_elim (λ b. s.nothing (omega arith) k b) (λ b. ap (λ (j : ℕ). unused_word t n (suc j) used) b ∙ (sym f ∙ omega arith))
            (below_suc k i (omega arith));
        back = λ b. let z : sum ≡ 0 = s.back (λ k m. b k (omega arith)) in omega (arith, f, b i (omega arith));
      }

  -- slot i comes after the slots that are counted so far
  pub sum_turn : (sum i w : ℕ) → SumTo t n used sum (i - 1) → 1 ≤ i → i < 8 → w ≡ unused_word t n i used → w < 65536 → SumTo t n used (sum + w) (i + 1 - 1)
  sum_turn sum i w s b h e l =
      let q : i ≡ i - 1 + 1 = omega arith in
      let r : i - 1 + 1 ≡ i + 1 - 1 = omega arith in
      subst (λ (k : ℕ). SumTo t n used (sum + w) k) r (sum_more sum (i - 1) w s (omega arith) (e ∙ ap (λ (k : ℕ). unused_word t n k used) q) l)

  sum_all : (sum i : ℕ) → SumTo t n used sum i → 7 ≤ i → eqb sum 0 ≡ unused_empty t n used
  unfolding unused_empty
  sum_all sum i s h =
      let q : i ≡ 7 = omega (arith, s.done) in
      same_test (eqb sum 0) (all 7 (λ i. eqb (unused_word t n (suc i) used) 0))
      (λ y.
      all_intro 7 (λ i. eqb (unused_word t n (suc i) used) 0) (λ k l. eq_T (unused_word t n (suc k) used) 0 (s.nothing (eqb→eq sum 0 y) k (omega arith))))
      (λ y.
      eq_T sum 0
      (s.back (λ k l. eqb→eq (unused_word t n (suc k) used) 0 (all_at 7 (λ i. eqb (unused_word t n (suc i) used) 0) y k (omega arith)))))

  pub sum_end : (sum i : ℕ) → SumTo t n used sum (i - 1) → 8 ≤ i → eqb sum 0 ≡ unused_empty t n used
  sum_end sum i s h = sum_all sum (i - 1) s (omega arith)

-- ---- the symbols of the children

module _ (wanted t : List ℕ) (n c : ℕ) where
  low : c ≤ n → false ≡ is_new wanted t n c
  unfolding is_new
  low h = sym (and_failed _ _ (false_T _ (le-ltb n c h)))

  past : n < c → nodes t ≤ c → false ≡ is_new wanted t n c
  unfolding is_new
  past h l = sym (and_passed _ _ (lt→ltb n c h) ∙ and_failed _ _ (false_T _ (le-ltb c (nodes t) l)))

  tested_new : n < c → c < nodes t → eqb (get_or wanted c 0) 255 ≡ is_new wanted t n c
  unfolding is_new
  tested_new h l = sym (and_passed _ _ (lt→ltb n c h) ∙ and_passed _ _ (lt→ltb c (nodes t) l))

  -- as the code joins its tests
  pub new_low : (u : Bool) → c ≤ n → u ≡ ltb n c → u ≡ is_new wanted t n c
  new_low u h e = e ∙ (le-ltb n c h ∙ low h)

  pub new_none : (u : Bool) → c ≤ n → u ≡ ltb n c → u ≡ true → eqb (get_or wanted c 0) 255 ≡ is_new wanted t n c
  new_none u h e f = absurd (T_not (ltb n c) (false_T _ (le-ltb n c h)) (true_T _ (sym e ∙ f)))

  pub new_past : (u : Bool) → n < c → u ≡ ltb c (nodes t) → u ≡ false → u ≡ is_new wanted t n c
  new_past u h e f =
      ⊎_elim (λ l. absurd (T_not (ltb c (nodes t)) (false_T _ (sym e ∙ f)) (lt→ltb c (nodes t) l))) (λ l. f ∙ past h l) (below_or_not c (nodes t))

  pub new_tested : (u : Bool) → n < c → u ≡ ltb c (nodes t) → u ≡ true → eqb (get_or wanted c 0) 255 ≡ is_new wanted t n c
  new_tested u h e f = tested_new h (ltb→lt c (nodes t) (true_T _ (sym e ∙ f)))

  module _ (u : Bool) (e : u ≡ is_new wanted t n c) (f : u ≡ true) where
    new_T : T (ltb n c and ltb c (nodes t) and eqb (word wanted c) no_symbol)
    unfolding is_new
    new_T = true_T _ (sym e ∙ f)

    new_above : n < c
    new_above = ltb→lt n c (and_left (ltb n c) (ltb c (nodes t) and eqb (word wanted c) no_symbol) new_T)

    new_rest : T (ltb c (nodes t) and eqb (word wanted c) no_symbol)
    new_rest = and_right (ltb n c) (ltb c (nodes t) and eqb (word wanted c) no_symbol) new_T

    new_inside : c < nodes t
    new_inside = ltb→lt c (nodes t) (and_left (ltb c (nodes t)) (eqb (word wanted c) no_symbol) new_rest)

    new_free : word wanted c ≡ no_symbol
    new_free = eqb→eq (word wanted c) no_symbol (and_right (ltb c (nodes t)) (eqb (word wanted c) no_symbol) new_rest)

pub record WrittenTo (entry g t : List ℕ) (n p used : ℕ) (now : List ℕ) (i : ℕ) : Type 0 where
  pub writing : Writing entry g t n p used
  pub done : i ≤ used
  pub written : Written entry now g t n p i

nothing_written : (entry g t : List ℕ) (n p : ℕ) → Written entry entry g t n p 0
unfolding slot_names count
nothing_written entry g t n p =
    record {
      size = refl;
      above = λ i l. absurd (not-suc-le-zero l);
      inside = λ i l. absurd (not-suc-le-zero l);
      symbols = λ i l. absurd (not-suc-le-zero l);
      taken = λ i l. absurd (not-suc-le-zero l);
      names = λ m l. inl record { same = refl; unnamed = refl };
      under = λ m l. refl;
    }

module _ (entry g t : List ℕ) (n p used : ℕ) where
  pub write_start : Writing entry g t n p used → WrittenTo entry g t n p used entry 0
  write_start w = record { writing = w; done = omega arith; written = nothing_written entry g t n p }

  module _ (now : List ℕ) (i : ℕ) (w : WrittenTo entry g t n p used now i) where
    pub write_on : OnNode now t n
    write_on =
        record {
          node = w.writing.on.node;
          there = w.writing.on.there;
          few = w.writing.on.few;
          size = w.written.size ∙ w.writing.on.size;
        }

    pub write_place : (c : ℕ) (u : Bool) → u ≡ is_new now t n c → u ≡ true → c < length now
    write_place c u e f = omega (arith, new_inside now t n c u e f, w.writing.on.size, w.writing.on.few, w.written.size)

    pub write_there : i < used → p + 2 + i < length g
    write_there h = omega (arith, w.writing.in_table)

    pub write_fits : i < used → get_or g (p + 2 + i) 0 < no_symbol
    write_fits h = w.writing.low i h

    pub write_end : used ≤ i → Written entry now g t n p used
    write_end h =
        let q : i ≡ used = omega (arith, w.done) in subst (λ (k : ℕ). Written entry now g t n p k) q w.written

    module _ (c y : ℕ) (u : Bool) (h : i < used) (e : c ≡ get_or t (8 * n + i + 1) 0) (new : u ≡ is_new now t n c) (yes : u ≡ true)
        (f : y ≡ get_or g (p + 2 + i) 0) where
      above : n < c
      above = new_above now t n c u new yes

      inside : c < nodes t
      inside = new_inside now t n c u new yes

      free : word now c ≡ 255
      free = new_free now t n c u new yes

      abbrev next : List ℕ
      next = set now c y

      is_child : c ≡ child t n (suc i)
      is_child = let q : 8 * n + i + 1 ≡ 8 * n + suc i = omega arith in e ∙ ap (λ (x : ℕ). get_or t x 0) q

      here : word next c ≡ y
      here = get_or-set_same now c y 0 (write_place c u new yes)

      there : (m : ℕ) → (m ≡ c → ⊥) → word next m ≡ word now m
      there m d = get_or-set_other now c m y 0 d

      -- a slot before this one names another node: something is written for that one
      other : (j : ℕ) → j < i → child t n (suc j) ≡ c → ⊥
      other j l q =
          let s : word now (child t n (suc j)) ≡ word g (p + 2 + j) = w.written.symbols j l in
          omega (arith, s, ap (word now) q, free, w.writing.low j (omega arith))

      one_more : (m : ℕ) → m ≡ c → slot_names t n m (i + 1) ≡ slot_names t n m i + 1
      one_more m q =
          let v : ◌≡◌ {A = ℕ} (cond (eqb (child t n (suc i)) m) 1 0) 1 =
          ap {B = ℕ} (λ (x : Bool). cond x 1 0) (eq-eqb (child t n (suc i)) m (sym is_child ∙ sym q)) in
          omega (arith, slot_count t n m i, v)

      no_more : (m : ℕ) → (m ≡ c → ⊥) → slot_names t n m (i + 1) ≡ slot_names t n m i
      no_more m d =
          let v : ◌≡◌ {A = ℕ} (cond (eqb (child t n (suc i)) m) 1 0) 0 =
          ap {B = ℕ} (λ (x : Bool). cond x 1 0) (ne_eqb (child t n (suc i)) m (λ z. d (sym (is_child ∙ z)))) in
          omega (arith, slot_count t n m i, v)

      named : (m : ℕ) → m < length entry → m ≡ c → Fresh entry next t n (i + 1) m
      named m b q =
          let z : word now m ≡ 255 = ap (word now) q ∙ free in
          let v : word next m ≡ y = ap (word next) q ∙ here in
          ⊎_elim
          (λ a.
          record {
            free = sym a.same ∙ z;
            taken = omega (arith, v, w.writing.low i h);
            once = omega (arith, one_more m q, a.unnamed);
          })
          (λ a. absurd (omega (arith, a.taken, z))) (w.written.names m b)

      unnamed : (m : ℕ) → m < length entry → (m ≡ c → ⊥) → Kept entry next t n (i + 1) m ⊎ Fresh entry next t n (i + 1) m
      unnamed m b d =
          ⊎_elim (λ a. inl record { same = there m d ∙ a.same; unnamed = no_more m d ∙ a.unnamed })
          (λ a. inr record { free = a.free; taken = omega (arith, there m d, a.taken); once = no_more m d ∙ a.once }) (w.written.names m b)

      last : (j : ℕ) → j < i + 1 → (j < i) ⊎ (j ≡ i)
      last j l = below_suc j i (omega arith)

      pub write_turn : WrittenTo entry g t n p used (set now c y) (i + 1)
      write_turn =
          record {
            writing = w.writing;
            done = omega arith;
            written = record {
              size = length-set now c y ∙ w.written.size;
              above = λ j l.
                  ⊎_elim (λ b. w.written.above j b)
                  (λ b. subst (λ (x : ℕ). n < x) (is_child ∙ ap (λ (k : ℕ). child t n (suc k)) (sym b)) above) (last j l);
              inside = λ j l.
                  ⊎_elim (λ b. w.written.inside j b)
                  (λ b. subst (λ (x : ℕ). x < nodes t) (is_child ∙ ap (λ (k : ℕ). child t n (suc k)) (sym b)) inside) (last j l);
              symbols = λ j l.
                  ⊎_elim (λ b. there (child t n (suc j)) (other j b) ∙ w.written.symbols j b)
                  (λ b.
                  ap (λ (k : ℕ). word next (child t n (suc k))) b
                  ∙ (ap (word next) (sym is_child) ∙ (here ∙ (f ∙ ap (λ (k : ℕ). word g (p + 2 + k)) (sym b))))) (last j l);
              taken = λ j l.
                  ⊎_elim (λ b. omega (arith, there (child t n (suc j)) (other j b), w.written.taken j b))
                  (λ b.
                  let v : word next (child t n (suc j)) ≡ y =
                  ap (λ (k : ℕ). word next (child t n (suc k))) b ∙ (ap (word next) (sym is_child) ∙ here) in
                  omega (arith, v, w.writing.low i h)) (last j l);
              names = λ m b. ⊎_elim (λ q. inr (named m b q)) (λ d. unnamed m b d) (same_or_not m c);
              under = λ m l. there m (λ q. omega (arith, above)) ∙ w.written.under m l;
            };
          }

-- ---- where a slot names no new node

-- more slots name a node no less often
slots_up : (t : List ℕ) (n m a b : ℕ) → a ≤ b → slot_names t n m a ≤ slot_names t n m b
unfolding slot_names
slots_up t n m a b h = count_up (λ i. eqb (child t n (suc i)) m) a b h

-- the slot i names its own child
slot_named : (t : List ℕ) (n i : ℕ) → slot_names t n (child t n (suc i)) (i + 1) ≡ slot_names t n (child t n (suc i)) i + 1
slot_named t n i =
    let v : ◌≡◌ {A = ℕ} (cond (eqb (child t n (suc i)) (child t n (suc i))) 1 0) 1 =
    ap {B = ℕ} (λ (x : Bool). cond x 1 0) (eq-eqb (child t n (suc i)) (child t n (suc i)) refl) in
    omega (arith, slot_count t n (child t n (suc i)) i, v)

pub used_names : (t : List ℕ) (n used i : ℕ) → i < used → 1 ≤ slot_names t n (child t n (suc i)) used
used_names t n used i h = omega (arith, slot_named t n i, slots_up t n (child t n (suc i)) (i + 1) used (omega arith))

-- a node above for which something is written is not new
pub new_not : (wanted t : List ℕ) (n c : ℕ) → is_new wanted t n c ≡ false → n < c → c < nodes t → word wanted c ≡ no_symbol → ⊥
new_not wanted t n c e h l z =
    T_not (is_new wanted t n c) (false_T _ e) (subst (λ (b : Bool). T b) (tested_new wanted t n c h l) (eq_T (word wanted c) no_symbol z))

module _ (entry g t : List ℕ) (n p used : ℕ) (now : List ℕ) (i : ℕ) (w : WrittenTo entry g t n p used now i) (h : i < used) where
  taken_why : (c : ℕ) → c ≡ child t n (suc i) → n < c → c < nodes t → (word now c ≡ no_symbol → ⊥)
      → (is_new entry t n (child t n (suc i)) ≡ false) ⊎ (2 ≤ slot_names t n (child t n (suc i)) used)
  taken_why c q a l d =
      ⊎_elim
      (λ k. inl (ap (is_new entry t n) (sym q) ∙ (sym (tested_new entry t n c a l) ∙ ne_eqb (word entry c) no_symbol (λ z. d (k.same ∙ z)))))
      (λ k.
      let o : slot_names t n (child t n (suc i)) i ≡ 1 = subst (λ (x : ℕ). slot_names t n x i ≡ 1) q k.once in
      inr (omega (arith, slot_named t n i, slots_up t n (child t n (suc i)) (i + 1) used (omega arith))))
      (w.written.names c (omega (arith, w.writing.on.size, w.writing.on.few)))

  pub write_refused : (c : ℕ) (u : Bool) → c ≡ get_or t (8 * n + i + 1) 0 → u ≡ is_new now t n c → u ≡ false → Refuses entry t n used
  write_refused c u e new d =
      let r : 8 * n + i + 1 ≡ 8 * n + suc i = omega arith in
      let q : c ≡ child t n (suc i) = e ∙ ap (λ (x : ℕ). get_or t x 0) r in
      record {
        slot = i;
        in_use = h;
        why =
            ⊎_elim
            (λ a.
            ⊎_elim (λ l. taken_why c q a l (new_not now t n c (sym new ∙ d) a l))
            (λ l. inl (ap (is_new entry t n) (sym q) ∙ sym (past entry t n c a l))) (below_or_not c (nodes t)))
            (λ a. inl (ap (is_new entry t n) (sym q) ∙ sym (low entry t n c a))) (below_or_not n c);
      }

-- ---- a node

-- the slots of a node pass where the used ones name nodes above and the others are empty
slots_pass : (g t : List ℕ) (n used : ℕ) → used ≡ used_slots g t n → unused_empty t n used ≡ true → ((i : ℕ) → i < used → n < child t n (suc i))
    → ((i : ℕ) → i < used → child t n (suc i) < nodes t) → T (slots_fit g t n)
unfolding slots_fit slot_fits unused_empty unused_word
slots_pass g t n used e u above inside =
    subst (λ (x : ℕ). T (all 7 (λ i. cond (leb (suc i) x) (ltb n (child t n (suc i)) and ltb (child t n (suc i)) (nodes t)) (eqb (child t n (suc i)) 0)))) e
    (all_intro 7 (λ i. cond (leb (suc i) used) (ltb n (child t n (suc i)) and ltb (child t n (suc i)) (nodes t)) (eqb (child t n (suc i)) 0))
    (λ i l.
    ⊎_elim
    (λ b.
    subst⁻¹ (λ (x : Bool). T x) (chosen (leb (suc i) used) _ _ (le→leb (suc i) used b))
    (and_intro (ltb n (child t n (suc i))) (ltb (child t n (suc i)) (nodes t)) (lt→ltb n (child t n (suc i)) (above i b)) (lt→ltb (child t n (suc i)) (nodes t) (inside i b))))
    (λ b.
    let f : T (not (leb (suc i) used)) = false_T _ (lt-leb (suc i) used (omega arith)) in
    let z : T (eqb (cond (leb (suc i) used) 0 (child t n (suc i))) 0) =
    all_at 7 (λ i. eqb (cond (leb (suc i) used) 0 (child t n (suc i))) 0) (true_T _ u) i l in
    subst⁻¹ (λ (x : Bool). T x) (passed_over (leb (suc i) used) _ _ f) (subst (λ (x : ℕ). T (eqb x 0)) (passed_over (leb (suc i) used) 0 (child t n (suc i)) f) z))
    (below_or_not i used)))

node_passes : (g t : List ℕ) (n : ℕ) → T (known_word g t n) → T (slots_fit g t n) → node_fault g t n ≡ Good
unfolding node_fault
node_passes g t n k s = then_good _ _ (unless_good _ _ k) (unless_good _ _ s)

-- and back
pub node_known : (g t : List ℕ) (n : ℕ) → node_fault g t n ≡ Good → T (known_word g t n)
unfolding node_fault
node_known g t n e = unless_passes _ _ (then_first _ _ e)

pub node_slots : (g t : List ℕ) (n : ℕ) → node_fault g t n ≡ Good → T (slots_fit g t n)
unfolding node_fault
node_slots g t n e = unless_passes _ _ (then_second _ _ e)

module _ (g t : List ℕ) (n used : ℕ) (e : used ≡ used_slots g t n) (s : T (slots_fit g t n)) where
  slot_fits_law : (i : ℕ) → i < 7 → T (cond (leb (suc i) used) (ltb n (child t n (suc i)) and ltb (child t n (suc i)) (nodes t)) (eqb (child t n (suc i)) 0))
  unfolding slots_fit slot_fits
  slot_fits_law i l =
      subst⁻¹ (λ (x : ℕ). T (cond (leb (suc i) x) (ltb n (child t n (suc i)) and ltb (child t n (suc i)) (nodes t)) (eqb (child t n (suc i)) 0))) e
      (all_at 7 (λ i. slot_fits g t n (suc i)) s i l)

  pub slot_both : (i : ℕ) → i < 7 → i < used → (n < child t n (suc i)) × (child t n (suc i) < nodes t)
  slot_both i l h =
      let b = subst (λ (x : Bool). T x) (chosen (leb (suc i) used) _ _ (le→leb (suc i) used h)) (slot_fits_law i l) in (
        ltb→lt n (child t n (suc i)) (and_left (ltb n (child t n (suc i))) (ltb (child t n (suc i)) (nodes t)) b),
        ltb→lt (child t n (suc i)) (nodes t) (and_right (ltb n (child t n (suc i))) (ltb (child t n (suc i)) (nodes t)) b),
      )

  slots_empty : T (unused_empty t n used)
  unfolding unused_empty unused_word
  slots_empty =
      all_intro 7 (λ i. eqb (cond (leb (suc i) used) 0 (child t n (suc i))) 0)
      (λ i l.
      ⊎_elim (λ h. eq_T (cond (leb (suc i) used) 0 (child t n (suc i))) 0 (chosen (leb (suc i) used) 0 (child t n (suc i)) (le→leb (suc i) used h)))
      (λ h.
      let f : T (not (leb (suc i) used)) = false_T _ (lt-leb (suc i) used (omega arith)) in
      subst⁻¹ (λ (x : ℕ). T (eqb x 0)) (passed_over (leb (suc i) used) 0 (child t n (suc i)) f)
      (subst (λ (x : Bool). T x) (passed_over (leb (suc i) used) _ _ f) (slot_fits_law i l))) (below_or_not i used))

-- a node with a slot that should be empty and is not
not_empty : (g t : List ℕ) (n used : ℕ) (u : Bool) → used ≡ used_slots g t n → u ≡ unused_empty t n used → u ≡ false → node_fault g t n ≡ Good → ⊥
not_empty g t n used u e f i y =
    T_not (unused_empty t n used) (false_T _ (sym f ∙ i)) (slots_empty g t n used e (node_slots g t n y))

-- a node whose first word is unknown
not_known : (g t : List ℕ) (n : ℕ) → false ≡ known_word g t n → node_fault g t n ≡ Good → ⊥
not_known g t n e y = T_not (known_word g t n) (false_T _ (sym e)) (node_known g t n y)

-- a symbol of an accepted grammar is none that stands for no symbol
pub small_symbol : (g : List ℕ) (x : ℕ) → read_table g ≡ Good → x < symbols g → x < no_symbol
small_symbol g x good h = omega (arith, (accepted g good).symbols_fit)

module _ (before g t : List ℕ) (n p : ℕ) (w : AtRule before g t n p) where
  pub left_there : p < length g
  left_there = omega (arith, w.rule, rule_room g w.good (rule_of t n) w.below)

  pub length_there : p + 1 < length g
  length_there = omega (arith, w.rule, rule_room g w.good (rule_of t n) w.below)

  module _ (used : ℕ) (e : used ≡ length_at g p) where
    length_is : used ≡ right_length g (rule_of t n)
    unfolding right_length
    length_is = e ∙ ap (length_at g) w.rule

    used_is : used ≡ used_slots g t n
    unfolding used_slots
    used_is = length_is ∙ sym (chosen (applies_rule t n) (right_length g (rule_of t n)) 0 (lt→ltb (rule_of t n) terminal_mark w.applies))

    short : used ≤ 7
    short = omega (arith, length_is, ((accepted g w.good).rule (rule_of t n) w.below).length_fits)

    pub writes : Writing before g t n p used
    unfolding symbol_of
    writes =
        record {
          on = w.on;
          short = short;
          in_table = omega (arith, w.rule, e ∙ ap (length_at g) w.rule, rule_room g w.good (rule_of t n) w.below);
          low = λ i l.
              let s : word g (rule_at g (rule_of t n) + 2 + i) < symbols g =
              ((accepted g w.good).rule (rule_of t n) w.below).symbols_fit (suc i) (omega (arith, length_is)) in
              small_symbol g (word g (p + 2 + i)) w.good (subst⁻¹ (λ (q : ℕ). word g (q + 2 + i) < symbols g) w.rule s);
        }

    known : T (known_word g t n)
    known =
        subst (λ (b : Bool). T b) (known_rule g t n (rule_of t n) (rules g) refl w.applies refl) (lt→ltb (rule_of t n) (rules g) w.below)

    left_is : word g p ≡ symbol_of g (rule_of t n) 0
    unfolding symbol_of
    left_is = ap (word g) w.rule

    symbol_is_law : word g p ≡ symbol_at_node g t n
    unfolding symbol_at_node
    symbol_is_law = left_is ∙ sym (chosen (applies_rule t n) (symbol_of g (rule_of t n) 0) _ (lt→ltb (rule_of t n) terminal_mark w.applies))

    left_small : word g p < no_symbol
    left_small =
        small_symbol g (word g p) w.good
        (subst⁻¹ (λ (x : ℕ). x < symbols g) left_is (((accepted g w.good).rule (rule_of t n) w.below).symbols_fit 0 (omega arith)))

    pub rule_read : (after : List ℕ) (symbol : ℕ) (u : Bool) → u ≡ unused_empty t n used → u ≡ true → Written before after g t n p used
        → symbol ≡ get_or g p 0 → NodeRead before after g t n symbol
    rule_read after symbol u h i z q =
        record {
          fits = record {
            passes = node_passes g t n known (slots_pass g t n used used_is (sym h ∙ i) z.above z.inside);
            symbol_is = q ∙ symbol_is_law;
            small = omega (arith, left_small);
          };
          short = omega (arith, used_is, short);
          written =
              subst (λ (x : ℕ). Written before after g t n x (used_slots g t n)) w.rule (subst (λ (x : ℕ). Written before after g t n p x) used_is z);
        }

    pub rule_filled : (u : Bool) → u ≡ unused_empty t n used → u ≡ false → Unread before g t n
    rule_filled u h i = inl (not_empty g t n used u used_is h i)

    pub rule_refused : Refuses before t n used → Unread before g t n
    rule_refused r = inr (subst (λ (x : ℕ). Refuses before t n x) used_is r)

pub few_below : (g : List ℕ) (r m : ℕ) → read_table g ≡ Good → m ≡ rules g → r < m → r < most_rules
few_below g r m good e h = few_rules g r good (omega arith)

pub at_rule : (wanted g offsets t : List ℕ) (n r m p : ℕ) → read_table g ≡ Good → offsets ≡ offsets_for g Good → OnNode wanted t n → r ≡ get_or t (8 * n) 0 → r < terminal_mark → m ≡ rules g
    → r < m → p ≡ get_or offsets r 0 → AtRule wanted g t n p
at_rule wanted g offsets t n r m p good placed on e h f l q =
    record {
      good = good;
      on = on;
      applies = subst (λ (x : ℕ). x < terminal_mark) e h;
      below = subst (λ (x : ℕ). x < rules g) e (subst (λ (x : ℕ). r < x) f l);
      rule = q ∙ (starts_there g offsets r good placed (subst (λ (x : ℕ). r < x) f l) ∙ ap (rule_at g) e);
    }

pub at_terminal : (wanted g t : List ℕ) (n r : ℕ) → read_table g ≡ Good → OnNode wanted t n → r ≡ get_or t (8 * n) 0 → terminal_mark ≤ r
    → AtTerminal g t n (r - terminal_mark)
at_terminal wanted g t n r good on e h =
    record {
      good = good;
      node = on.node;
      there = on.there;
      mark = subst (λ (x : ℕ). terminal_mark ≤ x) e h;
      terminal = ap (λ (x : ℕ). x - terminal_mark) e;
    }

pub terminal_fits : (g t : List ℕ) (n x s : ℕ) (u v : Bool) → AtTerminal g t n x → s ≡ symbols g → x < s → u ≡ nonterminal g x → u ≡ false
    → v ≡ unused_empty t n 0 → v ≡ true → NodeFits g t n x
terminal_fits g t n x s u v w e h f i j k =
    let l : rule_of t n - terminal_mark < symbols g = omega (arith, w.terminal) in
    let z : 0 ≡ used_slots g t n = used_none g t n (rule_of t n) refl w.mark in
    record {
      passes =
          node_passes g t n
          (true_T _ (sym (known_terminal g t n (rule_of t n) (symbols g) u refl w.mark refl l (f ∙ ap (nonterminal g) w.terminal)) ∙ ap not i))
          (slots_pass g t n 0 z (sym j ∙ k) (λ i b. absurd (not-suc-le-zero b)) (λ i b. absurd (not-suc-le-zero b)));
      symbol_is = w.terminal ∙ symbol_terminal g t n (rule_of t n) refl w.mark;
      small = small_symbol g x w.good (omega arith);
    }

module _ (g t : List ℕ) (n x s : ℕ) (w : AtTerminal g t n x) (e : s ≡ symbols g) where
  pub terminal_past : s ≤ x → node_fault g t n ≡ Good → ⊥
  terminal_past h =
      not_known g t n (sym (le-ltb (rule_of t n - terminal_mark) (symbols g) (omega (arith, w.terminal))) ∙ known_nothing g t n (rule_of t n) (symbols g) refl w.mark refl (omega (arith, w.terminal)))

  module _ (u : Bool) (h : x < s) (f : u ≡ nonterminal g x) where
    pub terminal_not : u ≡ true → node_fault g t n ≡ Good → ⊥
    terminal_not i =
        not_known g t n
        (sym (ap not i)
        ∙ known_terminal g t n (rule_of t n) (symbols g) u refl w.mark refl (omega (arith, w.terminal)) (f ∙ ap (nonterminal g) w.terminal))

  pub terminal_filled : (v : Bool) → v ≡ unused_empty t n 0 → v ≡ false → node_fault g t n ≡ Good → ⊥
  terminal_filled v f i = not_empty g t n 0 v (used_none g t n (rule_of t n) refl w.mark) f i

pub unread_rule : (before g t : List ℕ) (n r m : ℕ) → r ≡ rule_of t n → r < terminal_mark → m ≡ rules g → m ≤ r → Unread before g t n
unread_rule before g t n r m e h f l = inl (not_known g t n (sym (le-ltb r m l) ∙ known_rule g t n r m e h f))

pub terminal_read : (before g t : List ℕ) (n r s : ℕ) → r ≡ get_or t (8 * n) 0 → terminal_mark ≤ r → NodeFits g t n s → NodeRead before before g t n s
terminal_read before g t n r s e h f =
    let z : 0 ≡ used_slots g t n = used_none g t n r e h in
    record {
      fits = f;
      short = omega arith;
      written = subst (λ (x : ℕ). Written before before g t n (rule_at g (rule_of t n)) x) z (nothing_written before g t n (rule_at g (rule_of t n)));
    }

pub terminal_reads : {E : Type 0} (before g t : List ℕ) (n r : ℕ) (s : Result ℕ E) → r ≡ get_or t (8 * n) 0 → terminal_mark ≤ r
    → MatchResult s (λ x. NodeFits g t n x) (λ e. node_fault g t n ≡ Good → ⊥) → MatchResult s (λ x. NodeRead before before g t n x) (λ e. Unread before g t n)
terminal_reads before g t n r (Ok x) e h f = terminal_read before g t n r x e h f
terminal_reads before g t n r (Err x) e h f = inl f

-- a walk that was not sure of a part is not sure of the whole
pub still_unsure : {A E : Type 0} (r : Result A E) (P : A → Type 0) (Q : Type 0) → IsErr r → Q → MatchResult r P (λ _. Q)
still_unsure (Ok x) P Q e q = absurd (cc)
still_unsure (Err x) P Q e q = q
