-- The sets of a whole rule, as the code builds them: each position has a block of eight bits of its own, empty for a terminal, so the blocks of the
-- positions below i are what the loop has after i turns. Assumes nothing.
use Prim.Native.Nat.{ℕ, ◌+◌, ◌*◌, ◌/◌, ◌%◌, ◌^◌, ◌≤◌, ◌<◌}
use mathlib.Core.Path.{◌≡◌, refl, sym, ◌∙◌, ap, ap₂, subst, subst⁻¹}
use mathlib.Core.Logic.{⊎_elim}
use mathlib.Core.Bool.{Bool, true, false, cond}
use mathlib.Core.List.{List}
use native.Mathlib.Omega.{arith}
use lib.Dec.{T, ltb, leb, T_not}
use lib.Pow.{ones_lt}
use borrow.Author.Tests.{lt-ltb, le-ltb, le-leb, lt-leb}
use lib.ListN.{get_or}
use Rattle.basics.specs.Tests.{◌and◌}
use Rattle.basics.specs.Lists.{word}
use Rattle.basics.proofs.TestLaws.{below_or_not, chosen, true_T}
use Rattle.bits.specs.Bit.{bit, number, hasb, collect, below, union, field, raised}
use Rattle.bits.proofs.ShiftLaws.{field_lt, has_field}
use Rattle.bits.proofs.BitLaws.{bit_above, bit_below, bit_of_zero, bit_has, number_hasb}
use Rattle.bits.proofs.CollectLaws.{collect_lt}
use Rattle.bits.proofs.MemberLaws.{hasb_collect, hasb_below, none_left, no_member}
use Rattle.grammar.specs.Limits.{most_symbols}
use Rattle.grammar.specs.Table.{attributes, nonterminal, length_at}
use Rattle.access.specs.ByPlace.{symbol_from, Shaped}
use Rattle.access.proofs.Blocks.{block_more, collect_rest, below_small}
use Rattle.remaining.specs.RuleSets.{symbol_visits, made_attributes, child_in, children_in, occurrences_from, made_from, Tabled}

bit_of_block : (t : Bool) (n a : ℕ) → bit a (cond t (below n) 0) ≡ number (t and ltb a n)
unfolding ◌and◌
bit_of_block true n a =
    ⊎_elim (λ l. bit_below n a l ∙ sym (ap number (lt-ltb a n l)))
    (λ l. bit_above n a (below n) (ones_lt n) l ∙ sym (ap number (le-ltb a n l))) (below_or_not a n)
bit_of_block false n a = bit_of_zero a

block_small : (t : Bool) (n : ℕ) → n ≤ 8 → cond t (below n) 0 < 256
block_small true n h = below_small n h
block_small false n h = omega arith

pub block_yes : (t u : Bool) (n k r : ℕ) → t ≡ u → t ≡ true → k ≡ n → r ≡ below k → r ≡ cond u (below n) 0
block_yes t u n k r e f h q = q ∙ (ap below h ∙ sym (ap (λ (b : Bool). cond b (below n) 0) (sym e ∙ f)))

pub block_no : (t u : Bool) (n : ℕ) → t ≡ u → t ≡ false → 0 ≡ cond u (below n) 0
block_no t u n e f = sym (ap (λ (b : Bool). cond b (below n) 0) (sym e ∙ f))

module _ (g : List ℕ) (x v : ℕ) where
  pub visits_yes : (t : Bool) (r : ℕ) → t ≡ nonterminal g x → t ≡ true → r ≡ below v → r ≡ symbol_visits g x v
  unfolding symbol_visits
  visits_yes t r e f q = block_yes t (nonterminal g x) v v r e f refl q

  pub visits_no : (t : Bool) → t ≡ nonterminal g x → t ≡ false → 0 ≡ symbol_visits g x v
  unfolding symbol_visits
  visits_no t e f = block_no t (nonterminal g x) v e f

  -- a visit of a nonterminal
  pub in_visits : (n : ℕ) → T (hasb n (symbol_visits g x v)) → T (nonterminal g x) × (n < v)
  unfolding symbol_visits
  in_visits n t = go (nonterminal g x) t
    where
      go : (u : Bool) → T (hasb n (cond u (below v) 0)) → T u × (n < v)
      go true t = (tt, hasb_below v n (below v) (ones_lt v) t)
      go false t = absurd (T_not (hasb n 0) (none_left n) t)

  pub visits_has : (n : ℕ) → T (nonterminal g x) → n < v → T (hasb n (symbol_visits g x v))
  unfolding symbol_visits
  visits_has n t h = subst⁻¹ (λ (y : ℕ). T (hasb n y)) (chosen (nonterminal g x) (below v) 0 t) (true_T _ (bit_has n (below v) (bit_below v n h)))

module _ (g : List ℕ) (x : ℕ) where
  pub made_yes : (t : Bool) (k r : ℕ) → t ≡ nonterminal g x → t ≡ true → k ≡ attributes g x → r ≡ below k → r ≡ made_attributes g x
  unfolding made_attributes
  made_yes t k r e f h q = block_yes t (nonterminal g x) (attributes g x) k r e f h q

  pub made_no : (t : Bool) → t ≡ nonterminal g x → t ≡ false → 0 ≡ made_attributes g x
  unfolding made_attributes
  made_no t e f = block_no t (nonterminal g x) (attributes g x) e f

  pub made_small : (r : ℕ) → attributes g x ≤ 8 → r ≡ made_attributes g x → r < 256
  unfolding made_attributes
  made_small r few e = subst⁻¹ (λ (y : ℕ). y < 256) e (block_small (nonterminal g x) (attributes g x) few)

module _ (g : List ℕ) (p : ℕ) where
  -- the attributes at a position of the rule
  pub few_attributes : (i x : ℕ) → Shaped g p → i ≤ length_at g p → x ≡ symbol_from g p i → attributes g x ≤ 8
  few_attributes i x w h e = subst⁻¹ (λ (y : ℕ). attributes g y ≤ 8) e (w.formed i h).attributes_fit

  made_bit : (i a : ℕ) → i ≤ length_at g p → a < 8 → bit a (made_attributes g (symbol_from g p i)) ≡ number (made_from g p (8 * i + a))
  unfolding made_attributes made_from ◌and◌
  made_bit i a h l =
      let place : (8 * i + a) / 8 ≡ i = omega arith in
      let own : (8 * i + a) % 8 ≡ a = omega arith in
      bit_of_block (nonterminal g (symbol_from g p i)) (attributes g (symbol_from g p i)) a
      ∙ sym (ap number
      (ap₂ (λ (j b : ℕ). leb j (length_at g p) and (nonterminal g (symbol_from g p j) and ltb b (attributes g (symbol_from g p j)))) place own
      ∙ ap (λ (t : Bool). t and (nonterminal g (symbol_from g p i) and ltb a (attributes g (symbol_from g p i)))) (le-leb i (length_at g p) h)))

  made_past : (o : ℕ) → 8 * (length_at g p + 1) ≤ o → made_from g p o ≡ false
  unfolding made_from ◌and◌
  made_past o h =
      ap (λ (t : Bool). t and (nonterminal g (symbol_from g p (o / 8)) and ltb (o % 8) (attributes g (symbol_from g p (o / 8)))))
      (lt-leb (o / 8) (length_at g p) (omega arith))

  pub record Making (end made i : ℕ) : Type 0 where
    pub end_is : end ≡ length_at g p + 1
    pub inside : i ≤ end
    pub shaped : Shaped g p
    pub made_is : made ≡ collect (8 * i) (λ o. made_from g p o)

  pub making_start : (n end : ℕ) → Shaped g p → n ≡ length_at g p → end ≡ n + 1 → Making end 0 0
  unfolding collect
  making_start n end w e f = record { end_is = omega arith; inside = omega arith; shaped = w; made_is = refl }

  -- a block at a position of the rule fits eight bits
  pub making_small : (end made i x : ℕ) → Making end made i → i < end → x ≡ symbol_from g p i → attributes g x ≤ 8
  making_small end made i x w h e = few_attributes i x w.shaped (omega (arith, w.end_is)) e

  pub making_block : (end made i x there : ℕ) → Making end made i → i < end → x ≡ symbol_from g p i → there ≡ made_attributes g x → there < 256
  making_block end made i x there w h e f = made_small g x there (making_small end made i x w h e) f

  pub making_place : (end made i : ℕ) → Making end made i → i < end → 8 * i ≤ 56
  making_place end made i w h = omega (arith, w.end_is, w.shaped.short)

  pub making_turn : (end made i x there part next : ℕ) → Making end made i → i < end → x ≡ symbol_from g p i → there ≡ made_attributes g x
      → part ≡ raised (8 * i) there → next ≡ union part made → Making end next (i + 1)
  unfolding raised
  making_turn end made i x there part next w h e f q n =
      let b : there ≡ made_attributes g (symbol_from g p i) = f ∙ ap (made_attributes g) e in
      record {
        end_is = w.end_is;
        inside = omega arith;
        shaped = w.shaped;
        made_is =
            n
            ∙ (ap₂ union (q ∙ ap (λ (y : ℕ). y * 2 ^ (8 * i)) b) w.made_is
            ∙ block_more (λ o. made_from g p o) i (made_attributes g (symbol_from g p i))
            (made_small g (symbol_from g p i) (made_attributes g (symbol_from g p i)) (w.shaped.formed i (omega (arith, w.end_is))).attributes_fit refl)
            (λ a l. made_bit i a (omega (arith, w.end_is)) l));
      }

  pub making_finish : (end made i : ℕ) → Making end made i → end ≤ i → made ≡ occurrences_from g p
  unfolding occurrences_from
  making_finish end made i w h =
      let e : i ≡ length_at g p + 1 = omega (arith, w.inside, w.end_is) in
      w.made_is
      ∙ (ap (λ (k : ℕ). collect (8 * k) (λ o. made_from g p o)) e
      ∙ sym (collect_rest (8 * (length_at g p + 1)) 64 (λ o. made_from g p o) (omega (arith, w.shaped.short)) made_past))

-- the lowest eight bits of a child's word
module _ (g kept : List ℕ) (p : ℕ) where
  abbrev low_bits : ℕ → ℕ
  low_bits x = field 0 (word kept x)

  child_bit : (i a : ℕ) → i < length_at g p → a < 8 → bit a (low_bits (symbol_from g p (i + 1))) ≡ number (child_in g kept p (8 * (i + 1) + a))
  unfolding child_in ◌and◌
  child_bit i a h l =
      let place : (8 * (i + 1) + a) / 8 ≡ i + 1 = omega arith in
      let own : (8 * (i + 1) + a) % 8 ≡ a = omega arith in
      let same : 0 + a ≡ a = omega arith in
      sym (number_hasb a (low_bits (symbol_from g p (i + 1))))
      ∙ ap number
      (has_field 0 a (word kept (symbol_from g p (i + 1))) l
      ∙ (ap (λ (b : ℕ). hasb b (word kept (symbol_from g p (i + 1)))) same
      ∙ sym
      (ap₂ (λ (j b : ℕ). (leb 1 j and leb j (length_at g p)) and hasb b (word kept (symbol_from g p j))) place own
      ∙ ap₂ (λ (t u : Bool). (t and u) and hasb a (word kept (symbol_from g p (i + 1))))
      (le-leb 1 (i + 1) (omega arith)) (le-leb (i + 1) (length_at g p) (omega arith)))))

  child_past : (b : ℕ) → 8 * (length_at g p + 1) ≤ b → child_in g kept p b ≡ false
  unfolding child_in ◌and◌
  child_past b h =
      ap₂ (λ (t u : Bool). (t and u) and hasb (b % 8) (word kept (symbol_from g p (b / 8))))
      (le-leb 1 (b / 8) (omega arith)) (lt-leb (b / 8) (length_at g p) (omega arith))

  -- the left side is no child
  child_none : (b : ℕ) → b < 8 → child_in g kept p b ≡ false
  unfolding child_in ◌and◌
  child_none b h =
      ap (λ (t : Bool). (t and leb (b / 8) (length_at g p)) and hasb (b % 8) (word kept (symbol_from g p (b / 8))))
      (lt-leb 1 (b / 8) (omega arith))

  pub record Calling (end found i : ℕ) : Type 0 where
    pub end_is : end ≡ length_at g p
    pub inside : i ≤ end
    pub shaped : Shaped g p
    pub tabled : Tabled g p
    pub found_is : found ≡ collect (8 * (i + 1)) (λ b. child_in g kept p b)

  pub calling_start : (end : ℕ) → Shaped g p → Tabled g p → end ≡ length_at g p → Calling end 0 0
  calling_start end w tabled e =
      record {
        end_is = e;
        inside = omega arith;
        shaped = w;
        tabled = tabled;
        found_is =
            sym (no_member (collect 8 (λ b. child_in g kept p b))
            (λ b t.
            let h : b < 8 = hasb_below 8 b (collect 8 (λ b. child_in g kept p b)) (collect_lt 8 _) t in
            subst (λ (x : Bool). T x) (hasb_collect 8 b _ h ∙ child_none b h) t));
      }

  -- the child's word is one of the table
  pub calling_low : (end found i x : ℕ) → Calling end found i → i < end → x ≡ symbol_from g p (i + 1) → x < most_symbols
  calling_low end found i x w h e = omega (arith, e, w.tabled (i + 1) (omega (arith, w.end_is)))

  pub calling_block : (x there : ℕ) → there ≡ field 0 (get_or kept x 0) → there < 256
  calling_block x there f = subst⁻¹ (λ (y : ℕ). y < 256) f (field_lt 0 (word kept x))

  pub calling_place : (end found i : ℕ) → Calling end found i → i < end → 8 * (i + 1) ≤ 56
  calling_place end found i w h = omega (arith, w.end_is, w.shaped.short)

  pub calling_turn : (end found i x there part next : ℕ) → Calling end found i → i < end → x ≡ symbol_from g p (i + 1)
      → there ≡ field 0 (get_or kept x 0) → part ≡ raised (8 * (i + 1)) there → next ≡ union part found → Calling end next (i + 1)
  unfolding raised
  calling_turn end found i x there part next w h e f q n =
      let b : there ≡ low_bits (symbol_from g p (i + 1)) = f ∙ ap (λ (y : ℕ). low_bits y) e in
      record {
        end_is = w.end_is;
        inside = omega arith;
        shaped = w.shaped;
        tabled = w.tabled;
        found_is =
            n
            ∙ (ap₂ union (q ∙ ap (λ (y : ℕ). y * 2 ^ (8 * (i + 1))) b) w.found_is
            ∙ block_more (λ b. child_in g kept p b) (i + 1) (low_bits (symbol_from g p (i + 1)))
            (field_lt 0 (word kept (symbol_from g p (i + 1)))) (λ a l. child_bit i a (omega (arith, w.end_is)) l));
      }

  pub calling_finish : (end found i : ℕ) → Calling end found i → end ≤ i → found ≡ children_in g kept p
  unfolding children_in
  calling_finish end found i w h =
      let e : i ≡ length_at g p = omega (arith, w.inside, w.end_is) in
      w.found_is
      ∙ (ap (λ (k : ℕ). collect (8 * (k + 1)) (λ b. child_in g kept p b)) e
      ∙ sym (collect_rest (8 * (length_at g p + 1)) 64 (λ b. child_in g kept p b) (omega (arith, w.shaped.short)) child_past))
