-- One symbol, set after set: after k sets the words hold the set numbers with sets 1 to k placed, and the unplaced attributes are the
-- bits that are left. What a set takes by its bits is what the definition takes. Assumes nothing.
use Prim.Native.Nat.{ℕ, suc, ◌+◌, ◌*◌, ◌-◌, ◌%◌, ◌^◌, ◌≤◌, ◌<◌}
use mathlib.Core.Path.{◌≡◌, refl, sym, ◌∙◌, ap, subst, subst⁻¹}
use mathlib.Core.Logic.{◌⊎◌, inl, inr, ⊎_elim}
use mathlib.Core.Bool.{Bool, cond, not}
use mathlib.Core.List.{List}
use native.Mathlib.Omega.{arith}
use lib.Dec.{T, eqb, ltb→lt, lt→ltb, eqb→eq, T_not, not_T}
use lib.ListN.{length}
use lib.Pow.{pow_pos, pow_mono}
use Rattle.bits.specs.Bit.{hasb, common, minus, field, below}
use Rattle.bits.proofs.BitLaws.{bit_has, has_bit, bit_below}
use Rattle.bits.proofs.SetLaws.{minus_lt, common_lt}
use Rattle.bits.proofs.CollectLaws.{collect_lt}
use Rattle.bits.proofs.ShiftLaws.{bit_cut, field_lt, has_field}
use Rattle.bits.proofs.MemberLaws.{hasb_collect, hasb_below, hasb_ext, none_left, common_both, both_common, minus_both, both_minus}
use Rattle.basics.specs.Tests.{◌and◌, ◌implies◌, all}
use Rattle.basics.specs.Lists.{word}
use Rattle.basics.proofs.TestLaws.{
  and_intro,
  and_left,
  and_right,
  chosen,
  passed_over,
  tested,
  same_test,
  true_T,
  T_true,
  all_at,
  all_intro,
  implies_use,
  implies_intro,
  eq_T,
  below_or_not,
}
use Rattle.grammar.specs.Limits.{most_attributes}
use Rattle.grammar.specs.Table.{attributes, mask}
use Rattle.relations.specs.Computed.{arc_in}
use Rattle.sets.specs.Paper.{of_class}
use Rattle.sets.specs.Computed.{takes, placed_up_to, unplaced}
use Rattle.sets.proofs.Placing.{one_step, none_at_first}
use Rattle.closing.specs.Rows.{rewritten}
use Rattle.closing.proofs.RewrittenLaws.{rewritten_length, rewritten_outside, rewritten_idle, rewritten_at}
use Rattle.placing.specs.SymbolSets.{stays, taken_from, numbered, class_of}

-- the set of a symbol's attributes
below_forth : (n a : ℕ) → T (hasb a (below n)) → a < n
below_forth n a t = hasb_below n a (below n) (omega (arith, pow_pos n)) t

below_back : (n a : ℕ) → a < n → T (hasb a (below n))
below_back n a h = true_T _ (bit_has a (below n) (bit_below n a h))

module _ (g ids : List ℕ) (x : ℕ) (few : attributes g x ≤ most_attributes) (fits : mask g x < 2 ^ attributes g x) where
  -- the class of set k as a set
  class_forth : (k a : ℕ) → T (hasb a (class_of (below (attributes g x)) (mask g x) k)) → (a < attributes g x) × T (of_class g x k a)
  unfolding class_of of_class
  class_forth k a t =
      ⊎_elim
      (λ odd.
      let u = minus_both a (below (attributes g x)) (mask g x) (subst (λ (s : ℕ). T (hasb a s)) (chosen (eqb (k % 2) 1) _ _ odd) t) in (
        below_forth (attributes g x) a u.0,
        eq_T (k % 2) (cond (hasb a (mask g x)) 0 1) (eqb→eq (k % 2) 1 odd ∙ sym (passed_over (hasb a (mask g x)) 0 1 u.1)),
      ))
      (λ even.
      let u : T (hasb a (mask g x)) = subst (λ (s : ℕ). T (hasb a s)) (passed_over (eqb (k % 2) 1) _ _ even) t in (
        hasb_below (attributes g x) a (mask g x) fits u,
        eq_T (k % 2) (cond (hasb a (mask g x)) 0 1) (is_even k even ∙ sym (chosen (hasb a (mask g x)) 0 1 u)),
      ))
      (tested (eqb (k % 2) 1))
    where
      is_even : (k : ℕ) → T (not (eqb (k % 2) 1)) → k % 2 ≡ 0
      is_even k n = ⊎_elim (λ l. omega arith) (λ l. absurd (T_not (eqb (k % 2) 1) n (eq_T (k % 2) 1 (omega arith)))) (below_or_not (k % 2) 1)

  class_back : (k a : ℕ) → a < attributes g x → T (of_class g x k a) → T (hasb a (class_of (below (attributes g x)) (mask g x) k))
  unfolding class_of of_class
  class_back k a h t =
      let e : k % 2 ≡ cond (hasb a (mask g x)) 0 1 = eqb→eq (k % 2) (cond (hasb a (mask g x)) 0 1) t in
      ⊎_elim
      (λ i.
      subst⁻¹ (λ (s : ℕ). T (hasb a s))
      (passed_over (eqb (k % 2) 1) (minus (below (attributes g x)) (mask g x)) (mask g x)
      (not_T (eqb (k % 2) 1) (λ q. omega (arith, eqb→eq (k % 2) 1 q, e, chosen {A = ℕ} (hasb a (mask g x)) 0 1 i)))) i)
      (λ i.
      subst⁻¹ (λ (s : ℕ). T (hasb a s))
      (chosen (eqb (k % 2) 1) (minus (below (attributes g x)) (mask g x)) (mask g x)
      (eq_T (k % 2) 1 (e ∙ passed_over (hasb a (mask g x)) 0 1 i)))
      (both_minus a (below (attributes g x)) (mask g x) (below_back (attributes g x) a h) i))
      (tested (hasb a (mask g x)))

  -- the bits of the unplaced attributes
  pub record Left (placed : List ℕ) (left : ℕ) : Type 0 where
    pub small : left < 2 ^ 8
    pub forth : (a : ℕ) → T (hasb a left) → (a < attributes g x) × (word placed a ≡ 0)
    pub back : (a : ℕ) → a < attributes g x → word placed a ≡ 0 → T (hasb a left)

  module _ (placed : List ℕ) (left k : ℕ) (w : Left placed left) where
    abbrev class : ℕ
    class = class_of (below (attributes g x)) (mask g x) k

    -- the successors of a stay in the class exactly where the definition says so
    stays_forth : (a : ℕ) → a < 8 → T (stays (word ids x) left (class_of (below (attributes g x)) (mask g x) k) a)
        → T (all (attributes g x) (λ b. (arc_in ids x a b and unplaced placed b) implies of_class g x k b))
    unfolding stays arc_in
    stays_forth a ha t =
        all_intro (attributes g x) (λ b. (arc_in ids x a b and unplaced placed b) implies of_class g x k b)
        (λ b h. implies_intro _ _ (λ u. go b h (and_left _ _ u) (eqb→eq _ _ (and_right _ _ u))))
      where
        past : ℕ
        past = minus (common (field (8 * a) (word ids x)) left) (class_of (below (attributes g x)) (mask g x) k)

        go : (b : ℕ) → b < attributes g x → T (hasb (8 * a + b) (word ids x)) → word placed b ≡ 0 → T (of_class g x k b)
        go b h arc e =
            ⊎_elim (λ c. (class_forth k b c).1)
            (λ c.
            absurd (T_not (hasb b 0) (none_left b)
            (subst (λ (s : ℕ). T (hasb b s))
            (eqb→eq (minus (common (field (8 * a) (word ids x)) left) (class_of (below (attributes g x)) (mask g x) k)) 0 t)
            (both_minus b _ _
            (both_common b (field (8 * a) (word ids x)) left
            (subst⁻¹ (λ (q : Bool). T q) (has_field (8 * a) b (word ids x) (omega (arith, few))) arc) (w.back b h e)) c))))
            (tested (hasb b (class_of (below (attributes g x)) (mask g x) k)))

    stays_back : (a : ℕ) → a < 8 → T (all (attributes g x) (λ b. (arc_in ids x a b and unplaced placed b) implies of_class g x k b))
        → T (stays (word ids x) left (class_of (below (attributes g x)) (mask g x) k) a)
    unfolding stays arc_in
    stays_back a ha t =
        eq_T _ 0
        (hasb_ext 64 (minus (common (field (8 * a) (word ids x)) left) (class_of (below (attributes g x)) (mask g x) k)) 0
        (minus_lt 64 _ _ (common_lt 64 _ left (omega (arith, field_lt (8 * a) (word ids x))))) (omega arith)
        (λ b h.
        same_test (hasb b (minus (common (field (8 * a) (word ids x)) left) (class_of (below (attributes g x)) (mask g x) k))) (hasb b 0)
        (λ u. absurd (never b u)) (λ u. absurd (T_not (hasb b 0) (none_left b) u))))
      where
        never : (b : ℕ) → T (hasb b (minus (common (field (8 * a) (word ids x)) left) (class_of (below (attributes g x)) (mask g x) k))) → ⊥
        never b u =
            let v = minus_both b (common (field (8 * a) (word ids x)) left) (class_of (below (attributes g x)) (mask g x) k) u in
            let c = common_both b (field (8 * a) (word ids x)) left v.0 in
            let l = w.forth b c.1 in
            let arc : T (hasb (8 * a + b) (word ids x)) =
            subst (λ (q : Bool). T q) (has_field (8 * a) b (word ids x) (hasb_below 8 b _ (field_lt (8 * a) (word ids x)) c.0)) c.0 in
            T_not (hasb b (class_of (below (attributes g x)) (mask g x) k)) v.1
            (class_back k b l.0
            (implies_use _ _ (all_at (attributes g x) (λ b. (arc_in ids x a b and unplaced placed b) implies of_class g x k b) t b l.0)
            (and_intro _ _ arc (eq_T _ _ l.1))))

    -- what a set takes by its bits is what the definition takes
    pub taken_exact : (a : ℕ) → a < 8
        → hasb a (taken_from (word ids x) left (class_of (below (attributes g x)) (mask g x) k)) ≡ takes g ids x placed k a
    unfolding taken_from takes
    taken_exact a ha =
        hasb_collect 64 a _ (omega arith)
        ∙ same_test _ _
        (λ t.
        let c = common_both a left (class_of (below (attributes g x)) (mask g x) k) (and_left _ _ t) in
        let l = w.forth a c.0 in
        and_intro _ _ (lt→ltb a (attributes g x) l.0)
        (and_intro _ _ (eq_T _ _ l.1) (and_intro _ _ (class_forth k a c.1).1 (stays_forth a ha (and_right _ _ t)))))
        (λ t.
        let h : a < attributes g x = ltb→lt a (attributes g x) (and_left _ _ t) in
        let t₁ = and_right _ _ t in
        let t₂ = and_right _ _ t₁ in
        and_intro _ _
        (both_common a left (class_of (below (attributes g x)) (mask g x) k) (w.back a h (eqb→eq _ _ (and_left _ _ t₁)))
        (class_back k a h (and_left _ _ t₂)))
        (stays_back a ha (and_right _ _ t₂)))

-- After k sets: the words of the symbol, which stand from word `at` on, and the bits that are left.
pub record PlacedTo (g ids : List ℕ) (x : ℕ) (entry : List ℕ) (at k : ℕ) (sets : List ℕ) (left : ℕ) : Type 0 where
  pub few : attributes g x ≤ most_attributes
  pub fits : mask g x < 2 ^ attributes g x
  pub room : at + 8 ≤ length entry
  pub size : length sets ≡ length entry
  pub words : (a : ℕ) → a < 8 → word sets (at + a) ≡ word (placed_up_to g ids x k) a
  pub others : (j : ℕ) → (j < at) ⊎ (at + 8 ≤ j) → word sets j ≡ word entry j
  pub left_is : Left g ids x few fits (placed_up_to g ids x k) left

-- the words where a set's number is written, and the others
numbered_word : (sets : List ℕ) (at taken k a : ℕ) → at + 8 ≤ length sets → a < 8 → taken < 2 ^ 8
    → word (numbered sets at taken k) (at + a) ≡ cond (hasb a taken) k (word sets (at + a))
unfolding numbered
numbered_word sets at taken k a h l f =
    ⊎_elim (λ t. rewritten_at sets at taken (λ i. k) a (omega arith) (omega arith) t ∙ sym (chosen (hasb a taken) _ _ t))
    (λ t. rewritten_idle sets at taken (λ i. k) a t ∙ sym (passed_over (hasb a taken) _ _ t)) (tested (hasb a taken))

numbered_other : (sets : List ℕ) (at taken k j : ℕ) → taken < 2 ^ 8 → (j < at) ⊎ (at + 8 ≤ j) → word (numbered sets at taken k) j ≡ word sets j
unfolding numbered
numbered_other sets at taken k j f (inl l) = rewritten_outside sets at taken (λ i. k) j (inl l)
numbered_other sets at taken k j f (inr l) =
    let there : at + (j - at) ≡ j = omega arith in
    subst (λ (i : ℕ). word (rewritten sets at taken (λ a. k)) i ≡ word sets i) there
    (rewritten_idle sets at taken (λ i. k) (j - at) (not_T (hasb (j - at) taken) (λ t. omega (arith, hasb_below 8 (j - at) taken f t))))

pub length_numbered : (sets : List ℕ) (at taken k : ℕ) → length (numbered sets at taken k) ≡ length sets
unfolding numbered
length_numbered sets at taken k = rewritten_length sets at taken (λ a. k)

-- what a set takes is below 256
pub taken_lt : (arcs left class : ℕ) → left < 2 ^ 8 → taken_from arcs left class < 2 ^ 8
unfolding taken_from
taken_lt arcs left class h =
    below_all (taken_from arcs left class) (collect_lt 64 _)
    (λ a l t. hasb_below 8 a left h (common_both a left class (and_left _ _ (subst (λ (b : Bool). T b) (hasb_collect 64 a _ l) t))).0)
  where
    below_all : (s : ℕ) → s < 2 ^ 64 → ((a : ℕ) → a < 64 → T (hasb a s) → a < 8) → s < 2 ^ 8
    below_all s f w =
        subst⁻¹ (λ (n : ℕ). n < 2 ^ 8)
        (hasb_ext 64 s (s % 2 ^ 8) f (omega arith)
        (λ a l.
        same_test (hasb a s) (hasb a (s % 2 ^ 8))
        (λ t. true_T _ (bit_has a (s % 2 ^ 8) (bit_cut 8 a s (w a l t) ∙ has_bit a s (T_true _ t))))
        (λ t. true_T _ (bit_has a s (sym (bit_cut 8 a s (hasb_below 8 a (s % 2 ^ 8) (omega arith) t)) ∙ has_bit a (s % 2 ^ 8) (T_true _ t)))))) (omega arith)

pub placing_start : (g ids : List ℕ) (x : ℕ) (sets : List ℕ) (at left : ℕ) → attributes g x ≤ most_attributes → mask g x < 2 ^ attributes g x
    → at + 8 ≤ length sets → ((a : ℕ) → a < 8 → word sets (at + a) ≡ 0) → left ≡ below (attributes g x) → PlacedTo g ids x sets at 0 sets left
placing_start g ids x sets at left few fits h z e =
    record {
      few = few;
      fits = fits;
      room = h;
      size = refl;
      words = λ a l. z a l ∙ sym (none_at_first g ids x a);
      others = λ j o. refl;
      left_is = record {
        small = subst⁻¹ (λ (n : ℕ). n < 2 ^ 8) e (omega (arith, pow_pos (attributes g x), pow_mono {i = attributes g x} {j = 8} few));
        forth = λ a t. (below_forth (attributes g x) a (subst (λ (n : ℕ). T (hasb a n)) e t), none_at_first g ids x a);
        back = λ a l q. subst⁻¹ (λ (n : ℕ). T (hasb a n)) e (below_back (attributes g x) a l);
      };
    }

module _ (g ids : List ℕ) (x : ℕ) (entry : List ℕ) (at k : ℕ) (sets : List ℕ) (left : ℕ) (w : PlacedTo g ids x entry at k sets left) where
  abbrev the_taken : ℕ
  the_taken = taken_from (word ids x) left (class_of (below (attributes g x)) (mask g x) (suc k))

  the_taken_lt : the_taken < 2 ^ 8
  the_taken_lt = taken_lt (word ids x) left _ w.left_is.small

  next_word : (a : ℕ) → a < 8 → cond (hasb a the_taken) (suc k) (word (placed_up_to g ids x k) a) ≡ word (placed_up_to g ids x (suc k)) a
  next_word a l =
      ap (λ (b : Bool). cond b (suc k) (word (placed_up_to g ids x k) a)) (taken_exact g ids x w.few w.fits (placed_up_to g ids x k) left (suc k) w.left_is a l)
      ∙ sym (one_step g ids x k a l)

  -- one set more
  pub placing_turn : (taken : ℕ) (next : List ℕ) (rest : ℕ) → taken ≡ the_taken → next ≡ numbered sets at taken (suc k) → rest ≡ minus left taken
      → PlacedTo g ids x entry at (suc k) next rest
  placing_turn taken next rest e f h =
      let small : taken < 2 ^ 8 = subst⁻¹ (λ (n : ℕ). n < 2 ^ 8) e the_taken_lt in
      let space : at + 8 ≤ length sets = omega (arith, w.room, w.size) in
      record {
        few = w.few;
        fits = w.fits;
        room = w.room;
        size = ap length f ∙ (length_numbered sets at taken (suc k) ∙ w.size);
        words = λ a l.
            ap (λ (s : List ℕ). word s (at + a)) f
            ∙ (numbered_word sets at taken (suc k) a space l small
            ∙ (ap (λ (n : ℕ). cond (hasb a taken) (suc k) n) (w.words a l)
            ∙ (ap (λ (t : ℕ). cond (hasb a t) (suc k) (word (placed_up_to g ids x k) a)) e ∙ next_word a l)));
        others = λ j o. ap (λ (s : List ℕ). word s j) f ∙ (numbered_other sets at taken (suc k) j small o ∙ w.others j o);
        left_is = record {
          small = subst⁻¹ (λ (n : ℕ). n < 2 ^ 8) h (minus_lt 8 left taken w.left_is.small);
          forth = λ a t. left_forth a (subst (λ (n : ℕ). T (hasb a (minus left n))) e (subst (λ (n : ℕ). T (hasb a n)) h t));
          back = λ a l q. subst⁻¹ (λ (n : ℕ). T (hasb a n)) h (subst⁻¹ (λ (n : ℕ). T (hasb a (minus left n))) e (left_back a l q));
        };
      }
    where
      left_forth : (a : ℕ) → T (hasb a (minus left the_taken)) → (a < attributes g x) × (word (placed_up_to g ids x (suc k)) a ≡ 0)
      left_forth a t =
          let u = minus_both a left the_taken t in
          let l = w.left_is.forth a u.0 in (
            l.0,
            sym (next_word a (omega (arith, w.few, l.0))) ∙ (passed_over (hasb a the_taken) (suc k) (word (placed_up_to g ids x k) a) u.1 ∙ l.1),
          )

      left_back : (a : ℕ) → a < attributes g x → word (placed_up_to g ids x (suc k)) a ≡ 0 → T (hasb a (minus left the_taken))
      left_back a l q =
          let n : cond (hasb a the_taken) (suc k) (word (placed_up_to g ids x k) a) ≡ 0 = next_word a (omega (arith, w.few)) ∙ q in
          ⊎_elim (λ t. absurd (let z : suc k ≡ 0 = sym (chosen (hasb a the_taken) (suc k) (word (placed_up_to g ids x k) a) t) ∙ n in omega arith))
          (λ t. both_minus a left the_taken (w.left_is.back a l (sym (passed_over (hasb a the_taken) (suc k) (word (placed_up_to g ids x k) a) t) ∙ n)) t)
          (tested (hasb a the_taken))
