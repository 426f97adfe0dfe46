-- The visits that are ready, as the code finds them: of the next visits of all children those are taken out at whose child something is lacking,
-- child by child. Assumes nothing.
use Prim.Native.Nat.{ℕ, ◌*◌, ◌/◌, ◌%◌, ◌^◌, ◌<◌}
use mathlib.Core.Path.{◌≡◌, sym, ◌∙◌, ap, subst, subst⁻¹}
use mathlib.Core.Logic.{⊎_elim}
use mathlib.Core.Bool.{Bool, not}
use native.Mathlib.Omega.{arith}
use native.Mathlib.Nat.{mod-lt}
use mir.Syntax.{w64}
use mir.Val.{Fits}
use lib.Dec.{T, eqb, eqb→eq, leb→le, le→leb, T_not, not_T}
use lib.Pow.{pow_pos}
use Rattle.basics.proofs.TestLaws.{and_intro, and_left, and_right, tested, same_test, below_or_not, eq_T}
use Rattle.bits.specs.Bit.{bit, hasb, common, minus, raised, First}
use Rattle.bits.proofs.CollectLaws.{collect_lt}
use Rattle.bits.proofs.ShiftLaws.{bit_cut, bit_up, bit_up_low}
use Rattle.bits.proofs.SetLaws.{minus_lt}
use Rattle.bits.proofs.MemberLaws.{hasb_collect, hasb_ext, none_left, no_member, common_both, both_common, minus_both, both_minus}
use Rattle.remaining.specs.RuleSets.{one_up, visit_ready, ready_visits}
use Rattle.remaining.proofs.MaskLaws.{in_child, child_in}
use Rattle.remaining.proofs.MemberWalks.{first_member}

-- shifted up by one place, a set has its members one up
pub one_up_law : (s : ℕ) → s * 2 ^ 1 % 2 ^ 64 ≡ one_up s
unfolding one_up
one_up_law s =
    hasb_ext 64 (s * 2 ^ 1 % 2 ^ 64) (one_up s) (mod-lt (s * 2 ^ 1) (pow_pos 64)) (collect_lt 64 _)
    (λ k h.
    ap (λ (n : ℕ). eqb n 1) (bit_cut 64 k (s * 2 ^ 1) h)
    ∙ (same_test (hasb k (s * 2 ^ 1)) _
    (λ t.
    ⊎_elim (λ l. absurd (omega (arith, bit_up_low 1 k s l, eqb→eq (bit k (s * 2 ^ 1)) 1 t)))
    (λ l. and_intro _ _ (le→leb 1 k l) (subst (λ (b : Bool). T b) (ap (λ (n : ℕ). eqb n 1) (bit_up 1 k s l)) t)) (below_or_not k 1))
    (λ t. subst⁻¹ (λ (b : Bool). T b) (ap (λ (n : ℕ). eqb n 1) (bit_up 1 k s (leb→le 1 k (and_left _ _ t)))) (and_right _ _ t))
    ∙ sym (hasb_collect 64 k _ h)))

module _ (visits₀ lacking : ℕ) where
  -- nothing is lacking at the children of those that seem ready but for what is left, and nothing else was taken out
  pub record Clearing (ready left : ℕ) : Type 0 where
    pub small : ready < 2 ^ 64
    pub left_lacks : (o : ℕ) → T (hasb o left) → T (hasb o lacking)
    pub next : (b : ℕ) → T (hasb b ready) → T (hasb b (minus visits₀ (one_up visits₀)))
    pub free : (b o : ℕ) → T (hasb b ready) → T (hasb o lacking) → T (not (hasb o left)) → o / 8 ≡ b / 8 → ⊥
    pub all : (b : ℕ) → T (hasb b (minus visits₀ (one_up visits₀))) → ((o : ℕ) → T (hasb o lacking) → o / 8 ≡ b / 8 → ⊥) → T (hasb b ready)

  pub clearing_start : (up ready left : ℕ) → Fits w64 visits₀ → up ≡ one_up visits₀ → ready ≡ minus visits₀ up → left ≡ lacking → Clearing ready left
  clearing_start up ready left h e f k =
      subst⁻¹ (λ (y : ℕ). Clearing ready y) k
      (subst⁻¹ (λ (x : ℕ). Clearing x lacking) (f ∙ ap (minus visits₀) e)
      (record {
        small = minus_lt 64 visits₀ (one_up visits₀) h.fits;
        left_lacks = λ o t. t;
        next = λ b t. t;
        free = λ b o t u n q. T_not (hasb o lacking) n u;
        all = λ b t f. t;
      }))

  -- the child of the lowest that is left is done
  cleared : (ready left o : ℕ) → Clearing ready left → First left o
      → Clearing (minus ready (raised (8 * (o / 8)) 255)) (minus left (raised (8 * (o / 8)) 255))
  cleared ready left o w f =
      record {
        small = minus_lt 64 ready (raised (8 * (o / 8)) 255) w.small;
        left_lacks = λ k t. w.left_lacks k (minus_both k left (raised (8 * (o / 8)) 255) t).0;
        next = λ b t. w.next b (minus_both b ready (raised (8 * (o / 8)) 255) t).0;
        free = λ b k t u n q.
            let z = minus_both b ready (raised (8 * (o / 8)) 255) t in
            ⊎_elim
            (λ i.
            T_not (hasb b (raised (8 * (o / 8)) 255)) z.1
            (child_in (o / 8) b (sym q ∙ in_child (o / 8) k (out k n i))))
            (λ i. w.free b k z.0 u i q) (tested (hasb k left));
        all = λ b t u.
            both_minus b ready (raised (8 * (o / 8)) 255) (w.all b t u)
            (not_T (hasb b (raised (8 * (o / 8)) 255))
            (λ i. u o (w.left_lacks o (first_member left o f)) (sym (in_child (o / 8) b i))));
      }
    where
      out : (k : ℕ) → T (not (hasb k (minus left (raised (8 * (o / 8)) 255)))) → T (hasb k left) → T (hasb k (raised (8 * (o / 8)) 255))
      out k n t =
          ⊎_elim (λ u. u) (λ u. absurd (T_not (hasb k (minus left (raised (8 * (o / 8)) 255))) n (both_minus k left (raised (8 * (o / 8)) 255) t u)))
          (tested (hasb k (raised (8 * (o / 8)) 255)))

  pub clearing_turn : (ready left o child next rest : ℕ) → Clearing ready left → First left o → child ≡ raised (8 * (o / 8)) 255
      → next ≡ minus ready child → rest ≡ minus left child → Clearing next rest
  clearing_turn ready left o child next rest w f q n m =
      subst⁻¹ (λ (x : ℕ). Clearing x rest) (n ∙ ap (minus ready) q)
      (subst⁻¹ (λ (x : ℕ). Clearing (minus ready (raised (8 * (o / 8)) 255)) x) (m ∙ ap (minus left) q) (cleared ready left o w f))

  pub clearing_finish : (ready left : ℕ) → Clearing ready left → left ≡ 0 → ready ≡ ready_visits visits₀ lacking
  unfolding ready_visits visit_ready
  clearing_finish ready left w e =
      hasb_ext 64 ready (ready_visits visits₀ lacking) w.small (collect_lt 64 _)
      (λ b h.
      same_test (hasb b ready) (hasb b (ready_visits visits₀ lacking))
      (λ t.
      subst⁻¹ (λ (x : Bool). T x) (hasb_collect 64 b _ h)
      (and_intro _ _ (w.next b t)
      (eq_T _ _ (no_member (common lacking (raised (8 * (b / 8)) 255))
      (λ o u.
      let v = common_both o lacking (raised (8 * (b / 8)) 255) u in
      w.free b o t v.0 (subst⁻¹ (λ (x : ℕ). T (not (hasb o x))) e (none_left o)) (in_child (b / 8) o v.1))))))
      (λ t.
      let u = subst (λ (x : Bool). T x) (hasb_collect 64 b _ h) t in
      w.all b (and_left _ _ u)
      (λ o v q.
      T_not (hasb o 0) (none_left o)
      (subst (λ (x : ℕ). T (hasb o x)) (eqb→eq _ _ (and_right _ _ u)) (both_common o lacking (raised (8 * (b / 8)) 255) v (child_in (b / 8) o q))))))

pub clearing_less : (left b part rest : ℕ) → First left b → part ≡ raised (8 * (b / 8)) 255 → rest ≡ minus left part → rest < left
unfolding minus
clearing_less left b part rest f q m =
    let some : 0 < common left part =
    ⊎_elim (λ h. h)
    (λ h.
    let z : common left part ≡ 0 = omega arith in
    absurd (T_not (hasb b 0) (none_left b)
    (subst (λ (x : ℕ). T (hasb b x)) z
    (both_common b left part (first_member left b f) (subst⁻¹ (λ (x : ℕ). T (hasb b x)) q (child_in (b / 8) b (omega arith)))))))
    (below_or_not 0 (common left part)) in
    let more : 0 < left =
    ⊎_elim (λ h. h) (λ h. let z : left ≡ 0 = omega arith in
    absurd (T_not (hasb b 0) (none_left b) (subst (λ (x : ℕ). T (hasb b x)) z (first_member left b f)))) (below_or_not 0 left) in
    omega (arith, m)
