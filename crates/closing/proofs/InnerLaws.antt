-- Collecting where arcs start and where they end: a path goes by way of what is in both. Assumes nothing.
use Prim.Native.Nat.{ℕ}
use mathlib.Core.Path.{◌≡◌, subst, subst⁻¹}
use mathlib.Core.Logic.{◌⊎◌, inl, inr, ⊎_elim}
use mathlib.Core.Bool.{cond, not}
use mathlib.Core.List.{List}
use lib.Dec.{T, eqb, eqb→eq, T_not, not_T}
use Rattle.bits.specs.Bit.{hasb, insert, remove, union, common, First}
use Rattle.bits.proofs.BitLaws.{bit_has}
use Rattle.bits.proofs.MemberLaws.{
  union_cases,
  union_left,
  union_right,
  insert_cases,
  insert_new,
  insert_old,
  common_both,
  both_common,
  none_left,
}
use Rattle.basics.specs.Lists.{word}
use Rattle.basics.proofs.TestLaws.{chosen, passed_over, tested, true_T, eq_T}
use Rattle.closing.specs.Rows.{leads}
use Rattle.closing.specs.Closure.{ArcOf, Meeting, Inner}
use Rattle.closing.proofs.RewriteLaws.{still, gone}

-- The invariant of the loop: the members with a row that is not empty, and all that members lead to, as far as they are no longer left.
pub record Seeing (rows : List ℕ) (among starts ends left : ℕ) : Type 0 where
  pub within : (o : ℕ) → T (hasb o left) → T (hasb o among)
  pub begun : (o : ℕ) → T (hasb o starts) → T (hasb o among) × (word rows o ≡ 0 → ⊥)
  pub ended : (x : ℕ) → T (hasb x ends) → (o : ℕ) × ArcOf rows among o x
  pub begins : (o x : ℕ) → ArcOf rows among o x → T (not (hasb o left)) → T (hasb o starts)
  pub ends_there : (o x : ℕ) → ArcOf rows among o x → T (not (hasb o left)) → T (hasb x ends)

module _ (rows : List ℕ) (among : ℕ) where
  pub seeing_start : (left : ℕ) → left ≡ among → Seeing rows among 0 0 left
  seeing_start left e =
      subst⁻¹ (λ (y : ℕ). Seeing rows among 0 0 y) e
      (record {
        within = λ o t. t;
        begun = λ o t. absurd (T_not (hasb o 0) (none_left o) t);
        ended = λ x t. absurd (T_not (hasb x 0) (none_left x) t);
        begins = λ o x a n. absurd (T_not (hasb o among) n a.0);
        ends_there = λ o x a n. absurd (T_not (hasb o among) n a.0);
      })

  pub seeing_turn : (starts ends left o next more further : ℕ) → Seeing rows among starts ends left → First left o
      → next ≡ remove o left → more ≡ cond (not (eqb (word rows o) 0)) (insert o starts) starts
      → further ≡ union ends (word rows o) → Seeing rows among more further next
  unfolding leads
  seeing_turn starts ends left o next more further w f e p q =
      record {
        within = λ i t. w.within i (still o left i (subst (λ (y : ℕ). T (hasb i y)) e t));
        begun = λ i t. begun_now i (tested (not (eqb row 0))) (subst (λ (y : ℕ). T (hasb i y)) p t);
        ended = λ x t.
            ⊎_elim (λ l. w.ended x l) (λ l. (o, (member, l)))
            (union_cases x ends row (subst (λ (y : ℕ). T (hasb x y)) q t));
        begins = λ i x a n.
            subst⁻¹ (λ (y : ℕ). T (hasb i y)) p
            (begins_now i x a (tested (not (eqb row 0))) (gone o left i (subst (λ (y : ℕ). T (not (hasb i y))) e n)));
        ends_there = λ i x a n.
            subst⁻¹ (λ (y : ℕ). T (hasb x y)) q
            (⊎_elim
            (λ s. union_right x ends row (subst (λ (y : ℕ). T (hasb x (word rows y))) s a.1))
            (λ s. union_left x ends row (w.ends_there i x a s)) (gone o left i (subst (λ (y : ℕ). T (not (hasb i y))) e n)));
      }
    where
      row : ℕ
      row = word rows o

      member : T (hasb o among)
      member = w.within o (true_T _ (bit_has o left f.member))

      begun_now : (i : ℕ) → T (not (eqb row 0)) ⊎ T (not (not (eqb row 0))) → T (hasb i (cond (not (eqb row 0)) (insert o starts) starts))
          → T (hasb i among) × (word rows i ≡ 0 → ⊥)
      begun_now i (inl t) s =
          ⊎_elim
          (λ l.
          subst⁻¹ (λ (y : ℕ). T (hasb y among) × (word rows y ≡ 0 → ⊥)) l (member, λ z. T_not (eqb row 0) t (eq_T row 0 z)))
          (λ l. w.begun i l) (insert_cases i o starts (subst (λ (y : ℕ). T (hasb i y)) (chosen (not (eqb row 0)) _ _ t) s))
      begun_now i (inr t) s = w.begun i (subst (λ (y : ℕ). T (hasb i y)) (passed_over (not (eqb row 0)) _ _ t) s)

      begins_now : (i x : ℕ) → ArcOf rows among i x → T (not (eqb row 0)) ⊎ T (not (not (eqb row 0))) → (i ≡ o) ⊎ T (not (hasb i left))
          → T (hasb i (cond (not (eqb row 0)) (insert o starts) starts))
      begins_now i x a (inl t) (inl s) =
          subst⁻¹ (λ (y : ℕ). T (hasb i y)) (chosen (not (eqb row 0)) _ _ t) (subst⁻¹ (λ (y : ℕ). T (hasb y (insert o starts))) s (insert_new o starts))
      begins_now i x a (inl t) (inr s) =
          subst⁻¹ (λ (y : ℕ). T (hasb i y)) (chosen (not (eqb row 0)) _ _ t) (insert_old i o starts (w.begins i x a s))
      begins_now i x a (inr t) (inl s) =
          absurd (T_not (not (eqb row 0)) t
          (not_T (eqb row 0)
          (λ z.
          T_not (hasb x 0) (none_left x)
          (subst (λ (y : ℕ). T (hasb x y)) (eqb→eq row 0 z) (subst (λ (y : ℕ). T (hasb x (word rows y))) s a.1)))))
      begins_now i x a (inr t) (inr s) = subst⁻¹ (λ (y : ℕ). T (hasb i y)) (passed_over (not (eqb row 0)) _ _ t) (w.begins i x a s)

  pub seeing_finish : (starts ends left r : ℕ) → Seeing rows among starts ends left → left ≡ 0 → r ≡ common starts ends → Inner rows among r
  seeing_finish starts ends left r w e h =
      record {
        within = λ m t. (w.begun m (both m t).0).0;
        arrives = λ m t. w.ended m (both m t).1;
        onward = λ m t. (w.begun m (both m t).0).1;
        has = λ o m x a b. subst⁻¹ (λ (y : ℕ). T (hasb m y)) h (both_common m starts ends (w.begins m x b (all m)) (w.ends_there o m a (all o)));
      }
    where
      both : (m : ℕ) → T (hasb m r) → T (hasb m starts) × T (hasb m ends)
      both m t = common_both m starts ends (subst (λ (y : ℕ). T (hasb m y)) h t)

      all : (o : ℕ) → T (not (hasb o left))
      all o = subst⁻¹ (λ (n : ℕ). T (not (hasb o n))) e (none_left o)

-- paths meet at every member that none goes by way of
pub inner_meeting : (rows : List ℕ) (among middles : ℕ) → Inner rows among middles → Meeting rows among middles
inner_meeting rows among middles w =
    record { within = w.within; meets = λ o j x n s t. absurd (T_not (hasb j middles) n (w.has o j x s t)) }
