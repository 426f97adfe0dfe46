-- Writing words anew at the members of a set, one after the other: those that are done are written, the others are as they were.
-- Assumes nothing.
use Prim.Native.Nat.{ℕ, ◌+◌, ◌-◌, ◌<◌}
use mathlib.Core.Path.{◌≡◌, refl, sym, ◌∙◌, ap, subst, subst⁻¹}
use mathlib.Core.Logic.{◌⊎◌, inl, inr, ⊎_elim}
use mathlib.Core.Bool.{Bool, cond, not}
use mathlib.Core.List.{List}
use native.Mathlib.Omega.{arith}
use lib.Dec.{T, ltb, leb, leb→le, lt→ltb, le→leb, T_not, not_T}
use lib.ListN.{length, set, length-set}
use lib.Seq.{get_or-set_same, get_or-set_other, ext_get_or}
use Rattle.bits.specs.Bit.{hasb, remove, First}
use Rattle.bits.proofs.BitLaws.{bit_has}
use Rattle.bits.proofs.MemberLaws.{has_not, has_other, none_left}
use Rattle.basics.specs.Tests.{◌and◌}
use Rattle.basics.specs.Lists.{word}
use Rattle.basics.proofs.TestLaws.{and_intro, and_left, and_right, chosen, passed_over, true_T, same_or_not, same_test}
use Rattle.basics.proofs.ListLaws.{length_tabulate, get_d_tabulate}
use Rattle.closing.specs.Rows.{rewritten}

-- where o is taken out of what is left, the others were left before, and what is not left is o or was not left before
pub still : (o left j : ℕ) → T (hasb j (remove o left)) → T (hasb j left)
still o left j t =
    ⊎_elim (λ q. absurd (T_not (hasb o (remove o left)) (has_not o left) (subst (λ (x : ℕ). T (hasb x (remove o left))) q t)))
    (λ q. subst (λ (x : Bool). T x) (has_other o j left q) t) (same_or_not j o)

pub gone : (o left j : ℕ) → T (not (hasb j (remove o left))) → (j ≡ o) ⊎ T (not (hasb j left))
gone o left j t = ⊎_elim (λ q. inl q) (λ q. inr (subst (λ (x : Bool). T (not x)) (has_other o j left q) t)) (same_or_not j o)

-- word j stands at a member of the set, and is done
unfoldable pub done : ℕ → ℕ → ℕ → ℕ → Bool
done base among left j = (leb base j and ltb j (base + 64) and hasb (j - base) among) and not (hasb (j - base) left)

-- the loop's invariant: room says that each member has a word
pub record Rewriting (entry : List ℕ) (base among : ℕ) (f : ℕ → ℕ) (rows : List ℕ) (left : ℕ) : Type 0 where
  pub size : length rows ≡ length entry
  pub room : (o : ℕ) → T (hasb o among) → base + o < length entry
  pub within : (o : ℕ) → T (hasb o left) → T (hasb o among)
  pub words : (j : ℕ) → word rows j ≡ cond (done base among left j) (f (j - base)) (word entry j)

module _ (entry : List ℕ) (base among : ℕ) (f : ℕ → ℕ) where
  -- at first nothing is done
  pub rewriting_start : ((o : ℕ) → T (hasb o among) → base + o < length entry) → Rewriting entry base among f entry among
  unfolding done
  rewriting_start h =
      record {
        size = refl;
        room = h;
        within = λ o t. t;
        words = λ j.
            sym (passed_over (done base among among j) _ _
            (not_T (done base among among j) (λ t. T_not (hasb (j - base) among) (and_right _ _ t) (and_right _ _ (and_right _ _ (and_left _ _ t))))));
      }

  module _ (rows : List ℕ) (left o : ℕ) (w : Rewriting entry base among f rows left) (small : o < 64) (stands : T (hasb o left)) where
    now_done : T (done base among (remove o left) (base + o))
    unfolding done
    now_done =
        let e : base + o - base ≡ o = omega arith in
        and_intro _ _
        (and_intro _ _ (le→leb base (base + o) (omega arith))
        (and_intro _ _ (lt→ltb (base + o) (base + 64) (omega arith)) (subst⁻¹ (λ (x : ℕ). T (hasb x among)) e (w.within o stands))))
        (subst⁻¹ (λ (x : ℕ). T (not (hasb x (remove o left)))) e (has_not o left))

    -- the others are done or not as before
    others_same : (j : ℕ) → (j ≡ base + o → ⊥) → done base among (remove o left) j ≡ done base among left j
    unfolding done
    others_same j h =
        same_test (done base among (remove o left) j) (done base among left j)
        (λ t. and_intro _ _ (and_left _ _ t) (subst (λ (x : Bool). T (not x)) (other (and_left _ _ t)) (and_right _ _ t)))
        (λ t. and_intro _ _ (and_left _ _ t) (subst⁻¹ (λ (x : Bool). T (not x)) (other (and_left _ _ t)) (and_right _ _ t)))
      where
        other : T (leb base j and ltb j (base + 64) and hasb (j - base) among) → hasb (j - base) (remove o left) ≡ hasb (j - base) left
        other t = has_other o (j - base) left (λ e. h (omega (arith, leb→le base j (and_left _ _ t))))

    -- one word more is done
    pub rewriting_turn : (v : ℕ) → v ≡ f o → Rewriting entry base among f (set rows (base + o) v) (remove o left)
    rewriting_turn v e =
        record {
          size = length-set rows (base + o) v ∙ w.size;
          room = w.room;
          within = λ i t. w.within i (still o left i t);
          words = λ j. ⊎_elim (λ q. here j q) (λ q. there j q) (same_or_not j (base + o));
        }
      where
        back : o ≡ base + o - base
        back = omega arith

        here : (j : ℕ) → j ≡ base + o → word (set rows (base + o) v) j ≡ cond (done base among (remove o left) j) (f (j - base)) (word entry j)
        here j q =
            subst⁻¹ (λ (x : ℕ). word (set rows (base + o) v) x ≡ cond (done base among (remove o left) x) (f (x - base)) (word entry x)) q
            (get_or-set_same rows (base + o) v 0 (subst⁻¹ (λ (n : ℕ). base + o < n) w.size (w.room o (w.within o stands)))
            ∙ (e ∙ (ap f back ∙ sym (chosen (done base among (remove o left) (base + o)) _ _ now_done))))

        there : (j : ℕ) → (j ≡ base + o → ⊥) → word (set rows (base + o) v) j ≡ cond (done base among (remove o left) j) (f (j - base)) (word entry j)
        there j q =
            get_or-set_other rows (base + o) j v 0 q
            ∙ (w.words j ∙ ap (λ (x : Bool). cond x (f (j - base)) (word entry j)) (sym (others_same j q)))

  -- where nothing is left all are written
  pub rewriting_finish : (rows : List ℕ) → Rewriting entry base among f rows 0 → rows ≡ rewritten entry base among f
  unfolding rewritten done
  rewriting_finish rows w =
      ext_get_or 0 rows (rewritten entry base among f) (w.size ∙ sym (length_tabulate (length entry) _))
      (λ j h.
      w.words j
      ∙ (ap (λ (x : Bool). cond x (f (j - base)) (word entry j)) (all_done j)
      ∙ sym (get_d_tabulate (length entry) _ 0 j (subst (λ (n : ℕ). j < n) w.size h))))
    where
      all_done : (j : ℕ) → done base among 0 j ≡ (leb base j and ltb j (base + 64) and hasb (j - base) among)
      all_done j =
          same_test (done base among 0 j) (leb base j and ltb j (base + 64) and hasb (j - base) among) (λ t. and_left _ _ t)
          (λ t. and_intro _ _ t (none_left (j - base)))

-- The same as a loop meets them: o is the first that is left, and what is left after it is in a local.
pub turn : (entry : List ℕ) (base among : ℕ) (f : ℕ → ℕ) (rows : List ℕ) (left o next v : ℕ) → Rewriting entry base among f rows left
    → First left o → next ≡ remove o left → v ≡ f o → Rewriting entry base among f (set rows (base + o) v) next
turn entry base among f rows left o next v w h e q =
    subst⁻¹ (λ (x : ℕ). Rewriting entry base among f (set rows (base + o) v) x) e
    (rewriting_turn entry base among f rows left o w h.small (true_T _ (bit_has o left h.member)) v q)

pub finish : (entry : List ℕ) (base among : ℕ) (f : ℕ → ℕ) (rows : List ℕ) (left : ℕ) → Rewriting entry base among f rows left → left ≡ 0
    → rows ≡ rewritten entry base among f
finish entry base among f rows left w e =
    rewriting_finish entry base among f rows (subst (λ (x : ℕ). Rewriting entry base among f rows x) e w)
