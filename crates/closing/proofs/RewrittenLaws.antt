-- Reading a list that was written anew at the members of a set: the members have their new words, every other word is as it was.
-- Assumes nothing.
use Prim.Native.Nat.{ℕ, ◌+◌, ◌-◌, ◌≤◌, ◌<◌}
use mathlib.Core.Path.{◌≡◌, sym, ◌∙◌, ap, subst, subst⁻¹}
use mathlib.Core.Logic.{◌⊎◌, ⊎_elim}
use mathlib.Core.Bool.{Bool, not}
use mathlib.Core.List.{List}
use native.Mathlib.Omega.{arith}
use lib.Dec.{T, ltb, leb, leb→le, ltb→lt, lt→ltb, le→leb, T_not, not_T}
use lib.ListN.{length, get_or-eq_default}
use Rattle.bits.specs.Bit.{hasb}
use Rattle.basics.specs.Tests.{◌and◌}
use Rattle.basics.specs.Lists.{word}
use Rattle.basics.proofs.TestLaws.{and_intro, and_left, and_right, chosen, passed_over, below_or_not}
use Rattle.basics.proofs.ListLaws.{length_tabulate, get_d_tabulate}
use Rattle.closing.specs.Rows.{rewritten}

module _ (rows : List ℕ) (base among : ℕ) (f : ℕ → ℕ) where
  abbrev written : ℕ → Bool
  written j = leb base j and ltb j (base + 64) and hasb (j - base) among

  pub rewritten_length : length (rewritten rows base among f) ≡ length rows
  unfolding rewritten
  rewritten_length = length_tabulate (length rows) _

  -- a word that is none of the set's, in the list or past it
  stays : (j : ℕ) → (T (written j) → ⊥) → word (rewritten rows base among f) j ≡ word rows j
  unfolding rewritten
  stays j n =
      ⊎_elim (λ h. get_d_tabulate (length rows) _ 0 j h ∙ passed_over (written j) _ _ (not_T (written j) n))
      (λ h.
      get_or-eq_default (rewritten rows base among f) 0 {n = j} (omega (arith, rewritten_length))
      ∙ sym (get_or-eq_default rows 0 {n = j} h)) (below_or_not j (length rows))

  pub rewritten_outside : (j : ℕ) → (j < base) ⊎ (base + 64 ≤ j) → word (rewritten rows base among f) j ≡ word rows j
  rewritten_outside j out =
      stays j
      (λ t.
      ⊎_elim (λ l. omega (arith, leb→le base j (and_left _ _ t)))
      (λ l. omega (arith, ltb→lt j (base + 64) (and_left _ _ (and_right _ _ t)))) out)

  back : (o : ℕ) → base + o - base ≡ o
  back o = omega arith

  pub rewritten_idle : (o : ℕ) → T (not (hasb o among)) → word (rewritten rows base among f) (base + o) ≡ word rows (base + o)
  rewritten_idle o n =
      stays (base + o) (λ t. T_not (hasb o among) n (subst (λ (y : ℕ). T (hasb y among)) (back o) (and_right _ _ (and_right _ _ t))))

  pub rewritten_at : (o : ℕ) → o < 64 → base + o < length rows → T (hasb o among) → word (rewritten rows base among f) (base + o) ≡ f o
  unfolding rewritten
  rewritten_at o h room t =
      get_d_tabulate (length rows) _ 0 (base + o) room
      ∙ (chosen (written (base + o)) _ _
      (and_intro _ _ (le→leb base (base + o) (omega arith))
      (and_intro _ _ (lt→ltb (base + o) (base + 64) (omega arith)) (subst⁻¹ (λ (y : ℕ). T (hasb y among)) (back o) t)))
      ∙ ap f (back o))
