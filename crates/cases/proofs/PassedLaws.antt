-- How far a chain of tests came. Each case has a key; a chain has passed a key if it does not stop at it or before. Where the tests
-- stand in the order of their keys, a chain that has passed a key has passed each test up to it. Assumes nothing.
use Prim.Native.Nat.{ℕ, zero, suc, ◌≤◌, ◌<◌}
use mathlib.Core.Path.{◌≡◌, refl, sym, ◌∙◌, subst}
use mathlib.Core.Logic.{⊎_elim}
use mathlib.Core.Bool.{Bool, true, false, not}
use mathlib.Core.List.{List}
use native.Mathlib.Omega.{arith}
use native.Mathlib.Nat.{not-suc-le-zero}
use lib.Dec.{T}
use Rattle.std.specs.Prelude.{Ok, Err}
use Rattle.basics.proofs.TestLaws.{below_suc}
use Rattle.refusals.specs.declared.Refusal.{Refusal}
use Rattle.grammar.specs.Verdicts.{Verdict, Good, Refused, ◌then◌, unless, each}
use Rattle.cases.specs.First.{Earlier, GoesBy}
use Rattle.cases.proofs.FirstLaws.{good_not_refused, same_refused, goes_by}

module _ (Case : Refusal → Type 1) (key : Refusal → ℕ) where
  -- what the verdict refuses has a key below this one
  pub record EndsBelow (v : Verdict) (end : ℕ) : Type 0 where
    pub below : (n : Refusal) → v ≡ Refused n → key n < end

  -- and is a case
  pub record CasesWithin (v : Verdict) (end : ℕ) : Type 1 where
    pub is : (n : Refusal) → v ≡ Refused n → Case n
    pub ends : EndsBelow v end

  -- the verdict does not stop at this key or before
  pub record Passed (v : Verdict) (k : ℕ) : Type 0 where
    pub after : (n : Refusal) → v ≡ Refused n → k < key n

  ends_good : (end : ℕ) → EndsBelow Good end
  ends_good end = record { below = λ n e. absurd (good_not_refused n e) }

  pub ends_then : (v w : Verdict) (end : ℕ) → EndsBelow v end → EndsBelow w end → EndsBelow (v then w) end
  unfolding ◌then◌
  ends_then (Ok _) w end p q = q
  ends_then (Err m) w end p q = p

  pub ends_unless : (b : Bool) (m : Refusal) (end : ℕ) → key m < end → EndsBelow (unless b m) end
  unfolding unless
  ends_unless true m end l = ends_good end
  ends_unless false m end l = record { below = λ n e. subst (λ (r : Refusal). key r < end) (same_refused m n e) l }

  pub ends_each : (n : ℕ) (f : ℕ → Verdict) (end : ℕ) → ((k : ℕ) → k < n → EndsBelow (f k) end) → EndsBelow (each n f) end
  unfolding each
  ends_each zero f end h = ends_good end
  ends_each (suc n) f end h = ends_then (each n f) (f n) end (ends_each n f end (λ k l. h k (omega arith))) (h n (omega arith))

  pub within_good : (end : ℕ) → CasesWithin Good end
  within_good end = record { is = λ n e. absurd (good_not_refused n e); ends = ends_good end }

  -- a later part may rely on the earlier ones
  pub within_then : (v w : Verdict) (end : ℕ) → CasesWithin v end → (v ≡ Good → CasesWithin w end) → CasesWithin (v then w) end
  unfolding ◌then◌
  within_then (Ok _) w end p q = q refl
  within_then (Err m) w end p q = p

  pub within_unless : (b : Bool) (m : Refusal) (end : ℕ) → (T (not b) → Case m) → key m < end → CasesWithin (unless b m) end
  unfolding unless
  within_unless true m end c l = within_good end
  within_unless false m end c l = record { is = λ n e. subst Case (same_refused m n e) (c tt); ends = ends_unless false m end l }

  pub within_each : (n : ℕ) (f : ℕ → Verdict) (end : ℕ) → ((k : ℕ) → k < n → CasesWithin (f k) end) → CasesWithin (each n f) end
  unfolding each
  within_each zero f end h = within_good end
  within_each (suc n) f end h =
      within_then (each n f) (f n) end (within_each n f end (λ k l. h k (omega arith))) (λ e. h n (omega arith))

  pub passed_down : (v : Verdict) (a b : ℕ) → a ≤ b → Passed v b → Passed v a
  passed_down v a b h p = record { after = λ n e. omega (arith, p.after n e) }

  passed_good : (v : Verdict) (k : ℕ) → v ≡ Good → Passed v k
  passed_good v k g = record { after = λ n e. absurd (good_not_refused n (sym g ∙ e)) }

  pub passed_first : (v w : Verdict) (k : ℕ) → Passed (v then w) k → Passed v k
  unfolding ◌then◌
  passed_first (Ok _) w k p = passed_good Good k refl
  passed_first (Err m) w k p = p

  -- a part that ends at this key or before is good
  pub passed_all : (v : Verdict) (k : ℕ) → EndsBelow v (suc k) → Passed v k → v ≡ Good
  passed_all (Ok _) k w p = refl
  passed_all (Err m) k w p = absurd (omega (arith, w.below m refl, p.after m refl))

  pub passed_second : (v w : Verdict) (k : ℕ) → EndsBelow v (suc k) → Passed (v then w) k → Passed w k
  unfolding ◌then◌
  passed_second (Ok _) w k h p = p
  passed_second (Err m) w k h p = absurd (omega (arith, h.below m refl, p.after m refl))

  pub passed_unless : (b : Bool) (m : Refusal) → Passed (unless b m) (key m) → T b
  unfolding unless
  passed_unless true m p = tt
  passed_unless false m p = absurd (omega (arith, p.after m refl))

  pub passed_each : (n : ℕ) (f : ℕ → Verdict) (k i : ℕ) → i < n → ((j : ℕ) → j < i → EndsBelow (f j) (suc k)) → Passed (each n f) k
      → Passed (f i) k
  unfolding each
  passed_each zero f k i l h p = absurd (not-suc-le-zero l)
  passed_each (suc n) f k i l h p =
      ⊎_elim (λ s. passed_each n f k i s h (passed_first (each n f) (f n) k p))
      (λ e.
      subst (λ (j : ℕ). Passed (f j) k) (sym e)
      (passed_second (each n f) (f n) k (ends_each n f (suc k) (λ j s. h j (omega arith))) p)) (below_suc i n l)

  -- where each case's test is among the tests up to its key, the verdict goes by the cases
  pub by_keys : (g : List ℕ) (v : Verdict) (end : ℕ) → CasesWithin v end → ((m : Refusal) → Case m → Passed v (key m) → ⊥)
      → ((m n : Refusal) → Case m → Case n → Earlier g m n → key m < key n) → GoesBy g Case v
  by_keys g v end w tests order =
      goes_by g Case v (λ e n c. tests n c (passed_good v (key n) e))
      (λ n e.
      record {
        applies = w.is n e;
        no_earlier = λ m c l.
            tests m c
            (record {
              after = λ q i.
                  subst (λ (r : Refusal). key m < key r) (same_refused n q (sym e ∙ i)) (order m n c (w.is n e) l);
            });
      })
