-- How a count moves with its bound: by one at a number that passes, not at all over a stretch where none does.
-- So a count of one is one number that passes, and no other. Assumes nothing.
use Prim.Native.Nat.{ℕ, zero, suc, ◌+◌, ◌≤◌, ◌<◌}
use mathlib.Core.Path.{◌≡◌, refl, sym, ◌∙◌, ap}
use mathlib.Core.Logic.{⊎_elim}
use mathlib.Core.Bool.{Bool, true, false, cond}
use native.Mathlib.Omega.{arith}
use lib.Dec.{T, T_not}
use Rattle.basics.specs.Tests.{count}
use Rattle.basics.proofs.TestLaws.{below_suc, below_or_not, tested}

module _ (f : ℕ → Bool) where
  -- one more where the next number passes
  pub count_yes : (n : ℕ) → T (f n) → count (suc n) f ≡ suc (count n f)
  unfolding count
  count_yes n = go (f n)
    where
      go : (b : Bool) → T b → count n f + cond b 1 0 ≡ suc (count n f)
      go true t = omega arith
      go false t = absurd t

  -- as many where it does not
  pub count_no : (n : ℕ) → (T (f n) → ⊥) → count (suc n) f ≡ count n f
  unfolding count
  count_no n = go (f n)
    where
      go : (b : Bool) → (T b → ⊥) → count n f + cond b 1 0 ≡ count n f
      go true t = absurd (t tt)
      go false t = omega arith

  -- none of no numbers
  pub count_zero : count 0 f ≡ 0
  unfolding count
  count_zero = refl

  -- it rises with the bound
  pub count_up : (a b : ℕ) → a ≤ b → count a f ≤ count b f
  count_up a zero h = let e : a ≡ 0 = omega arith in omega (arith, ap (λ (k : ℕ). count k f) e)
  count_up a (suc b) h =
      ⊎_elim
      (λ l. omega (arith, count_up a b (omega arith), last b))
      (λ e. omega (arith, ap (λ (k : ℕ). count k f) e)) (below_suc a (suc b) (omega arith))
    where
      last : (n : ℕ) → count n f ≤ count (suc n) f
      last n = ⊎_elim (λ t. omega (arith, count_yes n t)) (λ t. omega (arith, count_no n (λ s. T_not (f n) t s))) (tested (f n))

  -- over a stretch where none passes it stays
  pub count_gap : (a b : ℕ) → a ≤ b → ((i : ℕ) → a ≤ i → i < b → T (f i) → ⊥) → count b f ≡ count a f
  count_gap a zero h none = let e : 0 ≡ a = omega arith in ap (λ (k : ℕ). count k f) e
  count_gap a (suc b) h none =
      ⊎_elim
      (λ l. count_no b (none b (omega arith) (omega arith)) ∙ count_gap a b (omega arith) (λ i p q. none i p (omega arith)))
      (λ e. ap (λ (k : ℕ). count k f) (sym e)) (below_suc a (suc b) (omega arith))

  -- where it is not 0 some number passes
  pub count_find : (n : ℕ) → 1 ≤ count n f → (k : ℕ) × (k < n) × T (f k)
  count_find zero h = absurd (omega (arith, count_zero))
  count_find (suc n) h =
      ⊎_elim (λ t. (n, omega arith, t))
      (λ t.
      let w = count_find n (omega (arith, count_no n (λ s. T_not (f n) t s))) in
      (w.0, omega (arith, w.1), w.2)) (tested (f n))

  -- two that pass count two
  pub count_two : (n j k : ℕ) → j < k → k < n → T (f j) → T (f k) → 2 ≤ count n f
  count_two n j k h l s t =
      omega (arith, count_yes j s, count_up (suc j) k h, count_yes k t, count_up (suc k) n l)

  -- where one counts, two that pass are the same
  pub count_only : (n j k : ℕ) → count n f ≡ 1 → j < n → k < n → T (f j) → T (f k) → j ≡ k
  count_only n j k e h l s t =
      ⊎_elim (λ p. absurd (omega (arith, count_two n j k p l s t)))
      (λ p. ⊎_elim (λ q. absurd (omega (arith, count_two n k j q h t s))) (λ q. omega arith) (below_or_not k j))
      (below_or_not j k)

  -- and one that passes alone counts one
  pub count_one : (n k : ℕ) → k < n → T (f k) → ((j : ℕ) → j < n → T (f j) → j ≡ k) → count n f ≡ 1
  count_one n k h t only =
      count_gap (suc k) n h (λ i p q s. let e : i ≡ k = only i q s in omega arith)
      ∙ (count_yes k t ∙ ap suc (count_gap 0 k (omega arith) (λ i p q s. let e : i ≡ k = only i (omega arith) s in omega arith) ∙ count_zero))
