-- A transitive relation without cycles, on the numbers below n, has a sink among any of them that pass a test.
-- Go from a number to a successor that passes: each has fewer such successors than the one before. Assumes nothing.
use Prim.Native.Nat.{ℕ, zero, suc, ◌<◌}
use mathlib.Core.Logic.{⊎_elim}
use mathlib.Core.Bool.{Bool}
use native.Mathlib.Omega.{arith}
use lib.Dec.{T, T_not, not_T}
use Rattle.basics.specs.Tests.{◌and◌, some, count}
use Rattle.basics.proofs.TestLaws.{and_intro, and_left, and_right, tested, some_at, some_find, count_le, count_more}

-- s passes, and has no arc to a number that passes
pub record Sink (n : ℕ) (arc : ℕ → ℕ → Bool) (f : ℕ → Bool) : Type 0 where
  pub sink : ℕ
  pub inside : sink < n
  pub passes : T (f sink)
  pub ends : (b : ℕ) → b < n → T (arc sink b) → T (f b) → ⊥

module _ (n : ℕ) (arc : ℕ → ℕ → Bool) (f : ℕ → Bool)
    (transitive : (a b c : ℕ) → a < n → b < n → c < n → T (arc a b) → T (arc b c) → T (arc a c))
    (acyclic : (a : ℕ) → a < n → T (arc a a) → ⊥) where
  -- a successor has fewer successors
  fewer : (a b : ℕ) → a < n → b < n → T (arc a b) → T (f b) → count n (λ c. arc b c and f c) < count n (λ c. arc a c and f c)
  fewer a b l m t p =
      count_more n (λ c. arc b c and f c) (λ c. arc a c and f c)
      (λ c q s. and_intro _ _ (transitive a b c l m q t (and_left _ _ s)) (and_right (arc b c) (f c) s)) b m
      (not_T (arc b b and f b) (λ s. acyclic b m (and_left _ _ s))) (and_intro _ _ t p)

  walk : (m a : ℕ) → a < n → T (f a) → count n (λ c. arc a c and f c) < m → Sink n arc f
  walk zero a l p h = absurd (omega arith)
  walk (suc m) a l p h =
      ⊎_elim
      (λ t.
      let w = some_find n (λ c. arc a c and f c) t in
      let r : T (arc a w.0) = and_left _ _ w.2 in
      let q : T (f w.0) = and_right (arc a w.0) _ w.2 in
      walk m w.0 w.1 q (omega (arith, fewer a w.0 l w.1 r q)))
      (λ t. record {
        sink = a;
        inside = l;
        passes = p;
        ends = λ b q r s. T_not (some n (λ c. arc a c and f c)) t (some_at n (λ c. arc a c and f c) b q (and_intro _ _ r s));
      }) (tested (some n (λ c. arc a c and f c)))

  -- where one number passes, there is a sink
  pub sink_exists : (a : ℕ) → a < n → T (f a) → Sink n arc f
  sink_exists a l p = walk (suc n) a l p (omega (arith, count_le n (λ c. arc a c and f c)))
