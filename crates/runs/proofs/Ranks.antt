-- Places that carry the ranks 1 to v, each once and rising: the place of rank m has m - 1 of them before it.
-- So how many are done says which are done. Assumes nothing.
use Prim.Native.Nat.{ℕ, zero, suc, ◌≤◌, ◌<◌}
use mathlib.Core.Path.{◌≡◌, refl, ◌∙◌, ap}
use mathlib.Core.Logic.{⊎_elim}
use native.Mathlib.Omega.{arith}
use lib.Dec.{T, ltb, ltb→lt, lt→ltb}
use Rattle.basics.specs.Tests.{count}
use Rattle.basics.proofs.TestLaws.{below_or_not}
use Rattle.basics.proofs.CountingLaws.{count_yes, count_zero, count_up, count_gap}

-- how many of the first k places carry a rank; 0 is no rank
abbrev pub ranked : (ℕ → ℕ) → ℕ → ℕ
ranked rank k = count k (λ j. ltb 0 (rank j))

-- the first l places carry the ranks 1 to v, each once, rising
pub record Ranks (l v : ℕ) (rank : ℕ → ℕ) : Type 0 where
  pub there : (m : ℕ) → 1 ≤ m → m ≤ v → (j : ℕ) × (j < l) × (rank j ≡ m)
  pub range : (j : ℕ) → j < l → rank j ≤ v
  pub rise : (j k : ℕ) → j < l → k < l → 1 ≤ rank j → rank j < rank k → j < k
  pub once : (j k : ℕ) → j < l → k < l → 1 ≤ rank j → rank j ≡ rank k → j ≡ k

module _ {l v : ℕ} {rank : ℕ → ℕ} (w : Ranks l v rank) where
  has : (j : ℕ) → T (ltb 0 (rank j)) → 1 ≤ rank j
  has j t = ltb→lt 0 (rank j) t

  ordered : (j k : ℕ) → j < l → k < l → 1 ≤ rank j → rank j ≤ rank k → j ≤ k
  ordered j k h i a b =
      ⊎_elim (λ s. omega (arith, w.rise j k h i a s)) (λ s. omega (arith, w.once j k h i a (omega arith)))
      (below_or_not (rank j) (rank k))

  -- the place of rank m + 1 has m of them before it
  pub before_rank : (m j : ℕ) → j < l → rank j ≡ suc m → ranked rank j ≡ m
  before_rank zero j h e =
      count_gap (λ j. ltb 0 (rank j)) 0 j (omega arith)
      (λ i a b t. omega (arith, ordered j i h (omega arith) (omega arith) (omega (arith, has i t))))
      ∙ count_zero (λ j. ltb 0 (rank j))
  before_rank (suc m) j h e =
      let v' = w.there (suc m) (omega arith) (omega (arith, w.range j h)) in
      let i : ℕ = v'.0 in
      let il : i < l = v'.1 in
      let ir : rank i ≡ suc m = v'.2 in
      let ij : i < j = w.rise i j il h (omega arith) (omega arith) in
      count_gap (λ j. ltb 0 (rank j)) (suc i) j ij
      (λ k a b t.
      let kl : k < l = omega arith in
      let p : 1 ≤ rank k = has k t in
      ⊎_elim (λ s. omega (arith, ordered k i kl il p (omega arith)))
      (λ s. omega (arith, ordered j k h kl (omega arith) (omega arith))) (below_or_not (rank k) (suc (suc m))))
      ∙ (count_yes (λ j. ltb 0 (rank j)) i (lt→ltb 0 (rank i) (omega arith)) ∙ ap suc (before_rank m i il ir))

  -- all v of them stand in the first l places
  pub all_ranked : ranked rank l ≡ v
  all_ranked = go v refl
    where
      go : (u : ℕ) → v ≡ u → ranked rank l ≡ u
      go zero e =
          count_gap (λ j. ltb 0 (rank j)) 0 l (omega arith) (λ i a b t. omega (arith, has i t, w.range i b))
          ∙ count_zero (λ j. ltb 0 (rank j))
      go (suc m) e =
          let v' = w.there (suc m) (omega arith) (omega arith) in
          let i : ℕ = v'.0 in
          let il : i < l = v'.1 in
          let ir : rank i ≡ suc m = v'.2 in
          count_gap (λ j. ltb 0 (rank j)) (suc i) l il
          (λ k a b t. omega (arith, ordered k i b il (has k t) (omega (arith, w.range k b))))
          ∙ (count_yes (λ j. ltb 0 (rank j)) i (lt→ltb 0 (rank i) (omega arith)) ∙ ap suc (before_rank m i il ir))

  -- no more than v stand in the first k
  pub ranked_most : (k : ℕ) → k ≤ l → ranked rank k ≤ v
  ranked_most k h = omega (arith, count_up (λ j. ltb 0 (rank j)) k l h, all_ranked)

  -- a rank that the count has reached is done
  pub reached_done : (k m : ℕ) → k ≤ l → 1 ≤ m → m ≤ ranked rank k → (j : ℕ) × (j < k) × (rank j ≡ m)
  reached_done k zero h a b = absurd (omega arith)
  reached_done k (suc m) h a b =
      let v' = w.there (suc m) a (omega (arith, ranked_most k h)) in
      let i : ℕ = v'.0 in
      let il : i < l = v'.1 in
      let ir : rank i ≡ suc m = v'.2 in
      let c : ranked rank i ≡ m = before_rank m i il ir in
      ⊎_elim (λ s. (i, s, ir)) (λ s. absurd (omega (arith, count_up (λ j. ltb 0 (rank j)) k i s))) (below_or_not i k)

  -- a rank that is done the count has reached
  pub done_reached : (k m j : ℕ) → k ≤ l → j < k → rank j ≡ suc m → suc m ≤ ranked rank k
  done_reached k m j h a e =
      omega (
        arith,
        count_yes (λ j. ltb 0 (rank j)) j (lt→ltb 0 (rank j) (omega arith)),
        count_up (λ j. ltb 0 (rank j)) (suc j) k a,
        before_rank m j (omega arith) e,
      )
