-- The sets are unique: two numberings that are both the sets of a symbol, over one relation of arcs, give every attribute the same number.
-- Where they agree below k, set k of one is a collection over the other, and so within its set k. Assumes nothing.
use Prim.Native.Nat.{ℕ, zero, suc, ◌≤◌, ◌<◌}
use mathlib.Core.Path.{◌≡◌, sym, ◌∙◌}
use mathlib.Core.Logic.{inl, inr, ⊎_elim}
use mathlib.Core.List.{List}
use native.Mathlib.Omega.{arith}
use Rattle.basics.proofs.TestLaws.{below_or_not, below_suc}
use Rattle.grammar.specs.Table.{attributes}
use Rattle.sets.specs.Paper.{Collection, Sets}

module _ (g : List ℕ) (x : ℕ) (ids : ℕ → ℕ → Type 0) where
  -- what is below k in the first numbering has the same number in the second
  abbrev AgreeBelow : (ℕ → ℕ) → (ℕ → ℕ) → ℕ → Type 0
  AgreeBelow s t k = (a : ℕ) → 1 ≤ s a → s a < k → t a ≡ s a

  -- set k of the first is a collection over the second
  carried : (s t : ℕ → ℕ) → Sets g x ids s → (k : ℕ) → 1 ≤ k → AgreeBelow s t k → AgreeBelow t s k → Collection g x ids t k (λ a. s a ≡ k)
  carried s t v k h forth back =
      record {
        attribute_of = (v.each k h).collection.attribute_of;
        unplaced = λ a e w. omega (arith, e, back a w.0 w.1);
        class = (v.each k h).collection.class;
        successors = λ a b e i.
            ⊎_elim (λ w. inl (omega (arith, w.0, forth b w.0 w.1), omega (arith, w.1, forth b w.0 w.1))) (λ m. inr m)
            ((v.each k h).collection.successors a b e i);
      }

  module _ (s t : ℕ → ℕ) (v : Sets g x ids s) (w : Sets g x ids t) where
    both : (k : ℕ) → AgreeBelow s t k × AgreeBelow t s k
    both zero = (λ a h l. absurd (omega arith), λ a h l. absurd (omega arith))
    both (suc k) = go (both k)
      where
        go : AgreeBelow s t k × AgreeBelow t s k → AgreeBelow s t (suc k) × AgreeBelow t s (suc k)
        go (forth, back) = (
          λ a h l.
              ⊎_elim (λ m. forth a h m)
              (λ e. (w.each k (omega arith)).largest (λ b. s b ≡ k) (carried s t v k (omega arith) forth back) a e ∙ sym e) (below_suc (s a) k l),
          λ a h l.
              ⊎_elim (λ m. back a h m)
              (λ e. (v.each k (omega arith)).largest (λ b. t b ≡ k) (carried t s w k (omega arith) back forth) a e ∙ sym e) (below_suc (t a) k l),
        )

    pub sets_one : (a : ℕ) → s a ≡ t a
    sets_one a =
        ⊎_elim (λ h. sym ((both (suc (s a))).0 a (v.placed a h) (omega arith))) (λ h. v.nothing a h ∙ sym (w.nothing a h))
        (below_or_not a (attributes g x))
