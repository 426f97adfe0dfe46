-- Whatever is no attribute of a nonterminal node stays as at entry: values of attributes that do not exist, and words beyond the sizes.
-- Assumes nothing.
use Prim.Native.Nat.{ℕ, ◌+◌, ◌*◌, ◌≤◌, ◌<◌}
use mathlib.Core.Path.{◌≡◌, ap}
use mathlib.Core.List.{List}
use native.Mathlib.Omega.{arith}
use lib.Dec.{T}
use lib.IntN.{ℤ}
use lib.ListN.{length}
use Rattle.grammar.specs.Table.{attributes}
use Rattle.trees.specs.Tree.{applies_rule, symbol_at_node, value_words}
use Rattle.trees.specs.Equations.{value_at}
use Rattle.trees.specs.Definers.{AttributeOf}
use Rattle.trees.proofs.Cells.{attribute_eight}
use Rattle.runs.specs.Balance.{RunGiven}
use Rattle.runs.specs.Computing.{machine_at}
use Rattle.runs.proofs.ComputedOnce.{only_attributes}
use Rattle.runs.proofs.Solved.{never_computed}

module _ {g p t : List ℕ} (values : List ℤ) (given : RunGiven g p t (length values)) where
  -- a cell that is no attribute of a nonterminal node stays
  pub others_stay : (c k : ℕ) → ((n a : ℕ) → c ≡ 8 * n + a → T (applies_rule t n) → AttributeOf g t n a → ⊥)
      → value_at (machine_at g p t values k).values c ≡ value_at values c
  others_stay c k none =
      never_computed values given c k (λ j v.
      let w = only_attributes given values j c v in
      none w.0 w.1 w.2 w.3 w.4)

  -- words beyond the nodes' values stay
  pub beyond_stays : (c k : ℕ) → value_words t ≤ c → value_at (machine_at g p t values k).values c ≡ value_at values c
  beyond_stays c k h =
      others_stay c k (λ n a e s w. omega (arith, w.inside, attribute_eight given.table given.tree n a w))

  -- values of attributes that do not exist stay
  pub nothing_stays : (n a k : ℕ) → a < 8 → attributes g (symbol_at_node g t n) ≤ a
      → value_at (machine_at g p t values k).values (8 * n + a) ≡ value_at values (8 * n + a)
  nothing_stays n a k h l =
      others_stay (8 * n + a) k (λ m b e s w.
      let b8 : b < 8 = attribute_eight given.table given.tree m b w in
      let mn : m ≡ n = omega arith in
      omega (arith, w.exists, ap (λ (x : ℕ). attributes g (symbol_at_node g t x)) mn))
