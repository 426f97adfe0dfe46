-- The order of the cases 12 to 18 as one number, the key: the walk of a case first, then its node, and 13 before 14 at one node. A case that is
-- earlier has the lower key. Assumes nothing.
use Prim.Native.Nat.{ℕ, ◌+◌, ◌*◌, ◌-◌, ◌≤◌, ◌<◌}
use mathlib.Core.Path.{◌≡◌, ap}
use mathlib.Core.Logic.{◌⊎◌, inl, inr, ⊎_elim}
use mathlib.Core.Bool.{cond}
use mathlib.Core.List.{List}
use native.Mathlib.Omega.{arith}
use lib.Dec.{eqb}
use Rattle.basics.proofs.ListLaws.{block_inside}
use Rattle.refusals.specs.declared.Refusal.{Refusal}
use Rattle.refusals.specs.Numbers.{number_of, place_of, second_of}
use Rattle.trees.specs.Tree.{nodes}
use Rattle.cases.specs.First.{edp_walk, walk, Earlier, earlier_walk, earlier_place, lower_occurrence, lower_number}
use Rattle.cases.specs.TreeCases.{TreeCase}
use Rattle.cases.specs.TreeCases as case

-- the walk of a case 12 to 18, by its number: 14 is met in the walk of 13
abbrev tree_walk : Refusal → ℕ
tree_walk n = cond (eqb (number_of n) 14) 13 (number_of n)

-- the order of these cases as one number: by walk, then by node, 13 before 14
abbrev pub key : List ℕ → Refusal → ℕ
key t n = tree_walk n * (2 * nodes t + 2) + 2 * place_of n + (number_of n - tree_walk n)

module _ (g t : List ℕ) (l : ℕ) where
  -- Where each case stands in the order.
  pub record Place (n : Refusal) : Type 0 where
    pub late : edp_walk < walk g n
    pub bounds : (tree_walk n ≤ number_of n) × (number_of n ≤ tree_walk n + 1)
    pub node : place_of n ≤ nodes t
    pub single : second_of n ≡ 0
    pub walk_is : ((walk g n ≤ edp_walk + 2) × (tree_walk n ≡ walk g n + 5)) ⊎ ((edp_walk + 2 < walk g n) × (tree_walk n ≡ walk g n + 6))

  pub tree_place : (n : Refusal) → TreeCase g t l n → Place n
  tree_place n (case.broken_node c) =
      record { late = omega arith; bounds = omega arith; node = omega arith; single = omega arith; walk_is = inl (omega arith) }
  tree_place n (case.no_nodes c) =
      record { late = omega arith; bounds = omega arith; node = omega arith; single = omega arith; walk_is = inl (omega arith) }
  tree_place n (case.too_many_nodes c) =
      record { late = omega arith; bounds = omega arith; node = omega arith; single = omega arith; walk_is = inl (omega arith) }
  tree_place n (case.unknown_word m h c d) =
      record { late = omega arith; bounds = omega arith; node = omega arith; single = omega arith; walk_is = inl (omega arith) }
  tree_place n (case.child_not_above m i c w h) =
      record { late = omega arith; bounds = omega arith; node = omega (arith, w.inside); single = omega arith; walk_is = inl (omega arith) }
  tree_place n (case.child_no_node m i c w h) =
      record { late = omega arith; bounds = omega arith; node = omega (arith, w.inside); single = omega arith; walk_is = inl (omega arith) }
  tree_place n (case.unused_not_zero m i h a b c) =
      record { late = omega arith; bounds = omega arith; node = omega arith; single = omega arith; walk_is = inl (omega arith) }
  tree_place n (case.root_differs c) =
      record { late = omega arith; bounds = omega arith; node = omega arith; single = omega arith; walk_is = inr (omega arith) }
  tree_place n (case.child_differs m i c w d) =
      record { late = omega arith; bounds = omega arith; node = omega (arith, w.inside); single = omega arith; walk_is = inr (omega arith) }
  tree_place n (case.never_child c a h none) =
      record { late = omega arith; bounds = omega arith; node = omega arith; single = omega arith; walk_is = inr (omega arith) }
  tree_place n (case.child_twice c m i q j a h v w d) =
      record { late = omega arith; bounds = omega arith; node = omega arith; single = omega arith; walk_is = inr (omega arith) }
  tree_place n (case.few_values c) =
      record { late = omega arith; bounds = omega arith; node = omega arith; single = omega arith; walk_is = inr (omega arith) }

  -- The order of the cases is that of their keys.
  later_step : (m n : Refusal) → Place m → Place n → walk g m < walk g n → tree_walk m < tree_walk n
  later_step m n x y s = ⊎_elim (λ u. ⊎_elim (λ v. omega arith) (λ v. omega arith) y.walk_is) (λ u. ⊎_elim (λ v. absurd (omega arith)) (λ v. omega arith) y.walk_is) x.walk_is

  same_step : (m n : Refusal) → Place m → Place n → walk g m ≡ walk g n → tree_walk m ≡ tree_walk n
  same_step m n x y s =
      ⊎_elim (λ u. ⊎_elim (λ v. omega arith) (λ v. absurd (omega arith)) y.walk_is) (λ u. ⊎_elim (λ v. absurd (omega arith)) (λ v. omega arith) y.walk_is) x.walk_is

  pub keys_order : (m n : Refusal) → TreeCase g t l m → TreeCase g t l n → Earlier g m n → key t m < key t n
  keys_order m n c d e = go (tree_place m c) (tree_place n d) e
    where
      go : Place m → Place n → Earlier g m n → key t m < key t n
      go x y (earlier_walk s) =
          omega (
            arith,
            block_inside (2 * nodes t + 2) (tree_walk m) (2 * place_of m + (number_of m - tree_walk m)) (tree_walk n) (later_step m n x y s)
                (omega (arith, x.bounds, x.node)),
          )
      go x y (earlier_place w s) = omega (arith, ap (λ (k : ℕ). k * (2 * nodes t + 2)) (same_step m n x y w), x.bounds)
      go x y (lower_occurrence w e s) = absurd (omega (arith, y.single))
      go x y (lower_number w e u s) = omega (arith, ap (λ (k : ℕ). k * (2 * nodes t + 2)) (same_step m n x y w), same_step m n x y w, x.bounds, y.bounds)
