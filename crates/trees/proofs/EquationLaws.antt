-- A function looks at the cells of its arguments only: values that agree there give it the same value.
-- Assumes nothing.
use Prim.Native.Nat.{ℕ, ◌<◌}
use mathlib.Core.Path.{◌≡◌, refl}
use mathlib.Core.Bool.{Bool, true, false, cond}
use mathlib.Core.List.{List}
use lib.Dec.{ltb, ltb→lt}
use lib.IntN.{ℤ, pos}
use Rattle.basics.proofs.TestLaws.{true_T}
use Rattle.values.specs.Value.{constant}
use Rattle.grammar.specs.Table.{operation, argument, arguments, is_constant}
use Rattle.trees.specs.Tree.{rule_of, cell}
use Rattle.trees.specs.Equations.{value_at, argument_value, function_value}

module _ (g t : List ℕ) (v w : List ℤ) (n k : ℕ)
    (same : (j : ℕ) → j < arguments g (rule_of t n) k
    → value_at v (cell t n (argument g (rule_of t n) k j)) ≡ value_at w (cell t n (argument g (rule_of t n) k j))) where
  same_argument : (j : ℕ) → argument_value g t v n k j ≡ argument_value g t w n k j
  unfolding argument_value
  same_argument j = go (is_constant (operation g (rule_of t n) k)) (ltb j (arguments g (rule_of t n) k)) refl
    where
      go : (b c : Bool) → ltb j (arguments g (rule_of t n) k) ≡ c
          → cond b (constant (argument g (rule_of t n) k 0)) (cond c (value_at v (cell t n (argument g (rule_of t n) k j))) (pos 0))
          ≡ cond b (constant (argument g (rule_of t n) k 0)) (cond c (value_at w (cell t n (argument g (rule_of t n) k j))) (pos 0))
      go true c e = refl
      go false true e = same j (ltb→lt j (arguments g (rule_of t n) k) (true_T _ e))
      go false false e = refl

  -- values that agree on a function's arguments give it the same value
  pub same_function : function_value g t v n k ≡ function_value g t w n k
  unfolding function_value
  same_function = cc (same_argument 0, same_argument 1, same_argument 2, same_argument 3)
