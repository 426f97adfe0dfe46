-- The sets depend on the words of IDS alone: two lists that have the same words give the same sets.
-- Assumes nothing.
use Prim.Native.Nat.{ℕ, zero, suc, ◌+◌, ◌*◌}
use mathlib.Core.Path.{◌≡◌, refl, ◌∙◌, ap, fun_ext}
use mathlib.Core.Bool.{Bool, cond}
use mathlib.Core.List.{List}
use lib.Dec.{ltb}
use lib.ListN.{replicate}
use Rattle.bits.specs.Bit.{hasb}
use Rattle.basics.specs.Tests.{◌and◌, ◌implies◌, all}
use Rattle.basics.specs.Lists.{word, tabulate, blocks}
use Rattle.grammar.specs.Limits.{most_symbols, most_attributes}
use Rattle.grammar.specs.Table.{nonterminal, attributes, symbol_counts}
use Rattle.relations.specs.Computed.{arc_in}
use Rattle.sets.specs.Paper.{of_class}
use Rattle.sets.specs.Computed.{most_sets, unplaced, takes, placed_up_to, sets_of_symbol, sets_of}

module _ (g ids other : List ℕ) (same : (x : ℕ) → word ids x ≡ word other x) where
  takes_same : (x : ℕ) (placed : List ℕ) (k a : ℕ) → takes g ids x placed k a ≡ takes g other x placed k a
  unfolding takes arc_in
  takes_same x placed k a =
      ap (λ (w : ℕ). ltb a (attributes g x) and unplaced placed a and of_class g x k a
      and all (attributes g x) (λ b. (hasb (8 * a + b) w and unplaced placed b) implies of_class g x k b)) (same x)

  placed_same : (x k : ℕ) → placed_up_to g ids x k ≡ placed_up_to g other x k
  unfolding placed_up_to
  placed_same x zero = refl
  placed_same x (suc k) =
      ap (λ (placed : List ℕ). tabulate most_attributes (λ a. cond (takes g ids x placed (suc k) a) (suc k) (word placed a))) (placed_same x k)
      ∙ ap (tabulate most_attributes)
      (fun_ext (λ a.
      ap (λ (t : Bool). cond t (suc k) (word (placed_up_to g other x k) a)) (takes_same x (placed_up_to g other x k) (suc k) a)))

  pub sets_same : sets_of g ids ≡ sets_of g other
  unfolding sets_of sets_of_symbol
  sets_same =
      ap (blocks most_symbols)
      (fun_ext (λ x.
      ap (λ (p : List ℕ). cond (symbol_counts g x and nonterminal g x) p (replicate most_attributes 0)) (placed_same x most_sets)))
