-- Two sound plans for one grammar leave the same values on every tree: both leave the only solution, and all else as at entry.
-- Assumes nothing.
use Prim.Native.Nat.{ℕ, ◌+◌, ◌*◌, ◌/◌, ◌%◌, ◌<◌}
use mathlib.Core.Path.{◌≡◌, sym, ◌∙◌, subst}
use mathlib.Core.Logic.{⊎_elim}
use mathlib.Core.List.{List}
use native.Mathlib.Omega.{arith}
use lib.Dec.{T}
use lib.IntN.{ℤ, pos}
use lib.ListN.{length}
use lib.Seq.{ext_get_or}
use Rattle.basics.proofs.TestLaws.{below_or_not}
use Rattle.grammar.specs.Table.{attributes}
use Rattle.trees.specs.Tree.{nodes, applies_rule, symbol_at_node}
use Rattle.trees.specs.Equations.{value_at}
use Rattle.trees.specs.Definers.{AttributeOf}
use Rattle.trees.proofs.Cells.{attribute_eight}
use Rattle.runs.specs.Totals.{total}
use Rattle.runs.specs.Balance.{RunGiven}
use Rattle.runs.specs.Computing.{machine_at}
use Rattle.runs.proofs.ValuesWritten.{values_length}
use Rattle.runs.proofs.Solved.{solved, terminals_stay}
use Rattle.runs.proofs.OnlySolution.{only_solution}
use Rattle.runs.proofs.OthersStay.{others_stay}

-- two sound plans for one grammar leave the same values
pub same_values : {g p q t : List ℕ} (values : List ℤ) → RunGiven g p t (length values) → RunGiven g q t (length values)
    → (machine_at g p t values (total p t)).values ≡ (machine_at g q t values (total q t)).values
same_values {g} {p} {q} {t} values v w =
    ext_get_or (pos 0) (machine_at g p t values (total p t)).values (machine_at g q t values (total q t)).values
    (values_length g p t values (total p t) ∙ sym (values_length g q t values (total q t))) (λ c h. at c)
  where
    outside : (c : ℕ) → (AttributeOf g t (c / 8) (c % 8) → ⊥)
        → value_at (machine_at g p t values (total p t)).values c ≡ value_at (machine_at g q t values (total q t)).values c
    outside c none =
        let no : (n a : ℕ) → c ≡ 8 * n + a → T (applies_rule t n) → AttributeOf g t n a → ⊥ =
        λ n a e s u.
        let a8 : a < 8 = attribute_eight v.table v.tree n a u in
        let n₀ : n ≡ c / 8 = omega arith in
        let a₀ : a ≡ c % 8 = omega arith in
        none (subst (λ (x : ℕ). AttributeOf g t x (c % 8)) n₀ (subst (λ (x : ℕ). AttributeOf g t n x) a₀ u)) in
        others_stay values v c (total p t) no ∙ sym (others_stay values w c (total q t) no)

    inside : (c : ℕ) → AttributeOf g t (c / 8) (c % 8)
        → value_at (machine_at g p t values (total p t)).values c ≡ value_at (machine_at g q t values (total q t)).values c
    inside c u =
        let e : 8 * (c / 8) + c % 8 ≡ c = omega arith in
        subst (λ (x : ℕ). value_at (machine_at g p t values (total p t)).values x ≡ value_at (machine_at g q t values (total q t)).values x) e
        (only_solution values w (machine_at g p t values (total p t)).values (solved values v) (terminals_stay values v (total p t))
        (c / 8) (c % 8) u)

    at : (c : ℕ) → value_at (machine_at g p t values (total p t)).values c ≡ value_at (machine_at g q t values (total q t)).values c
    at c =
        ⊎_elim
        (λ s.
        ⊎_elim (λ r. inside c (record { inside = s; exists = r })) (λ r. outside c (λ u. omega (arith, u.exists)))
        (below_or_not (c % 8) (attributes g (symbol_at_node g t (c / 8)))))
        (λ s. outside c (λ u. omega (arith, u.inside))) (below_or_not (c / 8) (nodes t))
