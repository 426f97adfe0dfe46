-- The total goes by the lengths of the rules that the nodes apply: over the words of a plan in which the sequences stand it is the total
-- over the sequences. Assumes nothing.
use Prim.Native.Nat.{ℕ, zero, suc, ◌+◌, ◌<◌}
use mathlib.Core.Path.{◌≡◌, refl, ap₂}
use mathlib.Core.Bool.{Bool, true, false, cond}
use mathlib.Core.List.{List}
use native.Mathlib.Omega.{arith}
use lib.Dec.{T, lt→ltb}
use lib.ListN.{length}
use Rattle.basics.proofs.TestLaws.{true_T}
use Rattle.grammar.specs.Table.{rules, rule_counts}
use Rattle.plans.specs.Sequences.{sequence_length}
use Rattle.plans.specs.Left.{SequenceStands}
use Rattle.trees.specs.Tree.{nodes, rule_of, applies_rule}
use Rattle.trees.specs.Formed.{TreeFormed}
use Rattle.runs.specs.Totals.{total_up_to, total_of, total}

total_along : (f h : ℕ → ℕ) (t : List ℕ) (n : ℕ) → ((k : ℕ) → k < n → T (applies_rule t k) → f (rule_of t k) ≡ h (rule_of t k))
    → total_up_to f t n ≡ total_up_to h t n
unfolding total_up_to
total_along f h t zero same = refl
total_along f h t (suc n) same =
    ap₂ (λ (a b : ℕ). a + b) (total_along f h t n (λ k l. same k (omega arith)))
    (go (applies_rule t n) (λ e. same n (omega arith) (true_T (applies_rule t n) e)))
  where
    go : (b : Bool) → (b ≡ true → f (rule_of t n) ≡ h (rule_of t n)) → cond b (f (rule_of t n)) 0 ≡ cond b (h (rule_of t n)) 0
    go true e = e refl
    go false e = refl

-- the total over a plan is the total over the sequences that stand in it
pub total_stands : (g p t : List ℕ) (values_length : ℕ) → TreeFormed g t values_length → (sequence : ℕ → List ℕ)
    → ((r : ℕ) → T (rule_counts g r) → SequenceStands p r (sequence r)) → total p t ≡ total_of sequence t
unfolding total total_of
total_stands g p t values_length w sequence stands =
    total_along (λ r. sequence_length p r) (λ r. length (sequence r)) t (nodes t)
    (λ n h a. (stands (rule_of t n) (lt→ltb (rule_of t n) (rules g) (w.rule_known n h a))).length_is)
