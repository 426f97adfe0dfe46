-- The search for a cycle names the lowest rule and in it the lowest occurrence that lies on one, and misses none.
-- Assumes nothing.
use Prim.Native.Nat.{ℕ, ◌<◌}
use mathlib.Core.Logic.{◌↔◌}
use mathlib.Core.Bool.{Bool, not}
use mathlib.Core.List.{List}
use lib.Dec.{T, ltb→lt, T_not}
use Rattle.basics.specs.Tests.{some}
use Rattle.basics.proofs.TestLaws.{and_intro, and_left, and_right, some_at, least_is, least_some}
use Rattle.grammar.specs.Limits.{most_occurrences}
use Rattle.grammar.specs.Table.{rules, rule_counts}
use Rattle.order.specs.Paper.{LowestCycle}
use Rattle.order.specs.Computed.{has_cycle, circular, cycle_rule, cycle_occurrence}

module _ (g : List ℕ) (paths : ℕ → ℕ → ℕ → Bool) (lies : ℕ → ℕ → Type 0)
    (exact : (r o : ℕ) → T (rule_counts g r) → T (paths r o o) ↔ lies r o)
    (inside : (r o : ℕ) → T (rule_counts g r) → lies r o → o < most_occurrences) where
  has_cycle_law : (r o : ℕ) → T (rule_counts g r) → lies r o → T (has_cycle g paths r)
  unfolding has_cycle
  has_cycle_law r o c l = and_intro _ _ c (some_at most_occurrences (λ o. paths r o o) o (inside r o c l) ((exact r o c).1 l))

  rule_counts_law : (r : ℕ) → T (has_cycle g paths r) → T (rule_counts g r)
  unfolding has_cycle
  rule_counts_law r t = and_left _ _ t

  rule_some : (r : ℕ) → T (has_cycle g paths r) → T (some most_occurrences (λ o. paths r o o))
  unfolding has_cycle
  rule_some r t = and_right _ _ t

  -- what the search names lies on a cycle, and nothing lower does
  pub cycle_found : T (circular g paths) → LowestCycle g lies (cycle_rule g paths) (cycle_occurrence g paths)
  unfolding circular cycle_rule cycle_occurrence
  cycle_found t =
      let r = cycle_rule g paths in
      let f = least_is (rules g) (λ r. has_cycle g paths r) in
      let h : T (has_cycle g paths r) = f.passes (least_some (rules g) (λ r. has_cycle g paths r) t) in
      let c : T (rule_counts g r) = rule_counts_law r h in
      let e = least_is most_occurrences (λ o. paths r o o) in
      record {
        counts = c;
        on = (exact r (cycle_occurrence g paths) c).0 (e.passes (least_some most_occurrences (λ o. paths r o o) (rule_some r h)));
        lowest_rule = λ q n l d w. f.lowest q l (has_cycle_law q n d w);
        lowest_occurrence = λ n l w. e.lowest n l ((exact r n c).1 w);
      }

  -- where the search finds nothing, nothing lies on a cycle
  pub cycle_none : T (not (circular g paths)) → (r o : ℕ) → T (rule_counts g r) → lies r o → ⊥
  unfolding circular
  cycle_none t r o c l =
      T_not (circular g paths) t (some_at (rules g) (λ r. has_cycle g paths r) r (ltb→lt r (rules g) c) (has_cycle_law r o c l))
