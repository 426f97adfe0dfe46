-- Nine sets place every attribute, and only set 1 can be empty. What is left after a set has a sink, and a sink that this set did not take is
-- of the other class, so the next set takes it: each set after the first places one attribute at least. Assumes nothing.
use Prim.Native.Nat.{ℕ, zero, suc, ◌≤◌, ◌<◌}
use mathlib.Core.Path.{◌≡◌, refl, ◌∙◌}
use mathlib.Core.Logic.{◌⊎◌, inl, inr, ⊎_elim}
use mathlib.Core.Bool.{true}
use mathlib.Core.List.{List}
use native.Mathlib.Omega.{arith}
use lib.Dec.{T, ltb, ltb→lt, lt→ltb, eqb→eq, not_T}
use Rattle.basics.specs.Tests.{count}
use Rattle.basics.proofs.TestLaws.{below_or_not, eq_T, count_le, count_more}
use Rattle.grammar.specs.Limits.{most_attributes}
use Rattle.grammar.specs.Table.{attributes}
use Rattle.relations.specs.Computed.{arc_in}
use Rattle.sets.specs.Paper.{of_class, Sets}
use Rattle.sets.specs.Computed.{most_sets, unplaced, placed_up_to}
use Rattle.sets.proofs.Classes.{class_or_next}
use Rattle.sets.proofs.Sinks.{Sink, sink_exists}
use Rattle.sets.proofs.Placing.{
  Arc,
  number_after,
  TakenInto,
  taken_gets,
  step_cases,
  keeps,
  unplaced_before,
  unplaced_until,
  number_at_most,
  number_of_attribute,
  number_of_nothing,
}
use Rattle.sets.proofs.Largest.{taken_ends, set_largest}

module _ (g ids : List ℕ) (x : ℕ) (few : attributes g x ≤ most_attributes)
    (transitive : (a b c : ℕ) → Arc g ids x a b → Arc g ids x b c → Arc g ids x a c)
    (acyclic : (a : ℕ) → Arc g ids x a a → ⊥) where
  -- a sink among what is left after k sets
  left_sink : (k a : ℕ) → a < attributes g x → number_after g ids x k a ≡ 0
      → Sink (attributes g x) (λ a b. arc_in ids x a b) (λ b. unplaced (placed_up_to g ids x k) b)
  left_sink k a l z =
      sink_exists (attributes g x) (λ a b. arc_in ids x a b) (λ b. unplaced (placed_up_to g ids x k) b)
      (λ a b c h i j r s. (transitive a b c (h, i, r) (i, j, s)).2) (λ a h r. acyclic a (h, h, r)) a l
      (eq_T (number_after g ids x k a) 0 z)

  -- the next set takes an attribute, where one is left after a set
  next_takes : (k a : ℕ) → a < attributes g x → number_after g ids x (suc k) a ≡ 0
      → (s : ℕ) × TakenInto g ids x (placed_up_to g ids x (suc k)) (suc (suc k)) s
  next_takes k a l z =
      let w = left_sink (suc k) a l z in
      (w.sink, taken w (class_or_next g x (suc k) w.sink))
    where
      taken : (w : Sink (attributes g x) (λ a b. arc_in ids x a b) (λ b. unplaced (placed_up_to g ids x (suc k)) b))
          → T (of_class g x (suc k) w.sink) ⊎ T (of_class g x (suc (suc k)) w.sink)
          → TakenInto g ids x (placed_up_to g ids x (suc k)) (suc (suc k)) w.sink
      taken w (inl c) =
          let free : number_after g ids x (suc k) w.sink ≡ 0 = eqb→eq (number_after g ids x (suc k) w.sink) 0 w.passes in
          absurd (omega (
            arith,
            taken_gets g ids x k w.sink (omega (arith, w.inside)) (record {
              inside = w.inside;
              free = unplaced_before g ids x k (suc k) w.sink (omega arith) free;
              class = c;
              successors = λ b r y.
                  ⊎_elim (λ t. t.0.class)
                  (λ e. absurd (w.ends b r.1 r.2 (eq_T (number_after g ids x (suc k) b) 0 (e ∙ y)))) (step_cases g ids x k b);
            }),
          ))
      taken w (inr c) =
          record {
            inside = w.inside;
            free = eqb→eq (number_after g ids x (suc k) w.sink) 0 w.passes;
            class = c;
            successors = λ b r y. absurd (w.ends b r.1 r.2 (eq_T (number_after g ids x (suc k) b) 0 y));
          }

  -- how many attributes have a number after k sets
  placed_count : ℕ → ℕ
  placed_count k = count (attributes g x) (λ b. ltb 0 (number_after g ids x k b))

  -- a set that takes an attribute raises the count
  grows : (k s : ℕ) → TakenInto g ids x (placed_up_to g ids x k) (suc k) s → placed_count k < placed_count (suc k)
  unfolding placed_count
  grows k s t =
      count_more (attributes g x) (λ b. ltb 0 (number_after g ids x k b)) (λ b. ltb 0 (number_after g ids x (suc k) b))
      (λ b l p.
      let h : 1 ≤ number_after g ids x k b = ltb→lt 0 (number_after g ids x k b) p in
      lt→ltb 0 (number_after g ids x (suc k) b) (omega (arith, keeps g ids x k (suc k) b (omega arith) h)))
      s t.inside
      (not_T (ltb 0 (number_after g ids x k s)) (λ p. omega (arith, ltb→lt 0 (number_after g ids x k s) p, t.free)))
      (lt→ltb 0 (number_after g ids x (suc k) s) (omega (arith, taken_gets g ids x k s (omega (arith, t.inside)) t)))

  -- where one is left after k + 1 sets, k are placed at least
  many_placed : (k a : ℕ) → a < attributes g x → number_after g ids x (suc k) a ≡ 0 → k ≤ placed_count (suc k)
  many_placed zero a l z = omega arith
  many_placed (suc k) a l z =
      let before = unplaced_before g ids x (suc k) (suc (suc k)) a (omega arith) z in
      let w = next_takes k a l before in
      omega (arith, many_placed k a l before, grows (suc k) w.0 w.1)

  -- every attribute is placed after nine sets
  pub all_placed : (a : ℕ) → a < attributes g x → 1 ≤ number_after g ids x most_sets a
  unfolding placed_count
  all_placed a l =
      ⊎_elim
      (λ h.
      let z : number_after g ids x most_sets a ≡ 0 = omega arith in
      absurd (omega (
        arith,
        many_placed 8 a l z,
        count_le (attributes g x) (λ b. true),
        count_more (attributes g x) (λ b. ltb 0 (number_after g ids x most_sets b)) (λ b. true) (λ b i p. tt) a l
            (not_T (ltb 0 (number_after g ids x most_sets a)) (λ p. omega (arith, ltb→lt 0 (number_after g ids x most_sets a) p))) tt,
      )))
      (λ h. h) (below_or_not (number_after g ids x most_sets a) 1)

  -- the numbers are those of the sets
  pub are_the_sets : Sets g x (Arc g ids x) (number_after g ids x most_sets)
  are_the_sets =
      record {
        each = λ k h. set_largest g ids x few transitive all_placed k h;
        placed = all_placed;
        nothing = λ a h. number_of_nothing g ids x most_sets a h;
      }

  -- only set 1 can be empty: below a number that an attribute has, every number from 2 is had
  pub only_first_empty : (a j : ℕ) → 2 ≤ j → j ≤ number_after g ids x most_sets a
      → (b : ℕ) × (b < attributes g x) × (number_after g ids x most_sets b ≡ j)
  only_first_empty a zero h l = absurd (omega arith)
  only_first_empty a (suc zero) h l = absurd (omega arith)
  only_first_empty a (suc (suc i)) h l =
      let most = number_at_most g ids x most_sets a in
      let w = next_takes i a (number_of_attribute g ids x most_sets a (omega arith))
      (unplaced_until g ids x (suc i) most_sets a (omega arith) (omega arith)) in
      (w.0, w.1.inside, taken_ends g ids x few transitive (suc i) w.0 (omega arith) w.1)

  -- an arc leads to the same set or an earlier one
  pub arcs_down : (a b : ℕ) → Arc g ids x a b → number_after g ids x most_sets b ≤ number_after g ids x most_sets a
  arcs_down a b r =
      ⊎_elim (λ e. omega (arith, e.1)) (λ e. omega arith)
      ((are_the_sets.each (number_after g ids x most_sets a) (all_placed a r.0)).collection.successors a b refl r)
