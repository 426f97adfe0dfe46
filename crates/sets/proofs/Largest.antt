-- Each set is the largest collection: its members are one, and every other is within it. The sets take attributes by a closed form, the
-- unplaced ones of the class whose unplaced successors are of the class too, and that IDS is transitive makes the two the same. Assumes nothing.
use Prim.Native.Nat.{ℕ, zero, suc, ◌≤◌, ◌<◌}
use mathlib.Core.Path.{◌≡◌, ◌∙◌}
use mathlib.Core.Logic.{inl, inr, ⊎_elim}
use mathlib.Core.List.{List}
use native.Mathlib.Omega.{arith}
use Rattle.basics.proofs.TestLaws.{below_or_not}
use Rattle.grammar.specs.Limits.{most_attributes}
use Rattle.grammar.specs.Table.{attributes}
use Rattle.sets.specs.Paper.{PlacedEarlier, Collection, Largest}
use Rattle.sets.specs.Computed.{most_sets, placed_up_to}
use Rattle.sets.proofs.Placing.{
  Arc,
  number_after,
  TakenInto,
  taken_gets,
  keeps,
  number_at_most,
  later,
  taken_at,
  number_of_attribute,
}

module _ (g ids : List ℕ) (x : ℕ) (few : attributes g x ≤ most_attributes)
    (transitive : (a b c : ℕ) → Arc g ids x a b → Arc g ids x b c → Arc g ids x a c) where
  -- what a set takes has its number in the end
  pub taken_ends : (j a : ℕ) → j < most_sets → TakenInto g ids x (placed_up_to g ids x j) (suc j) a → number_after g ids x most_sets a ≡ suc j
  taken_ends j a h t =
      let e = taken_gets g ids x j a (omega (arith, t.inside)) t in keeps g ids x (suc j) most_sets a h (omega arith) ∙ e

  module _ (j : ℕ) (h : j < most_sets) where
    -- the sets before are those of the attributes placed so far
    placed_earlier : (b : ℕ) → 1 ≤ number_after g ids x j b → PlacedEarlier g x (Arc g ids x) (number_after g ids x most_sets) (suc j) b
    placed_earlier b l =
        omega (arith, keeps g ids x j most_sets b (omega arith) l, number_at_most g ids x j b)

    -- and of no other
    unplaced_not_earlier : (b : ℕ) → number_after g ids x j b ≡ 0
        → PlacedEarlier g x (Arc g ids x) (number_after g ids x most_sets) (suc j) b → ⊥
    unplaced_not_earlier b z l = omega (arith, later g ids x j most_sets b (omega arith) z l.0, l.1)

    -- an unplaced successor of what the set takes is taken too
    takes_successor : (a b : ℕ) → TakenInto g ids x (placed_up_to g ids x j) (suc j) a → Arc g ids x a b → number_after g ids x j b ≡ 0
        → TakenInto g ids x (placed_up_to g ids x j) (suc j) b
    takes_successor a b t r z =
        record {
          inside = r.1;
          free = z;
          class = t.successors b r z;
          successors = λ c q. t.successors c (transitive a b c r q);
        }

    -- the set is a collection
    set_collects : Collection g x (Arc g ids x) (number_after g ids x most_sets) (suc j) (λ a. number_after g ids x most_sets a ≡ suc j)
    set_collects =
        record {
          attribute_of = λ a e. (taken_at g ids x j most_sets a e).inside;
          unplaced = λ a e l. omega (arith, l.1);
          class = λ a e. (taken_at g ids x j most_sets a e).class;
          successors = λ a b e r.
              ⊎_elim (λ l. inr (taken_ends j b h (takes_successor a b (taken_at g ids x j most_sets a e) r (omega arith))))
              (λ l. inl (placed_earlier b l)) (below_or_not (number_after g ids x j b) 1);
        }

    -- a member of any collection is taken
    member_taken : (member : ℕ → Type 0) → Collection g x (Arc g ids x) (number_after g ids x most_sets) (suc j) member
        → (a : ℕ) → member a → TakenInto g ids x (placed_up_to g ids x j) (suc j) a
    member_taken member c a m =
        record {
          inside = c.attribute_of a m;
          free = ⊎_elim (λ l. omega arith) (λ l. absurd (c.unplaced a m (placed_earlier a l))) (below_or_not (number_after g ids x j a) 1);
          class = c.class a m;
          successors = λ b r z.
              ⊎_elim (λ l. absurd (unplaced_not_earlier b z l)) (λ n. c.class b n) (c.successors a b m r);
        }

    -- each of the nine sets is the largest collection, whether all are placed or not
    pub one_of_nine_largest : Largest g x (Arc g ids x) (number_after g ids x most_sets) (suc j)
    one_of_nine_largest =
        record {
          collection = set_collects;
          largest = λ member c a m. taken_ends j a h (member_taken member c a m);
        }

  -- past the ninth set nothing is left to take, where every attribute is placed
  later_largest : ((a : ℕ) → a < attributes g x → 1 ≤ number_after g ids x most_sets a)
      → (k : ℕ) → most_sets < k → Largest g x (Arc g ids x) (number_after g ids x most_sets) k
  later_largest placed k h =
      record {
        collection = record {
          attribute_of = λ a e. number_of_attribute g ids x most_sets a (omega arith);
          unplaced = λ a e l. omega (arith, l.1);
          class = λ a e. absurd (omega (arith, number_at_most g ids x most_sets a));
          successors = λ a b e r. absurd (omega (arith, number_at_most g ids x most_sets a));
        };
        largest = λ member c a m.
            absurd (c.unplaced a m (omega (arith, placed a (c.attribute_of a m), number_at_most g ids x most_sets a)));
      }

  -- "Set k is the largest collection"
  pub set_largest : ((a : ℕ) → a < attributes g x → 1 ≤ number_after g ids x most_sets a)
      → (k : ℕ) → 1 ≤ k → Largest g x (Arc g ids x) (number_after g ids x most_sets) k
  set_largest placed zero h = absurd (omega arith)
  set_largest placed (suc j) h = ⊎_elim (λ l. one_of_nine_largest j l) (λ l. later_largest placed (suc j) (omega arith)) (below_or_not j most_sets)
