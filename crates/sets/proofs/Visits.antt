-- Visits: a set number belongs to a visit from 1 to v, sets 1 and 2 to the last, and visit n has one even and one odd set.
-- First for any set words, then for those of a plan, where m is at most 9 and v at most 5. Assumes nothing.
use Prim.Native.Nat.{ℕ, zero, suc, ◌+◌, ◌*◌, ◌-◌, ◌%◌, ◌≤◌, ◌<◌, max}
use mathlib.Core.Path.{◌≡◌, refl, ◌∙◌, ap, ap₂}
use mathlib.Core.Logic.{⊎_elim}
use mathlib.Core.Bool.{not}
use mathlib.Core.List.{List}
use native.Mathlib.Omega.{arith}
use lib.Dec.{T}
use Rattle.basics.proofs.TestLaws.{below_or_not, below_suc}
use Rattle.grammar.specs.Limits.{most_attributes}
use Rattle.grammar.specs.Table.{inherited}
use Rattle.sets.specs.Paper.{of_class}
use Rattle.sets.specs.Visits.{set_number, highest, last_set, visits, visit_of_set, visit_of}
use Rattle.sets.specs.Computed.{most_sets, sets_of}
use Rattle.sets.proofs.Classes.{inherited_even, synthesized_odd}
use Rattle.sets.proofs.SetWords.{number_nine}

-- the highest is an upper bound
pub highest_bounds : (n : ℕ) (f : ℕ → ℕ) (i : ℕ) → i < n → f i ≤ highest n f
unfolding highest
highest_bounds zero f i h = absurd (omega arith)
highest_bounds (suc n) f i h =
    ⊎_elim (λ l. omega (arith, highest_bounds n f i l)) (λ e. omega (arith, ap f e)) (below_suc i n h)

-- and the least one
pub highest_least : (n : ℕ) (f : ℕ → ℕ) (m : ℕ) → ((i : ℕ) → i < n → f i ≤ m) → highest n f ≤ m
unfolding highest
highest_least zero f m h = omega arith
highest_least (suc n) f m h = omega (arith, highest_least n f m (λ i l. h i (omega arith)), h n (omega arith))

-- and it is reached, unless it is 0
pub highest_reached : (n : ℕ) (f : ℕ → ℕ) → 1 ≤ highest n f → (i : ℕ) × (i < n) × (f i ≡ highest n f)
unfolding highest
highest_reached zero f h = absurd (omega arith)
highest_reached (suc n) f h =
    ⊎_elim
    (λ l. let w = highest_reached n f (omega arith) in (w.0, omega (arith, w.1), omega (arith, w.2)))
    (λ l. (n, omega arith, omega arith)) (below_or_not (f n) (highest n f))

-- it depends on the numbers below n alone
pub highest_same : (n : ℕ) (f h : ℕ → ℕ) → ((i : ℕ) → i < n → f i ≡ h i) → highest n f ≡ highest n h
unfolding highest
highest_same zero f h e = refl
highest_same (suc n) f h e = ap₂ max (highest_same n f h (λ i l. e i (omega arith))) (e n (omega arith))

module _ (s : List ℕ) (x : ℕ) where
  -- m is the highest of the set numbers
  pub number_to_last : (a : ℕ) → a < most_attributes → set_number s x a ≤ last_set s x
  unfolding last_set
  number_to_last a l = highest_bounds most_attributes (λ a. set_number s x a) a l

  -- and some attribute has it
  pub last_reached : 1 ≤ last_set s x → (a : ℕ) × (a < most_attributes) × (set_number s x a ≡ last_set s x)
  unfolding last_set
  last_reached h = highest_reached most_attributes (λ a. set_number s x a) h

  -- "but at least 1"
  pub some_visit : 1 ≤ visits s x
  unfolding visits
  some_visit = omega arith

  -- the visits of the sets up to m start with 1
  pub visit_from_one : (k : ℕ) → k ≤ last_set s x → 1 ≤ visit_of_set s x k
  unfolding visits visit_of_set
  visit_from_one k h = omega arith

  -- the visits end with v
  pub visit_to_last : (k : ℕ) → 1 ≤ k → visit_of_set s x k ≤ visits s x
  unfolding visits visit_of_set
  visit_to_last k h = omega arith

  -- a placed attribute belongs to a visit from 1 to v
  pub visit_inside : (a : ℕ) → a < most_attributes → 1 ≤ set_number s x a → (1 ≤ visit_of s x a) × (visit_of s x a ≤ visits s x)
  unfolding visit_of
  visit_inside a l h = (visit_from_one (set_number s x a) (number_to_last a l), visit_to_last (set_number s x a) h)

  -- sets 1 and 2 belong to the last visit, also where set 1 is empty
  pub last_visit : (k : ℕ) → 1 ≤ k → k ≤ 2 → visit_of_set s x k ≡ visits s x
  unfolding visits visit_of_set
  last_visit k h l = omega arith

  -- visit n has the even set 2 (v + 1 - n)
  pub even_set : (k : ℕ) → k ≤ last_set s x → k % 2 ≡ 0 → k ≡ 2 * (visits s x + 1 - visit_of_set s x k)
  unfolding visits visit_of_set
  even_set k h e = omega arith

  -- and the odd set below it
  pub odd_set : (k : ℕ) → k ≤ last_set s x → k % 2 ≡ 1 → k ≡ 2 * (visits s x + 1 - visit_of_set s x k) - 1
  unfolding visits visit_of_set
  odd_set k h e = omega arith

  -- the inherited attributes of visit n are in its even set
  pub inherited_set : (g : List ℕ) (a n : ℕ) → a < most_attributes → T (of_class g x (set_number s x a) a) → T (inherited g x a)
      → visit_of s x a ≡ n → set_number s x a ≡ 2 * (visits s x + 1 - n)
  unfolding visit_of
  inherited_set g a n l c i e =
      even_set (set_number s x a) (number_to_last a l) (inherited_even g x (set_number s x a) a c i)
      ∙ ap (λ (j : ℕ). 2 * (visits s x + 1 - j)) e

  -- the synthesized ones in its odd set
  pub synthesized_set : (g : List ℕ) (a n : ℕ) → a < most_attributes → T (of_class g x (set_number s x a) a) → T (not (inherited g x a))
      → visit_of s x a ≡ n → set_number s x a ≡ 2 * (visits s x + 1 - n) - 1
  unfolding visit_of
  synthesized_set g a n l c i e =
      odd_set (set_number s x a) (number_to_last a l) (synthesized_odd g x (set_number s x a) a c i)
      ∙ ap (λ (j : ℕ). 2 * (visits s x + 1 - j) - 1) e

module _ (g ids : List ℕ) (x : ℕ) where
  -- "m is at most 9"
  pub last_set_nine : last_set (sets_of g ids) x ≤ most_sets
  unfolding last_set
  last_set_nine = highest_least most_attributes (λ a. set_number (sets_of g ids) x a) most_sets (λ a l. number_nine g ids x a l)

  -- "v at most 5"
  pub visits_five : visits (sets_of g ids) x ≤ 5
  unfolding visits
  visits_five = omega (arith, last_set_nine)
