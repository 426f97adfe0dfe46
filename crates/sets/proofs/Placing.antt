-- What each of the nine steps does to each attribute: set k takes it or leaves its number as it was, and a number once given stays.
-- So the number that an attribute has at the end tells at which step it was taken. Assumes nothing.
use Prim.Native.Nat.{ℕ, zero, suc, ◌≤◌, ◌<◌}
use mathlib.Core.Path.{◌≡◌, refl, sym, ◌∙◌, ap, subst}
use mathlib.Core.Logic.{◌⊎◌, inl, inr, ⊎_elim}
use mathlib.Core.Bool.{Bool, true, false, cond, not}
use mathlib.Core.List.{List}
use native.Mathlib.Omega.{arith}
use lib.Dec.{T, ltb→lt, lt→ltb, eqb→eq}
use lib.ListN.{length, replicate, length-replicate, get_or-replicate, get_or-eq_default}
use Rattle.basics.specs.Lists.{word}
use Rattle.basics.proofs.TestLaws.{
  and_intro,
  and_left,
  and_right,
  implies_intro,
  implies_use,
  tested,
  eq_T,
  below_or_not,
  below_suc,
  all_at,
  all_intro,
}
use Rattle.basics.proofs.ListLaws.{length_tabulate, get_d_tabulate}
use Rattle.grammar.specs.Limits.{most_attributes}
use Rattle.grammar.specs.Table.{attributes}
use Rattle.relations.specs.Computed.{arc_in}
use Rattle.sets.specs.Paper.{of_class}
use Rattle.sets.specs.Computed.{takes, placed_up_to}

-- a list of zeros has 0 at every place
pub word_zeros : (n i : ℕ) → word (replicate n 0) i ≡ 0
word_zeros n i =
    ⊎_elim (λ l. get_or-replicate n i 0 0 l)
    (λ l. get_or-eq_default (replicate n 0) 0 (omega (arith, length-replicate {A = ℕ} n 0))) (below_or_not i n)

-- the IDS arcs of symbol x, between its attributes
abbrev pub Arc : List ℕ → List ℕ → ℕ → ℕ → ℕ → Type 0
Arc g ids x a b = (a < attributes g x) × (b < attributes g x) × T (arc_in ids x a b)

-- the number of attribute a with sets 1 to k placed, 0 where it has none yet
abbrev pub number_after : List ℕ → List ℕ → ℕ → ℕ → ℕ → ℕ
number_after g ids x k a = word (placed_up_to g ids x k) a

-- set k takes attribute a: it is an unplaced attribute of the class, and its unplaced successors are of the class too
pub record TakenInto (g ids : List ℕ) (x : ℕ) (placed : List ℕ) (k a : ℕ) : Type 0 where
  pub inside : a < attributes g x
  pub free : word placed a ≡ 0
  pub class : T (of_class g x k a)
  pub successors : (b : ℕ) → Arc g ids x a b → word placed b ≡ 0 → T (of_class g x k b)

module _ (g ids : List ℕ) (x : ℕ) where
  -- the test of set k passes where this holds
  pub takes_where : (placed : List ℕ) (k a : ℕ) → TakenInto g ids x placed k a → T (takes g ids x placed k a)
  unfolding takes
  takes_where placed k a t =
      and_intro _ _ (lt→ltb a (attributes g x) t.inside)
      (and_intro _ _ (eq_T (word placed a) 0 t.free)
      (and_intro _ _ t.class
      (all_intro (attributes g x) _ (λ b l.
      implies_intro _ _ (λ p. t.successors b (t.inside, l, and_left _ _ p) (eqb→eq (word placed b) 0 (and_right _ _ p)))))))

  -- what the test of set k says, once it has passed
  pub takes_means : (placed : List ℕ) (k a : ℕ) → T (takes g ids x placed k a) → TakenInto g ids x placed k a
  unfolding takes
  takes_means placed k a t =
      record {
        inside = ltb→lt a (attributes g x) (and_left _ _ t);
        free = eqb→eq (word placed a) 0 (and_left _ _ (and_right _ _ t));
        class = and_left _ _ (and_right _ _ (and_right _ _ t));
        successors = λ b r z.
            implies_use _ _ (all_at (attributes g x) _ (and_right _ _ (and_right _ _ (and_right _ _ t))) b r.1)
            (and_intro _ _ r.2 (eq_T (word placed b) 0 z));
      }

  -- eight words, whatever is placed
  pub length_placed : (k : ℕ) → length (placed_up_to g ids x k) ≡ most_attributes
  unfolding placed_up_to
  length_placed zero = length-replicate {A = ℕ} most_attributes 0
  length_placed (suc k) =
      length_tabulate most_attributes (λ a. cond (takes g ids x (placed_up_to g ids x k) (suc k) a) (suc k) (number_after g ids x k a))

  -- at first no attribute has a number
  pub none_at_first : (a : ℕ) → number_after g ids x 0 a ≡ 0
  unfolding placed_up_to
  none_at_first a = word_zeros most_attributes a

  -- nothing stands past the eighth word
  pub none_past : (k a : ℕ) → most_attributes ≤ a → number_after g ids x k a ≡ 0
  none_past k a h = get_or-eq_default (placed_up_to g ids x k) 0 (omega (arith, length_placed k))

  -- one step, at one attribute
  pub one_step : (k a : ℕ) → a < most_attributes
      → number_after g ids x (suc k) a ≡ cond (takes g ids x (placed_up_to g ids x k) (suc k) a) (suc k) (number_after g ids x k a)
  unfolding placed_up_to
  one_step k a h =
      get_d_tabulate most_attributes (λ a. cond (takes g ids x (placed_up_to g ids x k) (suc k) a) (suc k) (number_after g ids x k a)) 0 a h

  -- what set k + 1 takes gets the number k + 1
  pub taken_gets : (k a : ℕ) → a < most_attributes → TakenInto g ids x (placed_up_to g ids x k) (suc k) a → number_after g ids x (suc k) a ≡ suc k
  taken_gets k a h t =
      one_step k a h
      ∙ go (takes g ids x (placed_up_to g ids x k) (suc k) a) (takes_where (placed_up_to g ids x k) (suc k) a t)
    where
      go : (b : Bool) → T b → cond b (suc k) (number_after g ids x k a) ≡ suc k
      go true p = refl
      go false p = absurd p

  -- a step takes the attribute or leaves its number
  pub step_cases : (k a : ℕ) → (TakenInto g ids x (placed_up_to g ids x k) (suc k) a × (number_after g ids x (suc k) a ≡ suc k))
      ⊎ (number_after g ids x (suc k) a ≡ number_after g ids x k a)
  step_cases k a =
      ⊎_elim
      (λ l.
      ⊎_elim (λ t. let w = takes_means (placed_up_to g ids x k) (suc k) a t in inl (w, taken_gets k a l w))
      (λ t. inr (one_step k a l ∙ left (takes g ids x (placed_up_to g ids x k) (suc k) a) t))
      (tested (takes g ids x (placed_up_to g ids x k) (suc k) a)))
      (λ l. inr (none_past (suc k) a l ∙ sym (none_past k a l))) (below_or_not a most_attributes)
    where
      left : (b : Bool) → T (not b) → cond b (suc k) (number_after g ids x k a) ≡ number_after g ids x k a
      left true p = absurd p
      left false p = refl

  step_keeps : (k a : ℕ) → 1 ≤ number_after g ids x k a → number_after g ids x (suc k) a ≡ number_after g ids x k a
  step_keeps k a h = ⊎_elim (λ t. absurd (omega (arith, t.0.free))) (λ e. e) (step_cases k a)

  -- once placed, an attribute keeps its number
  pub keeps : (j k a : ℕ) → j ≤ k → 1 ≤ number_after g ids x j a → number_after g ids x k a ≡ number_after g ids x j a
  keeps j zero a l h = let e : j ≡ 0 = omega arith in rw e
  keeps j (suc k) a l h =
      ⊎_elim
      (λ p. let e = keeps j k a (omega arith) h in step_keeps k a (omega arith) ∙ e)
      (λ e. rw e) (below_suc j (suc k) (omega arith))

  -- what is unplaced after k sets was so before
  pub unplaced_before : (j k a : ℕ) → j ≤ k → number_after g ids x k a ≡ 0 → number_after g ids x j a ≡ 0
  unplaced_before j k a l z =
      ⊎_elim (λ h. omega arith) (λ h. absurd (omega (arith, keeps j k a l h))) (below_or_not (number_after g ids x j a) 1)

  -- with sets 1 to k placed the numbers are at most k
  pub number_at_most : (k a : ℕ) → number_after g ids x k a ≤ k
  number_at_most zero a = omega (arith, none_at_first a)
  number_at_most (suc k) a =
      ⊎_elim (λ t. omega (arith, t.1)) (λ e. omega (arith, number_at_most k a)) (step_cases k a)

  -- what is unplaced after j sets gets a higher number or none
  pub later : (j k a : ℕ) → j ≤ k → number_after g ids x j a ≡ 0 → 1 ≤ number_after g ids x k a → j < number_after g ids x k a
  later j zero a l z h = absurd (omega (arith, none_at_first a))
  later j (suc k) a l z h =
      ⊎_elim
      (λ p.
      ⊎_elim (λ t. omega (arith, t.1)) (λ e. omega (arith, later j k a (omega arith) z (omega arith))) (step_cases k a))
      (λ e. absurd (omega (arith, ap (λ (i : ℕ). number_after g ids x i a) e))) (below_suc j (suc k) (omega arith))

  -- an attribute is unplaced until the set of its number
  pub unplaced_until : (j k a : ℕ) → j ≤ k → j < number_after g ids x k a → number_after g ids x j a ≡ 0
  unplaced_until j k a l m =
      ⊎_elim (λ h. omega arith) (λ h. absurd (omega (arith, keeps j k a l h, number_at_most j a)))
      (below_or_not (number_after g ids x j a) 1)

  -- an attribute with number j + 1 was taken at that step
  pub taken_at : (j k a : ℕ) → number_after g ids x k a ≡ suc j → TakenInto g ids x (placed_up_to g ids x j) (suc j) a
  taken_at j zero a e = absurd (omega (arith, none_at_first a))
  taken_at j (suc k) a e =
      ⊎_elim (λ t. let q : k ≡ j = omega (arith, t.1) in subst (λ (i : ℕ). TakenInto g ids x (placed_up_to g ids x i) (suc i) a) q t.0)
      (λ q. taken_at j k a (sym q ∙ e)) (step_cases k a)

  -- only attributes are placed
  pub number_of_attribute : (k a : ℕ) → 1 ≤ number_after g ids x k a → a < attributes g x
  number_of_attribute zero a h = absurd (omega (arith, none_at_first a))
  number_of_attribute (suc k) a h =
      ⊎_elim (λ t. t.0.inside) (λ e. number_of_attribute k a (omega arith)) (step_cases k a)

  -- where nothing stands there is no number
  pub number_of_nothing : (k a : ℕ) → attributes g x ≤ a → number_after g ids x k a ≡ 0
  number_of_nothing k a h =
      ⊎_elim (λ l. omega arith) (λ l. absurd (omega (arith, number_of_attribute k a l))) (below_or_not (number_after g ids x k a) 1)

  -- an attribute's number is of its class
  pub number_class : (k a : ℕ) → 1 ≤ number_after g ids x k a → T (of_class g x (number_after g ids x k a) a)
  number_class k a h = go (number_after g ids x k a) refl h
    where
      go : (n : ℕ) → number_after g ids x k a ≡ n → 1 ≤ n → T (of_class g x n a)
      go zero e l = absurd (omega arith)
      go (suc j) e l = (taken_at j k a e).class
