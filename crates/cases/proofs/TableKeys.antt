-- The order of the cases 1 to 7 as one number, the key: a case has its turn at its word, the start's class after the last symbol, and at one
-- turn the lower number goes first. Assumes nothing.
use Prim.Native.Nat.{ℕ, suc, ◌+◌, ◌*◌, ◌-◌, ◌≤◌, ◌<◌}
use mathlib.Core.Path.{◌≡◌, refl, ◌∙◌, subst⁻¹}
use mathlib.Core.Logic.{⊎_elim}
use mathlib.Core.Bool.{Bool, true, false, cond}
use mathlib.Core.List.{List}
use native.Mathlib.Omega.{arith}
use lib.Dec.{T, ltb, eqb, ltb→lt, lt→ltb, eqb→eq, not_T}
use Rattle.basics.proofs.TestLaws.{chosen, passed_over, tested, below_or_not}
use Rattle.refusals.specs.declared.Refusal.{Refusal}
use Rattle.refusals.specs.declared.Refusal.TheVariants.{
  EndsEarly,
  OutOfRange,
  WrongClass,
  NoOccurrence,
  NotDefining,
  Undefined,
  LeftOver,
  TooShort,
  CircularIdp,
  CircularEdp,
  TreeSize,
  NoSuchRule,
  BadChild,
  RootNotStart,
  ChildDiffers,
  NotOneParent,
  ValuesTooShort,
}
use Rattle.refusals.specs.Numbers.{number_of, place_of}
use Rattle.grammar.specs.Table.{symbols, rules, argument_words, function_at, function_of, functions, rule_at, right_length, operation}
use Rattle.grammar.proofs.RuleStarts.{functions_rise, rules_rise}
use Rattle.cases.specs.First.{symbol_walk, start_walk, rule_walk, word_walk, walk}

-- The turn of a case 1 to 7 as one number, twice its place: 3 at word 2 has its turn just before the first word of the first rule.
abbrev pub turn : List ℕ → Refusal → ℕ
turn g n =
    cond (eqb (number_of n) 3) (cond (eqb (place_of n) 2) (2 * rule_at g 0 - 1) (2 * place_of n)) (2 * place_of n)

-- the order of the cases 1 to 7 as one number: at one turn the lower number goes first
abbrev pub key : List ℕ → Refusal → ℕ
key g n = 8 * turn g n + number_of n

-- in which walk a case has which turn
pub data HasTurn (g : List ℕ) (n : Refusal) : Type 0 where
  in_symbols : walk g n ≡ symbol_walk → turn g n ≡ 2 * place_of n → place_of n < rule_at g 0 → HasTurn g n
  at_start : walk g n ≡ start_walk → turn g n ≡ 2 * rule_at g 0 - 1 → place_of n ≡ 2 → HasTurn g n
  in_rules : walk g n ≡ rule_walk → turn g n ≡ 2 * place_of n → rule_at g 0 ≤ place_of n → HasTurn g n

module _ (g : List ℕ) where
  at_word : (n : Refusal) → walk g n ≡ word_walk g (place_of n) → turn g n ≡ 2 * place_of n → HasTurn g n
  unfolding word_walk
  at_word n w e =
      ⊎_elim (λ h. in_symbols (w ∙ chosen (ltb (place_of n) (rule_at g 0)) symbol_walk rule_walk (lt→ltb _ _ h)) e h)
      (λ h.
      in_rules
      (w ∙ passed_over (ltb (place_of n) (rule_at g 0)) symbol_walk rule_walk (not_T (ltb (place_of n) (rule_at g 0)) (λ t. omega (arith, ltb→lt (place_of n) (rule_at g 0) t))))
      e h)
      (below_or_not (place_of n) (rule_at g 0))

  pub turned : (n : Refusal) → number_of n ≤ 7 → HasTurn g n
  turned (EndsEarly p) h = at_word (EndsEarly p) refl refl
  turned (OutOfRange p) h = at_word (OutOfRange p) refl refl
  turned (WrongClass p) h =
      ⊎_elim
      (λ t.
      at_start (chosen (eqb p 2) start_walk (word_walk g p) t) (chosen (eqb p 2) (2 * rule_at g 0 - 1) (2 * p) t) (eqb→eq p 2 t))
      (λ t. at_word (WrongClass p) (passed_over (eqb p 2) start_walk (word_walk g p) t) (passed_over (eqb p 2) (2 * rule_at g 0 - 1) (2 * p) t))
      (tested (eqb p 2))
  turned (NoOccurrence p) h = at_word (NoOccurrence p) refl refl
  turned (NotDefining p) h = at_word (NotDefining p) refl refl
  turned (Undefined p) h = at_word (Undefined p) refl refl
  turned (LeftOver p) h = at_word (LeftOver p) refl refl
  turned (TooShort b) h = absurd (omega arith)
  turned (CircularIdp r o) h = absurd (omega arith)
  turned (CircularEdp r o) h = absurd (omega arith)
  turned TreeSize h = absurd (omega arith)
  turned (NoSuchRule n) h = absurd (omega arith)
  turned (BadChild n) h = absurd (omega arith)
  turned RootNotStart h = absurd (omega arith)
  turned (ChildDiffers n) h = absurd (omega arith)
  turned (NotOneParent n) h = absurd (omega arith)
  turned ValuesTooShort h = absurd (omega arith)

  -- where rules and functions stand
  pub first_rule : rule_at g 0 ≡ 3 + 3 * symbols g
  unfolding rule_at
  first_rule = refl

  pub rule_end : (r : ℕ) → rule_at g (suc r) ≡ function_of g r (functions g r)
  unfolding rule_at functions
  rule_end r = refl

  pub functions_start : (r : ℕ) → function_of g r 0 ≡ rule_at g r + 3 + right_length g r
  unfolding function_at right_length
  functions_start r = refl

  pub function_next : (r k : ℕ) → function_of g r (suc k) ≡ function_of g r k + 2 + argument_words (operation g r k)
  unfolding function_at operation
  function_next r k = refl

  pub after_header : (r : ℕ) → 3 + 3 * symbols g ≤ rule_at g r
  after_header r = omega (arith, first_rule, rules_rise g 0 r (omega arith))

  pub rule_inside_law : (r : ℕ) → r < rules g → rule_at g (suc r) ≤ rule_at g (rules g)
  rule_inside_law r h = rules_rise g (suc r) (rules g) h

  pub function_inside_law : (r k : ℕ) → k < functions g r → function_of g r (suc k) ≤ rule_at g (suc r)
  function_inside_law r k h = omega (arith, rule_end r, functions_rise g (rule_at g r) (suc k) (functions g r) h)

  pub function_after : (r k : ℕ) → rule_at g r + 3 + right_length g r ≤ function_of g r k
  function_after r k = omega (arith, functions_start r, functions_rise g (rule_at g r) 0 k (omega arith))

  -- the key of 3, but for the start's class
  pub class_key : (p : ℕ) → 3 ≤ p → key g (WrongClass p) ≡ 16 * p + 3
  class_key p h = go (eqb p 2) refl
    where
      go : (b : Bool) → eqb p 2 ≡ b → 8 * cond b (2 * rule_at g 0 - 1) (2 * p) + 3 ≡ 16 * p + 3
      go true e = absurd (let z : p ≡ 2 = eqb→eq p 2 (subst⁻¹ (λ (x : Bool). T x) e tt) in omega arith)
      go false e = omega arith
