-- The actions of one rule that are left, by three sets: computes, visits and leaves. Whoever orders them or checks an order walks down these.
-- For proofs of the code: no demand rests on it. Assumes nothing.
use Rattle.std.specs.Prelude.{ℕ, ◌+◌, ◌-◌, ◌≡◌, Bool, cond, List, ltb}
use Rattle.basics.specs.Lists.{passing}
use Rattle.bits.specs.Bit.{hasb}
use Rattle.sequences.specs.Actions.{action_numbers}
use Rattle.remaining.specs.declared.Action.{Action}
use Rattle.remaining.specs.declared.Action.TheVariants.{Compute, Visit, Leave}

-- the number of an action: computes from 0 on, visits from 64 on, leaves from 128 on
abbrev pub number : Action → ℕ
number (Compute o) = o
number (Visit b) = 64 + b
number (Leave b) = 128 + b

-- action a is left, by its number
unfoldable pub remains : ℕ → ℕ → ℕ → ℕ → Bool
remains computes visits leaves a =
    cond (ltb a 64) (hasb a computes) (cond (ltb a 128) (hasb (a - 64) visits) (hasb (a - 128) leaves))

-- the actions that are left, rising
unfoldable pub remaining : (ℕ → Bool) → List ℕ
remaining left = passing action_numbers left

-- an action and what is left after it, as numbers that a function answers and what they are
pub record Done (action computes visits leaves waiting wanted : ℕ) (a c v l w d : ℕ) : Type 0 where
  pub action_is : action ≡ a
  pub computes_are : computes ≡ c
  pub visits_are : visits ≡ v
  pub leaves_are : leaves ≡ l
  pub waiting_are : waiting ≡ w
  pub wanted_are : wanted ≡ d
