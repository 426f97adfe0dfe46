-- What the planner knows of one rule while it orders the actions, and what one step of it takes.
-- For proofs of the code: no demand rests on it. Assumes nothing.
use Rattle.std.specs.Prelude.{ℕ, suc, ◌<◌, ◌≡◌, Bool, List, ◌∷◌, T, length}
use Rattle.bits.specs.Bit.{hasb}
use Rattle.sequences.specs.Actions.{action_numbers, decode, is_action, makes}
use Rattle.sequences.specs.Follows.{follows}
use Rattle.sequences.specs.Order.{order}
use Rattle.remaining.specs.Remaining.{remaining}

-- What holds between two actions: what is left are actions of the rule, what is done had all its predecessors done, and an occurrence
-- waits exactly if an action that is left makes it available.
pub record Going (g ids s : List ℕ) (r : ℕ) (left : ℕ → Bool) (waiting : ℕ) : Type 0 where
  pub actions : (a : ℕ) → T (left a) → T (is_action g s r a)
  pub done : (a b : ℕ) → T (is_action g s r a) → T (left b) → T (follows g ids s r a b) → T (left a)
  pub waits : (o : ℕ) → T (hasb o waiting) → (e : ℕ) × T (left e) × T (makes g s r (decode e) o)
  pub makers : (e o : ℕ) → T (left e) → T (makes g s r (decode e) o) → T (hasb o waiting)

-- an action was taken: it is what the construction takes, the others are left
pub record Taken (g ids s : List ℕ) (r : ℕ) (before : ℕ → Bool) (action : ℕ) (left : ℕ → Bool) (waiting : ℕ) : Type 0 where
  pub number : action < action_numbers
  pub next : (n : ℕ) → order (λ a b. follows g ids s r a b) (suc n) (remaining before)
      ≡ action ∷ order (λ a b. follows g ids s r a b) n (remaining left)
  pub fewer : suc (length (remaining left)) ≡ length (remaining before)
  pub going : Going g ids s r left waiting
