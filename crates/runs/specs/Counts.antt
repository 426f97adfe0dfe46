-- How many leaves, and how many visits of a child, stand in the first actions of a rule's sequence.
-- For proofs of the code: no demand rests on it. Assumes nothing.
use Rattle.std.specs.Prelude.{ℕ, cond, List, ltb, eqb}
use Rattle.basics.specs.Tests.{count}
use Rattle.sequences.specs.Actions.{Action, compute, visit, leave, none, decode}
use Rattle.plans.specs.Sequences.{action_at}

-- which leave an action is, 0 where it is none
abbrev pub leave_number : Action → ℕ
leave_number (compute o) = 0
leave_number (visit j n) = 0
leave_number (leave n) = n
leave_number none = 0

-- which visit of child i an action is, 0 where it is none
abbrev pub visit_number : ℕ → Action → ℕ
visit_number i (compute o) = 0
visit_number i (visit j n) = cond (eqb j i) n 0
visit_number i (leave n) = 0
visit_number i none = 0

-- the leaves among the first k actions of rule r's sequence
unfoldable pub leaves_done : List ℕ → ℕ → ℕ → ℕ
leaves_done p r k = count k (λ j. ltb 0 (leave_number (decode (action_at p r j))))

-- the visits of child i among them
unfoldable pub visits_done : List ℕ → ℕ → ℕ → ℕ → ℕ
visits_done p r i k = count k (λ j. ltb 0 (visit_number i (decode (action_at p r j))))
