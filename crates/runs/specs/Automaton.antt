-- Document 01 and 000, section 6.3: the stack automaton. The machine keeps the stack of nodes, top first, for each node the place of
-- its sequence at which it goes on, so that a child "resumes after its last leave", and the values. Assumes nothing.
use Rattle.std.specs.Prelude.{ℕ, zero, suc, List, [], ◌∷◌, eqb, ℤ, set, replicate}
use Rattle.basics.specs.Tests.{least}
use Rattle.basics.specs.Lists.{word}
use Rattle.grammar.specs.Table.{functions, target}
use Rattle.sequences.specs.Actions.{Action, compute, visit, leave, none, decode}
use Rattle.trees.specs.Tree.{nodes, rule_of, child, cell}
use Rattle.trees.specs.Equations.{function_value}
use Rattle.plans.specs.Sequences.{action_at}

pub record Machine : Type 0 where
  pub stack : List ℕ
  pub places : List ℕ
  pub values : List ℤ

-- "It starts with the root at its first action."
unfoldable pub started : List ℕ → List ℤ → Machine
started t values = record { stack = 0 ∷ []; places = replicate (nodes t) 0; values = values }

-- the function whose target is occurrence o
unfoldable pub function_for : List ℕ → ℕ → ℕ → ℕ
function_for g r o = least (functions g r) (λ k. eqb (target g r k) o)

-- "A compute writes one value"
unfoldable pub computed : List ℕ → List ℕ → List ℤ → ℕ → ℕ → List ℤ
computed g t values n o = set values (cell t n o) (function_value g t values n (function_for g (rule_of t n) o))

-- an action at node n, above the rest of the stack, which has gone on by one place:
-- "a visit pushes the child, which resumes after its last leave; a leave pops"
unfoldable pub act : List ℕ → List ℕ → Action → ℕ → List ℕ → List ℕ → List ℤ → Machine
act g t (compute o) n rest places values = record { stack = n ∷ rest; places = places; values = computed g t values n o }
act g t (visit i k) n rest places values = record { stack = child t n i ∷ n ∷ rest; places = places; values = values }
act g t (leave k) n rest places values = record { stack = rest; places = places; values = values }
act g t none n rest places values = record { stack = n ∷ rest; places = places; values = values }

-- the action that node n is at
unfoldable pub action_of : List ℕ → List ℕ → List ℕ → ℕ → Action
action_of p t places n = decode (action_at p (rule_of t n) (word places n))

-- "Each is one action": one step of the node on top; an empty stack stays
unfoldable pub step_on : List ℕ → List ℕ → List ℕ → List ℕ → List ℕ → List ℤ → Machine
step_on g p t [] places values = record { stack = []; places = places; values = values }
step_on g p t (n ∷ rest) places values =
    act g t (action_of p t places n) n rest (set places n (suc (word places n))) values

unfoldable pub step : List ℕ → List ℕ → List ℕ → Machine → Machine
step g p t m = step_on g p t m.stack m.places m.values

-- the machine after k actions
unfoldable pub after : List ℕ → List ℕ → List ℕ → ℕ → Machine → Machine
after g p t zero m = m
after g p t (suc k) m = step g p t (after g p t k m)
