-- Document 01: "The next action is always the lowest-numbered one whose predecessors are done."
-- The construction is over any relation of following. Computed: no demand rests on it. Assumes nothing.
use Rattle.std.specs.Prelude.{ℕ, zero, suc, Bool, true, false, not, List, [], ◌∷◌, eqb, length}
use Rattle.basics.specs.Lists.{any, without}
use Rattle.sequences.specs.Actions.{actions_of}
use Rattle.sequences.specs.Follows.{follows}

-- an action is ready where none that remains is a predecessor of it
unfoldable pub ready : (ℕ → ℕ → Bool) → List ℕ → ℕ → Bool
ready after remaining a = not (any (λ b. after a b) remaining)

-- the first ready one of a rising list, or the number given where none is
unfoldable pub first_ready : (ℕ → ℕ → Bool) → List ℕ → List ℕ → ℕ → ℕ
first_ready after remaining [] default = default
first_ready after remaining (a ∷ rest) default =
    elim (ready after remaining a) [ true ↦ a | false ↦ first_ready after remaining rest default ]

-- the construction: the lowest ready action, then the same with it done; it stops where none is ready
unfoldable pub order : (ℕ → ℕ → Bool) → ℕ → List ℕ → List ℕ
order after zero remaining = []
order after (suc n) remaining =
    let a = first_ready after remaining remaining 136 in
    elim (eqb a 136) [ true ↦ [] | false ↦ a ∷ order after n (without a remaining) ]

-- the visit-sequence of rule r
unfoldable pub sequence_of : List ℕ → List ℕ → List ℕ → ℕ → List ℕ
sequence_of g ids s r =
    let actions = actions_of g s r in order (λ a b. follows g ids s r a b) (length actions) actions
