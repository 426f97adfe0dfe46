-- What planning knows at each of its stages, and what it answers and leaves by how far it came.
-- For proofs of the code: no demand rests on it. Assumes nothing.
use Rattle.std.specs.Prelude.{ℕ, ◌≤◌, ◌≡◌, false, List, length, Result}
use Rattle.basics.specs.Lists.{padded}
use Rattle.refusals.specs.declared.Refusal.{Refusal}
use Rattle.grammar.specs.Verdicts.{Good}
use Rattle.grammar.specs.Limits.{row_words, plan_words}
use Rattle.grammar.specs.Table.{rules}
use Rattle.relations.specs.Computed.{ids_of}
use Rattle.sets.specs.Computed.{sets_of}
use Rattle.order.specs.Computed.{circular}
use Rattle.plans.specs.Buffers.{over, rows_of}
use Rattle.plans.specs.Answer.{Outcome, room, idp_paths, edp_paths, after_room, after_idp, answer_of, rows_after, plan_after}

-- the set words of a table
abbrev pub sets : List ℕ → List ℕ
sets g = sets_of g (ids_of g)

-- The table is accepted at every stage: that is said by its type, and not again here.

-- no IDP has a cycle, and the rows hold the paths of IDP; the buffers have room
pub record Noncircular (g ids rows : List ℕ) (plan_length : ℕ) : Type 0 where
  pub space : room g (length rows) plan_length ≡ Good
  pub ids_are : ids ≡ padded 32 (ids_of g)
  pub paths : rows ≡ over (rows_of g (idp_paths g (ids_of g))) rows
  pub no_idp_cycle : circular g (idp_paths g (ids_of g)) ≡ false

-- no IDP and no EDP has a cycle, and the rows hold the paths of EDP
pub record OrderedStage (g s rows : List ℕ) (plan_length : ℕ) : Type 0 where
  pub sets_are : s ≡ sets g
  pub size : row_words (rules g) ≤ length rows
  pub paths : rows ≡ over (rows_of g (edp_paths g (ids_of g) (sets g))) rows
  pub no_idp_cycle : circular g (idp_paths g (ids_of g)) ≡ false
  pub no_edp_cycle : circular g (edp_paths g (ids_of g) (sets g)) ≡ false
  pub plan_room : plan_words (rules g) ≤ plan_length

-- how far planning comes once 1 to 8, and once 1 to 9, are ruled out
abbrev pub after_eight : List ℕ → Outcome
after_eight g = after_room g (ids_of g)

abbrev pub after_nine : List ℕ → Outcome
after_nine g = after_idp g (ids_of g) (sets g)

-- what is answered and left of the lent rows and plan where planning came to outcome o
pub record Came (g : List ℕ) (o : Outcome) (rows plan : List ℕ) (answer : Result ℕ Refusal) (rows' plan' : List ℕ) : Type 0 where
  pub answers : answer ≡ answer_of g o
  pub rows_are : rows' ≡ rows_after g o rows
  pub plan_is : plan' ≡ plan_after g o plan
