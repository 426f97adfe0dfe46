-- The three demands on the build, as statements about what `plan` and `run` answer and leave. g is a table's words, rows and plan are the words
-- that were lent and rows' and plan' those that are left, t a tree's words, v and v' the values before and after. That the code meets
-- them, on every input, is proved in proofs/Demands. Assumes nothing.
use Rattle.std.specs.Prelude.{ℕ, ◌+◌, ◌*◌, ◌≤◌, ◌<◌, min, ◌≡◌, ◌⊎◌, ◌↔◌, not, List, T, ℤ, length, Result, Ok, Err}
use Rattle.basics.specs.Lists.{member}
use Rattle.refusals.specs.declared.Refusal.{Refusal}
use Rattle.grammar.specs.Limits.{row_words, plan_words}
use Rattle.grammar.specs.Table.{rules, functions, target, argument, arguments, position, rule_counts}
use Rattle.grammar.specs.WellFormed.{WellFormed}
use Rattle.relations.specs.Paper.{IDP⁺, Path⁺}
use Rattle.order.specs.Paper.{PaperSets, Neighbouring, CircularIDP, IsOrdered}
use Rattle.sequences.specs.Actions.{decode}
use Rattle.sequences.specs.Paper.{Belongs, DoneBefore, Sequence, ReadyAmong}
use Rattle.plans.specs.Left.{RowsHold, EDP⁺, Written, Beyond}
use Rattle.trees.specs.Tree.{rule_of, applies_rule, node_at, cell}
use Rattle.trees.specs.Equations.{value_at, Solution, SameTerminals}
use Rattle.trees.specs.Definers.{AttributeOf}
use Rattle.runs.specs.declared.Ran.TheVariants.{Done, Stopped}
use Rattle.runs.specs.declared.Report.{Report}
use Rattle.runs.specs.Sound.{Sound}
use Rattle.runs.specs.Depth.{longest_down}
use Rattle.runs.specs.Totals.{total_of}
use Rattle.runs.specs.Computing.{machine_at, Computing, ComputedBefore, ExactlyOnce}
use Rattle.cases.specs.First.{room_walk, idp_walk, edp_walk, walk}
use Rattle.cases.specs.PlanningCases.{PlanCase}
use Rattle.cases.specs.AllCases.{RunCase, PlanRefuses, Refuses}

-- 1. "Every table, tree and buffer size gets an answer. Input is refused exactly where a numbered case applies, by that number at a
-- stated place, and what each refusal leaves in the caller's buffers is fixed."

-- what refusal n leaves in rows and plan
pub record Leaves (g rows plan : List ℕ) (n : Refusal) (rows' plan' : List ℕ) : Type 1 where
  -- "1 to 8 change nothing."
  pub nothing : walk g n ≤ room_walk → (rows' ≡ rows) × (plan' ≡ plan)
  -- "9 leaves IDP paths in the rows", 10 EDP paths; "the plan is then as it was found."
  pub idp_paths : walk g n ≡ idp_walk → RowsHold g rows' (λ r o b. IDP⁺ g r o b)
  pub edp_paths : idp_walk < walk g n → (set : ℕ → ℕ → ℕ) → PaperSets g set → RowsHold g rows' (EDP⁺ g set)
  pub plan_stays : walk g n ≤ edp_walk → plan' ≡ plan
  -- "12 to 18 come after planning has written rows and plan"
  pub written : edp_walk < walk g n → (set : ℕ → ℕ → ℕ) → PaperSets g set → Written g set rows' plan'

-- "Words beyond these sizes stay."
pub record Stays (g rows plan rows' plan' : List ℕ) : Type 0 where
  pub rows_beyond : Beyond (row_words (rules g)) rows rows'
  pub plan_beyond : Beyond (plan_words (rules g)) plan plan'

-- of `plan`: it refuses with the first of the cases 1 to 10 that applies (cases/specs), and "An accepted plan returns 256 + 112R."
pub record Demand1 (g rows plan : List ℕ) (answer : Result ℕ Refusal) (rows' plan' : List ℕ) : Type 1 where
  pub refuses : (n : Refusal) → (answer ≡ Err n) ↔ PlanRefuses g (length rows) (length plan) n
  pub accepts : (k : ℕ) → (answer ≡ Ok k)
      ↔ ((k ≡ plan_words (rules g)) × ((n : Refusal) → ¬ PlanCase g (length rows) (length plan) n))
  pub leaves : (n : Refusal) → answer ≡ Err n → Leaves g rows plan n rows' plan'
  pub stays : Stays g rows plan rows' plan'

-- of `run`: it refuses with the first of the cases 1 to 18 that applies, and leaves the values; where none applies, rows and plan are written
pub record Demand1Run (g rows plan t : List ℕ) (v : List ℤ) (answer : Result Report Refusal) (v' : List ℤ) (rows' plan' : List ℕ) : Type 1 where
  pub refuses : (n : Refusal) → (answer ≡ Err n) ↔ Refuses g (length rows) (length plan) t (length v) n
  pub leaves : (n : Refusal) → answer ≡ Err n → Leaves g rows plan n rows' plan'
  pub values_stay : (n : Refusal) → answer ≡ Err n → v' ≡ v
  pub written : ((n : Refusal) → ¬ RunCase g (length rows) (length plan) t (length v) n) → (set : ℕ → ℕ → ℕ) → PaperSets g set
      → Written g set rows' plan'
  pub stays : Stays g rows plan rows' plan'

-- 2. "The dependency relations, sets and visit-sequences are those of the 1980 paper, ties to the lowest action number. A well-formed
-- table given enough room is accepted exactly if the paper calls it ordered."

-- a well-formed table, and room: "at least 64R", "at least 256 + 112R"
pub record Given (g rows plan : List ℕ) : Type 0 where
  pub formed : WellFormed g
  pub rows_room : row_words (rules g) ≤ length rows
  pub plan_room : plan_words (rules g) ≤ length plan

-- what `plan` answers and leaves for it
pub record Demand2 (g : List ℕ) (answer : Result ℕ Refusal) (rows' plan' : List ℕ) : Type 1 where
  pub accepted_exactly : (answer ≡ Ok (plan_words (rules g))) ↔ IsOrdered g
  -- rows, sets and sequences of what is accepted
  pub written : IsOrdered g → (set : ℕ → ℕ → ℕ) → PaperSets g set → Written g set rows' plan'
  -- there are sets, one numbering and no other
  pub sets_exist : ¬ CircularIDP g → (set : ℕ → ℕ → ℕ) × PaperSets g set
  pub one_numbering : (s t : ℕ → ℕ → ℕ) → PaperSets g s → PaperSets g t → (x a : ℕ) → s x a ≡ t x a
  -- "(000 adds neighbouring sets only; the paths are equal.)"
  pub neighbouring : ¬ CircularIDP g → (set : ℕ → ℕ → ℕ) → PaperSets g set → (r a b : ℕ) → EDP⁺ g set r a b ↔ Path⁺ (Neighbouring g set r) a b
  -- of the tie rule's sequences each rule has one and no other
  pub sequence : (o : IsOrdered g) (r : ℕ) → T (rule_counts g r) → (out : List ℕ) × Sequence g o.set r out
  pub one_sequence : (o : IsOrdered g) (r : ℕ) → T (rule_counts g r) → (s t : List ℕ) → Sequence g o.set r s → Sequence g o.set r t → s ≡ t
  -- an action is always ready: of any actions of a rule that remain, one follows none of them
  pub always_ready : (o : IsOrdered g) (r : ℕ) → T (rule_counts g r) → (remaining : List ℕ) → 1 ≤ length remaining
      → ((a : ℕ) → T (member a remaining) → Belongs g o.set r (decode a)) → (a : ℕ) × ReadyAmong g o.set r remaining a
  -- until the sequence is complete: it has all actions of the rule
  pub all_actions : (o : IsOrdered g) (r : ℕ) → T (rule_counts g r) → (out : List ℕ) → Sequence g o.set r out → (a : ℕ)
      → Belongs g o.set r (decode a) → DoneBefore out (length out) a
  -- whatever the planner writes is sound, so demand 3 holds for it
  pub sound : IsOrdered g → Sound g plan'

-- 3. "A run takes exactly as many actions as the lengths of its nodes' rules' sequences add up to. Each attribute of each nonterminal node
-- is computed once, after all its arguments, and the values are the only ones that satisfy the equations for the terminals' values given.
-- A smaller budget stops after exactly that many actions of the same run."

-- a run by the sequences in the words p, which takes so many actions in all
pub record Demand3 (g p t : List ℕ) (v : List ℤ) (budget total : ℕ) (answer : Result Report Refusal) (v' : List ℤ) : Type 0 where
  pub done : total ≤ budget → answer ≡ Ok (record { ran = Done total })
  pub stopped : budget < total → answer ≡ Ok (record { ran = Stopped budget })
  pub same_run : v' ≡ (machine_at g p t v (min budget total)).values
  pub once : (n a : ℕ) → T (applies_rule t n) → AttributeOf g t n a → ExactlyOnce g p t v total (8 * n + a)
  pub after_arguments : (k n o f j : ℕ) → Computing g p t v k n o → f < functions g (rule_of t n) → target g (rule_of t n) f ≡ o
      → j < arguments g (rule_of t n) f → T (not (applies_rule t (node_at t n (position (argument g (rule_of t n) f j)))))
      ⊎ ComputedBefore g p t v k (cell t n (argument g (rule_of t n) f j))
  pub solves : total ≤ budget → Solution g t v'
  pub only_ones : total ≤ budget → (w : List ℤ) → Solution g t w → SameTerminals g t w v → (n a : ℕ) → AttributeOf g t n a
      → value_at w (8 * n + a) ≡ value_at v' (8 * n + a)
  -- "Words beyond these sizes, and values of attributes that do not exist, stay", and so do the terminals'
  pub as_many : length v' ≡ length v
  pub others : (c : ℕ) → ((n a : ℕ) → c ≡ 8 * n + a → T (applies_rule t n) → ¬ AttributeOf g t n a) → value_at v' c ≡ value_at v c
  -- "The stack never exceeds the number of nonterminals on the longest path down."
  pub stack_bound : (k : ℕ) → length (machine_at g p t v k).stack ≤ longest_down g t

-- of `run`, where no case of 1 to 18 applies: the grammar is ordered, and the total is summed over the tie rule's sequences
pub record Demand3Run (g t : List ℕ) (v : List ℤ) (budget : ℕ) (answer : Result Report Refusal) (v' : List ℤ) (plan' : List ℕ) : Type 1 where
  pub ordered : IsOrdered g
  pub runs : (o : IsOrdered g) (sequence : ℕ → List ℕ) → ((r : ℕ) → T (rule_counts g r) → Sequence g o.set r (sequence r))
      → Demand3 g plan' t v budget (total_of sequence t) answer v'
