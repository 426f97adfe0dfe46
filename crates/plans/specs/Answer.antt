-- Document 01, refusals 8 to 10, and what planning answers and leaves in the lent buffers for every input.
-- Computed: no demand rests on it. Assumes nothing.
use Rattle.std.specs.Prelude.{ℕ, Bool, cond, List, leb, Ok, Err, Result}
use Rattle.refusals.specs.declared.Refusal.{Refusal}
use Rattle.refusals.specs.declared.Refusal.TheVariants.{TooShort, CircularIdp, CircularEdp}
use Rattle.grammar.specs.Limits.{row_words, plan_words}
use Rattle.grammar.specs.Table.{rules}
use Rattle.grammar.specs.Verdicts.{Verdict, ◌then◌, unless}
use Rattle.grammar.specs.Reading.{read_table}
use Rattle.relations.specs.Computed.{ids_of, idp_path}
use Rattle.sets.specs.Computed.{sets_of}
use Rattle.order.specs.Computed.{edp_path, circular, cycle_rule, cycle_occurrence}
use Rattle.sequences.specs.Order.{sequence_of}
use Rattle.plans.specs.Buffers.{over, rows_of, plan_of}

-- How far planning came, and with it what is left in the buffers.
pub data Outcome : Type 0 where
  -- "1 to 8 change nothing"
  untouched : Refusal → Outcome
  -- "9 leaves IDP paths in the rows"
  circular_idp : Refusal → Outcome
  -- 10 leaves EDP paths; "the plan is then as it was found"
  unordered : Refusal → Outcome
  -- rows and plan are written
  accepted : Outcome

-- 8: "rows (place 0), else plan (place 1) too short"
unfoldable pub room : List ℕ → ℕ → ℕ → Verdict
room g rows_length plan_length =
    unless (leb (row_words (rules g)) rows_length) (TooShort 0) then unless (leb (plan_words (rules g)) plan_length) (TooShort 1)

-- the paths of a whole grammar: rule, occurrence, occurrence
unfoldable pub idp_paths : List ℕ → List ℕ → ℕ → ℕ → ℕ → Bool
idp_paths g ids r a b = idp_path g ids r a b

unfoldable pub edp_paths : List ℕ → List ℕ → List ℕ → ℕ → ℕ → ℕ → Bool
edp_paths g ids s r a b = edp_path g ids s r a b

-- 10: "no IDP has a cycle, some EDP has"; else the grammar is accepted
unfoldable pub after_idp : List ℕ → List ℕ → List ℕ → Outcome
after_idp g ids s =
    cond (circular g (edp_paths g ids s))
    (unordered (CircularEdp (cycle_rule g (edp_paths g ids s)) (cycle_occurrence g (edp_paths g ids s)))) accepted

-- 9: "some IDP has a cycle"
unfoldable pub after_room : List ℕ → List ℕ → Outcome
after_room g ids =
    cond (circular g (idp_paths g ids))
    (circular_idp (CircularIdp (cycle_rule g (idp_paths g ids)) (cycle_occurrence g (idp_paths g ids)))) (after_idp g ids (sets_of g ids))

unfoldable pub after_reading : List ℕ → Verdict → Outcome
after_reading g (Ok _) = after_room g (ids_of g)
after_reading g (Err n) = untouched n

-- how far planning comes with rows and a plan of these lengths
unfoldable pub outcome : List ℕ → ℕ → ℕ → Outcome
outcome g rows_length plan_length = after_reading g (read_table g then room g rows_length plan_length)

-- the sequences of an accepted grammar
unfoldable pub sequences_of : List ℕ → ℕ → List ℕ
sequences_of g r = sequence_of g (ids_of g) (sets_of g (ids_of g)) r

-- the plan of an accepted grammar
unfoldable pub accepted_plan : List ℕ → List ℕ
accepted_plan g = plan_of g (sets_of g (ids_of g)) (sequences_of g)

-- what planning answers: "An accepted plan returns 256 + 112R"
unfoldable pub answer_of : List ℕ → Outcome → Result ℕ Refusal
answer_of g (untouched n) = Err n
answer_of g (circular_idp n) = Err n
answer_of g (unordered n) = Err n
answer_of g accepted = Ok (plan_words (rules g))

-- what it leaves in the rows
unfoldable pub rows_after : List ℕ → Outcome → List ℕ → List ℕ
rows_after g (untouched n) rows = rows
rows_after g (circular_idp n) rows = over (rows_of g (idp_paths g (ids_of g))) rows
rows_after g (unordered n) rows = over (rows_of g (edp_paths g (ids_of g) (sets_of g (ids_of g)))) rows
rows_after g accepted rows = over (rows_of g (edp_paths g (ids_of g) (sets_of g (ids_of g)))) rows

-- what it leaves in the plan
unfoldable pub plan_after : List ℕ → Outcome → List ℕ → List ℕ
plan_after g (untouched n) plan = plan
plan_after g (circular_idp n) plan = plan
plan_after g (unordered n) plan = plan
plan_after g accepted plan = over (accepted_plan g) plan
