-- Document 01, "Refusal numbers" 8 to 10, each "When" as a proposition, with its places: over the lengths of the lent buffers and the
-- paper's relations. Assumes nothing.
use Rattle.std.specs.Prelude.{ℕ, ◌<◌, List, T}
use Rattle.refusals.specs.declared.Refusal.{Refusal}
use Rattle.refusals.specs.declared.Refusal.TheVariants.{TooShort, CircularIdp, CircularEdp}
use Rattle.grammar.specs.Limits.{row_words, plan_words}
use Rattle.grammar.specs.Table.{rules, rule_counts}
use Rattle.relations.specs.Paper.{IDP⁺, OnCycle}
use Rattle.order.specs.Paper.{PaperSets, EDP}
use Rattle.cases.specs.TableCases.{TableCase}

pub data PlanningCase (g : List ℕ) (rows_length plan_length : ℕ) : Refusal → Type 1 where
  -- 8: "rows (place 0), else plan (place 1) too short": "at least 64R", "at least 256 + 112R"
  rows_too_short : rows_length < row_words (rules g) → PlanningCase g rows_length plan_length (TooShort 0)
  plan_too_short : plan_length < plan_words (rules g) → PlanningCase g rows_length plan_length (TooShort 1)
  -- 9: "some IDP has a cycle", at a rule and an occurrence on it; the order names the lowest
  idp_cycle : (r o : ℕ) → T (rule_counts g r) → IDP⁺ g r o o → PlanningCase g rows_length plan_length (CircularIdp r o)
  -- 10: "no IDP has a cycle, some EDP has", at a rule and an occurrence on it; a cycle in an IDP is an earlier case
  edp_cycle : (set : ℕ → ℕ → ℕ) → PaperSets g set → (r o : ℕ) → T (rule_counts g r) → OnCycle (EDP g set r) o
      → PlanningCase g rows_length plan_length (CircularEdp r o)

-- what planning may refuse: 1 to 10
pub data PlanCase (g : List ℕ) (rows_length plan_length : ℕ) (n : Refusal) : Type 1 where
  in_table : TableCase g n → PlanCase g rows_length plan_length n
  in_planning : PlanningCase g rows_length plan_length n → PlanCase g rows_length plan_length n
