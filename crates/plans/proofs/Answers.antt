-- What planning answers, for every table that the reader accepts and buffers that have room: 9 exactly where some IDP has a cycle, 10
-- exactly where none has and some EDP has, each with the lowest rule and occurrence, and else a plan. Assumes nothing.
use Prim.Native.Nat.{ℕ, ◌<◌}
use mathlib.Core.Path.{◌≡◌, ◌∙◌, ap}
use mathlib.Core.Logic.{⊎_elim, ◌↔◌}
use mathlib.Core.Bool.{false}
use mathlib.Core.List.{List}
use lib.Dec.{T, not_T}
use Rattle.basics.proofs.TestLaws.{tested, chosen, passed_over, false_T}
use Rattle.refusals.specs.declared.Refusal.{Refusal}
use Rattle.refusals.specs.declared.Refusal.TheVariants.{CircularIdp, CircularEdp}
use Rattle.grammar.specs.Limits.{most_occurrences}
use Rattle.grammar.specs.Verdicts.{Good}
use Rattle.grammar.specs.Table.{rule_counts}
use Rattle.grammar.specs.Reading.{read_table}
use Rattle.grammar.proofs.AcceptedTable.{accepted}
use Rattle.grammar.proofs.VerdictLaws.{then_good}
use Rattle.relations.specs.Paper.{IDP⁺, OnCycle}
use Rattle.relations.specs.Computed.{ids_of}
use Rattle.relations.proofs.PathLaws.{path_first}
use Rattle.relations.proofs.Occurrences.{occurs_below}
use Rattle.relations.proofs.ExactIdp.{idp_path_exact}
use Rattle.relations.proofs.Induced.{idp_path_from}
use Rattle.sets.specs.Computed.{sets_of}
use Rattle.sets.specs.Visits.{set_number}
use Rattle.order.specs.Paper.{EDP, CircularIDP, Ordered, LowestCycle}
use Rattle.order.specs.Computed.{circular, cycle_rule, cycle_occurrence}
use Rattle.order.proofs.ExactEdp.{edp_path_exact, edp_from}
use Rattle.order.proofs.CycleSearch.{cycle_found, cycle_none}
use Rattle.plans.specs.Answer.{
  circular_idp,
  unordered,
  accepted as accepts,
  room,
  idp_paths,
  edp_paths,
  after_idp,
  after_room,
  after_reading,
  outcome,
}

-- the set words of a table
abbrev pub sets_for : List ℕ → List ℕ
sets_for g = sets_of g (ids_of g)

-- the lowest cycles as the search names them
abbrev pub idp_rule : List ℕ → ℕ
idp_rule g = cycle_rule g (idp_paths g (ids_of g))

abbrev pub idp_occurrence : List ℕ → ℕ
idp_occurrence g = cycle_occurrence g (idp_paths g (ids_of g))

abbrev pub idp_cycle : List ℕ → Refusal
idp_cycle g = CircularIdp (idp_rule g) (idp_occurrence g)

abbrev pub edp_rule : List ℕ → ℕ
edp_rule g = cycle_rule g (edp_paths g (ids_of g) (sets_for g))

abbrev pub edp_occurrence : List ℕ → ℕ
edp_occurrence g = cycle_occurrence g (edp_paths g (ids_of g) (sets_for g))

abbrev pub edp_cycle : List ℕ → Refusal
edp_cycle g = CircularEdp (edp_rule g) (edp_occurrence g)

module _ (g : List ℕ) (good : read_table g ≡ Good) where
  -- the rows of the search are the paper's paths
  idp_exact : (r o : ℕ) → T (rule_counts g r) → T (idp_paths g (ids_of g) r o o) ↔ IDP⁺ g r o o
  unfolding idp_paths
  idp_exact r o c = idp_path_exact g good r o o c

  idp_inside : (r o : ℕ) → T (rule_counts g r) → IDP⁺ g r o o → o < most_occurrences
  idp_inside r o c p = occurs_below g (accepted g good) r o c (idp_path_from g (accepted g good) c p)

  edp_exact : (r o : ℕ) → T (rule_counts g r) → T (edp_paths g (ids_of g) (sets_for g) r o o) ↔ OnCycle (EDP g (set_number (sets_for g)) r) o
  unfolding edp_paths
  edp_exact r o c = edp_path_exact g good (sets_for g) r c o o

  edp_inside : (r o : ℕ) → T (rule_counts g r) → OnCycle (EDP g (set_number (sets_for g)) r) o → o < most_occurrences
  edp_inside r o c p =
      let e = path_first p in
      occurs_below g (accepted g good) r o c (edp_from g good (sets_for g) r c o e.0 e.1)

  -- where the search finds nothing, there is none
  pub no_idp_cycle_law : circular g (idp_paths g (ids_of g)) ≡ false → CircularIDP g → ⊥
  no_idp_cycle_law e k =
      cycle_none g (idp_paths g (ids_of g)) (λ r o. IDP⁺ g r o o) idp_exact idp_inside (false_T _ e) k.0 k.2.0 k.1 k.2.1

  pub no_edp_cycle_law : circular g (edp_paths g (ids_of g) (sets_for g)) ≡ false → Ordered g (set_number (sets_for g))
  no_edp_cycle_law e =
      cycle_none g (edp_paths g (ids_of g) (sets_for g)) (λ r o. OnCycle (EDP g (set_number (sets_for g)) r) o) edp_exact edp_inside (false_T _ e)

  module _ (rows_length plan_length : ℕ) (space : room g rows_length plan_length ≡ Good) where
    pub comes : outcome g rows_length plan_length ≡ after_room g (ids_of g)
    unfolding outcome after_reading
    comes = ap (after_reading g) (then_good (read_table g) (room g rows_length plan_length) good space)

    -- 9, naming the lowest rule and occurrence, exactly where some IDP has a cycle
    pub nine : CircularIDP g
        → (outcome g rows_length plan_length ≡ circular_idp (idp_cycle g)) × LowestCycle g (λ r o. IDP⁺ g r o o) (idp_rule g) (idp_occurrence g)
    unfolding after_room
    nine k =
        ⊎_elim
        (λ t. (
          comes ∙ chosen (circular g (idp_paths g (ids_of g))) (circular_idp (idp_cycle g)) (after_idp g (ids_of g) (sets_for g)) t,
          cycle_found g (idp_paths g (ids_of g)) (λ r o. IDP⁺ g r o o) idp_exact idp_inside t,
        ))
        (λ t. absurd (cycle_none g (idp_paths g (ids_of g)) (λ r o. IDP⁺ g r o o) idp_exact idp_inside t k.0 k.2.0 k.1 k.2.1))
        (tested (circular g (idp_paths g (ids_of g))))

    -- where no IDP has a cycle, planning goes on to EDP
    past_idp : (CircularIDP g → ⊥) → outcome g rows_length plan_length ≡ after_idp g (ids_of g) (sets_for g)
    unfolding after_room
    past_idp none =
        comes
        ∙ passed_over (circular g (idp_paths g (ids_of g))) (circular_idp (idp_cycle g)) (after_idp g (ids_of g) (sets_for g))
        (not_T (circular g (idp_paths g (ids_of g)))
        (λ t.
        let w = cycle_found g (idp_paths g (ids_of g)) (λ r o. IDP⁺ g r o o) idp_exact idp_inside t in
        none (idp_rule g, w.counts, (idp_occurrence g, w.on))))

    -- 10, naming the lowest rule and occurrence, exactly where no IDP has a cycle and some EDP has
    pub ten : (CircularIDP g → ⊥) → (r o : ℕ) → T (rule_counts g r) → OnCycle (EDP g (set_number (sets_for g)) r) o
        → (outcome g rows_length plan_length ≡ unordered (edp_cycle g))
        × LowestCycle g (λ r o. OnCycle (EDP g (set_number (sets_for g)) r) o) (edp_rule g) (edp_occurrence g)
    unfolding after_idp
    ten none r o c p =
        ⊎_elim
        (λ t. (
          past_idp none
              ∙ chosen (circular g (edp_paths g (ids_of g) (sets_for g))) (unordered (edp_cycle g)) accepts t,
          cycle_found g (edp_paths g (ids_of g) (sets_for g)) (λ r o. OnCycle (EDP g (set_number (sets_for g)) r) o) edp_exact edp_inside t,
        ))
        (λ t.
        absurd (cycle_none g (edp_paths g (ids_of g) (sets_for g)) (λ r o. OnCycle (EDP g (set_number (sets_for g)) r) o) edp_exact edp_inside t r o c p))
        (tested (circular g (edp_paths g (ids_of g) (sets_for g))))

    -- a plan, where the grammar is ordered
    pub planned : (CircularIDP g → ⊥) → Ordered g (set_number (sets_for g)) → outcome g rows_length plan_length ≡ accepts
    unfolding after_idp
    planned none ordered =
        past_idp none
        ∙ passed_over (circular g (edp_paths g (ids_of g) (sets_for g))) (unordered (edp_cycle g)) accepts
        (not_T (circular g (edp_paths g (ids_of g) (sets_for g)))
        (λ t.
        let w = cycle_found g (edp_paths g (ids_of g) (sets_for g)) (λ r o. OnCycle (EDP g (set_number (sets_for g)) r) o) edp_exact edp_inside t in
        ordered (edp_rule g) (edp_occurrence g) w.counts w.on))
