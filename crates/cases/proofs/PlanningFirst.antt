-- Which case of 8 to 10 is the first, once the table is read: room is tested before the cycles, and of the cycles the search names the
-- lowest. Assumes nothing.
use Prim.Native.Nat.{ℕ, ◌≤◌, ◌<◌}
use mathlib.Core.Path.{◌≡◌, refl, ◌∙◌, ap, subst}
use mathlib.Core.Logic.{◌⊎◌, inl, inr, ⊎_elim}
use mathlib.Core.Bool.{Bool, true, false}
use mathlib.Core.List.{List}
use native.Mathlib.Omega.{arith}
use lib.Dec.{T, leb, leb→le, nleb→lt}
use Rattle.basics.proofs.TestLaws.{tested, chosen, passed_over, true_T, false_T, T_false}
use Rattle.refusals.specs.declared.Refusal.{Refusal}
use Rattle.refusals.specs.declared.Refusal.TheVariants.{TooShort, CircularIdp, CircularEdp}
use Rattle.grammar.specs.Limits.{row_words, plan_words}
use Rattle.grammar.specs.Table.{rules, rule_counts}
use Rattle.grammar.specs.Reading.{read_table}
use Rattle.grammar.specs.Verdicts.{Verdict, Good, Refused, ◌then◌, unless}
use Rattle.grammar.proofs.AcceptedTable.{accepted}
use Rattle.relations.specs.Paper.{IDP⁺, OnCycle}
use Rattle.relations.specs.Computed.{ids_of}
use Rattle.relations.proofs.PathLaws.{path_first}
use Rattle.relations.proofs.Occurrences.{occurs_below}
use Rattle.relations.proofs.ExactIdp.{idp_path_exact}
use Rattle.relations.proofs.Induced.{idp_path_from}
use Rattle.sets.specs.Visits.{set_number}
use Rattle.order.specs.Paper.{EDP, CircularIDP, LowestCycle}
use Rattle.order.specs.Computed.{circular}
use Rattle.order.proofs.ExactEdp.{edp_path_exact, edp_from}
use Rattle.order.proofs.CycleSearch.{cycle_found}
use Rattle.order.proofs.WholeGrammar.{computed_sets, sets_exist_law, edp_paths_same}
use Rattle.plans.specs.Answer.{
  Outcome,
  untouched,
  circular_idp,
  unordered,
  accepted as accepts,
  room,
  idp_paths,
  edp_paths,
  after_idp,
  after_room,
}
use Rattle.plans.proofs.Answers.{sets_for, idp_rule, idp_occurrence, idp_cycle, edp_rule, edp_occurrence, edp_cycle, no_idp_cycle_law, no_edp_cycle_law}
use Rattle.plans.proofs.Ordered.{CycleFree}
use Rattle.cases.specs.First.{room_walk, edp_walk, walk, Earlier, earlier_walk, earlier_place, lower_occurrence, lower_number, FirstCase}
use Rattle.cases.specs.PlanningCases.{PlanningCase}
use Rattle.cases.specs.PlanningCases as case
use Rattle.cases.proofs.FirstLaws.{later_walk, Found, nothing, fault}

-- the verdict in which planning ends
unfoldable pub verdict_of : Outcome → Verdict
verdict_of (untouched n) = Refused n
verdict_of (circular_idp n) = Refused n
verdict_of (unordered n) = Refused n
verdict_of accepts = Good

module _ (g : List ℕ) (rows_length plan_length : ℕ) where
  abbrev C : Refusal → Type 1
  C = PlanningCase g rows_length plan_length

  pub planning_walk : (n : Refusal) → C n → (room_walk ≤ walk g n) × (walk g n ≤ edp_walk)
  planning_walk n (case.rows_too_short h) = omega arith
  planning_walk n (case.plan_too_short h) = omega arith
  planning_walk n (case.idp_cycle r o h p) = omega arith
  planning_walk n (case.edp_cycle set v r o h p) = omega arith

  -- 8
  room_order : (a b : ℕ) → b ≤ a → Earlier g (TooShort a) (TooShort b) → ⊥
  room_order a b h (earlier_walk l) = omega arith
  room_order a b h (earlier_place w l) = omega arith
  room_order a b h (lower_occurrence w e l) = omega arith
  room_order a b h (lower_number w e s l) = omega arith

  first_rows : rows_length < row_words (rules g) → FirstCase g C (TooShort 0)
  first_rows h = record { applies = case.rows_too_short h; no_earlier = none }
    where
      none : (m : Refusal) → C m → ¬ Earlier g m (TooShort 0)
      none m (case.rows_too_short l) e = room_order 0 0 (omega arith) e
      none m (case.plan_too_short l) e = room_order 1 0 (omega arith) e
      none m (case.idp_cycle r o l p) e = later_walk g m (TooShort 0) (omega arith) e
      none m (case.edp_cycle set v r o l p) e = later_walk g m (TooShort 0) (omega arith) e

  first_plan : row_words (rules g) ≤ rows_length → plan_length < plan_words (rules g) → FirstCase g C (TooShort 1)
  first_plan a h = record { applies = case.plan_too_short h; no_earlier = none }
    where
      none : (m : Refusal) → C m → ¬ Earlier g m (TooShort 1)
      none m (case.rows_too_short l) e = omega arith
      none m (case.plan_too_short l) e = room_order 1 1 (omega arith) e
      none m (case.idp_cycle r o l p) e = later_walk g m (TooShort 1) (omega arith) e
      none m (case.edp_cycle set v r o l p) e = later_walk g m (TooShort 1) (omega arith) e

  -- of the cycles the lowest rule and in it the lowest occurrence is the first
  idp_order : (q p r o : ℕ) → Earlier g (CircularIdp q p) (CircularIdp r o) → (q < r) ⊎ ((q ≡ r) × (p < o))
  idp_order q p r o (earlier_walk l) = absurd (omega arith)
  idp_order q p r o (earlier_place w l) = inl (omega arith)
  idp_order q p r o (lower_occurrence w e l) = inr (omega arith, l)
  idp_order q p r o (lower_number w e s l) = absurd (omega arith)

  edp_order : (q p r o : ℕ) → Earlier g (CircularEdp q p) (CircularEdp r o) → (q < r) ⊎ ((q ≡ r) × (p < o))
  edp_order q p r o (earlier_walk l) = absurd (omega arith)
  edp_order q p r o (earlier_place w l) = inl (omega arith)
  edp_order q p r o (lower_occurrence w e l) = inr (omega arith, l)
  edp_order q p r o (lower_number w e s l) = absurd (omega arith)

  none_lower : (lies : ℕ → ℕ → Type 0) (r o : ℕ) → LowestCycle g lies r o → (q p : ℕ) → T (rule_counts g q) → lies q p
      → (q < r) ⊎ ((q ≡ r) × (p < o)) → ⊥
  none_lower lies r o w q p h i (inl l) = w.lowest_rule q p l h i
  none_lower lies r o w q p h i (inr l) = w.lowest_occurrence p l.1 (subst (λ (k : ℕ). lies k p) l.0 i)

  module _ (good : read_table g ≡ Good) (rows : row_words (rules g) ≤ rows_length) (plan : plan_words (rules g) ≤ plan_length) where
    -- 9
    first_idp : (r o : ℕ) → LowestCycle g (λ r o. IDP⁺ g r o o) r o → FirstCase g C (CircularIdp r o)
    first_idp r o w = record { applies = case.idp_cycle r o w.counts w.on; no_earlier = none }
      where
        none : (m : Refusal) → C m → ¬ Earlier g m (CircularIdp r o)
        none m (case.rows_too_short l) e = omega arith
        none m (case.plan_too_short l) e = omega arith
        none m (case.idp_cycle q p l i) e = none_lower (λ r o. IDP⁺ g r o o) r o w q p l i (idp_order q p r o e)
        none m (case.edp_cycle set v q p l i) e = later_walk g m (CircularIdp r o) (omega arith) e

    -- 10
    first_edp : (CircularIDP g → ⊥) → (r o : ℕ) → LowestCycle g (λ r o. OnCycle (EDP g (set_number (sets_for g)) r) o) r o → FirstCase g C (CircularEdp r o)
    first_edp free r o w = record { applies = case.edp_cycle (computed_sets g) (sets_exist_law g good free) r o w.counts ((edp_paths_same g good free (computed_sets g) (sets_exist_law g good free) r o o).0 w.on); no_earlier = none }
      where
        none : (m : Refusal) → C m → ¬ Earlier g m (CircularEdp r o)
        none m (case.rows_too_short l) e = omega arith
        none m (case.plan_too_short l) e = omega arith
        none m (case.idp_cycle q p l i) e = free (q, l, (p, i))
        none m (case.edp_cycle set v q p l i) e =
            none_lower (λ r o. OnCycle (EDP g (set_number (sets_for g)) r) o) r o w q p l ((edp_paths_same g good free set v q p p).1 i) (edp_order q p r o e)

    no_case : CycleFree g → (n : Refusal) → ¬ C n
    no_case ordered n (case.rows_too_short l) = omega arith
    no_case ordered n (case.plan_too_short l) = omega arith
    no_case ordered n (case.idp_cycle r o l i) = ordered.no_idp_cycle (r, l, (o, i))
    no_case ordered n (case.edp_cycle set v r o l i) =
        ordered.no_edp_cycle r o l ((edp_paths_same g good ordered.no_idp_cycle set v r o o).1 i)

    -- the search's cycles are the paper's
    idp_lowest : T (circular g (idp_paths g (ids_of g))) → LowestCycle g (λ r o. IDP⁺ g r o o) (idp_rule g) (idp_occurrence g)
    unfolding idp_paths
    idp_lowest t =
        cycle_found g (idp_paths g (ids_of g)) (λ r o. IDP⁺ g r o o) (λ r o c. idp_path_exact g good r o o c)
        (λ r o c p. occurs_below g (accepted g good) r o c (idp_path_from g (accepted g good) c p)) t

    edp_lowest : T (circular g (edp_paths g (ids_of g) (sets_for g)))
        → LowestCycle g (λ r o. OnCycle (EDP g (set_number (sets_for g)) r) o) (edp_rule g) (edp_occurrence g)
    unfolding edp_paths
    edp_lowest t =
        cycle_found g (edp_paths g (ids_of g) (sets_for g)) (λ r o. OnCycle (EDP g (set_number (sets_for g)) r) o)
        (λ r o c. edp_path_exact g good (sets_for g) r c o o)
        (λ r o c p.
        let e = path_first p in
        occurs_below g (accepted g good) r o c (edp_from g good (sets_for g) r c o e.0 e.1)) t

    -- what is found once there is room
    found_cycles : Found g C (verdict_of (after_room g (ids_of g)))
    unfolding verdict_of after_room after_idp
    found_cycles =
        ⊎_elim
        (λ t.
        fault (idp_cycle g)
        (ap verdict_of (chosen (circular g (idp_paths g (ids_of g))) (circular_idp (idp_cycle g)) (after_idp g (ids_of g) (sets_for g)) t))
        (first_idp (idp_rule g) (idp_occurrence g) (idp_lowest t)))
        (λ t.
        let free : CircularIDP g → ⊥ = no_idp_cycle_law g good (T_false _ t) in
        let past : after_room g (ids_of g) ≡ after_idp g (ids_of g) (sets_for g) =
        passed_over (circular g (idp_paths g (ids_of g))) (circular_idp (idp_cycle g)) (after_idp g (ids_of g) (sets_for g)) t in
        ⊎_elim
        (λ u.
        fault (edp_cycle g)
        (ap verdict_of
        (past
        ∙ chosen (circular g (edp_paths g (ids_of g) (sets_for g))) (unordered (edp_cycle g)) accepts u))
        (first_edp free (edp_rule g) (edp_occurrence g) (edp_lowest u)))
        (λ u.
        let ordered : CycleFree g = record { no_idp_cycle = free; no_edp_cycle = no_edp_cycle_law g good (T_false _ u) } in
        nothing
        (ap verdict_of
        (past ∙ passed_over (circular g (edp_paths g (ids_of g) (sets_for g))) (unordered (edp_cycle g)) accepts u))
        (no_case ordered))
        (tested (circular g (edp_paths g (ids_of g) (sets_for g)))))
        (tested (circular g (idp_paths g (ids_of g))))

  -- 8 to 10 after a table that is read
  pub found_planning : read_table g ≡ Good → Found g C (room g rows_length plan_length then verdict_of (after_room g (ids_of g)))
  unfolding room ◌then◌ unless
  found_planning good = go (leb (row_words (rules g)) rows_length) refl (leb (plan_words (rules g)) plan_length) refl
    where
      go : (a : Bool) → leb (row_words (rules g)) rows_length ≡ a → (b : Bool) → leb (plan_words (rules g)) plan_length ≡ b
          → Found g C ((unless a (TooShort 0) then unless b (TooShort 1)) then verdict_of (after_room g (ids_of g)))
      go false d b e = fault (TooShort 0) refl (first_rows (nleb→lt _ _ (false_T _ d)))
      go true d false e = fault (TooShort 1) refl (first_plan (leb→le _ _ (true_T _ d)) (nleb→lt _ _ (false_T _ e)))
      go true d true e = found_cycles good (leb→le _ _ (true_T _ d)) (leb→le _ _ (true_T _ e))
