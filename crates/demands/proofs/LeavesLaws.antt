-- What a refusal leaves, from how far planning came: a case of planning stopped it, a case of the tree comes after it was done.
-- Assumes nothing.
use Prim.Native.Nat.{ℕ, ◌≤◌, ◌<◌}
use mathlib.Core.Path.{◌≡◌, refl, ◌∙◌, ap, subst⁻¹}
use mathlib.Core.Logic.{⊎_elim}
use mathlib.Core.Bool.{Bool, true, false, cond}
use mathlib.Core.List.{List}
use native.Mathlib.Omega.{arith}
use lib.Dec.{leb}
use lib.ListN.{length}
use Rattle.basics.proofs.TestLaws.{below_or_not}
use Rattle.refusals.specs.declared.Refusal.{Refusal}
use Rattle.refusals.specs.declared.Refusal.TheVariants.{CircularIdp}
use Rattle.grammar.specs.Verdicts.{Good}
use Rattle.grammar.specs.Reading.{read_table}
use Rattle.relations.specs.Paper.{IDP⁺}
use Rattle.order.specs.Paper.{PaperSets, CircularIDP}
use Rattle.plans.specs.Answer.{Outcome, untouched, circular_idp, unordered, accepted, outcome, rows_after, plan_after}
use Rattle.plans.specs.Left.{RowsHold, EDP⁺, Written}
use Rattle.plans.proofs.Left.{nine_holds, ten_holds, accepted_written}
use Rattle.cases.specs.First.{rule_walk, room_walk, idp_walk, edp_walk, walk, earlier_walk}
use Rattle.cases.specs.PlanningCases.{in_table, in_planning}
use Rattle.cases.specs.PlanningCases as case
use Rattle.cases.specs.AllCases.{PlanRefuses}
use Rattle.cases.proofs.TableOrder.{table_walk}
use Rattle.cases.proofs.PlanOutcomes.{refused_with}
use Rattle.cases.proofs.Refusals.{table_good, outcome_refused, outcome_accepted}
use Rattle.cases.proofs.Leaves.{early_came, nine_came, ten_came}
use Rattle.demands.specs.Demands.{Leaves}

-- a refusal of planning leaves the plan as it was found
plan_kept : (g : List ℕ) (n : Refusal) (plan : List ℕ) → plan_after g (refused_with g n) plan ≡ plan
unfolding plan_after
plan_kept g n plan = go (leb (walk g n) room_walk) (leb (walk g n) idp_walk)
  where
    go : (a b : Bool) → plan_after g (cond a (untouched n) (cond b (circular_idp n) (unordered n))) plan ≡ plan
    go true b = refl
    go false true = refl
    go false false = refl

module _ (g rows plan : List ℕ) where
  abbrev came : Outcome
  came = outcome g (length rows) (length plan)

  -- a case after the reader's comes of a table that is read, one after 9 of a table with no cycle in an IDP
  pub read_past : (n : Refusal) → PlanRefuses g (length rows) (length plan) n → rule_walk < walk g n → read_table g ≡ Good
  read_past n f h = (table_good g).1 (λ m c. f.no_earlier m (in_table c) (earlier_walk (omega (arith, table_walk g m c))))

  pub free_past : (n : Refusal) → PlanRefuses g (length rows) (length plan) n → idp_walk < walk g n → CircularIDP g → ⊥
  free_past n f h k =
      f.no_earlier (CircularIdp k.0 k.2.0) (in_planning (case.idp_cycle k.0 k.2.0 k.1 k.2.1)) (earlier_walk h)

  -- an accepted table is read, and has none
  pub accepted_read : came ≡ accepted → read_table g ≡ Good
  accepted_read e = (table_good g).1 (λ m c. (outcome_accepted g (length rows) (length plan)).0 e m (in_table c))

  pub accepted_free : came ≡ accepted → CircularIDP g → ⊥
  accepted_free e k =
      (outcome_accepted g (length rows) (length plan)).0 e (CircularIdp k.0 k.2.0)
      (in_planning (case.idp_cycle k.0 k.2.0 k.1 k.2.1))

  pub written_accepted : came ≡ accepted → (set : ℕ → ℕ → ℕ) → PaperSets g set → Written g set (rows_after g came rows) (plan_after g came plan)
  written_accepted e set sets =
      subst⁻¹ (λ (o : Outcome). Written g set (rows_after g o rows) (plan_after g o plan)) e
      (accepted_written g (accepted_read e) (accepted_free e) set sets rows plan)

  pub leaves_of : (n : Refusal) → (walk g n ≤ edp_walk → PlanRefuses g (length rows) (length plan) n) → (edp_walk < walk g n → came ≡ accepted)
      → Leaves g rows plan n (rows_after g came rows) (plan_after g came plan)
  unfolding rows_after plan_after
  leaves_of n early late =
      record {
        nothing = λ h.
            let e : came ≡ untouched n = early_came g rows plan n (early (omega arith)) h in
            (ap (λ (o : Outcome). rows_after g o rows) e, ap (λ (o : Outcome). plan_after g o plan) e);
        idp_paths = λ h.
            let f = early (omega arith) in
            subst⁻¹ (λ (o : Outcome). RowsHold g (rows_after g o rows) (λ r q b. IDP⁺ g r q b)) (nine_came g rows plan n f h)
            (nine_holds g (read_past n f (omega arith)) n rows);
        edp_paths = λ h set sets.
            ⊎_elim (λ l. (written_accepted (late l) set sets).row_bits)
            (λ l.
            let f = early l in
            subst⁻¹ (λ (o : Outcome). RowsHold g (rows_after g o rows) (EDP⁺ g set)) (ten_came g rows plan n f h)
            (ten_holds g (read_past n f (omega arith)) (free_past n f h) set sets n rows))
            (below_or_not edp_walk (walk g n));
        plan_stays = λ h.
            ap (λ (o : Outcome). plan_after g o plan) ((outcome_refused g (length rows) (length plan) n).1 (early h)) ∙ plan_kept g n plan;
        written = λ h set sets. written_accepted (late h) set sets;
      }
