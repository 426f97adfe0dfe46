-- A well-formed table with room is accepted exactly if it is ordered in the paper's sense: no IDP has a cycle, so that the sets exist, and
-- no EDP has one. Assumes nothing.
use Prim.Native.Nat.{ℕ}
use mathlib.Core.Path.{◌≡◌, sym, ◌∙◌}
use mathlib.Core.Logic.{◌↔◌}
use mathlib.Core.List.{List}
use native.Mathlib.Omega.{arith}
use Rattle.refusals.specs.declared.Refusal.{Refusal}
use Rattle.grammar.specs.Verdicts.{Good}
use Rattle.grammar.specs.Reading.{read_table}
use Rattle.sets.specs.Visits.{set_number}
use Rattle.order.specs.Paper.{CircularIDP, Ordered, IsOrdered}
use Rattle.order.proofs.WholeGrammar.{ordered_computed}
use Rattle.plans.specs.Answer.{circular_idp, unordered, accepted, room, outcome}
use Rattle.plans.proofs.Answers.{sets_for, nine, ten, planned}

-- no IDP has a cycle, so that the sets exist, and no EDP over the computed sets has one
pub record CycleFree (g : List ℕ) : Type 0 where
  pub no_idp_cycle : CircularIDP g → ⊥
  pub no_edp_cycle : Ordered g (set_number (sets_for g))

module _ (g : List ℕ) (good : read_table g ≡ Good) where
  -- "ordered" comes to this
  pub ordered_free : IsOrdered g → CycleFree g
  ordered_free o = let w = (ordered_computed g good).0 o in record { no_idp_cycle = w.0; no_edp_cycle = w.1 }

  pub free_ordered : CycleFree g → IsOrdered g
  free_ordered f = (ordered_computed g good).1 (f.no_idp_cycle, f.no_edp_cycle)

  module _ (rows_length plan_length : ℕ) (space : room g rows_length plan_length ≡ Good) where
    pub free_accepted : CycleFree g → outcome g rows_length plan_length ≡ accepted
    free_accepted h = planned g good rows_length plan_length space h.no_idp_cycle h.no_edp_cycle

    pub accepted_free : outcome g rows_length plan_length ≡ accepted → CycleFree g
    accepted_free e =
        let none : CircularIDP g → ⊥ = λ k. differs_idp (sym (nine g good rows_length plan_length space k).0 ∙ e) in
        record {
          no_idp_cycle = none;
          no_edp_cycle = λ r o c p. differs_edp (sym (ten g good rows_length plan_length space none r o c p).0 ∙ e);
        }
      where
        differs_idp : {n : Refusal} → circular_idp n ≡ accepted → ⊥
        differs_idp q = let z : ◌≡◌ {A = ℕ} 0 1 = cc in omega arith

        differs_edp : {n : Refusal} → unordered n ≡ accepted → ⊥
        differs_edp q = let z : ◌≡◌ {A = ℕ} 0 1 = cc in omega arith

    -- "A well-formed table given enough room is accepted exactly if the paper calls it ordered."
    pub accepted_exactly_law : (outcome g rows_length plan_length ≡ accepted) ↔ IsOrdered g
    accepted_exactly_law = (λ e. free_ordered (accepted_free e), λ o. free_accepted (ordered_free o))
