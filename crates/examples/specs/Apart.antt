-- What the definitions say of the tables of NearMisses, one field a claim.
-- Assumes nothing.
use Rattle.std.specs.Prelude.{ℕ, ◌≡◌, Bool, true, false, List, [], ◌∷◌, take}
use Rattle.basics.specs.Lists.{tabulate}
use Rattle.refusals.specs.declared.Refusal.TheVariants.{CircularEdp}
use Rattle.grammar.specs.Table.{symbols, rules}
use Rattle.relations.specs.Computed.{ids_of}
use Rattle.sets.specs.Computed.{sets_of}
use Rattle.sets.specs.Visits.{visits}
use Rattle.order.specs.Computed.{circular}
use Rattle.plans.specs.Answer.{accepted, unordered, edp_paths, sequences_of}
use Rattle.examples.specs.Claims.{planned}
use Rattle.examples.specs.NearMisses.{
  chain_of_two,
  chain_of_three,
  order_elsewhere,
  handed_down,
  from_the_end,
  written_later,
  nothing_up,
  expressions,
  computation_sequences,
  successor_in_first,
  successor_in_first_by000,
  heirs_together,
  heirs_together_by000,
}

-- the sequences of all rules, the visits of all symbols, the set numbers of the first n symbols
unfoldable pub all_sequences : List ℕ → List (List ℕ)
all_sequences g = tabulate (rules g) (λ r. sequences_of g r)

unfoldable pub all_visits : List ℕ → List ℕ
all_visits g = let s = sets_of g (ids_of g) in tabulate (symbols g) (λ x. visits s x)

unfoldable pub sets_up_to : List ℕ → ℕ → List ℕ
sets_up_to g n = take n (sets_of g (ids_of g))

-- whether some EDP has a cycle, where the set words are these
unfoldable pub circular_by : List ℕ → List ℕ → Bool
circular_by g s = circular g (edp_paths g (ids_of g) s)

pub record ToldApart : Type 0 where
  -- one round of induced arcs refuses it; an empty set 1 keeps its visit
  pub chain_of_two_planned : planned chain_of_two ≡ accepted
  pub chain_of_two_order : all_sequences chain_of_two ≡ (72 ∷ 9 ∷ 73 ∷ 128 ∷ []) ∷ (72 ∷ 0 ∷ 128 ∷ 9 ∷ 73 ∷ 129 ∷ []) ∷ (0 ∷ 128 ∷ 129 ∷ []) ∷ []
  pub chain_of_two_visits : all_visits chain_of_two ≡ 1 ∷ 2 ∷ 2 ∷ []
  -- two rounds of induced arcs refuse it
  pub chain_of_three_planned : planned chain_of_three ≡ accepted
  pub chain_of_three_order : all_sequences chain_of_three ≡ (72 ∷ 9 ∷ 73 ∷ 128 ∷ []) ∷ (72 ∷ 0 ∷ 128 ∷ 9 ∷ 73 ∷ 129 ∷ []) ∷ (72 ∷ 0 ∷ 128 ∷ 9 ∷ 73 ∷ 129 ∷ []) ∷ (0 ∷ 128 ∷ 129 ∷ []) ∷ []
  pub chain_of_three_visits : all_visits chain_of_three ≡ 1 ∷ 2 ∷ 2 ∷ 2 ∷ []
  -- an EDP without the IDS arcs computes 0 first in rule 0
  pub order_elsewhere_planned : planned order_elsewhere ≡ accepted
  pub order_elsewhere_order : all_sequences order_elsewhere ≡ (1 ∷ 0 ∷ 128 ∷ []) ∷ (1 ∷ 0 ∷ 128 ∷ []) ∷ []
  pub order_elsewhere_visits : all_visits order_elsewhere ≡ 1 ∷ []
  -- a visit that does not wait for its computes comes first; a visit of what hands nothing up is still made
  pub handed_down_planned : planned handed_down ≡ accepted
  pub handed_down_order : all_sequences handed_down ≡ (80 ∷ 8 ∷ 72 ∷ 128 ∷ []) ∷ (128 ∷ []) ∷ (0 ∷ 128 ∷ []) ∷ []
  pub handed_down_visits : all_visits handed_down ≡ 1 ∷ 1 ∷ 1 ∷ []
  -- sets counted from the front refuse it
  pub from_the_end_planned : planned from_the_end ≡ accepted
  pub from_the_end_order : all_sequences from_the_end ≡ (72 ∷ 8 ∷ 73 ∷ 128 ∷ []) ∷ (1 ∷ 128 ∷ 2 ∷ 129 ∷ []) ∷ []
  pub from_the_end_visits : all_visits from_the_end ≡ 1 ∷ 2 ∷ []
  -- a tie taken in the order of the table computes 1 first
  pub written_later_planned : planned written_later ≡ accepted
  pub written_later_order : all_sequences written_later ≡ (0 ∷ 1 ∷ 128 ∷ []) ∷ []
  pub written_later_visits : all_visits written_later ≡ 1 ∷ []
  -- a skipped visit leaves A's subtree alone
  pub nothing_up_planned : planned nothing_up ≡ accepted
  pub nothing_up_order : all_sequences nothing_up ≡ (72 ∷ 128 ∷ []) ∷ (128 ∷ []) ∷ []
  pub nothing_up_visits : all_visits nothing_up ≡ 1 ∷ 1 ∷ []
  -- 000, figure 4: access 4, primode 3, postmode 2, evaluable and value 1; of assignment set 1 is empty; of declaration access 2, description 1
  pub figure_four : sets_up_to expressions 40
      ≡ 0 ∷ 0 ∷ 0 ∷ 0 ∷ 0 ∷ 0 ∷ 0 ∷ 0 ∷ 4 ∷ 3 ∷ 2 ∷ 1 ∷ 1 ∷ 0 ∷ 0 ∷ 0 ∷ 4 ∷ 3 ∷ 2 ∷ 1 ∷ 1 ∷ 0 ∷ 0 ∷ 0 ∷ 4 ∷ 3 ∷ 2 ∷ 0 ∷ 0 ∷ 0 ∷ 0 ∷ 0 ∷ 2 ∷ 1 ∷ 0 ∷ 0 ∷ 0 ∷ 0 ∷ 0 ∷ 0 ∷ []
  -- 002's example grammar is evaluable by other means, and not ordered
  pub not_ordered : planned computation_sequences ≡ unordered (CircularEdp 0 8)
  -- 000's own definition 4 calls the first of these ordered and the second not; 01's sets hold, and say the opposite
  pub successor_refused : planned successor_in_first ≡ unordered (CircularEdp 0 8)
  pub successor_by000 : circular_by successor_in_first successor_in_first_by000 ≡ false
  pub heirs_planned : planned heirs_together ≡ accepted
  pub heirs_by000 : circular_by heirs_together heirs_together_by000 ≡ true
