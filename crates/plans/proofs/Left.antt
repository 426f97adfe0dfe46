-- What planning answers and leaves, in the paper's terms: 9 leaves IDP paths, 10 EDP paths, and an accepted grammar leaves its EDP paths, its
-- sets and the sequences of the tie rule. Assumes nothing.
use Prim.Native.Nat.{ℕ, ◌<◌}
use mathlib.Core.Path.{◌≡◌, refl, ◌∙◌, subst, subst⁻¹}
use mathlib.Core.Logic.{⊎_elim, ◌↔◌}
use mathlib.Core.Bool.{Bool}
use mathlib.Core.List.{List}
use native.Mathlib.Omega.{arith}
use lib.Dec.{T, eqb→eq}
use Rattle.std.specs.Prelude.{Ok}
use Rattle.basics.proofs.TestLaws.{below_or_not, eq_T}
use Rattle.bits.specs.Bit.{bit, collect}
use Rattle.bits.proofs.CollectLaws.{bit_collect_above}
use Rattle.bits.proofs.MemberLaws.{hasb_collect}
use Rattle.refusals.specs.declared.Refusal.{Refusal}
use Rattle.grammar.specs.Limits.{most_occurrences, plan_words}
use Rattle.grammar.specs.Verdicts.{Good}
use Rattle.grammar.specs.Table.{rules, rule_counts}
use Rattle.grammar.specs.Reading.{read_table}
use Rattle.grammar.proofs.AcceptedTable.{accepted as well_formed}
use Rattle.relations.specs.Paper.{IDP⁺}
use Rattle.relations.specs.Computed.{ids_of}
use Rattle.relations.proofs.PathLaws.{path_last}
use Rattle.relations.proofs.Occurrences.{counts_below, occurs_below}
use Rattle.relations.proofs.ExactIdp.{idp_path_exact}
use Rattle.relations.proofs.Induced.{idp_path_to}
use Rattle.sets.specs.Visits.{set_number}
use Rattle.sets.specs.Computed.{sets_of}
use Rattle.order.specs.Paper.{PaperSets, CircularIDP}
use Rattle.order.proofs.ExactEdp.{edp_path_exact, edp_to}
use Rattle.order.proofs.WholeGrammar.{number_is_law, edp_paths_same}
use Rattle.sequences.proofs.PaperSequence.{sequence_only}
use Rattle.plans.specs.Buffers.{over, rows_of}
use Rattle.plans.specs.Answer.{circular_idp, unordered, accepted, idp_paths, edp_paths, accepted_plan, answer_of, rows_after, plan_after}
use Rattle.plans.specs.Left.{RowsHold, EDP⁺, SequenceStands, Written}
use Rattle.plans.proofs.RowWords.{over_row}
use Rattle.plans.proofs.PlanWords.{numbers_same, sequence_stands}

-- "An accepted plan returns 256 + 112R."
pub accepted_answer : (g : List ℕ) → answer_of g accepted ≡ Ok (plan_words (rules g))
unfolding answer_of
accepted_answer g = refl

module _ (g : List ℕ) (good : read_table g ≡ Good) where
  -- rows that are collected from a test hold the relation that the test decides
  rows_hold : (paths : ℕ → ℕ → ℕ → Bool) (path : ℕ → ℕ → ℕ → Type 0) (lent : List ℕ)
      → ((r o b : ℕ) → T (rule_counts g r) → T (paths r o b) ↔ path r o b) → ((r o b : ℕ) → T (rule_counts g r) → path r o b → b < most_occurrences)
      → RowsHold g (over (rows_of g paths) lent) path
  rows_hold paths path lent exact small r o b c h =
      subst⁻¹ (λ (w : ℕ). (bit b w ≡ 1) ↔ path r o b) (over_row g paths lent r o (counts_below g r c) h)
      (⊎_elim
      (λ l. (
        λ e. (exact r o b c).0 (subst (λ (t : Bool). T t) (hasb_collect most_occurrences b (λ b. paths r o b) l)
            (eq_T (bit b (collect most_occurrences (λ b. paths r o b))) 1 e)),
        λ p.
            eqb→eq (bit b (collect most_occurrences (λ b. paths r o b))) 1
            (subst⁻¹ (λ (t : Bool). T t) (hasb_collect most_occurrences b (λ b. paths r o b) l) ((exact r o b c).1 p)),
      ))
      (λ l. (
        λ e. absurd (omega (arith, e, bit_collect_above most_occurrences b (λ b. paths r o b) l)),
        λ p. absurd (omega (arith, small r o b c p)),
      ))
      (below_or_not b most_occurrences))

  -- 9 leaves the paths of IDP
  pub nine_holds : (n : Refusal) (rows : List ℕ) → RowsHold g (rows_after g (circular_idp n) rows) (λ r o b. IDP⁺ g r o b)
  unfolding rows_after idp_paths
  nine_holds n rows =
      rows_hold (idp_paths g (ids_of g)) (λ r o b. IDP⁺ g r o b) rows (λ r o b c. idp_path_exact g good r o b c)
      (λ r o b c p. occurs_below g (well_formed g good) r b c (idp_path_to g (well_formed g good) c p))

  module _ (free : CircularIDP g → ⊥) (set : ℕ → ℕ → ℕ) (sets : PaperSets g set) where
    edp_hold : (rows : List ℕ) → RowsHold g (over (rows_of g (edp_paths g (ids_of g) (sets_of g (ids_of g)))) rows) (EDP⁺ g set)
    unfolding edp_paths
    edp_hold rows =
        rows_hold (edp_paths g (ids_of g) (sets_of g (ids_of g))) (EDP⁺ g set) rows
        (λ r o b c.
        let e = edp_path_exact g good (sets_of g (ids_of g)) r c o b in
        let f = edp_paths_same g good free set sets r o b in
        (λ t. f.0 (e.0 t), λ p. e.1 (f.1 p)))
        (λ r o b c p.
        let l = path_last ((edp_paths_same g good free set sets r o b).1 p) in
        occurs_below g (well_formed g good) r b c (edp_to g good (sets_of g (ids_of g)) r c l.0 b l.1))

    -- 10 leaves the paths of EDP
    pub ten_holds : (n : Refusal) (rows : List ℕ) → RowsHold g (rows_after g (unordered n) rows) (EDP⁺ g set)
    unfolding rows_after
    ten_holds n rows = edp_hold rows

    -- an accepted grammar has its rows and its plan written
    pub accepted_written : (rows plan : List ℕ) → Written g set (rows_after g accepted rows) (plan_after g accepted plan)
    unfolding rows_after plan_after set_number
    accepted_written rows plan =
        record {
          row_bits = edp_hold rows;
          set_word = λ x a h l. numbers_same g plan x a h l ∙ number_is_law g good free set sets x a h l;
          sequence = λ r c out t.
              subst⁻¹ (λ (l : List ℕ). SequenceStands (over (accepted_plan g) plan) r l) (sequence_only g good free set sets r c out t)
              (sequence_stands g plan r (counts_below g r c));
        }
