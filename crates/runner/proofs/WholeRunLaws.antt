-- What a whole run answers and leaves, by what planning answered and what the check found.
-- Assumes nothing.
use Prim.Native.Nat.{ℕ, ◌≤◌}
use mathlib.Core.Path.{◌≡◌, refl, sym, ◌∙◌, ap, subst, subst⁻¹}
use mathlib.Core.List.{List}
use native.Mathlib.Omega.{arith}
use lib.IntN.{ℤ}
use lib.ListN.{length}
use Rattle.std.specs.Prelude.{Result, Ok, Err, IsErrAnd}
use Rattle.refusals.specs.declared.Refusal.{Refusal}
use Rattle.grammar.specs.Verdicts.{Verdict, Good, Refused}
use Rattle.grammar.proofs.VerdictLaws.{handed_out}
use Rattle.grammar.specs.Limits.{plan_words}
use Rattle.grammar.specs.Table.{rules}
use Rattle.grammar.specs.Reading.{read_table}
use Rattle.plans.specs.Buffers.{over}
use Rattle.plans.specs.Answer.{
  Outcome,
  untouched,
  circular_idp,
  unordered,
  accepted,
  room,
  after_reading,
  outcome,
  answer_of,
  rows_after,
  plan_after,
  accepted_plan,
}
use Rattle.plans.proofs.Ordered.{CycleFree, accepted_free}
use Rattle.access.proofs.Laws.{stops}
use Rattle.planner.specs.Answered as planner
use Rattle.planner.proofs.RoomLaws.{plan_room_law}
use Rattle.planner.proofs.AcceptedLaws.{is_accepted, both_good}
use Rattle.plans.proofs.RowWords.{over_size}
use Rattle.plans.proofs.PlanWords.{plan_length_law}
use Rattle.trees.specs.Checking.{check_tree}
use Rattle.runs.specs.declared.Ran.{Ran}
use Rattle.runs.specs.declared.Report.{Report}
use Rattle.runs.specs.Run.{reported, ran, run_answer, values_after}
use Rattle.runs.proofs.PlannedSound.{planned_sound}
use Rattle.runner.specs.Answered.{Answered}
use Rattle.runner.specs.Whole.{came, left_plan, answer, values, Runnable, Checked}

-- 12 to 18 leave the values
pub tree_refused : (g p t : List ℕ) (vs : List ℤ) (budget : ℕ) (r : Result Report Refusal) (n : Refusal) → Refused n ≡ check_tree g t (length vs)
    → IsErrAnd r (λ e. e ≡ n) → Checked g p t vs budget r vs
unfolding run_answer values_after
tree_refused g p t vs budget r n e f =
    let q : check_tree g t (length vs) ≡ Refused n = sym e in
    record {
      answers = handed_out r n f ∙ sym (ap (λ (x : Verdict). run_answer g p t accepted x vs budget) q);
      values_are = sym (ap (λ (x : Verdict). values_after g p t accepted x vs budget) q);
    }

pub tree_ran : (g p t : List ℕ) (vs : List ℤ) (budget : ℕ) (v : Verdict) (r : Ran) (next : List ℤ) → v ≡ check_tree g t (length vs) → v ≡ Good
    → r ≡ (ran g p t vs budget).answer → next ≡ (ran g p t vs budget).machine.values
    → Checked g p t vs budget (reported r) next
unfolding run_answer values_after
tree_ran g p t vs budget v r next e f a b =
    let q : check_tree g t (length vs) ≡ Good = sym e ∙ f in
    record {
      answers = ap reported a ∙ sym (ap (λ (x : Verdict). run_answer g p t accepted x vs budget) q);
      values_are = b ∙ sym (ap (λ (x : Verdict). values_after g p t accepted x vs budget) q);
    }

pub tree_good : (g t : List ℕ) (n : ℕ) (v : Verdict) → v ≡ check_tree g t n → v ≡ Good → check_tree g t n ≡ Good
tree_good g t n v e f = sym e ∙ f

module _ (g : List ℕ) where
  refused_answer : (o : Outcome) (n : Refusal) (p t : List ℕ) (v : Verdict) (vs : List ℤ) (budget : ℕ) → Err n ≡ answer_of g o
      → (Err n ≡ run_answer g p t o v vs budget) × (vs ≡ values_after g p t o v vs budget)
  unfolding answer_of run_answer values_after
  refused_answer (untouched k) n p t v vs budget e = (cc, refl)
  refused_answer (circular_idp k) n p t v vs budget e = (cc, refl)
  refused_answer (unordered k) n p t v vs budget e = (cc, refl)
  refused_answer accepted n p t v vs budget e = absurd (let z : ◌≡◌ {A = ℕ} 0 1 = cc in omega arith)

  -- where planning accepts, what it wrote is a plan to run
  plan_sound : (rows plan : List ℕ) → outcome g (length rows) (length plan) ≡ accepted → Runnable g (over (accepted_plan g) plan)
  plan_sound rows plan e =
      let b = both_good g (length rows) (length plan) e in
      let o : CycleFree g = accepted_free g b.0 (length rows) (length plan) b.1 e in
      let room : plan_words (rules g) ≤ length plan = plan_room_law g (length rows) (length plan) b.1 in
      record {
        sound_plan = planned_sound g b.0 plan o.no_idp_cycle o.no_edp_cycle;
        long = omega (arith, over_size (accepted_plan g) plan (omega (arith, plan_length_law g plan)));
      }

-- a table that is refused is not planned, and nothing is written
pub read_refused : (g rows plan t : List ℕ) (vs : List ℤ) (budget : ℕ) (r : Result Report Refusal) (n : Refusal) → read_table g ≡ Refused n
    → IsErrAnd r (λ e. e ≡ n) → Answered g rows plan t vs budget r vs rows plan
unfolding came outcome answer values after_reading run_answer values_after rows_after plan_after
read_refused g rows plan t vs budget r n e h =
    let o : outcome g (length rows) (length plan) ≡ untouched n =
    ap (after_reading g) (sym (stops (read_table g) (room g (length rows) (length plan)) (Refused n) n (sym e) refl)) in
    let v : Verdict = check_tree g t (length vs) in
    record {
      answers = handed_out r n h ∙ sym (ap (λ (o : Outcome). run_answer g (left_plan g rows plan) t o v vs budget) o);
      values_are = sym (ap (λ (o : Outcome). values_after g (left_plan g rows plan) t o v vs budget) o);
      rows_are = sym (ap (λ (o : Outcome). rows_after g o rows) o);
      plan_is = sym (ap (λ (o : Outcome). plan_after g o plan) o);
    }

-- what planning answered and left settles the rest
module _ (g rows plan : List ℕ) (planned : Result ℕ Refusal) (rows' plan' : List ℕ) (w : planner.Answered g rows plan planned rows' plan') where
  pub runnable : (n : ℕ) → planned ≡ Ok n → Runnable g plan'
  unfolding plan_after
  runnable n e =
      let q = is_accepted g (outcome g (length rows) (length plan)) n (sym e ∙ w.answers) in
      subst⁻¹ (Runnable g) (w.plan_is ∙ ap (λ (o : Outcome). plan_after g o plan) q) (plan_sound g rows plan q)

  module _ (t : List ℕ) (vs : List ℤ) (budget : ℕ) where
    pub run_refused : (r : Result Report Refusal) (n : Refusal) → planned ≡ Err n → IsErrAnd r (λ e. e ≡ n)
        → Answered g rows plan t vs budget r vs rows' plan'
    unfolding came answer values
    run_refused r n e h =
        let o : Outcome = outcome g (length rows) (length plan) in
        let a = refused_answer g o n (left_plan g rows plan) t (check_tree g t (length vs)) vs budget (sym e ∙ w.answers) in
        record { answers = handed_out r n h ∙ a.0; values_are = a.1; rows_are = w.rows_are; plan_is = w.plan_is }

    pub run_ran : (n : ℕ) (r : Result Report Refusal) (next : List ℤ) → planned ≡ Ok n → Checked g plan' t vs budget r next
        → Answered g rows plan t vs budget r next rows' plan'
    unfolding came answer values
    run_ran n r next e d =
        let q = is_accepted g (outcome g (length rows) (length plan)) n (sym e ∙ w.answers) in
        let v : Verdict = check_tree g t (length vs) in
        record {
          answers =
              d.answers ∙ (ap (λ (p : List ℕ). run_answer g p t accepted v vs budget) w.plan_is
              ∙ ap (λ (o : Outcome). run_answer g (left_plan g rows plan) t o v vs budget) (sym q));
          values_are =
              d.values_are ∙ (ap (λ (p : List ℕ). values_after g p t accepted v vs budget) w.plan_is
              ∙ ap (λ (o : Outcome). values_after g (left_plan g rows plan) t o v vs budget) (sym q));
          rows_are = w.rows_are;
          plan_is = w.plan_is;
        }

-- the same where the words are those of the table that reading answered
module _ (h g rows plan t : List ℕ) (vs : List ℤ) (budget : ℕ) (planned : Result ℕ Refusal) (rows' plan' : List ℕ) (words : h ≡ g)
    (w : planner.Answered h rows plan planned rows' plan') where
  pub refused_so : (r : Result Report Refusal) (n : Refusal) → planned ≡ Err n → IsErrAnd r (λ e. e ≡ n)
      → Answered g rows plan t vs budget r vs rows' plan'
  refused_so r n e i =
      subst (λ (x : List ℕ). Answered x rows plan t vs budget r vs rows' plan') words
      (run_refused h rows plan planned rows' plan' w t vs budget r n e i)

  pub ran_so : (n : ℕ) (r : Result Report Refusal) (next : List ℤ) → planned ≡ Ok n → Checked h plan' t vs budget r next
      → Answered g rows plan t vs budget r next rows' plan'
  ran_so n r next e d =
      subst (λ (x : List ℕ). Answered x rows plan t vs budget r next rows' plan') words
      (run_ran h rows plan planned rows' plan' w t vs budget n r next e d)
