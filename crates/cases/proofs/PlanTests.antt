-- Planning refuses with n exactly if n is the first of the cases 1 to 10 that applies, and answers a plan exactly if none applies: the reader's
-- cases come first, then those of planning. Assumes nothing.
use Prim.Native.Nat.{ℕ, ◌≤◌}
use mathlib.Core.Path.{◌≡◌, refl, sym, ◌∙◌, ap, subst⁻¹}
use mathlib.Core.Logic.Iff
use mathlib.Core.Logic.{◌⊎◌, inl, inr, ◌↔◌}
use mathlib.Core.List.{List}
use native.Mathlib.Omega.{arith}
use Rattle.std.specs.Prelude.{Ok, Err}
use Rattle.refusals.specs.declared.Refusal.{Refusal}
use Rattle.grammar.specs.Limits.{plan_words}
use Rattle.grammar.specs.Table.{rules}
use Rattle.grammar.specs.Reading.{read_table}
use Rattle.grammar.specs.Verdicts.{Verdict, Good, Refused, ◌then◌}
use Rattle.relations.specs.Computed.{ids_of}
use Rattle.plans.specs.Answer.{
  Outcome,
  untouched,
  circular_idp,
  unordered,
  accepted as accepts,
  room,
  after_room,
  after_reading,
  outcome,
  answer_of,
}
use Rattle.plans.proofs.Left.{accepted_answer}
use Rattle.cases.specs.First.{edp_walk, walk, GoesBy}
use Rattle.cases.specs.PlanningCases.{PlanningCase, PlanCase, in_table, in_planning}
use Rattle.cases.specs.TableCases.{TableCase}
use Rattle.cases.specs.AllCases.{PlanRefuses}
use Rattle.cases.proofs.FirstLaws.{good_not_refused, by_finding, goes_then}
use Rattle.cases.proofs.TableOrder.{table_walk}
use Rattle.cases.proofs.TableTests.{table_verdict}
use Rattle.cases.proofs.PlanningFirst.{verdict_of, planning_walk, found_planning}

-- reading, room, and what comes after them
verdict_parts : (g : List ℕ) (v w : Verdict)
    → verdict_of (after_reading g (v then w)) ≡ (v then (w then verdict_of (after_room g (ids_of g))))
unfolding ◌then◌ after_reading verdict_of
verdict_parts g (Ok _) (Ok _) = refl
verdict_parts g (Ok _) (Err n) = refl
verdict_parts g (Err n) w = refl

module _ (g : List ℕ) (rows_length plan_length : ℕ) where
  either : (n : Refusal) → PlanCase g rows_length plan_length n → TableCase g n ⊎ PlanningCase g rows_length plan_length n
  either n (in_table c) = inl c
  either n (in_planning c) = inr c

  pub plan_walk : (n : Refusal) → PlanCase g rows_length plan_length n → walk g n ≤ edp_walk
  plan_walk n (in_table c) = omega (arith, table_walk g n c)
  plan_walk n (in_planning c) = (planning_walk g rows_length plan_length n c).1

  -- The verdict of planning: good exactly if no case of 1 to 10 applies, and refusal n exactly if n is the first that applies.
  pub plan_verdict : GoesBy g (PlanCase g rows_length plan_length) (verdict_of (outcome g rows_length plan_length))
  unfolding outcome
  plan_verdict =
      subst⁻¹ (GoesBy g (PlanCase g rows_length plan_length)) (verdict_parts g (read_table g) (room g rows_length plan_length))
      (goes_then g (TableCase g) (PlanningCase g rows_length plan_length) (PlanCase g rows_length plan_length) (λ n c. in_table c) (λ n c. in_planning c) either
      (λ m n c d. omega (arith, table_walk g m c, (planning_walk g rows_length plan_length n d).0)) (read_table g)
      (room g rows_length plan_length then verdict_of (after_room g (ids_of g))) (table_verdict g)
      (λ e. by_finding g (PlanningCase g rows_length plan_length) _ (found_planning g rows_length plan_length e)))

  -- what planning answers
  answer_refused : (o : Outcome) (n : Refusal) → (answer_of g o ≡ Err n) ↔ (verdict_of o ≡ Refused n)
  unfolding answer_of verdict_of
  answer_refused (untouched k) n = (λ e. cc, λ e. cc)
  answer_refused (circular_idp k) n = (λ e. cc, λ e. cc)
  answer_refused (unordered k) n = (λ e. cc, λ e. cc)
  answer_refused accepts n = (λ e. absurd (let z : ◌≡◌ {A = ℕ} 0 1 = cc in omega arith), λ e. absurd (good_not_refused n e))

  answer_accepted : (o : Outcome) (k : ℕ)
      → (answer_of g o ≡ Ok k) ↔ ((k ≡ plan_words (rules g)) × (verdict_of o ≡ Good))
  unfolding answer_of verdict_of
  answer_accepted (untouched m) k =
      (λ e. absurd (let z : ◌≡◌ {A = ℕ} 0 1 = cc in omega arith), λ e. absurd (good_not_refused m (sym e.1)))
  answer_accepted (circular_idp m) k =
      (λ e. absurd (let z : ◌≡◌ {A = ℕ} 0 1 = cc in omega arith), λ e. absurd (good_not_refused m (sym e.1)))
  answer_accepted (unordered m) k =
      (λ e. absurd (let z : ◌≡◌ {A = ℕ} 0 1 = cc in omega arith), λ e. absurd (good_not_refused m (sym e.1)))
  answer_accepted accepts k = (λ e. (cc, refl), λ e. accepted_answer g ∙ ap Ok (sym e.0))

  -- planning answers refusal n exactly if n is the first of the cases 1 to 10 that applies
  pub plan_refused : (n : Refusal)
      → (answer_of g (outcome g rows_length plan_length) ≡ Err n) ↔ PlanRefuses g rows_length plan_length n
  plan_refused n = Iff.trans (answer_refused (outcome g rows_length plan_length) n) (plan_verdict.refused n)

  -- and a plan exactly if none applies
  pub plan_accepted : (k : ℕ) → (answer_of g (outcome g rows_length plan_length) ≡ Ok k)
      ↔ ((k ≡ plan_words (rules g)) × ((n : Refusal) → ¬ PlanCase g rows_length plan_length n))
  plan_accepted k = (
    λ e. let w = (answer_accepted (outcome g rows_length plan_length) k).0 e in (w.0, plan_verdict.good.0 w.1),
    λ w. (answer_accepted (outcome g rows_length plan_length) k).1 (w.0, plan_verdict.good.1 w.1),
  )
