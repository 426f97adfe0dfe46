-- How far planning comes, by the walk of the case that answers: "1 to 8 change nothing. 9 leaves IDP paths in the rows", 10 EDP paths.
-- An outcome that refuses with n is the one of n's walk. Assumes nothing.
use Prim.Native.Nat.{ℕ, ◌≤◌}
use mathlib.Core.Path.{◌≡◌, refl, sym, ◌∙◌, ap, subst}
use mathlib.Core.Logic.{◌↔◌}
use mathlib.Core.Bool.{Bool, true, false, cond}
use mathlib.Core.List.{List}
use native.Mathlib.Omega.{arith}
use lib.Dec.{leb, le→leb}
use Rattle.std.specs.Prelude.{Ok, Err}
use Rattle.basics.proofs.TestLaws.{chosen}
use Rattle.refusals.specs.declared.Refusal.{Refusal}
use Rattle.refusals.specs.declared.Refusal.TheVariants.{TooShort}
use Rattle.grammar.specs.Limits.{row_words, plan_words}
use Rattle.grammar.specs.Table.{rules}
use Rattle.grammar.specs.Reading.{read_table}
use Rattle.grammar.specs.Verdicts.{Verdict, Good, Refused, ◌then◌, unless}
use Rattle.relations.specs.Computed.{ids_of}
use Rattle.order.specs.Computed.{circular}
use Rattle.plans.specs.Answer.{
  Outcome,
  untouched,
  circular_idp,
  unordered,
  accepted as accepts,
  room,
  idp_paths,
  edp_paths,
  after_idp,
  after_room,
  after_reading,
  outcome,
}
use Rattle.plans.proofs.Answers.{sets_for, idp_cycle, edp_cycle}
use Rattle.cases.specs.First.{room_walk, idp_walk, walk}
use Rattle.cases.specs.PlanningCases.{PlanCase}
use Rattle.cases.specs.AllCases.{PlanRefuses}
use Rattle.cases.proofs.FirstLaws.{good_not_refused, same_refused}
use Rattle.cases.proofs.TableOrder.{table_walk}
use Rattle.cases.proofs.TableTests.{table_verdict}
use Rattle.cases.proofs.PlanningFirst.{verdict_of}
use Rattle.cases.proofs.PlanTests.{plan_verdict}

-- how far planning came where it refuses: "1 to 8 change nothing. 9 leaves IDP paths in the rows", 10 EDP paths
abbrev pub refused_with : List ℕ → Refusal → Outcome
refused_with g n = cond (leb (walk g n) room_walk) (untouched n) (cond (leb (walk g n) idp_walk) (circular_idp n) (unordered n))

module _ (g : List ℕ) (rows_length plan_length : ℕ) where
  -- an outcome that refuses with n is the one of n's walk
  Settled : Outcome → Type 0
  Settled o = (n : Refusal) → verdict_of o ≡ Refused n → o ≡ refused_with g n

  settled_cond : (b : Bool) (x y : Outcome) → Settled x → Settled y → Settled (cond b x y)
  settled_cond true x y p q = p
  settled_cond false x y p q = q

  settled_refused : (o : Outcome) (m : Refusal) → verdict_of o ≡ Refused m → o ≡ refused_with g m → Settled o
  unfolding Settled
  settled_refused o m e f n i = f ∙ ap (refused_with g) (same_refused m n (sym e ∙ i))

  settled_accepted : Settled accepts
  unfolding Settled verdict_of
  settled_accepted n i = absurd (good_not_refused n i)

  settled_cycles : Settled (after_room g (ids_of g))
  unfolding after_room after_idp verdict_of
  settled_cycles =
      settled_cond (circular g (idp_paths g (ids_of g))) _ _ (settled_refused _ (idp_cycle g) refl refl)
      (settled_cond (circular g (edp_paths g (ids_of g) (sets_for g))) _ _ (settled_refused _ (edp_cycle g) refl refl) settled_accepted)

  settled_early : (v : Verdict) → ((n : Refusal) → v ≡ Refused n → walk g n ≤ room_walk) → Settled (after_reading g v)
  unfolding after_reading verdict_of
  settled_early (Ok _) h = settled_cycles
  settled_early (Err m) h =
      settled_refused (untouched m) m refl (sym (chosen (leb (walk g m) room_walk) (untouched m) _ (le→leb (walk g m) room_walk (h m refl))))

  room_walk_law : (n : Refusal) → room g rows_length plan_length ≡ Refused n → walk g n ≤ room_walk
  unfolding room unless ◌then◌
  room_walk_law n = go (leb (row_words (rules g)) rows_length) (leb (plan_words (rules g)) plan_length)
    where
      go : (a b : Bool) → (unless a (TooShort 0) then unless b (TooShort 1)) ≡ Refused n → walk g n ≤ room_walk
      go false b e = subst (λ (m : Refusal). walk g m ≤ room_walk) (same_refused (TooShort 0) n e) (omega arith)
      go true false e = subst (λ (m : Refusal). walk g m ≤ room_walk) (same_refused (TooShort 1) n e) (omega arith)
      go true true e = absurd (good_not_refused n e)

  reading_walk : (v w : Verdict) → ((n : Refusal) → v ≡ Refused n → walk g n ≤ room_walk) → ((n : Refusal) → w ≡ Refused n → walk g n ≤ room_walk)
      → (n : Refusal) → (v then w) ≡ Refused n → walk g n ≤ room_walk
  unfolding ◌then◌
  reading_walk (Ok _) w p q n e = q n e
  reading_walk (Err m) w p q n e = p n e

  settled : Settled (outcome g rows_length plan_length)
  unfolding outcome
  settled =
      settled_early (read_table g then room g rows_length plan_length)
      (reading_walk (read_table g) (room g rows_length plan_length)
      (λ n e. omega (arith, table_walk g n (((table_verdict g).refused n).0 e).applies)) room_walk_law)

  of_refusal : (n : Refusal) → verdict_of (refused_with g n) ≡ Refused n
  unfolding verdict_of
  of_refusal n = go (leb (walk g n) room_walk) (leb (walk g n) idp_walk)
    where
      go : (a b : Bool) → verdict_of (cond a (untouched n) (cond b (circular_idp n) (unordered n))) ≡ Refused n
      go true b = refl
      go false true = refl
      go false false = refl

  of_accepted : (o : Outcome) → verdict_of o ≡ Good → o ≡ accepts
  unfolding verdict_of
  of_accepted (untouched n) e = absurd (good_not_refused n (sym e))
  of_accepted (circular_idp n) e = absurd (good_not_refused n (sym e))
  of_accepted (unordered n) e = absurd (good_not_refused n (sym e))
  of_accepted accepts e = refl

  accepted_good : verdict_of accepts ≡ Good
  unfolding verdict_of
  accepted_good = refl

  -- how far planning comes: with n exactly if n is the first case that applies
  pub plan_outcome : (n : Refusal) → (outcome g rows_length plan_length ≡ refused_with g n) ↔ PlanRefuses g rows_length plan_length n
  unfolding Settled
  plan_outcome n = (
    λ e. ((plan_verdict g rows_length plan_length).refused n).0 (ap verdict_of e ∙ of_refusal n),
    λ f. settled n
        (((plan_verdict g rows_length plan_length).refused n).1 f),
  )

  -- and to the end exactly if none applies
  pub plan_done : (outcome g rows_length plan_length ≡ accepts) ↔ ((n : Refusal) → ¬ PlanCase g rows_length plan_length n)
  plan_done = (
    λ e. (plan_verdict g rows_length plan_length).good.0 (ap verdict_of e ∙ accepted_good),
    λ h. of_accepted (outcome g rows_length plan_length) ((plan_verdict g rows_length plan_length).good.1 h),
  )
