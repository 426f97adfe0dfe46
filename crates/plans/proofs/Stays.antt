-- "Words beyond these sizes stay", however far planning came; and planning that wrote anything had room.
-- Assumes nothing.
use Prim.Native.Nat.{ℕ, ◌≤◌}
use mathlib.Core.Path.{◌≡◌, refl, sym, ◌∙◌, ap}
use mathlib.Core.Bool.{Bool}
use mathlib.Core.List.{List}
use native.Mathlib.Omega.{arith}
use lib.Dec.{leb→le}
use lib.ListN.{length}
use Rattle.std.specs.Prelude.{Ok, Err}
use Rattle.refusals.specs.declared.Refusal.{Refusal}
use Rattle.grammar.specs.Limits.{row_words, plan_words}
use Rattle.grammar.specs.Verdicts.{Verdict, Good, ◌then◌}
use Rattle.grammar.proofs.VerdictLaws.{unless_passes, then_first, then_second}
use Rattle.grammar.specs.Table.{rules}
use Rattle.grammar.specs.Reading.{read_table}
use Rattle.relations.specs.Computed.{ids_of}
use Rattle.sets.specs.Computed.{sets_of}
use Rattle.plans.specs.Buffers.{over, rows_of}
use Rattle.plans.specs.Answer.{
  Outcome,
  untouched,
  circular_idp,
  unordered,
  accepted,
  room,
  after_reading,
  outcome,
  idp_paths,
  edp_paths,
  accepted_plan,
  rows_after,
  plan_after,
}
use Rattle.plans.specs.Left.{Beyond}
use Rattle.plans.proofs.RowWords.{rows_length_law, over_size, over_rest}
use Rattle.plans.proofs.PlanWords.{plan_length_law, plan_past}

-- "Words beyond these sizes stay", however far planning came
module _ (g lent : List ℕ) where
  rows_beyond_of : (paths : ℕ → ℕ → ℕ → Bool) → row_words (rules g) ≤ length lent → Beyond (row_words (rules g)) lent (over (rows_of g paths) lent)
  rows_beyond_of paths h =
      record { as_many = over_size (rows_of g paths) lent (omega (arith, rows_length_law g paths)); stay = over_rest g paths lent }

  unchanged : (n : ℕ) → Beyond n lent lent
  unchanged n = record { as_many = refl; stay = λ j h. refl }

  pub rows_beyond : (o : Outcome) → row_words (rules g) ≤ length lent → Beyond (row_words (rules g)) lent (rows_after g o lent)
  unfolding rows_after
  rows_beyond (untouched n) h = unchanged (row_words (rules g))
  rows_beyond (circular_idp n) h = rows_beyond_of (idp_paths g (ids_of g)) h
  rows_beyond (unordered n) h = rows_beyond_of (edp_paths g (ids_of g) (sets_of g (ids_of g))) h
  rows_beyond accepted h = rows_beyond_of (edp_paths g (ids_of g) (sets_of g (ids_of g))) h

  pub plan_beyond : (o : Outcome) → plan_words (rules g) ≤ length lent → Beyond (plan_words (rules g)) lent (plan_after g o lent)
  unfolding plan_after
  plan_beyond (untouched n) h = unchanged (plan_words (rules g))
  plan_beyond (circular_idp n) h = unchanged (plan_words (rules g))
  plan_beyond (unordered n) h = unchanged (plan_words (rules g))
  plan_beyond accepted h =
      record { as_many = over_size (accepted_plan g) lent (omega (arith, plan_length_law g lent)); stay = plan_past g lent }

-- an accepted table had room
pub accepted_room : (g : List ℕ) (rows_length plan_length : ℕ) → outcome g rows_length plan_length ≡ accepted → room g rows_length plan_length ≡ Good
unfolding outcome after_reading
accepted_room g rows_length plan_length e = go (read_table g then room g rows_length plan_length) refl
  where
    go : (v : Verdict) → (read_table g then room g rows_length plan_length) ≡ v → room g rows_length plan_length ≡ Good
    go (Ok _) i = then_second (read_table g) (room g rows_length plan_length) i
    go (Err n) i =
        absurd (let q : untouched n ≡ accepted = sym (ap (after_reading g) i) ∙ e in let z : ◌≡◌ {A = ℕ} 0 1 = cc in omega arith)

-- whatever the table and the lengths
module _ (g rows plan : List ℕ) where
  -- planning that is not refused before it writes has room
  pub past_room : (o : Outcome) → outcome g (length rows) (length plan) ≡ o → ((n : Refusal) → ¬ (o ≡ untouched n))
      → (row_words (rules g) ≤ length rows) × (plan_words (rules g) ≤ length plan)
  unfolding outcome after_reading room
  past_room o e h = go (read_table g then room g (length rows) (length plan)) refl
    where
      go : (v : Verdict) → (read_table g then room g (length rows) (length plan)) ≡ v
          → (row_words (rules g) ≤ length rows) × (plan_words (rules g) ≤ length plan)
      go (Ok _) i =
          let w : room g (length rows) (length plan) ≡ Good = then_second (read_table g) (room g (length rows) (length plan)) i in
          (leb→le _ _ (unless_passes _ _ (then_first _ _ w)), leb→le _ _ (unless_passes _ _ (then_second _ _ w)))
      go (Err n) i = absurd (h n (sym e ∙ ap (after_reading g) i))

  pub rows_stay : Beyond (row_words (rules g)) rows (rows_after g (outcome g (length rows) (length plan)) rows)
  rows_stay = go (outcome g (length rows) (length plan)) refl
    where
      go : (o : Outcome) → outcome g (length rows) (length plan) ≡ o → Beyond (row_words (rules g)) rows (rows_after g o rows)
      go (untouched n) e = unfold rows_after in unchanged g rows (row_words (rules g))
      go (circular_idp n) e = rows_beyond g rows (circular_idp n) (past_room (circular_idp n) e (λ m q. let z : ◌≡◌ {A = ℕ} 0 1 = cc in omega arith)).0
      go (unordered n) e = rows_beyond g rows (unordered n) (past_room (unordered n) e (λ m q. let z : ◌≡◌ {A = ℕ} 0 1 = cc in omega arith)).0
      go accepted e = rows_beyond g rows accepted (past_room accepted e (λ m q. let z : ◌≡◌ {A = ℕ} 0 1 = cc in omega arith)).0

  pub plan_stay : Beyond (plan_words (rules g)) plan (plan_after g (outcome g (length rows) (length plan)) plan)
  plan_stay = go (outcome g (length rows) (length plan)) refl
    where
      go : (o : Outcome) → outcome g (length rows) (length plan) ≡ o → Beyond (plan_words (rules g)) plan (plan_after g o plan)
      go (untouched n) e = unfold plan_after in unchanged g plan (plan_words (rules g))
      go (circular_idp n) e = unfold plan_after in unchanged g plan (plan_words (rules g))
      go (unordered n) e = unfold plan_after in unchanged g plan (plan_words (rules g))
      go accepted e = plan_beyond g plan accepted (past_room accepted e (λ m q. let z : ◌≡◌ {A = ℕ} 0 1 = cc in omega arith)).1
