-- Refusal 8, room in the rows, then in the plan: a verdict goes by its tests in order, so what a passed test says is at hand.
-- Assumes nothing.
use Prim.Native.Nat.{ℕ, ◌≤◌, ◌<◌}
use mathlib.Core.Path.{◌≡◌, refl}
use mathlib.Core.List.{List}
use native.Mathlib.Omega.{arith}
use lib.Dec.{leb, leb→le}
use borrow.Author.Tests.{le-leb, lt-leb}
use Rattle.refusals.specs.declared.Refusal.TheVariants.{TooShort}
use Rattle.grammar.specs.Verdicts.{Good, Refused}
use Rattle.grammar.specs.Limits.{row_words, plan_words}
use Rattle.grammar.specs.Table.{rules}
use Rattle.grammar.proofs.VerdictLaws.{then_first, then_second, unless_passes}
use Rattle.access.proofs.Laws.{stops, passes, unless_true, unless_false}
use Rattle.plans.specs.Answer.{room}

pub rows_short : (g : List ℕ) (rows plan n : ℕ) → n ≡ rules g → rows < row_words n → Refused (TooShort 0) ≡ room g rows plan
unfolding room
rows_short g rows plan n e h =
    stops _ _ _ (TooShort 0) (unless_false (leb (row_words (rules g)) rows) (TooShort 0) (lt-leb (row_words (rules g)) rows (omega arith))) refl

pub plan_short : (g : List ℕ) (rows plan n : ℕ) → n ≡ rules g → row_words n ≤ rows → plan < plan_words n → Refused (TooShort 1) ≡ room g rows plan
unfolding room
plan_short g rows plan n e h l =
    passes _ _ Good _ (unless_true (leb (row_words (rules g)) rows) (TooShort 0) (le-leb (row_words (rules g)) rows (omega arith))) refl
    (unless_false (leb (plan_words (rules g)) plan) (TooShort 1) (lt-leb (plan_words (rules g)) plan (omega arith)))

pub both_long : (g : List ℕ) (rows plan n : ℕ) → n ≡ rules g → row_words n ≤ rows → plan_words n ≤ plan → Good ≡ room g rows plan
unfolding room
both_long g rows plan n e h l =
    passes _ _ Good _ (unless_true (leb (row_words (rules g)) rows) (TooShort 0) (le-leb (row_words (rules g)) rows (omega arith))) refl
    (unless_true (leb (plan_words (rules g)) plan) (TooShort 1) (le-leb (plan_words (rules g)) plan (omega arith)))

-- what room that was found says
pub rows_room : (g : List ℕ) (rows plan : ℕ) → room g rows plan ≡ Good → row_words (rules g) ≤ rows
unfolding room
rows_room g rows plan e = leb→le _ _ (unless_passes _ _ (then_first _ _ e))

pub plan_room_law : (g : List ℕ) (rows plan : ℕ) → room g rows plan ≡ Good → plan_words (rules g) ≤ plan
unfolding room
plan_room_law g rows plan e = leb→le _ _ (unless_passes _ _ (then_second _ _ e))
