-- A verdict is good or a refusal, and tests stand one after the other: the first that fails answers.
-- Computed: no demand rests on it. Assumes nothing.
use Rattle.std.specs.Prelude.{ℕ, zero, suc, Bool, true, false, Result, Ok, Err}
use Rattle.refusals.specs.declared.Refusal.{Refusal}

-- what a test or a reading answers that hands nothing on
abbrev pub Verdict : Type 0
Verdict = Result (Unit {0}) Refusal

abbrev pub Good : Verdict
Good = Ok tt

abbrev pub Refused : Refusal → Verdict
Refused n = Err n

-- the first verdict, and where it is good the second
infixr 15 ◌then◌
unfoldable pub ◌then◌ : Verdict → Verdict → Verdict
(Ok _) then w = w
(Err n) then w = Refused n

-- refused unless the test passes
unfoldable pub unless : Bool → Refusal → Verdict
unless true n = Good
unless false n = Refused n

-- f 0, then f 1 and so on, n of them
unfoldable pub each : ℕ → (ℕ → Verdict) → Verdict
each zero f = Good
each (suc n) f = each n f then f n
