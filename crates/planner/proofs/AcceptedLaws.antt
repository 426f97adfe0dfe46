-- Planning answers with a number exactly where it accepts; then the table is read and the buffers have room.
-- Assumes nothing.
use Prim.Native.Nat.{ℕ}
use mathlib.Core.Path.{◌≡◌, refl}
use mathlib.Core.List.{List}
use native.Mathlib.Omega.{arith}
use Rattle.std.specs.Prelude.{Ok, Err}
use Rattle.grammar.specs.Verdicts.{Verdict, Good}
use Rattle.grammar.specs.Reading.{read_table}
use Rattle.grammar.proofs.VerdictLaws.{then_first, then_second}
use Rattle.plans.specs.Answer.{Outcome, untouched, circular_idp, unordered, accepted, room, after_reading, outcome, answer_of}

module _ (g : List ℕ) where
  pub is_accepted : (o : Outcome) (n : ℕ) → Ok n ≡ answer_of g o → o ≡ accepted
  unfolding answer_of
  is_accepted (untouched k) n e = absurd (let z : ◌≡◌ {A = ℕ} 0 1 = cc in omega arith)
  is_accepted (circular_idp k) n e = absurd (let z : ◌≡◌ {A = ℕ} 0 1 = cc in omega arith)
  is_accepted (unordered k) n e = absurd (let z : ◌≡◌ {A = ℕ} 0 1 = cc in omega arith)
  is_accepted accepted n e = refl

  read_of : (v : Verdict) → after_reading g v ≡ accepted → v ≡ Good
  unfolding after_reading
  read_of (Ok _) e = refl
  read_of (Err n) e = absurd (let z : ◌≡◌ {A = ℕ} 0 1 = cc in omega arith)

  pub both_good : (n m : ℕ) → outcome g n m ≡ accepted → (read_table g ≡ Good) × (room g n m ≡ Good)
  unfolding outcome
  both_good n m e = let q = read_of _ e in (then_first _ _ q, then_second _ _ q)
