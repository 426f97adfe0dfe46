-- The contracts of `number`, `place` and `second_place` are each one equation: for every refusal one number meets it, and only one.
-- Assumes nothing.
use mathlib.Core.Path.{◌≡◌, refl, sym, ◌∙◌}
use Prim.Native.Nat.{ℕ}
use Rattle.refusals.specs.declared.Refusal.{Refusal}

-- f is number_of, place_of or second_of
pub every_input : (f : Refusal → ℕ) (r : Refusal) → (n : ℕ) × (n ≡ f r)
every_input f r = (f r, refl)

pub one_answer : (f : Refusal → ℕ) (r : Refusal) (a b : ℕ) → a ≡ f r → b ≡ f r → a ≡ b
one_answer f r a b v w = v ∙ sym w
