-- What the machine holds of a value: its bits, from which it is read back whole.
-- Assumes nothing.
use Prim.Native.Nat.{ℕ, zero, suc, ◌≤◌, ◌<◌, ◌^◌}
use native.Mathlib.Omega.{arith}
use mathlib.Core.Path.{◌≡◌, refl, sym, ap, ap₂, ◌∙◌}
use mathlib.Core.Bool.{Bool, true, false, cond}
use borrow.Author.Tests.{ne_eqb}
use lib.Dec.{eqb}
use lib.ListN.{get_or, get_or-eq_default}
use lib.IntN.{ℤ, pos, ◌+ℤ◌, ◌-ℤ◌}
use lib.Signed.{lt_z, mag}
use mir.Syntax.{Width, w16, w32}
use mir.Val.{SFits, to_z, of_z}
use mir.Facts.{to_z-of_z, sfits_lit}
use Rattle.std.specs.Int.{saturate_signed, from_bool}
use Rattle.std.proofs.lemmas.Int.{ints, of_z-to_z}
use Rattle.values.specs.Value.{hold, constant, exact, results, result, same, truth, choose, served_before}
use Rattle.values.proofs.ValueLaws.{saturated, constant_fits, hold_same, hold_fits, result_fits, truth_fits, truth_is, same_true, same_false, served}

-- a number that fits, by another name, is read back
pub read : {w : Width} {r z : ℤ} → r ≡ z → SFits w z → to_z w (of_z w r) ≡ z
read {w} e f = ap (λ (v : ℤ). to_z w (of_z w v)) e ∙ to_z-of_z f

-- ---- tests

pub tested : {w : Width} {x y : ℤ} {b : Bool} → SFits w x → SFits w y → lt_z (to_z w (of_z w x)) (to_z w (of_z w y)) ≡ b → lt_z x y ≡ b
tested f g e = sym (ap₂ lt_z (to_z-of_z f) (to_z-of_z g)) ∙ e

pub equal : {x y : ℤ} → SFits w32 x → SFits w32 y → of_z w32 x ≡ of_z w32 y → same x y ≡ true
equal {x} {y} f g e = same_true x y (sym (to_z-of_z f) ∙ ap (to_z w32) e ∙ to_z-of_z g)

pub differ : (x y : ℤ) → (of_z w32 x ≡ of_z w32 y → ⊥) → same x y ≡ false
differ x y d = same_false x y (λ e. d (ap (of_z w32) e))

-- ---- a constant word

word_is : (n : ℕ) → n < 2 ^ 16 → to_z w16 n ≡ constant n
unfolding constant
word_is n h = grind (arith, ints)

-- the bits of a word, read as a signed word of 16 bits
pub word_signed : (n : ℕ) {r s : ℤ} → n < 2 ^ 16 → s ≡ to_z w16 n → r ≡ to_z w16 (of_z w16 s) → to_z w32 (of_z w32 r) ≡ constant n
word_signed n h e d =
    read (d ∙ ap (λ (z : ℤ). to_z w16 (of_z w16 z)) e ∙ ap (to_z w16) (of_z-to_z w16 n h) ∙ word_is n h) (constant_fits n h)

-- the same, with the definition first: by it `grind` finds the word in a goal
pub constant_read : (n : ℕ) → n < 2 ^ 16 → constant n ≡ to_z w32 (of_z w32 (to_z w16 (of_z w16 (to_z w16 n))))
constant_read n h = sym (word_signed n h refl refl)

-- ---- a sum or a difference

-- what std answers, by its bits and those of x and y, is the exact number, held at the ends
held : (operation : ℤ → ℤ → ℤ) {x y : ℤ} → SFits w32 x → SFits w32 y
    → hold (operation x y) ≡ to_z w32 (of_z w32 (saturate_signed w32 (operation (to_z w32 (of_z w32 x)) (to_z w32 (of_z w32 y)))))
held operation {x} {y} f g =
    sym (read (saturated (operation x y) refl) (hold_fits (operation x y)))
    ∙ sym (ap₂ (λ (v w : ℤ). to_z w32 (of_z w32 (saturate_signed w32 (operation v w)))) (to_z-of_z f) (to_z-of_z g))

-- ---- the answer of an operation

-- what lies between the ends is what it is held at
pub whole : {r v : ℤ} → r ≡ v → mag r < 2 ^ 31 → r ≡ hold v
whole {r} {v} e h = sym (hold_same r (record { sfits = h })) ∙ ap hold e

-- what the table has at k is the result of the operation k
pub answered : (k : ℕ) {op : ℕ} {x y z t r : ℤ} → SFits w32 x → SFits w32 y → SFits w32 z → SFits w32 t → op ≡ k
    → r ≡ hold (get_or (results (to_z w32 (of_z w32 x)) (to_z w32 (of_z w32 y)) (to_z w32 (of_z w32 z)) (to_z w32 (of_z w32 t))) k (pos 0))
    → to_z w32 (of_z w32 r) ≡ result op x y z t
unfolding result exact
answered k {op} {x} {y} {z} {t} fx fy fz ft e h =
    read (h ∙ (λ i. hold (get_or (results (to_z-of_z fx i) (to_z-of_z fy i) (to_z-of_z fz i) (to_z-of_z ft i)) k (pos 0)))) (result_fits k x y z t)
    ∙ ap (λ (n : ℕ). result n x y z t) (sym e)

-- operations 2 and 3, with the definition first: by it `grind` finds the operation in a goal
pub sum_read : (x y z t : ℤ) → SFits w32 x → SFits w32 y
    → result 2 x y z t ≡ to_z w32 (of_z w32 (saturate_signed w32 (to_z w32 (of_z w32 x) +ℤ to_z w32 (of_z w32 y))))
unfolding result exact
sum_read x y z t f g = held ◌+ℤ◌ f g

pub difference_read : (x y z t : ℤ) → SFits w32 x → SFits w32 y
    → result 3 x y z t ≡ to_z w32 (of_z w32 (saturate_signed w32 (to_z w32 (of_z w32 x) -ℤ to_z w32 (of_z w32 y))))
unfolding result exact
difference_read x y z t f g = held ◌-ℤ◌ f g

-- operations 0 and 1 hand on their argument
pub handed_on : (op : ℕ) {x : ℤ} (y z t : ℤ) → SFits w32 x → op < 2 → to_z w32 (of_z w32 x) ≡ result op x y z t
unfolding result exact
handed_on zero {x} y z t f h = to_z-of_z f ∙ sym (hold_same x f)
handed_on (suc zero) {x} y z t f h = to_z-of_z f ∙ sym (hold_same x f)
handed_on (suc (suc op)) y z t f h = absurd (omega arith)

-- from k on, and not k
pub past : (k : ℕ) {op : ℕ} → k ≤ op → (op ≡ k → ⊥) → suc k ≤ op
past k h d = omega arith

-- no operation has a number over 8
pub no_operation : (op : ℕ) (x y z t : ℤ) → 9 ≤ op → pos 0 ≡ result op x y z t
unfolding result exact hold
no_operation op x y z t h = sym (ap hold (get_or-eq_default (results x y z t) (pos 0) h))

-- operation 7 hands on y or z: x is 0 where its bits are
module _ {op : ℕ} {x : ℤ} (y z t : ℤ) (seven : op ≡ 7) (f : SFits w32 x) where
  pub chosen_z : of_z w32 x ≡ 0 → SFits w32 z → to_z w32 (of_z w32 z) ≡ result op x y z t
  unfolding result exact choose
  chosen_z e g = to_z-of_z g ∙ sym (hold_same z g) ∙ sym (ap (λ (b : Bool). hold (cond b z y)) (equal {y = pos 0} f (sfits_lit tt) e))
      ∙ ap (λ (n : ℕ). result n x y z t) (sym seven)

  pub chosen_y : (of_z w32 x ≡ 0 → ⊥) → SFits w32 y → to_z w32 (of_z w32 y) ≡ result op x y z t
  unfolding result exact choose
  chosen_y d g = to_z-of_z g ∙ sym (hold_same y g) ∙ sym (ap (λ (b : Bool). hold (cond b z y)) (differ x (pos 0) d))
      ∙ ap (λ (n : ℕ). result n x y z t) (sym seven)

-- ---- the order of service, by the order of the priorities

module _ (p s q t : ℤ) {r : ℤ} {b : Bool} (one : r ≡ pos (from_bool b)) (f : SFits w32 p) (g : SFits w32 q) where
  served_from : {c : Bool} → b ≡ c → served_before p s q t ≡ truth c → to_z w32 (of_z w32 r) ≡ served_before p s q t
  served_from {c} e h = read (truth_is b one ∙ ap truth e) (truth_fits c) ∙ sym h

  pub served_higher : lt_z (to_z w32 (of_z w32 q)) (to_z w32 (of_z w32 p)) ≡ true → b ≡ lt_z (to_z w32 (of_z w32 q)) (to_z w32 (of_z w32 p))
      → to_z w32 (of_z w32 r) ≡ served_before p s q t
  served_higher e i = served_from (i ∙ e) (served p s q t (tested g f e) refl)

  pub served_equal : lt_z (to_z w32 (of_z w32 q)) (to_z w32 (of_z w32 p)) ≡ false → of_z w32 p ≡ of_z w32 q → SFits w32 s → SFits w32 t
      → b ≡ lt_z (to_z w32 (of_z w32 s)) (to_z w32 (of_z w32 t)) → to_z w32 (of_z w32 r) ≡ served_before p s q t
  served_equal e d h k i =
      served_from (i ∙ ap₂ lt_z (to_z-of_z h) (to_z-of_z k)) (served p s q t (tested g f e) (equal f g d))

  pub served_lower : lt_z (to_z w32 (of_z w32 q)) (to_z w32 (of_z w32 p)) ≡ false → (of_z w32 p ≡ of_z w32 q → ⊥) → b ≡ eqb (of_z w32 p) (of_z w32 q)
      → to_z w32 (of_z w32 r) ≡ served_before p s q t
  served_lower e d i = served_from (i ∙ ne_eqb _ _ d) (served p s q t (tested g f e) (differ p q d))
