-- What holding at the ends does: a value between the ends stays as it is, and every result lies between the ends.
-- `SFits w32 x` says that x lies between the ends. Assumes nothing.
use Prim.Native.Nat.{ℕ, suc, ◌-◌, ◌<◌, ◌^◌}
use native.Mathlib.Omega.{arith}
use mathlib.Core.Path.{◌≡◌, refl, sym, ap, ap₂, ◌∙◌, subst⁻¹}
use mathlib.Core.Bool.{Bool, true, false, cond, not, ◌&&◌, ◌||◌}
use borrow.Author.Tests.{ltb-false, le-ltb, eq-eqb, ne_eqb}
use lib.IntN.{ℤ, pos, negsuc, ◌-ℤ◌}
use lib.Signed.{lt_z, mag, ◌≤ℤ◌, lt_z_no}
use lib.Dec.{T, ltb}
use mir.Syntax.{w32}
use mir.Val.{SFits}
use mir.Facts.{sfits_lit}
use Rattle.std.specs.Int.{saturate_signed, int_max, int_min, from_bool}
use Rattle.std.proofs.lemmas.Int.{ints}
use Rattle.values.specs.Value.{least, greatest, hold, constant, truth, served_before, exact, result, same, larger, smaller, less}

-- ---- between the ends

not_under : (x : ℤ) → SFits w32 x → lt_z x least ≡ false
not_under (pos n) f = refl
not_under (negsuc n) f = le-ltb 2147483647 n (omega (arith, f.sfits))

not_over : (x : ℤ) → SFits w32 x → lt_z greatest x ≡ false
not_over (pos n) f = le-ltb 2147483647 n (omega (arith, f.sfits))
not_over (negsuc n) f = refl

pub within_fits : (x : ℤ) → lt_z x least ≡ false → lt_z greatest x ≡ false → SFits w32 x
within_fits (pos n) p q = record { sfits = omega (arith, ltb-false 2147483647 n q) }
within_fits (negsuc n) p q = record { sfits = omega (arith, ltb-false 2147483647 n p) }

-- ---- hold, by its two tests

pub hold_under : (x : ℤ) → lt_z x least ≡ true → hold x ≡ least
unfolding hold
hold_under x p = ap (λ (a : Bool). cond a least (cond (lt_z greatest x) greatest x)) p

pub hold_over : (x : ℤ) → lt_z x least ≡ false → lt_z greatest x ≡ true → hold x ≡ greatest
unfolding hold
hold_over x p q = ap₂ (λ (a b : Bool). cond a least (cond b greatest x)) p q

pub hold_within : (x : ℤ) → lt_z x least ≡ false → lt_z greatest x ≡ false → hold x ≡ x
unfolding hold
hold_within x p q = ap₂ (λ (a b : Bool). cond a least (cond b greatest x)) p q

-- a value between the ends is held as it is
pub hold_same : (x : ℤ) → SFits w32 x → hold x ≡ x
hold_same x f = hold_within x (not_under x f) (not_over x f)

-- what is held lies between the ends
pub hold_fits : (x : ℤ) → SFits w32 (hold x)
unfolding hold
hold_fits x = go (lt_z x least) (lt_z greatest x) refl refl
  where
    go : (a b : Bool) → lt_z x least ≡ a → lt_z greatest x ≡ b → SFits w32 (cond a least (cond b greatest x))
    go true b p q = sfits_lit tt
    go false true p q = sfits_lit tt
    go false false p q = within_fits x p q

-- so does every result
pub result_fits : (op : ℕ) (x y z t : ℤ) → SFits w32 (result op x y z t)
unfolding result
result_fits op x y z t = hold_fits (exact op x y z t)

-- an exact result between the ends is the result
pub result_exact : (op : ℕ) (x y z t : ℤ) → SFits w32 (exact op x y z t) → result op x y z t ≡ exact op x y z t
unfolding result
result_exact op x y z t f = hold_same (exact op x y z t) f

-- the ends, as an order
pub fits_between : (x : ℤ) → SFits w32 x → (least ≤ℤ x) × (x ≤ℤ greatest)
fits_between x f = (above (lt_z x least) (not_under x f) lt_z_no, above (lt_z greatest x) (not_over x f) lt_z_no)
  where
    above : (b : Bool) {P : Type 0} → b ≡ false → (T (not b) → P) → P
    above b e h = h (subst⁻¹ (λ (a : Bool). T (not a)) e tt)

-- ---- constants

pub mag_cond : (c : Bool) (m n : ℕ) {k : ℕ} → m < k → n < k → mag (cond c (negsuc m) (pos n)) < k
mag_cond true m n h l = h
mag_cond false m n h l = l

pub less_fits : (n : ℕ) → n < 2 ^ 16 → SFits w32 (pos n -ℤ pos 65536)
less_fits n h = record { sfits = mag_cond (ltb n 65536) (65536 - suc n) (n - 65536) (omega arith) (omega arith) }

pub constant_fits : (word : ℕ) → word < 2 ^ 16 → SFits w32 (constant word)
unfolding constant
constant_fits word h = go (ltb word 32768)
  where
    go : (b : Bool) → SFits w32 (cond b (pos word) (pos word -ℤ pos 65536))
    go true = record { sfits = omega arith }
    go false = less_fits word h

-- ---- tests as values, and the service order

pub truth_fits : (b : Bool) → SFits w32 (truth b)
truth_fits true = sfits_lit tt
truth_fits false = sfits_lit tt

pub served : (p s q t : ℤ) {a b : Bool} → lt_z q p ≡ a → same p q ≡ b → served_before p s q t ≡ truth (a || (b && lt_z s t))
unfolding served_before
served p s q t e d = ap₂ (λ (a b : Bool). truth (a || (b && lt_z s t))) e d

-- ---- the test of equality

pub same_true : (x y : ℤ) → x ≡ y → same x y ≡ true
same_true x y e = ap (same x) (sym e) ∙ go x
  where
    go : (x : ℤ) → same x x ≡ true
    go (pos n) = eq-eqb n n refl
    go (negsuc n) = eq-eqb n n refl

pub same_false : (x y : ℤ) → (x ≡ y → ⊥) → same x y ≡ false
same_false (pos a) (pos b) d = ne_eqb a b (λ e. d (ap pos e))
same_false (pos a) (negsuc b) d = refl
same_false (negsuc a) (pos b) d = refl
same_false (negsuc a) (negsuc b) d = ne_eqb a b (λ e. d (ap negsuc e))

-- ---- what std answers, by the definitions here

-- a sum or a difference that std holds at the ends of i32
pub saturated : {r : ℤ} (z : ℤ) → r ≡ saturate_signed w32 z → r ≡ hold z
unfolding hold
saturated (pos n) e = grind arith
saturated (negsuc n) e = grind arith

pub larger_is : {r : ℤ} (x y : ℤ) → r ≡ int_max x y → r ≡ larger x y
unfolding larger
larger_is x y e = grind (arith, ints)

pub smaller_is : {r : ℤ} (x y : ℤ) → r ≡ int_min x y → r ≡ smaller x y
unfolding smaller
smaller_is x y e = grind (arith, ints)

-- 1 where a test holds, else 0
pub truth_is : {r : ℤ} (b : Bool) → r ≡ pos (from_bool b) → r ≡ truth b
truth_is true e = e
truth_is false e = e

pub less_is : {r : ℤ} (x y : ℤ) → r ≡ pos (from_bool (lt_z x y)) → r ≡ less x y
unfolding less
less_is x y e = truth_is (lt_z x y) e
