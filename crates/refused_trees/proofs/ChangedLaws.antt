-- The count of what changed, word after word. Assumes nothing.
use Prim.Native.Nat.{ℕ, zero, suc, ◌+◌, ◌≤◌, ◌<◌}
use mathlib.Core.Path.{◌≡◌, refl, sym, ◌∙◌, ap, ap₂, subst, subst⁻¹}
use mathlib.Core.Bool.{Bool, true, false, cond, not}
use mathlib.Core.List.{List}
use native.Mathlib.Omega.{arith}
use native.Mathlib.Numerals.{add-one}
use lib.Dec.{eqb}
use lib.IntN.{ℤ, pos, negsuc}
use lib.ListN.{length, get_or, take}
use lib.Seq.{take_all}
use Rattle.std.specs.Prelude.{count_by}
use Rattle.std.specs.Ordering.{int_eq}
use Rattle.std.proofs.lemmas.List.Sums.{sum_by_more}
use Rattle.refused_trees.specs.Changed.{changed_to, other, changed, other_value, values_changed, Counted}

pub count_start : (test : ℕ → Bool) (end : ℕ) → Counted test end 0 0
unfolding changed_to
count_start test end = record { is = refl; few = omega arith; inside = omega arith }

at_most : (b : Bool) → cond b 1 0 ≤ 1
at_most true = omega arith
at_most false = omega arith

pub count_turn : {test : ℕ → Bool} {end count i : ℕ} (n : ℕ) → Counted test end count i → i < end → n ≡ cond (test i) 1 0 → Counted test end (count + n) (i + 1)
unfolding changed_to
count_turn {test} {end} {count} {i} n w h e =
    record {
      is = ap₂ (λ (a b : ℕ). a + b) w.is e ∙ sym (ap (λ (k : ℕ). changed_to test k) (add-one i));
      few = omega (arith, e, at_most (test i), w.few);
      inside = omega arith;
    }

pub count_end : (ws : List ℕ) (before end count i : ℕ) → end ≡ length ws → Counted (λ j. other ws before j) end count i → end ≤ i → count ≡ changed ws before
unfolding changed
count_end ws before end count i e w h = w.is ∙ ap (λ (k : ℕ). changed_to (λ j. other ws before j) k) (let q : i ≡ length ws = omega (arith, w.inside) in q)

pub values_end : (vs : List ℤ) (end count i : ℕ) → end ≡ length vs → Counted (λ j. other_value (get_or vs j (pos 0))) end count i → end ≤ i → count ≡ values_changed vs
unfolding values_changed
values_end vs end count i e w h =
    w.is ∙ ap (λ (k : ℕ). changed_to (λ j. other_value (get_or vs j (pos 0))) k) (let q : i ≡ length vs = omega (arith, w.inside) in q)

-- What the code counts: the items that a test takes. It is what changed of words, and of values.
counted : {X : Type 0} (p : X → Bool) (xs : List X) (d : X) (test : ℕ → Bool) → ((i : ℕ) → p (get_or xs i d) ≡ test i) → (k : ℕ) → k ≤ length xs
    → Counted test (length xs) (count_by p (take k xs)) k
counted p xs d test same zero h = count_start test (length xs)
counted p xs d test same (suc k) h =
    let step : count_by p (take (k + 1) xs) ≡ count_by p (take k xs) + cond (p (get_or xs k d)) 1 0 =
    sum_by_more (λ x. cond (p x) 1 0) xs k d (omega arith) in
    subst (λ (n : ℕ). Counted test (length xs) (count_by p (take n xs)) n) (add-one k)
    (subst⁻¹ (λ (c : ℕ). Counted test (length xs) c (k + 1)) step
    (count_turn (cond (p (get_or xs k d)) 1 0) (counted p xs d test same k (omega arith)) (omega arith)
    (ap (λ (b : Bool). cond b 1 0) (same k))))

all_counted : {X : Type 0} (p : X → Bool) (xs : List X) (d : X) (test : ℕ → Bool) → ((i : ℕ) → p (get_or xs i d) ≡ test i)
    → Counted test (length xs) (count_by p xs) (length xs)
all_counted p xs d test same =
    subst (λ (ys : List _). Counted test (length xs) (count_by p ys) (length xs)) (take_all (length xs) xs (omega arith))
    (counted p xs d test same (length xs) (omega arith))

pub words_counted : (ws : List ℕ) (before : ℕ) → count_by (λ x. not (eqb x before)) ws ≡ changed ws before
words_counted ws before =
    count_end ws before (length ws) _ (length ws) refl (all_counted (λ x. not (eqb x before)) ws 0 (λ i. other ws before i) (λ i. refl)) (omega arith)

other_is : (v : ℤ) → not (int_eq v (pos 9)) ≡ other_value v
unfolding other_value
other_is (pos n) = grind arith
other_is (negsuc n) = refl

pub values_counted : (vs : List ℤ) → count_by (λ v. not (int_eq v (pos 9))) vs ≡ values_changed vs
values_counted vs =
    values_end vs (length vs) _ (length vs) refl
    (all_counted (λ v. not (int_eq v (pos 9))) vs (pos 0) (λ i. other_value (get_or vs i (pos 0))) (λ i. other_is (get_or vs i (pos 0)))) (omega arith)
