-- What the tests mean: each passes exactly where its words hold, so a proof goes from a test to a fact and back.
-- Assumes nothing.
use Prim.Native.Nat.{ℕ, zero, suc, ◌+◌, ◌≤◌, ◌<◌}
use mathlib.Core.Path.{◌≡◌, refl, sym, subst}
use mathlib.Core.Logic.{◌⊎◌, inl, inr, ⊎_elim}
use mathlib.Core.Bool.{Bool, true, false, cond, not}
use native.Mathlib.Omega.{arith}
use native.Mathlib.Nat.{not-suc-le-zero}
use lib.Dec.{T, ltb, eqb, ltb→lt, eqb→eq, eqb_refl, nltb→le, T_not}
use Rattle.basics.specs.Tests.{◌and◌, ◌or◌, ◌implies◌, some, all, least, count}

pub or_left : (a b : Bool) → T a → T (a or b)
unfolding ◌or◌
or_left true b t = tt
or_left false b t = absurd t

pub or_right : (a b : Bool) → T b → T (a or b)
unfolding ◌or◌
or_right true b t = tt
or_right false b t = t

pub or_cases : (a b : Bool) → T (a or b) → T a ⊎ T b
unfolding ◌or◌
or_cases true b t = inl tt
or_cases false b t = inr t

pub and_intro : (a b : Bool) → T a → T b → T (a and b)
unfolding ◌and◌
and_intro true b s t = t
and_intro false b s t = s

pub and_left : (a b : Bool) → T (a and b) → T a
unfolding ◌and◌
and_left true b t = tt
and_left false b t = t

pub and_right : (a b : Bool) → T (a and b) → T b
unfolding ◌and◌
and_right true b t = t
and_right false b t = absurd t

-- a joined test where its first part is known
pub and_passed : (a b : Bool) → T a → (a and b) ≡ b
unfolding ◌and◌
and_passed true b t = refl
and_passed false b t = absurd t

pub and_failed : (a b : Bool) → T (not a) → (a and b) ≡ false
unfolding ◌and◌
and_failed true b t = absurd t
and_failed false b t = refl

pub implies_intro : (a b : Bool) → (T a → T b) → T (a implies b)
unfolding ◌implies◌
implies_intro true b f = f tt
implies_intro false b f = tt

pub implies_use : (a b : Bool) → T (a implies b) → T a → T b
unfolding ◌implies◌
implies_use true b t s = t
implies_use false b t s = absurd s

-- where an implication fails
pub implies_fails : (a b : Bool) → T (not (a implies b)) → T a × T (not b)
unfolding ◌implies◌
implies_fails true b t = (tt, t)
implies_fails false b t = absurd t

-- a test passes or its opposite does
pub tested : (b : Bool) → T b ⊎ T (not b)
tested true = inl tt
tested false = inr tt

pub T_true : (b : Bool) → T b → b ≡ true
T_true true t = refl
T_true false t = absurd t

pub T_false : (b : Bool) → T (not b) → b ≡ false
T_false true t = absurd t
T_false false t = refl

pub true_T : (b : Bool) → b ≡ true → T b
true_T b e = subst (λ (x : Bool). T x) (sym e) tt

pub false_T : (b : Bool) → b ≡ false → T (not b)
false_T b e = subst (λ (x : Bool). T (not x)) (sym e) tt

-- a choice by a test that passes, and by one that fails
pub chosen {ℓ} : {A : Type ℓ} (b : Bool) (x y : A) → T b → cond b x y ≡ x
chosen true x y t = refl
chosen false x y t = absurd t

pub passed_over {ℓ} : {A : Type ℓ} (b : Bool) (x y : A) → T (not b) → cond b x y ≡ y
passed_over true x y t = absurd t
passed_over false x y t = refl

-- two tests that pass together are one
pub same_test : (a b : Bool) → (T a → T b) → (T b → T a) → a ≡ b
same_test true true f g = refl
same_test true false f g = absurd (f tt)
same_test false true f g = absurd (g tt)
same_test false false f g = refl

pub eq_T : (a b : ℕ) → a ≡ b → T (eqb a b)
eq_T a b e = subst (λ (x : ℕ). T (eqb a x)) e (eqb_refl a)

-- two numbers are equal or not
pub same_or_not : (a b : ℕ) → (a ≡ b) ⊎ (a ≡ b → ⊥)
same_or_not a b =
    ⊎_elim (λ t. inl (eqb→eq a b t)) (λ t. inr (λ e. T_not (eqb a b) t (eq_T a b e))) (tested (eqb a b))

-- of two numbers the first is below the second or not
pub below_or_not : (a b : ℕ) → (a < b) ⊎ (b ≤ a)
below_or_not a b = ⊎_elim (λ t. inl (ltb→lt a b t)) (λ t. inr (nltb→le a b t)) (tested (ltb a b))

-- the numbers below n + 1 are those below n, and n
pub below_suc : (k n : ℕ) → k < suc n → (k < n) ⊎ (k ≡ n)
below_suc k n h = ⊎_elim (λ l. inl l) (λ l. inr (omega arith)) (below_or_not k n)

pub some_at : (n : ℕ) (f : ℕ → Bool) (k : ℕ) → k < n → T (f k) → T (some n f)
unfolding some
some_at zero f k h t = absurd (not-suc-le-zero h)
some_at (suc n) f k h t =
    ⊎_elim (λ l. or_left (some n f) (f n) (some_at n f k l t))
    (λ e. or_right (some n f) (f n) (subst (λ (j : ℕ). T (f j)) e t)) (below_suc k n h)

pub some_find : (n : ℕ) (f : ℕ → Bool) → T (some n f) → (k : ℕ) × (k < n) × T (f k)
unfolding some
some_find zero f t = absurd t
some_find (suc n) f t =
    ⊎_elim (λ s. let w : (k : ℕ) × (k < n) × T (f k) = some_find n f s in (w.0, omega (arith, w.1), w.2))
    (λ s. (n, omega arith, s)) (or_cases (some n f) (f n) t)

pub all_at : (n : ℕ) (f : ℕ → Bool) → T (all n f) → (k : ℕ) → k < n → T (f k)
unfolding all
all_at zero f t k h = absurd (not-suc-le-zero h)
all_at (suc n) f t k h =
    ⊎_elim (λ l. all_at n f (and_left (all n f) (f n) t) k l)
    (λ e. subst (λ (j : ℕ). T (f j)) (sym e) (and_right (all n f) (f n) t)) (below_suc k n h)

pub all_intro : (n : ℕ) (f : ℕ → Bool) → ((k : ℕ) → k < n → T (f k)) → T (all n f)
unfolding all
all_intro zero f h = tt
all_intro (suc n) f h =
    and_intro (all n f) (f n) (all_intro n f (λ k l. h k (omega arith))) (h n (omega arith))

-- where not every number passes, one fails
pub all_fails : (n : ℕ) (f : ℕ → Bool) → T (not (all n f)) → (k : ℕ) × (k < n) × T (not (f k))
unfolding all
all_fails zero f t = absurd t
all_fails (suc n) f t =
    ⊎_elim
    (λ s.
    ⊎_elim (λ p. absurd (T_not (all n f and f n) t (and_intro (all n f) (f n) s p))) (λ p. (n, omega arith, p))
    (tested (f n)))
    (λ s. let w : (k : ℕ) × (k < n) × T (not (f k)) = all_fails n f s in (w.0, omega (arith, w.1), w.2))
    (tested (all n f))

-- the least number that passes: it is below n exactly where some number passes, it passes, and no lower one does
pub record Least (n : ℕ) (f : ℕ → Bool) (m : ℕ) : Type 0 where
  pub inside : m ≤ n
  pub passes : m < n → T (f m)
  pub lowest : (k : ℕ) → k < m → T (f k) → ⊥

step_least : (n : ℕ) (f : ℕ → Bool) (m : ℕ) → Least n f m → Least (suc n) f (cond (ltb m n) m (cond (f n) n (suc n)))
step_least n f m w = go (ltb m n) refl (f n) refl
  where
    go : (b : Bool) → ltb m n ≡ b → (c : Bool) → f n ≡ c → Least (suc n) f (cond b m (cond c n (suc n)))
    go true e c d =
        let l : m < n = ltb→lt m n (true_T (ltb m n) e) in
        record { inside = omega arith; passes = λ h. w.passes l; lowest = w.lowest }
    go false e true d =
        let l : m ≡ n = omega (arith, w.inside, nltb→le m n (false_T (ltb m n) e)) in
        record { inside = omega arith; passes = λ h. true_T (f n) d; lowest = λ k h. w.lowest k (omega arith) }
    go false e false d =
        let l : m ≡ n = omega (arith, w.inside, nltb→le m n (false_T (ltb m n) e)) in
        record {
          inside = omega arith;
          passes = λ h. absurd (omega arith);
          lowest = λ k h t.
              ⊎_elim (λ i. w.lowest k (omega arith) t)
              (λ i. T_not (f n) (false_T (f n) d) (subst (λ (j : ℕ). T (f j)) i t)) (below_suc k n h);
        }

pub least_is : (n : ℕ) (f : ℕ → Bool) → Least n f (least n f)
unfolding least
least_is zero f =
    record { inside = omega arith; passes = λ h. absurd (not-suc-le-zero h); lowest = λ k h. absurd (not-suc-le-zero h) }
least_is (suc n) f = step_least n f (least n f) (least_is n f)

-- there is one least number
pub least_one : (n : ℕ) (f : ℕ → Bool) (m p : ℕ) → Least n f m → Least n f p → m ≡ p
least_one n f m p v w =
    ⊎_elim (λ l. absurd (w.lowest m l (v.passes (omega (arith, w.inside)))))
    (λ l.
    ⊎_elim (λ k. absurd (v.lowest p k (w.passes (omega (arith, v.inside))))) (λ k. omega arith)
    (below_or_not p m)) (below_or_not m p)

-- the least number that passes is below n exactly where some number passes
pub least_some : (n : ℕ) (f : ℕ → Bool) → T (some n f) → least n f < n
least_some n f t =
    let w : (k : ℕ) × (k < n) × T (f k) = some_find n f t in
    ⊎_elim (λ l. l) (λ l. absurd ((least_is n f).lowest w.0 (omega (arith, w.1)) w.2))
    (below_or_not (least n f) n)

-- counting: it never passes the bound, grows with the test, and grows strictly where a new number passes
pub count_le : (n : ℕ) (f : ℕ → Bool) → count n f ≤ n
unfolding count
count_le zero f = omega arith
count_le (suc n) f = go (f n) (count_le n f)
  where
    go : (b : Bool) → count n f ≤ n → count n f + cond b 1 0 ≤ suc n
    go true l = omega arith
    go false l = omega arith

pub count_mono : (n : ℕ) (f h : ℕ → Bool) → ((k : ℕ) → k < n → T (f k) → T (h k)) → count n f ≤ count n h
unfolding count
count_mono zero f h m = omega arith
count_mono (suc n) f h m = go (f n) (h n) (m n (omega arith)) (count_mono n f h (λ k l. m k (omega arith)))
  where
    go : (a b : Bool) → (T a → T b) → count n f ≤ count n h → count n f + cond a 1 0 ≤ count n h + cond b 1 0
    go true true i l = omega arith
    go true false i l = absurd (i tt)
    go false true i l = omega arith
    go false false i l = omega arith

pub count_more : (n : ℕ) (f h : ℕ → Bool) → ((k : ℕ) → k < n → T (f k) → T (h k)) → (j : ℕ) → j < n → T (not (f j)) → T (h j)
    → count n f < count n h
unfolding count
count_more zero f h m j l s t = absurd (not-suc-le-zero l)
count_more (suc n) f h m j l s t =
    ⊎_elim
    (λ i. go (f n) (h n) (m n (omega arith)) (count_more n f h (λ k p. m k (omega arith)) j i s t))
    (λ i.
    same (f n) (h n) (subst (λ (x : ℕ). T (not (f x))) i s) (subst (λ (x : ℕ). T (h x)) i t)
    (count_mono n f h (λ k p. m k (omega arith)))) (below_suc j n l)
  where
    go : (a b : Bool) → (T a → T b) → count n f < count n h → count n f + cond a 1 0 < count n h + cond b 1 0
    go true true i p = omega arith
    go true false i p = absurd (i tt)
    go false true i p = omega arith
    go false false i p = omega arith

    same : (a b : Bool) → T (not a) → T b → count n f ≤ count n h → count n f + cond a 1 0 < count n h + cond b 1 0
    same true b p q r = absurd p
    same false true p q r = omega arith
    same false false p q r = absurd q
