-- Rising lists: each number is below all that stand after it, so each stands once.
-- The numbers that pass a test are such a list, and it stays one with a number taken out. Assumes nothing.
use Prim.Native.Nat.{ℕ, zero, suc, ◌+◌, ◌≤◌, ◌<◌}
use mathlib.Core.Path.{◌≡◌, refl, sym, ◌∙◌, ap, subst, subst⁻¹}
use mathlib.Core.Logic.{⊎_elim}
use mathlib.Core.Bool.{Bool, true, false, cond}
use mathlib.Core.List.{List, [], ◌∷◌, ◌++◌}
use native.Mathlib.Omega.{arith}
use lib.Dec.{T, eqb, eqb→eq, eqb_refl, T_not}
use lib.ListN.{length, length-append}
use Rattle.basics.specs.Tests.{count}
use Rattle.basics.specs.Lists.{member, without, passing}
use Rattle.basics.proofs.TestLaws.{or_left, or_right, true_T, false_T, eq_T, below_or_not}
use Rattle.basics.proofs.ListLaws.{member_append, passing_member, member_cases, member_none}

-- each number is below all that stand after it
abbrev pub Rising : List ℕ → Type 0
Rising [] = Unit {0}
Rising (x ∷ xs) = ((y : ℕ) → T (member y xs) → x < y) × Rising xs

-- the first is a member
pub member_first : (x : ℕ) (ys : List ℕ) → T (member x (x ∷ ys))
unfolding member
member_first x ys = or_left (eqb x x) (member x ys) (eqb_refl x)

-- a member of the rest is a member
pub member_rest : (x y : ℕ) (ys : List ℕ) → T (member x ys) → T (member x (y ∷ ys))
unfolding member
member_rest x y ys t = or_right (eqb x y) (member x ys) t

-- rising lists end to end, the second above the first
pub rising_append : (s t : List ℕ) → Rising s → Rising t → ((x y : ℕ) → T (member x s) → T (member y t) → x < y) → Rising (s ++ t)
rising_append [] t r q f = q
rising_append (x ∷ s) t r q f = (
  λ y m. ⊎_elim (λ a. r.0 y a) (λ a. f x y (member_first x s) a) (member_append y s t m),
  rising_append s t r.1 q (λ z y m. f z y (member_rest z x s m)),
)

-- the numbers that pass a test rise
pub rising_passing : (n : ℕ) (f : ℕ → Bool) → Rising (passing n f)
unfolding passing
rising_passing zero f = tt
rising_passing (suc n) f = go (f n) (rising_passing n f)
  where
    go : (b : Bool) → Rising (passing n f) → Rising (passing n f ++ cond b (n ∷ []) [])
    go true r =
        rising_append (passing n f) (n ∷ []) r (λ y m. absurd (member_none y m), tt)
        (λ x y m k.
        ⊎_elim (λ e. omega (arith, (passing_member n f x m).0)) (λ k. absurd (member_none y k)) (member_cases y n [] k))
    go false r = rising_append (passing n f) [] r tt (λ x y m k. absurd (member_none y k))

-- and there are as many as pass
pub length_passing : (n : ℕ) (f : ℕ → Bool) → length (passing n f) ≡ count n f
unfolding passing count
length_passing zero f = refl
length_passing (suc n) f = go (f n) (length_passing n f)
  where
    go : (b : Bool) → length (passing n f) ≡ count n f → length (passing n f ++ cond b (n ∷ []) []) ≡ count n f + cond b 1 0
    go true e = omega (arith, length-append (passing n f) (n ∷ []))
    go false e = omega (arith, length-append (passing n f) [])

-- the members of a list without a are its other members
pub without_member : (a : ℕ) (xs : List ℕ) (b : ℕ) → T (member b (without a xs)) → T (member b xs) × (b ≡ a → ⊥)
unfolding without
without_member a [] b m = absurd (member_none b m)
without_member a (x ∷ xs) b m = go (eqb a x) refl (without_member a xs b) m
  where
    go : (c : Bool) → eqb a x ≡ c → (T (member b (without a xs)) → T (member b xs) × (b ≡ a → ⊥))
        → T (member b (cond c (without a xs) (x ∷ without a xs))) → T (member b (x ∷ xs)) × (b ≡ a → ⊥)
    go true e f k = let w : T (member b xs) × (b ≡ a → ⊥) = f k in (member_rest b x xs w.0, w.1)
    go false e f k =
        ⊎_elim
        (λ i. (
          subst⁻¹ (λ (y : ℕ). T (member y (x ∷ xs))) i (member_first x xs),
          λ j. T_not (eqb a x) (false_T (eqb a x) e) (eq_T a x (sym j ∙ i)),
        ))
        (λ i. let w : T (member b xs) × (b ≡ a → ⊥) = f i in (member_rest b x xs w.0, w.1))
        (member_cases b x (without a xs) k)

-- and back
pub member_without : (a : ℕ) (xs : List ℕ) (b : ℕ) → T (member b xs) → (b ≡ a → ⊥) → T (member b (without a xs))
unfolding without
member_without a [] b m n = absurd (member_none b m)
member_without a (x ∷ xs) b m n = go (eqb a x) refl (λ k. member_without a xs b k n)
  where
    go : (c : Bool) → eqb a x ≡ c → (T (member b xs) → T (member b (without a xs)))
        → T (member b (cond c (without a xs) (x ∷ without a xs)))
    go true e f =
        ⊎_elim (λ i. absurd (n (i ∙ sym (eqb→eq a x (true_T (eqb a x) e))))) f (member_cases b x xs m)
    go false e f =
        ⊎_elim (λ i. subst⁻¹ (λ (y : ℕ). T (member y (x ∷ without a xs))) i (member_first x (without a xs)))
        (λ k. member_rest b x (without a xs) (f k)) (member_cases b x xs m)

-- a rising list without a number rises
pub rising_without : (a : ℕ) (xs : List ℕ) → Rising xs → Rising (without a xs)
unfolding without
rising_without a [] r = tt
rising_without a (x ∷ xs) r = go (eqb a x) (rising_without a xs r.1)
  where
    go : (c : Bool) → Rising (without a xs) → Rising (cond c (without a xs) (x ∷ without a xs))
    go true q = q
    go false q = (λ y m. r.0 y (without_member a xs y m).0, q)

-- a list without what it does not hold is the same
pub without_absent : (a : ℕ) (xs : List ℕ) → (T (member a xs) → ⊥) → without a xs ≡ xs
unfolding without
without_absent a [] n = refl
without_absent a (x ∷ xs) n = go (eqb a x) refl (without_absent a xs (λ m. n (member_rest a x xs m)))
  where
    go : (c : Bool) → eqb a x ≡ c → without a xs ≡ xs → cond c (without a xs) (x ∷ without a xs) ≡ x ∷ xs
    go true e q =
        absurd (n (subst (λ (y : ℕ). T (member y (x ∷ xs))) (sym (eqb→eq a x (true_T (eqb a x) e))) (member_first x xs)))
    go false e q = ap (λ (l : List ℕ). x ∷ l) q

-- without a member a rising list is one shorter
pub length_without : (a : ℕ) (xs : List ℕ) → Rising xs → T (member a xs) → suc (length (without a xs)) ≡ length xs
unfolding without
length_without a [] r m = absurd (member_none a m)
length_without a (x ∷ xs) r m = go (eqb a x) refl (length_without a xs r.1)
  where
    go : (c : Bool) → eqb a x ≡ c → (T (member a xs) → suc (length (without a xs)) ≡ length xs)
        → suc (length (cond c (without a xs) (x ∷ without a xs))) ≡ suc (length xs)
    go true e f =
        let i : a ≡ x = eqb→eq a x (true_T (eqb a x) e) in
        ap (λ (l : List ℕ). suc (length l)) (without_absent a xs (λ k. let z : x < a = r.0 a k in omega arith))
    go false e f =
        ⊎_elim (λ i. absurd (T_not (eqb a x) (false_T (eqb a x) e) (eq_T a x i))) (λ k. ap suc (f k)) (member_cases a x xs m)

-- of any numbers one has the least value
pub lowest_member : (f : ℕ → ℕ) (xs : List ℕ) → 1 ≤ length xs → (a : ℕ) × T (member a xs) × ((b : ℕ) → T (member b xs) → f a ≤ f b)
lowest_member f [] h = absurd (omega arith)
lowest_member f (x ∷ []) h =
    (x, member_first x [], λ b m. ⊎_elim (λ e. omega (arith, ap f e)) (λ k. absurd (member_none b k)) (member_cases b x [] m))
lowest_member f (x ∷ (y ∷ ys)) h =
    let w : (a : ℕ) × T (member a (y ∷ ys)) × ((b : ℕ) → T (member b (y ∷ ys)) → f a ≤ f b) = lowest_member f (y ∷ ys) (omega arith) in
    ⊎_elim
    (λ l. (
      x,
      member_first x (y ∷ ys),
      λ b m. ⊎_elim (λ e. omega (arith, ap f e)) (λ k. omega (arith, w.2 b k)) (member_cases b x (y ∷ ys) m),
    ))
    (λ l. (
      w.0,
      member_rest w.0 x (y ∷ ys) w.1,
      λ b m. ⊎_elim (λ e. omega (arith, ap f e)) (λ k. w.2 b k) (member_cases b x (y ∷ ys) m),
    ))
    (below_or_not (f x) (f w.0))
