-- Where each word of a laid-out list stands, and what the lists of passing numbers hold.
-- Assumes nothing.
use Prim.Native.Nat.{ℕ, zero, suc, ◌+◌, ◌*◌, ◌-◌, ◌≤◌, ◌<◌}
use mathlib.Core.Path.{◌≡◌, refl, sym, ◌∙◌, ap, subst, subst⁻¹}
use mathlib.Core.Logic.{◌⊎◌, inl, inr, ⊎_elim}
use mathlib.Core.Bool.{Bool, true, false, cond}
use mathlib.Core.List.{List, [], ◌∷◌, ◌++◌}
use native.Mathlib.Omega.{arith}
use native.Mathlib.Nat.{not-suc-le-zero, suc-mul, zero-mul, mul-le-mul_right}
use lib.Dec.{T, eqb, eqb→eq, eqb_refl}
use lib.ListN.{length, get_or, set, length-append, get_or-append, replicate, length-replicate}
use native.Mathlib.Numerals.{add-one}
use lib.Seq.{get_or-append-add, set_at, append_snoc}
use Rattle.basics.specs.Lists.{tabulate, blocks, padded, passing, member, any}
use Rattle.basics.proofs.TestLaws.{below_suc, or_left, or_right, or_cases, true_T, eq_T}

-- the element of s ++ t at a place past s
pub get_d_past {ℓ} : {A : Type ℓ} (s t : List A) (d : A) (i : ℕ) → length s ≤ i → get_or (s ++ t) i d ≡ get_or t (i - length s) d
get_d_past s t d i h =
    let e : i ≡ length s + (i - length s) = omega arith in
    ap (λ (j : ℕ). get_or (s ++ t) j d) e ∙ get_or-append-add s t (i - length s) d

pub length_tabulate {ℓ} : {A : Type ℓ} (n : ℕ) (f : ℕ → A) → length (tabulate n f) ≡ n
unfolding tabulate
length_tabulate zero f = refl
length_tabulate (suc n) f = omega (arith, length-append (tabulate n f) (f n ∷ []), length_tabulate n f)

pub get_d_tabulate {ℓ} : {A : Type ℓ} (n : ℕ) (f : ℕ → A) (d : A) (i : ℕ) → i < n → get_or (tabulate n f) i d ≡ f i
unfolding tabulate
get_d_tabulate zero f d i h = absurd (not-suc-le-zero h)
get_d_tabulate (suc n) f d i h =
    ⊎_elim
    (λ l. get_or-append (tabulate n f) (f n ∷ []) d i (omega (arith, length_tabulate n f)) ∙ get_d_tabulate n f d i l)
    (λ e.
    let z : i - length (tabulate n f) ≡ 0 = omega (arith, length_tabulate n f) in
    get_d_past (tabulate n f) (f n ∷ []) d i (omega (arith, length_tabulate n f))
    ∙ (ap (λ (j : ℕ). get_or (f n ∷ []) j d) z ∙ ap f (sym e))) (below_suc i n h)

pub length_blocks {ℓ} : {A : Type ℓ} (w n : ℕ) (f : ℕ → List A) → ((k : ℕ) → k < n → length (f k) ≡ w) → length (blocks n f) ≡ n * w
unfolding blocks
length_blocks w zero f h = sym (zero-mul w)
length_blocks w (suc n) f h =
    omega (arith, length-append (blocks n f) (f n), length_blocks w n f (λ k l. h k (omega arith)), h n (omega arith), suc-mul n w)

-- a place inside block i lies before block n, for i below n
pub block_inside : (w i j n : ℕ) → i < n → j < w → i * w + j < n * w
block_inside w i j n l m = omega (arith, suc-mul i w, mul-le-mul_right w l)

-- word j of block i stands at i w + j
pub get_d_blocks {ℓ} : {A : Type ℓ} (w n : ℕ) (f : ℕ → List A) (d : A) → ((k : ℕ) → k < n → length (f k) ≡ w)
    → (i j : ℕ) → i < n → j < w → get_or (blocks n f) (i * w + j) d ≡ get_or (f i) j d
unfolding blocks
get_d_blocks w zero f d h i j l m = absurd (not-suc-le-zero l)
get_d_blocks w (suc n) f d h i j l m =
    let before : length (blocks n f) ≡ n * w = length_blocks w n f (λ k p. h k (omega arith)) in
    ⊎_elim
    (λ p.
    get_or-append (blocks n f) (f n) d (i * w + j) (subst⁻¹ (λ (x : ℕ). i * w + j < x) before (block_inside w i j n p m))
    ∙ get_d_blocks w n f d (λ k q. h k (omega arith)) i j p m)
    (λ e.
    let at : i * w + j ≡ length (blocks n f) + j = ap (λ (x : ℕ). x * w + j) e ∙ ap (λ (x : ℕ). x + j) (sym before) in
    ap (λ (x : ℕ). get_or (blocks n f ++ f n) x d) at
    ∙ (get_or-append-add (blocks n f) (f n) j d ∙ ap (λ (x : ℕ). get_or (f x) j d) (sym e))) (below_suc i n l)

pub length_padded : (n : ℕ) (xs : List ℕ) → length xs ≤ n → length (padded n xs) ≡ n
unfolding padded
length_padded n xs h = omega (arith, length-append xs (replicate (n - length xs) 0), length-replicate {A = ℕ} (n - length xs) 0)

-- nothing brought to length n, and one more entry in the first free place
pub padded_none : (n : ℕ) → padded n [] ≡ replicate n 0
unfolding padded
padded_none n = let z : n - 0 ≡ n = omega arith in ap (λ (k : ℕ). replicate k 0) z

-- one more entry goes into the first free place
pub padded_more : (n r : ℕ) (f : ℕ → ℕ) → r < n → set (padded n (tabulate r f)) r (f r) ≡ padded n (tabulate (r + 1) f)
unfolding padded tabulate
padded_more n r f h =
    let free : n - length (tabulate r f) ≡ suc (n - (r + 1)) = omega (arith, length_tabulate r f) in
    let rest : n - (r + 1) ≡ n - length (tabulate (suc r) f) = omega (arith, length_tabulate (suc r) f) in
    ap (λ (k : ℕ). set (tabulate r f ++ replicate k 0) r (f r)) free
    ∙ (set_at (tabulate r f) 0 (replicate (n - (r + 1)) 0) (f r) r (length_tabulate r f)
    ∙ (sym (append_snoc (tabulate r f) (f r) (replicate (n - (r + 1)) 0))
    ∙ (ap (λ (k : ℕ). tabulate (suc r) f ++ replicate k 0) rest ∙ sym (ap (λ (m : ℕ). padded n (tabulate m f)) (add-one r)))))

-- a member of a list is its first or one of the rest, and the empty list has none
pub member_cases : (x y : ℕ) (ys : List ℕ) → T (member x (y ∷ ys)) → (x ≡ y) ⊎ T (member x ys)
unfolding member
member_cases x y ys t = ⊎_elim (λ e. inl (eqb→eq x y e)) (λ m. inr m) (or_cases (eqb x y) (member x ys) t)

pub member_none : (x : ℕ) → T (member x []) → ⊥
unfolding member
member_none x t = t

-- x stands among the passing numbers exactly where it is below n and passes
pub member_append : (x : ℕ) (s t : List ℕ) → T (member x (s ++ t)) → T (member x s) ⊎ T (member x t)
unfolding member
member_append x [] t m = inr m
member_append x (y ∷ s) t m =
    ⊎_elim (λ e. inl (or_left (eqb x y) (member x s) e))
    (λ r. ⊎_elim (λ a. inl (or_right (eqb x y) (member x s) a)) (λ a. inr a) (member_append x s t r))
    (or_cases (eqb x y) (member x (s ++ t)) m)

pub member_left : (x : ℕ) (s t : List ℕ) → T (member x s) → T (member x (s ++ t))
unfolding member
member_left x [] t m = absurd m
member_left x (y ∷ s) t m =
    ⊎_elim (λ e. or_left (eqb x y) (member x (s ++ t)) e)
    (λ r. or_right (eqb x y) (member x (s ++ t)) (member_left x s t r)) (or_cases (eqb x y) (member x s) m)

pub member_right : (x : ℕ) (s t : List ℕ) → T (member x t) → T (member x (s ++ t))
unfolding member
member_right x [] t m = m
member_right x (y ∷ s) t m = or_right (eqb x y) (member x (s ++ t)) (member_right x s t m)

pub member_passing : (n : ℕ) (f : ℕ → Bool) (x : ℕ) → x < n → T (f x) → T (member x (passing n f))
unfolding passing member
member_passing zero f x h t = absurd (not-suc-le-zero h)
member_passing (suc n) f x h t =
    ⊎_elim (λ l. member_left x (passing n f) (cond (f n) (n ∷ []) []) (member_passing n f x l t))
    (λ e. member_right x (passing n f) (cond (f n) (n ∷ []) []) (here (f n) e (subst (λ (j : ℕ). T (f j)) e t)))
    (below_suc x n h)
  where
    here : (b : Bool) → x ≡ n → T b → T (member x (cond b (n ∷ []) []))
    here true e p = or_left (eqb x n) false (eq_T x n e)
    here false e p = absurd p

pub passing_member : (n : ℕ) (f : ℕ → Bool) (x : ℕ) → T (member x (passing n f)) → (x < n) × T (f x)
unfolding passing member
passing_member zero f x t = absurd t
passing_member (suc n) f x t =
    ⊎_elim (λ l. let w : (x < n) × T (f x) = passing_member n f x l in (omega (arith, w.0), w.1))
    (λ l. here (f n) refl l) (member_append x (passing n f) (cond (f n) (n ∷ []) []) t)
  where
    here : (b : Bool) → f n ≡ b → T (member x (cond b (n ∷ []) [])) → (x < suc n) × T (f x)
    here true e m =
        ⊎_elim
        (λ q. let p : x ≡ n = eqb→eq x n q in (omega arith, subst⁻¹ (λ (j : ℕ). T (f j)) p (true_T (f n) e)))
        (λ q. absurd q) (or_cases (eqb x n) false m)
    here false e m = absurd m

pub any_at : (f : ℕ → Bool) (xs : List ℕ) (x : ℕ) → T (member x xs) → T (f x) → T (any f xs)
unfolding any member
any_at f [] x m t = absurd m
any_at f (y ∷ ys) x m t =
    ⊎_elim (λ e. or_left (f y) (any f ys) (subst (λ (j : ℕ). T (f j)) (eqb→eq x y e) t))
    (λ r. or_right (f y) (any f ys) (any_at f ys x r t)) (or_cases (eqb x y) (member x ys) m)

pub any_find : (f : ℕ → Bool) (xs : List ℕ) → T (any f xs) → (x : ℕ) × T (member x xs) × T (f x)
unfolding any member
any_find f [] t = absurd t
any_find f (y ∷ ys) t =
    ⊎_elim (λ s. (y, or_left (eqb y y) (member y ys) (eqb_refl y), s))
    (λ s.
    let w : (x : ℕ) × T (member x ys) × T (f x) = any_find f ys s in
    (w.0, or_right (eqb w.0 y) (member w.0 ys) w.1, w.2)) (or_cases (f y) (any f ys) t)
