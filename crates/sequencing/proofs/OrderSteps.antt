-- One step of the construction over what is left: the lowest action that is ready comes first, and the others are left.
-- Assumes nothing.
use Prim.Native.Nat.{ℕ, zero, suc, ◌<◌}
use mathlib.Core.Path.{◌≡◌, refl, sym, ◌∙◌, ap, subst, subst⁻¹}
use mathlib.Core.Logic.{⊎_elim}
use mathlib.Core.Bool.{Bool, true, false, cond}
use mathlib.Core.List.{List, [], ◌∷◌, ◌++◌}
use native.Mathlib.Omega.{arith}
use lib.Dec.{T, eqb, eqb→eq, not_T}
use lib.ListN.{length}
use Rattle.bits.specs.Bit.{hasb}
use Rattle.basics.specs.Lists.{passing, without}
use Rattle.basics.proofs.TestLaws.{T_true, T_false, same_or_not, below_or_not, eq_T}
use Rattle.basics.proofs.ListLaws.{member_passing, passing_member}
use Rattle.sequences.specs.Actions.{action_numbers, decode, makes}
use Rattle.sequences.specs.Follows.{follows}
use Rattle.sequences.specs.Order.{first_ready, order}
use Rattle.sequences.proofs.ActionLaws.{action_below}
use Rattle.sequences.proofs.Rising.{rising_passing, length_without}
use Rattle.sequences.proofs.TieLaws.{ready_intro, ready_use}
use Rattle.sequences.proofs.OrderLaws.{Picked, found, nothing, first_ready_law}
use Rattle.remaining.specs.Remaining.{remaining}
use Rattle.sequencing.specs.Going.{Going, Taken}
use Rattle.remaining.proofs.RemainsLaws.{Less}
use Rattle.sequencing.proofs.Makers.{one_maker}

-- two tests that agree below n pass the same numbers
pub passing_same : (n : ℕ) (f h : ℕ → Bool) → ((k : ℕ) → k < n → f k ≡ h k) → passing n f ≡ passing n h
unfolding passing
passing_same zero f h e = refl
passing_same (suc n) f h e =
    ap (λ (b : Bool). passing n f ++ cond b (n ∷ []) []) (e n (omega arith))
    ∙ ap (λ (l : List ℕ). l ++ cond (h n) (n ∷ []) []) (passing_same n f h (λ k l. e k (omega arith)))

without_append : (a : ℕ) (xs ys : List ℕ) → without a (xs ++ ys) ≡ without a xs ++ without a ys
unfolding without
without_append a [] ys = refl
without_append a (x ∷ xs) ys = go (eqb a x) (without_append a xs ys)
  where
    go : (c : Bool) → without a (xs ++ ys) ≡ without a xs ++ without a ys
        → cond c (without a (xs ++ ys)) (x ∷ without a (xs ++ ys)) ≡ cond c (without a xs) (x ∷ without a xs) ++ without a ys
    go true e = e
    go false e = ap (λ (l : List ℕ). x ∷ l) e

-- the numbers that pass, without one of them
passing_less : (n : ℕ) (before left : ℕ → Bool) (a : ℕ) → Less before left a → passing n left ≡ without a (passing n before)
unfolding passing without
passing_less zero before left a w = refl
passing_less (suc n) before left a w =
    ap (λ (l : List ℕ). l ++ cond (left n) (n ∷ []) []) (passing_less n before left a w)
    ∙ (ap (λ (l : List ℕ). without a (passing n before) ++ l) (⊎_elim same other (same_or_not n a))
    ∙ sym (without_append a (passing n before) (cond (before n) (n ∷ []) [])))
  where
    alone : (c b : Bool) → eqb a n ≡ c → without a (cond b (n ∷ []) []) ≡ cond c [] (cond b (n ∷ []) [])
    alone c true e = ap (λ (x : Bool). cond x (without a []) (n ∷ without a [])) e ∙ here c
      where
        here : (c : Bool) → cond c (without a []) (n ∷ without a []) ≡ cond c [] (n ∷ [])
        here true = refl
        here false = refl
    alone true false e = refl
    alone false false e = refl

    same : n ≡ a → cond (left n) (n ∷ []) [] ≡ without a (cond (before n) (n ∷ []) [])
    same q =
        ap (λ (b : Bool). cond b (n ∷ []) [])
        (T_false (left n) (not_T (left n) (λ t. w.gone (subst (λ (k : ℕ). T (left k)) q t))))
        ∙ sym (alone true (before n) (T_true (eqb a n) (eq_T a n (sym q))))

    other : (n ≡ a → ⊥) → cond (left n) (n ∷ []) [] ≡ without a (cond (before n) (n ∷ []) [])
    other q =
        ap (λ (b : Bool). cond b (n ∷ []) []) (w.others n q)
        ∙ sym (alone false (before n) (T_false (eqb a n) (not_T (eqb a n) (λ t. q (sym (eqb→eq a n t))))))

module _ (after : ℕ → ℕ → Bool) (before left : ℕ → Bool) (a : ℕ) (numbers : (b : ℕ) → T (before b) → b < action_numbers)
    (there : T (before a))
    (free : (b : ℕ) → T (before b) → T (after a b) → ⊥)
    (lowest : (c : ℕ) → c < a → T (before c) → ((b : ℕ) → T (before b) → T (after c b) → ⊥) → ⊥)
    (less : Less before left a) where
  -- the first ready one is a
  first_is : (m : ℕ) → Picked after (remaining before) (remaining before) 136 m → m ≡ a
  unfolding remaining
  first_is m (found k t f) =
      ⊎_elim
      (λ l.
      absurd (lowest m l (passing_member action_numbers before m k).1
      (λ b u v. ready_use after (remaining before) m t b (member_passing action_numbers before b (numbers b u) u) v)))
      (λ l.
      ⊎_elim
      (λ q.
      absurd (f a (member_passing action_numbers before a (numbers a there) there) q
      (ready_intro after (remaining before) a (λ b u v. free b (passing_member action_numbers before b u).1 v))))
      (λ q. omega arith) (below_or_not a m)) (below_or_not m a)
  first_is m (nothing e f) =
      absurd (f a (member_passing action_numbers before a (numbers a there) there)
      (ready_intro after (remaining before) a (λ b u v. free b (passing_member action_numbers before b u).1 v)))

  -- so the construction takes it first
  pub takes_first : (n : ℕ) → order after (suc n) (remaining before) ≡ a ∷ order after n (remaining left)
  unfolding order remaining
  takes_first n =
      ap (λ (m : ℕ). at m (eqb m 136))
      (first_is (first_ready after (remaining before) (remaining before) 136)
      (first_ready_law after (remaining before) (remaining before) 136 (rising_passing action_numbers before)))
      ∙ (ap (λ (b : Bool). at a b) (T_false (eqb a 136) (not_T (eqb a 136) (λ q. let z : a ≡ 136 = eqb→eq a 136 q in omega (arith, numbers a there))))
      ∙ ap (λ (l : List ℕ). a ∷ order after n l) (sym (passing_less action_numbers before left a less)))
    where
      at : ℕ → Bool → List ℕ
      at m b = elim b [ true ↦ [] | false ↦ m ∷ order after n (without m (remaining before)) ]

  pub takes_one : suc (length (remaining left)) ≡ length (remaining before)
  unfolding remaining
  takes_one =
      ap (λ (l : List ℕ). suc (length l)) (passing_less action_numbers before left a less)
      ∙ length_without a (passing action_numbers before) (rising_passing action_numbers before)
      (member_passing action_numbers before a (numbers a there) there)

-- An action is taken: where nothing left goes before it and it is the lowest such, and what it makes available no longer waits.
module _ (g ids s : List ℕ) (r : ℕ) (before : ℕ → Bool) (w : ℕ) (going : Going g ids s r before w) (a : ℕ) (there : T (before a))
    (free : (b : ℕ) → T (before b) → T (follows g ids s r a b) → ⊥)
    (lowest : (c : ℕ) → c < a → T (before c) → ((b : ℕ) → T (before b) → T (follows g ids s r c b) → ⊥) → ⊥)
    (left : ℕ → Bool) (less : Less before left a) (v : ℕ)
    (still : (o : ℕ) → T (hasb o v) → T (hasb o w) × (T (makes g s r (decode a) o) → ⊥))
    (kept : (o : ℕ) → T (hasb o w) → (T (makes g s r (decode a) o) → ⊥) → T (hasb o v)) where
  differs : (b : ℕ) → T (left b) → b ≡ a → ⊥
  differs b t e = less.gone (subst (λ (k : ℕ). T (left k)) e t)

  was : (b : ℕ) → T (left b) → T (before b)
  was b t = subst (λ (x : Bool). T x) (less.others b (differs b t)) t

  stays : (b : ℕ) → T (before b) → (b ≡ a → ⊥) → T (left b)
  stays b t n = subst⁻¹ (λ (x : Bool). T x) (less.others b n) t

  goes_on : Going g ids s r left v
  goes_on =
      record {
        actions = λ b t. going.actions b (was b t);
        done = λ b c i t f.
            stays b (going.done b c i (was c t) f)
            (λ e. free c (was c t) (subst (λ (k : ℕ). T (follows g ids s r k c)) e f));
        waits = λ o t.
            let k = still o t in
            let e = going.waits o k.0 in
            (e.0, stays e.0 e.1 (λ q. k.1 (subst (λ (x : ℕ). T (makes g s r (decode x) o)) q e.2)), e.2);
        makers = λ e o t m.
            kept o (going.makers e o (was e t) m)
            (λ n. differs e t (one_maker g ids s r e a o (going.actions e (was e t)) (going.actions a there) m n));
      }

  pub taken : Taken g ids s r before a left v
  taken =
      record {
        number = action_below g s r a (going.actions a there);
        next = takes_first (λ a b. follows g ids s r a b) before left a (λ b t. action_below g s r b (going.actions b t)) there free lowest less;
        fewer = takes_one (λ a b. follows g ids s r a b) before left a (λ b t. action_below g s r b (going.actions b t)) there free lowest less;
        going = goes_on;
      }
