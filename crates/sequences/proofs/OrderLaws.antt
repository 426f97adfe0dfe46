-- The construction of document 01 obeys the tie rule: it takes the first ready one of a rising list, which is the lowest, and goes on with the
-- rest. It takes all where something is always ready. Assumes nothing.
use Prim.Native.Nat.{ℕ, zero, suc, ◌≤◌, ◌<◌}
use mathlib.Core.Path.{◌≡◌, refl, sym, ◌∙◌, ap, subst, subst⁻¹}
use mathlib.Core.Logic.{⊎_elim}
use mathlib.Core.Bool.{Bool, true, false}
use mathlib.Core.List.{List, [], ◌∷◌}
use native.Mathlib.Omega.{arith}
use lib.Dec.{T, eqb, eqb→eq, T_not, not_T}
use lib.ListN.{length}
use Rattle.basics.specs.Lists.{member, without}
use Rattle.basics.proofs.TestLaws.{true_T, false_T, T_false, same_or_not}
use Rattle.basics.proofs.ListLaws.{member_cases, member_none}
use Rattle.sequences.specs.Actions.{action_numbers}
use Rattle.sequences.specs.Order.{ready, first_ready, order}
use Rattle.sequences.specs.Paper.{DoneBefore}
use Rattle.sequences.proofs.Rising.{
  Rising,
  member_first,
  member_rest,
  without_member,
  member_without,
  rising_without,
  length_without,
}
use Rattle.sequences.proofs.TieLaws.{NoneReady, TieRule, may_ready, ready_may, tie_first, tie_stops, earlier_rest}

-- the numbers of a list are numbers of actions
abbrev pub Numbers : List ℕ → Type 0
Numbers xs = (a : ℕ) → T (member a xs) → a < action_numbers

-- what is picked: m is the lowest ready one of a list, or the default where none is ready
pub data Picked (after : ℕ → ℕ → Bool) (remaining xs : List ℕ) (default m : ℕ) : Type 0 where
  found : T (member m xs) → T (ready after remaining m)
      → ((b : ℕ) → T (member b xs) → b < m → T (ready after remaining b) → ⊥) → Picked after remaining xs default m
  nothing : m ≡ default → NoneReady after remaining xs → Picked after remaining xs default m

module _ (after : ℕ → ℕ → Bool) where
  -- the first ready one of a rising list is the lowest
  pub first_ready_law : (remaining xs : List ℕ) (default : ℕ) → Rising xs
      → Picked after remaining xs default (first_ready after remaining xs default)
  unfolding first_ready
  first_ready_law remaining [] default r = nothing refl (λ b m. absurd (member_none b m))
  first_ready_law remaining (x ∷ xs) default r = go (ready after remaining x) refl (first_ready_law remaining xs default r.1)
    where
      unready : ready after remaining x ≡ false → (b : ℕ) → b ≡ x → T (ready after remaining b) → ⊥
      unready e b i s =
          T_not (ready after remaining x) (false_T (ready after remaining x) e) (subst (λ (y : ℕ). T (ready after remaining y)) i s)

      go : (b : Bool) → ready after remaining x ≡ b → Picked after remaining xs default (first_ready after remaining xs default)
          → Picked after remaining (x ∷ xs) default (elim b [ true ↦ x | false ↦ first_ready after remaining xs default ])
      go true e f =
          found (member_first x xs) (true_T (ready after remaining x) e)
          (λ b m l. absurd (⊎_elim (λ i. omega arith) (λ k. let z : x < b = r.0 b k in omega arith) (member_cases b x xs m)))
      go false e (found m t f) =
          found (member_rest (first_ready after remaining xs default) x xs m) t
          (λ b k l s. ⊎_elim (λ i. unready e b i s) (λ n. f b n l s) (member_cases b x xs k))
      go false e (nothing i f) =
          nothing i (λ b k s. ⊎_elim (λ i. unready e b i s) (λ n. f b n s) (member_cases b x xs k))

  -- the steps of the construction: it stops where none is ready, or takes the lowest ready one
  data OrderStep (n : ℕ) (remaining : List ℕ) : Type 0 where
    stops : NoneReady after remaining remaining → order after (suc n) remaining ≡ [] → OrderStep n remaining
    takes : (a : ℕ) → T (member a remaining) → T (ready after remaining a)
        → ((b : ℕ) → T (member b remaining) → b < a → T (ready after remaining b) → ⊥)
        → order after (suc n) remaining ≡ a ∷ order after n (without a remaining) → OrderStep n remaining

  step : (n : ℕ) (remaining : List ℕ) → Rising remaining → Numbers remaining → OrderStep n remaining
  unfolding order
  step n remaining r below = go (first_ready after remaining remaining 136) refl (first_ready_law remaining remaining 136 r)
    where
      at : ℕ → Bool → List ℕ
      at m b = elim b [ true ↦ [] | false ↦ m ∷ order after n (without m remaining) ]

      go : (m : ℕ) → first_ready after remaining remaining 136 ≡ m → Picked after remaining remaining 136 m → OrderStep n remaining
      go m e (found k t f) =
          takes m k t f
          (ap (λ (x : ℕ). at x (eqb x 136)) e
          ∙ ap (λ (b : Bool). at m b)
          (T_false (eqb m 136) (not_T (eqb m 136) (λ q. let z : m ≡ 136 = eqb→eq m 136 q in omega (arith, below m k)))))
      go m e (nothing i f) = stops f (ap (λ (x : ℕ). at x (eqb x 136)) (e ∙ i))

  below_without : (remaining : List ℕ) (x : ℕ) → Numbers remaining → Numbers (without x remaining)
  below_without remaining x below a m = below a (without_member x remaining a m).0

  -- what the construction builds obeys the tie rule
  pub order_tie : (n : ℕ) (remaining : List ℕ) → length remaining ≤ n → Rising remaining → Numbers remaining
      → TieRule after remaining (order after n remaining)
  unfolding order
  order_tie zero [] h r below = tie_stops after [] (λ b m. absurd (member_none b m))
  order_tie zero (x ∷ xs) h r below = absurd (omega arith)
  order_tie (suc n) remaining h r below = go (step n remaining r below)
      (λ a m. order_tie n (without a remaining) (omega (arith, length_without a remaining r m)) (rising_without a remaining r)
      (below_without remaining a below))
    where
      go : OrderStep n remaining
          → ((a : ℕ) → T (member a remaining) → TieRule after (without a remaining) (order after n (without a remaining)))
          → TieRule after remaining (order after (suc n) remaining)
      go (stops f e) ih = subst⁻¹ (λ (l : List ℕ). TieRule after remaining l) e (tie_stops after remaining f)
      go (takes a m t f e) ih =
          subst⁻¹ (λ (l : List ℕ). TieRule after remaining l) e
          (tie_first after remaining a (order after n (without a remaining))
          (record {
            may = may_ready after remaining (a ∷ order after n (without a remaining)) a m t;
            lowest = λ b l w. f b w.remains l (ready_may after remaining (a ∷ order after n (without a remaining)) b w);
          }) (ih a m))

  -- it is no longer than the list it orders
  pub order_short : (n : ℕ) (remaining : List ℕ) → length (order after n remaining) ≤ n
  unfolding order
  order_short zero remaining = omega arith
  order_short (suc n) remaining =
      let a : ℕ = first_ready after remaining remaining 136 in
      go a (eqb a 136) (order_short n (without a remaining))
    where
      go : (a : ℕ) (b : Bool) → length (order after n (without a remaining)) ≤ n
          → length {A = ℕ} (elim b [ true ↦ [] | false ↦ a ∷ order after n (without a remaining) ]) ≤ suc n
      go a true l = omega arith
      go a false l = omega arith

  -- where something is ready in every list of its members, it orders all of them
  pub order_all : (n : ℕ) (remaining : List ℕ) → length remaining ≡ n → Rising remaining → Numbers remaining
      → ((xs : List ℕ) → 1 ≤ length xs → ((a : ℕ) → T (member a xs) → T (member a remaining))
      → (a : ℕ) × T (member a xs) × T (ready after xs a))
      → length (order after n remaining) ≡ n
  unfolding order
  order_all zero remaining h r below some = refl
  order_all (suc n) remaining h r below some = go (step n remaining r below)
      (λ a m. order_all n (without a remaining) (omega (arith, length_without a remaining r m)) (rising_without a remaining r)
      (below_without remaining a below) (λ xs l f. some xs l (λ b k. (without_member a remaining b (f b k)).0)))
    where
      go : OrderStep n remaining → ((a : ℕ) → T (member a remaining) → length (order after n (without a remaining)) ≡ n)
          → length (order after (suc n) remaining) ≡ suc n
      go (stops f e) ih =
          let w : (a : ℕ) × T (member a remaining) × T (ready after remaining a) = some remaining (omega arith) (λ a m. m) in
          absurd (f w.0 w.1 w.2)
      go (takes a m t f e) ih = ap (λ (l : List ℕ). length l) e ∙ ap suc (ih a m)

  -- where it orders as many as there are, every one of them stands in it
  pub order_complete : (n : ℕ) (remaining : List ℕ) → length remaining ≡ n → Rising remaining → Numbers remaining
      → length (order after n remaining) ≡ n → (a : ℕ) → T (member a remaining) → DoneBefore (order after n remaining) n a
  unfolding order
  order_complete zero [] h r below full a m = absurd (member_none a m)
  order_complete zero (x ∷ xs) h r below full a m = absurd (omega arith)
  order_complete (suc n) remaining h r below full a m = go (step n remaining r below)
      (λ x k. order_complete n (without x remaining) (omega (arith, length_without x remaining r k)) (rising_without x remaining r)
      (below_without remaining x below))
    where
      go : OrderStep n remaining
          → ((x : ℕ) → T (member x remaining) → length (order after n (without x remaining)) ≡ n
          → (a : ℕ) → T (member a (without x remaining)) → DoneBefore (order after n (without x remaining)) n a)
          → DoneBefore (order after (suc n) remaining) (suc n) a
      go (stops f e) ih = absurd (omega (arith, ap (λ (l : List ℕ). length l) e))
      go (takes x k t f e) ih =
          subst⁻¹ (λ (l : List ℕ). DoneBefore l (suc n) a) e
          (⊎_elim (λ i. record { place = 0; earlier = omega arith; stands_there = sym i })
          (λ i.
          earlier_rest x (order after n (without x remaining)) n a
          (ih x k (omega (arith, ap (λ (l : List ℕ). length l) e)) a (member_without x remaining a m i)))
          (same_or_not a x))
