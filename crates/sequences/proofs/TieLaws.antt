-- The tie rule of document 01, over any relation of following: "The next action is always the lowest-numbered one whose predecessors are done."
-- The rule of a list is the rule of its first and the rule of the rest, so it determines the list. Assumes nothing.
use Prim.Native.Nat.{ℕ, zero, suc, ◌<◌}
use mathlib.Core.Path.{◌≡◌, refl, sym, ◌∙◌, ap, subst}
use mathlib.Core.Logic.{◌⊎◌, inl, inr, ⊎_elim}
use mathlib.Core.Bool.{Bool, true, false}
use mathlib.Core.List.{List, [], ◌∷◌}
use native.Mathlib.Omega.{arith}
use lib.Dec.{T, eqb, eqb→eq, T_not, not_T}
use lib.ListN.{length, get_or}
use Rattle.basics.specs.Lists.{member, any, without}
use Rattle.basics.proofs.TestLaws.{true_T, false_T, eq_T, below_or_not}
use Rattle.basics.proofs.ListLaws.{any_at, any_find}
use Rattle.sequences.specs.Order.{ready}
use Rattle.sequences.specs.Paper.{DoneBefore}
use Rattle.sequences.specs.Paper as rule
use Rattle.sequences.proofs.Rising.{without_member, member_without}

-- the tie rule over a list of what remains and a test of following
abbrev pub May : (ℕ → ℕ → Bool) → List ℕ → List ℕ → ℕ → ℕ → Type 0
May after remaining out j a = rule.May (λ b. T (member b remaining)) (λ b c. T (after b c)) out j a

abbrev pub Next : (ℕ → ℕ → Bool) → List ℕ → List ℕ → ℕ → ℕ → Type 0
Next after remaining out j a = rule.Next (λ b. T (member b remaining)) (λ b c. T (after b c)) out j a

abbrev pub TieRule : (ℕ → ℕ → Bool) → List ℕ → List ℕ → Type 0
TieRule after remaining out = rule.TieRule (λ b. T (member b remaining)) (λ b c. T (after b c)) out

-- nothing stands before place 0; before place j + 1 stand the first, and what stands before place j of the rest
pub earlier_none : (out : List ℕ) (a : ℕ) → DoneBefore out 0 a → ⊥
earlier_none out a e = omega (arith, e.earlier)

pub earlier_rest : (x : ℕ) (out : List ℕ) (j a : ℕ) → DoneBefore out j a → DoneBefore (x ∷ out) (suc j) a
earlier_rest x out j a e = record { place = suc e.place; earlier = omega (arith, e.earlier); stands_there = e.stands_there }

pub earlier_cases : (x : ℕ) (out : List ℕ) (j a : ℕ) → DoneBefore (x ∷ out) (suc j) a → (a ≡ x) ⊎ DoneBefore out j a
earlier_cases x out j a e = go e.place e.earlier e.stands_there
  where
    go : (k : ℕ) → k < suc j → get_or (x ∷ out) k 0 ≡ a → (a ≡ x) ⊎ DoneBefore out j a
    go zero h i = inl (sym i)
    go (suc k) h i = inr (record { place = k; earlier = omega arith; stands_there = i })

-- none of a list is ready
abbrev pub NoneReady : (ℕ → ℕ → Bool) → List ℕ → List ℕ → Type 0
NoneReady after remaining xs = (b : ℕ) → T (member b xs) → T (ready after remaining b) → ⊥

module _ (after : ℕ → ℕ → Bool) where
  -- an action is ready exactly where none that remains is a predecessor of it
  pub ready_intro : (remaining : List ℕ) (a : ℕ) → ((b : ℕ) → T (member b remaining) → T (after a b) → ⊥) → T (ready after remaining a)
  unfolding ready
  ready_intro remaining a f =
      not_T (any (λ b. after a b) remaining)
      (λ t. let w : (x : ℕ) × T (member x remaining) × T (after a x) = any_find (λ b. after a b) remaining t in f w.0 w.1 w.2)

  -- so no predecessor of a ready one remains
  pub ready_use : (remaining : List ℕ) (a : ℕ) → T (ready after remaining a) → (b : ℕ) → T (member b remaining) → T (after a b) → ⊥
  unfolding ready
  ready_use remaining a t b m f = T_not (any (λ b. after a b) remaining) t (any_at (λ b. after a b) remaining b m f)

  -- at the first place: those that are ready
  pub may_ready : (remaining out : List ℕ) (a : ℕ) → T (member a remaining) → T (ready after remaining a) → May after remaining out 0 a
  may_ready remaining out a m t =
      record { remains = m; undone = earlier_none out a; predecessors = λ b k f. absurd (ready_use remaining a t b k f) }

  pub ready_may : (remaining out : List ℕ) (a : ℕ) → May after remaining out 0 a → T (ready after remaining a)
  ready_may remaining out a w = ready_intro remaining a (λ b m f. earlier_none out b (w.predecessors b m f))

  -- at a later place: the same as for the rest of the list, with the first one done
  may_rest : (remaining : List ℕ) (x : ℕ) (out : List ℕ) (j a : ℕ)
      → May after remaining (x ∷ out) (suc j) a → May after (without x remaining) out j a
  may_rest remaining x out j a w =
      record {
        remains =
            member_without x remaining a w.remains
            (λ i. w.undone (record { place = 0; earlier = omega arith; stands_there = sym i }));
        undone = λ e. w.undone (earlier_rest x out j a e);
        predecessors = λ b m f.
            let k : T (member b remaining) × (b ≡ x → ⊥) = without_member x remaining b m in
            ⊎_elim (λ i. absurd (k.1 i)) (λ e. e) (earlier_cases x out j b (w.predecessors b k.0 f));
      }

  rest_may : (remaining : List ℕ) (x : ℕ) (out : List ℕ) (j a : ℕ)
      → May after (without x remaining) out j a → May after remaining (x ∷ out) (suc j) a
  rest_may remaining x out j a w =
      let k : T (member a remaining) × (a ≡ x → ⊥) = without_member x remaining a w.remains in
      record {
        remains = k.0;
        undone = λ e. ⊎_elim k.1 w.undone (earlier_cases x out j a e);
        predecessors = λ b m f. go b m f (eqb b x) refl;
      }
    where
      go : (b : ℕ) → T (member b remaining) → T (after a b) → (c : Bool) → eqb b x ≡ c → DoneBefore (x ∷ out) (suc j) b
      go b m f true e = record { place = 0; earlier = omega arith; stands_there = sym (eqb→eq b x (true_T (eqb b x) e)) }
      go b m f false e =
          earlier_rest x out j b
          (w.predecessors b (member_without x remaining b m (λ i. T_not (eqb b x) (false_T (eqb b x) e) (eq_T b x i))) f)

  next_rest : (remaining : List ℕ) (x : ℕ) (out : List ℕ) (j a : ℕ)
      → Next after remaining (x ∷ out) (suc j) a → Next after (without x remaining) out j a
  next_rest remaining x out j a w =
      record { may = may_rest remaining x out j a w.may; lowest = λ b l m. w.lowest b l (rest_may remaining x out j b m) }

  rest_next : (remaining : List ℕ) (x : ℕ) (out : List ℕ) (j a : ℕ)
      → Next after (without x remaining) out j a → Next after remaining (x ∷ out) (suc j) a
  rest_next remaining x out j a w =
      record { may = rest_may remaining x out j a w.may; lowest = λ b l m. w.lowest b l (may_rest remaining x out j b m) }

  -- the rule of a list is the rule of its first and the rule of the rest
  tie_rest : (remaining : List ℕ) (x : ℕ) (out : List ℕ) → TieRule after remaining (x ∷ out) → TieRule after (without x remaining) out
  tie_rest remaining x out w =
      record {
        next = λ j h. next_rest remaining x out j (get_or out j 0) (w.next (suc j) (omega arith));
        ends = λ a m. w.ends a (rest_may remaining x out (length out) a m);
      }

  pub tie_first : (remaining : List ℕ) (x : ℕ) (out : List ℕ) → Next after remaining (x ∷ out) 0 x → TieRule after (without x remaining) out
      → TieRule after remaining (x ∷ out)
  tie_first remaining x out n w =
      record { next = go; ends = λ a m. w.ends a (may_rest remaining x out (length out) a m) }
    where
      go : (j : ℕ) → j < suc (length out) → Next after remaining (x ∷ out) j (get_or (x ∷ out) j 0)
      go zero h = n
      go (suc j) h = rest_next remaining x out j (get_or out j 0) (w.next j (omega arith))

  -- where none is ready, the empty list obeys the rule, and no other list does
  pub tie_stops : (remaining : List ℕ) → NoneReady after remaining remaining → TieRule after remaining []
  tie_stops remaining f =
      record {
        next = λ j h. absurd (omega arith);
        ends = λ a m. f a m.remains (ready_may remaining [] a m);
      }

  -- what may stand at the first place does not depend on the list
  restart : (remaining s t : List ℕ) (a : ℕ) → May after remaining s 0 a → May after remaining t 0 a
  restart remaining s t a m = may_ready remaining t a m.remains (ready_may remaining s a m)

  same_first : (remaining : List ℕ) (x y : ℕ) (s t : List ℕ) → TieRule after remaining (x ∷ s) → TieRule after remaining (y ∷ t)
      → x ≡ y
  same_first remaining x y s t v w =
      let n : Next after remaining (x ∷ s) 0 x = v.next 0 (omega arith) in
      let m : Next after remaining (y ∷ t) 0 y = w.next 0 (omega arith) in
      ⊎_elim (λ l. absurd (m.lowest x l (restart remaining (x ∷ s) (y ∷ t) x n.may)))
      (λ l.
      ⊎_elim (λ k. absurd (n.lowest y k (restart remaining (y ∷ t) (x ∷ s) y m.may))) (λ k. omega arith)
      (below_or_not y x)) (below_or_not x y)

  -- the tie rule determines the list
  pub tie_one : (remaining s t : List ℕ) → TieRule after remaining s → TieRule after remaining t → s ≡ t
  tie_one remaining [] [] v w = refl
  tie_one remaining [] (y ∷ t) v w = absurd (v.ends y (restart remaining (y ∷ t) [] y (w.next 0 (omega arith)).may))
  tie_one remaining (x ∷ s) [] v w = absurd (w.ends x (restart remaining (x ∷ s) [] x (v.next 0 (omega arith)).may))
  tie_one remaining (x ∷ s) (y ∷ t) v w =
      let e : x ≡ y = same_first remaining x y s t v w in
      ap (λ (z : ℕ). z ∷ s) e
      ∙ ap (λ (l : List ℕ). y ∷ l)
      (tie_one (without y remaining) s t (subst (λ (z : ℕ). TieRule after (without z remaining) s) e (tie_rest remaining x s v))
      (tie_rest remaining y t w))

  module _ (remaining out : List ℕ) (rule : TieRule after remaining out) where
    -- a list that obeys the rule holds only what remains
    pub tie_remains : (j : ℕ) → j < length out → T (member (get_or out j 0) remaining)
    tie_remains j h = (rule.next j h).may.remains

    -- each once
    pub tie_once : (j k : ℕ) → j < length out → k < length out → get_or out j 0 ≡ get_or out k 0 → j ≡ k
    tie_once j k h l e =
        ⊎_elim (λ p. absurd ((rule.next k l).may.undone (record { place = j; earlier = p; stands_there = e })))
        (λ p.
        ⊎_elim (λ q. absurd ((rule.next j h).may.undone (record { place = k; earlier = q; stands_there = sym e })))
        (λ q. omega arith) (below_or_not k j)) (below_or_not j k)

    -- and each after all that it follows
    pub tie_after : (j : ℕ) → j < length out → (b : ℕ) → T (member b remaining) → T (after (get_or out j 0) b) → DoneBefore out j b
    tie_after j h b m f = (rule.next j h).may.predecessors b m f
