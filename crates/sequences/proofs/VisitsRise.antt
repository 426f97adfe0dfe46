-- Visits to a child rise, leaves rise, and the last leave ends the sequence: each follows the one before it, and the last leave everything.
-- Assumes nothing.
use Prim.Native.Nat.{ℕ, zero, suc, ◌-◌, ◌≤◌, ◌<◌}
use mathlib.Core.Path.{◌≡◌, sym, ◌∙◌, ap, subst}
use mathlib.Core.Logic.{⊎_elim}
use mathlib.Core.List.{List}
use native.Mathlib.Omega.{arith}
use Rattle.basics.proofs.TestLaws.{below_or_not, below_suc}
use Rattle.grammar.specs.Table.{symbol_of}
use Rattle.sets.specs.Visits.{visits}
use Rattle.sets.proofs.Visits.{some_visit}
use Rattle.sequences.specs.Actions.{visit, leave, number_of, decode}
use Rattle.sequences.specs.Order.{sequence_of}
use Rattle.sequences.specs.Paper.{DoneBefore}
use Rattle.sequences.proofs.ActionLaws.{ChildVisit, LeftLeave}
use Rattle.sequences.proofs.FollowsLaws.{visit_after_visit, leave_after_leave, last_leave_after}
use Rattle.sequences.proofs.OrderlyRules.{Orderly}
use Rattle.sequences.proofs.SequenceTie.{size, stands_at}
use Rattle.sequences.proofs.SequenceLaws.{
  stands_after,
  visit_there,
  visit_number_law,
  visit_stands,
  leave_there,
  leave_number_law,
  leave_stands,
  same_place,
  nothing_else_law,
  each_once,
  every_action,
}

module _ (g ids s : List ℕ) (r : ℕ) where
  module _ (h : Orderly g ids s r) where
    module _ (five : (x : ℕ) → visits s x ≤ 5) where
      -- before visit n + 1 of a child stands visit n, and before leave n + 1 leave n
      visit_before : (i n k : ℕ) → 1 ≤ n → k < size g ids s r → decode (stands_at g ids s r k) ≡ visit i (suc n)
          → (p : ℕ) × (p < k) × (decode (stands_at g ids s r p) ≡ visit i n)
      visit_before i n k f l d =
          let b : ChildVisit g s r i (suc n) = visit_there g ids s r k i (suc n) l d in
          before
          (record {
            child = b.child;
            inside = b.inside;
            nonterminal_there = b.nonterminal_there;
            first = f;
            last = omega (arith, b.last);
          })
        where
          before : ChildVisit g s r i n → (p : ℕ) × (p < k) × (decode (stands_at g ids s r p) ≡ visit i n)
          before c =
              let w : DoneBefore (sequence_of g ids s r) k (number_of (visit i n)) =
              stands_after g ids s r k l (number_of (visit i n)) (visit_stands g ids s r h five i n c)
              (visit_after_visit g ids s r (stands_at g ids s r k) (number_of (visit i n)) i n d (visit_number_law g ids s r h five i n c)) in
              (w.place, w.earlier, ap decode w.stands_there ∙ visit_number_law g ids s r h five i n c)

      leave_before : (n k : ℕ) → 1 ≤ n → k < size g ids s r → decode (stands_at g ids s r k) ≡ leave (suc n)
          → (p : ℕ) × (p < k) × (decode (stands_at g ids s r p) ≡ leave n)
      leave_before n k f l d =
          before (record { first = f; last = let b : LeftLeave g s r (suc n) = leave_there g ids s r k (suc n) l d in omega (arith, b.last) })
        where
          before : LeftLeave g s r n → (p : ℕ) × (p < k) × (decode (stands_at g ids s r p) ≡ leave n)
          before c =
              let w : DoneBefore (sequence_of g ids s r) k (number_of (leave n)) =
              stands_after g ids s r k l (number_of (leave n)) (leave_stands g ids s r h five n c)
              (leave_after_leave g ids s r (stands_at g ids s r k) (number_of (leave n)) n d (leave_number_law g ids s r h five n c)) in
              (w.place, w.earlier, ap decode w.stands_there ∙ leave_number_law g ids s r h five n c)

      -- "visits to a child and leaves rise": visits of a child rise
      pub visits_rise_law : (i m n j k : ℕ) → j < size g ids s r → k < size g ids s r → decode (stands_at g ids s r j) ≡ visit i m
          → decode (stands_at g ids s r k) ≡ visit i n → m < n
          → j < k
      visits_rise_law i m zero j k l q d e less = absurd (omega arith)
      visits_rise_law i m (suc n) j k l q d e less =
          go (visit_before i n k (omega (arith, (visit_there g ids s r j i m l d).first)) q e) (λ p u f v. visits_rise_law i m n j p l u d f v)
        where
          go : (p : ℕ) × (p < k) × (decode (stands_at g ids s r p) ≡ visit i n)
              → ((p : ℕ) → p < size g ids s r → decode (stands_at g ids s r p) ≡ visit i n → m < n → j < p) → j < k
          go (p, u, f) ih =
              ⊎_elim (λ v. omega (arith, ih p (omega arith) f v))
              (λ v. omega (arith, same_place g ids s r j p l (omega arith) (d ∙ (ap (λ (x : ℕ). visit i x) v ∙ sym f)))) (below_suc m n less)

      -- leaves rise
      pub leaves_rise_law : (m n j k : ℕ) → j < size g ids s r → k < size g ids s r → decode (stands_at g ids s r j) ≡ leave m
          → decode (stands_at g ids s r k) ≡ leave n → m < n
          → j < k
      leaves_rise_law m zero j k l q d e less = absurd (omega arith)
      leaves_rise_law m (suc n) j k l q d e less =
          go (leave_before n k (omega (arith, (leave_there g ids s r j m l d).first)) q e) (λ p u f v. leaves_rise_law m n j p l u d f v)
        where
          go : (p : ℕ) × (p < k) × (decode (stands_at g ids s r p) ≡ leave n)
              → ((p : ℕ) → p < size g ids s r → decode (stands_at g ids s r p) ≡ leave n → m < n → j < p) → j < k
          go (p, u, f) ih =
              ⊎_elim (λ v. omega (arith, ih p (omega arith) f v))
              (λ v. omega (arith, same_place g ids s r j p l (omega arith) (d ∙ (ap (λ (x : ℕ). leave x) v ∙ sym f)))) (below_suc m n less)

      -- the place of the last leave is the last
      last_place : (p : ℕ) → p < size g ids s r → decode (stands_at g ids s r p) ≡ leave (visits s (symbol_of g r 0)) → p ≡ size g ids s r - 1
      last_place p l f =
          let m : size g ids s r - 1 < size g ids s r = omega arith in
          ⊎_elim
          (λ q.
          let u : DoneBefore (sequence_of g ids s r) p (stands_at g ids s r (size g ids s r - 1)) =
          stands_after g ids s r p l (stands_at g ids s r (size g ids s r - 1)) (nothing_else_law g ids s r (size g ids s r - 1) m)
          (last_leave_after g ids s r (stands_at g ids s r p) (stands_at g ids s r (size g ids s r - 1)) f
          (λ i. omega (arith, each_once g ids s r p (size g ids s r - 1) l m i))) in
          absurd (omega (arith, u.earlier, each_once g ids s r u.place (size g ids s r - 1) (omega (arith, u.earlier)) m u.stands_there)))
          (λ q. omega arith) (below_or_not p (size g ids s r - 1))

      -- "the last leave ends it"
      pub ended_by_last_leave : decode (stands_at g ids s r (size g ids s r - 1)) ≡ leave (visits s (symbol_of g r 0))
      ended_by_last_leave =
          go (every_action g ids s r h (number_of (leave (visits s (symbol_of g r 0)))) (leave_stands g ids s r h five (visits s (symbol_of g r 0)) last))
        where
          last : LeftLeave g s r (visits s (symbol_of g r 0))
          last = record { first = some_visit s (symbol_of g r 0); last = omega arith }

          go : DoneBefore (sequence_of g ids s r) (size g ids s r) (number_of (leave (visits s (symbol_of g r 0))))
              → decode (stands_at g ids s r (size g ids s r - 1)) ≡ leave (visits s (symbol_of g r 0))
          go w =
              let f : decode (stands_at g ids s r w.place) ≡ leave (visits s (symbol_of g r 0)) =
              ap decode w.stands_there ∙ leave_number_law g ids s r h five (visits s (symbol_of g r 0)) last in
              subst (λ (p : ℕ). decode (stands_at g ids s r p) ≡ leave (visits s (symbol_of g r 0))) (last_place w.place w.earlier f) f
