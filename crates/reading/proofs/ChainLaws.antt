-- A chain of tests that the code cuts into parts: the part that stops answers for the whole chain, and where each passed the last one does.
-- Assumes nothing.
use Prim.Native.Nat.{ℕ, ◌+◌, ◌≤◌, ◌<◌}
use mathlib.Core.Path.{◌≡◌, refl, sym, ◌∙◌, ap}
use mathlib.Core.List.{List}
use native.Mathlib.Omega.{arith}
use lib.Dec.{ltb, leb}
use lib.ListN.{get_or}
use Rattle.std.specs.Prelude.{Ok, Err}
use Rattle.refusals.specs.declared.Refusal.{Refusal}
use Rattle.grammar.specs.Table.{symbols, kind, attributes, symbol_at, length_at, functions_at}
use Rattle.grammar.specs.Verdicts.{Verdict, Good, Refused, ◌then◌, each}
use Rattle.grammar.specs.Reading.{present, ranged, symbol_fault}
use Rattle.access.specs.ByPlace.{symbol_test, function_from}
use Rattle.access.proofs.Laws.{stops, passes, each_none, each_more, each_stop, each_end, ranged_of, leb_of, ltb_of, right_of, count_of, ranged_le}
use Rattle.reading.specs.Parts.{mask_fault, target_fault, operands_fault, right_fault, shape_fault}

pub then_assoc : (u v w : Verdict) → (u then v) then w ≡ u then (v then w)
unfolding ◌then◌
then_assoc (Ok _) v w = refl
then_assoc (Err n) v w = refl

pub then_group : (t u v w : Verdict) → t then (u then (v then w)) ≡ (t then (u then v)) then w
unfolding ◌then◌
then_group (Ok _) (Ok _) v w = refl
then_group (Ok _) (Err n) v w = refl
then_group (Err n) u v w = refl

-- ---- a symbol: its kind, its count, then its mask

module _ (g : List ℕ) (x k : ℕ) (u : Verdict) (d : k ≡ kind g x) (e : u ≡ ranged g (symbol_at x) (leb k 1)) where
  pub kind_stops : (m : Refusal) → u ≡ Refused m → u ≡ symbol_fault g x
  unfolding symbol_fault
  kind_stops m h = stops _ _ u m (ranged_of g _ _ _ u e (leb_of k 1 _ d)) h

  module _ (a : ℕ) (v : Verdict) (h : u ≡ Good) (i : a ≡ attributes g x) (j : v ≡ ranged g (symbol_at x + 1) (leb a 8)) where
    pub count_stops : (m : Refusal) → v ≡ Refused m → v ≡ symbol_fault g x
    unfolding symbol_fault
    count_stops m l =
        passes _ _ u v (ranged_of g _ _ _ u e (leb_of k 1 _ d)) h (stops _ _ v m (ranged_of g _ _ _ v j (leb_of a 8 _ i)) l)

    pub mask_answers : (w : Verdict) → v ≡ Good → w ≡ mask_fault g x → w ≡ symbol_fault g x
    unfolding symbol_fault mask_fault
    mask_answers w l n =
        passes _ _ u w (ranged_of g _ _ _ u e (leb_of k 1 _ d)) h (passes _ _ v w (ranged_of g _ _ _ v j (leb_of a 8 _ i)) l n)

pub count_fits : (g : List ℕ) (x a q : ℕ) (v : Verdict) → v ≡ ranged g q (leb a 8) → v ≡ Good → a ≡ attributes g x → attributes g x ≤ 8
count_fits g x a q v e h d = omega (arith, ranged_le g q a 8 v e h)

-- ---- a function: its first word, its target, then its operands

module _ (g : List ℕ) (f t occurrences undefined : ℕ) (u v : Verdict) (d : u ≡ present g f) (e : u ≡ Good) (h : t ≡ get_or g f 0)
    (k : v ≡ target_fault f t occurrences undefined) where
  target : v ≡ target_fault f (get_or g f 0) occurrences undefined
  target = k ∙ ap (λ (o : ℕ). target_fault f o occurrences undefined) h

  cut : function_from g f occurrences undefined
      ≡ present g f then (target_fault f (get_or g f 0) occurrences undefined then operands_fault g f occurrences)
  unfolding function_from target_fault operands_fault
  cut = ap (λ (w : Verdict). present g f then w) (sym (then_assoc _ _ _))

  pub target_stops : (m : Refusal) → v ≡ Refused m → v ≡ function_from g f occurrences undefined
  target_stops m l = passes _ _ u v d e (stops _ _ v m target l) ∙ sym cut

  pub operands_answer : (w : Verdict) → v ≡ Good → w ≡ operands_fault g f occurrences → w ≡ function_from g f occurrences undefined
  operands_answer w l i = passes _ _ u w d e (passes _ _ v w target l i) ∙ sym cut

-- ---- a rule's shape: its length, its symbols, then the number of its functions

module _ (g : List ℕ) (p n : ℕ) (u : Verdict) (d : n ≡ length_at g p) (e : u ≡ ranged g (p + 1) (leb n 7)) where
  pub length_stops : (m : Refusal) → u ≡ Refused m → u ≡ shape_fault g p
  unfolding shape_fault
  length_stops m h = stops _ _ u m (ranged_of g _ _ _ u e (leb_of n 7 _ d)) h

  module _ (v : Verdict) (h : u ≡ Good) (j : v ≡ right_fault g (p + 2) n) where
    right_passes : v ≡ each (length_at g p) (λ i. symbol_test g (p + 2 + i))
    unfolding right_fault
    right_passes = right_of g (p + 2) n _ v j d

    pub right_stops : (m : Refusal) → v ≡ Refused m → v ≡ shape_fault g p
    unfolding shape_fault
    right_stops m l =
        passes _ _ u v (ranged_of g _ _ _ u e (leb_of n 7 _ d)) h (stops _ _ v m right_passes l)

    pub count_answers : (k : ℕ) (w : Verdict) → v ≡ Good → k ≡ functions_at g p → w ≡ ranged g (p + 2 + n) (leb k 64) → w ≡ shape_fault g p
    unfolding shape_fault
    count_answers k w l i s =
        passes _ _ u w (ranged_of g _ _ _ u e (leb_of n 7 _ d)) h
        (passes _ _ v w right_passes l (count_of g p n k w s d i))

-- where a walk over n symbols of a right side, from word p on, stands after i of them
pub record AtSymbol (g : List ℕ) (p n i : ℕ) : Type 0 where
  pub inside : i ≤ n
  pub passed : each i (λ j. symbol_test g (p + j)) ≡ Good

module _ (g : List ℕ) (p n : ℕ) where
  pub start : AtSymbol g p n 0
  start = record { inside = omega arith; passed = each_none _ }

  module _ (i s w : ℕ) (u : Verdict) (h : i < n) (at : AtSymbol g p n i) (d : s ≡ symbols g) (e : w ≡ get_or g (p + i) 0)
      (k : u ≡ ranged g (p + i) (ltb w s)) where
    test : u ≡ symbol_test g (p + i)
    unfolding symbol_test
    test = ranged_of g (p + i) _ _ u k (ltb_of w s _ _ e d)

    pub turn : u ≡ Good → AtSymbol g p n (i + 1)
    turn l = record { inside = omega arith; passed = each_more i (λ j. symbol_test g (p + j)) u at.passed test l }

    pub symbol_stops : (m : Refusal) → u ≡ Refused m → u ≡ right_fault g p n
    unfolding right_fault
    symbol_stops m l = each_stop n i (λ j. symbol_test g (p + j)) u m h at.passed test l

  pub symbols_end : (i : ℕ) → n ≤ i → AtSymbol g p n i → Good ≡ right_fault g p n
  unfolding right_fault
  symbols_end i l at = each_end n i (λ j. symbol_test g (p + j)) at.inside l at.passed
