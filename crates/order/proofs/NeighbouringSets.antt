-- 000 adds the arcs between neighbouring sets only, and 01 those from every higher set: the paths are equal, so one is ordered where the
-- other is. Between two sets that have members every set has one, since only set 1 can be empty. Assumes nothing.
use Prim.Native.Nat.{ℕ, zero, suc, ◌+◌, ◌≤◌, ◌<◌}
use mathlib.Core.Path.{◌≡◌, refl, subst}
use mathlib.Core.Logic.{◌↔◌, ⊎_elim}
use mathlib.Core.List.{List}
use native.Mathlib.Omega.{arith}
use lib.Dec.{ltb→lt}
use Rattle.basics.proofs.TestLaws.{below_or_not}
use Rattle.grammar.specs.Table.{symbols, rules, kind, attributes, occurrence_of}
use Rattle.grammar.specs.WellFormed.{WellFormed}
use Rattle.relations.specs.Paper.{Stands, Path⁺, one, more}
use Rattle.sets.specs.Visits.{set_number}
use Rattle.sets.specs.Computed.{sets_of}
use Rattle.sets.proofs.Placing.{Arc}
use Rattle.sets.proofs.SetWords.{word_placed, word_only_first_empty}
use Rattle.order.specs.Paper.{Beside, EDP, Neighbouring}
use Rattle.relations.proofs.PathLaws.{path_into}

module _ (g s : List ℕ) (r : ℕ)
    (placed : (i x a : ℕ) → Stands g r i x → kind g x ≡ 0 → a < attributes g x → 1 ≤ set_number s x a)
    (only_first_empty : (i x a j : ℕ) → Stands g r i x → kind g x ≡ 0 → a < attributes g x → 2 ≤ j → j ≤ set_number s x a
    → (b : ℕ) × (b < attributes g x) × (set_number s x b ≡ j)) where
  -- an arc from a higher set, at most n sets above the neighbour, is a path from neighbour to neighbour
  step_down : (n i x a b c d : ℕ) → Beside g r i x a b c d → set_number s x b < set_number s x a → set_number s x a ≤ suc n + set_number s x b
      → Path⁺ (Neighbouring g (set_number s) r) c d
  step_down zero i x a b c d w h l = one (Neighbouring.next i x a b w (omega arith))
  step_down (suc n) i x a b c d w h l =
      ⊎_elim
      (λ q.
      let m = only_first_empty i x a (suc (set_number s x b)) w.stands w.nonterminal_there w.first_fits
      (omega (arith, placed i x b w.stands w.nonterminal_there w.second_fits)) (omega arith) in
      more
      (step_down n i x a m.0 c (occurrence_of i m.0) (record {
        stands = w.stands;
        nonterminal_there = w.nonterminal_there;
        first_fits = w.first_fits;
        second_fits = m.1;
        first_is = w.first_is;
        second_is = refl;
      }) (omega (arith, m.2)) (omega (arith, m.2)))
      (Neighbouring.next i x m.0 b (record {
        stands = w.stands;
        nonterminal_there = w.nonterminal_there;
        first_fits = m.1;
        second_fits = w.second_fits;
        first_is = refl;
        second_is = w.second_is;
      }) m.2))
      (λ q. one (Neighbouring.next i x a b w (omega arith))) (below_or_not (suc (set_number s x b)) (set_number s x a))

  -- each EDP arc is a path over neighbouring sets
  higher_neighbours : (c d : ℕ) → EDP g (set_number s) r c d → Path⁺ (Neighbouring g (set_number s) r) c d
  higher_neighbours c d (EDP.direct p) = one (Neighbouring.direct p)
  higher_neighbours c d (EDP.within i x a b w p) = one (Neighbouring.within i x a b w p)
  higher_neighbours c d (EDP.higher i x a b w h) = step_down (set_number s x a) i x a b c d w h (omega arith)

  -- an arc between neighbouring sets is an arc from a higher set
  neighbours_higher : (c d : ℕ) → Neighbouring g (set_number s) r c d → Path⁺ (EDP g (set_number s) r) c d
  neighbours_higher c d (Neighbouring.direct p) = one (EDP.direct p)
  neighbours_higher c d (Neighbouring.within i x a b w p) = one (EDP.within i x a b w p)
  neighbours_higher c d (Neighbouring.next i x a b w e) = one (EDP.higher i x a b w (omega arith))

  -- "000 adds neighbouring sets only; the paths are equal"
  pub same_paths : (a b : ℕ) → Path⁺ (EDP g (set_number s) r) a b ↔ Path⁺ (Neighbouring g (set_number s) r) a b
  same_paths a b = (path_into higher_neighbours, path_into neighbours_higher)

-- For the set words of a plan: the table is well formed, and IDS of each nonterminal is transitive and has no cycle.
module _ (g ids : List ℕ) (w : WellFormed g)
    (transitive : (x : ℕ) → x < symbols g → kind g x ≡ 0 → (a b c : ℕ) → Arc g ids x a b → Arc g ids x b c → Arc g ids x a c)
    (acyclic : (x : ℕ) → x < symbols g → kind g x ≡ 0 → (a : ℕ) → Arc g ids x a a → ⊥) where
  -- a symbol of a rule is one of the table
  symbol_fits : (r i x : ℕ) → Stands g r i x → x < symbols g
  symbol_fits r i x t =
      subst (λ (y : ℕ). y < symbols g) t.symbol_is ((w.rule r (ltb→lt r (rules g) t.counts)).symbols_fit i t.inside)

  -- the paths are equal for the sets that the planner writes
  pub same_paths_of_plan : (r a b : ℕ) → Path⁺ (EDP g (set_number (sets_of g ids)) r) a b ↔ Path⁺ (Neighbouring g (set_number (sets_of g ids)) r) a b
  same_paths_of_plan r =
      same_paths g (sets_of g ids) r
      (λ i x a t n l.
      let f = symbol_fits r i x t in
      word_placed g ids x (omega (arith, w.symbols_fit)) f n (w.symbol x f).attributes_fit (transitive x f n) (acyclic x f n) a l)
      (λ i x a j t n l.
      let f = symbol_fits r i x t in
      word_only_first_empty g ids x (omega (arith, w.symbols_fit)) f n (w.symbol x f).attributes_fit (transitive x f n) (acyclic x f n) a j l)
