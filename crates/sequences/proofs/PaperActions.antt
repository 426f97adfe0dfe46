-- The actions of a rule and what they make available, by the set words of a plan, are the paper's, by a function of symbol and attribute
-- that has the same numbers. Assumes nothing.
use Prim.Native.Nat.{ℕ, suc, ◌≤◌, ◌<◌}
use mathlib.Core.Path.{◌≡◌, sym, ◌∙◌, ap, ap₂, subst⁻¹}
use mathlib.Core.Logic.{◌↔◌}
use mathlib.Core.Bool.{not}
use mathlib.Core.List.{List}
use native.Mathlib.Omega.{arith}
use lib.Dec.{T, eqb→eq}
use Rattle.basics.proofs.TestLaws.{eq_T}
use Rattle.grammar.specs.Table.{symbols, rules, kind, right_length, symbol_of, occurrence, inherited_at, position, attribute}
use Rattle.grammar.specs.WellFormed.{WellFormed}
use Rattle.relations.proofs.Occurrences.{occurs_inside}
use Rattle.sets.specs.Visits.{set_number, last_set, visits, visit_of_set, visit_of, visits_for, visit_for}
use Rattle.sets.proofs.Visits.{highest_same}
use Rattle.sequences.specs.Actions.{Action, compute, visit, leave, none, decode, belongs, is_action, visit_at, inherited_of, synthesized_of, makes}
use Rattle.sequences.specs.Paper.{visits_by, visit_by, Belongs, OfVisit, Makes}
use Rattle.sequences.specs.Paper as paper
use Rattle.sequences.proofs.ActionLaws.{
  ChildVisit,
  LeftLeave,
  compute_belongs,
  belongs_compute,
  visit_belongs,
  belongs_visit,
  leave_belongs,
  belongs_leave,
  belongs_none,
}
use Rattle.sequences.proofs.MakesLaws.{
  inherited_of_law,
  of_inherited,
  synthesized_of_law,
  of_synthesized,
  makes_compute,
  compute_makes,
  makes_visit,
  visit_makes,
  makes_leave,
  leave_makes,
  makes_none,
}
use Rattle.sequences.proofs.MakesLaws as words

module _ (g s : List ℕ) (set : ℕ → ℕ → ℕ) (w : WellFormed g)
    (same : (x a : ℕ) → x < symbols g → a < 8 → set_number s x a ≡ set x a) (r : ℕ) (counts : r < rules g) where
  symbol_inside : (i : ℕ) → i ≤ right_length g r → symbol_of g r i < symbols g
  symbol_inside i h = (w.rule r counts).symbols_fit i h

  visits_are : (x : ℕ) → x < symbols g → visits s x ≡ visits_by (set x)
  unfolding visits last_set visits_by
  visits_are x h = ap visits_for (highest_same 8 (λ a. set_number s x a) (set x) (λ a l. same x a h l))

  visit_is_law : (x a : ℕ) → x < symbols g → a < 8 → visit_of s x a ≡ visit_by (set x) a
  unfolding visit_of visit_of_set visit_by
  visit_is_law x a h l = ap₂ visit_for (visits_are x h) (same x a h l)

  -- an action belongs to the rule by the words exactly if it does by the paper
  pub belongs_forth : (x : Action) → T (belongs g s r x) → Belongs g set r x
  belongs_forth (compute o) t = paper.computes o (belongs_compute g s r o t)
  belongs_forth (visit i n) t =
      let c : ChildVisit g s r i n = belongs_visit g s r i n t in
      paper.visits_child i n c.child c.inside (eqb→eq (kind g (symbol_of g r i)) 0 c.nonterminal_there) c.first
      (omega (arith, c.last, visits_are (symbol_of g r i) (symbol_inside i c.inside)))
  belongs_forth (leave n) t =
      let c : LeftLeave g s r n = belongs_leave g s r n t in
      paper.leaves n c.first (omega (arith, c.last, visits_are (symbol_of g r 0) (symbol_inside 0 (omega arith))))
  belongs_forth none t = absurd (belongs_none g s r t)

  pub belongs_back : (x : Action) → Belongs g set r x → T (belongs g s r x)
  belongs_back x (paper.computes o t) = compute_belongs g s r o t
  belongs_back x (paper.visits_child i n a b k f l) =
      visit_belongs g s r i n
      (record {
        child = a;
        inside = b;
        nonterminal_there = eq_T (kind g (symbol_of g r i)) 0 k;
        first = f;
        last = omega (arith, l, visits_are (symbol_of g r i) (symbol_inside i b));
      })
  belongs_back x (paper.leaves n f l) =
      leave_belongs g s r n (record { first = f; last = omega (arith, l, visits_are (symbol_of g r 0) (symbol_inside 0 (omega arith))) })

  pub action_paper : (a : ℕ) → T (is_action g s r a) ↔ Belongs g set r (decode a)
  unfolding is_action
  action_paper a = (belongs_forth (decode a), belongs_back (decode a))

  -- the visit of an occurrence
  same_visit : (i o : ℕ) → T (occurrence g r o) → position o ≡ i → visit_at g s r o ≡ visit_by (set (symbol_of g r i)) (attribute o)
  unfolding visit_at
  same_visit i o t e =
      visit_is_law (symbol_of g r (position o)) (attribute o) (symbol_inside (position o) (occurs_inside g r o t)) (omega arith)
      ∙ ap (λ (j : ℕ). visit_by (set (symbol_of g r j)) (attribute o)) e

  of_forth : (i n o : ℕ) → words.OfVisit g s r i n o → OfVisit g set r i n o
  of_forth i n o v = record { occurs = v.occurs; stands = v.stands; visit_is = sym (same_visit i o v.occurs v.stands) ∙ v.visit_is }

  of_back : (i n o : ℕ) → OfVisit g set r i n o → words.OfVisit g s r i n o
  of_back i n o v = record { occurs = v.occurs; stands = v.stands; visit_is = same_visit i o v.occurs v.stands ∙ v.visit_is }

  pub inherited_paper : (i n o : ℕ) → T (inherited_of g s r i n o) ↔ (OfVisit g set r i n o × T (inherited_at g r o))
  inherited_paper i n o = (
    λ t. let v = inherited_of_law g s r i n o t in (of_forth i n o v.0, v.1),
    λ v. of_inherited g s r i n o (of_back i n o v.0) v.1,
  )

  pub synthesized_paper : (i n o : ℕ) → T (synthesized_of g s r i n o) ↔ (OfVisit g set r i n o × T (not (inherited_at g r o)))
  synthesized_paper i n o = (
    λ t. let v = synthesized_of_law g s r i n o t in (of_forth i n o v.0, v.1),
    λ v. of_synthesized g s r i n o (of_back i n o v.0) v.1,
  )

  -- an action makes available by the words what it makes available by the paper
  pub makes_forth : (x : Action) (o : ℕ) → T (makes g s r x o) → Makes g set r x o
  makes_forth (compute p) o t =
      let v = makes_compute g s r p o t in subst⁻¹ (λ (q : ℕ). Makes g set r (compute q) o) v.1 (paper.computed o v.0)
  makes_forth (visit i n) o t =
      let v = makes_visit g s r i n o t in
      let u = (synthesized_paper i n o).0 v.1 in
      paper.handed_back i n o (eqb→eq (kind g (symbol_of g r i)) 0 v.0) u.0 u.1
  makes_forth (leave n) o t = let u = (inherited_paper 0 (suc n) o).0 (makes_leave g s r n o t) in paper.handed_in n o u.0 u.1
  makes_forth none o t = absurd (makes_none g s r o t)

  pub makes_back : (x : Action) (o : ℕ) → Makes g set r x o → T (makes g s r x o)
  makes_back x o (paper.computed p t) = compute_makes g s r p t
  makes_back x o (paper.handed_back i n p k v t) =
      visit_makes g s r i n p (eq_T (kind g (symbol_of g r i)) 0 k) ((synthesized_paper i n p).1 (v, t))
  makes_back x o (paper.handed_in n p v t) = leave_makes g s r n p ((inherited_paper 0 (suc n) p).1 (v, t))

  -- the last leave is one of as many visits as the left side has
  pub left_visits : visits s (symbol_of g r 0) ≡ visits_by (set (symbol_of g r 0))
  left_visits = visits_are (symbol_of g r 0) (symbol_inside 0 (omega arith))
