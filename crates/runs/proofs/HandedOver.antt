-- What is handed over has been computed: an inherited attribute by the parent before its visit began, a synthesized one by the child before it
-- left, since the sequences are sound and the run is balanced. Assumes nothing.
use Prim.Native.Nat.{ℕ, suc, ◌+◌, ◌*◌, ◌≤◌, ◌<◌}
use mathlib.Core.Path.{◌≡◌, refl, sym, ◌∙◌, ap, ap₂, subst, subst⁻¹}
use mathlib.Core.Logic.{⊎_elim}
use mathlib.Core.Bool.{Bool, not}
use mathlib.Core.List.{List, ◌∷◌}
use native.Mathlib.Omega.{arith}
use lib.Dec.{T}
use lib.IntN.{ℤ}
use Rattle.basics.specs.Lists.{word}
use Rattle.basics.proofs.TestLaws.{same_or_not}
use Rattle.grammar.specs.Table.{rules, start, nonterminal, inherited, right_length, symbol_of, position, attribute, occurrence, inherited_at}
use Rattle.grammar.proofs.AcceptedTable.{occurrence_fits}
use Rattle.grammar.proofs.OccurrenceLaws.{none_inherited, occurs_inside}
use Rattle.sets.specs.Visits.{visit_of}
use Rattle.sequences.specs.Actions.{compute, decode, visit_at, inherited_of, synthesized_of}
use Rattle.sequences.proofs.ActionNumbers.{decode_compute}
use Rattle.sequences.proofs.MakesLaws.{OfVisit, inherited_of_law, of_inherited, synthesized_of_law, of_synthesized}
use Rattle.trees.specs.Tree.{nodes, rule_of, applies_rule, child, symbol_at_node, node_at, cell}
use Rattle.trees.specs.Formed.{ChildOf, Parent}
use Rattle.trees.specs.Definers.{AttributeOf}
use Rattle.trees.proofs.AcceptedTree.{rule_symbol}
use Rattle.trees.proofs.Cells.{
  node_left,
  node_child,
  cell_is,
  occurrence_attribute,
  attribute_eight,
  child_of,
  nonterminal_applies,
  occurs_there,
  cell_there,
}
use Rattle.plans.specs.Sequences.{action_at}
use Rattle.runs.specs.Sound.{Before}
use Rattle.runs.specs.Balance.{RunGiven, leaves_at, visits_at, Balanced}
use Rattle.runs.specs.Computing.{machine_at, ComputedBefore}
use Rattle.runs.proofs.SequenceCounts.{rule_sound, leave_done, visit_done}
use Rattle.runs.proofs.Steps.{top_inside, top_applies, top_once, above_top}
use Rattle.runs.proofs.Balance.{rule_known_law, child_nonterminal}
use Rattle.runs.proofs.Moments.{earlier}
use Rattle.runs.proofs.ComputedOnce.{balanced_at, top_computing}

module _ {g p t : List ℕ} {l : ℕ} (given : RunGiven g p t l) (values : List ℤ) where
  abbrev pub places : ℕ → List ℕ
  places k = (machine_at g p t values k).places

  -- a compute that node m has passed
  pub passed : (k m j o : ℕ) → j < word (places k) m → decode (action_at p (rule_of t m) j) ≡ compute o → ComputedBefore g p t values k (cell t m o)
  passed k m j o h e =
      let w = earlier given values k m j h in
      record {
        moment = w.0;
        earlier = w.1;
        about_to = record { node = m; occurs = o; computing = top_computing given values w.0 m j o w.2 e; is_cell = refl };
      }

  -- an action numbered as an occurrence computes it
  passed_number : (k m j o : ℕ) → m < nodes t → T (applies_rule t m) → T (occurrence g (rule_of t m) o) → j ≤ word (places k) m
      → Before p (rule_of t m) j o → ComputedBefore g p t values k (cell t m o)
  passed_number k m j o h a s q b =
      passed k m b.place o (omega (arith, b.earlier))
      (ap decode b.action_is
      ∙ decode_compute o (occurrence_fits g (rule_of t m) o (given.table.rule (rule_of t m) (rule_known_law given m h a)) s))

  -- the visit that an occurrence belongs to depends on symbol and attribute only
  same_visit : (r o s q : ℕ) → symbol_of g r (position o) ≡ symbol_of g s (position q) → attribute o ≡ attribute q → visit_at g p r o ≡ visit_at g p s q
  unfolding visit_at
  same_visit r o s q e d = ap₂ (λ (x a : ℕ). visit_of p x a) e d

  -- and so does its class
  same_class : (r o s q : ℕ) → symbol_of g r (position o) ≡ symbol_of g s (position q) → attribute o ≡ attribute q → inherited_at g r o ≡ inherited_at g s q
  unfolding inherited_at
  same_class r o s q e d = ap₂ (λ (x a : ℕ). inherited g x a) e d

  module _ (k n : ℕ) (rest : List ℕ) (top : (machine_at g p t values k).stack ≡ n ∷ rest) where
    b : Balanced g p t (n ∷ rest) (places k)
    b = balanced_at given values k n rest top

    pub n_inside : n < nodes t
    n_inside = top_inside given n rest b.path

    pub n_applies : T (applies_rule t n)
    n_applies = top_applies given n rest b.path

    pub n_rule : rule_of t n < rules g
    n_rule = rule_known_law given n n_inside n_applies

    -- an inherited attribute of a visit that has begun was computed by the parent, before that visit
    pub handed_down_law : (v x : ℕ) → 1 ≤ v → v ≤ suc (leaves_at p t (places k) n) → T (inherited_of g p (rule_of t n) 0 v x)
        → ComputedBefore g p t values k (cell t n x)
    handed_down_law v x one h s =
        ⊎_elim (λ e. absurd (root_none e)) (λ d. by_parent (given.tree.parent_of n (omega arith) n_inside)) (same_or_not n 0)
      where
        of : OfVisit g p (rule_of t n) 0 v x
        of = (inherited_of_law g p (rule_of t n) 0 v x s).0

        inh : T (inherited_at g (rule_of t n) x)
        inh = (inherited_of_law g p (rule_of t n) 0 v x s).1

        here : node_at t n (position x) ≡ n
        here = node_left t n (position x) of.stands

        attr : AttributeOf g t n (attribute x)
        attr =
            subst (λ (m : ℕ). AttributeOf g t m (attribute x)) here
            (occurrence_attribute given.table given.tree n x n_inside n_applies of.occurs)

        class : inherited_at g (rule_of t n) x ≡ inherited g (symbol_at_node g t n) (attribute x)
        class =
            unfold inherited_at in
            ap (λ (i : ℕ). inherited g (symbol_of g (rule_of t n) i) (attribute x)) of.stands
            ∙ ap (λ (y : ℕ). inherited g y (attribute x)) (sym (rule_symbol g t n n_applies))

        root_none : n ≡ 0 → ⊥
        root_none e =
            none_inherited g (start g) (attribute x) given.table.start_mask
            (subst (λ (y : ℕ). T (inherited g y (attribute x))) (ap (λ (m : ℕ). symbol_at_node g t m) e ∙ given.tree.root_start)
            (subst (λ (c : Bool). T c) class inh))

        by_parent : Parent g t n → ComputedBefore g p t values k (cell t n x)
        by_parent q =
            let m : ℕ = q.parent in
            let i : ℕ = q.slot in
            let c : ChildOf g t m i n = q.is_child in
            let at : node_at t m i ≡ n = node_child t m i c.first ∙ c.names in
            let a8 : attribute x < 8 = attribute_eight given.table given.tree n (attribute x) attr in
            let o : ℕ = 8 * i + attribute x in
            let pos : position o ≡ i = omega arith in
            let att : attribute o ≡ attribute x = omega arith in
            let mr : rule_of t m < rules g = rule_known_law given m c.inside c.applies in
            let occ : T (occurrence g (rule_of t m) o) =
            occurs_there given.table given.tree n (attribute x) n_applies attr m i c.inside c.applies c.last at in
            let sym₀ : symbol_of g (rule_of t m) (position o) ≡ symbol_of g (rule_of t n) (position x) =
            ap (λ (j : ℕ). symbol_of g (rule_of t m) j) pos
            ∙ (sym (given.tree.child_symbol m i n c)
            ∙ (rule_symbol g t n n_applies ∙ ap (λ (j : ℕ). symbol_of g (rule_of t n) j) (sym of.stands))) in
            let cls : T (inherited_at g (rule_of t m) o) =
            subst⁻¹ (λ (z : Bool). T z) (same_class (rule_of t m) o (rule_of t n) x sym₀ att) inh in
            let down : T (inherited_of g p (rule_of t m) i v o) =
            of_inherited g p (rule_of t m) i v o
            (record { occurs = occ; stands = pos; visit_is = same_visit (rule_of t m) o (rule_of t n) x sym₀ att ∙ of.visit_is }) cls in
            let w = visit_done given.table given.sound (rule_of t m) mr i c.first c.last
            (child_nonterminal given m i n c n_applies) (word (places k) m) v (b.inside m c.inside c.applies) one
            (omega (arith, b.child m i n c n_applies, top_once given n rest b.path)) in
            subst (λ (z : ℕ). ComputedBefore g p t values k z)
            (cell_there given.table given.tree n (attribute x) n_applies attr m i c.inside c.applies c.last at
            ∙ (sym (ap (λ (z : ℕ). 8 * z + attribute x) here) ∙ sym (cell_is t n x)))
            (passed_number k m w.0 o c.inside c.applies occ (omega (arith, w.1))
            ((rule_sound given.table given.sound (rule_of t m) mr).handed_down w.0 i v o
            (omega (arith, w.1, b.inside m c.inside c.applies)) w.2 down))

    -- a synthesized attribute of a visit that is over was computed by the child, before it left
    pub handed_up_law : (i v x : ℕ) → 1 ≤ i → 1 ≤ v → v ≤ visits_at p t (places k) n i → T (nonterminal g (symbol_of g (rule_of t n) i))
        → T (synthesized_of g p (rule_of t n) i v x) → ComputedBefore g p t values k (cell t n x)
    handed_up_law i v x one_i one h nt s =
        let of : OfVisit g p (rule_of t n) i v x = (synthesized_of_law g p (rule_of t n) i v x s).0 in
        let syn : T (not (inherited_at g (rule_of t n) x)) = (synthesized_of_law g p (rule_of t n) i v x s).1 in
        let i_in : i ≤ right_length g (rule_of t n) = subst (λ (j : ℕ). j ≤ right_length g (rule_of t n)) of.stands (occurs_inside g (rule_of t n) x of.occurs) in
        let c : ℕ = child t n i in
        let w₀ : ChildOf g t n i c = child_of given.table given.tree n i n_inside n_applies one_i i_in in
        let c_in : c < nodes t = given.tree.child_node n i c w₀ in
        let c_app : T (applies_rule t c) =
        nonterminal_applies given.table given.tree c c_in
        (subst⁻¹ (λ (y : ℕ). T (nonterminal g y)) (given.tree.child_symbol n i c w₀) nt) in
        let cr : rule_of t c < rules g = rule_known_law given c c_in c_app in
        let here : node_at t n (position x) ≡ c = ap (λ (j : ℕ). node_at t n j) of.stands ∙ node_child t n i one_i in
        let attr : AttributeOf g t c (attribute x) =
        subst (λ (m : ℕ). AttributeOf g t m (attribute x)) here
        (occurrence_attribute given.table given.tree n x n_inside n_applies of.occurs) in
        let a8 : attribute x < 8 = attribute_eight given.table given.tree c (attribute x) attr in
        let o : ℕ = 8 * 0 + attribute x in
        let pos : position o ≡ 0 = omega arith in
        let att : attribute o ≡ attribute x = omega arith in
        let at : node_at t c 0 ≡ c = node_left t c 0 refl in
        let zero_in : 0 ≤ right_length g (rule_of t c) = omega arith in
        let occ : T (occurrence g (rule_of t c) o) =
        occurs_there given.table given.tree c (attribute x) c_app attr c 0 c_in c_app zero_in at in
        let sym₀ : symbol_of g (rule_of t c) (position o) ≡ symbol_of g (rule_of t n) (position x) =
        ap (λ (j : ℕ). symbol_of g (rule_of t c) j) pos
        ∙ (sym (rule_symbol g t c c_app)
        ∙ (given.tree.child_symbol n i c w₀ ∙ ap (λ (j : ℕ). symbol_of g (rule_of t n) j) (sym of.stands))) in
        let cls : T (not (inherited_at g (rule_of t c) o)) =
        subst⁻¹ (λ (z : Bool). T (not z)) (same_class (rule_of t c) o (rule_of t n) x sym₀ att) syn in
        let up : T (synthesized_of g p (rule_of t c) 0 v o) =
        of_synthesized g p (rule_of t c) 0 v o
        (record { occurs = occ; stands = pos; visit_is = same_visit (rule_of t c) o (rule_of t n) x sym₀ att ∙ of.visit_is }) cls in
        let w = leave_done given.table given.sound (rule_of t c) cr (word (places k) c) v (b.inside c c_in c_app) one
        (omega (arith, b.child n i c w₀ c_app, above_top given n c rest b.path (given.tree.child_higher n i c w₀))) in
        subst (λ (z : ℕ). ComputedBefore g p t values k z)
        (cell_there given.table given.tree c (attribute x) c_app attr c 0 c_in c_app zero_in at
        ∙ (sym (ap (λ (z : ℕ). 8 * z + attribute x) here) ∙ sym (cell_is t n x)))
        (passed_number k c w.0 o c_in c_app occ (omega (arith, w.1))
        ((rule_sound given.table given.sound (rule_of t c) cr).handed_up w.0 v o
        (omega (arith, w.1, b.inside c c_in c_app)) w.2 up))
