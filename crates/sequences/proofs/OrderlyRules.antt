-- What is known of a rule once its table is read, its sets are placed and its EDP has no cycle: where an EDP arc starts and stays, that it never
-- leads to a higher set, and which set the attributes of a visit have. Assumes nothing.
use Prim.Native.Nat.{ℕ, ◌+◌, ◌*◌, ◌-◌, ◌%◌, ◌≤◌, ◌<◌}
use mathlib.Core.Path.{◌≡◌, ◌∙◌, ap, subst, subst⁻¹}
use mathlib.Core.Logic.{◌⊎◌, inl, inr, ⊎_elim}
use mathlib.Core.Bool.{not}
use mathlib.Core.List.{List}
use native.Mathlib.Omega.{arith}
use lib.Dec.{T, ltb→lt, lt→ltb, eqb→eq, not_T}
use Rattle.basics.proofs.TestLaws.{and_intro, and_left, and_right, or_right, or_cases, eq_T, tested}
use Rattle.grammar.specs.Limits.{most_occurrences}
use Rattle.grammar.specs.Table.{
  symbols,
  attributes,
  nonterminal,
  symbol_of,
  occurrence,
  inherited_at,
  defining,
  position,
  attribute,
  rule_counts,
}
use Rattle.grammar.specs.WellFormed.{WellFormed}
use Rattle.grammar.proofs.AcceptedTable.{occurrence_fits}
use Rattle.relations.specs.Paper.{Path⁺}
use Rattle.relations.specs.Computed.{arc_in}
use Rattle.relations.proofs.Occurrences.{counts_below, occurs_inside, occurs_attribute, dp_sound, dp_target, dp_argument}
use Rattle.sets.specs.Paper.{of_class}
use Rattle.sets.specs.Visits.{set_number, visits, visit_of_set, visit_of}
use Rattle.sets.proofs.Classes.{inherited_even, synthesized_odd}
use Rattle.sets.proofs.Visits.{inherited_set, synthesized_set}
use Rattle.order.specs.Computed.{beside_arc, edp}
use Rattle.sequences.specs.Actions.{visit_at}
use Rattle.sequences.proofs.MakesLaws.{OfVisit}

-- the attribute's set is one of 1, 2 and so on, and of its class
pub record Placed (g s : List ℕ) (x a : ℕ) : Type 0 where
  pub low : 1 ≤ set_number s x a
  pub class : T (of_class g x (set_number s x a) a)

-- what is known of rule r once its table is read, its sets are placed and its EDP has no cycle
pub record Orderly (g ids s : List ℕ) (r : ℕ) : Type 0 where
  pub formed : WellFormed g
  pub counts : T (rule_counts g r)
  pub placed : (x a : ℕ) → x < symbols g → T (nonterminal g x) → a < attributes g x → Placed g s x a
  pub down : (x a b : ℕ) → x < symbols g → T (nonterminal g x) → a < attributes g x → b < attributes g x → T (arc_in ids x a b)
      → set_number s x b ≤ set_number s x a
  pub acyclic : (o : ℕ) → Path⁺ (λ a b. T (edp g ids s r a b)) o o → ⊥

-- the set number of the attribute of occurrence o
unfoldable pub set_at : List ℕ → List ℕ → ℕ → ℕ → ℕ
set_at g s r o = set_number s (symbol_of g r (position o)) (attribute o)

module _ (g ids s : List ℕ) (r : ℕ) where
  -- an arc beside another attribute of one nonterminal
  pub record BesideArc (a b : ℕ) : Type 0 where
    pub source : T (occurrence g r a)
    pub goal : T (occurrence g r b)
    pub same : position a ≡ position b
    pub nonterminal_there : T (nonterminal g (symbol_of g r (position a)))
    pub arc : T (arc_in ids (symbol_of g r (position a)) (attribute a) (attribute b))
        ⊎ (set_number s (symbol_of g r (position a)) (attribute b) < set_number s (symbol_of g r (position a)) (attribute a))

  pub beside_find : (a b : ℕ) → T (beside_arc g ids s r a b) → BesideArc a b
  unfolding beside_arc
  beside_find a b t =
      let u = and_right _ _ t in
      let v = and_right _ _ u in
      let w = and_right _ _ v in
      record {
        source = and_left _ _ t;
        goal = and_left _ _ u;
        same = eqb→eq _ _ (and_left _ _ v);
        nonterminal_there = and_left _ _ w;
        arc = ⊎_elim (λ p. inl p) (λ p. inr (ltb→lt _ _ p)) (or_cases _ _ (and_right _ _ w));
      }

  -- an attribute of a higher set has an arc to each of a lower one at its position
  pub higher_arc : (a b : ℕ) → T (occurrence g r a) → T (occurrence g r b) → position a ≡ position b
      → T (nonterminal g (symbol_of g r (position a))) → set_at g s r b < set_at g s r a → T (edp g ids s r a b)
  unfolding edp beside_arc set_at
  higher_arc a b t u e n l =
      or_right _ _ (and_intro _ _ t (and_intro _ _ u (and_intro _ _ (eq_T _ _ e) (and_intro _ _ n
      (or_right _ _ (lt→ltb _ _ (subst⁻¹ (λ (i : ℕ). set_number s (symbol_of g r i) (attribute b) < set_at g s r a) e l)))))))

  module _ (h : Orderly g ids s r) where
    -- an occurrence's number is below 64
    pub fits : (o : ℕ) → T (occurrence g r o) → o < most_occurrences
    fits o t = occurrence_fits g r o (h.formed.rule r (counts_below g r h.counts)) t

    pub symbol_fits : (o : ℕ) → T (occurrence g r o) → symbol_of g r (position o) < symbols g
    symbol_fits o t = (h.formed.rule r (counts_below g r h.counts)).symbols_fit (position o) (occurs_inside g r o t)

    -- the left side is a nonterminal
    pub left_nonterminal_law : T (nonterminal g (symbol_of g r 0))
    left_nonterminal_law = eq_T _ _ (h.formed.rule r (counts_below g r h.counts)).left_nonterminal

    -- every EDP arc starts at an occurrence, and one to an occurrence that is not defining stays at its position
    pub arc_starts : (a b : ℕ) → T (edp g ids s r a b) → T (occurrence g r a)
    unfolding edp
    arc_starts a b t =
        ⊎_elim (λ u. dp_argument g h.formed r a b h.counts (dp_sound g r a b u)) (λ u. (beside_find a b u).source) (or_cases _ _ t)

    pub arc_beside : (a b : ℕ) → T (edp g ids s r a b) → (T (defining g r b) → ⊥) → BesideArc a b
    unfolding edp
    arc_beside a b t n =
        ⊎_elim (λ u. absurd (n (dp_target g h.formed r a b h.counts (dp_sound g r a b u)))) (λ u. beside_find a b u) (or_cases _ _ t)

    -- an arc beside does not lead to a higher set
    pub beside_down : (a b : ℕ) → BesideArc a b → set_at g s r b ≤ set_at g s r a
    unfolding set_at
    beside_down a b w =
        subst (λ (i : ℕ). set_number s (symbol_of g r i) (attribute b) ≤ set_number s (symbol_of g r (position a)) (attribute a)) w.same
        (⊎_elim
        (λ t.
        h.down (symbol_of g r (position a)) (attribute a) (attribute b) (symbol_fits a w.source) w.nonterminal_there
        (occurs_attribute g r a w.source)
        (subst⁻¹ (λ (i : ℕ). attribute b < attributes g (symbol_of g r i)) w.same (occurs_attribute g r b w.goal)) t)
        (λ l. omega arith) w.arc)

    pub placed_at : (o : ℕ) → T (occurrence g r o) → T (nonterminal g (symbol_of g r (position o)))
        → Placed g s (symbol_of g r (position o)) (attribute o)
    placed_at o t n = h.placed (symbol_of g r (position o)) (attribute o) (symbol_fits o t) n (occurs_attribute g r o t)

    -- a set number is 1 or more
    pub set_low : (o : ℕ) → T (occurrence g r o) → T (nonterminal g (symbol_of g r (position o))) → 1 ≤ set_at g s r o
    unfolding set_at
    set_low o t n = (placed_at o t n).low

    pub set_even : (o : ℕ) → T (occurrence g r o) → T (nonterminal g (symbol_of g r (position o))) → T (inherited_at g r o) → set_at g s r o % 2 ≡ 0
    unfolding set_at inherited_at
    set_even o t n c = inherited_even g (symbol_of g r (position o)) _ (attribute o) (placed_at o t n).class c

    pub set_odd : (o : ℕ) → T (occurrence g r o) → T (nonterminal g (symbol_of g r (position o))) → T (not (inherited_at g r o))
        → set_at g s r o % 2 ≡ 1
    unfolding set_at inherited_at
    set_odd o t n c = synthesized_odd g (symbol_of g r (position o)) _ (attribute o) (placed_at o t n).class c

    -- the set of an attribute of visit n
    pub set_inherited : (i n o : ℕ) → OfVisit g s r i n o → T (nonterminal g (symbol_of g r i)) → T (inherited_at g r o)
        → set_at g s r o ≡ 2 * (visits s (symbol_of g r i) + 1 - n)
    unfolding set_at inherited_at visit_at
    set_inherited i n o w m c =
        let there : T (nonterminal g (symbol_of g r (position o))) = subst⁻¹ (λ (j : ℕ). T (nonterminal g (symbol_of g r j))) w.stands m in
        inherited_set s (symbol_of g r (position o)) g (attribute o) n (omega arith) (placed_at o w.occurs there).class c w.visit_is
        ∙ ap (λ (j : ℕ). 2 * (visits s (symbol_of g r j) + 1 - n)) w.stands

    pub set_synthesized : (i n o : ℕ) → OfVisit g s r i n o → T (nonterminal g (symbol_of g r i)) → T (not (inherited_at g r o))
        → set_at g s r o ≡ 2 * (visits s (symbol_of g r i) + 1 - n) - 1
    unfolding set_at inherited_at visit_at
    set_synthesized i n o w m c =
        let there : T (nonterminal g (symbol_of g r (position o))) = subst⁻¹ (λ (j : ℕ). T (nonterminal g (symbol_of g r j))) w.stands m in
        synthesized_set s (symbol_of g r (position o)) g (attribute o) n (omega arith) (placed_at o w.occurs there).class c w.visit_is
        ∙ ap (λ (j : ℕ). 2 * (visits s (symbol_of g r j) + 1 - n) - 1) w.stands

    -- two occurrences of one position and one set are of one visit
    pub same_visit : (a b : ℕ) → position a ≡ position b → set_at g s r a ≡ set_at g s r b → visit_at g s r a ≡ visit_at g s r b
    unfolding set_at visit_at visit_of
    same_visit a b p e =
        ap (λ (k : ℕ). visit_of_set s (symbol_of g r (position a)) k) e
        ∙ ap (λ (j : ℕ). visit_of_set s (symbol_of g r j) (set_at g s r b)) p

    -- two attributes of one set are of one class
    pub same_synthesized : (a b : ℕ) → BesideArc a b → set_at g s r a ≡ set_at g s r b → T (not (inherited_at g r b)) → T (not (inherited_at g r a))
    same_synthesized a b w e t =
        not_T (inherited_at g r a) (λ u.
        omega (
          arith,
          set_even a w.source w.nonterminal_there u,
          set_odd b w.goal (subst (λ (j : ℕ). T (nonterminal g (symbol_of g r j))) w.same w.nonterminal_there) t,
        ))

    pub same_inherited : (a b : ℕ) → BesideArc a b → set_at g s r a ≡ set_at g s r b → T (inherited_at g r b) → T (inherited_at g r a)
    same_inherited a b w e t =
        ⊎_elim (λ u. u)
        (λ u.
        absurd (omega (
          arith,
          set_odd a w.source w.nonterminal_there u,
          set_even b w.goal (subst (λ (j : ℕ). T (nonterminal g (symbol_of g r j))) w.same w.nonterminal_there) t,
        )))
        (tested (inherited_at g r a))
