-- The computed EDP and its paths are exactly those of the paper, for every table that the reader accepts and any set numbers.
-- Assumes nothing.
use Prim.Native.Nat.{ℕ, ◌<◌}
use mathlib.Core.Path.{◌≡◌, sym, ◌∙◌, ap, subst⁻¹}
use mathlib.Core.Logic.{◌↔◌, ⊎_elim}
use mathlib.Core.List.{List}
use native.Mathlib.Omega.{arith}
use lib.Dec.{T, ltb, ltb→lt, lt→ltb, eqb→eq}
use Rattle.basics.specs.Tests.{◌or◌}
use Rattle.basics.proofs.TestLaws.{and_intro, and_left, and_right, or_left, or_right, or_cases, eq_T}
use Rattle.grammar.specs.Limits.{most_attributes}
use Rattle.grammar.specs.Verdicts.{Good}
use Rattle.grammar.specs.Table.{symbols, kind, attributes, symbol_of, occurrence, position, attribute, rule_counts}
use Rattle.grammar.specs.Reading.{read_table}
use Rattle.grammar.specs.WellFormed.{WellFormed}
use Rattle.grammar.proofs.AcceptedTable.{accepted, defining_occurs}
use Rattle.relations.specs.Paper.{Path⁺}
use Rattle.relations.specs.Computed.{arc_in, ids_of, occurrences}
use Rattle.relations.proofs.PathLaws.{path_sound, path_complete, path_map}
use Rattle.relations.proofs.Occurrences.{
  occurrence_is,
  position_of,
  attribute_of,
  occurs_attribute,
  occurs_stands,
  dp_sound,
  dp_complete,
  dp_argument,
  dp_target,
  stands_symbol,
  attribute_fits,
  stands_occurs,
  occurrences_exact,
}
use Rattle.relations.proofs.ExactIdp.{ids_exact}
use Rattle.sets.specs.Visits.{set_number}
use Rattle.order.specs.Paper.{Beside, EDP}
use Rattle.order.specs.Computed.{beside_arc, edp, edp_path}

module _ (g : List ℕ) (good : read_table g ≡ Good) (s : List ℕ) (r : ℕ) (c : T (rule_counts g r)) where
  -- two occurrences at one nonterminal position are attributes beside each other
  beside_of : (a b : ℕ) → T (occurrence g r a) → T (occurrence g r b) → position a ≡ position b → kind g (symbol_of g r (position a)) ≡ 0
      → Beside g r (position a) (symbol_of g r (position a)) (attribute a) (attribute b) a b
  beside_of a b t u e k =
      record {
        stands = occurs_stands g r a c t;
        nonterminal_there = k;
        first_fits = occurs_attribute g r a t;
        second_fits = subst⁻¹ (λ (i : ℕ). attribute b < attributes g (symbol_of g r i)) e (occurs_attribute g r b u);
        first_is = occurrence_is a;
        second_is = omega arith;
      }

  beside_sound : (a b : ℕ) → T (beside_arc g (ids_of g) s r a b) → EDP g (set_number s) r a b
  unfolding beside_arc
  beside_sound a b t =
      let x = symbol_of g r (position a) in
      let t₁ = and_right _ _ t in
      let t₂ = and_right _ _ t₁ in
      let t₃ = and_right _ _ t₂ in
      let w = beside_of a b (and_left _ _ t) (and_left _ _ t₁) (eqb→eq _ _ (and_left _ _ t₂)) (eqb→eq (kind g x) 0 (and_left _ _ t₃)) in
      ⊎_elim
      (λ i. EDP.within (position a) x (attribute a) (attribute b) w ((ids_exact g good x (attribute a) (attribute b) (omega arith)).0 i))
      (λ l. EDP.higher (position a) x (attribute a) (attribute b) w (ltb→lt _ _ l)) (or_cases _ _ (and_right _ _ t₃))

  edp_sound : (a b : ℕ) → T (edp g (ids_of g) s r a b) → EDP g (set_number s) r a b
  unfolding edp
  edp_sound a b t = ⊎_elim (λ d. EDP.direct (dp_sound g r a b d)) (λ d. beside_sound a b d) (or_cases _ _ t)

  -- where two attributes stand beside each other, the computed test looks at the same symbol and attributes
  beside_complete : (i x a b m n : ℕ) → Beside g r i x a b m n → T (arc_in (ids_of g) x a b or ltb (set_number s x b) (set_number s x a))
      → T (beside_arc g (ids_of g) s r m n)
  unfolding beside_arc
  beside_complete i x a b m n w t =
      let wf : WellFormed g = accepted g good in
      let h : x < symbols g = stands_symbol g wf r i x w.stands in
      let la : a < most_attributes = attribute_fits g wf x a h w.first_fits in
      let lb : b < most_attributes = attribute_fits g wf x b h w.second_fits in
      let pm : position m ≡ i = ap position w.first_is ∙ position_of i a la in
      let pn : position n ≡ i = ap position w.second_is ∙ position_of i b lb in
      let am : attribute m ≡ a = ap attribute w.first_is ∙ attribute_of i a la in
      let an : attribute n ≡ b = ap attribute w.second_is ∙ attribute_of i b lb in
      let sx : symbol_of g r (position m) ≡ x = ap (λ (j : ℕ). symbol_of g r j) pm ∙ w.stands.symbol_is in
      and_intro _ _ (subst⁻¹ (λ (o : ℕ). T (occurrence g r o)) w.first_is (stands_occurs g wf r i x a w.stands w.first_fits))
      (and_intro _ _ (subst⁻¹ (λ (o : ℕ). T (occurrence g r o)) w.second_is (stands_occurs g wf r i x b w.stands w.second_fits))
      (and_intro _ _ (eq_T _ _ (pm ∙ sym pn))
      (and_intro _ _ (eq_T _ _ (ap (kind g) sx ∙ w.nonterminal_there))
      (subst⁻¹ (λ (p : ℕ). T (arc_in (ids_of g) (symbol_of g r (position m)) p (attribute n) or ltb (set_number s (symbol_of g r (position m)) (attribute n)) (set_number s (symbol_of g r (position m)) p))) am
      (subst⁻¹ (λ (q : ℕ). T (arc_in (ids_of g) (symbol_of g r (position m)) a q or ltb (set_number s (symbol_of g r (position m)) q) (set_number s (symbol_of g r (position m)) a))) an
      (subst⁻¹ (λ (y : ℕ). T (arc_in (ids_of g) y a b or ltb (set_number s y b) (set_number s y a))) sx t))))))

  edp_complete : (a b : ℕ) → EDP g (set_number s) r a b → T (edp g (ids_of g) s r a b)
  unfolding edp
  edp_complete m n (EDP.direct d) = or_left _ _ (dp_complete g r m n d)
  edp_complete m n (EDP.within i x a b w e) =
      let wf : WellFormed g = accepted g good in
      or_right _ _
      (beside_complete i x a b m n w
      (or_left _ _
      ((ids_exact g good x a b (attribute_fits g wf x b (stands_symbol g wf r i x w.stands) w.second_fits)).1 e)))
  edp_complete m n (EDP.higher i x a b w l) =
      or_right _ _ (beside_complete i x a b m n w (or_right (arc_in (ids_of g) x a b) _ (lt→ltb _ _ l)))

  -- the computed EDP is the paper's
  pub edp_exact : (a b : ℕ) → T (edp g (ids_of g) s r a b) ↔ EDP g (set_number s) r a b
  edp_exact a b = (edp_sound a b, edp_complete a b)

  -- an EDP arc leads from an occurrence to an occurrence
  pub edp_from : (a b : ℕ) → EDP g (set_number s) r a b → T (occurrence g r a)
  edp_from a b (EDP.direct d) = dp_argument g (accepted g good) r a b c d
  edp_from m n (EDP.within i x a b w e) =
      subst⁻¹ (λ (o : ℕ). T (occurrence g r o)) w.first_is (stands_occurs g (accepted g good) r i x a w.stands w.first_fits)
  edp_from m n (EDP.higher i x a b w e) =
      subst⁻¹ (λ (o : ℕ). T (occurrence g r o)) w.first_is (stands_occurs g (accepted g good) r i x a w.stands w.first_fits)

  pub edp_to : (a b : ℕ) → EDP g (set_number s) r a b → T (occurrence g r b)
  edp_to a b (EDP.direct d) = defining_occurs g r b (dp_target g (accepted g good) r a b c d)
  edp_to m n (EDP.within i x a b w e) =
      subst⁻¹ (λ (o : ℕ). T (occurrence g r o)) w.second_is (stands_occurs g (accepted g good) r i x b w.stands w.second_fits)
  edp_to m n (EDP.higher i x a b w e) =
      subst⁻¹ (λ (o : ℕ). T (occurrence g r o)) w.second_is (stands_occurs g (accepted g good) r i x b w.stands w.second_fits)

  -- the computed paths of EDP are the paper's
  pub edp_path_exact : (a b : ℕ) → T (edp_path g (ids_of g) s r a b) ↔ Path⁺ (EDP g (set_number s) r) a b
  unfolding edp_path
  edp_path_exact a b = (
    λ t. path_map edp_sound (path_sound _ (occurrences g r) a b t),
    λ p.
        path_complete (λ c d. edp g (ids_of g) s r c d) (occurrences g r)
        (λ m n t. (occurrences_exact g (accepted g good) r m c).1 (edp_from m n (edp_sound m n t))) (path_map edp_complete p),
  )
