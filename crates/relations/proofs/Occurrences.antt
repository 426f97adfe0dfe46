-- Occurrences of a rule: number 8i + a is attribute a at position i, and the listed occurrences are all of them.
-- DP as it is computed is DP, from an occurrence to a defining one. Assumes nothing.
use Prim.Native.Nat.{ℕ, ◌≤◌, ◌<◌}
use mathlib.Core.Path.{◌≡◌, refl, ◌∙◌, ap, subst}
use mathlib.Core.Logic.{◌↔◌}
use mathlib.Core.List.{List}
use native.Mathlib.Omega.{arith}
use lib.Dec.{T, eqb→eq, leb→le, le→leb, ltb→lt, lt→ltb}
use Rattle.basics.specs.Lists.{member}
use Rattle.basics.proofs.TestLaws.{and_intro, and_left, and_right, some_at, some_find, eq_T}
use Rattle.basics.proofs.ListLaws.{member_passing, passing_member}
use Rattle.grammar.specs.Limits.{most_occurrences, most_attributes}
use Rattle.grammar.specs.Table.{
  symbols,
  rules,
  attributes,
  right_length,
  symbol_of,
  occurrence,
  occurrence_of,
  position,
  attribute,
  defining,
  rule_counts,
}
use Rattle.grammar.specs.WellFormed.{WellFormed}
use Rattle.grammar.proofs.AcceptedTable.{occurrence_fits}
use Rattle.relations.specs.Paper.{DP, Stands}
use Rattle.relations.specs.Computed.{dp, occurrences}

-- 8i + a stands at position i, and is attribute a there
pub position_of : (i a : ℕ) → a < most_attributes → position (occurrence_of i a) ≡ i
position_of i a h = omega arith

pub attribute_of : (i a : ℕ) → a < most_attributes → attribute (occurrence_of i a) ≡ a
attribute_of i a h = omega arith

-- each number is attribute o % 8 at position o / 8
pub occurrence_is : (o : ℕ) → o ≡ occurrence_of (position o) (attribute o)
occurrence_is o = omega arith

module _ (g : List ℕ) where
  -- a rule that counts is a rule of the table
  pub counts_below : (r : ℕ) → T (rule_counts g r) → r < rules g
  counts_below r t = ltb→lt r (rules g) t

  -- an occurrence stands inside its rule
  pub occurs_inside : (r o : ℕ) → T (occurrence g r o) → position o ≤ right_length g r
  unfolding occurrence
  occurs_inside r o t = leb→le (position o) (right_length g r) (and_left _ _ t)

  -- and is an attribute of the symbol that it stands at
  pub occurs_attribute : (r o : ℕ) → T (occurrence g r o) → attribute o < attributes g (symbol_of g r (position o))
  unfolding occurrence
  occurs_attribute r o t = ltb→lt (attribute o) (attributes g (symbol_of g r (position o))) (and_right _ _ t)

  -- where an occurrence stands
  pub occurs_stands : (r o : ℕ) → T (rule_counts g r) → T (occurrence g r o) → Stands g r (position o) (symbol_of g r (position o))
  occurs_stands r o c t = record { counts = c; inside = occurs_inside r o t; symbol_is = refl }

  -- the computed DP is DP
  pub dp_sound : (r a b : ℕ) → T (dp g r a b) → DP g r a b
  unfolding dp
  dp_sound r a b t =
      let k = some_find _ _ t in
      let j = some_find _ _ (and_right _ _ k.2) in
      record {
        function = k.0;
        function_fits = k.1;
        target_is = eqb→eq _ _ (and_left _ _ k.2);
        place = j.0;
        place_fits = j.1;
        argument_is = eqb→eq _ _ j.2;
      }

  pub dp_complete : (r a b : ℕ) → DP g r a b → T (dp g r a b)
  unfolding dp
  dp_complete r a b d =
      some_at _ _ d.function d.function_fits
      (and_intro _ _ (eq_T _ _ d.target_is) (some_at _ _ d.place d.place_fits (eq_T _ _ d.argument_is)))

  module _ (w : WellFormed g) where
    -- the target of a DP arc is a defining occurrence, its argument an occurrence
    pub dp_target : (r a b : ℕ) → T (rule_counts g r) → DP g r a b → T (defining g r b)
    dp_target r a b c d =
        subst (λ (o : ℕ). T (defining g r o)) d.target_is
        (w.function r d.function (counts_below r c) d.function_fits).target_defining

    pub dp_argument : (r a b : ℕ) → T (rule_counts g r) → DP g r a b → T (occurrence g r a)
    dp_argument r a b c d =
        subst (λ (o : ℕ). T (occurrence g r o)) d.argument_is
        ((w.function r d.function (counts_below r c) d.function_fits).argument_occurs d.place d.place_fits)

    -- a symbol that stands in a rule is a symbol of the table
    pub stands_symbol : (r i x : ℕ) → Stands g r i x → x < symbols g
    stands_symbol r i x s =
        subst (λ (y : ℕ). y < symbols g) s.symbol_is ((w.rule r (counts_below r s.counts)).symbols_fit i s.inside)

    -- an attribute's number is below 8
    pub attribute_fits : (x a : ℕ) → x < symbols g → a < attributes g x → a < most_attributes
    attribute_fits x a h l = omega (arith, (w.symbol x h).attributes_fit)

    -- 8i + a stands at the symbol of position i
    pub symbol_at : (r i x a : ℕ) → Stands g r i x → a < attributes g x → symbol_of g r (position (occurrence_of i a)) ≡ x
    symbol_at r i x a s l =
        ap (λ (j : ℕ). symbol_of g r j) (position_of i a (attribute_fits x a (stands_symbol r i x s) l)) ∙ s.symbol_is

    -- attribute a of the symbol at position i is an occurrence of the rule
    pub stands_occurs : (r i x a : ℕ) → Stands g r i x → a < attributes g x → T (occurrence g r (occurrence_of i a))
    unfolding occurrence
    stands_occurs r i x a s l =
        let h : a < most_attributes = attribute_fits x a (stands_symbol r i x s) l in
        let inside : position (occurrence_of i a) ≤ right_length g r = omega (arith, s.inside) in
        let fits : attribute (occurrence_of i a) < attributes g (symbol_of g r (position (occurrence_of i a))) =
        omega (arith, ap (λ (y : ℕ). attributes g y) (symbol_at r i x a s l)) in
        and_intro _ _ (le→leb _ _ inside) (lt→ltb _ _ fits)

    -- an occurrence of a rule that counts is below 64
    pub occurs_below : (r o : ℕ) → T (rule_counts g r) → T (occurrence g r o) → o < most_occurrences
    occurs_below r o c t = occurrence_fits g r o (w.rule r (counts_below r c)) t

    -- the listed occurrences are the occurrences
    pub occurrences_exact : (r o : ℕ) → T (rule_counts g r) → T (member o (occurrences g r)) ↔ T (occurrence g r o)
    unfolding occurrences
    occurrences_exact r o c =
        (λ m. (passing_member _ _ o m).1, λ t. member_passing _ _ o (occurs_below r o c t) t)
