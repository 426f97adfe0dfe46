-- A rule of an accepted table, found by its offset: it starts where the table says, its symbols and functions fit, and the set of its
-- occurrences has exactly them. Assumes nothing.
use Prim.Native.Nat.{ℕ, suc, ◌+◌, ◌*◌, ◌^◌, ◌≤◌, ◌<◌}
use mathlib.Core.Path.{◌≡◌, refl, sym, ◌∙◌, ap, subst, subst⁻¹}
use mathlib.Core.Bool.{Bool}
use mathlib.Core.List.{List}
use native.Mathlib.Omega.{arith}
use lib.Dec.{T, lt→ltb}
use lib.ListN.{get_or}
use Rattle.bits.specs.Bit.{hasb}
use Rattle.bits.proofs.CollectLaws.{collect_lt}
use Rattle.bits.proofs.MemberLaws.{hasb_collect, hasb_below}
use Rattle.grammar.specs.Verdicts.{Good}
use Rattle.grammar.specs.Table.{
  rules,
  attributes,
  length_at,
  function_at,
  functions_at,
  functions,
  rule_at,
  right_length,
  symbol_of,
  target,
  operation,
  argument,
  arguments,
  occurrence,
  rule_counts,
}
use Rattle.grammar.specs.Reading.{read_table}
use Rattle.grammar.specs.WellFormed.{WellFormed}
use Rattle.grammar.proofs.AcceptedTable.{accepted, defining_occurs}
use Rattle.grammar.proofs.RuleStarts.{functions_rise, rules_rise}
use Rattle.relations.specs.Paper.{DP, Stands}
use Rattle.relations.proofs.Occurrences.{occurs_below, dp_argument, stands_occurs}
use Rattle.access.specs.Offsets.{RuleOf}
use Rattle.access.specs.ByPlace.{occurrences_at}
use Rattle.access.proofs.Accessors.{symbol_at_rule, rule_starts, rule_near, rule_shaped}
use Rattle.access.proofs.Same.{occurrences_same}
use Rattle.inducing.specs.Arcs.{arguments_at, RuleArc, Ruled, FunctionsFit}
use Rattle.inducing.specs.Rules.{occurrences_of}

-- the set of a rule's occurrences
pub among_lt : (g : List ℕ) (r : ℕ) → occurrences_of g r < 2 ^ 64
among_lt g r = subst⁻¹ (λ (s : ℕ). s < 2 ^ 64) (occurrences_same g r) (collect_lt 64 (λ o. occurrence g r o))

pub among_small : (g : List ℕ) (r o : ℕ) → T (hasb o (occurrences_of g r)) → o < 64
among_small g r o t = hasb_below 64 o (occurrences_of g r) (among_lt g r) t

pub among_occurs : (g : List ℕ) (r o : ℕ) → T (hasb o (occurrences_of g r)) → T (occurrence g r o)
among_occurs g r o t =
    subst (λ (b : Bool). T b)
    (ap (λ (s : ℕ). hasb o s) (occurrences_same g r) ∙ hasb_collect 64 o (λ o. occurrence g r o) (among_small g r o t)) t

module _ (g : List ℕ) (good : read_table g ≡ Good) where
  formed : WellFormed g
  formed = accepted g good

  pub counts : (r : ℕ) → r < rules g → T (rule_counts g r)
  counts r h = lt→ltb r (rules g) h

  pub occurs_among : (r o : ℕ) → r < rules g → T (occurrence g r o) → T (hasb o (occurrences_of g r))
  occurs_among r o h t =
      subst⁻¹ (λ (b : Bool). T b)
      (ap (λ (s : ℕ). hasb o s) (occurrences_same g r)
      ∙ hasb_collect 64 o (λ o. occurrence g r o) (occurs_below g formed r o (counts r h) t)) t

  -- its functions speak of its occurrences
  rule_functions : (r : ℕ) → r < rules g → FunctionsFit g (rule_at g r) (occurrences_of g r)
  unfolding functions target argument arguments operation arguments_at rule_at function_at
  rule_functions r h k l =
      let w = formed.function r k h l in
      record {
        there =
            omega (arith, functions_rise g (rule_at g r) (suc k) (functions_at g (rule_at g r)) l, rules_rise g (suc r) (rules g) h, formed.ends);
        target_fits = occurs_among r (target g r k) h (defining_occurs g r (target g r k) w.target_defining);
        argument_fits = λ j m. occurs_among r (argument g r k j) h (w.argument_occurs j m);
      }

  -- DP of a rule is the arcs of its functions
  pub dp_arc : (r a b : ℕ) → DP g r a b → RuleArc g (rule_at g r) (functions_at g (rule_at g r)) a b
  unfolding functions target argument arguments operation arguments_at
  dp_arc r a b d =
      record {
        function = d.function;
        function_fits = d.function_fits;
        arc = record { place = d.place; place_fits = d.place_fits; argument = sym d.argument_is; target = sym d.target_is };
      }

  pub arc_dp : (r a b : ℕ) → RuleArc g (rule_at g r) (functions_at g (rule_at g r)) a b → DP g r a b
  unfolding functions target argument arguments operation arguments_at
  arc_dp r a b d =
      record {
        function = d.function;
        function_fits = d.function_fits;
        target_is = sym d.arc.target;
        place = d.arc.place;
        place_fits = d.arc.place_fits;
        argument_is = sym d.arc.argument;
      }

  pub dp_small : (r a b : ℕ) → r < rules g → DP g r a b → a < 64
  dp_small r a b h d = occurs_below g formed r a (counts r h) (dp_argument g formed r a b (counts r h) d)

  -- position i of a rule has its symbol
  pub standing : (r i : ℕ) → r < rules g → i ≤ right_length g r → Stands g r i (symbol_of g r i)
  standing r i h l = record { counts = counts r h; inside = l; symbol_is = refl }

  pub attribute_among : (r i a : ℕ) → r < rules g → i ≤ right_length g r → a < attributes g (symbol_of g r i) → T (hasb (8 * i + a) (occurrences_of g r))
  attribute_among r i a h l m =
      occurs_among r (8 * i + a) h (stands_occurs g formed r i (symbol_of g r i) a (standing r i h l) m)

-- what the steps ask of the rule that the offsets lead to
module _ (g offsets : List ℕ) (r : ℕ) (w : RuleOf g offsets r) (p : ℕ) (e : p ≡ get_or offsets r 0) where
  pub rule_ruled : Ruled g p
  unfolding right_length functions
  rule_ruled =
      let f : WellFormed g = accepted g w.good in
      let q : p ≡ rule_at g r = rule_starts g offsets r w p e in
      record {
        near = rule_near g offsets r w p e;
        shaped = rule_shaped g offsets r w p e;
        few = omega (arith, (f.rule r w.inside).functions_fit, ap (functions_at g) q);
        symbol_fits = λ i l.
            omega (
              arith,
              symbol_at_rule g r p q i,
              (f.rule r w.inside).symbols_fit i (omega (arith, ap (length_at g) q)),
              f.symbols_fit,
            );
      }

  pub rule_functions_fit : (among : ℕ) → among ≡ occurrences_at g p → FunctionsFit g p among
  rule_functions_fit among a =
      subst⁻¹ (λ (s : ℕ). FunctionsFit g p s) a
      (subst⁻¹ (λ (q : ℕ). FunctionsFit g q (occurrences_at g q)) (rule_starts g offsets r w p e) (rule_functions g w.good r w.inside))
