-- A rule that is read: its symbols are well formed once its shape passed, and what it hands on follows from its functions.
-- Assumes nothing.
use Prim.Native.Nat.{ℕ, zero, suc, ◌+◌, ◌≤◌, ◌<◌}
use mathlib.Core.Path.{◌≡◌, sym, ◌∙◌, ap, ap₂, subst⁻¹}
use mathlib.Core.List.{List}
use native.Mathlib.Omega.{arith}
use lib.Dec.{leb, ltb, eqb, ltb→lt, leb→le}
use Rattle.std.specs.Prelude.{Result, Ok, Err, IsErrAnd}
use Rattle.basics.specs.Lists.{word}
use Rattle.refusals.specs.declared.Refusal.{Refusal}
use Rattle.refusals.specs.declared.Refusal.TheVariants.{Undefined}
use Rattle.grammar.specs.Table.{symbols, length_at, functions_at}
use Rattle.grammar.specs.Verdicts.{Verdict, Good, Refused, ◌then◌, unless}
use Rattle.grammar.specs.WellFormed.{SymbolFormed}
use Rattle.grammar.proofs.VerdictLaws.{handed_out, then_first, then_second, each_at}
use Rattle.grammar.proofs.AcceptedSymbols.{ranged_passes}
use Rattle.grammar.proofs.RuleStarts.{functions_bound}
use Rattle.access.specs.ByPlace.{symbol_from, occurrences_at, definings_at, Shaped, Symbols, left_from, symbol_test, undefined_after, functions_from, body_from, rule_from}
use Rattle.access.proofs.Laws.{stops, passes}
use Rattle.reading.specs.declared.functions.RuleEnd.{RuleEnd}
use Rattle.reading.specs.Parts.{shape_fault, FunctionsRead, RuleRead}
use Rattle.reading.proofs.ChainLaws.{then_group}

-- a left symbol that passes is a symbol of the table
pub left_symbol_law : (g : List ℕ) (p : ℕ) (v : Verdict) → v ≡ left_from g p → v ≡ Good → word g p < symbols g
unfolding left_from
left_symbol_law g p v e h =
    ltb→lt (word g p) (symbols g) (ranged_passes g p (ltb (word g p) (symbols g)) (then_first _ _ (sym e ∙ h)))

-- a rule is refused where one of its tests is
stopped : (g : List ℕ) (p : ℕ) (tests : Verdict) (r : Result RuleEnd Refusal) (m : Refusal) → tests ≡ Refused m → IsErrAnd r (λ e. e ≡ m)
    → RuleRead g p tests r
stopped g p tests r m e d = subst⁻¹ (RuleRead g p tests) (handed_out r m d) e

-- ---- the body: its shape, then its functions

module _ (g : List ℕ) (p : ℕ) (u : Verdict) (d : u ≡ shape_fault g p) where
  cut : body_from g p ≡ shape_fault g p then functions_from g p (occurrences_at g p) (definings_at g p)
  unfolding body_from shape_fault
  cut = then_group _ _ _ _

  pub shape_stops : (r : Result RuleEnd Refusal) (m : Refusal) → u ≡ Refused m → IsErrAnd r (λ e. e ≡ m) → RuleRead g p (body_from g p) r
  shape_stops r m h i = stopped g p (body_from g p) r m (sym (stops _ _ u m d h ∙ sym cut) ∙ h) i

  module _ (h : u ≡ Good) where
    short : length_at g p ≤ 7
    unfolding shape_fault
    short = leb→le (length_at g p) 7 (ranged_passes g (p + 1) (leb (length_at g p) 7) (then_first _ _ (sym d ∙ h)))

    pub few_functions : functions_at g p ≤ 64
    unfolding shape_fault
    few_functions = leb→le (functions_at g p) 64 (ranged_passes g _ (leb (functions_at g p) 64) (then_second _ _ (then_second _ _ (sym d ∙ h))))

    pub shaped : Symbols g → word g p < symbols g → Shaped g p
    unfolding symbol_from symbol_test shape_fault
    shaped all left = record { short = short; formed = at }
      where
        at : (i : ℕ) → i ≤ length_at g p → SymbolFormed g (symbol_from g p i)
        at zero q = all (word g p) left
        at (suc i) q =
            all (word g (p + 2 + i))
            (ltb→lt (word g (p + 2 + i)) (symbols g)
            (ranged_passes g (p + 2 + i) (ltb (word g (p + 2 + i)) (symbols g))
            (each_at (length_at g p) (λ i. symbol_test g (p + 2 + i)) (then_first _ _ (then_second _ _ (sym d ∙ h))) i (omega arith))))

    pub functions_answer : (occurrences defining : ℕ) (r : Result RuleEnd Refusal) → occurrences ≡ occurrences_at g p
        → defining ≡ definings_at g p → FunctionsRead g p occurrences defining r → RuleRead g p (body_from g p) r
    functions_answer occurrences defining (Ok rule) a b read =
        record {
          passes = sym (passes _ _ u Good d h (sym read.passes ∙ ap₂ (functions_from g p) a b) ∙ sym cut);
          goes = read.goes;
          left = read.left ∙ ap (undefined_after g p (functions_at g p)) b;
          near = omega (arith, functions_bound g p (functions_at g p), read.goes, short, few_functions);
        }
    functions_answer occurrences defining (Err m) a b read =
        sym (passes _ _ u (Refused m) d h (sym read ∙ ap₂ (functions_from g p) a b) ∙ sym cut)

-- ---- the rule: its left symbol, the rule before it, then its body

module _ (g : List ℕ) (p undefined : ℕ) (u : Verdict) (d : u ≡ left_from g p) where
  pub left_stops : (r : Result RuleEnd Refusal) (m : Refusal) → u ≡ Refused m → IsErrAnd r (λ e. e ≡ m) → RuleRead g p (rule_from g p undefined) r
  unfolding rule_from
  left_stops r m h i = stopped g p (rule_from g p undefined) r m (sym (stops _ _ u m d h) ∙ h) i

  module _ (v : Verdict) (h : u ≡ Good) (e : v ≡ unless (eqb undefined 0) (Undefined p)) where
    pub before_stops : (r : Result RuleEnd Refusal) (m : Refusal) → v ≡ Refused m → IsErrAnd r (λ e. e ≡ m) → RuleRead g p (rule_from g p undefined) r
    unfolding rule_from
    before_stops r m l i = stopped g p (rule_from g p undefined) r m (sym (passes _ _ u v d h (stops _ _ v m e l)) ∙ l) i

    pub body_answers : (r : Result RuleEnd Refusal) → v ≡ Good → RuleRead g p (body_from g p) r → RuleRead g p (rule_from g p undefined) r
    unfolding rule_from
    body_answers (Ok rule) l read =
        record {
          passes = sym (passes _ _ u Good d h (passes _ _ v Good e l (sym read.passes)));
          goes = read.goes;
          left = read.left;
          near = read.near;
        }
    body_answers (Err m) l read = sym (passes _ _ u (Refused m) d h (passes _ _ v (Refused m) e l (sym read)))
