-- The loop over the rules: after r of them the next starts where the definition says, the offsets of those before it stand in their places,
-- and the set says whether the rule just read is complete. Assumes nothing.
use Prim.Native.Nat.{ℕ, suc, ◌+◌, ◌*◌, ◌≤◌, ◌<◌}
use mathlib.Core.Path.{◌≡◌, refl, sym, ◌∙◌, ap, ap₂, subst⁻¹}
use mathlib.Core.Bool.{Bool}
use mathlib.Core.List.{List}
use native.Mathlib.Omega.{arith}
use native.Mathlib.Numerals.{add-one}
use lib.Dec.{leb, eqb}
use lib.ListN.{length, set, replicate}
use Rattle.std.specs.Prelude.{Result, Ok, Err, IsErrAnd}
use Rattle.basics.specs.Lists.{tabulate, padded}
use Rattle.basics.proofs.ListLaws.{padded_none, padded_more}
use Rattle.refusals.specs.declared.Refusal.{Refusal}
use Rattle.refusals.specs.declared.Refusal.TheVariants.{Undefined, LeftOver}
use Rattle.grammar.specs.Table.{symbols, rules, rule_at}
use Rattle.grammar.specs.Verdicts.{Verdict, Good, Refused, ◌then◌, unless, each}
use Rattle.grammar.specs.Reading.{symbol_fault, rule_before, rule_fault, left_over, read_table}
use Rattle.grammar.proofs.VerdictLaws.{handed_out, then_first, then_second, each_at}
use Rattle.grammar.proofs.AcceptedSymbols.{symbol_formed, header_symbols, header_rules}
use Rattle.access.specs.declared.Table.{Table}
use Rattle.access.specs.Offsets.{offsets_for}
use Rattle.access.specs.ByPlace.{Symbols, rule_from, next_rule, leaves}
use Rattle.access.proofs.Laws.{stops, passes, each_none, each_more, each_stop, each_end}
use Rattle.access.proofs.Same.{complete_same, rule_same}
use Rattle.reading.specs.declared.functions.RuleEnd.{RuleEnd}
use Rattle.reading.specs.Parts.{opening_fault, ending_fault, RulePasses, RuleRead, RulesRead, TableRead}
use Rattle.reading.proofs.ChainLaws.{then_group}

-- ---- the opening

-- header, symbols and start passed, so the rest answers
cut : (g : List ℕ) → read_table g
    ≡ opening_fault g then (each (rules g) (λ r. rule_fault g r) then rule_before g (rules g) then left_over g)
unfolding read_table opening_fault
cut g = then_group _ _ _ _

-- an opening that is refused answers for the table
pub opening_answers : (g : List ℕ) (u : Verdict) (r : Result Table Refusal) (m : Refusal) → u ≡ opening_fault g → u ≡ Refused m → IsErrAnd r (λ e. e ≡ m)
    → TableRead g r
opening_answers g u r m d h i = subst⁻¹ (TableRead g) (handed_out r m i) (sym (stops _ _ u m d h ∙ sym (cut g)) ∙ h)

pub opened : (g : List ℕ) (u : Verdict) → u ≡ opening_fault g → u ≡ Good → opening_fault g ≡ Good
opened g u d h = sym d ∙ h

module _ (g : List ℕ) (opens : opening_fault g ≡ Good) where
  pub symbols_formed : Symbols g
  unfolding opening_fault
  symbols_formed x l =
      symbol_formed g x (each_at (symbols g) (λ x. symbol_fault g x) (then_first _ _ (then_second _ _ opens)) x l)

  few_symbols : symbols g ≤ 32
  unfolding opening_fault
  few_symbols = (header_symbols g (then_first _ _ opens)).1

  few_rules : rules g ≤ 64
  unfolding opening_fault
  few_rules = (header_rules g (then_first _ _ opens)).1

-- ---- where the loop over n rules stands after r of them

pub record AtRule (g offsets : List ℕ) (n p undefined r : ℕ) : Type 0 where
  pub inside : r ≤ n
  pub few : n ≤ 64
  pub passed : each r (λ n. rule_fault g n) ≡ Good
  pub place : p ≡ rule_at g r
  pub before : rule_before g r ≡ unless (eqb undefined 0) (Undefined p)
  pub near : p ≤ 99 + 394 * r
  pub table : offsets ≡ padded 64 (tabulate r (λ n. rule_at g n))

pub start : (g : List ℕ) (n s : ℕ) → opening_fault g ≡ Good → n ≡ rules g → s ≡ symbols g → AtRule g (replicate 64 0) n (3 + 3 * s) 0 0
unfolding rule_at rule_before unless tabulate
start g n s opens d e =
    record {
      inside = omega arith;
      few = omega (arith, few_rules g opens);
      passed = each_none _;
      place = ap (λ (x : ℕ). 3 + 3 * x) e;
      before = refl;
      near = omega (arith, few_symbols g opens);
      table = sym (padded_none 64);
    }

module _ (g offsets : List ℕ) (n p undefined r : ℕ) (at : AtRule g offsets n p undefined r) where
  test : (v : Verdict) → v ≡ rule_from g p undefined → v ≡ rule_fault g r
  test v e = e ∙ rule_same g r p undefined at.place at.before

  pub turn : (rule : RuleEnd) → r < n → RulePasses g p (rule_from g p undefined) rule → AtRule g (set offsets r p) n rule.next rule.undefined (r + 1)
  unfolding rule_at rule_before
  turn rule h read =
      let moved : rule.next ≡ rule_at g (suc r) = read.goes ∙ ap (next_rule g) at.place in
      let kept : rule.undefined ≡ leaves g (rule_at g r) = read.left ∙ ap (leaves g) at.place in
      record {
        inside = omega arith;
        few = at.few;
        passed = each_more r (λ n. rule_fault g n) Good at.passed (test Good (sym read.passes)) refl;
        place = moved ∙ sym (ap (rule_at g) (add-one r));
        before =
            ap (rule_before g) (add-one r)
            ∙ ap₂ (λ (b : Bool) (q : ℕ). unless b (Undefined q)) (complete_same g r ∙ ap (λ (s : ℕ). eqb s 0) (sym kept)) (sym moved);
        near = omega (arith, at.near, read.near);
        table =
            ap₂ (λ (o : List ℕ) (q : ℕ). set o r q) at.table at.place ∙ padded_more 64 r (λ n. rule_at g n) (omega (arith, at.few));
      }

  module _ (opens : opening_fault g ≡ Good) (q : n ≡ rules g) where
    pub rule_stops : (s : Result (List ℕ) Refusal) (m : Refusal) → r < n → RuleRead g p (rule_from g p undefined) (Err m) → IsErrAnd s (λ e. e ≡ m)
        → RulesRead g s
    rule_stops s m h read i =
        subst⁻¹ (RulesRead g) (handed_out s m i)
        (sym (passes _ _ Good (Refused m) (sym opens) refl
        (stops _ _ (Refused m) m
        (each_stop (rules g) r (λ n. rule_fault g n) (Refused m) m (omega arith) at.passed (test (Refused m) (sym read)) refl) refl)
        ∙ sym (cut g)))

    module _ (l : n ≤ r) (w : Verdict) (e : w ≡ ending_fault g p undefined) where
      last : r ≡ rules g
      last = omega (arith, at.inside)

      ending : w ≡ read_table g
      unfolding ending_fault left_over
      ending =
          passes _ _ Good w (sym opens) refl
          (passes _ _ Good w (each_end (rules g) r (λ n. rule_fault g n) (omega arith) (omega arith) at.passed) refl
          (e
          ∙ ap₂ (λ (v u : Verdict). v then u) (sym at.before ∙ ap (rule_before g) last)
          (ap (λ (x : ℕ). unless (leb (length g) x) (LeftOver x)) (at.place ∙ ap (rule_at g) last))))
          ∙ sym (cut g)

      pub ending_stops : (s : Result (List ℕ) Refusal) (m : Refusal) → w ≡ Refused m → IsErrAnd s (λ e. e ≡ m) → RulesRead g s
      ending_stops s m i d = subst⁻¹ (RulesRead g) (handed_out s m d) (sym ending ∙ i)

      pub all_read : w ≡ Good → RulesRead g (Ok offsets)
      unfolding offsets_for
      all_read i = (sym ending ∙ i, at.table ∙ ap (λ (m : ℕ). padded 64 (tabulate m (λ n. rule_at g n))) last)
