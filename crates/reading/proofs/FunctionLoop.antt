-- The loop over a rule's functions: after k of them the next starts where the definition says, and the set holds what they left undefined.
-- Assumes nothing.
use Prim.Native.Nat.{ℕ, ◌+◌, ◌*◌, ◌^◌, ◌≤◌, ◌<◌}
use mathlib.Core.Path.{◌≡◌, refl, sym, ◌∙◌, ap, ap₂, subst, subst⁻¹}
use mathlib.Core.Logic.{⊎_elim}
use mathlib.Core.Bool.{Bool}
use mathlib.Core.List.{List}
use native.Mathlib.Omega.{arith}
use native.Mathlib.Numerals.{add-one}
use lib.Dec.{T}
use lib.ListN.{length, get_or}
use Rattle.std.specs.Prelude.{Result, Ok, Err, IsErrAnd}
use Rattle.basics.proofs.TestLaws.{below_or_not}
use Rattle.bits.specs.Bit.{hasb, remove}
use Rattle.refusals.specs.declared.Refusal.{Refusal}
use Rattle.refusals.specs.declared.Refusal.TheVariants.{NoOccurrence}
use Rattle.grammar.specs.Table.{function_at, functions_at}
use Rattle.grammar.specs.Verdicts.{Verdict, Good, Refused, each}
use Rattle.grammar.proofs.AcceptedSymbols.{ranged_there}
use Rattle.grammar.proofs.VerdictLaws.{handed_out, then_first, then_second, unless_passes}
use Rattle.access.specs.ByPlace.{next_function, function_from, undefined_after, functions_from}
use Rattle.access.proofs.Laws.{each_none, each_more, each_stop, each_end, member_past}
use Rattle.reading.specs.declared.functions.RuleEnd.{RuleEnd}
use Rattle.reading.specs.Parts.{FunctionRead, FunctionsPass, FunctionsRead}

-- the operation of a function that passes is there
pub operation_there : (g : List ℕ) (f occurrences undefined : ℕ) (v : Verdict) → v ≡ function_from g f occurrences undefined → v ≡ Good → f + 1 < length g
unfolding function_from
operation_there g f occurrences undefined v e k =
    ranged_there g (f + 1) _ (then_first _ _ (then_second _ _ (then_second _ _ (then_second _ _ (sym e ∙ k)))))

-- and its target is there and below 64
module _ (g : List ℕ) (f occurrences undefined n : ℕ) (e : FunctionRead g f occurrences undefined (Ok n)) where
  pub target_there : f < length g
  target_there = omega (arith, operation_there g f occurrences undefined _ refl e.0)

  pub target_fits : (w : ℕ) → occurrences < 2 ^ 64 → w ≡ get_or g f 0 → w < 64
  unfolding function_from
  target_fits w h d =
      let t : T (hasb (get_or g f 0) occurrences) = unless_passes _ (NoOccurrence f) (then_first _ _ (then_second _ _ e.0)) in
      ⊎_elim (λ l. l)
      (λ l. absurd (subst (λ (b : Bool). T b) (sym (member_past (get_or g f 0) occurrences h (omega arith))) t)) (below_or_not w 64)

-- where the loop over n functions stands after k of them
pub record AtFunction (g : List ℕ) (p occurrences defining n f undefined k : ℕ) : Type 0 where
  pub inside : k ≤ n
  pub passed : each k (λ j. function_from g (function_at g p j) occurrences (undefined_after g p j defining)) ≡ Good
  pub place : f ≡ function_at g p k
  pub left : undefined ≡ undefined_after g p k defining
  pub near : f ≤ 131075 + 6 * k

module _ (g : List ℕ) (p occurrences defining n : ℕ) where
  pub start : (f : ℕ) → f ≡ function_at g p 0 → f < 131075 → AtFunction g p occurrences defining n f defining 0
  unfolding undefined_after
  start f e h = record { inside = omega arith; passed = each_none _; place = e; left = refl; near = omega arith }

  module _ (f undefined k : ℕ) (at : AtFunction g p occurrences defining n f undefined k) where
    test : (v : Verdict) → v ≡ function_from g f occurrences undefined
        → v ≡ function_from g (function_at g p k) occurrences (undefined_after g p k defining)
    test v e = e ∙ ap₂ (λ (x y : ℕ). function_from g x occurrences y) at.place at.left

    pub turn : (m w rest : ℕ) → k < n → FunctionRead g f occurrences undefined (Ok m) → w ≡ get_or g f 0
        → rest ≡ remove w undefined → AtFunction g p occurrences defining n (f + m) rest (k + 1)
    unfolding undefined_after function_at
    turn m w rest l e d r =
        let next : f + m ≡ next_function g f = omega (arith, e.1) in
        record {
          inside = omega arith;
          passed =
              each_more k (λ j. function_from g (function_at g p j) occurrences (undefined_after g p j defining)) _ at.passed (test _ refl) e.0;
          place = next ∙ (ap (next_function g) at.place ∙ sym (ap (function_at g p) (add-one k)));
          left =
              r
              ∙ (ap₂ remove (d ∙ ap (λ (x : ℕ). get_or g x 0) at.place) at.left
              ∙ sym (ap (λ (j : ℕ). undefined_after g p j defining) (add-one k)));
          near = omega (arith, at.near, e.2);
        }

    module _ (q : n ≡ functions_at g p) where
      pub stop : (r : Result RuleEnd Refusal) (m : Refusal) → k < n → FunctionRead g f occurrences undefined (Err m) → IsErrAnd r (λ e. e ≡ m)
          → FunctionsRead g p occurrences defining r
      unfolding functions_from
      stop r m h e d =
          subst⁻¹ (FunctionsRead g p occurrences defining) (handed_out r m d)
          (sym (each_stop (functions_at g p) k
          (λ j. function_from g (function_at g p j) occurrences (undefined_after g p j defining)) (Refused m) m (omega arith) at.passed
          (test (Refused m) (sym e)) refl))

      pub ends : n ≤ k → FunctionsPass g p occurrences defining (record { next = f; undefined = undefined })
      unfolding functions_from
      ends l =
          let last : k ≡ functions_at g p = omega (arith, at.inside) in
          record {
            passes =
                sym (each_end (functions_at g p) k
                (λ j. function_from g (function_at g p j) occurrences (undefined_after g p j defining)) (omega arith) (omega arith) at.passed);
            goes = at.place ∙ ap (function_at g p) last;
            left = at.left ∙ ap (λ (j : ℕ). undefined_after g p j defining) last;
          }
