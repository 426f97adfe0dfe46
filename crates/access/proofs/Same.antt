-- What is said by place is what grammar's definitions say by number: rule r starts at word rule_at g r, and a set has a member where its test passes.
-- Assumes nothing.
use Prim.Native.Nat.{ℕ, zero, suc, ◌+◌, ◌^◌, ◌≤◌, ◌<◌}
use mathlib.Core.Path.{◌≡◌, refl, sym, ◌∙◌, ap, ap₂, fun_ext}
use mathlib.Core.Logic.{⊎_elim}
use mathlib.Core.Bool.{Bool, true, false, cond, not}
use mathlib.Core.List.{List}
use native.Mathlib.Omega.{arith}
use lib.Dec.{T, leb, ltb, eqb, leb→le, eqb→eq}
use lib.Pow.{pow_pos}
use borrow.Author.Tests.{eq-eqb, ne_eqb}
use Rattle.basics.specs.Tests.{◌and◌, ◌or◌, ◌implies◌, some}
use Rattle.basics.specs.Lists.{word}
use Rattle.basics.proofs.TestLaws.{all_at, all_intro, same_or_not, same_test, below_or_not, eq_T}
use Rattle.bits.specs.Bit.{bit, number, hasb, collect, remove}
use Rattle.bits.proofs.BitLaws.{bit_cases, bit_has, bit_lacks, bit_ext, bit_of_zero}
use Rattle.bits.proofs.CollectLaws.{bit_collect, bit_collect_above, collect_lt}
use Rattle.bits.proofs.SetLaws.{bit_remove_same, bit_remove_other, remove_lt}
use Rattle.refusals.specs.declared.Refusal.TheVariants.{NoOccurrence, NotDefining, Undefined}
use Rattle.grammar.specs.Limits.{longest_right, most_functions, last_operation}
use Rattle.grammar.specs.Table.{symbols, attributes, inherited, argument_words, is_constant, length_at, function_at, functions_at, function_of, functions, rule_at, right_length, symbol_of, target, operation, argument, occurrence, inherited_at, defining_class, defining, position, attribute}
use Rattle.grammar.specs.Verdicts.{Verdict, ◌then◌, unless, each}
use Rattle.grammar.specs.Reading.{present, ranged, left_fault, defined_below, argument_fault, function_fault, body_fault, complete, rule_before, rule_fault}
use Rattle.grammar.proofs.AcceptedSymbols.{ranged_passes}
use Rattle.access.specs.ByPlace.{symbol_from, occurrence_from, defining_from, occurrences_at, definings_at, left_from, symbol_test, argument_from, arguments_from, function_from, undefined_after, functions_from, body_from, rule_from, leaves}
use Rattle.access.proofs.Laws.{then_same, each_same}
use Rattle.access.proofs.Blocks.{past, past_defining}

-- ---- members of a collected set

number_one : (b : Bool) → eqb (number b) 1 ≡ b
number_one true = refl
number_one false = refl

pub has_collect : (w o : ℕ) (f : ℕ → Bool) → o < w → hasb o (collect w f) ≡ f o
has_collect w o f h = ap (λ (n : ℕ). eqb n 1) (bit_collect w o f h) ∙ number_one (f o)

-- of any number, where no number past the width passes
pub has_collect_any : (w o : ℕ) (f : ℕ → Bool) → (w ≤ o → f o ≡ false) → hasb o (collect w f) ≡ f o
has_collect_any w o f h =
    ⊎_elim (has_collect w o f) (λ l. bit_lacks o (collect w f) (bit_collect_above w o f l) ∙ sym (h l)) (below_or_not o w)

has_remove_same : (o s : ℕ) → hasb o (remove o s) ≡ false
has_remove_same o s = bit_lacks o (remove o s) (bit_remove_same o s)

has_remove_other : (o t s : ℕ) → (o ≡ t → ⊥) → hasb o (remove t s) ≡ hasb o s
has_remove_other o t s d = ap (λ (n : ℕ). eqb n 1) (bit_remove_other t o s d)

-- ---- the rule's parts

module _ (g : List ℕ) (r : ℕ) where
  pub symbol_same : (i : ℕ) → symbol_from g (rule_at g r) i ≡ symbol_of g r i
  unfolding symbol_from symbol_of
  symbol_same zero = refl
  symbol_same (suc i) = refl

  pub occurrence_same : (o : ℕ) → occurrence_from g (rule_at g r) o ≡ occurrence g r o
  unfolding occurrence_from occurrence right_length
  occurrence_same o =
      ap (λ (x : ℕ). leb (position o) (length_at g (rule_at g r)) and ltb (attribute o) (attributes g x)) (symbol_same (position o))

  pub defining_same : (o : ℕ) → defining_from g (rule_at g r) o ≡ defining g r o
  unfolding defining_from defining defining_class inherited_at
  defining_same o =
      ap₂ (λ (b : Bool) (x : ℕ). b and cond (eqb (position o) 0) (not (inherited g x (attribute o))) (inherited g x (attribute o)))
      (occurrence_same o) (symbol_same (position o))

  -- the sets that the code makes, as the sets of the rule's occurrences
  pub occurrences_same : occurrences_at g (rule_at g r) ≡ collect 64 (λ o. occurrence g r o)
  unfolding occurrences_at
  occurrences_same = ap (collect 64) (fun_ext occurrence_same)

  pub definings_same : definings_at g (rule_at g r) ≡ collect 64 (λ o. defining g r o)
  unfolding definings_at
  definings_same = ap (collect 64) (fun_ext defining_same)

  -- ---- what is left undefined

  all_and : (b : Bool) → b ≡ (b and not false)
  unfolding ◌and◌
  all_and true = refl
  all_and false = refl

  none_and : (b : Bool) → false ≡ (b and not true)
  unfolding ◌and◌
  none_and true = refl
  none_and false = refl

  or_true : (b : Bool) → (b or true) ≡ true
  unfolding ◌or◌
  or_true true = refl
  or_true false = refl

  or_false : (b : Bool) → (b or false) ≡ b
  unfolding ◌or◌
  or_false true = refl
  or_false false = refl

  pub undefined_same : (o k : ℕ) → hasb o (definings_at g (rule_at g r)) ≡ defining g r o
      → hasb o (undefined_after g (rule_at g r) k (definings_at g (rule_at g r))) ≡ (defining g r o and not (defined_below g r k o))
  unfolding undefined_after defined_below some target
  undefined_same o zero e = e ∙ all_and (defining g r o)
  undefined_same o (suc k) e =
      ⊎_elim
      (λ q.
      ap (λ (t : ℕ). hasb o (remove t (undefined_after g (rule_at g r) k (definings_at g (rule_at g r))))) (sym q)
      ∙ (has_remove_same o (undefined_after g (rule_at g r) k (definings_at g (rule_at g r)))
      ∙ (none_and (defining g r o)
      ∙ sym (ap (λ (b : Bool). defining g r o and not b)
      (ap (λ (b : Bool). some k (λ j. eqb (target g r j) o) or b) (eq-eqb (target g r k) o (sym q))
      ∙ or_true (some k (λ j. eqb (target g r j) o)))))))
      (λ d.
      has_remove_other o (target g r k) (undefined_after g (rule_at g r) k (definings_at g (rule_at g r))) d
      ∙ (undefined_same o k e
      ∙ sym (ap (λ (b : Bool). defining g r o and not b)
      (ap (λ (b : Bool). some k (λ j. eqb (target g r j) o) or b) (ne_eqb (target g r k) o (λ q. d (sym q)))
      ∙ or_false (some k (λ j. eqb (target g r j) o))))))
      (same_or_not o (target g r k))

  -- nothing is left exactly where the rule is complete
  undefined_lt : (k : ℕ) → undefined_after g (rule_at g r) k (definings_at g (rule_at g r)) < 2 ^ 64
  unfolding undefined_after definings_at
  undefined_lt zero = collect_lt 64 (λ o. defining_from g (rule_at g r) o)
  undefined_lt (suc k) = remove_lt 64 (word g (function_at g (rule_at g r) k)) _ (undefined_lt k)

  left_bit : (o : ℕ) → o < 64 → hasb o (leaves g (rule_at g r)) ≡ (defining g r o and not (defined_below g r (functions g r) o))
  unfolding functions definings_at
  left_bit o h =
      undefined_same o (functions_at g (rule_at g r)) (has_collect 64 o (λ o. defining_from g (rule_at g r) o) h ∙ defining_same o)

  implied : (d b : Bool) → T (d implies b) → (d and not b) ≡ false
  unfolding ◌implies◌ ◌and◌
  implied true true t = refl
  implied true false t = absurd t
  implied false b t = refl

  implies_so : (d b : Bool) → (d and not b) ≡ false → T (d implies b)
  unfolding ◌implies◌ ◌and◌
  implies_so true true e = tt
  implies_so true false e = let z : ◌≡◌ {A = ℕ} 1 0 = ap number e in absurd (omega arith)
  implies_so false b e = tt

  no_bit : (o s : ℕ) → hasb o s ≡ false → bit o s ≡ 0
  no_bit o s e =
      ⊎_elim (λ z. z) (λ l. absurd (let z : ◌≡◌ {A = ℕ} 0 1 = ap number (sym e ∙ bit_has o s l) in omega arith)) (bit_cases o s)

  pub complete_same : complete g r ≡ eqb (leaves g (rule_at g r)) 0
  unfolding complete
  complete_same =
      same_test (complete g r) (eqb (leaves g (rule_at g r)) 0)
      (λ t.
      eq_T (leaves g (rule_at g r)) 0
      (bit_ext 64 (leaves g (rule_at g r)) 0 (undefined_lt (functions_at g (rule_at g r))) (pow_pos 64)
      (λ o h.
      no_bit o (leaves g (rule_at g r))
      (left_bit o h
      ∙ implied (defining g r o) (defined_below g r (functions g r) o)
      (all_at 64 (λ o. defining g r o implies defined_below g r (functions g r) o) t o h))
      ∙ sym (bit_of_zero o))))
      (λ t.
      all_intro 64 (λ o. defining g r o implies defined_below g r (functions g r) o)
      (λ o h.
      implies_so (defining g r o) (defined_below g r (functions g r) o)
      (sym (left_bit o h)
      ∙ (ap (hasb o) (eqb→eq (leaves g (rule_at g r)) 0 t) ∙ bit_lacks o 0 (bit_of_zero o)))))

  -- ---- the tests

  left_same : left_from g (rule_at g r) ≡ left_fault g r
  unfolding left_from left_fault
  left_same = refl

  module _ (short : length_at g (rule_at g r) ≤ 7) where
    has_occurrence : (o : ℕ) → hasb o (occurrences_at g (rule_at g r)) ≡ occurrence g r o
    unfolding occurrences_at
    has_occurrence o =
        has_collect_any 64 o (λ o. occurrence_from g (rule_at g r) o) (λ l. past g (rule_at g r) o (omega arith)) ∙ occurrence_same o

    has_defining : (o : ℕ) → hasb o (definings_at g (rule_at g r)) ≡ defining g r o
    unfolding definings_at
    has_defining o =
        has_collect_any 64 o (λ o. defining_from g (rule_at g r) o) (λ l. past_defining g (rule_at g r) o (omega arith)) ∙ defining_same o

    function_same : (k : ℕ) → function_from g (function_of g r k) (occurrences_at g (rule_at g r))
        (undefined_after g (rule_at g r) k (definings_at g (rule_at g r))) ≡ function_fault g r k
    unfolding function_from function_fault arguments_from argument_from argument_fault target operation argument
    function_same k =
        let f = function_of g r k in
        ap₂
        (λ (occurs : ℕ → Bool) (defines : Bool).
        present g f then unless (occurs (word g f)) (NoOccurrence f) then unless defines (NotDefining f)
        then ranged g (f + 1) (leb (word g (f + 1)) last_operation)
        then each (argument_words (word g (f + 1)))
        (λ j. present g (f + 2 + j) then unless (is_constant (word g (f + 1)) or occurs (word g (f + 2 + j))) (NoOccurrence (f + 2 + j))))
        (fun_ext has_occurrence) (undefined_same (word g f) k (has_defining (word g f)))

  body_same : body_from g (rule_at g r) ≡ body_fault g r
  unfolding body_from body_fault functions_from symbol_test functions
  body_same =
      let p = rule_at g r in
      then_same (ranged g (p + 1) (leb (length_at g p) longest_right)) _ _
      (λ e.
      ap (λ (v : Verdict). each (length_at g p) (λ i. ranged g (p + 2 + i) (ltb (word g (p + 2 + i)) (symbols g)))
      then ranged g (p + 2 + length_at g p) (leb (functions_at g p) most_functions) then v)
      (each_same (functions_at g p) _ _
      (function_same (leb→le (length_at g p) longest_right (ranged_passes g (p + 1) (leb (length_at g p) longest_right) e)))))

  pub rule_same : (p undefined : ℕ) → p ≡ rule_at g r → rule_before g r ≡ unless (eqb undefined 0) (Undefined p)
      → rule_from g p undefined ≡ rule_fault g r
  unfolding rule_from rule_fault
  rule_same p undefined e h =
      ap₂ (λ (v w : Verdict). v then w) (ap (left_from g) e ∙ left_same)
      (ap₂ (λ (v w : Verdict). v then w) (sym h) (ap (body_from g) e ∙ body_same))
