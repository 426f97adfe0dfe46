-- The value of the function at a word, by its operation: each of its arguments is read, and no other counts.
-- Where the word is that of function k of the rule at a node, it is the value that the equations of the tree give. Assumes nothing.
use Prim.Native.Nat.{ℕ, ◌+◌, ◌*◌, ◌%◌, ◌^◌, ◌≤◌, ◌<◌}
use mathlib.Core.Path.{◌≡◌, sym, ◌∙◌, ap, subst⁻¹}
use mathlib.Core.Bool.{not}
use mathlib.Core.List.{List}
use native.Mathlib.Omega.{arith}
use lib.Dec.{T, ltb, leb, eqb, lt→ltb, leb→le, le→leb, not_T, eqb→eq}
use lib.IntN.{ℤ, pos}
use lib.Signed.{mag}
use borrow.Author.Tests.{le-ltb}
use mir.Syntax.{w32}
use mir.Val.{to_z, of_z}
use mir.Facts.{to_z-of_z}
use Rattle.basics.specs.Lists.{word}
use Rattle.basics.proofs.TestLaws.{eq_T, chosen, passed_over, false_T}
use Rattle.values.specs.Value.{result, constant}
use Rattle.values.proofs.LocalLaws.{handed_on, past}
use Rattle.grammar.specs.Table.{argument_words, is_constant, function_of, operation, argument, arguments, position}
use Rattle.trees.specs.Tree.{rule_of, node_at, cell}
use Rattle.trees.specs.Equations.{value_at, argument_value, function_value}
use Rattle.trees.proofs.Cells.{cell_is}
use Rattle.evaluating.specs.FunctionPlaces.{operation_at, argument_at, arguments_at, occurrence_value, argument_given, value_from, Named}

-- ---- a value in the machine is read back whole

pub kept : {r z : ℤ} → mag r < 2 ^ 31 → r ≡ z → to_z w32 (of_z w32 r) ≡ z
kept h e = to_z-of_z {w = w32} (record { sfits = h }) ∙ e

-- a cell, from the node at the occurrence's position
pub cell_from : (t : List ℕ) (n o m : ℕ) → m ≡ node_at t n (position o) → 8 * m + o % 8 ≡ cell t n o
cell_from t n o m e = ap (λ (x : ℕ). 8 * x + o % 8) e ∙ sym (cell_is t n o)

-- the occurrence that a word names: its cell is one of the values, and holds its value
pub named_cell : {g t : List ℕ} {q n l o c : ℕ} → Named g q t n l → o ≡ word g q → c ≡ cell t n o → c < l
named_cell {g} {t} {q} {n} {l} w e d = subst⁻¹ (λ (x : ℕ). x < l) (d ∙ ap (cell t n) e) w.in_values

pub named_value : (t : List ℕ) (values : List ℤ) (n w : ℕ) {o c : ℕ} → o ≡ w → c ≡ cell t n o → mag (value_at values c) < 2 ^ 31
    → to_z w32 (of_z w32 (value_at values c)) ≡ occurrence_value t values n w
named_value t values n w e d l = kept l (ap (value_at values) d ∙ ap (λ (x : ℕ). occurrence_value t values n x) e)

-- the constant of the function at word f
pub named_constant : (g : List ℕ) (f : ℕ) {r : ℤ} → r ≡ constant (word g (f + 2)) → mag r < 2 ^ 31
    → to_z w32 (of_z w32 r) ≡ constant (argument_at g f 0)
named_constant g f h l = let i : f + 2 ≡ f + 2 + 0 = omega arith in kept l (h ∙ ap (λ (p : ℕ). constant (word g p)) i)

-- ---- how many words the arguments of an operation are

pub words_one : (op : ℕ) → op ≤ 1 → argument_words op ≡ 1
unfolding argument_words
words_one op h = chosen (leb op 1) _ _ (le→leb op 1 h)

over : (op k : ℕ) → k < op → T (not (leb op k))
over op k h = not_T (leb op k) (λ t. omega (arith, leb→le op k t))

pub words_two : (op : ℕ) → 1 < op → op ≤ 6 → argument_words op ≡ 2
unfolding argument_words
words_two op h l = passed_over (leb op 1) _ _ (over op 1 h) ∙ chosen (leb op 6) _ _ (le→leb op 6 l)

pub words_three : (op : ℕ) → op ≡ 7 → argument_words op ≡ 3
unfolding argument_words
words_three op h = ap argument_words h

pub words_four : (op : ℕ) → 7 < op → argument_words op ≡ 4
unfolding argument_words
words_four op h =
    passed_over (leb op 1) _ _ (over op 1 (omega arith))
    ∙ (passed_over (leb op 6) _ _ (over op 6 (omega arith))
    ∙ passed_over (eqb op 7) _ _ (not_T (eqb op 7) (λ t. omega (arith, eqb→eq op 7 t))))

module _ (g t : List ℕ) (values : List ℤ) (n f : ℕ) where
  -- ---- the arguments

  constant_argument : (j : ℕ) → operation_at g f ≡ 0 → argument_given g t values n f j ≡ constant (argument_at g f 0)
  unfolding argument_given
  constant_argument j e = chosen (is_constant (operation_at g f)) _ _ (eq_T (operation_at g f) 0 e)

  no_constant : 1 ≤ operation_at g f → T (not (is_constant (operation_at g f)))
  no_constant h = not_T (is_constant (operation_at g f)) (λ u. omega (arith, eqb→eq (operation_at g f) 0 u))

  arguments_words : 1 ≤ operation_at g f → arguments_at g f ≡ argument_words (operation_at g f)
  arguments_words h = passed_over (is_constant (operation_at g f)) _ _ (no_constant h)

  -- an argument that the operation has is the value of its occurrence
  given_argument : (j q : ℕ) → 1 ≤ operation_at g f → j < argument_words (operation_at g f) → f + 2 + j ≡ q
      → argument_given g t values n f j ≡ occurrence_value t values n (word g q)
  unfolding argument_given
  given_argument j q h l e =
      passed_over (is_constant (operation_at g f)) _ _ (no_constant h)
      ∙ (chosen (ltb j (arguments_at g f)) _ _ (lt→ltb j (arguments_at g f) (omega (arith, arguments_words h)))
      ∙ ap (λ (p : ℕ). occurrence_value t values n (word g p)) e)

  -- one that it does not have is 0
  absent_argument : (j : ℕ) → 1 ≤ operation_at g f → argument_words (operation_at g f) ≤ j → argument_given g t values n f j ≡ pos 0
  unfolding argument_given
  absent_argument j h l =
      passed_over (is_constant (operation_at g f)) _ _ (no_constant h)
      ∙ passed_over (ltb j (arguments_at g f)) _ _ (false_T _ (le-ltb j (arguments_at g f) (omega (arith, arguments_words h))))

  -- ---- the value, by the operation

  from_arguments : {op : ℕ} {x y z u : ℤ} → op ≡ operation_at g f → x ≡ argument_given g t values n f 0 → y ≡ argument_given g t values n f 1
      → z ≡ argument_given g t values n f 2 → u ≡ argument_given g t values n f 3 → result op x y z u ≡ value_from g t values n f
  unfolding value_from
  from_arguments e a b c d = λ i. result (e i) (a i) (b i) (c i) (d i)

  -- operation 0 hands on its constant
  pub constant_value : {op : ℕ} {r : ℤ} → op ≡ operation_at g f → op ≡ 0 → r ≡ constant (argument_at g f 0) → mag r < 2 ^ 31
      → to_z w32 (of_z w32 r) ≡ value_from g t values n f
  constant_value {op} {r} e h q l =
      let o : operation_at g f ≡ 0 = sym e ∙ h in
      handed_on op r r r (record { sfits = l }) (omega arith)
      ∙ from_arguments e (q ∙ sym (constant_argument 0 o)) (q ∙ sym (constant_argument 1 o)) (q ∙ sym (constant_argument 2 o))
      (q ∙ sym (constant_argument 3 o))

  -- operation 1 hands on its argument
  pub one_value : {op : ℕ} {x : ℤ} → op ≡ operation_at g f → op ≡ 1 → x ≡ occurrence_value t values n (word g (f + 2)) → mag x < 2 ^ 31
      → to_z w32 (of_z w32 x) ≡ value_from g t values n f
  one_value {op} {x} e h q l =
      let w : argument_words (operation_at g f) ≡ 1 = words_one (operation_at g f) (omega arith) in
      handed_on op (pos 0) (pos 0) (pos 0) (record { sfits = l }) (omega arith)
      ∙ from_arguments e (q ∙ sym (given_argument 0 (f + 2) (omega arith) (omega arith) (omega arith))) (sym (absent_argument 1 (omega arith) (omega arith)))
      (sym (absent_argument 2 (omega arith) (omega arith))) (sym (absent_argument 3 (omega arith) (omega arith)))

  module _ {op : ℕ} {x y : ℤ} (e : op ≡ operation_at g f) (above : 1 < op)
      (a : x ≡ occurrence_value t values n (word g (f + 2))) (a' : mag x < 2 ^ 31)
      (b : y ≡ occurrence_value t values n (word g (f + 3))) (b' : mag y < 2 ^ 31) where
    first : 0 < argument_words (operation_at g f) → to_z w32 (of_z w32 x) ≡ argument_given g t values n f 0
    first h = kept a' (a ∙ sym (given_argument 0 (f + 2) (omega arith) h (omega arith)))

    second : 1 < argument_words (operation_at g f) → to_z w32 (of_z w32 y) ≡ argument_given g t values n f 1
    second h = kept b' (b ∙ sym (given_argument 1 (f + 3) (omega arith) h (omega arith)))

    -- operations of two arguments
    pub two_value : {r : ℤ} → op ≤ 6 → r ≡ result op (to_z w32 (of_z w32 x)) (to_z w32 (of_z w32 y)) (pos 0) (pos 0)
        → mag r < 2 ^ 31 → to_z w32 (of_z w32 r) ≡ value_from g t values n f
    two_value h q l =
        let w : argument_words (operation_at g f) ≡ 2 = words_two (operation_at g f) (omega arith) (omega arith) in
        kept l (q ∙ from_arguments e (first (omega arith)) (second (omega arith)) (sym (absent_argument 2 (omega arith) (omega arith)))
        (sym (absent_argument 3 (omega arith) (omega arith))))

    module _ {z : ℤ} (c : z ≡ occurrence_value t values n (word g (f + 4))) (c' : mag z < 2 ^ 31) where
      third : 2 < argument_words (operation_at g f) → to_z w32 (of_z w32 z) ≡ argument_given g t values n f 2
      third h = kept c' (c ∙ sym (given_argument 2 (f + 4) (omega arith) h (omega arith)))

      -- of three
      pub three_value : {r : ℤ} → op ≡ 7 → r ≡ result op (to_z w32 (of_z w32 x)) (to_z w32 (of_z w32 y)) (to_z w32 (of_z w32 z)) (pos 0)
          → mag r < 2 ^ 31 → to_z w32 (of_z w32 r) ≡ value_from g t values n f
      three_value h q l =
          let w : argument_words (operation_at g f) ≡ 3 = words_three (operation_at g f) (omega arith) in
          kept l (q ∙ from_arguments e (first (omega arith)) (second (omega arith)) (third (omega arith))
          (sym (absent_argument 3 (omega arith) (omega arith))))

      -- of four
      pub four_value : {u r : ℤ} → u ≡ occurrence_value t values n (word g (f + 5)) → mag u < 2 ^ 31 → 7 < op
          → r ≡ result op (to_z w32 (of_z w32 x)) (to_z w32 (of_z w32 y)) (to_z w32 (of_z w32 z)) (to_z w32 (of_z w32 u))
          → mag r < 2 ^ 31 → to_z w32 (of_z w32 r) ≡ value_from g t values n f
      four_value d d' h q l =
          let w : argument_words (operation_at g f) ≡ 4 = words_four (operation_at g f) (omega arith) in
          kept l (q ∙ from_arguments e (first (omega arith)) (second (omega arith)) (third (omega arith))
          (kept d' (d ∙ sym (given_argument 3 (f + 5) (omega arith) (omega arith) (omega arith)))))

-- the operation that no arm of the eight names
pub from_eight : {op : ℕ} → (op ≡ 0 → ⊥) → (op ≡ 1 → ⊥) → (op ≡ 2 → ⊥) → (op ≡ 3 → ⊥) → (op ≡ 4 → ⊥) → (op ≡ 5 → ⊥) → (op ≡ 6 → ⊥) → (op ≡ 7 → ⊥)
    → 8 ≤ op
from_eight a b c d e f g h = past 7 (past 6 (past 5 (past 4 (past 3 (past 2 (past 1 (past 0 (omega arith) a) b) c) d) e) f) g) h

-- ---- the same by number

-- function k of the rule at node n, by the word at which it starts
pub by_number : (g t : List ℕ) (values : List ℤ) (n k f : ℕ) → f ≡ function_of g (rule_of t n) k → value_from g t values n f ≡ function_value g t values n k
unfolding value_from argument_given function_value argument_value operation argument arguments
by_number g t values n k f e = ap (λ (x : ℕ). value_from g t values n x) e
