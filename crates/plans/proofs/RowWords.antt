-- The rows of a whole grammar, word by word: row o of rule r is word 64r + o, and the words past the last rule are as they were lent.
-- Assumes nothing.
use Prim.Native.Nat.{ℕ, ◌+◌, ◌-◌, ◌≤◌, ◌<◌}
use mathlib.Core.Path.{◌≡◌, ◌∙◌, ap}
use mathlib.Core.Bool.{Bool}
use mathlib.Core.List.{List}
use native.Mathlib.Omega.{arith}
use native.Mathlib.Nat.{mul_comm}
use lib.ListN.{length, drop, length-append, length-drop, get_or-append}
use lib.Seq.{get_or-drop}
use Rattle.bits.specs.Bit.{collect}
use Rattle.basics.specs.Lists.{word, tabulate}
use Rattle.basics.proofs.ListLaws.{get_d_past, length_tabulate, get_d_tabulate, length_blocks, get_d_blocks}
use Rattle.grammar.specs.Limits.{most_occurrences, row_words}
use Rattle.grammar.specs.Table.{rules}
use Rattle.plans.specs.Buffers.{over, rows_of}

-- what is written over the start of a buffer leaves its length and the words behind it
pub over_size : (a lent : List ℕ) → length a ≤ length lent → length (over a lent) ≡ length lent
unfolding over
over_size a lent h = omega (arith, length-append a (drop (length a) lent), length-drop (length a) lent)

pub over_past : (a lent : List ℕ) (j : ℕ) → length a ≤ j → word (over a lent) j ≡ word lent j
unfolding over
over_past a lent j h =
    let n : ℕ = length a in
    let e : n + (j - n) ≡ j = omega arith in
    get_d_past a (drop n lent) 0 j h ∙ (get_or-drop n lent (j - n) 0 ∙ ap (λ (i : ℕ). word lent i) e)

module _ (g : List ℕ) (paths : ℕ → ℕ → ℕ → Bool) where
  block : ℕ → List ℕ
  block r = tabulate most_occurrences (λ o. collect most_occurrences (λ b. paths r o b))

  block_length : (r : ℕ) → length (block r) ≡ most_occurrences
  unfolding block
  block_length r = length_tabulate most_occurrences (λ o. collect most_occurrences (λ b. paths r o b))

  pub rows_length_law : length (rows_of g paths) ≡ row_words (rules g)
  unfolding rows_of block
  rows_length_law = length_blocks most_occurrences (rules g) (λ r. block r) (λ r h. block_length r) ∙ mul_comm (rules g) most_occurrences

  -- row o of rule r
  rows_word : (r o : ℕ) → r < rules g → o < most_occurrences → word (rows_of g paths) (row_words r + o) ≡ collect most_occurrences (λ b. paths r o b)
  unfolding rows_of block
  rows_word r o h l =
      ap (λ (n : ℕ). word (rows_of g paths) (n + o)) (mul_comm most_occurrences r)
      ∙ (get_d_blocks most_occurrences (rules g) (λ r. block r) 0 (λ r h. block_length r) r o h l
      ∙ get_d_tabulate most_occurrences (λ o. collect most_occurrences (λ b. paths r o b)) 0 o l)

  module _ (lent : List ℕ) where
    pub over_length : row_words (rules g) ≤ length lent → length (over (rows_of g paths) lent) ≡ length lent
    over_length h = over_size (rows_of g paths) lent (omega (arith, rows_length_law))

    pub over_row : (r o : ℕ) → r < rules g → o < most_occurrences
        → word (over (rows_of g paths) lent) (row_words r + o) ≡ collect most_occurrences (λ b. paths r o b)
    unfolding over
    over_row r o h l =
        get_or-append (rows_of g paths) (drop (length (rows_of g paths)) lent) 0 (row_words r + o) (omega (arith, rows_length_law)) ∙ rows_word r o h l

    pub over_rest : (j : ℕ) → row_words (rules g) ≤ j → word (over (rows_of g paths) lent) j ≡ word lent j
    over_rest j h = over_past (rows_of g paths) lent j (omega (arith, rows_length_law))
