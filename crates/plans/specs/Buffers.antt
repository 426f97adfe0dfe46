-- Document 01, "Lent buffers": the words of rows and plan.
-- Computed: no demand rests on it. Assumes nothing.
use Rattle.std.specs.Prelude.{ℕ, Bool, List, ◌∷◌, ◌++◌, length, drop}
use Rattle.bits.specs.Bit.{collect}
use Rattle.basics.specs.Lists.{tabulate, blocks, padded}
use Rattle.grammar.specs.Limits.{most_occurrences, rule_words}
use Rattle.grammar.specs.Table.{rules}

-- a buffer whose first words are written and whose others stay
unfoldable pub over : {A : Type 0} → List A → List A → List A
over written lent = written ++ drop (length written) lent

-- "bit b of row 64r + o says that a path of one arc or more leads from o to b in rule r; all other bits are 0"
unfoldable pub rows_of : List ℕ → (ℕ → ℕ → ℕ → Bool) → List ℕ
rows_of g paths =
    blocks (rules g) (λ r. tabulate most_occurrences (λ o. collect most_occurrences (λ b. paths r o b)))

-- "From 256 + 112r: length, actions, zeros"
unfoldable pub sequence_words : List ℕ → List ℕ
sequence_words actions = padded rule_words (length actions ∷ actions)

-- the words of a plan: the set words s, then the words of each rule's sequence
unfoldable pub plan_of : List ℕ → List ℕ → (ℕ → List ℕ) → List ℕ
plan_of g s sequence = s ++ blocks (rules g) (λ r. sequence_words (sequence r))
