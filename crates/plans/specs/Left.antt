-- Document 01, "Lent buffers": what stands in rows and plan after planning, in the paper's terms.
-- Assumes nothing.
use Rattle.std.specs.Prelude.{ℕ, suc, ◌+◌, ◌*◌, ◌≤◌, ◌<◌, ◌≡◌, ◌↔◌, List, T, length}
use Rattle.bits.specs.Bit.{bit}
use Rattle.basics.specs.Lists.{word}
use Rattle.grammar.specs.Limits.{most_occurrences, most_symbols, most_attributes, rule_words}
use Rattle.grammar.specs.Table.{rule_counts}
use Rattle.relations.specs.Paper.{Path⁺}
use Rattle.order.specs.Paper.{EDP}
use Rattle.sequences.specs.Paper.{Sequence}
use Rattle.plans.specs.Sequences.{sequence_length, action_at}

-- "bit b of row 64r + o says that a path of one arc or more leads from o to b", in a relation of rule r; "all other bits are 0"
abbrev pub RowsHold : List ℕ → List ℕ → (ℕ → ℕ → ℕ → Type 0) → Type 0
RowsHold g rows path =
    (r o b : ℕ) → T (rule_counts g r) → o < most_occurrences → (bit b (word rows (most_occurrences * r + o)) ≡ 1) ↔ path r o b

-- the paths of each rule's EDP over these sets
abbrev pub EDP⁺ : List ℕ → (ℕ → ℕ → ℕ) → ℕ → ℕ → ℕ → Type 0
EDP⁺ g set r o b = Path⁺ (EDP g set r) o b

-- "From 256 + 112r: length, actions, zeros"
pub record SequenceStands (plan : List ℕ) (r : ℕ) (out : List ℕ) : Type 0 where
  pub length_is : sequence_length plan r ≡ length out
  pub action_is : (j : ℕ) → j < length out → action_at plan r j ≡ word out j
  pub zeros : (j : ℕ) → length out ≤ j → suc j < rule_words → action_at plan r j ≡ 0

-- rows and plan of an accepted grammar, whose sets are these
pub record Written (g : List ℕ) (set : ℕ → ℕ → ℕ) (rows plan : List ℕ) : Type 0 where
  pub row_bits : RowsHold g rows (EDP⁺ g set)
  -- "Word 8x + a is the set number (0 for terminals and where nothing stands)."
  pub set_word : (x a : ℕ) → x < most_symbols → a < most_attributes → word plan (8 * x + a) ≡ set x a
  pub sequence : (r : ℕ) → T (rule_counts g r) → (out : List ℕ) → Sequence g set r out → SequenceStands plan r out

-- "Words beyond these sizes stay": there are as many words as before, and from word n on they are the same
pub record Beyond (n : ℕ) (lent left : List ℕ) : Type 0 where
  pub as_many : length left ≡ length lent
  pub stay : (j : ℕ) → n ≤ j → word left j ≡ word lent j
