-- The sequences as they stand in the words of a plan: "From 256 + 112r: length, actions, zeros".
-- Assumes nothing.
use Rattle.std.specs.Prelude.{ℕ, ◌+◌, ◌*◌, List}
use Rattle.basics.specs.Lists.{word}
use Rattle.grammar.specs.Limits.{set_words, rule_words}

abbrev pub sequence_at : ℕ → ℕ
sequence_at r = set_words + rule_words * r

-- the length of rule r's sequence, and its action j, from 0
unfoldable pub sequence_length : List ℕ → ℕ → ℕ
sequence_length p r = word p (sequence_at r)

unfoldable pub action_at : List ℕ → ℕ → ℕ → ℕ
action_at p r j = word p (sequence_at r + 1 + j)
