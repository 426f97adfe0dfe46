-- The limits that document 01 sets once and that a later request may move. Every other definition cites these.
-- Assumes nothing.
use Rattle.std.specs.Prelude.{ℕ, ◌+◌, ◌*◌, ◌-◌}

-- "number of symbols S (1..32)"
abbrev pub most_symbols : ℕ
most_symbols = 32

-- "number of rules R (1..64)"
abbrev pub most_rules : ℕ
most_rules = 64

-- "attribute count (0..8)"
abbrev pub most_attributes : ℕ
most_attributes = 8

-- "right length n (0..7)"
abbrev pub longest_right : ℕ
longest_right = 7

-- "number of functions (0..64)"
abbrev pub most_functions : ℕ
most_functions = 64

-- the operations are numbered 0 to 8
abbrev pub last_operation : ℕ
last_operation = 8

-- occurrences are numbered below 64: eight positions of eight attributes
abbrev pub most_occurrences : ℕ
most_occurrences = 64

-- "Plan: 16-bit words, at least 256 + 112R": the set words, and the words of a rule
abbrev pub set_words : ℕ
set_words = 256

abbrev pub rule_words : ℕ
rule_words = 112

-- "length, actions, zeros": a rule's words have room for this many actions
abbrev pub longest_sequence : ℕ
longest_sequence = rule_words - 1

-- the words of a whole plan of R rules
abbrev pub plan_words : ℕ → ℕ
plan_words r = set_words + rule_words * r

-- "Rows: 64-bit words, at least 64R"
abbrev pub row_words : ℕ → ℕ
row_words r = most_occurrences * r

-- "no table exceeds 25,315 words"
abbrev pub longest_table : ℕ
longest_table = 25315
