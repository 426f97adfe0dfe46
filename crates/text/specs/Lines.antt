-- Lines of a word and numbers: single blanks between them, a line feed at the end. Bytes are numbers.
-- Assumes nothing.
use Rattle.std.specs.Prelude.{ℕ, zero, suc, ◌+◌, ◌/◌, ◌%◌, cond, List, [], ◌∷◌, ◌++◌, ltb}

-- the decimal digits of a number that has at most so many
unfoldable pub digits : ℕ → ℕ → List ℕ
digits zero n = []
digits (suc k) n = let before = digits k (n / 10) in cond (ltb n 10) ((48 + n) ∷ []) (before ++ ((48 + n % 10) ∷ []))

-- a number of a listing has at most twenty digits
unfoldable pub decimal : ℕ → List ℕ
decimal n = digits 20 n

-- each number with a blank before it
unfoldable pub spaced : List ℕ → List ℕ
spaced [] = []
spaced (n ∷ ns) = 32 ∷ (decimal n ++ spaced ns)

-- a line: a word, the numbers, a line feed
unfoldable pub line : List ℕ → List ℕ → List ℕ
line word ns = word ++ (spaced ns ++ (10 ∷ []))

-- the words of the listing
abbrev pub plan_word : List ℕ
plan_word = 112 ∷ 108 ∷ 97 ∷ 110 ∷ []

abbrev pub symbol_word : List ℕ
symbol_word = 115 ∷ []

abbrev pub rule_word : List ℕ
rule_word = 114 ∷ []

abbrev pub refused_word : List ℕ
refused_word = 114 ∷ 101 ∷ 102 ∷ 117 ∷ 115 ∷ 101 ∷ 100 ∷ []
