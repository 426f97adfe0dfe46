-- A list of words in which word 64 r + o says where the function of occurrence o of rule r starts.
-- For proofs of the code: no demand rests on it. Assumes nothing.
use Rattle.std.specs.Prelude.{ℕ, ◌+◌, ◌*◌, ◌<◌, ◌≡◌, List, length}
use Rattle.basics.specs.Lists.{word}
use Rattle.grammar.specs.Limits.{most_occurrences, most_rules}
use Rattle.grammar.specs.Table.{rules, functions, target, function_of}

-- a word for each occurrence of each rule
abbrev pub start_words : ℕ
start_words = most_occurrences * most_rules

-- the functions of rule r stand there
abbrev pub HasRule : List ℕ → List ℕ → ℕ → Type 0
HasRule g starts r = (k : ℕ) → k < functions g r → word starts (most_occurrences * r + target g r k) ≡ function_of g r k

-- so do those of every rule
abbrev pub Located : List ℕ → List ℕ → Type 0
Located g starts = (r : ℕ) → r < rules g → HasRule g starts r

-- the functions of rule r are put in, and those of the rules before it stay
pub record RuleLocated (g : List ℕ) (r : ℕ) (before after : List ℕ) : Type 0 where
  pub size : length after ≡ start_words
  pub here : HasRule g after r
  pub stays : (i : ℕ) → i < most_occurrences * r → word after i ≡ word before i
