-- The rows of all rules of a grammar while they grow: between a relation that they have and one that they stay within.
-- For proofs of the code: no demand rests on it. Assumes nothing.
use Rattle.std.specs.Prelude.{ℕ, ◌+◌, ◌*◌, ◌/◌, ◌%◌, ◌≤◌, ◌<◌, ◌≡◌, ◌⊎◌, List, T, length, take, drop}
use Rattle.bits.specs.Bit.{hasb}
use Rattle.basics.specs.Lists.{word}
use Rattle.grammar.specs.Table.{rules, rule_at}
use Rattle.relations.specs.Paper.{DP, IDS, IDP⁺}
use Rattle.access.specs.ByPlace.{occurrences_at}
use Rattle.closing.specs.Rows.{leads, Kept}
use Rattle.inducing.specs.Closes.{Closes}

-- the occurrences of rule r, as a set
abbrev pub occurrences_of : List ℕ → ℕ → ℕ
occurrences_of g r = occurrences_at g (rule_at g r)

-- the rows of rule r among those of all rules
abbrev pub rule_rows : List ℕ → ℕ → List ℕ
rule_rows rows r = take 64 (drop (64 * r) rows)

-- arcs added to the rows of rule r, which stay closed; every other word stays
pub record RuleCloses (before : List ℕ) (r among : ℕ) (arc : ℕ → ℕ → Type 0) (after : List ℕ) : Type 0 where
  pub size : length after ≡ length before
  pub outside : (j : ℕ) → (j < 64 * r) ⊎ (64 * r + 64 ≤ j) → word after j ≡ word before j
  pub closes : Closes (rule_rows before r) among arc (rule_rows after r)

-- the rows of every rule are closed, have the arcs of one relation and only arcs of another
pub record Holds (g : List ℕ) (lower upper : ℕ → ℕ → ℕ → Type 0) (rows : List ℕ) : Type 0 where
  pub room : 64 * rules g ≤ length rows
  pub kept : (r : ℕ) → r < rules g → Kept (rule_rows rows r) (occurrences_of g r)
  pub has : (r a b : ℕ) → r < rules g → lower r a b → (a < 64) × T (leads (rule_rows rows r) a b)
  pub within : (r o x : ℕ) → r < rules g → o < 64 → T (leads (rule_rows rows r) o x) → upper r o x

-- the words past the last rule's stay
pub record Frame (g before after : List ℕ) : Type 0 where
  pub size : length after ≡ length before
  pub rest : (j : ℕ) → 64 * rules g ≤ j → word after j ≡ word before j

-- the first words are 0 and the others stay
pub record Cleared (n : ℕ) (before after : List ℕ) : Type 0 where
  pub size : length after ≡ length before
  pub zero : (j : ℕ) → j < n → word after j ≡ 0
  pub rest : (j : ℕ) → n ≤ j → word after j ≡ word before j

-- DP of the first n rules is there and every path is one of IDP; every arc is one of IDS
abbrev pub Induced : List ℕ → ℕ → List ℕ → Type 0
Induced g n rows = Holds g (λ r a b. (r < n) × DP g r a b) (λ r a b. IDP⁺ g r a b) rows

abbrev pub Arcs : List ℕ → List ℕ → Type 0
Arcs g ids = (x k : ℕ) → T (hasb k (word ids x)) → IDS g x (k / 8) (k % 8)

-- what holds of the rows and the state while arcs are induced
pub record Standing (g : List ℕ) (n : ℕ) (rows ids : List ℕ) : Type 0 where
  pub holds : Induced g n rows
  pub sized : length ids ≡ 32
  pub arcs : Arcs g ids
