-- What the planner's visit-sequence of one rule is made from, and where it is written: "From 256 + 112r: length, actions, zeros."
-- For proofs of the code: no demand rests on it. Assumes nothing.
use Rattle.std.specs.Prelude.{ℕ, ◌+◌, ◌≤◌, ◌<◌, ◌≡◌, List, ◌++◌, length, take, drop}
use Rattle.basics.specs.Lists.{word}
use Rattle.bits.specs.Bit.{collect}
use Rattle.grammar.specs.Limits.{most_occurrences, row_words}
use Rattle.grammar.specs.Verdicts.{Good}
use Rattle.grammar.specs.Table.{rules, rule_at}
use Rattle.grammar.specs.Reading.{read_table}
use Rattle.relations.specs.Computed.{ids_of}
use Rattle.sets.specs.Computed.{sets_of}
use Rattle.sets.specs.Visits.{set_number}
use Rattle.order.specs.Paper.{CircularIDP, Ordered}
use Rattle.plans.specs.Answer.{edp_paths}
use Rattle.remaining.specs.declared.ByVisit.{ByVisit as Kept}
use Rattle.remaining.specs.RuleSets.{ByVisit}

-- the set words of a table
abbrev pub set_words : List ℕ → List ℕ
set_words g = sets_of g (ids_of g)

-- What is known of rule r, which starts at word p: the table is accepted and ordered, s are its set words, by has them by visit, and the
-- rows of the rule hold the paths of its EDP.
pub record RuleGiven (g s : List ℕ) (by : Kept) (rows : List ℕ) (p r : ℕ) : Type 0 where
  pub good : read_table g ≡ Good
  pub counts : r < rules g
  pub starts : p ≡ rule_at g r
  pub sets : s ≡ set_words g
  pub by_visit : ByVisit g s by
  pub noncircular : CircularIDP g → ⊥
  pub ordered : Ordered g (set_number (set_words g))
  pub room : row_words (rules g) ≤ length rows
  pub paths : (o : ℕ) → o < most_occurrences → word rows (row_words r + o) ≡ collect most_occurrences (λ b. edp_paths g (ids_of g) (set_words g) r o b)

-- a plan with the words from one on replaced by a block, all others as they were
unfoldable pub with_block : List ℕ → ℕ → List ℕ → List ℕ
with_block plan at block = take at plan ++ (block ++ drop (at + length block) plan)
