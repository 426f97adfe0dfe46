-- Where each rule of a table starts, which `access::Table` has beside the words; and a rule of an accepted table, with these offsets at hand.
-- Computed: no demand rests on it. Assumes nothing.
use Rattle.std.specs.Prelude.{ℕ, ◌<◌, ◌≡◌, List, replicate, Ok, Err}
use Rattle.basics.specs.Lists.{tabulate, padded}
use Rattle.grammar.specs.Verdicts.{Verdict, Good}
use Rattle.grammar.specs.Limits.{most_rules}
use Rattle.grammar.specs.Table.{rules, rule_at}
use Rattle.grammar.specs.Reading.{read_table}

-- the first word of each rule, zeros where there is no rule, and zeros for a table that is refused
unfoldable pub offsets_for : List ℕ → Verdict → List ℕ
offsets_for g (Ok _) = padded most_rules (tabulate (rules g) (λ r. rule_at g r))
offsets_for g (Err n) = replicate most_rules 0

-- rule r of an accepted table, with the offsets of its rules
pub record RuleOf (g offsets : List ℕ) (r : ℕ) : Type 0 where
  pub good : read_table g ≡ Good
  pub offsets_are : offsets ≡ offsets_for g Good
  pub inside : r < rules g
