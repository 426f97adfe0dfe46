-- The search goes through the rules and in each through its occurrences, and is left at the first that leads back to itself. So every rule
-- before it has no cycle, and no lower occurrence of its rule lies on one.
use borrow.Author.Rules.{rules}
use Rattle.inducing.proofs.CycleLaws.{row_start, row_passed, rules_start, rule_passed, search_none, search_found}
use Rattle.inducing.proofs.find_cycle.Goals as goal

pub search-init : goal.search-init
search-init c = (search rules, search rules, search rules_start)

pub loop-o-init : goal.loop-o-init
loop-o-init c = (search rules, search rules, search row_start)

pub loop-o-preserved : goal.loop-o-preserved
loop-o-preserved c = (search rules, search rules, search row_passed)

pub search-preserved : goal.search-preserved
search-preserved c = (search rules, search rules, search rule_passed)

pub returns-after-search : goal.returns-after-search
returns-after-search c = search search_none

pub returns-then-has : goal.returns-then-has
returns-then-has c = search search_found
