-- `lister::Page::list_table` meets its contract: what planning refuses is typed as its refusal, what it accepts as the lines of its plan. Assumes nothing.
use Prim.Native.Nat.{ℕ}
use lib.ListN.{length-replicate}
use Rattle.grammar.specs.Limits.{most_rules, row_words, plan_words}
use Rattle.lister.proofs.TableLaws as table
use Rattle.lister.proofs.Page.list_table.Goals as goal

pub returns-in-Err : goal.returns-in-Err
returns-in-Err c = search (table.list_refused, length-replicate {A = ℕ} (row_words most_rules) 0, length-replicate {A = ℕ} (plan_words most_rules) 0)

pub returns-in-Ok : goal.returns-in-Ok
returns-in-Ok c = search (table.list_accepted, length-replicate {A = ℕ} (row_words most_rules) 0, length-replicate {A = ℕ} (plan_words most_rules) 0)
