-- The invariant: every rule that is not stale is fresh. Each turn finds a new arc or makes one stale rule fresh and none stale, so there is less to do; and where no rule is stale, all are fresh.
use Prim.Native.Nat.{◌≤◌}
use Rattle.grammar.specs.Table.{rules as rule_count}
use Rattle.inducing.specs.Stale.{Stale}
use Rattle.inducing.proofs.StaleLaws.{left_to_do}
use Rattle.inducing.proofs.ids.settle.Given as goal

abbrev pub invariant-loop-stale : goal.invariant-loop-stale
invariant-loop-stale l = (l.from ≤ 64) × Stale l.table.words.now l.initial.rows (rule_count l.table.words.now) l.stale l.rows l.ids

abbrev pub decreases-loop-stale : goal.decreases-loop-stale
decreases-loop-stale l = left_to_do l.stale l.ids
