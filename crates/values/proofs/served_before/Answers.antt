-- `values::served_before` meets its contract, by the order of the two priorities: higher, equal, where the source numbers decide, or lower.
-- Assumes nothing.
use Rattle.values.proofs.LocalLaws.{served_higher, served_equal, served_lower}
use Rattle.values.proofs.served_before.Goals.{then-q-p, else-q-p+then-p-q, else-q-p+else-p-q}
use Rattle.values.proofs.served_before.Goals as goal

pub returns : goal.returns
returns c = elim c.if-q-p.branch [
  | then-q-p w ↦ served_higher _ _ _ _ c.from.ensures c.ranges.p c.ranges.q w.if-q-p.true w.from-is
  | else-q-p+then-p-q w ↦ served_equal _ _ _ _ c.from.ensures c.ranges.p c.ranges.q w.if-q-p.false w.if-p-q.true c.ranges.s c.ranges.t w.from-is
  | else-q-p+else-p-q w ↦ served_lower _ _ _ _ c.from.ensures c.ranges.p c.ranges.q w.if-q-p.false w.if-p-q.false w.from-is
]
