-- What the type of an accepted table says, as the laws ask for it.
-- Assumes nothing.
use Prim.Native.Nat.{ℕ, ◌<◌}
use Rattle.grammar.specs.Table.{rules}
use Rattle.access.specs.Offsets.{RuleOf}
use Rattle.access.specs.declared.Table.{Table}

-- a rule of it, with the offsets of its rules
pub rule_in : (t : Table) (r : ℕ) → r < rules t.words.now → RuleOf t.words.now t.offsets r
rule_in t r h = record { good = t.accepted; offsets_are = t.placed; inside = h }
