-- Demand 3's total: how many actions a run takes, by the lengths of its nodes' rules' sequences.
-- Assumes nothing.
use Rattle.std.specs.Prelude.{ℕ, zero, suc, ◌+◌, cond, List, length}
use Rattle.plans.specs.Sequences.{sequence_length}
use Rattle.trees.specs.Tree.{nodes, rule_of, applies_rule}

-- "as many actions as the lengths of its nodes' rules' sequences add up to", where length_of r is the length of rule r's
unfoldable pub total_up_to : (ℕ → ℕ) → List ℕ → ℕ → ℕ
total_up_to length_of t zero = 0
total_up_to length_of t (suc n) = total_up_to length_of t n + cond (applies_rule t n) (length_of (rule_of t n)) 0

-- of the sequences themselves
unfoldable pub total_of : (ℕ → List ℕ) → List ℕ → ℕ
total_of sequence t = total_up_to (λ r. length (sequence r)) t (nodes t)

-- and of those in the words of a plan
unfoldable pub total : List ℕ → List ℕ → ℕ
total p t = total_up_to (λ r. sequence_length p r) t (nodes t)
