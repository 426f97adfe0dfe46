-- A sound plan's sequences fit their words, so the total of a tree is at most so many actions for each node.
-- Assumes nothing.
use Prim.Native.Nat.{ℕ, zero, suc, ◌+◌, ◌*◌, ◌≤◌, ◌<◌}
use mathlib.Core.Path.{◌≡◌, refl}
use mathlib.Core.Bool.{Bool, true, false, cond}
use mathlib.Core.List.{List}
use native.Mathlib.Omega.{arith}
use lib.Dec.{T}
use Rattle.basics.proofs.TestLaws.{true_T}
use Rattle.grammar.specs.Limits.{rule_words, longest_sequence}
use Rattle.trees.specs.Tree.{nodes, rule_of, applies_rule}
use Rattle.plans.specs.Sequences.{sequence_length}
use Rattle.runs.specs.Totals.{total_up_to, total}
use Rattle.runs.specs.Balance.{RunGiven}
use Rattle.runs.proofs.SequenceCounts.{rule_sound}

-- sequences that fit their words add up to at most so many actions a node
total_most : (p t : List ℕ) (k : ℕ) → ((n : ℕ) → n < k → T (applies_rule t n) → sequence_length p (rule_of t n) < rule_words)
    → total_up_to (λ r. sequence_length p r) t k ≤ longest_sequence * k
unfolding total_up_to
total_most p t zero f = omega arith
total_most p t (suc k) f = go (applies_rule t k) refl (total_most p t k (λ n h. f n (omega arith)))
  where
    go : (b : Bool) → applies_rule t k ≡ b → total_up_to (λ r. sequence_length p r) t k ≤ longest_sequence * k
        → total_up_to (λ r. sequence_length p r) t k + cond b (sequence_length p (rule_of t k)) 0 ≤ longest_sequence * suc k
    go true e h = omega (arith, f k (omega arith) (true_T _ e))
    go false e h = omega arith

-- the total of a sound plan is at most as many actions a node as a sequence has room for
pub total_bound : {g p t : List ℕ} {l : ℕ} → RunGiven g p t l → total p t ≤ longest_sequence * nodes t
unfolding total
total_bound {g} {p} {t} given =
    total_most p t (nodes t) (λ n h a. (rule_sound given.table given.sound (rule_of t n) (given.tree.rule_known n h a)).fits)
