-- The computed sequence of a rule obeys the tie rule of document 01 at every place, and no other list does. Assumes nothing.
use Prim.Native.Nat.{ℕ}
use mathlib.Core.Path.{◌≡◌}
use mathlib.Core.List.{List}
use native.Mathlib.Omega.{arith}
use lib.ListN.{length}
use Rattle.basics.specs.Lists.{word}
use Rattle.sequences.specs.Actions.{actions_of}
use Rattle.sequences.specs.Follows.{follows}
use Rattle.sequences.specs.Order.{order, sequence_of}
use Rattle.sequences.proofs.TieLaws.{TieRule, tie_one}
use Rattle.sequences.proofs.OrderLaws.{order_tie}
use Rattle.sequences.proofs.ActionLaws.{actions_below, actions_rise}

module _ (g ids s : List ℕ) (r : ℕ) where
  -- how many actions the sequence has, and the one at a place
  abbrev pub size : ℕ
  size = length (sequence_of g ids s r)

  abbrev pub stands_at : ℕ → ℕ
  stands_at j = word (sequence_of g ids s r) j

  -- "The next action is always the lowest-numbered one whose predecessors are done."
  pub sequence_tie : TieRule (λ a b. follows g ids s r a b) (actions_of g s r) (sequence_of g ids s r)
  unfolding sequence_of
  sequence_tie =
      order_tie (λ a b. follows g ids s r a b) (length (actions_of g s r)) (actions_of g s r) (omega arith) (actions_rise g s r)
      (actions_below g s r)

  -- that rule determines the sequence
  pub sequence_one : (out : List ℕ) → TieRule (λ a b. follows g ids s r a b) (actions_of g s r) out → out ≡ sequence_of g ids s r
  sequence_one out w = tie_one (λ a b. follows g ids s r a b) (actions_of g s r) out (sequence_of g ids s r) w sequence_tie

  -- so it is what the construction builds
  pub sequence_built : order (λ a b. follows g ids s r a b) (length (actions_of g s r)) (actions_of g s r) ≡ sequence_of g ids s r
  sequence_built =
      sequence_one (order (λ a b. follows g ids s r a b) (length (actions_of g s r)) (actions_of g s r))
      (order_tie (λ a b. follows g ids s r a b) (length (actions_of g s r)) (actions_of g s r) (omega arith) (actions_rise g s r)
      (actions_below g s r))
