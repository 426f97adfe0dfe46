-- An action is always ready: of any actions of a rule one of least height follows none of the others.
-- So the sequence never stops with actions left. Assumes nothing.
use Prim.Native.Nat.{ℕ, ◌≤◌}
use mathlib.Core.Path.{◌≡◌, refl, sym, ◌∙◌, ap}
use mathlib.Core.List.{List}
use native.Mathlib.Omega.{arith}
use lib.Dec.{T}
use lib.ListN.{length}
use Rattle.basics.specs.Lists.{member}
use Rattle.sequences.specs.Actions.{decode, is_action, actions_of}
use Rattle.sequences.specs.Follows.{follows}
use Rattle.sequences.specs.Order.{ready, sequence_of}
use Rattle.sequences.proofs.Rising.{lowest_member}
use Rattle.sequences.proofs.TieLaws.{ready_intro}
use Rattle.sequences.proofs.OrderLaws.{order_all}
use Rattle.sequences.proofs.ActionLaws.{actions_member, actions_rise, actions_below}
use Rattle.sequences.proofs.OrderlyRules.{Orderly}
use Rattle.sequences.proofs.SequenceTie.{sequence_built}
use Rattle.sequences.proofs.Heights.{height, follows_higher}

module _ (g ids s : List ℕ) (r : ℕ) (h : Orderly g ids s r) where
  -- some action of every list of the rule's actions is ready
  pub always_ready : (xs : List ℕ) → 1 ≤ length xs → ((a : ℕ) → T (member a xs) → T (is_action g s r a))
      → (a : ℕ) × T (member a xs) × T (ready (λ a b. follows g ids s r a b) xs a)
  always_ready xs l f =
      let w = lowest_member (λ a. height g ids s r (decode a)) xs l in (
        w.0,
        w.1,
        ready_intro (λ a b. follows g ids s r a b) xs w.0
            (λ b m t. omega (arith, w.2 b m, follows_higher g ids s r h w.0 b (f w.0 w.1) (f b m) t)),
      )

  -- the sequence has all of the rule's actions
  pub sequence_whole : length (sequence_of g ids s r) ≡ length (actions_of g s r)
  sequence_whole =
      ap (λ (out : List ℕ). length out) (sym (sequence_built g ids s r))
      ∙ order_all (λ a b. follows g ids s r a b) (length (actions_of g s r)) (actions_of g s r) refl (actions_rise g s r) (actions_below g s r)
      (λ xs l f. always_ready xs l (λ a m. actions_member g s r a (f a m)))
