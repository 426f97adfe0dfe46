-- The plan of an accepted grammar, word by word: first the set words, then each rule's block of its length, its actions and zeros; the words
-- behind are as they were lent. Assumes nothing.
use Prim.Native.Nat.{ℕ, suc, ◌+◌, ◌*◌, ◌-◌, ◌≤◌, ◌<◌}
use mathlib.Core.Path.{◌≡◌, refl, ◌∙◌, ap}
use mathlib.Core.List.{List, ◌∷◌, ◌++◌}
use native.Mathlib.Omega.{arith}
use lib.ListN.{length, get_or, drop, replicate, length-append, get_or-append}
use lib.Seq.{get_or-append-add}
use Rattle.basics.specs.Lists.{word, blocks, padded}
use Rattle.basics.proofs.ListLaws.{length_blocks, get_d_blocks, length_padded, get_d_past}
use Rattle.grammar.specs.Limits.{rule_words, most_symbols, most_attributes, set_words, plan_words}
use Rattle.grammar.specs.Table.{rules}
use Rattle.relations.specs.Computed.{ids_of}
use Rattle.sets.specs.Visits.{set_number}
use Rattle.sets.specs.Computed.{sets_of}
use Rattle.sets.proofs.SetWords.{length_sets}
use Rattle.sets.proofs.Placing.{word_zeros}
use Rattle.sequences.specs.Actions.{most_actions}
use Rattle.sequences.specs.Order.{sequence_of}
use Rattle.sequences.proofs.PlannedSequences.{planned_short}
use Rattle.plans.specs.Buffers.{over, sequence_words, plan_of}
use Rattle.plans.specs.Answer.{sequences_of, accepted_plan}
use Rattle.plans.specs.Sequences.{sequence_at, sequence_length, action_at}
use Rattle.plans.specs.Left.{SequenceStands}
use Rattle.plans.proofs.RowWords.{over_past}

-- the words of a sequence in a rule's block: its length, its actions, zeros
length_block : (out : List ℕ) → length out ≤ most_actions → length (sequence_words out) ≡ rule_words
unfolding sequence_words
length_block out h = length_padded rule_words (length out ∷ out) (omega arith)

block_length : (out : List ℕ) → word (sequence_words out) 0 ≡ length out
unfolding sequence_words padded
block_length out = refl

block_action : (out : List ℕ) (j : ℕ) → j < length out → word (sequence_words out) (suc j) ≡ get_or out j 0
unfolding sequence_words padded
block_action out j h = get_or-append out (replicate (rule_words - length (length out ∷ out)) 0) 0 j h

block_zero : (out : List ℕ) (j : ℕ) → length out ≤ j → word (sequence_words out) (suc j) ≡ 0
unfolding sequence_words padded
block_zero out j h =
    get_d_past out (replicate (rule_words - length (length out ∷ out)) 0) 0 j h
    ∙ word_zeros (rule_words - length (length out ∷ out)) (j - length out)

module _ (g lent : List ℕ) where
  abbrev s : List ℕ
  s = sets_of g (ids_of g)

  abbrev p : List ℕ
  p = over (accepted_plan g) lent

  sets_long : length s ≡ set_words
  sets_long = length_sets g (ids_of g)

  blocks_long : (k : ℕ) → k < rules g → length (sequence_words (sequences_of g k)) ≡ rule_words
  unfolding sequences_of
  blocks_long k h = length_block (sequences_of g k) (planned_short g k)

  all_long : length (blocks (rules g) (λ r. sequence_words (sequences_of g r))) ≡ rules g * rule_words
  all_long = length_blocks rule_words (rules g) (λ r. sequence_words (sequences_of g r)) blocks_long

  pub plan_length_law : length (accepted_plan g) ≡ plan_words (rules g)
  unfolding accepted_plan plan_of
  plan_length_law = omega (arith, length-append s (blocks (rules g) (λ r. sequence_words (sequences_of g r))), sets_long, all_long)

  pub plan_past : (j : ℕ) → plan_words (rules g) ≤ j → word p j ≡ word lent j
  plan_past j h = over_past (accepted_plan g) lent j (omega (arith, plan_length_law))

  -- first the set words
  set_words_law : (j : ℕ) → j < set_words → word p j ≡ word s j
  unfolding over accepted_plan plan_of
  set_words_law j h =
      get_or-append (accepted_plan g) (drop (length (accepted_plan g)) lent) 0 j (omega (arith, plan_length_law))
      ∙ get_or-append s (blocks (rules g) (λ r. sequence_words (sequences_of g r))) 0 j (omega (arith, sets_long))

  pub numbers_same : (x a : ℕ) → x < most_symbols → a < most_attributes → set_number p x a ≡ set_number s x a
  unfolding set_number
  numbers_same x a h l = set_words_law (8 * x + a) (omega arith)

  -- then each rule's block
  block_words : (r j : ℕ) → r < rules g → j < rule_words → word p (sequence_at r + j) ≡ word (sequence_words (sequences_of g r)) j
  unfolding over accepted_plan plan_of
  block_words r j h l =
      let at : sequence_at r + j ≡ length s + (r * rule_words + j) = omega (arith, sets_long) in
      get_or-append (accepted_plan g) (drop (length (accepted_plan g)) lent) 0 (sequence_at r + j) (omega (arith, plan_length_law))
      ∙ (ap (λ (q : ℕ). word (s ++ blocks (rules g) (λ r. sequence_words (sequences_of g r))) q) at
      ∙ (get_or-append-add s (blocks (rules g) (λ r. sequence_words (sequences_of g r))) (r * rule_words + j) 0
      ∙ get_d_blocks rule_words (rules g) (λ r. sequence_words (sequences_of g r)) 0 blocks_long r j h l))

  -- the block of a rule is its constructed sequence
  pub sequence_stands : (r : ℕ) → r < rules g → SequenceStands p r (sequence_of g (ids_of g) s r)
  unfolding sequence_length action_at sequences_of
  sequence_stands r h =
      let out : List ℕ = sequences_of g r in
      record {
        length_is =
            let e : sequence_at r ≡ sequence_at r + 0 = omega arith in
            ap (λ (q : ℕ). word p q) e ∙ (block_words r 0 h (omega arith) ∙ block_length out);
        action_is = λ j l.
            let e : sequence_at r + 1 + j ≡ sequence_at r + suc j = omega arith in
            ap (λ (q : ℕ). word p q) e ∙ (block_words r (suc j) h (omega (arith, planned_short g r)) ∙ block_action out j l);
        zeros = λ j l m.
            let e : sequence_at r + 1 + j ≡ sequence_at r + suc j = omega arith in
            ap (λ (q : ℕ). word p q) e ∙ (block_words r (suc j) h m ∙ block_zero out j l);
      }
