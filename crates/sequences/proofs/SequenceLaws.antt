-- What stands in the sequence of a rule: each of its actions once and nothing else, each after all that it follows, so a visit or a leave after the
-- computes that it hands over. Assumes nothing.
use Prim.Native.Nat.{ℕ, ◌≤◌, ◌<◌}
use mathlib.Core.Path.{◌≡◌, refl, subst⁻¹}
use mathlib.Core.List.{List}
use native.Mathlib.Omega.{arith}
use lib.Dec.{T}
use lib.ListN.{length}
use Rattle.grammar.specs.Limits.{most_occurrences}
use Rattle.grammar.specs.Table.{symbol_of, defining}
use Rattle.grammar.proofs.AcceptedTable.{defining_occurs}
use Rattle.relations.proofs.Occurrences.{counts_below}
use Rattle.sets.specs.Visits.{visits}
use Rattle.sequences.specs.Actions.{
  compute,
  visit,
  leave,
  number_of,
  decode,
  most_actions,
  is_action,
  actions_of,
  inherited_of,
  synthesized_of,
}
use Rattle.sequences.specs.Follows.{follows}
use Rattle.sequences.specs.Order.{sequence_of}
use Rattle.sequences.specs.Paper.{DoneBefore}
use Rattle.sequences.proofs.TieLaws.{tie_remains, tie_once, tie_after}
use Rattle.sequences.proofs.OrderLaws.{order_short, order_complete}
use Rattle.sequences.proofs.ActionNumbers.{decode_compute, decode_number, decode_injective}
use Rattle.sequences.proofs.ActionLaws.{
  ChildVisit,
  LeftLeave,
  compute_belongs,
  visit_belongs,
  leave_belongs,
  belongs_visit,
  belongs_leave,
  belongs_action,
  action_belongs,
  action_below,
  member_actions,
  actions_member,
  actions_below,
  actions_rise,
  at_most_104,
}
use Rattle.sequences.proofs.MakesLaws.{inherited_of_law, synthesized_of_law}
use Rattle.grammar.proofs.OccurrenceLaws.{left_defining, child_defining}
use Rattle.sequences.proofs.FollowsLaws.{visit_after_compute, leave_after_compute}
use Rattle.sequences.proofs.OrderlyRules.{Orderly, fits}
use Rattle.sequences.proofs.AlwaysReady.{sequence_whole}
use Rattle.sequences.proofs.SequenceTie.{size, stands_at, sequence_tie}

module _ (g ids s : List ℕ) (r : ℕ) where
  -- "A sequence has at most 104 actions."
  pub sequence_short : ((x : ℕ) → visits s x ≤ 5) → size g ids s r ≤ most_actions
  unfolding sequence_of
  sequence_short five =
      omega (arith, order_short (λ a b. follows g ids s r a b) (length (actions_of g s r)) (actions_of g s r), at_most_104 g s r five)

  -- the sequence has nothing but the rule's actions
  pub nothing_else_law : (j : ℕ) → j < size g ids s r → T (is_action g s r (stands_at g ids s r j))
  nothing_else_law j h =
      actions_member g s r (stands_at g ids s r j)
      (tie_remains (λ a b. follows g ids s r a b) (actions_of g s r) (sequence_of g ids s r) (sequence_tie g ids s r) j h)

  -- each once
  pub each_once : (j k : ℕ) → j < size g ids s r → k < size g ids s r → stands_at g ids s r j ≡ stands_at g ids s r k → j ≡ k
  each_once = tie_once (λ a b. follows g ids s r a b) (actions_of g s r) (sequence_of g ids s r) (sequence_tie g ids s r)

  -- and each after all that it follows
  pub stands_after : (j : ℕ) → j < size g ids s r → (b : ℕ) → T (is_action g s r b) → T (follows g ids s r (stands_at g ids s r j) b)
      → DoneBefore (sequence_of g ids s r) j b
  stands_after j h b t f =
      tie_after (λ a b. follows g ids s r a b) (actions_of g s r) (sequence_of g ids s r) (sequence_tie g ids s r) j h b (member_actions g s r b t) f

  -- places of one action are one
  pub same_place : (j k : ℕ) → j < size g ids s r → k < size g ids s r → decode (stands_at g ids s r j) ≡ decode (stands_at g ids s r k) → j ≡ k
  same_place j k l m e =
      each_once j k l m
      (decode_injective (stands_at g ids s r j) (stands_at g ids s r k) (action_below g s r (stands_at g ids s r j) (nothing_else_law j l))
      (action_below g s r (stands_at g ids s r k) (nothing_else_law k m)) e)

  -- a visit, or a leave, that stands in the sequence belongs to the rule
  pub visit_there : (j i n : ℕ) → j < size g ids s r → decode (stands_at g ids s r j) ≡ visit i n → ChildVisit g s r i n
  visit_there j i n l d = belongs_visit g s r i n (action_belongs g s r (stands_at g ids s r j) (visit i n) d (nothing_else_law j l))

  pub leave_there : (j n : ℕ) → j < size g ids s r → decode (stands_at g ids s r j) ≡ leave n → LeftLeave g s r n
  leave_there j n l d = belongs_leave g s r n (action_belongs g s r (stands_at g ids s r j) (leave n) d (nothing_else_law j l))

  module _ (h : Orderly g ids s r) where
    -- the sequence has every action of the rule
    pub every_action : (a : ℕ) → T (is_action g s r a) → DoneBefore (sequence_of g ids s r) (size g ids s r) a
    unfolding sequence_of
    every_action a t =
        subst⁻¹ (λ (n : ℕ). DoneBefore (sequence_of g ids s r) n a) (sequence_whole g ids s r h)
        (order_complete (λ a b. follows g ids s r a b) (length (actions_of g s r)) (actions_of g s r) refl (actions_rise g s r)
        (actions_below g s r) (sequence_whole g ids s r h) a (member_actions g s r a t))

    pub defining_fits : (o : ℕ) → T (defining g r o) → o < most_occurrences
    defining_fits o t = fits g ids s r h o (defining_occurs g r o t)

    pub compute_stands : (o : ℕ) → T (defining g r o) → T (is_action g s r o)
    compute_stands o t = belongs_action g s r o (compute o) (decode_compute o (defining_fits o t)) (compute_belongs g s r o t)

    -- "each visit follows the computes that it hands over"
    pub handed_down_law : (j i n o : ℕ) → j < size g ids s r → decode (stands_at g ids s r j) ≡ visit i n → T (inherited_of g s r i n o)
        → DoneBefore (sequence_of g ids s r) j o
    handed_down_law j i n o l d t =
        let w = inherited_of_law g s r i n o t in
        let c : ChildVisit g s r i n = visit_there j i n l d in
        stands_after j l o (compute_stands o (child_defining g r o w.0.occurs (omega (arith, c.child, w.0.stands)) w.1))
        (visit_after_compute g ids s r (stands_at g ids s r j) i n o d (fits g ids s r h o w.0.occurs) t)

    -- "each leave follows the computes that it hands over"
    pub handed_up_law : (j n o : ℕ) → j < size g ids s r → decode (stands_at g ids s r j) ≡ leave n → T (synthesized_of g s r 0 n o)
        → DoneBefore (sequence_of g ids s r) j o
    handed_up_law j n o l d t =
        let w = synthesized_of_law g s r 0 n o t in
        stands_after j l o (compute_stands o (left_defining g r o w.0.occurs w.0.stands w.1))
        (leave_after_compute g ids s r (stands_at g ids s r j) n o d (fits g ids s r h o w.0.occurs) t)

    module _ (five : (x : ℕ) → visits s x ≤ 5) where
      pub visit_number_law : (i n : ℕ) → ChildVisit g s r i n → decode (number_of (visit i n)) ≡ visit i n
      visit_number_law i n c =
          decode_number (visit i n) (
            omega (arith, c.inside, (h.formed.rule r (counts_below g r h.counts)).length_fits),
            c.first,
            omega (arith, c.last, five (symbol_of g r i)),
          )

      pub leave_number_law : (n : ℕ) → LeftLeave g s r n → decode (number_of (leave n)) ≡ leave n
      leave_number_law n c = decode_number (leave n) (c.first, omega (arith, c.last, five (symbol_of g r 0)))

      pub visit_stands : (i n : ℕ) → ChildVisit g s r i n → T (is_action g s r (number_of (visit i n)))
      visit_stands i n c = belongs_action g s r (number_of (visit i n)) (visit i n) (visit_number_law i n c) (visit_belongs g s r i n c)

      pub leave_stands : (n : ℕ) → LeftLeave g s r n → T (is_action g s r (number_of (leave n)))
      leave_stands n c = belongs_action g s r (number_of (leave n)) (leave n) (leave_number_law n c) (leave_belongs g s r n c)
