-- What follows what by the tests is what follows what by the paper, for the actions of a rule; so exactly one list obeys the tie rule over the
-- paper's facts, the constructed sequence. In an ordered grammar an action is always ready, so the sequence has every action of the rule.
-- Assumes nothing.
use Prim.Native.Nat.{ℕ, suc, ◌≤◌, ◌<◌}
use mathlib.Core.Path.{◌≡◌, refl, sym, ◌∙◌, ap, subst, subst⁻¹}
use mathlib.Core.Logic.{⊎_elim, ◌↔◌}
use mathlib.Core.List.{List, []}
use native.Mathlib.Omega.{arith}
use lib.Dec.{T, eqb→eq}
use lib.ListN.{length}
use Rattle.basics.specs.Lists.{word, member}
use Rattle.basics.proofs.TestLaws.{and_left, and_right, or_cases}
use Rattle.grammar.specs.Limits.{most_occurrences}
use Rattle.grammar.specs.Verdicts.{Good}
use Rattle.grammar.specs.Table.{symbols, rules, occurrence, rule_counts}
use Rattle.grammar.specs.Reading.{read_table}
use Rattle.grammar.specs.WellFormed.{WellFormed}
use Rattle.grammar.proofs.AcceptedTable.{accepted}
use Rattle.relations.specs.Computed.{ids_of}
use Rattle.relations.proofs.Occurrences.{counts_below, occurs_below}
use Rattle.sets.specs.Visits.{set_number}
use Rattle.sets.specs.Computed.{sets_of}
use Rattle.order.specs.Paper.{PaperSets, EDP, CircularIDP, IsOrdered}
use Rattle.order.specs.Computed.{edp}
use Rattle.order.proofs.ExactEdp.{edp_exact, edp_from, edp_to}
use Rattle.order.proofs.WholeGrammar.{number_is_law, edp_same, ordered_idp, ordered_back}
use Rattle.sequences.specs.Actions.{
  Action,
  compute,
  visit,
  leave,
  none,
  number_of,
  decode,
  action_numbers,
  most_actions,
  actions_of,
  makes,
}
use Rattle.sequences.specs.Follows.{before_visit, before_leave, besides, follows}
use Rattle.sequences.specs.Order.{sequence_of}
use Rattle.sequences.specs.Paper.{Belongs, Follows, DoneBefore, May, TieRule, Sequence, ReadyAmong}
use Rattle.sequences.specs.Paper as paper
use Rattle.sequences.proofs.ActionNumbers.{decode_injective, number_decode}
use Rattle.sequences.proofs.ActionLaws.{member_actions, actions_member, actions_below}
use Rattle.sequences.proofs.FollowsLaws.{
  follows_cases,
  follows_linked,
  visit_after_visit,
  visit_after_compute,
  leave_after_leave,
  leave_after_compute,
  last_leave_after,
}
use Rattle.sequences.proofs.TieLaws.{may_ready}
use Rattle.sequences.proofs.OrderlyRules.{Orderly}
use Rattle.sequences.proofs.AlwaysReady.{always_ready}
use Rattle.sequences.proofs.SequenceTie.{sequence_tie, sequence_one}
use Rattle.sequences.proofs.SequenceLaws.{every_action}
use Rattle.sequences.proofs.PlannedSequences.{orderly, planned_short}
use Rattle.sequences.proofs.PaperActions.{action_paper, inherited_paper, synthesized_paper, makes_forth, makes_back, left_visits}

-- the tie rule goes by what the actions are and what follows what, however these are said
module _ (A B : ℕ → Type 0) (R S : ℕ → ℕ → Type 0) (out : List ℕ) (forth : (a : ℕ) → A a → B a) (back : (a : ℕ) → B a → A a)
    (follow : (a b : ℕ) → A a → A b → S a b → R a b) where
  may_along : (j a : ℕ) → May A R out j a → May B S out j a
  may_along j a m =
      record {
        remains = forth a m.remains;
        undone = m.undone;
        predecessors = λ b k f. m.predecessors b (back b k) (follow a b m.remains (back b k) f);
      }

module _ (A B : ℕ → Type 0) (R S : ℕ → ℕ → Type 0) (out : List ℕ) (forth : (a : ℕ) → A a → B a) (back : (a : ℕ) → B a → A a)
    (follows : (a b : ℕ) → A a → A b → R a b ↔ S a b) where
  along : (j a : ℕ) → May A R out j a → May B S out j a
  along = may_along A B R S out forth back (λ a b h l f. (follows a b h l).1 f)

  against : (j a : ℕ) → May B S out j a → May A R out j a
  against = may_along B A S R out back forth (λ a b h l f. (follows a b (back a h) (back b l)).0 f)

  tie_along : TieRule A R out → TieRule B S out
  tie_along t =
      record {
        next = λ j h. record {
          may = along j (word out j) (t.next j h).may;
          lowest = λ b l m. (t.next j h).lowest b l (against j b m);
        };
        ends = λ a m. t.ends a (against (length out) a m);
      }

module _ (g : List ℕ) (good : read_table g ≡ Good) (free : CircularIDP g → ⊥) (set : ℕ → ℕ → ℕ) (sets : PaperSets g set) (r : ℕ)
    (counts : T (rule_counts g r)) where
  abbrev ids : List ℕ
  ids = ids_of g

  abbrev s : List ℕ
  s = sets_of g (ids_of g)

  formed : WellFormed g
  formed = accepted g good

  inside : r < rules g
  inside = counts_below g r counts

  same : (x a : ℕ) → x < symbols g → a < 8 → set_number s x a ≡ set x a
  same x a h l = number_is_law g good free set sets x a (omega (arith, formed.symbols_fit)) l

  arc : (a b : ℕ) → T (edp g ids s r a b) ↔ EDP g set r a b
  arc a b = (
    λ t. (edp_same g good free set sets r a b).0 ((edp_exact g good s r counts a b).0 t),
    λ e. (edp_exact g good s r counts a b).1 ((edp_same g good free set sets r a b).1 e),
  )

  -- both ends of an arc are occurrences, and so below 64
  arc_small : (a b : ℕ) → EDP g set r a b → (a < most_occurrences) × (b < most_occurrences)
  arc_small a b e =
      let f = (edp_same g good free set sets r a b).1 e in
      (occurs_below g formed r a counts (edp_from g good s r counts a b f), occurs_below g formed r b counts (edp_to g good s r counts a b f))

  -- what an action follows besides what is linked
  besides_forth : (x y : Action) → ¬ (x ≡ y) → T (besides g s r x y) → Follows g set r x y
  unfolding besides before_visit before_leave
  besides_forth (compute o) y d t = absurd t
  besides_forth (visit i n) (compute o) d t =
      let v = (inherited_paper g s set formed same r inside i n o).0 t in paper.handed_down i n o v.0 v.1
  besides_forth (visit i n) (visit j m) d t =
      subst (λ (k : ℕ). Follows g set r (visit i k) (visit j m)) (eqb→eq (suc m) n (and_right _ _ t))
      (subst⁻¹ (λ (k : ℕ). Follows g set r (visit i (suc m)) (visit k m)) (eqb→eq j i (and_left _ _ t)) (paper.next_visit i m))
  besides_forth (visit i n) (leave m) d t = absurd t
  besides_forth (visit i n) none d t = absurd t
  besides_forth (leave n) y d t =
      ⊎_elim (λ u. paper.last_leave n y (eqb→eq n _ u ∙ left_visits g s set formed same r inside) d) (λ u. before y u) (or_cases _ _ t)
    where
      before : (y : Action) → T (before_leave g s r n y) → Follows g set r (leave n) y
      before (compute o) u =
          let v = (synthesized_paper g s set formed same r inside 0 n o).0 u in paper.handed_up n o v.0 v.1
      before (visit j m) u = absurd u
      before (leave m) u = subst (λ (k : ℕ). Follows g set r (leave k) (leave m)) (eqb→eq (suc m) n u) (paper.next_leave m)
      before none u = absurd u
  besides_forth none y d t = absurd t

  follows_forth : (later earlier : ℕ) → later < action_numbers → earlier < action_numbers → T (follows g ids s r later earlier)
      → Follows g set r (decode later) (decode earlier)
  follows_forth later earlier h l t =
      let w = follows_cases g ids s r later earlier t in
      let d : ¬ (decode later ≡ decode earlier) = λ e. w.0 (decode_injective later earlier h l e) in
      ⊎_elim
      (λ k.
      paper.linked (decode later) (decode earlier) k.source k.goal d
      (makes_forth g s set formed same r inside (decode earlier) k.source k.source_made)
      (makes_forth g s set formed same r inside (decode later) k.goal k.goal_made) ((arc k.source k.goal).0 k.arc))
      (λ b. besides_forth (decode later) (decode earlier) d b) w.1

  -- where a compute follows, the number is the occurrence
  compute_number : (n o : ℕ) → n < action_numbers → decode n ≡ compute o → n ≡ o
  compute_number n o h e = sym (number_decode n h) ∙ ap number_of e

  occurs_small : (o : ℕ) → T (occurrence g r o) → o < most_occurrences
  occurs_small o t = occurs_below g formed r o counts t

  follows_back : (later earlier : ℕ) (x y : Action) → later < action_numbers → earlier < action_numbers → decode later ≡ x → decode earlier ≡ y
      → Follows g set r x y → T (follows g ids s r later earlier)
  follows_back later earlier x y h l d e (paper.linked later' earlier' a b n m k f) =
      let small = arc_small a b f in
      follows_linked g ids s r later earlier (λ q. n (sym d ∙ (ap decode q ∙ e)))
      (record {
        source = a;
        goal = b;
        source_fits = small.0;
        goal_fits = small.1;
        source_made = subst⁻¹ (λ (z : Action). T (makes g s r z a)) e (makes_back g s set formed same r inside y a m);
        goal_made = subst⁻¹ (λ (z : Action). T (makes g s r z b)) d (makes_back g s set formed same r inside x b k);
        arc = (arc a b).1 f;
      })
  follows_back later earlier x y h l d e (paper.next_visit i n) = visit_after_visit g ids s r later earlier i n d e
  follows_back later earlier x y h l d e (paper.handed_down i n o v t) =
      subst⁻¹ (λ (q : ℕ). T (follows g ids s r later q)) (compute_number earlier o l e)
      (visit_after_compute g ids s r later i n o d (occurs_small o v.occurs) ((inherited_paper g s set formed same r inside i n o).1 (v, t)))
  follows_back later earlier x y h l d e (paper.next_leave n) = leave_after_leave g ids s r later earlier n d e
  follows_back later earlier x y h l d e (paper.handed_up n o v t) =
      subst⁻¹ (λ (q : ℕ). T (follows g ids s r later q)) (compute_number earlier o l e)
      (leave_after_compute g ids s r later n o d (occurs_small o v.occurs) ((synthesized_paper g s set formed same r inside 0 n o).1 (v, t)))
  follows_back later earlier x y h l d e (paper.last_leave n earlier' q f) =
      last_leave_after g ids s r later earlier (d ∙ ap leave (q ∙ sym (left_visits g s set formed same r inside)))
      (λ i. f (sym d ∙ (ap decode i ∙ e)))

  -- the actions that remain at the start are the paper's
  member_paper : (a : ℕ) → T (member a (actions_of g s r)) → Belongs g set r (decode a)
  member_paper a t = (action_paper g s set formed same r inside a).0 (actions_member g s r a t)

  paper_member : (a : ℕ) → Belongs g set r (decode a) → T (member a (actions_of g s r))
  paper_member a b = member_actions g s r a ((action_paper g s set formed same r inside a).1 b)

  follows_same : (a b : ℕ) → T (member a (actions_of g s r)) → T (member b (actions_of g s r))
      → T (follows g ids s r a b) ↔ Follows g set r (decode a) (decode b)
  follows_same a b h l =
      let m : a < action_numbers = actions_below g s r a h in
      let n : b < action_numbers = actions_below g s r b l in
      (follows_forth a b m n, follows_back a b (decode a) (decode b) m n refl refl)

  -- the constructed sequence obeys the tie rule over the paper's facts
  pub sequence_obeys : Sequence g set r (sequence_of g ids s r)
  sequence_obeys =
      tie_along (λ a. T (member a (actions_of g s r))) (λ a. Belongs g set r (decode a)) (λ a b. T (follows g ids s r a b))
      (λ a b. Follows g set r (decode a) (decode b)) (sequence_of g ids s r) member_paper paper_member follows_same (sequence_tie g ids s r)

  -- and no other list does
  pub sequence_only : (out : List ℕ) → Sequence g set r out → out ≡ sequence_of g ids s r
  sequence_only out t =
      sequence_one g ids s r out
      (tie_along (λ a. Belongs g set r (decode a)) (λ a. T (member a (actions_of g s r))) (λ a b. Follows g set r (decode a) (decode b))
      (λ a b. T (follows g ids s r a b)) out paper_member member_paper
      (λ a b h l. let w = follows_same a b (paper_member a h) (paper_member b l) in (w.1, w.0)) t)

  -- "A sequence has at most 104 actions."
  pub paper_short : (out : List ℕ) → Sequence g set r out → length out ≤ most_actions
  paper_short out t = omega (arith, ap length (sequence_only out t), planned_short g r)

-- In an ordered grammar an action is always ready, and every sequence is whole.
module _ (g : List ℕ) (good : read_table g ≡ Good) (o : IsOrdered g) (set : ℕ → ℕ → ℕ) (sets : PaperSets g set) (r : ℕ)
    (counts : T (rule_counts g r)) where
  no_idp_cycle_law : CircularIDP g → ⊥
  no_idp_cycle_law = ordered_idp g (accepted g good) o

  in_order : Orderly g (ids_of g) (sets_of g (ids_of g)) r
  in_order = orderly g good no_idp_cycle_law (ordered_back g good no_idp_cycle_law o.set o.are_sets o.no_cycle) r counts

  member_of : (a : ℕ) → Belongs g set r (decode a) → T (member a (actions_of g (sets_of g (ids_of g)) r))
  member_of = paper_member g good no_idp_cycle_law set sets r counts

  -- of any actions of the rule that remain, one follows none of them
  pub paper_ready : (remaining : List ℕ) → 1 ≤ length remaining → ((a : ℕ) → T (member a remaining) → Belongs g set r (decode a))
      → (a : ℕ) × ReadyAmong g set r remaining a
  paper_ready remaining some belong =
      let w = always_ready g (ids_of g) (sets_of g (ids_of g)) r in_order remaining some
      (λ a m. actions_member g (sets_of g (ids_of g)) r a (member_of a (belong a m))) in (
        w.0,
        may_along (λ a. T (member a remaining)) (λ a. T (member a remaining)) (λ a b. T (follows g (ids_of g) (sets_of g (ids_of g)) r a b))
            (λ a b. Follows g set r (decode a) (decode b)) [] (λ a m. m) (λ a m. m)
            (λ a b m n. (follows_same g good no_idp_cycle_law set sets r counts a b (member_of a (belong a m)) (member_of b (belong b n))).1) 0 w.0
            (may_ready (λ a b. follows g (ids_of g) (sets_of g (ids_of g)) r a b) remaining [] w.0 w.1 w.2),
      )

  -- so every sequence has all actions of the rule
  pub all_actions_law : (out : List ℕ) → Sequence g set r out → (a : ℕ) → Belongs g set r (decode a) → DoneBefore out (length out) a
  all_actions_law out sequence a belongs =
      subst⁻¹ (λ (l : List ℕ). DoneBefore l (length l) a) (sequence_only g good no_idp_cycle_law set sets r counts out sequence)
      (every_action g (ids_of g) (sets_of g (ids_of g)) r in_order a (actions_member g (sets_of g (ids_of g)) r a (member_of a belongs)))
