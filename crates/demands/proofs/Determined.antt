-- The demands leave nothing open: what meets demands 1 and 2 is the answer, the rows and the plan of the contract, and no other. So no
-- definition behind the contract can change an answer or a word without breaking a demand. Assumes nothing.
use Prim.Native.Nat.{ℕ, zero, suc, ◌+◌, ◌*◌, ◌-◌, ◌/◌, ◌%◌, ◌≤◌, ◌<◌, min}
use mathlib.Core.Path.{◌≡◌, refl, sym, ◌∙◌, ap, subst}
use mathlib.Core.Logic.{◌⊎◌, inl, inr, ⊎_elim, ◌↔◌}
use mathlib.Core.List.{List}
use native.Mathlib.Omega.{arith}
use lib.Dec.{T, lt→ltb}
use lib.IntN.{ℤ}
use lib.ListN.{length}
use lib.Seq.{ext_get_or}
use Rattle.std.specs.Prelude.{Result, Ok, Err}
use Rattle.basics.specs.Lists.{word}
use Rattle.basics.proofs.TestLaws.{below_or_not}
use Rattle.bits.specs.Bit.{bit}
use Rattle.bits.proofs.BitLaws.{bit_le, bits_ext}
use Rattle.refusals.specs.declared.Refusal.{Refusal}
use Rattle.grammar.specs.Limits.{most_occurrences, set_words, rule_words, row_words, plan_words}
use Rattle.grammar.specs.Verdicts.{Good}
use Rattle.grammar.specs.Table.{rules, rule_counts}
use Rattle.grammar.specs.Reading.{read_table}
use Rattle.grammar.specs.WellFormed.{WellFormed}
use Rattle.grammar.proofs.FormedTable.{accepted_exactly_law as read_exactly}
use Rattle.relations.specs.Paper.{IDP⁺}
use Rattle.relations.specs.Computed.{ids_of}
use Rattle.sets.specs.Computed.{sets_of}
use Rattle.order.specs.Paper.{PaperSets, CircularIDP, IsOrdered}
use Rattle.order.proofs.WholeGrammar.{computed_sets, ordered_idp, sets_exist_law}
use Rattle.sequences.specs.Order.{sequence_of}
use Rattle.sequences.specs.Paper.{Sequence}
use Rattle.sequences.proofs.PaperSequence.{sequence_obeys}
use Rattle.plans.specs.Sequences.{sequence_at, sequence_length, action_at}
use Rattle.plans.specs.Answer.{Outcome, accepted, outcome, answer_of, rows_after, plan_after}
use Rattle.plans.specs.Left.{RowsHold, EDP⁺, SequenceStands, Written, Beyond}
use Rattle.plans.proofs.Stays.{past_room, rows_stay, plan_stay}
use Rattle.planner.specs.Answered.{Answered}
use Rattle.runs.specs.declared.Report.{Report}
use Rattle.runs.specs.Computing.{machine_at}
use Rattle.runs.specs.Totals.{total_of}
use Rattle.runner.specs.Whole as whole
use Rattle.runner.specs.Answered as runner
use Rattle.cases.specs.First.{room_walk, idp_walk, edp_walk, walk}
use Rattle.cases.specs.AllCases.{RunCase, PlanRefuses, Refuses}
use Rattle.cases.proofs.PlanTests.{plan_walk}
use Rattle.cases.proofs.Refusals.{outcome_accepted, planning_refused, planning_accepted, run_refused, run_carried_out}
use Rattle.cases.proofs.Leaves.{tree_late}
use Rattle.demands.specs.Demands.{Leaves, Stays, Demand1, Demand1Run, Given, Demand2, Demand3, Demand3Run}
use Rattle.demands.proofs.LeavesLaws.{read_past, free_past, accepted_read, accepted_free, written_accepted}
use Rattle.demands.proofs.Demands.{computed_1, computed_2, plan_first, computed_1_run, is_accepted, is_read, run_ordered, demand_3}

-- rows that hold one relation, over one lent buffer, are one
pub one_rows : (g : List ℕ) (path : ℕ → ℕ → ℕ → Type 0) (lent s t : List ℕ) → RowsHold g s path → RowsHold g t path
    → Beyond (row_words (rules g)) lent s → Beyond (row_words (rules g)) lent t → s ≡ t
one_rows g path lent s t v w b c =
    ext_get_or 0 s t (b.as_many ∙ sym c.as_many) (λ j h. ⊎_elim (inside j) (λ l. b.stay j l ∙ sym (c.stay j l)) (below_or_not j (row_words (rules g))))
  where
    same_bit : (x y : ℕ) → ((x ≡ 1) ↔ (y ≡ 1)) → x ≤ 1 → y ≤ 1 → x ≡ y
    same_bit zero zero e h l = refl
    same_bit zero (suc y) e h l = omega (arith, e.1 (omega arith))
    same_bit (suc x) y e h l = omega (arith, e.0 (omega arith))

    inside : (j : ℕ) → j < row_words (rules g) → word s j ≡ word t j
    inside j l =
        let r : ℕ = j / most_occurrences in
        let o : ℕ = j % most_occurrences in
        let e : most_occurrences * r + o ≡ j = omega arith in
        let k : T (rule_counts g r) = lt→ltb r (rules g) (omega arith) in
        bits_ext (word s j) (word t j)
        (λ i.
        subst (λ (q : ℕ). bit i (word s q) ≡ bit i (word t q)) e
        (same_bit (bit i (word s (most_occurrences * r + o))) (bit i (word t (most_occurrences * r + o)))
        (λ p. (w r o i k (omega arith)).1 ((v r o i k (omega arith)).0 p), λ p. (v r o i k (omega arith)).1 ((w r o i k (omega arith)).0 p))
        (bit_le i (word s (most_occurrences * r + o))) (bit_le i (word t (most_occurrences * r + o)))))

-- plans in which the same sets and sequences stand, over one lent buffer, are one
pub one_plan : (g : List ℕ) (set : ℕ → ℕ → ℕ) (lent rows₁ rows₂ s t : List ℕ) → ((r : ℕ) → T (rule_counts g r) → (out : List ℕ) × Sequence g set r out)
    → Written g set rows₁ s → Written g set rows₂ t → Beyond (plan_words (rules g)) lent s → Beyond (plan_words (rules g)) lent t → s ≡ t
unfolding sequence_length action_at
one_plan g set lent rows₁ rows₂ s t some v w b c =
    ext_get_or 0 s t (b.as_many ∙ sym c.as_many)
    (λ j h.
    ⊎_elim (numbers j)
    (λ l. ⊎_elim (inside j l) (λ m. b.stay j m ∙ sym (c.stay j m)) (below_or_not j (plan_words (rules g)))) (below_or_not j set_words))
  where
    numbers : (j : ℕ) → j < set_words → word s j ≡ word t j
    numbers j l =
        let e : 8 * (j / 8) + j % 8 ≡ j = omega arith in
        subst (λ (q : ℕ). word s q ≡ word t q) e
        (v.set_word (j / 8) (j % 8) (omega arith) (omega arith) ∙ sym (w.set_word (j / 8) (j % 8) (omega arith) (omega arith)))

    in_block : (r : ℕ) → T (rule_counts g r) → (k : ℕ) → k < rule_words → word s (sequence_at r + k) ≡ word t (sequence_at r + k)
    in_block r q zero l =
        let out = some r q in
        let e : sequence_at r ≡ sequence_at r + 0 = omega arith in
        subst (λ (n : ℕ). word s n ≡ word t n) e
        ((v.sequence r q out.0 out.1).length_is ∙ sym (w.sequence r q out.0 out.1).length_is)
    in_block r q (suc k) l =
        let out = some r q in
        let x : SequenceStands s r out.0 = v.sequence r q out.0 out.1 in
        let y : SequenceStands t r out.0 = w.sequence r q out.0 out.1 in
        let e : sequence_at r + 1 + k ≡ sequence_at r + suc k = omega arith in
        subst (λ (n : ℕ). word s n ≡ word t n) e
        (⊎_elim (λ m. x.action_is k m ∙ sym (y.action_is k m)) (λ m. x.zeros k m (omega arith) ∙ sym (y.zeros k m (omega arith)))
        (below_or_not k (length out.0)))

    inside : (j : ℕ) → set_words ≤ j → j < plan_words (rules g) → word s j ≡ word t j
    inside j l m =
        let r : ℕ = (j - set_words) / rule_words in
        let k : ℕ = (j - set_words) % rule_words in
        let e : sequence_at r + k ≡ j = omega arith in
        subst (λ (q : ℕ). word s q ≡ word t q) e (in_block r (lt→ltb r (rules g) (omega arith)) k (omega arith))

-- what two refusals with one case leave is one
module _ (g rows plan : List ℕ) where
  abbrev came : Outcome
  came = outcome g (length rows) (length plan)

  module _ (n : Refusal) (first : PlanRefuses g (length rows) (length plan) n) (s p : List ℕ) (v : Leaves g rows plan n s p)
      (w : Leaves g rows plan n (rows_after g came rows) (plan_after g came plan)) (b : Beyond (row_words (rules g)) rows s) where
    same_rows : s ≡ rows_after g came rows
    same_rows =
        ⊎_elim ordering
        (λ h. ⊎_elim (λ l. circular (omega arith)) (λ l. (v.nothing l).0 ∙ sym (w.nothing l).0) (below_or_not room_walk (walk g n)))
        (below_or_not idp_walk (walk g n))
      where
        circular : walk g n ≡ idp_walk → s ≡ rows_after g came rows
        circular h =
            one_rows g (λ r o b. IDP⁺ g r o b) rows s (rows_after g came rows) (v.idp_paths h) (w.idp_paths h) b (rows_stay g rows plan)

        ordering : idp_walk < walk g n → s ≡ rows_after g came rows
        ordering h =
            let free : CircularIDP g → ⊥ = free_past g rows plan n first h in
            let sets : PaperSets g (computed_sets g) = sets_exist_law g (read_past g rows plan n first (omega arith)) free in
            one_rows g (EDP⁺ g (computed_sets g)) rows s (rows_after g came rows) (v.edp_paths h (computed_sets g) sets)
            (w.edp_paths h (computed_sets g) sets) b (rows_stay g rows plan)

    same_plan : p ≡ plan_after g came plan
    same_plan =
        let h : walk g n ≤ edp_walk = plan_walk g (length rows) (length plan) n first.applies in
        v.plan_stays h ∙ sym (w.plan_stays h)

  -- rows and plan of an accepted table are one
  module _ (e : came ≡ accepted) (s p : List ℕ) (w : (set : ℕ → ℕ → ℕ) → PaperSets g set → Written g set s p) (stays : Stays g rows plan s p) where
    read : read_table g ≡ Good
    read = accepted_read g rows plan e

    free : CircularIDP g → ⊥
    free = accepted_free g rows plan e

    sets : PaperSets g (computed_sets g)
    sets = sets_exist_law g read free

    same_written : (s ≡ rows_after g came rows) × (p ≡ plan_after g came plan)
    same_written =
        let x : Written g (computed_sets g) s p = w (computed_sets g) sets in
        let y : Written g (computed_sets g) (rows_after g came rows) (plan_after g came plan) = written_accepted g rows plan e (computed_sets g) sets in (
          one_rows g (EDP⁺ g (computed_sets g)) rows s (rows_after g came rows) x.row_bits y.row_bits stays.rows_beyond (rows_stay g rows plan),
          one_plan g (computed_sets g) plan s (rows_after g came rows) p (plan_after g came plan)
              (λ r c. (_, sequence_obeys g read free (computed_sets g) sets r c)) x y stays.plan_beyond (plan_stay g rows plan),
        )

-- What meets demands 1 and 2 meets the contract of `plan`.
pub plan_determined : (g rows plan : List ℕ) (answer : Result ℕ Refusal) (s p : List ℕ) → Demand1 g rows plan answer s p
    → (Given g rows plan → Demand2 g answer s p) → Answered g rows plan answer s p
plan_determined g rows plan answer s p one two = go (outcome g (length rows) (length plan)) refl (refused_or_not (answer_of g (came g rows plan)))
  where
    refused_or_not : (a : Result ℕ Refusal) → ((n : Refusal) × (a ≡ Err n)) ⊎ ((k : ℕ) × (a ≡ Ok k))
    refused_or_not (Err n) = inl (n, refl)
    refused_or_not (Ok k) = inr (k, refl)

    go : (o : Outcome) → came g rows plan ≡ o
        → ((n : Refusal) × (answer_of g (came g rows plan) ≡ Err n)) ⊎ ((k : ℕ) × (answer_of g (came g rows plan) ≡ Ok k))
        → Answered g rows plan answer s p
    go o e (inl r) =
        let first : PlanRefuses g (length rows) (length plan) r.0 = (planning_refused g (length rows) (length plan) r.0).0 r.1 in
        let is : answer ≡ Err r.0 = (one.refuses r.0).1 first in
        let v = one.leaves r.0 is in
        let w = (computed_1 g rows plan).leaves r.0 r.1 in
        record {
          answers = is ∙ sym r.1;
          rows_are = same_rows g rows plan r.0 first s p v w one.stays.rows_beyond;
          plan_is = same_plan g rows plan r.0 first s p v w one.stays.rows_beyond;
        }
    go o e (inr r) =
        let a = (planning_accepted g (length rows) (length plan) r.0).0 r.1 in
        let done : came g rows plan ≡ accepted = (outcome_accepted g (length rows) (length plan)).1 a.1 in
        let wf : WellFormed g = (read_exactly g).0 (accepted_read g rows plan done) in
        let room = past_room g rows plan accepted done (λ m q. let z : ◌≡◌ {A = ℕ} 0 1 = cc in omega arith) in
        let given : Given g rows plan = record { formed = wf; rows_room = room.0; plan_room = room.1 } in
        let d = two given in
        let ordered : IsOrdered g = (computed_2 g rows plan given).accepted_exactly.0 (r.1 ∙ ap Ok a.0) in
        let w = same_written g rows plan done s p (d.written ordered) one.stays in
        record { answers = (one.accepts r.0).1 a ∙ sym r.1; rows_are = w.0; plan_is = w.1 }

-- What meets demands 1 and 3 meets the contract of `run`.
module _ (g rows plan t : List ℕ) (v : List ℤ) (budget : ℕ) where
  -- where some case answers
  refused_run : (n : Refusal) → whole.answer g rows plan t v budget ≡ Err n → (answer : Result Report Refusal) (v' : List ℤ) (s p : List ℕ)
      → Demand1Run g rows plan t v answer v' s p → runner.Answered g rows plan t v budget answer v' s p
  unfolding whole.came
  refused_run n e answer v' s p one =
      let first : Refuses g (length rows) (length plan) t (length v) n = (run_refused g rows plan t v budget n).0 e in
      let is : answer ≡ Err n = (one.refuses n).1 first in
      let left = one.leaves n is in
      let w = (computed_1_run g rows plan t v budget).leaves n e in
      let both : (s ≡ rows_after g (came g rows plan) rows) × (p ≡ plan_after g (came g rows plan) plan) =
      ⊎_elim
      (λ h. same_written g rows plan (tree_late g rows plan t v budget n first h) s p (left.written h) one.stays)
      (λ h.
      let f = plan_first g rows plan t v budget n first h in
      (same_rows g rows plan n f s p left w one.stays.rows_beyond, same_plan g rows plan n f s p left w one.stays.rows_beyond))
      (below_or_not edp_walk (walk g n)) in
      record {
        answers = is ∙ sym e;
        values_are = one.values_stay n is ∙ sym ((computed_1_run g rows plan t v budget).values_stay n e);
        rows_are = both.0;
        plan_is = both.1;
      }

  module _ (none : (n : Refusal) → ¬ RunCase g (length rows) (length plan) t (length v) n) where
    abbrev sequence : ℕ → List ℕ
    sequence r = sequence_of g (ids_of g) (sets_of g (ids_of g)) r

    are : (o : IsOrdered g) (r : ℕ) → T (rule_counts g r) → Sequence g o.set r (sequence r)
    are o r c =
        let good : read_table g ≡ Good = is_read g rows plan t v budget none in
        sequence_obeys g good (ordered_idp g ((read_exactly g).0 good) o) o.set o.are_sets r c

    -- where none applies
    carried_run : (answer : Result Report Refusal) (v' : List ℤ) (s p : List ℕ) → Demand1Run g rows plan t v answer v' s p
        → Demand3Run g t v budget answer v' p → runner.Answered g rows plan t v budget answer v' s p
    unfolding whole.came
    carried_run answer v' s p one three =
        let o : IsOrdered g = run_ordered g rows plan t v budget none in
        let d : Demand3 g p t v budget (total_of sequence t) answer v' = three.runs o sequence (are o) in
        let c : Demand3 g (plan_after g (came g rows plan) plan) t v budget (total_of sequence t) (whole.answer g rows plan t v budget)
        (whole.values g rows plan t v budget) =
        (demand_3 g rows plan t v budget none (whole.answer g rows plan t v budget) (whole.values g rows plan t v budget)
        (rows_after g (came g rows plan) rows) (plan_after g (came g rows plan) plan)
        (record { answers = refl; values_are = refl; rows_are = refl; plan_is = refl })).runs o sequence (are o) in
        let w = same_written g rows plan (is_accepted g rows plan t v budget none) s p (one.written none) one.stays in
        record {
          answers =
              ⊎_elim (λ h. d.stopped h ∙ sym (c.stopped h)) (λ h. d.done h ∙ sym (c.done h)) (below_or_not budget (total_of sequence t));
          values_are =
              d.same_run
              ∙ (ap (λ (x : List ℕ). (machine_at g x t v (min budget (total_of sequence t))).values) w.1 ∙ sym c.same_run);
          rows_are = w.0;
          plan_is = w.1;
        }

  pub run_determined : (answer : Result Report Refusal) (v' : List ℤ) (s p : List ℕ) → Demand1Run g rows plan t v answer v' s p
      → (((n : Refusal) → ¬ RunCase g (length rows) (length plan) t (length v) n) → Demand3Run g t v budget answer v' p)
      → runner.Answered g rows plan t v budget answer v' s p
  run_determined answer v' s p one three = go (whole.answer g rows plan t v budget) refl
    where
      carried : (a : Result Report Refusal) → whole.answer g rows plan t v budget ≡ a → ((n : Refusal) → ¬ (a ≡ Err n))
          → runner.Answered g rows plan t v budget answer v' s p
      carried a e h =
          let none = (run_carried_out g rows plan t v budget).0 (λ n q. h n (sym e ∙ q)) in carried_run none answer v' s p one (three none)

      go : (a : Result Report Refusal) → whole.answer g rows plan t v budget ≡ a → runner.Answered g rows plan t v budget answer v' s p
      go (Err n) e = refused_run n e answer v' s p one
      go (Ok k) e = carried (Ok k) e (λ n q. let z : ◌≡◌ {A = ℕ} 0 1 = cc in omega arith)
