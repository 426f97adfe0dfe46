-- The words of a plan, block after block: the set words, then the sequence of each rule.
-- Assumes nothing.
use Prim.Native.Nat.{ℕ, ◌+◌, ◌*◌, ◌-◌, ◌≤◌, ◌<◌}
use mathlib.Core.Path.{◌≡◌, refl, sym, ◌∙◌, ap, ap₂, subst, subst⁻¹}
use mathlib.Core.List.{List, ◌++◌, append_assoc}
use native.Mathlib.Omega.{arith}
use native.Mathlib.Numerals.{add-one}
use native.Mathlib.Nat.{mul_comm}
use lib.ListN.{length, get_or, drop, length-append}
use lib.Seq.{take-append_seam, drop-append-add, drop-drop}
use Rattle.basics.specs.Lists.{word, blocks}
use Rattle.basics.proofs.ListLaws.{length_blocks, length_padded}
use Rattle.grammar.specs.Limits.{most_symbols, most_rules, most_occurrences, rule_words, plan_words}
use Rattle.grammar.specs.Table.{symbols, rules}
use Rattle.grammar.specs.Verdicts.{Good}
use Rattle.grammar.specs.Reading.{read_table}
use Rattle.grammar.proofs.AcceptedTable.{accepted}
use Rattle.relations.specs.Computed.{ids_of}
use Rattle.sets.specs.Computed.{sets_of}
use Rattle.sets.specs.Visits.{visits}
use Rattle.sets.proofs.SetWords.{length_sets}
use Rattle.sets.proofs.Visits.{visits_five}
use Rattle.sequences.specs.Order.{sequence_of}
use Rattle.sequences.proofs.PlannedSequences.{planned_short}
use Rattle.plans.specs.Buffers.{over, sequence_words, plan_of}
use Rattle.plans.specs.Answer.{edp_paths, sequences_of, accepted_plan}
use Rattle.plans.proofs.Answers.{no_idp_cycle_law, no_edp_cycle_law}
use Rattle.access.specs.Offsets.{offsets_for}
use Rattle.access.specs.declared.Table.{Table}
use Rattle.access.proofs.TableLaws.{rule_in}
use Rattle.access.proofs.Accessors.{offset_is, rule_near}
use Rattle.plans.proofs.RowWords.{over_size, over_row}
use Rattle.remaining.specs.declared.ByVisit.{ByVisit as Kept}
use Rattle.remaining.specs.RuleSets.{FewVisits, ByVisit}
use Rattle.sequencing.specs.Given.{RuleGiven as Given, set_words, with_block as written}
use Rattle.planner.specs.Stages.{OrderedStage, sets}

-- a block written after what is already written
over_written : (done block lent : List ℕ) → written (over done lent) (length done) block ≡ over (done ++ block) lent
unfolding written over
over_written done block lent =
    ap (λ (x : List ℕ). x ++ (block ++ drop (length done + length block) (done ++ drop (length done) lent))) (take-append_seam done (drop (length done) lent))
    ∙ (ap (λ (x : List ℕ). done ++ (block ++ x))
    (drop-append-add done (drop (length done) lent) (length block) ∙ (drop-drop (length block) (length done) lent
    ∙ ap (λ (n : ℕ). drop n lent) (sym (length-append done block))))
    ∙ sym (append_assoc done block (drop (length (done ++ block)) lent)))

-- what is written twice is as the longer, second writing left it
pub over_over : (a b lent : List ℕ) → length b ≤ length a → over a (over b lent) ≡ over a lent
unfolding over
over_over a b lent h =
    let n : ℕ = length a - length b in
    let e : length b + n ≡ length a = omega arith in
    ap (λ (x : List ℕ). a ++ x)
    (ap (λ (k : ℕ). drop k (b ++ drop (length b) lent)) (sym e)
    ∙ (drop-append-add b (drop (length b) lent) n ∙ (drop-drop n (length b) lent ∙ ap (λ (k : ℕ). drop k lent) e)))

-- a block written at the start
pub first_written : (block lent : List ℕ) → written lent 0 block ≡ over block lent
unfolding written over
first_written block lent =
    let e : 0 + length block ≡ length block = omega arith in ap (λ (n : ℕ). block ++ drop n lent) e

-- the words of the first r rules' sequences
abbrev sequences : List ℕ → ℕ → List ℕ
sequences g r = blocks r (λ q. sequence_words (sequences_of g q))

sequence_length : (g : List ℕ) (q : ℕ) → length (sequence_words (sequences_of g q)) ≡ rule_words
unfolding sequence_words sequences_of
sequence_length g q = length_padded rule_words _ (omega (arith, planned_short g q))

done_length : (g : List ℕ) (r : ℕ) → length (sets g ++ sequences g r) ≡ plan_words r
done_length g r =
    length-append (sets g) (sequences g r)
    ∙ ap₂ (λ (a b : ℕ). a + b) (length_sets g (ids_of g))
    (length_blocks rule_words r (λ q. sequence_words (sequences_of g q)) (λ q h. sequence_length g q) ∙ mul_comm r rule_words)

pub accepted_length : (g : List ℕ) → length (accepted_plan g) ≡ plan_words (rules g)
unfolding accepted_plan plan_of
accepted_length g = done_length g (rules g)

-- the set words and the first r sequences are written
pub record PlanTo (g s rows entry plan : List ℕ) (r : ℕ) : Type 0 where
  pub ready : OrderedStage g s rows (length entry)
  pub inside : r ≤ rules g
  pub words : plan ≡ over (sets g ++ sequences g r) entry

pub plan_start : (g s rows lent entry : List ℕ) → OrderedStage g s rows (length lent) → entry ≡ written lent 0 s
    → PlanTo g s rows entry entry 0
unfolding blocks
plan_start g s rows lent entry w e =
    let q : entry ≡ over (sets g) lent = e ∙ (first_written s lent ∙ ap (λ (x : List ℕ). over x lent) w.sets_are) in
    record {
      ready = subst⁻¹ (OrderedStage g s rows) (ap length q ∙ over_size (sets g) lent (omega (arith, length_sets g (ids_of g), w.plan_room))) w;
      inside = omega arith;
      words =
          q ∙ (sym (over_over (sets g) (sets g) lent (omega arith))
          ∙ (ap (over (sets g)) (sym q) ∙ ap (λ (x : List ℕ). over x entry) (sym (mathlib.Core.List.append-nil (sets g)))));
    }

pub write_room : (g s rows : List ℕ) (n : ℕ) → OrderedStage g s rows n → 0 + length s ≤ n
write_room g s rows n w = omega (arith, ap length w.sets_are, length_sets g (ids_of g), w.plan_room)

pub plan_rule : (g s rows entry plan : List ℕ) (r n : ℕ) → read_table g ≡ Good → PlanTo g s rows entry plan r → n ≡ rules g → r < n → r < most_rules
plan_rule g s rows entry plan r n good w m h = omega (arith, (accepted g good).rules_fit)

pub plan_length_law : (g s rows entry plan : List ℕ) (r : ℕ) → PlanTo g s rows entry plan r → length plan ≡ length entry
plan_length_law g s rows entry plan r w =
    ap length w.words
    ∙ over_size (sets g ++ sequences g r) entry (omega (arith, done_length g r, w.inside, w.ready.plan_room))

pub plan_kept : (g s rows lent entry plan : List ℕ) (r : ℕ) → OrderedStage g s rows (length lent) → entry ≡ written lent 0 s
    → PlanTo g s rows entry plan r → length plan ≡ length lent
plan_kept g s rows lent entry plan r d e w =
    plan_length_law g s rows entry plan r w
    ∙ (ap length (e ∙ first_written s lent)
    ∙ over_size s lent (omega (arith, ap length d.sets_are, length_sets g (ids_of g), d.plan_room)))

-- the table by visit: the symbols and their visits are few
pub by_symbols : (g : List ℕ) → read_table g ≡ Good → symbols g ≤ most_symbols
by_symbols g good = (accepted g good).symbols_fit

pub by_few : (g s rows : List ℕ) (n : ℕ) → OrderedStage g s rows n → FewVisits s
by_few g s rows n w x = subst⁻¹ (λ (y : List ℕ). visits y x ≤ 5) w.sets_are (visits_five g (ids_of g) x)

-- a rule of the table starts near
pub plan_near : (t : Table) (r p n : ℕ) → n ≡ rules t.words.now → r < n → p ≡ get_or t.offsets r 0 → p < 65536
plan_near t r p n m h e = rule_near t.words.now t.offsets r (rule_in t r (omega arith)) p e

-- what the sequence of rule r asks for
pub plan_given : (g offsets s : List ℕ) (by : Kept) (rows entry plan : List ℕ) (r p n : ℕ) → read_table g ≡ Good → offsets ≡ offsets_for g Good → PlanTo g s rows entry plan r → ByVisit g s by → n ≡ rules g → r < n
    → p ≡ get_or offsets r 0 → Given g (set_words g) by rows p r
plan_given g offsets s by rows entry plan r p n good starts w seen m h e =
    let d = w.ready in
    let l : r < rules g = omega arith in
    record {
      good = good;
      counts = l;
      starts = offset_is g offsets r p starts l e;
      sets = refl;
      by_visit = subst (λ (x : List ℕ). ByVisit g x by) d.sets_are seen;
      noncircular = no_idp_cycle_law g good d.no_idp_cycle;
      ordered = no_edp_cycle_law g good d.no_edp_cycle;
      room = d.size;
      paths = λ o b. ap (λ (x : List ℕ). word x (most_occurrences * r + o)) d.paths ∙ over_row g (edp_paths g (ids_of g) (set_words g)) rows r o l b;
    }

pub plan_fits : (g s rows entry plan : List ℕ) (r : ℕ) → PlanTo g s rows entry plan r → plan_words (rules g) ≤ length plan
plan_fits g s rows entry plan r w = omega (arith, plan_length_law g s rows entry plan r w, w.ready.plan_room)

pub plan_turn : (g s rows entry plan next : List ℕ) (r n : ℕ) → PlanTo g s rows entry plan r → n ≡ rules g → r < n
    → next ≡ written plan (plan_words r) (sequence_words (sequence_of g (ids_of g) (sets_of g (ids_of g)) r))
    → PlanTo g s rows entry next (r + 1)
unfolding sequences_of blocks
plan_turn g s rows entry plan next r n w m h e =
    let block : List ℕ = sequence_words (sequences_of g r) in
    record {
      ready = w.ready;
      inside = omega arith;
      words =
          e ∙ (ap₂ (λ (p : List ℕ) (k : ℕ). written p k block) w.words (sym (done_length g r))
          ∙ (over_written (sets g ++ sequences g r) block entry
          ∙ ap (λ (x : List ℕ). over x entry) (append_assoc (sets g) (sequences g r) block
          ∙ ap (λ (k : ℕ). sets g ++ sequences g k) (sym (add-one r)))));
    }

pub plan_finish : (g s rows lent entry plan : List ℕ) (r n : ℕ) → PlanTo g s rows entry plan r → n ≡ rules g → n ≤ r
    → entry ≡ written lent 0 s → plan ≡ over (accepted_plan g) lent
unfolding accepted_plan plan_of
plan_finish g s rows lent entry plan r n w m h e =
    let k : r ≡ rules g = omega (arith, w.inside) in
    let q : entry ≡ over (sets g) lent = e ∙ (first_written s lent ∙ ap (λ (x : List ℕ). over x lent) w.ready.sets_are) in
    w.words
    ∙ (ap (over (sets g ++ sequences g r)) q
    ∙ (over_over (sets g ++ sequences g r) (sets g) lent (omega (arith, length-append (sets g) (sequences g r)))
    ∙ ap (λ (k : ℕ). over (sets g ++ sequences g k) lent) k))
