-- What the arrays of a run hold between two actions, and what follows from it: a node is on top, so the total is not reached; it applies a rule, and its next
-- action is one of that rule; and no node is on the stack twice, so the place of the node on top is its own. Assumes nothing.
use Prim.Native.Nat.{ℕ, suc, ◌+◌, ◌*◌, ◌≤◌, ◌<◌}
use mathlib.Core.Path.{◌≡◌, refl, sym, ◌∙◌, ap, ap₂, subst, subst⁻¹}
use mathlib.Core.List.{List, ◌∷◌}
use native.Mathlib.Omega.{arith}
use native.Mathlib.Numerals.{add-one}
use lib.Dec.{T}
use lib.IntN.{ℤ}
use lib.ListN.{length, take, set}
use lib.Seq.{get_or-set_same, set-set, take-set-lt, get_or-take}
use Rattle.grammar.specs.Verdicts.{Good}
use Rattle.grammar.specs.Reading.{read_table}
use Rattle.executing.specs.Located.{Located}
use Rattle.trees.specs.Checking.{check_tree}
use Rattle.runs.specs.Sound.{Sound}
use Rattle.basics.specs.Lists.{word}
use Rattle.grammar.specs.Table.{rules, function_of, defining}
use Rattle.grammar.proofs.AcceptedTable.{defining_occurs}
use Rattle.sequences.specs.Actions.{Action, decode, is_action}
use Rattle.sequences.proofs.ActionNumbers.{decode_compute}
use Rattle.sequences.proofs.ActionLaws.{action_belongs, belongs_compute}
use Rattle.trees.specs.Tree.{nodes, rule_of, applies_rule, cell}
use Rattle.trees.proofs.Cells.{cell_inside}
use Rattle.evaluating.specs.FunctionPlaces.{Valued}
use Rattle.evaluating.proofs.ValuedLaws.{function_valued}
use Rattle.grammar.specs.Limits.{most_occurrences, rule_words, plan_words}
use Rattle.plans.specs.Sequences.{sequence_at, action_at}
use Rattle.runs.specs.Automaton.{Machine, function_for, act, step, after}
use Rattle.runs.specs.Totals.{total}
use Rattle.runs.specs.Balance.{RunGiven, times}
use Rattle.runs.specs.Computing.{machine_at}
use Rattle.runs.proofs.Steps.{action_of_law, step_on_law, times_same}
use Rattle.runs.proofs.Moments.{before_total}
use Rattle.runs.proofs.SequenceCounts.{rule_sound}
use Rattle.runs.proofs.ValuesWritten.{values_length, function_for_law}
use Rattle.runs.proofs.EverySoundPlan.{given, top_node, top_goes_on, top_belongs, stack_once, stack_array}
use Rattle.executing.specs.State.{stack_of, places_of, machine_of}
use Rattle.executing.proofs.StateLaws.{stack_length, places_length, uncovered}

-- What the loop of a run has: an accepted table, a sound plan, an accepted tree, and where the functions start.
pub record RunReady (g p t starts : List ℕ) (entry : List ℤ) : Type 0 where
  pub good : read_table g ≡ Good
  pub sound : Sound g p
  pub planned : plan_words (rules g) ≤ length p
  pub tree : check_tree g t (length entry) ≡ Good
  pub located : Located g starts

pub facts_of : {g p t starts : List ℕ} {entry : List ℤ} → RunReady g p t starts entry → RunGiven g p t (length entry)
facts_of {g} {p} {t} {starts} {entry} k = given g p t entry k.good k.sound k.tree

-- The arrays hold the automaton after `count` actions, with node n of rule r on top at a place.
pub record Core (g p t starts : List ℕ) (entry : List ℤ) (stack marks places : List ℕ) (depth n r place : ℕ) (values : List ℤ) (count budget : ℕ) :
    Type 0 where
  pub checked : RunReady g p t starts entry
  pub stack_size : length stack ≡ 1024
  pub marks_size : length marks ≡ 1024
  pub places_size : length places ≡ 1024
  pub rule_is : r ≡ rule_of t n
  pub high : (i : ℕ) → i < depth → sequence_at (rule_of t (word stack i)) + 1 ≤ word marks i
  pub machine_is : machine_of t stack marks depth places n place values ≡ machine_at g p t entry count
  pub allowed : count ≤ budget

module _ {g p t starts : List ℕ} {entry : List ℤ} {stack marks places : List ℕ} {depth n r place : ℕ} {values : List ℤ} {count budget : ℕ}
    (w : Core g p t starts entry stack marks places depth n r place values count budget) where
  k : RunReady g p t starts entry
  k = w.checked

  pub facts : RunGiven g p t (length entry)
  facts = facts_of k

  -- ---- what the machine is

  abbrev rest : List ℕ
  rest = stack_of stack depth

  pub top_is : (machine_at g p t entry count).stack ≡ n ∷ rest
  unfolding machine_of
  top_is = ap (λ (m : Machine). m.stack) (sym w.machine_is)

  pub places_are : take (nodes t) (places_of t stack marks (set places n place) depth) ≡ (machine_at g p t entry count).places
  unfolding machine_of
  places_are = ap (λ (m : Machine). m.places) w.machine_is

  pub values_are : values ≡ (machine_at g p t entry count).values
  unfolding machine_of
  values_are = ap (λ (m : Machine). m.values) w.machine_is

  -- the values keep their number
  pub values_kept : length values ≡ length entry
  values_kept = ap length values_are ∙ values_length g p t entry count

  -- a node on top says that the total is not reached
  pub goes_on : count < total p t
  goes_on = before_total facts entry count n rest top_is

  -- ---- the node on top applies a rule, and its action is one of that rule

  pub inside : n < nodes t
  inside = (top_node g p t entry k.good k.sound k.tree count n rest top_is).0

  pub applies : T (applies_rule t n)
  applies = (top_node g p t entry k.good k.sound k.tree count n rest top_is).1

  pub rule_known_law : r < rules g
  rule_known_law = omega (arith, w.rule_is, facts.tree.rule_known n inside applies)

  -- the stack with the node on top fits the array
  pub shallow : depth < 1024
  shallow = omega (arith, ap length top_is, stack_length stack depth, stack_array g p t entry k.good k.sound k.tree count)

  -- the node on top is not below itself
  pub once : times n rest ≡ 0
  once =
      omega (arith, stack_once g p t entry k.good k.sound k.tree count n, ap (times n) top_is, times_same n rest)

  -- ---- the place of the node on top

  abbrev held : List ℕ
  held = places_of t stack marks (set places n place) depth

  held_is : held ≡ set (places_of t stack marks places depth) n place
  held_is = uncovered t stack marks places n place depth once

  place_held : word held n ≡ place
  place_held =
      ap (λ (s : List ℕ). word s n) held_is
      ∙ get_or-set_same (places_of t stack marks places depth) n place 0
      (omega (arith, places_length t stack marks places depth, w.places_size, inside, facts.tree.nodes_fit))

  place_taken : word (take (nodes t) held) n ≡ place
  place_taken = get_or-take (nodes t) held n 0 inside ∙ place_held

  place_is : word (machine_at g p t entry count).places n ≡ place
  place_is = ap (λ (s : List ℕ). word s n) (sym places_are) ∙ place_taken

  pub place_fits_law : place + 1 < rule_words
  place_fits_law =
      omega (
        arith,
        place_is,
        top_goes_on g p t entry k.good k.sound k.tree count n rest top_is,
        (rule_sound facts.table facts.sound (rule_of t n) (omega (arith, w.rule_is, rule_known_law))).fits,
      )

  -- after its action it is one further
  next_places : set (take (nodes t) held) n (suc (word (take (nodes t) held) n)) ≡ take (nodes t) (places_of t stack marks (set places n (place + 1)) depth)
  next_places =
      ap (set (take (nodes t) held) n) (ap suc place_taken ∙ sym (add-one place))
      ∙ (sym (take-set-lt (nodes t) held n (place + 1) inside)
      ∙ ap (take (nodes t))
      (ap (λ (s : List ℕ). set s n (place + 1)) held_is
      ∙ (set-set (places_of t stack marks places depth) n place (place + 1)
      ∙ sym (uncovered t stack marks places n (place + 1) depth once))))

  -- ---- one action

  module _ {action : ℕ} (is_act : action ≡ action_at p r place) where
    action_at_law : action_at p (rule_of t n) place ≡ action
    action_at_law = ap (λ (x : ℕ). action_at p x place) (sym w.rule_is) ∙ sym is_act

    pub belongs : T (is_action g p (rule_of t n) action)
    belongs =
        subst (λ (a : ℕ). T (is_action g p (rule_of t n) a)) (ap (action_at p (rule_of t n)) place_is ∙ action_at_law)
        (top_belongs g p t entry k.good k.sound k.tree count n rest top_is)

    pub next : (a : Action) → decode action ≡ a
        → act g t a n rest (take (nodes t) (places_of t stack marks (set places n (place + 1)) depth)) values ≡ machine_at g p t entry (count + 1)
    unfolding after machine_of
    next a e =
        let m : Machine = machine_of t stack marks depth places n place values in
        sym
        (ap (machine_at g p t entry) (add-one count)
        ∙ (ap (step g p t) (sym w.machine_is)
        ∙ (step_on_law g p t m n rest a refl
        (action_of_law p t (take (nodes t) held) n ∙ (ap decode (ap (action_at p (rule_of t n)) place_taken ∙ action_at_law) ∙ e))
        ∙ ap (λ (s : List ℕ). act g t a n rest s values) next_places)))

    -- a compute's occurrence is a defining one, so its function starts where it is noted, what that reads is there, and its cell is one of the values
    pub defines : action < 64 → T (defining g (rule_of t n) action)
    defines h = belongs_compute g p (rule_of t n) action (action_belongs g p (rule_of t n) action _ (decode_compute action h) belongs)

    pub function_is : action < 64 → {f : ℕ} → f ≡ word starts (most_occurrences * r + action) → f ≡ function_of g (rule_of t n) (function_for g (rule_of t n) action)
    function_is h e =
        let r' : ℕ = rule_of t n in
        let known : r' < rules g = omega (arith, w.rule_is, rule_known_law) in
        let v = facts.table.defined r' action known (defines h) in
        e
        ∙ (ap₂ (λ (x o : ℕ). word starts (most_occurrences * x + o)) w.rule_is (sym v.2)
        ∙ (k.located r' known v.0 v.1
        ∙ (ap (function_of g r') (sym (function_for_law facts.table r' v.0 known v.1))
        ∙ ap (λ (o : ℕ). function_of g r' (function_for g r' o)) v.2)))

    pub core_valued : action < 64 → {f : ℕ} → f ≡ word starts (most_occurrences * r + action) → Valued g f t n (length values)
    core_valued h {f} e =
        let r' : ℕ = rule_of t n in
        let known : r' < rules g = omega (arith, w.rule_is, rule_known_law) in
        let v = facts.table.defined r' action known (defines h) in
        let i : function_for g r' action ≡ v.0 = ap (function_for g r') (sym v.2) ∙ function_for_law facts.table r' v.0 known v.1 in
        subst⁻¹ (λ (l : ℕ). Valued g f t n l) values_kept
        (function_valued facts.table facts.tree n v.0 f inside applies v.1 (function_is h e ∙ ap (function_of g r') i))

    pub core_cell : action < 64 → cell t n action < length values
    core_cell h =
        omega (
          arith,
          cell_inside facts.table facts.tree n action inside applies (defining_occurs g (rule_of t n) action (defines h)),
          facts.tree.values_fit,
          values_kept,
        )
