-- The loop of a run: its turns are the actions that are done, and the plan's word says the place of the node on top; so a budget used up with a
-- node on top stops, and a leave that finds no node below is the last of the total. Assumes nothing.
use Prim.Native.Nat.{ℕ, zero, suc, ◌+◌, ◌*◌, ◌-◌, ◌≤◌, ◌<◌}
use mathlib.Core.Path.{◌≡◌, refl, sym, ◌∙◌, ap, subst⁻¹}
use mathlib.Core.List.{List, ◌∷◌}
use native.Mathlib.Omega.{arith}
use lib.IntN.{ℤ}
use lib.ListN.{length, take, set, replicate, length-replicate}
use lib.Seq.{set-get_or}
use Rattle.basics.specs.Lists.{word}
use Rattle.trees.specs.Tree.{most_nodes, nodes, rule_of, child, cell}
use Rattle.evaluating.specs.FunctionPlaces.{Valued}
use Rattle.runs.specs.declared.Ran as R
use Rattle.grammar.specs.Limits.{most_occurrences, most_rules, rule_words, plan_words}
use Rattle.plans.specs.Sequences.{sequence_at, action_at}
use Rattle.runs.specs.Automaton.{started, after}
use Rattle.runs.specs.Run.{ran}
use Rattle.runs.proofs.Steps.{all_zero}
use Rattle.grammar.specs.Verdicts.{Good}
use Rattle.grammar.specs.Table.{rules}
use Rattle.grammar.specs.Reading.{read_table}
use Rattle.trees.specs.Checking.{check_tree}
use Rattle.runs.specs.Sound.{Sound}
use Rattle.executing.specs.declared.Action as A
use Rattle.executing.specs.declared.Frame.{Frame}
use Rattle.executing.specs.declared.Stack.{Stack}
use Rattle.executing.specs.declared.Top.{Top}
use Rattle.executing.specs.Located.{Located}
use Rattle.executing.specs.State.{stack_of, relative, places_of, machine_of, nodes_in, marks_in, written, Placed, Standing, Visited, Resumed, Popped, StandsFor}
use Rattle.executing.proofs.StateLaws.{same_machine, no_frame, nodes_zero, marks_zero}
use Rattle.executing.proofs.HeldLaws.{RunReady, Core, facts, facts_of, values_kept, inside, rule_known_law, shallow, place_fits_law, core_valued, core_cell}
use Rattle.executing.proofs.TurnLaws.{core_compute, core_visit, core_leave, core_done, core_done_values, core_parent, core_stopped, core_stopped_values}

-- the places of a tree's nodes are zeros where all places are
take_replicate : (m n : ℕ) → m ≤ n → take {A = ℕ} m (replicate n 0) ≡ replicate m 0
take_replicate zero n h = refl
take_replicate (suc m) zero h = absurd (omega arith)
take_replicate (suc m) (suc n) h = ap (λ (s : List ℕ). 0 ∷ s) (take_replicate m n (omega arith))

-- The same with what follows from it as plain numbers.
pub record Running (g p t starts : List ℕ) (entry : List ℤ) (stack marks places : List ℕ) (depth n r place : ℕ) (values : List ℤ) (count budget : ℕ) :
    Type 0 where
  pub core : Core g p t starts entry stack marks places depth n r place values count budget
  pub nodes_fit : nodes t ≤ most_nodes
  pub node : n < nodes t
  pub rule : r < most_rules
  pub planned : plan_words (r + 1) ≤ length p
  pub low : depth < most_nodes
  pub place_fits : place + 1 < rule_words
  pub values_size : length values ≡ length entry

running : {g p t starts : List ℕ} {entry : List ℤ} {stack marks places : List ℕ} {depth n r place : ℕ} {values : List ℤ} {count budget : ℕ}
    → Core g p t starts entry stack marks places depth n r place values count budget
    → Running g p t starts entry stack marks places depth n r place values count budget
running w =
    record {
      core = w;
      nodes_fit = (facts w).tree.nodes_fit;
      node = inside w;
      rule = omega (arith, rule_known_law w, (facts w).table.rules_fit);
      planned = omega (arith, rule_known_law w, w.checked.planned);
      low = shallow w;
      place_fits = place_fits_law w;
      values_size = values_kept w;
    }

-- The loop's invariant: the plan's word says the place.
pub record LoopAt (g p t starts : List ℕ) (entry : List ℤ) (stack marks places : List ℕ) (depth n r at : ℕ) (values : List ℤ) (count budget : ℕ) :
    Type 0 where
  pub place : ℕ
  pub at_is : at ≡ sequence_at r + 1 + place
  pub runs : Running g p t starts entry stack marks places depth n r place values count budget

-- "It starts with the root at its first action."
checked_start : {g p t starts : List ℕ} {entry : List ℤ} {r : ℕ} → RunReady g p t starts entry → r ≡ rule_of t 0 → (budget : ℕ)
    → Core g p t starts entry (replicate most_nodes 0) (replicate most_nodes 0) (replicate most_nodes 0) 0 0 r 0 entry 0 budget
unfolding machine_of stack_of places_of started after
checked_start {g} {p} {t} {starts} {entry} k e budget =
    let zeros : List ℕ = replicate most_nodes 0 in
    record {
      checked = k;
      stack_size = length-replicate {A = ℕ} most_nodes 0;
      marks_size = length-replicate {A = ℕ} most_nodes 0;
      places_size = length-replicate {A = ℕ} most_nodes 0;
      rule_is = e;
      high = λ i l. absurd (omega arith);
      machine_is =
          same_machine refl
          (ap (take (nodes t)) (ap (set zeros 0) (sym (all_zero most_nodes 0)) ∙ set-get_or zeros 0 0)
          ∙ take_replicate (nodes t) most_nodes (facts_of k).tree.nodes_fit)
          refl;
      allowed = omega arith;
    }

module _ (g p t starts : List ℕ) (entry : List ℤ) (good : read_table g ≡ Good) (sound : Sound g p) (planned : plan_words (rules g) ≤ length p)
    (tree : check_tree g t (length entry) ≡ Good) (located : Located g starts) where
  begun : (budget : ℕ) → Core g p t starts entry (replicate most_nodes 0) (replicate most_nodes 0) (replicate most_nodes 0) 0 0 (rule_of t 0) 0 entry 0 budget
  begun = checked_start (record { good = good; sound = sound; planned = planned; tree = tree; located = located }) refl

  pub root_placed : Placed t 0
  root_placed =
      let w = running (begun 0) in
      record { inside = w.node; small = omega (arith, w.node, w.nodes_fit); rule = w.rule }

  pub loop_start : {n r at : ℕ} → Standing t 0 0 n r at → (budget : ℕ)
      → LoopAt g p t starts entry (nodes_in (replicate most_nodes no_frame)) (marks_in (replicate most_nodes no_frame)) (replicate most_nodes 0) 0 n r at entry 0 budget
  loop_start {n} {r} {at} s budget =
      let zeros : List ℕ = replicate most_nodes 0 in
      subst⁻¹ (λ (l : List ℕ). LoopAt g p t starts entry l (marks_in (replicate most_nodes no_frame)) zeros 0 n r at entry 0 budget) (nodes_zero most_nodes)
      (subst⁻¹ (λ (l : List ℕ). LoopAt g p t starts entry zeros l zeros 0 n r at entry 0 budget) (marks_zero most_nodes)
      (record {
        place = 0;
        at_is = omega (arith, s.at_is);
        runs =
            running
            (subst⁻¹ (λ (m : ℕ). Core g p t starts entry zeros zeros zeros 0 m r 0 entry 0 budget) s.node_is
            (subst⁻¹ (λ (q : ℕ). Core g p t starts entry zeros zeros zeros 0 0 q 0 entry 0 budget) s.rule_is (begun budget)));
      }))

module _ {g p t starts : List ℕ} {entry : List ℤ} {stack marks places : List ℕ} {depth n r at : ℕ} {values : List ℤ} {count budget : ℕ}
    (w : LoopAt g p t starts entry stack marks places depth n r at values count budget) where
  top : Core g p t starts entry stack marks places depth n r w.place values count budget
  top = w.runs.core

  pub stopped_answer : budget ≤ count → R.TheVariants.Stopped budget ≡ (ran g p t entry budget).answer
  stopped_answer e = core_stopped top (omega (arith, top.allowed))

  pub stopped_values : budget ≤ count → values ≡ (ran g p t entry budget).machine.values
  stopped_values e = core_stopped_values top (omega (arith, top.allowed))

  module _ {action : ℕ} (spent : count < budget) (is_word : action ≡ word p at) where
    is_action : action ≡ action_at p r w.place
    unfolding action_at
    is_action = let e : at ≡ sequence_at r + 1 + w.place = omega (arith, w.at_is) in is_word ∙ ap (word p) e

    -- what a compute reads and writes is there
    pub valued : {o f : ℕ} → StandsFor action (A.TheVariants.Compute o) → f ≡ word starts (most_occurrences * r + o) → Valued g f t n (length values)
    valued {o} {f} h e = core_valued top is_action h.0 (e ∙ ap (λ (x : ℕ). word starts (most_occurrences * r + x)) h.1)

    pub cell_there : {o : ℕ} → StandsFor action (A.TheVariants.Compute o) → cell t n o < length values
    cell_there h = subst⁻¹ (λ (x : ℕ). cell t n x < length values) h.1 (core_cell top is_action h.0)

    pub child_placed : {i : ℕ} → StandsFor action (A.TheVariants.Visit i) → Placed t (child t n i)
    child_placed {i} h =
        let v = running (core_visit top is_action h.0 h.1.0 refl refl refl spent) in
        subst⁻¹ (λ (x : ℕ). Placed t (child t n x)) h.1.1 (record { inside = v.node; small = omega (arith, v.node, v.nodes_fit); rule = v.rule })

    pub parent_there : 128 ≤ action → {m : ℕ} (d : ℕ) → depth ≡ d + 1 → m ≡ word stack d → m < nodes t
    parent_there h d e a = core_parent top is_action h (omega arith) a

    -- one action more
    pub turn_compute : {o f : ℕ} → StandsFor action (A.TheVariants.Compute o) → f ≡ word starts (most_occurrences * r + o) → {after : List ℤ}
        → after ≡ written g t values n o f → LoopAt g p t starts entry stack marks places depth n r (at + 1) after (count + 1) budget
    turn_compute {o} {f} h e {after} q =
        let e' : f ≡ word starts (most_occurrences * r + action) = e ∙ ap (λ (x : ℕ). word starts (most_occurrences * r + x)) h.1 in
        let q' : after ≡ written g t values n action f = q ∙ ap (λ (x : ℕ). written g t values n x f) h.1 in
        record { place = w.place + 1; at_is = omega (arith, w.at_is); runs = running (core_compute top is_action h.0 e' q' spent) }

    pub turn_visit : {i : ℕ} → StandsFor action (A.TheVariants.Visit i) → {stack' marks' : List ℕ} {d c r' q : ℕ} → d ≡ depth + 1 → stack' ≡ set stack depth n
        → marks' ≡ set marks depth (at + 1) → Visited t places n i c r' q → LoopAt g p t starts entry stack' marks' places d c r' q values (count + 1) budget
    turn_visit h {stack'} {marks'} {d} {c} {r'} {q} i a b v =
        subst⁻¹ (λ (x : ℕ). LoopAt g p t starts entry stack' marks' places x c r' q values (count + 1) budget) i
        (subst⁻¹ (λ (s : List ℕ). LoopAt g p t starts entry s marks' places (depth + 1) c r' q values (count + 1) budget) a
        (subst⁻¹ (λ (m : List ℕ). LoopAt g p t starts entry (set stack depth n) m places (depth + 1) c r' q values (count + 1) budget) b
        (record {
          place = word places c;
          at_is = v.at_is;
          runs = running (core_visit top is_action h.0 h.1.0 (v.node_is ∙ ap (child t n) h.1.1) v.rule_is (omega (arith, w.at_is)) spent);
        })))

    pub turn_leave : 128 ≤ action → (d : ℕ) {x m r' q : ℕ} → depth ≡ d + 1 → x ≡ sequence_at r + 1 → m ≡ word stack d → q ≡ word marks d → r' ≡ rule_of t m
        → LoopAt g p t starts entry stack marks (set places n (at + 1 - x)) d m r' q values (count + 1) budget
    turn_leave h d {x} {m} {r'} {q} e i a b f =
        record {
          place = relative t m q;
          at_is = omega (arith, f, top.high d (omega arith), ap (rule_of t) a, b);
          runs = running (core_leave top is_action h (omega arith) a b (omega (arith, w.at_is)) f spent);
        }

    -- the last leave
    pub done_answer : 128 ≤ action → depth ≡ 0 → R.TheVariants.Done (count + 1) ≡ (ran g p t entry budget).answer
    done_answer h e = core_done top is_action h e spent

    pub done_values : 128 ≤ action → depth ≡ 0 → values ≡ (ran g p t entry budget).machine.values
    done_values h e = core_done_values top is_action h e spent

-- The same of the stack and the node on top as the code has them.
abbrev pub AtTurn : List ℕ → List ℕ → List ℕ → List ℕ → List ℤ → Stack → List ℕ → Top → List ℤ → ℕ → ℕ → Type 0
AtTurn g p t starts entry stack places top values count budget =
    LoopAt g p t starts entry (nodes_in stack.frames) (marks_in stack.frames) places stack.depth top.n top.r top.at values count budget

-- a leave pops the node below
pub popped_there : {g p t starts : List ℕ} {entry : List ℤ} {stack stack' : Stack} {places : List ℕ} {top : Top} {values : List ℤ} {count budget action : ℕ}
    {below : Frame} → AtTurn g p t starts entry stack places top values count budget → count < budget → action ≡ word p top.at → 128 ≤ action
    → Popped stack stack' below → below.node < nodes t
popped_there {stack' = stack'} w l e h v = parent_there w l e h stack'.depth v.depth_is v.node_is

pub popped_turn : {g p t starts : List ℕ} {entry : List ℤ} {stack stack' : Stack} {places : List ℕ} {top top' : Top} {values : List ℤ} {count budget action x : ℕ}
    {below : Frame} → AtTurn g p t starts entry stack places top values count budget → count < budget → action ≡ word p top.at → 128 ≤ action
    → x ≡ sequence_at top.r + 1 → Popped stack stack' below → Resumed t below top'.n top'.r top'.at
    → AtTurn g p t starts entry stack' (set places top.n (top.at + 1 - x)) top' values (count + 1) budget
popped_turn {g} {p} {t} {starts} {entry} {stack} {stack'} {places} {top} {top'} {values} {count} {budget} {action} {x} w l e h i v s =
    subst⁻¹
    (λ (f : List Frame). LoopAt g p t starts entry (nodes_in f) (marks_in f) (set places top.n (top.at + 1 - x)) stack'.depth top'.n top'.r top'.at values (count + 1) budget)
    v.frames_are
    (turn_leave w l e h stack'.depth v.depth_is i (s.node_is ∙ v.node_is) (s.at_is ∙ v.mark_is) s.rule_is)

-- where the ways through a turn meet
pub same_turn : {g p t starts : List ℕ} {entry : List ℤ} {stack stack' : Stack} {places places' : List ℕ} {top top' : Top} {values values' : List ℤ} {count budget : ℕ}
    → stack' ≡ stack → places' ≡ places → top' ≡ top → values' ≡ values → AtTurn g p t starts entry stack places top values count budget
    → AtTurn g p t starts entry stack' places' top' values' count budget
same_turn {g} {p} {t} {starts} {entry} {stack} {stack'} {places} {places'} {top} {top'} {values} {values'} {count} {budget} a b c d w =
    subst⁻¹ (λ (s : Stack). AtTurn g p t starts entry s places' top' values' count budget) a
    (subst⁻¹ (λ (s : List ℕ). AtTurn g p t starts entry stack s top' values' count budget) b
    (subst⁻¹ (λ (s : Top). AtTurn g p t starts entry stack places s values' count budget) c
    (subst⁻¹ (λ (s : List ℤ). AtTurn g p t starts entry stack places top s count budget) d w)))
