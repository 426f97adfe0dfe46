-- What one action does to the arrays is what the automaton's step does to the machine that they hold: a compute writes one value, a visit pushes the child, a
-- leave pops; a leave that finds no node below reaches the total. Assumes nothing.
use Prim.Native.Nat.{ℕ, suc, ◌+◌, ◌*◌, ◌-◌, ◌/◌, ◌%◌, ◌≤◌, ◌<◌, min}
use mathlib.Core.Path.{◌≡◌, refl, sym, ◌∙◌, ap, ap₂}
use mathlib.Core.Logic.{⊎_elim}
use mathlib.Core.List.{List, [], ◌∷◌}
use native.Mathlib.Omega.{arith}
use lib.IntN.{ℤ}
use lib.ListN.{length, take, set, length-set}
use lib.Seq.{get_or-set_same, get_or-set_other, set-get_or}
use Rattle.basics.specs.Lists.{word}
use Rattle.basics.proofs.TestLaws.{below_suc, below_or_not}
use Rattle.sequences.specs.Actions.{compute, visit, leave}
use Rattle.sequences.proofs.ActionNumbers.{decode_compute, decode_visit, decode_leave}
use Rattle.sequences.proofs.ActionLaws.{action_below}
use Rattle.grammar.specs.Limits.{most_occurrences}
use Rattle.trees.specs.Tree.{nodes, rule_of, child, cell}
use Rattle.evaluating.proofs.PlaceLaws.{by_number}
use Rattle.runs.specs.declared.Ran as R
use Rattle.plans.specs.Sequences.{sequence_at, action_at}
use Rattle.runs.specs.Automaton.{Machine, function_for, computed, act}
use Rattle.runs.specs.Totals.{total}
use Rattle.runs.specs.Run.{ran}
use Rattle.runs.specs.Computing.{machine_at}
use Rattle.runs.proofs.EverySoundPlan.{run_done, run_stopped, run_machine, run_busy, top_node}
use Rattle.executing.specs.State.{stack_of, relative, places_of, machine_of, written}
use Rattle.executing.proofs.StateLaws.{same_machine, stack_push, places_push}
use Rattle.executing.proofs.HeldLaws.{Core, values_are, goes_on, shallow, next, belongs, function_is}

-- a stack with a node on top is not empty
no_empty : {s rest : List ℕ} {n : ℕ} → s ≡ n ∷ rest → s ≡ [] → ⊥
no_empty {s} {rest} {n} e f = let z : ◌≡◌ {A = ℕ} 1 0 = omega (arith, ap length (sym e ∙ f)) in omega arith

module _ {g p t starts : List ℕ} {entry : List ℤ} {stack marks places : List ℕ} {depth n r place : ℕ} {values : List ℤ} {count budget : ℕ}
    (w : Core g p t starts entry stack marks places depth n r place values count budget) where
  module _ {action : ℕ} (is_act : action ≡ action_at p r place) where
    -- "A compute writes one value"
    pub core_compute : action < 64 → {f : ℕ} → f ≡ word starts (most_occurrences * r + action) → {after : List ℤ} → after ≡ written g t values n action f → count < budget
        → Core g p t starts entry stack marks places depth n r (place + 1) after (count + 1) budget
    unfolding machine_of written act computed
    core_compute h {f} e q more =
        record {
          checked = w.checked;
          stack_size = w.stack_size;
          marks_size = w.marks_size;
          places_size = w.places_size;
          rule_is = w.rule_is;
          high = w.high;
          machine_is =
              same_machine refl refl
              (q ∙ ap (set values (cell t n action)) (by_number g t values n (function_for g (rule_of t n) action) f (function_is w is_act h e)))
              ∙ next w is_act (compute action) (decode_compute action h);
          allowed = omega arith;
        }

    -- "a visit pushes the child, which resumes after its last leave"
    pub core_visit : 64 ≤ action → action < 128 → {c r' q : ℕ} → c ≡ child t n ((action - 64) / 8) → r' ≡ rule_of t c → q ≡ sequence_at r + 2 + place
        → count < budget
        → Core g p t starts entry (set stack depth n) (set marks depth q) places (depth + 1) c r' (word places c) values (count + 1) budget
    unfolding machine_of act
    core_visit h l {c} {r'} {q} e f i more =
        let room : depth < length stack = omega (arith, shallow w, w.stack_size) in
        let room' : depth < length marks = omega (arith, shallow w, w.marks_size) in
        record {
          checked = w.checked;
          stack_size = length-set stack depth n ∙ w.stack_size;
          marks_size = length-set marks depth q ∙ w.marks_size;
          places_size = w.places_size;
          rule_is = f;
          high = λ j b.
              ⊎_elim
              (λ s.
              let d : j ≡ depth → ⊥ = λ z. omega arith in
              omega (arith, w.high j s, ap (rule_of t) (get_or-set_other stack depth j n 0 d), get_or-set_other marks depth j q 0 d))
              (λ s.
              omega (
                arith,
                i,
                w.rule_is,
                ap (λ (x : ℕ). rule_of t (word (set stack depth n) x)) s,
                ap (rule_of t) (get_or-set_same stack depth n 0 room),
                ap (word (set marks depth q)) s,
                get_or-set_same marks depth q 0 room',
              ))
              (below_suc j depth (omega arith));
          machine_is =
              same_machine (ap₂ (λ (x : ℕ) (s : List ℕ). x ∷ s) e (stack_push stack depth n room))
              (ap (take (nodes t))
              (ap (λ (s : List ℕ). places_of t (set stack depth n) (set marks depth q) s (depth + 1)) (set-get_or places c 0)
              ∙ places_push t stack marks places n q (place + 1) depth room room' (omega (arith, i, w.rule_is))))
              refl
              ∙ next w is_act (visit ((action - 64) / 8) (action % 8 + 1)) (decode_visit action h l);
          allowed = omega arith;
        }

    left_machine : 128 ≤ action
        → record { stack = (stack_of stack depth); places = take (nodes t) (places_of t stack marks (set places n (place + 1)) depth); values = values }
        ≡ machine_at g p t entry (count + 1)
    unfolding act
    left_machine h = next w is_act (leave (action - 128 + 1)) (decode_leave action h (action_below g p (rule_of t n) action (belongs w is_act)))

    -- "a leave pops"
    pub core_leave : 128 ≤ action → {d m q v : ℕ} → depth ≡ suc d → m ≡ word stack d → q ≡ word marks d → v ≡ place + 1 → {r' : ℕ} → r' ≡ rule_of t m
        → count < budget
        → Core g p t starts entry stack marks (set places n v) d m r' (relative t m q) values (count + 1) budget
    unfolding machine_of stack_of places_of
    core_leave h {d} {m} {q} {v} e a b s f more =
        record {
          checked = w.checked;
          stack_size = w.stack_size;
          marks_size = w.marks_size;
          places_size = length-set places n v ∙ w.places_size;
          rule_is = f;
          high = λ i l. w.high i (omega arith);
          machine_is =
              ap₂ (λ (x y : ℕ). machine_of t stack marks d (set places n v) x (relative t x y) values) a b
              ∙ (ap (λ (y : ℕ). machine_of t stack marks d (set places n y) (word stack d) (relative t (word stack d) (word marks d)) values) s
              ∙ (ap (λ (x : ℕ). popped x) (sym e) ∙ left_machine h));
          allowed = omega arith;
        }
      where
        popped : ℕ → Machine
        popped x = record { stack = stack_of stack x; places = take (nodes t) (places_of t stack marks (set places n (place + 1)) x); values = values }

    -- the last leave: the total is reached
    core_ended : 128 ≤ action → depth ≡ 0 → count + 1 ≡ total p t
    unfolding stack_of
    core_ended h e =
        ⊎_elim
        (λ l.
        let b = run_busy g p t entry w.checked.good w.checked.sound w.checked.tree (count + 1) l in
        absurd (no_empty b.2 (ap (λ (m : Machine). m.stack) (sym (left_machine h)) ∙ ap (stack_of stack) e)))
        (λ l. omega (arith, goes_on w)) (below_or_not (count + 1) (total p t))

    pub core_done : 128 ≤ action → depth ≡ 0 → count < budget → R.TheVariants.Done (count + 1) ≡ (ran g p t entry budget).answer
    core_done h e more =
        ap R.TheVariants.Done (core_ended h e)
        ∙ sym (run_done g p t entry w.checked.good w.checked.sound w.checked.tree budget (omega (arith, core_ended h e)))

    pub core_done_values : 128 ≤ action → depth ≡ 0 → count < budget → values ≡ (ran g p t entry budget).machine.values
    core_done_values h e more =
        let i : count + 1 ≡ min budget (total p t) = omega (arith, core_ended h e) in
        ap (λ (m : Machine). m.values)
        (left_machine h ∙ (ap (machine_at g p t entry) i ∙ sym (run_machine g p t entry w.checked.good w.checked.sound w.checked.tree budget)))

    -- the node that is visited, and the one that a leave goes back to, are nodes of the tree
    pub core_child : 64 ≤ action → action < 128 → {c : ℕ} → c ≡ child t n ((action - 64) / 8) → c < nodes t
    unfolding act
    core_child h l {c} e =
        let m = next w is_act (visit ((action - 64) / 8) (action % 8 + 1)) (decode_visit action h l) in
        (top_node g p t entry w.checked.good w.checked.sound w.checked.tree (count + 1) c (n ∷ (stack_of stack depth))
        (ap (λ (q : Machine). q.stack) (sym m) ∙ ap (λ (x : ℕ). x ∷ n ∷ (stack_of stack depth)) (sym e))).0

    pub core_parent : 128 ≤ action → {d m : ℕ} → depth ≡ suc d → m ≡ word stack d → m < nodes t
    unfolding stack_of
    core_parent h {d} {m} e a =
        (top_node g p t entry w.checked.good w.checked.sound w.checked.tree (count + 1) m (stack_of stack d)
        (ap (λ (q : Machine). q.stack) (sym (left_machine h)) ∙ (ap (stack_of stack) e ∙ ap (λ (x : ℕ). x ∷ stack_of stack d) (sym a)))).0

  -- the budget is used up before the total
  pub core_stopped : count ≡ budget → R.TheVariants.Stopped budget ≡ (ran g p t entry budget).answer
  core_stopped e = sym (run_stopped g p t entry w.checked.good w.checked.sound w.checked.tree budget (omega (arith, goes_on w)))

  pub core_stopped_values : count ≡ budget → values ≡ (ran g p t entry budget).machine.values
  core_stopped_values e =
      let i : count ≡ min budget (total p t) = omega (arith, goes_on w) in
      values_are w
      ∙ ap (λ (m : Machine). m.values)
      (ap (machine_at g p t entry) i ∙ sym (run_machine g p t entry w.checked.good w.checked.sound w.checked.tree budget))
