-- Every step of a run keeps the balance: leaves done by a node and times on the stack are together the visits done by its parent. A compute
-- changes neither, a leave moves one from the stack to the leaves, a visit adds one to both sides. Assumes nothing.
use Prim.Native.Nat.{ℕ, zero, suc, ◌+◌, ◌≤◌, ◌<◌}
use mathlib.Core.Path.{◌≡◌, sym, ◌∙◌, ap, subst, subst⁻¹}
use mathlib.Core.Logic.{⊎_elim}
use mathlib.Core.List.{List, [], ◌∷◌}
use native.Mathlib.Omega.{arith}
use lib.Dec.{T}
use lib.IntN.{ℤ}
use lib.ListN.{length, set, length-set}
use lib.Seq.{get_or-set_same, get_or-set_other}
use Rattle.basics.specs.Lists.{word}
use Rattle.basics.proofs.TestLaws.{same_or_not}
use Rattle.grammar.specs.Table.{nonterminal}
use Rattle.sequences.specs.Actions.{Action, compute, visit, leave, decode}
use Rattle.sequences.proofs.ActionLaws.{ActionIs, computes, visits_child, leaves}
use Rattle.trees.specs.Tree.{nodes, rule_of, applies_rule, child}
use Rattle.trees.specs.Formed.{ChildOf}
use Rattle.trees.proofs.Cells.{nonterminal_applies, child_of}
use Rattle.plans.specs.Sequences.{sequence_length, action_at}
use Rattle.runs.specs.Automaton.{started, act, action_of, step_on, step, after}
use Rattle.runs.specs.Counts.{leave_number, visit_number, leaves_done, visits_done}
use Rattle.runs.specs.Balance.{RunGiven, times, leaves_at, visits_at, Balanced}
use Rattle.runs.proofs.SequenceCounts.{leaves_same, leaves_more, visits_same, visits_more, visit_same, visit_other}
use Rattle.runs.proofs.Steps.{times_same, times_other, path_rest}
use Rattle.runs.proofs.Balance.{n_inside, top_left, n_applies, top_action, started_balanced}

module _ {g p t : List ℕ} {l : ℕ} (given : RunGiven g p t l) where
  module _ (n : ℕ) (rest places : List ℕ) (b : Balanced g p t (n ∷ rest) places) where
    moved : List ℕ
    moved = set places n (suc (word places n))

    moved_top : word moved n ≡ suc (word places n)
    unfolding moved
    moved_top = get_or-set_same places n (suc (word places n)) 0 (omega (arith, n_inside given n rest places b, b.places_length))

    moved_other : (m : ℕ) → (m ≡ n → ⊥) → word moved m ≡ word places m
    unfolding moved
    moved_other m d = get_or-set_other places n m (suc (word places n)) 0 d

    moved_length : length moved ≡ nodes t
    unfolding moved
    moved_length = length-set places n (suc (word places n)) ∙ b.places_length

    moved_inside : (m : ℕ) → m < nodes t → T (applies_rule t m) → word moved m ≤ sequence_length p (rule_of t m)
    moved_inside m h a =
        ⊎_elim
        (λ e. subst⁻¹ (λ (k : ℕ). word moved k ≤ sequence_length p (rule_of t k)) e (omega (arith, moved_top, top_left given n rest places b)))
        (λ d. omega (arith, moved_other m d, b.inside m h a)) (same_or_not m n)

    -- the action at hand
    now : Action
    now = decode (action_at p (rule_of t n) (word places n))

    leaves_other : (m : ℕ) → (m ≡ n → ⊥) → leaves_at p t moved m ≡ leaves_at p t places m
    leaves_other m d = ap (λ (k : ℕ). leaves_done p (rule_of t m) k) (moved_other m d)

    -- where it is no leave all leaves stay, where it is no such visit the visits
    leaves_stay : leave_number now ≡ 0 → (m : ℕ) → leaves_at p t moved m ≡ leaves_at p t places m
    unfolding now
    leaves_stay z m =
        ⊎_elim
        (λ e.
        subst⁻¹ (λ (k : ℕ). leaves_at p t moved k ≡ leaves_at p t places k) e
        (ap (λ (k : ℕ). leaves_done p (rule_of t n) k) moved_top ∙ leaves_same p (rule_of t n) (word places n) z))
        (λ d. leaves_other m d) (same_or_not m n)

    visits_stay : (m i : ℕ) → (m ≡ n → visit_number i now ≡ 0) → visits_at p t moved m i ≡ visits_at p t places m i
    unfolding now
    visits_stay m i z =
        ⊎_elim
        (λ e.
        subst⁻¹ (λ (k : ℕ). visits_at p t moved k i ≡ visits_at p t places k i) e
        (ap (λ (k : ℕ). visits_done p (rule_of t n) i k) moved_top ∙ visits_same p (rule_of t n) i (word places n) (z e)))
        (λ d. ap (λ (k : ℕ). visits_done p (rule_of t m) i k) (moved_other m d)) (same_or_not m n)

    compute_balanced : (o : ℕ) → now ≡ compute o → Balanced g p t (n ∷ rest) moved
    compute_balanced o e =
        let no : (m : ℕ) → leaves_at p t moved m ≡ leaves_at p t places m = leaves_stay (ap leave_number e) in
        record {
          places_length = moved_length;
          path = b.path;
          inside = moved_inside;
          root = omega (arith, no 0, b.root);
          child = λ m i c w a.
              omega (arith, no c, b.child m i c w a, visits_stay m i (λ q. ap (λ (x : Action). visit_number i x) e));
        }

    leave_balanced : (k : ℕ) → 1 ≤ k → now ≡ leave k → Balanced g p t rest moved
    unfolding now
    leave_balanced k one e =
        record {
          places_length = moved_length;
          path = path_rest given n rest b.path;
          inside = moved_inside;
          root = omega (arith, b.root, gone 0);
          child = λ m i c w a.
              omega (arith, gone c, b.child m i c w a, visits_stay m i (λ q. ap (λ (x : Action). visit_number i x) e));
        }
      where
        gone : (m : ℕ) → leaves_at p t moved m + times m rest ≡ leaves_at p t places m + times m (n ∷ rest)
        gone m =
            ⊎_elim
            (λ q.
            subst⁻¹ (λ (x : ℕ). leaves_at p t moved x + times x rest ≡ leaves_at p t places x + times x (n ∷ rest)) q
            (omega (
              arith,
              times_same n rest,
              ap (λ (x : ℕ). leaves_done p (rule_of t n) x) moved_top,
              leaves_more p (rule_of t n) (word places n) (omega (arith, ap leave_number e)),
            )))
            (λ d. omega (arith, leaves_other m d, times_other m n rest d)) (same_or_not m n)

    visit_balanced : (j k c₀ : ℕ) → 1 ≤ k → now ≡ visit j k → ChildOf g t n j c₀ → T (applies_rule t c₀)
        → Balanced g p t (c₀ ∷ n ∷ rest) moved
    unfolding now
    visit_balanced j k c₀ one e w₀ a₀ =
        let no : (m : ℕ) → leaves_at p t moved m ≡ leaves_at p t places m = leaves_stay (ap leave_number e) in
        record {
          places_length = moved_length;
          path = (record { slot = j; is_child = w₀; applies = a₀ }, b.path);
          inside = moved_inside;
          root =
              omega (
                arith,
                no 0,
                b.root,
                times_other 0 c₀ (n ∷ rest) (λ q. omega (arith, given.tree.child_higher n j c₀ w₀)),
              );
          child = λ m i c w a.
              ⊎_elim (λ q. pushed m i c w a q (no c)) (λ d. other m i c w a d (no c)) (same_or_not c c₀);
        }
      where
        pushed : (m i c : ℕ) → ChildOf g t m i c → T (applies_rule t c) → c ≡ c₀ → leaves_at p t moved c ≡ leaves_at p t places c
            → leaves_at p t moved c + times c (c₀ ∷ n ∷ rest) ≡ visits_at p t moved m i
        pushed m i c w a q same =
            let w₁ : ChildOf g t m i c₀ = subst (λ (x : ℕ). ChildOf g t m i x) q w in
            let mn : m ≡ n = given.tree.same_parent m i n j c₀ w₁ w₀ in
            let ij : i ≡ j = given.tree.same_slot m i n j c₀ w₁ w₀ in
            let up : visits_at p t moved n j ≡ suc (visits_at p t places n j) =
            ap (λ (x : ℕ). visits_done p (rule_of t n) j x) moved_top
            ∙ visits_more p (rule_of t n) j (word places n)
            (omega (arith, ap (λ (x : Action). visit_number j x) e, visit_same j k)) in
            omega (
              arith,
              b.child m i c w a,
              ap (λ (x : ℕ). times x (c₀ ∷ n ∷ rest)) q,
              times_same c₀ (n ∷ rest),
              ap (λ (x : ℕ). times x (n ∷ rest)) q,
              up,
              ap (λ (x : ℕ). visits_at p t moved x i) mn,
              ap (λ (x : ℕ). visits_at p t moved n x) ij,
              ap (λ (x : ℕ). visits_at p t places x i) mn,
              ap (λ (x : ℕ). visits_at p t places n x) ij,
            )

        other : (m i c : ℕ) → ChildOf g t m i c → T (applies_rule t c) → (c ≡ c₀ → ⊥) → leaves_at p t moved c ≡ leaves_at p t places c
            → leaves_at p t moved c + times c (c₀ ∷ n ∷ rest) ≡ visits_at p t moved m i
        other m i c w a d same =
            omega (
              arith,
              b.child m i c w a,
              times_other c c₀ (n ∷ rest) d,
              visits_stay m i (λ q.
                  ap (λ (x : Action). visit_number i x) e
                  ∙ visit_other i j k (λ f.
                  d (sym w.names ∙ (ap (λ (x : ℕ). child t x i) q ∙ (ap (λ (x : ℕ). child t n x) (sym f) ∙ w₀.names))))),
            )

  -- every step keeps the balance
  pub step_balanced : (stack places : List ℕ) (values : List ℤ) → Balanced g p t stack places
      → Balanced g p t (step_on g p t stack places values).stack (step_on g p t stack places values).places
  unfolding step_on act action_of moved now
  step_balanced [] places values b = b
  step_balanced (n ∷ rest) places values b = go (top_action given n rest places b)
    where
      go : ActionIs g p (rule_of t n) (action_at p (rule_of t n) (word places n))
          → Balanced g p t (step_on g p t (n ∷ rest) places values).stack (step_on g p t (n ∷ rest) places values).places
      go (computes o h e d w) =
          subst⁻¹ (λ (a : Action). Balanced g p t (act g t a n rest (set places n (suc (word places n))) values).stack
          (act g t a n rest (set places n (suc (word places n))) values).places) d
          (compute_balanced n rest places b o d)
      go (visits_child i k h e' e d w) =
          let c : ChildOf g t n i (child t n i) =
          child_of given.table given.tree n i (n_inside given n rest places b) (n_applies given n rest places b) w.child w.inside in
          subst⁻¹ (λ (a : Action). Balanced g p t (act g t a n rest (set places n (suc (word places n))) values).stack
          (act g t a n rest (set places n (suc (word places n))) values).places) d
          (visit_balanced n rest places b i k (child t n i) w.first d c
          (nonterminal_applies given.table given.tree (child t n i) (given.tree.child_node n i (child t n i) c)
          (subst⁻¹ (λ (x : ℕ). T (nonterminal g x)) (given.tree.child_symbol n i (child t n i) c) w.nonterminal_there)))
      go (leaves k h e d w) =
          subst⁻¹ (λ (a : Action). Balanced g p t (act g t a n rest (set places n (suc (word places n))) values).stack
          (act g t a n rest (set places n (suc (word places n))) values).places) d
          (leave_balanced n rest places b k w.first d)

  -- and so after every number of actions
  pub after_balanced : (values : List ℤ) (k : ℕ)
      → Balanced g p t (after g p t k (started t values)).stack (after g p t k (started t values)).places
  unfolding after step
  after_balanced values zero = started_balanced given values
  after_balanced values (suc k) =
      step_balanced _ _ (after g p t k (started t values)).values (after_balanced values k)
