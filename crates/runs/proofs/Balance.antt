-- In a balanced state no node is asked for more leaves than its symbol has visits, and so the node on top always has an action left. The start
-- is balanced. Assumes nothing.
use Prim.Native.Nat.{ℕ, ◌+◌, ◌≤◌, ◌<◌}
use mathlib.Core.Path.{◌≡◌, refl, sym, ◌∙◌, ap, subst, subst⁻¹}
use mathlib.Core.Logic.{⊎_elim}
use mathlib.Core.List.{List, [], ◌∷◌}
use native.Mathlib.Omega.{arith}
use lib.Dec.{T, lt→ltb}
use lib.IntN.{ℤ}
use lib.ListN.{replicate, length-replicate}
use Rattle.basics.specs.Lists.{word}
use Rattle.basics.proofs.TestLaws.{same_or_not}
use Rattle.grammar.specs.Table.{rules, nonterminal, symbol_of}
use Rattle.sets.specs.Visits.{visits}
use Rattle.sets.proofs.Visits.{some_visit}
use Rattle.sequences.proofs.ActionLaws.{ActionIs, action_is}
use Rattle.trees.specs.Tree.{nodes, rule_of, applies_rule}
use Rattle.trees.specs.Formed.{ChildOf, Parent}
use Rattle.trees.proofs.AcceptedTree.{rule_symbol}
use Rattle.trees.proofs.Cells.{applies_nonterminal}
use Rattle.plans.specs.Sequences.{sequence_length, action_at}
use Rattle.runs.specs.Automaton.{started}
use Rattle.runs.specs.Counts.{leaves_done, visits_done}
use Rattle.runs.specs.Balance.{RunGiven, times, leaves_at, visits_at, Balanced}
use Rattle.runs.proofs.SequenceCounts.{leaves_start, visits_start, leaves_left, visits_most}
use Rattle.runs.proofs.Steps.{all_zero, times_same, times_other, times_none, top_inside, top_applies, top_once}

module _ {g p t : List ℕ} {l : ℕ} (given : RunGiven g p t l) where
  -- a node's rule is one of the table's
  pub rule_known_law : (n : ℕ) → n < nodes t → T (applies_rule t n) → rule_of t n < rules g
  rule_known_law n h a = given.tree.rule_known n h a

  -- the child's symbol is its rule's left side, a nonterminal
  pub child_left : (n i c : ℕ) → ChildOf g t n i c → T (applies_rule t c) → symbol_of g (rule_of t n) i ≡ symbol_of g (rule_of t c) 0
  child_left n i c w a = sym (given.tree.child_symbol n i c w) ∙ rule_symbol g t c a

  -- a child that applies a rule stands at a nonterminal position
  pub child_nonterminal : (n i c : ℕ) → ChildOf g t n i c → T (applies_rule t c) → T (nonterminal g (symbol_of g (rule_of t n) i))
  child_nonterminal n i c w a =
      subst (λ (x : ℕ). T (nonterminal g x)) (given.tree.child_symbol n i c w)
      (applies_nonterminal given.table given.tree c (given.tree.child_node n i c w) a)

  module _ {stack places : List ℕ} (b : Balanced g p t stack places) where
    -- a node has left, or is on the stack, no more often than its symbol is visited
    pub asked : (n : ℕ) → n < nodes t → T (applies_rule t n)
        → leaves_at p t places n + times n stack ≤ visits p (symbol_of g (rule_of t n) 0)
    asked n h a =
        ⊎_elim
        (λ e.
        subst⁻¹ (λ (k : ℕ). leaves_at p t places k + times k stack ≤ visits p (symbol_of g (rule_of t k) 0)) e
        (omega (arith, b.root, some_visit p (symbol_of g (rule_of t 0) 0))))
        (λ d. of_child (given.tree.parent_of n (omega arith) h)) (same_or_not n 0)
      where
        of_child : Parent g t n → leaves_at p t places n + times n stack ≤ visits p (symbol_of g (rule_of t n) 0)
        of_child q =
            let m : ℕ = q.parent in
            let i : ℕ = q.slot in
            let c : ChildOf g t m i n = q.is_child in
            let r : ℕ = rule_of t m in
            omega (
              arith,
              b.child m i n c a,
              visits_most given.table given.sound r (rule_known_law m c.inside c.applies) i c.first c.last
                  (child_nonterminal m i n c a) (word places m) (b.inside m c.inside c.applies),
              ap (λ (x : ℕ). visits p x) (child_left m i n c a),
            )

  module _ (n : ℕ) (rest places : List ℕ) (b : Balanced g p t (n ∷ rest) places) where
    pub n_inside : n < nodes t
    n_inside = top_inside given n rest b.path

    pub n_applies : T (applies_rule t n)
    n_applies = top_applies given n rest b.path

    n_rule : rule_of t n < rules g
    n_rule = rule_known_law n n_inside n_applies

    -- the node on top has an action left
    pub top_left : word places n < sequence_length p (rule_of t n)
    top_left =
        leaves_left given.table given.sound (rule_of t n) n_rule (word places n) (b.inside n n_inside n_applies)
        (omega (arith, asked b n n_inside n_applies, top_once given n rest b.path))

    -- and it belongs to the rule
    pub top_action : ActionIs g p (rule_of t n) (action_at p (rule_of t n) (word places n))
    top_action =
        action_is g p (rule_of t n) _
        ((given.sound.rule (rule_of t n) (lt→ltb (rule_of t n) (rules g) n_rule)).nothing_else (word places n) top_left)

  -- it holds at the start
  pub started_balanced : (values : List ℤ) → Balanced g p t (started t values).stack (started t values).places
  unfolding started
  started_balanced values =
      record {
        places_length = simp length-replicate;
        path = refl;
        inside = λ n h a. omega (arith, all_zero (nodes t) n);
        root = omega (arith, no_leaves 0, times_same 0 [], times_none 0);
        child = λ n i c w a.
            omega (arith, no_leaves c, times_other c 0 [] (λ e. omega (arith, given.tree.child_higher n i c w)), times_none c, no_visits n i);
      }
    where
      no_leaves : (n : ℕ) → leaves_at p t (replicate (nodes t) 0) n ≡ 0
      no_leaves n = ap (λ (k : ℕ). leaves_done p (rule_of t n) k) (all_zero (nodes t) n) ∙ leaves_start p (rule_of t n)

      no_visits : (n i : ℕ) → visits_at p t (replicate (nodes t) 0) n i ≡ 0
      no_visits n i = ap (λ (k : ℕ). visits_done p (rule_of t n) i k) (all_zero (nodes t) n) ∙ visits_start p (rule_of t n) i
