-- What is available to a node on top has been computed: in its own sequence, by its parent before the visit, by its child before the leave.
-- So every function is computed after its arguments. Assumes nothing.
use Prim.Native.Nat.{ℕ, suc, ◌≤◌, ◌<◌}
use mathlib.Core.Path.{◌≡◌, ◌∙◌, ap, subst}
use mathlib.Core.Logic.{◌⊎◌, inl, inr}
use mathlib.Core.Bool.{not}
use mathlib.Core.List.{List, ◌∷◌}
use native.Mathlib.Omega.{arith}
use lib.Dec.{T, T_not, not_T}
use lib.IntN.{ℤ}
use Rattle.basics.specs.Lists.{word}
use Rattle.grammar.specs.Table.{rules, nonterminal, right_length, symbol_of, functions, target, argument, arguments, position, occurrence}
use Rattle.grammar.proofs.OccurrenceLaws.{occurs_inside}
use Rattle.sequences.specs.Actions.{Action, compute, visit, leave, none, decode, belongs, makes}
use Rattle.sequences.proofs.ActionNumbers.{Decoded, is_compute, is_visit, is_leave, is_none, decoded}
use Rattle.sequences.proofs.ActionLaws.{belongs_visit}
use Rattle.sequences.proofs.MakesLaws.{OfVisit, synthesized_of_law, makes_compute, makes_visit, makes_leave, makes_none}
use Rattle.trees.specs.Tree.{rule_of, applies_rule, node_at, cell}
use Rattle.trees.specs.Definers.{DefinedAt}
use Rattle.trees.proofs.Cells.{node_at_inside, node_at_symbol, applies_nonterminal}
use Rattle.plans.specs.Sequences.{action_at}
use Rattle.runs.specs.Sound.{of_terminal, of_first_visit, Available, always, made}
use Rattle.runs.specs.Balance.{RunGiven}
use Rattle.runs.specs.Computing.{machine_at, Computing, ComputedBefore}
use Rattle.runs.proofs.SequenceCounts.{belongs_at, rule_sound, done_leave, done_visit}
use Rattle.runs.proofs.Balance.{rule_known_law, top_left}
use Rattle.runs.proofs.ComputedOnce.{balanced_at, computing_place, computing_defined}
use Rattle.runs.proofs.HandedOver.{places, passed, n_inside, n_applies, n_rule, handed_down_law, handed_up_law}

module _ {g p t : List ℕ} {l : ℕ} (given : RunGiven g p t l) (values : List ℤ) where
  module _ (k n : ℕ) (rest : List ℕ) (top : (machine_at g p t values k).stack ≡ n ∷ rest) where
    -- what is available has been computed, or is a terminal's
    available_computed : (x : ℕ) → T (occurrence g (rule_of t n) x) → Available g p (rule_of t n) (word (places given values k) n) x
        → T (not (applies_rule t (node_at t n (position x)))) ⊎ ComputedBefore g p t values k (cell t n x)
    available_computed x occ (always (of_terminal s)) =
        inl (not_T (applies_rule t (node_at t n (position x))) (λ a.
        let i : position x ≤ right_length g (rule_of t n) = occurs_inside g (rule_of t n) x occ in
        T_not (nonterminal g (symbol_of g (rule_of t n) (position x))) s
        (subst (λ (y : ℕ). T (nonterminal g y))
        (node_at_symbol given.table given.tree n (position x) (n_inside given values k n rest top) (n_applies given values k n rest top) i)
        (applies_nonterminal given.table given.tree (node_at t n (position x))
        (node_at_inside given.table given.tree n (position x) (n_inside given values k n rest top) (n_applies given values k n rest top) i) a))))
    available_computed x occ (always (of_first_visit s)) = inr (handed_down_law given values k n rest top 1 x (omega arith) (omega arith) s)
    available_computed x occ (made a before makes') = inr (go (decoded a))
      where
        at_place : (d : Action) → decode a ≡ d → decode (action_at p (rule_of t n) before.place) ≡ d
        at_place d e = ap decode before.action_is ∙ e

        makes_at : (d : Action) → decode a ≡ d → T (makes g p (rule_of t n) d x)
        makes_at d e = subst (λ (z : Action). T (makes g p (rule_of t n) z x)) e makes'

        go : Decoded a → ComputedBefore g p t values k (cell t n x)
        go (is_compute o h e d) =
            let same : o ≡ x = (makes_compute g p (rule_of t n) o x (makes_at (compute o) d)).1 in
            passed given values k n before.place x before.earlier (at_place (compute o) d ∙ ap compute same)
        go (is_visit i v h one e' e d) =
            let m = makes_visit g p (rule_of t n) i v x (makes_at (visit i v) d) in
            let of : OfVisit g p (rule_of t n) i v x = (synthesized_of_law g p (rule_of t n) i v x m.1).0 in
            let first : 1 ≤ i = some_child i v d in
            let i_in : i ≤ right_length g (rule_of t n) =
            subst (λ (j : ℕ). j ≤ right_length g (rule_of t n)) of.stands (occurs_inside g (rule_of t n) x occ) in
            handed_up_law given values k n rest top i v x first one
            (done_visit given.table given.sound (rule_of t n) (n_rule given values k n rest top) i first i_in m.0
            (word (places given values k) n) before.place v
            ((balanced_at given values k n rest top).inside n (n_inside given values k n rest top) (n_applies given values k n rest top)) before.earlier
            (at_place (visit i v) d)) m.0 m.1
          where
            some_child : (i v : ℕ) → decode a ≡ visit i v → 1 ≤ i
            some_child i v d =
                (belongs_visit g p (rule_of t n) i v
                (subst (λ (z : Action). T (belongs g p (rule_of t n) z)) (at_place (visit i v) d)
                (belongs_at given.table given.sound (rule_of t n) (n_rule given values k n rest top) before.place
                (omega (
                  arith,
                  before.earlier,
                  (balanced_at given values k n rest top).inside n (n_inside given values k n rest top)
                      (n_applies given values k n rest top),
                ))))).child
        go (is_leave v one h e d) =
            handed_down_law given values k n rest top (suc v) x (omega arith)
            (omega (
              arith,
              done_leave given.table given.sound (rule_of t n) (n_rule given values k n rest top) (word (places given values k) n) before.place v
                  ((balanced_at given values k n rest top).inside n (n_inside given values k n rest top) (n_applies given values k n rest top))
                  before.earlier (at_place (leave v) d),
            ))
            (makes_leave g p (rule_of t n) v x (makes_at (leave v) d))
        go (is_none h d) = absurd (makes_none g p (rule_of t n) x (makes_at none d))

  -- a function is computed after its arguments: each of them is a terminal's or was computed earlier
  pub after_arguments : (k n o f j : ℕ) → Computing g p t values k n o → f < functions g (rule_of t n) → target g (rule_of t n) f ≡ o
      → j < arguments g (rule_of t n) f
      → T (not (applies_rule t (node_at t n (position (argument g (rule_of t n) f j)))))
      ⊎ ComputedBefore g p t values k (cell t n (argument g (rule_of t n) f j))
  after_arguments k n o f j w h e s =
      let d : DefinedAt g t n o = computing_defined given values k n o w in
      let r : rule_of t n < rules g = rule_known_law given n d.inside d.applies in
      available_computed k n w.rest w.stack_is (argument g (rule_of t n) f j)
      ((given.table.function (rule_of t n) f r h).argument_occurs j s)
      ((rule_sound given.table given.sound (rule_of t n) r).arguments_first
      (word (machine_at g p t values k).places n) o f j
      (top_left given n w.rest _ (balanced_at given values k n w.rest w.stack_is))
      (computing_place given values k n o w) h e s)
