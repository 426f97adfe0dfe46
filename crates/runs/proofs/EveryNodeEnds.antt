-- Where the stack is empty every node is at the end of its sequence, from the root up: its parent has visited it as often as it leaves.
-- Assumes nothing.
use Prim.Native.Nat.{ℕ, zero, suc, ◌<◌}
use mathlib.Core.Path.{◌≡◌, refl, sym, ◌∙◌, ap, subst, subst⁻¹}
use mathlib.Core.Logic.{⊎_elim}
use mathlib.Core.List.{List, []}
use native.Mathlib.Omega.{arith}
use lib.Dec.{T}
use Rattle.basics.specs.Lists.{word}
use Rattle.basics.proofs.TestLaws.{same_or_not, below_or_not}
use Rattle.grammar.specs.Limits.{most_attributes}
use Rattle.grammar.specs.Table.{start, attributes, symbol_of}
use Rattle.sets.specs.Visits.{set_number, last_set, visits}
use Rattle.sets.proofs.Visits.{highest_least}
use Rattle.trees.specs.Tree.{nodes, rule_of, applies_rule}
use Rattle.trees.specs.Formed.{ChildOf, Parent}
use Rattle.trees.proofs.AcceptedTree.{rule_symbol}
use Rattle.plans.specs.Sequences.{sequence_length}
use Rattle.runs.specs.Sound.{SymbolSound}
use Rattle.runs.specs.Counts.{visits_done}
use Rattle.runs.specs.Balance.{RunGiven, leaves_at, Balanced}
use Rattle.runs.proofs.SequenceCounts.{leaves_end, visits_all}
use Rattle.runs.proofs.Steps.{times_none}
use Rattle.runs.proofs.Balance.{rule_known_law, child_left, child_nonterminal}

module _ {g p t : List ℕ} {l : ℕ} (given : RunGiven g p t l) where
  -- "the start uses set 1 only": it has one visit
  start_once : visits p (start g) ≡ 1
  unfolding visits last_set
  start_once =
      let w : SymbolSound g p (start g) = given.sound.symbol (start g) (omega (arith, given.table.start_fits, given.table.symbols_fit)) in
      omega (
        arith,
        highest_least most_attributes (λ a. set_number p (start g) a) 1 (λ a h.
            ⊎_elim (λ s. omega (arith, w.start_set refl a s)) (λ s. omega (arith, w.nothing a h (λ e. omega (arith, e.attribute_is))))
            (below_or_not a (attributes g (start g)))),
      )

  module _ {places : List ℕ} (b : Balanced g p t [] places) where
    -- every node that applies a rule is at its end
    pub every_node_ends : (n : ℕ) → n < nodes t → T (applies_rule t n) → word places n ≡ sequence_length p (rule_of t n)
    every_node_ends n = up (suc n) n (omega arith)
      where
        ends : (n : ℕ) → n < nodes t → T (applies_rule t n) → leaves_at p t places n ≡ visits p (symbol_of g (rule_of t n) 0)
            → word places n ≡ sequence_length p (rule_of t n)
        ends n h a e =
            leaves_end given.table given.sound (rule_of t n) (rule_known_law given n h a) (word places n) (b.inside n h a) e

        root : T (applies_rule t 0) → leaves_at p t places 0 ≡ visits p (symbol_of g (rule_of t 0) 0)
        root a =
            omega (
              arith,
              b.root,
              times_none 0,
              start_once,
              ap (λ (x : ℕ). visits p x) (sym (rule_symbol g t 0 a) ∙ given.tree.root_start),
            )

        of_child : (n : ℕ) → T (applies_rule t n)
            → ((m : ℕ) → m < n → m < nodes t → T (applies_rule t m) → word places m ≡ sequence_length p (rule_of t m))
            → Parent g t n → leaves_at p t places n ≡ visits p (symbol_of g (rule_of t n) 0)
        of_child n a ih q =
            let m : ℕ = q.parent in
            let i : ℕ = q.slot in
            let c : ChildOf g t m i n = q.is_child in
            let e : word places m ≡ sequence_length p (rule_of t m) =
            ih m (given.tree.child_higher m i n c) c.inside c.applies in
            omega (
              arith,
              b.child m i n c a,
              times_none n,
              ap (λ (k : ℕ). visits_done p (rule_of t m) i k) e,
              visits_all given.table given.sound (rule_of t m) (rule_known_law given m c.inside c.applies) i c.first c.last
                  (child_nonterminal given m i n c a),
              ap (λ (x : ℕ). visits p x) (child_left given m i n c a),
            )

        up : (bound n : ℕ) → n < bound → n < nodes t → T (applies_rule t n) → word places n ≡ sequence_length p (rule_of t n)
        up zero n s h a = absurd (omega arith)
        up (suc bound) n s h a =
            ends n h a
            (⊎_elim
            (λ e.
            subst⁻¹ (λ (k : ℕ). leaves_at p t places k ≡ visits p (symbol_of g (rule_of t k) 0)) e
            (root (subst (λ (k : ℕ). T (applies_rule t k)) e a)))
            (λ d. of_child n a (λ m q. up bound m (omega arith)) (given.tree.parent_of n (omega arith) h)) (same_or_not n 0))
