-- Every attribute of every nonterminal node is computed at exactly one moment of the run. Nothing else is ever computed.
-- Assumes nothing.
use Prim.Native.Nat.{ℕ, ◌+◌, ◌*◌, ◌<◌}
use mathlib.Core.Path.{◌≡◌, refl, sym, ◌∙◌, ap, subst}
use mathlib.Core.Bool.{not}
use mathlib.Core.List.{List, ◌∷◌}
use native.Mathlib.Omega.{arith}
use lib.Dec.{T, T_not}
use lib.IntN.{ℤ}
use Rattle.basics.specs.Lists.{word}
use Rattle.grammar.specs.Table.{rules, defining, position, attribute}
use Rattle.grammar.proofs.AcceptedTable.{occurrence_fits}
use Rattle.sequences.specs.Actions.{compute, decode}
use Rattle.sequences.proofs.ActionNumbers.{decode_compute}
use Rattle.sequences.proofs.ActionLaws.{ActionIs, computes, visits_child, leaves, compute_belongs}
use Rattle.trees.specs.Tree.{rule_of, applies_rule, node_at}
use Rattle.trees.specs.Definers.{DefinedAt, Definer, AttributeOf}
use Rattle.trees.proofs.Cells.{cell_is, one_definer, definer, defined_occurs, defined_applies, occurrence_attribute, attribute_eight}
use Rattle.plans.specs.Sequences.{sequence_length, action_at}
use Rattle.runs.specs.Totals.{total}
use Rattle.runs.specs.Balance.{RunGiven, Balanced}
use Rattle.runs.specs.Computing.{machine_at, OnTop, Computing, AboutTo}
use Rattle.runs.proofs.SequenceCounts.{same_action, action_there}
use Rattle.runs.proofs.Steps.{action_of_law, top_inside, top_applies}
use Rattle.runs.proofs.Balance.{rule_known_law, top_left, top_action}
use Rattle.runs.proofs.BalanceKept.{after_balanced}
use Rattle.runs.proofs.Moments.{moment, one_moment}

module _ {g p t : List ℕ} {l : ℕ} (given : RunGiven g p t l) (values : List ℤ) where
  -- the balance, with the stack as it is known
  pub balanced_at : (k n : ℕ) (rest : List ℕ) → (machine_at g p t values k).stack ≡ n ∷ rest
      → Balanced g p t (n ∷ rest) (machine_at g p t values k).places
  balanced_at k n rest e =
      subst (λ (s : List ℕ). Balanced g p t s (machine_at g p t values k).places) e (after_balanced given values k)

  -- what is computed at a node is a place of its sequence
  pub computing_place : (k n o : ℕ) → Computing g p t values k n o
      → decode (action_at p (rule_of t n) (word (machine_at g p t values k).places n)) ≡ compute o
  computing_place k n o w = sym (action_of_law p t (machine_at g p t values k).places n) ∙ w.action_is

  -- a node that computes is on top
  pub computing_top : (k n o : ℕ) → Computing g p t values k n o → OnTop g p t values k n (word (machine_at g p t values k).places n)
  computing_top k n o w = record { rest = w.rest; stack_is = w.stack_is; place_is = refl }

  -- a node on top at the place of a compute computes
  pub top_computing : (k n j o : ℕ) → OnTop g p t values k n j → decode (action_at p (rule_of t n) j) ≡ compute o → Computing g p t values k n o
  top_computing k n j o w e =
      record {
        rest = w.rest;
        stack_is = w.stack_is;
        action_is =
            action_of_law p t (machine_at g p t values k).places n
            ∙ (ap (λ (i : ℕ). decode (action_at p (rule_of t n) i)) w.place_is ∙ e);
      }

  -- only defining occurrences are computed
  pub computing_defined : (k n o : ℕ) → Computing g p t values k n o → DefinedAt g t n o
  computing_defined k n o w = go (top_action given n w.rest (machine_at g p t values k).places b)
    where
      b : Balanced g p t (n ∷ w.rest) (machine_at g p t values k).places
      b = balanced_at k n w.rest w.stack_is

      now : decode (action_at p (rule_of t n) (word (machine_at g p t values k).places n)) ≡ compute o
      now = computing_place k n o w

      go : ActionIs g p (rule_of t n) (action_at p (rule_of t n) (word (machine_at g p t values k).places n)) → DefinedAt g t n o
      go (computes q h e d s) =
          let same : q ≡ o = cc (d, now) in
          record {
            inside = top_inside given n w.rest b.path;
            applies = top_applies given n w.rest b.path;
            is_defining = subst (λ (x : ℕ). T (defining g (rule_of t n) x)) same s;
          }
      go (visits_child i m h h' e d s) = absurd (let z : ◌≡◌ {A = ℕ} 0 1 = cc (d, now) in omega arith)
      go (leaves m h e d s) = absurd (let z : ◌≡◌ {A = ℕ} 0 1 = cc (d, now) in omega arith)

  computing_inside : (k n o : ℕ) → Computing g p t values k n o → word (machine_at g p t values k).places n < sequence_length p (rule_of t n)
  computing_inside k n o w = top_left given n w.rest _ (balanced_at k n w.rest w.stack_is)

  -- each is computed at one moment
  computing_once : (k i n o : ℕ) → Computing g p t values k n o → Computing g p t values i n o → k ≡ i
  computing_once k i n o v w =
      let d : DefinedAt g t n o = computing_defined k n o v in
      let e : word (machine_at g p t values k).places n ≡ word (machine_at g p t values i).places n =
      same_action given.table given.sound (rule_of t n) (rule_known_law given n d.inside d.applies) _ _
      (computing_inside k n o v) (computing_inside i n o w) (computing_place k n o v ∙ sym (computing_place i n o w)) in
      one_moment given values k i n (word (machine_at g p t values i).places n)
      (record { rest = v.rest; stack_is = v.stack_is; place_is = e }) (computing_top i n o w)

  -- a cell is computed at no second moment
  pub computed_once : (k i c : ℕ) → AboutTo g p t values k c → AboutTo g p t values i c → k ≡ i
  computed_once k i c v w =
      let same : (v.node ≡ w.node) × (v.occurs ≡ w.occurs) =
      one_definer given.table given.tree v.node v.occurs w.node w.occurs
      (computing_defined k _ _ v.computing) (computing_defined i _ _ w.computing) (v.is_cell ∙ sym w.is_cell) in
      computing_once k i w.node w.occurs
      (subst (λ (x : ℕ). Computing g p t values k x w.occurs) same.0
      (subst (λ (x : ℕ). Computing g p t values k v.node x) same.1 v.computing)) w.computing

  -- and a defined cell at some moment
  pub defined_computed : (n o : ℕ) → DefinedAt g t n o → (k : ℕ) × (k < total p t) × Computing g p t values k n o
  defined_computed n o d =
      let r : rule_of t n < rules g = rule_known_law given n d.inside d.applies in
      let e : decode o ≡ compute o =
      decode_compute o (occurrence_fits g (rule_of t n) o (given.table.rule (rule_of t n) r) (defined_occurs given.table given.tree n o d)) in
      let at = action_there given.table given.sound (rule_of t n) r (compute o) e (compute_belongs g p (rule_of t n) o d.is_defining) in
      let w = moment given values n at.0 d.inside d.applies at.1 in
      (w.0, w.1, top_computing w.0 n at.0 o w.2 at.2)

  -- every attribute of every nonterminal node is computed
  pub attribute_computed : (n a : ℕ) → T (applies_rule t n) → AttributeOf g t n a → (k : ℕ) × (k < total p t) × AboutTo g p t values k (8 * n + a)
  attribute_computed n a h w =
      let d : Definer g t (8 * n + a) = definer given.table given.tree n a h w in
      let v = defined_computed d.node d.occurs d.defined_at in
      (v.0, v.1, record { node = d.node; occurs = d.occurs; computing = v.2; is_cell = d.is_cell })

  -- what is computed is an attribute of a nonterminal node
  pub only_attributes : (k c : ℕ) → AboutTo g p t values k c
      → (n : ℕ) × (a : ℕ) × (c ≡ 8 * n + a) × T (applies_rule t n) × AttributeOf g t n a
  only_attributes k c v =
      let n : ℕ = v.node in
      let o : ℕ = v.occurs in
      let d : DefinedAt g t n o = computing_defined k n o v.computing in (
        node_at t n (position o),
        attribute o,
        sym v.is_cell ∙ cell_is t n o,
        defined_applies given.table given.tree n o d,
        occurrence_attribute given.table given.tree n o d.inside d.applies (defined_occurs given.table given.tree n o d),
      )

  -- no action computes a terminal's cell
  pub no_terminal : (k n a : ℕ) → a < 8 → T (not (applies_rule t n)) → AboutTo g p t values k (8 * n + a) → ⊥
  no_terminal k n a h s v =
      let w = only_attributes k (8 * n + a) v in
      let m : ℕ = w.0 in
      let b : ℕ = w.1 in
      let e : 8 * n + a ≡ 8 * m + b = w.2 in
      let b8 : b < 8 = attribute_eight given.table given.tree m b w.4 in
      let same : m ≡ n = omega arith in
      T_not (applies_rule t n) s (subst (λ (x : ℕ). T (applies_rule t x)) same w.3)
