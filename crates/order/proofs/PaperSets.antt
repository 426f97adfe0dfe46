-- For a table that is accepted and has no cycle of IDP, the computed set numbers are the paper's sets over the paper's IDS: each set is
-- the largest collection, every attribute is in one, only set 1 can be empty, and an IDS arc never leads to a higher set. Assumes nothing.
use Prim.Native.Nat.{ℕ, ◌≤◌, ◌<◌}
use mathlib.Core.Path.{◌≡◌}
use mathlib.Core.Logic.{◌↔◌}
use mathlib.Core.List.{List}
use native.Mathlib.Omega.{arith}
use Rattle.basics.specs.Lists.{word}
use Rattle.grammar.specs.Verdicts.{Good}
use Rattle.grammar.specs.Table.{symbols, kind, attributes}
use Rattle.grammar.specs.Reading.{read_table}
use Rattle.grammar.specs.WellFormed.{WellFormed}
use Rattle.grammar.proofs.AcceptedTable.{accepted}
use Rattle.relations.specs.Paper.{IDS, Path⁺}
use Rattle.relations.specs.Computed.{ids_of}
use Rattle.relations.proofs.Occurrences.{attribute_fits}
use Rattle.relations.proofs.Least.{ids_occurs, paths_idp}
use Rattle.relations.proofs.ExactIdp.{ids_exact}
use Rattle.relations.proofs.Induced.{ids_transitive, ids_acyclic, ids_symbol}
use Rattle.sets.specs.Paper.{Collection, Sets}
use Rattle.sets.specs.Visits.{set_number}
use Rattle.sets.specs.Computed.{sets_of, sets_of_symbol}
use Rattle.sets.proofs.Placing.{Arc}
use Rattle.sets.proofs.SetWords.{words_are_the_sets, word_placed, word_arcs_down}
use Rattle.order.specs.Paper.{EDP, Neighbouring, CircularIDP}
use Rattle.order.proofs.NeighbouringSets.{same_paths_of_plan}

-- a collection over one relation of arcs is one over any with no more arcs
collection_along : (g : List ℕ) (x : ℕ) (R S : ℕ → ℕ → Type 0) (set : ℕ → ℕ) → ((a b : ℕ) → S a b → R a b) → (k : ℕ) (member : ℕ → Type 0)
    → Collection g x R set k member → Collection g x S set k member
collection_along g x R S set back k member c =
    record {
      attribute_of = c.attribute_of;
      unplaced = c.unplaced;
      class = c.class;
      successors = λ a b m e. c.successors a b m (back a b e);
    }

-- sets over one relation of arcs are sets over another with the same arcs
module _ (g : List ℕ) (x : ℕ) (R S : ℕ → ℕ → Type 0) (set : ℕ → ℕ) (forth : (a b : ℕ) → R a b → S a b) (back : (a b : ℕ) → S a b → R a b) where
  pub sets_along : Sets g x R set → Sets g x S set
  sets_along s =
      record {
        each = λ k h. record {
          collection = collection_along g x R S set back k (λ a. set a ≡ k) (s.each k h).collection;
          largest = λ member c. (s.each k h).largest member (collection_along g x S R set forth k member c);
        };
        placed = s.placed;
        nothing = s.nothing;
      }

module _ (g : List ℕ) (good : read_table g ≡ Good) (none : CircularIDP g → ⊥) where
  formed : WellFormed g
  formed = accepted g good

  -- an arc of the state is an IDS arc, and back
  arc_ids : (x a b : ℕ) → x < symbols g → Arc g (ids_of g) x a b → IDS g x a b
  arc_ids x a b h e = (ids_exact g good x a b (attribute_fits g formed x b h e.1)).0 e.2

  ids_arc : (x a b : ℕ) → IDS g x a b → Arc g (ids_of g) x a b
  ids_arc x a b e =
      let f = ids_occurs g e in (
        f.start_fits,
        f.end_fits,
        (ids_exact g good x a b (attribute_fits g formed x b (ids_symbol g formed e) f.end_fits)).1 e,
      )

  -- IDS is transitive and has no cycle
  arcs_transitive : (x : ℕ) → x < symbols g → (a b c : ℕ) → Arc g (ids_of g) x a b → Arc g (ids_of g) x b c → Arc g (ids_of g) x a c
  arcs_transitive x h a b c d e = ids_arc x a c (ids_transitive g x a b c (arc_ids x a b h d) (arc_ids x b c h e))

  no_ids_cycle : (x a : ℕ) → IDS g x a a → ⊥
  no_ids_cycle x a e = ids_acyclic g (λ r o c p. none (r, c, (o, paths_idp g p))) x a (Path⁺.one e)

  arcs_acyclic : (x : ℕ) → x < symbols g → (a : ℕ) → Arc g (ids_of g) x a a → ⊥
  arcs_acyclic x h a e = no_ids_cycle x a (arc_ids x a a h e)

  module _ (x : ℕ) (h : x < symbols g) (k : kind g x ≡ 0) where
    -- the computed sets are the paper's
    pub paper_sets : Sets g x (IDS g x) (λ a. word (sets_of_symbol g (ids_of g) x) a)
    paper_sets =
        sets_along g x (Arc g (ids_of g) x) (IDS g x) (λ a. word (sets_of_symbol g (ids_of g) x) a)
        (λ a b e. arc_ids x a b h e) (λ a b e. ids_arc x a b e)
        (words_are_the_sets g (ids_of g) x (omega (arith, formed.symbols_fit)) h k (formed.symbol x h).attributes_fit
        (arcs_transitive x h) (arcs_acyclic x h))

    pub set_placed : (a : ℕ) → a < attributes g x → 1 ≤ set_number (sets_of g (ids_of g)) x a
    set_placed =
        word_placed g (ids_of g) x (omega (arith, formed.symbols_fit)) h k (formed.symbol x h).attributes_fit (arcs_transitive x h)
        (arcs_acyclic x h)

    -- an IDS arc never leads to a higher set
    pub ids_down : (a b : ℕ) → IDS g x a b → set_number (sets_of g (ids_of g)) x b ≤ set_number (sets_of g (ids_of g)) x a
    ids_down a b e =
        word_arcs_down g (ids_of g) x (omega (arith, formed.symbols_fit)) h k (formed.symbol x h).attributes_fit
        (arcs_transitive x h) (arcs_acyclic x h) a b (ids_arc x a b e)

  -- "000 adds neighbouring sets only; the paths are equal"
  pub neighbouring_paths : (r a b : ℕ) → Path⁺ (EDP g (set_number (sets_of g (ids_of g))) r) a b ↔ Path⁺ (Neighbouring g (set_number (sets_of g (ids_of g))) r) a b
  neighbouring_paths =
      same_paths_of_plan g (ids_of g) formed (λ x h k. arcs_transitive x h) (λ x h k. arcs_acyclic x h)
