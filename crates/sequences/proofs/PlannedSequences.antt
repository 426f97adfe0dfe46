-- The planner's own sequences: for a table that is accepted and ordered, every rule has what the other laws ask for.
-- No rule's sequence is over 104 actions. Assumes nothing.
use Prim.Native.Nat.{ℕ, ◌≤◌, ◌<◌}
use mathlib.Core.Path.{◌≡◌}
use mathlib.Core.List.{List}
use lib.Dec.{T, eqb→eq}
use lib.ListN.{length}
use Rattle.grammar.specs.Verdicts.{Good}
use Rattle.grammar.specs.Table.{symbols, kind, attributes, nonterminal, rule_counts}
use Rattle.grammar.specs.Reading.{read_table}
use Rattle.grammar.proofs.AcceptedTable.{accepted}
use Rattle.relations.specs.Computed.{arc_in, ids_of}
use Rattle.relations.proofs.PathLaws.{path_map}
use Rattle.relations.proofs.Occurrences.{attribute_fits}
use Rattle.relations.proofs.ExactIdp.{ids_exact}
use Rattle.sets.specs.Visits.{set_number}
use Rattle.sets.specs.Computed.{sets_of}
use Rattle.sets.proofs.SetWords.{number_of_class}
use Rattle.sets.proofs.Visits.{visits_five}
use Rattle.order.specs.Paper.{CircularIDP, Ordered}
use Rattle.order.proofs.ExactEdp.{edp_exact}
use Rattle.order.proofs.PaperSets.{set_placed, ids_down}
use Rattle.sequences.specs.Actions.{most_actions}
use Rattle.sequences.specs.Order.{sequence_of}
use Rattle.sequences.proofs.OrderlyRules.{Placed, Orderly}
use Rattle.sequences.proofs.SequenceLaws.{sequence_short}

-- a planned sequence has at most 104 actions
pub planned_short : (g : List ℕ) (r : ℕ) → length (sequence_of g (ids_of g) (sets_of g (ids_of g)) r) ≤ most_actions
planned_short g r = sequence_short g (ids_of g) (sets_of g (ids_of g)) r (λ x. visits_five g (ids_of g) x)

module _ (g : List ℕ) (good : read_table g ≡ Good) (none : CircularIDP g → ⊥) (ordered : Ordered g (set_number (sets_of g (ids_of g)))) where
  placed : (x a : ℕ) → x < symbols g → T (nonterminal g x) → a < attributes g x → Placed g (sets_of g (ids_of g)) x a
  placed x a h n l =
      let low : 1 ≤ set_number (sets_of g (ids_of g)) x a = set_placed g good none x h (eqb→eq (kind g x) 0 n) a l in
      record { low = low; class = number_of_class g (ids_of g) x a (attribute_fits g (accepted g good) x a h l) low }

  down : (x a b : ℕ) → x < symbols g → T (nonterminal g x) → a < attributes g x → b < attributes g x → T (arc_in (ids_of g) x a b)
      → set_number (sets_of g (ids_of g)) x b ≤ set_number (sets_of g (ids_of g)) x a
  down x a b h n l m t =
      ids_down g good none x h (eqb→eq (kind g x) 0 n) a b
      ((ids_exact g good x a b (attribute_fits g (accepted g good) x b h m)).0 t)

  -- every rule that counts is orderly
  pub orderly : (r : ℕ) → T (rule_counts g r) → Orderly g (ids_of g) (sets_of g (ids_of g)) r
  orderly r c =
      record {
        formed = accepted g good;
        counts = c;
        placed = placed;
        down = down;
        acyclic = λ o p. ordered r o c (path_map (λ a b t. (edp_exact g good (sets_of g (ids_of g)) r c a b).0 t) p);
      }
