-- The claims of document 01's checked examples that are marked P, one field a claim.
-- Assumes nothing.
use Rattle.std.specs.Prelude.{ℕ, ◌≡◌, List, [], ◌∷◌, ◌++◌, ℤ, pos, take, set}
use Rattle.values.specs.Value.{result, greatest}
use Rattle.refusals.specs.declared.Refusal.TheVariants.{EndsEarly, OutOfRange, LeftOver, CircularIdp, CircularEdp}
use Rattle.grammar.specs.Limits.{most_rules, row_words, plan_words}
use Rattle.relations.specs.Computed.{ids_of}
use Rattle.sets.specs.Computed.{sets_of}
use Rattle.sets.specs.Visits.{visits}
use Rattle.grammar.specs.Verdicts.{Good}
use Rattle.trees.specs.Checking.{check_tree}
use Rattle.trees.specs.Equations.{value_at}
use Rattle.plans.specs.Answer.{Outcome, untouched, circular_idp, unordered, outcome, accepted_plan}
use Rattle.runs.specs.declared.Ran.TheVariants.{Done, Stopped}
use Rattle.runs.specs.Run.{ran}
use Rattle.text.specs.Listing.{table_text}
use Rattle.examples.specs.Tables.{
  table_g,
  too_many_symbols,
  copied_round,
  crossed_copies,
  copied_itself,
  chain_of_eight,
  no_attributes,
  two_lines,
  priorities,
}

-- planning with room for every table
unfoldable pub planned : List ℕ → Outcome
planned g = outcome g (row_words most_rules) (plan_words most_rules)

-- the text of document 01 for G, in bytes
abbrev pub text_of_g : List ℕ
text_of_g =
    112 ∷ 108 ∷ 97 ∷ 110 ∷ 32 ∷ 51 ∷ 32 ∷ 51 ∷ 10
    ∷ 115 ∷ 32 ∷ 48 ∷ 32 ∷ 49 ∷ 32 ∷ 49 ∷ 10
    ∷ 115 ∷ 32 ∷ 49 ∷ 32 ∷ 50 ∷ 32 ∷ 51 ∷ 32 ∷ 50 ∷ 32 ∷ 49 ∷ 10
    ∷ 114 ∷ 32 ∷ 48 ∷ 32 ∷ 55 ∷ 50 ∷ 32 ∷ 57 ∷ 32 ∷ 55 ∷ 51 ∷ 32 ∷ 48 ∷ 32 ∷ 49 ∷ 50 ∷ 56 ∷ 10
    ∷ 114 ∷ 32 ∷ 49 ∷ 32 ∷ 56 ∷ 48 ∷ 32 ∷ 48 ∷ 32 ∷ 49 ∷ 50 ∷ 56 ∷ 32 ∷ 49 ∷ 55 ∷ 32 ∷ 56 ∷ 49 ∷ 32 ∷ 50 ∷ 32 ∷ 49 ∷ 50 ∷ 57 ∷ 10
    ∷ 114 ∷ 32 ∷ 50 ∷ 32 ∷ 48 ∷ 32 ∷ 49 ∷ 50 ∷ 56 ∷ 32 ∷ 50 ∷ 32 ∷ 49 ∷ 50 ∷ 57 ∷ 10 ∷ []

-- a run of G's plan over its tree of two lines
unfoldable pub ran_g : ℤ → ℤ → ℕ → Rattle.runs.specs.Run.Ended
ran_g first second budget = ran table_g (accepted_plan table_g) two_lines (priorities first second) budget

pub record Claims : Type 0 where
  -- "G's sets and three sequences as printed"
  pub printed : table_text table_g ≡ text_of_g
  -- "no words: 1 at 0. G without its last word: 1 at 47; with one more: 7 at 48. 33 symbols: 2 at 0."
  pub no_words : planned [] ≡ untouched (EndsEarly 0)
  pub last_missing : planned (take 47 table_g) ≡ untouched (EndsEarly 47)
  pub one_more : planned (table_g ++ (0 ∷ [])) ≡ untouched (LeftOver 48)
  pub many_symbols : planned too_many_symbols ≡ untouched (OutOfRange 0)
  -- "9, rule 0, occurrence 8"
  pub round : planned copied_round ≡ circular_idp (CircularIdp 0 8)
  -- "10, rule 0, occurrence 8. Every tree of it could be evaluated, but it is not ordered."
  pub crossed : planned crossed_copies ≡ unordered (CircularEdp 0 8)
  -- "Z.0 copied from itself: 9, rule 0, occurrence 0"
  pub itself : planned copied_itself ≡ circular_idp (CircularIdp 0 0)
  -- "a chain of eight attributes in IDS, synthesized first and alternating: sets 9 down to 2, 5 visits"
  pub chain : take 16 (sets_of chain_of_eight (ids_of chain_of_eight))
      ≡ 0 ∷ 0 ∷ 0 ∷ 0 ∷ 0 ∷ 0 ∷ 0 ∷ 0 ∷ 9 ∷ 8 ∷ 7 ∷ 6 ∷ 5 ∷ 4 ∷ 3 ∷ 2 ∷ []
  pub chain_visits : visits (sets_of chain_of_eight (ids_of chain_of_eight)) 1 ≡ 5
  -- "a nonterminal without attributes: one visit"
  pub one_visit : visits (sets_of no_attributes (ids_of no_attributes)) 0 ≡ 1
  -- "G's tree of two lines, priorities 3 then 5: root value 0, 16 actions. Priorities 3 then 2: root value 1."
  pub tree_fits : check_tree table_g two_lines 40 ≡ Good
  pub three_five : (ran_g (pos 3) (pos 5) 4294967295).answer ≡ Done 16
  pub three_five_root : value_at (ran_g (pos 3) (pos 5) 4294967295).machine.values 0 ≡ pos 0
  pub three_two : (ran_g (pos 3) (pos 2) 4294967295).answer ≡ Done 16
  pub three_two_root : value_at (ran_g (pos 3) (pos 2) 4294967295).machine.values 0 ≡ pos 1
  -- "its budgets: 5 stops with attribute 0 of nodes 3 and 1 written; 15 stops with the root's value written; 16 is done"
  pub five_stops : (ran_g (pos 3) (pos 2) 5).answer ≡ Stopped 5
  pub five_values : (ran_g (pos 3) (pos 2) 5).machine.values ≡ set (set (priorities (pos 3) (pos 2)) 24 (pos 2)) 8 (pos 3)
  pub fifteen_stops : (ran_g (pos 3) (pos 2) 15).answer ≡ Stopped 15
  pub fifteen_root : value_at (ran_g (pos 3) (pos 2) 15).machine.values 0 ≡ pos 1
  pub sixteen_done : (ran_g (pos 3) (pos 2) 16).answer ≡ Done 16
  -- "2,147,483,647 + 1 stays; operation 8 on (3,7,3,4) is 0, on (3,4,3,7) is 1, on (3,4,3,4) is 0"
  pub stays : result 2 greatest (pos 1) (pos 0) (pos 0) ≡ greatest
  pub lower : result 8 (pos 3) (pos 7) (pos 3) (pos 4) ≡ pos 0
  pub higher : result 8 (pos 3) (pos 4) (pos 3) (pos 7) ≡ pos 1
  pub equal : result 8 (pos 3) (pos 4) (pos 3) (pos 4) ≡ pos 0
