-- When a plan is sound for a grammar, whoever drew it up: document 02, 2026-05, without the dead symbols of 2026-04.
-- It speaks of sets and sequences alone. Assumes nothing.
use Rattle.std.specs.Prelude.{ℕ, suc, ◌-◌, ◌≤◌, ◌<◌, ◌≡◌, not, List, T}
use Rattle.grammar.specs.Limits.{most_symbols, most_attributes, rule_words}
use Rattle.grammar.specs.Table.{
  start,
  attributes,
  nonterminal,
  symbol_of,
  functions,
  target,
  argument,
  arguments,
  position,
  rule_counts,
  symbol_counts,
}
use Rattle.sets.specs.Paper.{of_class}
use Rattle.sets.specs.Visits.{set_number, visits}
use Rattle.sequences.specs.Actions.{compute, visit, leave, decode, is_action, makes, inherited_of, synthesized_of}
use Rattle.plans.specs.Sequences.{sequence_length, action_at}

-- "synthesized attributes are in odd sets and inherited in even ones, 1 to 10"
pub record SetFits (g p : List ℕ) (x a : ℕ) : Type 0 where
  pub low : 1 ≤ set_number p x a
  pub high : set_number p x a ≤ 10
  pub class : T (of_class g x (set_number p x a) a)

-- attribute a of nonterminal x exists
pub record Exists (g : List ℕ) (x a : ℕ) : Type 0 where
  pub counts : T (symbol_counts g x)
  pub nonterminal_is : T (nonterminal g x)
  pub attribute_is : a < attributes g x

-- action number a stands at a place of rule r's sequence before place j
pub record Before (p : List ℕ) (r j a : ℕ) : Type 0 where
  pub place : ℕ
  pub earlier : place < j
  pub action_is : action_at p r place ≡ a

-- occurrence o is available from the start: a terminal's, or an inherited one of the left side's first visit
pub data FromStart (g p : List ℕ) (r o : ℕ) : Type 0 where
  of_terminal : T (not (nonterminal g (symbol_of g r (position o)))) → FromStart g p r o
  of_first_visit : T (inherited_of g p r 0 1 o) → FromStart g p r o

-- what makes o available stands before place j, or o is available from the start
pub data Available (g p : List ℕ) (r j o : ℕ) : Type 0 where
  always : FromStart g p r o → Available g p r j o
  made : (a : ℕ) → Before p r j a → T (makes g p r (decode a) o) → Available g p r j o

-- the sequence of rule r; where this fails the plan has 27 at r
pub record RuleSound (g p : List ℕ) (r : ℕ) : Type 0 where
  pub fits : sequence_length p r < rule_words
  -- "each sequence has every compute, visit and leave of its rule once and nothing else"
  pub every : (a : ℕ) → T (is_action g p r a) → Before p r (sequence_length p r) a
  pub nothing_else : (j : ℕ) → j < sequence_length p r → T (is_action g p r (action_at p r j))
  pub once : (j k : ℕ) → j < sequence_length p r → k < sequence_length p r → action_at p r j ≡ action_at p r k → j ≡ k
  -- "visits to a child and leaves rise, the last leave ends it"
  pub visits_rise : (j k i m n : ℕ) → j < sequence_length p r → k < sequence_length p r
      → decode (action_at p r j) ≡ visit i m → decode (action_at p r k) ≡ visit i n → m < n → j < k
  pub leaves_rise : (j k m n : ℕ) → j < sequence_length p r → k < sequence_length p r
      → decode (action_at p r j) ≡ leave m → decode (action_at p r k) ≡ leave n → m < n → j < k
  pub ended : decode (action_at p r (sequence_length p r - 1)) ≡ leave (visits p (symbol_of g r 0))
  -- "each compute follows what makes its arguments available, each visit and leave the computes that it hands over"
  pub arguments_first : (j o k i : ℕ) → j < sequence_length p r → decode (action_at p r j) ≡ compute o
      → k < functions g r → target g r k ≡ o → i < arguments g r k → Available g p r j (argument g r k i)
  pub handed_down : (j i n o : ℕ) → j < sequence_length p r → decode (action_at p r j) ≡ visit i n
      → T (inherited_of g p r i n o) → Before p r j o
  pub handed_up : (j n o : ℕ) → j < sequence_length p r → decode (action_at p r j) ≡ leave n
      → T (synthesized_of g p r 0 n o) → Before p r j o
  -- "words past a length are zero"
  pub zeros : (j : ℕ) → sequence_length p r ≤ j → suc j < rule_words → action_at p r j ≡ 0

-- the sets of symbol x; where this fails the plan has 26 at x (02, 2026-05)
pub record SymbolSound (g p : List ℕ) (x : ℕ) : Type 0 where
  pub sets : (a : ℕ) → Exists g x a → SetFits g p x a
  -- "words where nothing stands are zero"
  pub nothing : (a : ℕ) → a < most_attributes → (Exists g x a → ⊥) → set_number p x a ≡ 0
  -- "the start uses set 1 only"
  pub start_set : x ≡ start g → (a : ℕ) → a < attributes g x → set_number p x a ≡ 1

pub record Sound (g p : List ℕ) : Type 0 where
  pub symbol : (x : ℕ) → x < most_symbols → SymbolSound g p x
  pub rule : (r : ℕ) → T (rule_counts g r) → RuleSound g p r
