-- The arcs that the steps add, by the words that they are read from: those of a function, of a rule's functions, and of the symbols at a
-- rule's positions. Each takes how many of them count, so that a loop's invariant is the definition at its counter.
-- For proofs of the code: no demand rests on it. Assumes nothing.
use Rattle.std.specs.Prelude.{ℕ, ◌+◌, ◌≤◌, ◌<◌, ◌≡◌, ◌⊎◌, cond, List, T, length}
use Rattle.bits.specs.Bit.{hasb}
use Rattle.basics.specs.Lists.{word}
use Rattle.grammar.specs.Table.{attributes, argument_words, is_constant, length_at, function_at, functions_at}
use Rattle.access.specs.ByPlace.{symbol_from, Shaped}
use Rattle.closing.specs.Rows.{arcs_at}
use Rattle.inducing.specs.Closes.{ArcAt, Ends}

-- how many argument words of the function at word f are occurrences
unfoldable pub arguments_at : List ℕ → ℕ → ℕ
arguments_at g f = cond (is_constant (word g (f + 1))) 0 (argument_words (word g (f + 1)))

-- the function at word f, its first n arguments: an arc from an argument to the target
pub record FunctionArc (g : List ℕ) (f n a b : ℕ) : Type 0 where
  pub place : ℕ
  pub place_fits : place < n
  pub argument : a ≡ word g (f + 2 + place)
  pub target : b ≡ word g f

-- its words are there, and its target and arguments have rows and places in a row
pub record FunctionSmall (g : List ℕ) (f : ℕ) : Type 0 where
  pub there : f + 2 + argument_words (word g (f + 1)) ≤ length g
  pub target_small : word g f < 64
  pub argument_small : (j : ℕ) → j < arguments_at g f → word g (f + 2 + j) < 64

-- the rule at word p, its first n functions
pub record RuleArc (g : List ℕ) (p n a b : ℕ) : Type 0 where
  pub function : ℕ
  pub function_fits : function < n
  pub arc : FunctionArc g (function_at g p function) (arguments_at g (function_at g p function)) a b

-- the rule at word p, its first n positions, and a set of arcs for each symbol
pub record SpreadArc (g : List ℕ) (p : ℕ) (arcs : List ℕ) (n c d : ℕ) : Type 0 where
  pub place : ℕ
  pub place_fits : place < n
  pub arc : ArcAt place (word arcs (symbol_from g p place)) c d

-- both: what the rule at word p gets at first
pub data OpeningArc (g : List ℕ) (p : ℕ) (arcs : List ℕ) (c d : ℕ) : Type 0 where
  of_rule : RuleArc g p (functions_at g p) c d → OpeningArc g p arcs c d
  of_symbol : SpreadArc g p arcs (length_at g p + 1) c d → OpeningArc g p arcs c d

-- the function at word f is there and speaks of occurrences
pub record FunctionFits (g : List ℕ) (among f : ℕ) : Type 0 where
  pub there : f + 2 + argument_words (word g (f + 1)) ≤ length g
  pub target_fits : T (hasb (word g f) among)
  pub argument_fits : (j : ℕ) → j < arguments_at g f → T (hasb (word g (f + 2 + j)) among)

-- what a rule of an accepted table, at word p, has
pub record Ruled (g : List ℕ) (p : ℕ) : Type 0 where
  pub near : p < 65536
  pub shaped : Shaped g p
  pub few : functions_at g p ≤ 64
  pub symbol_fits : (i : ℕ) → i ≤ length_at g p → symbol_from g p i < 32

-- its functions speak of occurrences
abbrev pub FunctionsFit : List ℕ → ℕ → ℕ → Type 0
FunctionsFit g p among = (k : ℕ) → k < functions_at g p → FunctionFits g among (function_at g p k)

-- and have rows and places in a row
abbrev pub FunctionsSmall : List ℕ → ℕ → Type 0
FunctionsSmall g p = (k : ℕ) → k < functions_at g p → FunctionSmall g (function_at g p k)

-- the arcs that its symbols have stand between occurrences
abbrev pub ArcsFit : List ℕ → ℕ → ℕ → List ℕ → Type 0
ArcsFit g p among arcs = (i : ℕ) → i ≤ length_at g p → Ends among i (word arcs (symbol_from g p i))

-- the arcs at the first n positions of the rule at word p, put to those of their symbols
pub record Gathered (g : List ℕ) (p : ℕ) (rows : List ℕ) (n : ℕ) (ids after : List ℕ) : Type 0 where
  pub size : length after ≡ length ids
  pub keeps : (x k : ℕ) → T (hasb k (word ids x)) → T (hasb k (word after x))
  pub has : (i k : ℕ) → i < n → T (hasb k (arcs_at rows i (attributes g (symbol_from g p i)))) → T (hasb k (word after (symbol_from g p i)))
  pub sound : (x k : ℕ) → T (hasb k (word after x))
      → T (hasb k (word ids x)) ⊎ ((i : ℕ) × (i < n) × (symbol_from g p i ≡ x) × T (hasb k (arcs_at rows i (attributes g x))))
