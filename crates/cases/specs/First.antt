-- Document 01, "Refusal numbers", the order: which of several cases answers. A case is a refusal with its places; it applies or not.
-- The work goes in walks, one after the other, and each case is tested in one of them. Assumes nothing.
use Rattle.std.specs.Prelude.{ℕ, ◌<◌, ◌≡◌, ◌↔◌, cond, List, ltb, eqb, Result, Ok, Err}
use Rattle.refusals.specs.declared.Refusal.{Refusal}
use Rattle.refusals.specs.declared.Refusal.TheVariants.{
  EndsEarly,
  OutOfRange,
  WrongClass,
  NoOccurrence,
  NotDefining,
  Undefined,
  LeftOver,
  TooShort,
  CircularIdp,
  CircularEdp,
  TreeSize,
  NoSuchRule,
  BadChild,
  RootNotStart,
  ChildDiffers,
  NotOneParent,
  ValuesTooShort,
}
use Rattle.refusals.specs.Numbers.{number_of, place_of, second_of}
use Rattle.grammar.specs.Table.{rule_at}

-- "Words are read left to right", and "Start's class is tested after the symbols, before the rules": a walk over the words up to the first
-- rule, then the start's class, then the words of the rules
abbrev pub symbol_walk : ℕ
symbol_walk = 1

abbrev pub start_walk : ℕ
start_walk = 2

abbrev pub rule_walk : ℕ
rule_walk = 3

unfoldable pub word_walk : List ℕ → ℕ → ℕ
word_walk g p = cond (ltb p (rule_at g 0)) symbol_walk rule_walk

-- "Then 8 to 18 in order": the room, the cycles of IDP, of EDP
abbrev pub room_walk : ℕ
room_walk = 4

abbrev pub idp_walk : ℕ
idp_walk = 5

abbrev pub edp_walk : ℕ
edp_walk = 6

-- the walk in which a case is tested: those of the tree "with 13 and 14 together in one walk up the nodes"
abbrev pub walk : List ℕ → Refusal → ℕ
walk g (EndsEarly p) = word_walk g p
walk g (OutOfRange p) = word_walk g p
walk g (WrongClass p) = cond (eqb p 2) start_walk (word_walk g p)
walk g (NoOccurrence p) = word_walk g p
walk g (NotDefining p) = word_walk g p
walk g (Undefined p) = word_walk g p
walk g (LeftOver p) = word_walk g p
walk g (TooShort b) = room_walk
walk g (CircularIdp r o) = idp_walk
walk g (CircularEdp r o) = edp_walk
walk g TreeSize = 7
walk g (NoSuchRule n) = 8
walk g (BadChild n) = 8
walk g RootNotStart = 9
walk g (ChildDiffers n) = 10
walk g (NotOneParent n) = 11
walk g ValuesTooShort = 12

-- case m is tested before case n
pub data Earlier (g : List ℕ) (m n : Refusal) : Type 0 where
  -- one walk after the other
  earlier_walk : walk g m < walk g n → Earlier g m n
  -- "Words are read left to right", "in rising order of nodes", "the lowest-numbered rule"
  earlier_place : walk g m ≡ walk g n → place_of m < place_of n → Earlier g m n
  -- "and in it the lowest occurrence"
  lower_occurrence : walk g m ≡ walk g n → place_of m ≡ place_of n → second_of m < second_of n → Earlier g m n
  -- "at one word the lower number", "13 first at a node"
  lower_number : walk g m ≡ walk g n → place_of m ≡ place_of n → second_of m ≡ second_of n → number_of m < number_of n → Earlier g m n

-- "the first fault answers": case n applies and none that is tested before it does
pub record FirstCase (g : List ℕ) (Case : Refusal → Type 1) (n : Refusal) : Type 1 where
  pub applies : Case n
  pub no_earlier : (m : Refusal) → Case m → ¬ Earlier g m n

-- a verdict goes by these cases: it is good exactly if none applies, and a refusal exactly if that is the first that applies
pub record GoesBy (g : List ℕ) (Case : Refusal → Type 1) (v : Result (Unit {0}) Refusal) : Type 1 where
  pub good : (v ≡ Ok tt) ↔ ((n : Refusal) → ¬ Case n)
  pub refused : (n : Refusal) → (v ≡ Err n) ↔ FirstCase g Case n
