-- The numbers and places of document 01's table of refusals, for each case of the enum that the code answers with.
-- Assumes nothing.
use Rattle.std.specs.Prelude.{ℕ}
use Rattle.refusals.specs.declared.Refusal.{Refusal}
use Rattle.refusals.specs.declared.Refusal.TheVariants.{
  EndsEarly,
  OutOfRange,
  WrongClass,
  NoOccurrence,
  NotDefining,
  Undefined,
  LeftOver,
  TooShort,
  CircularIdp,
  CircularEdp,
  TreeSize,
  NoSuchRule,
  BadChild,
  RootNotStart,
  ChildDiffers,
  NotOneParent,
  ValuesTooShort,
}

-- the number in the table
abbrev pub number_of : Refusal → ℕ
number_of (EndsEarly p) = 1
number_of (OutOfRange p) = 2
number_of (WrongClass p) = 3
number_of (NoOccurrence p) = 4
number_of (NotDefining p) = 5
number_of (Undefined p) = 6
number_of (LeftOver p) = 7
number_of (TooShort p) = 8
number_of (CircularIdp r o) = 9
number_of (CircularEdp r o) = 10
number_of TreeSize = 12
number_of (NoSuchRule n) = 13
number_of (BadChild n) = 14
number_of RootNotStart = 15
number_of (ChildDiffers n) = 16
number_of (NotOneParent n) = 17
number_of ValuesTooShort = 18

-- the place: a word, a buffer, a rule or a node
abbrev pub place_of : Refusal → ℕ
place_of (EndsEarly p) = p
place_of (OutOfRange p) = p
place_of (WrongClass p) = p
place_of (NoOccurrence p) = p
place_of (NotDefining p) = p
place_of (Undefined p) = p
place_of (LeftOver p) = p
place_of (TooShort p) = p
place_of (CircularIdp r o) = r
place_of (CircularEdp r o) = r
place_of TreeSize = 0
place_of (NoSuchRule n) = n
place_of (BadChild n) = n
place_of RootNotStart = 0
place_of (ChildDiffers n) = n
place_of (NotOneParent n) = n
place_of ValuesTooShort = 0

-- the second place: the occurrence on a cycle, and 0 where none is named
abbrev pub second_of : Refusal → ℕ
second_of (EndsEarly p) = 0
second_of (OutOfRange p) = 0
second_of (WrongClass p) = 0
second_of (NoOccurrence p) = 0
second_of (NotDefining p) = 0
second_of (Undefined p) = 0
second_of (LeftOver p) = 0
second_of (TooShort p) = 0
second_of (CircularIdp r o) = o
second_of (CircularEdp r o) = o
second_of TreeSize = 0
second_of (NoSuchRule n) = 0
second_of (BadChild n) = 0
second_of RootNotStart = 0
second_of (ChildDiffers n) = 0
second_of (NotOneParent n) = 0
second_of ValuesTooShort = 0
