-- 11 was to say that planning stops with actions left, which never happens (sequences/proofs/AlwaysReady), so no refusal has this number.
-- Assumes nothing.
use native.Mathlib.Omega.{arith}
use mathlib.Core.Path.{◌≡◌}
use Rattle.refusals.specs.declared.Refusal.{Refusal}
use Rattle.refusals.specs.declared.Refusal.TheVariants.{
  EndsEarly,
  OutOfRange,
  WrongClass,
  NoOccurrence,
  NotDefining,
  Undefined,
  LeftOver,
  TooShort,
  CircularIdp,
  CircularEdp,
  TreeSize,
  NoSuchRule,
  BadChild,
  RootNotStart,
  ChildDiffers,
  NotOneParent,
  ValuesTooShort,
}
use Rattle.refusals.specs.Numbers.{number_of}

pub no_eleven : (n : Refusal) → ¬ (number_of n ≡ 11)
no_eleven (EndsEarly p) e = omega arith
no_eleven (OutOfRange p) e = omega arith
no_eleven (WrongClass p) e = omega arith
no_eleven (NoOccurrence p) e = omega arith
no_eleven (NotDefining p) e = omega arith
no_eleven (Undefined p) e = omega arith
no_eleven (LeftOver p) e = omega arith
no_eleven (TooShort p) e = omega arith
no_eleven (CircularIdp r o) e = omega arith
no_eleven (CircularEdp r o) e = omega arith
no_eleven TreeSize e = omega arith
no_eleven (NoSuchRule n) e = omega arith
no_eleven (BadChild n) e = omega arith
no_eleven RootNotStart e = omega arith
no_eleven (ChildDiffers n) e = omega arith
no_eleven (NotOneParent n) e = omega arith
no_eleven ValuesTooShort e = omega arith
