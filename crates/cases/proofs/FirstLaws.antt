-- The order of the cases: of two different ones one is earlier, and none is earlier than itself. So one case at most is the first.
-- Assumes nothing.
use Prim.Native.Nat.{ℕ, ◌<◌}
use mathlib.Core.Path.{◌≡◌, refl, sym, ◌∙◌, ap, subst}
use mathlib.Core.Logic.{◌⊎◌, inl, inr, ⊎_elim}
use mathlib.Core.List.{List, [], ◌∷◌}
use native.Mathlib.Omega.{arith}
use lib.ListN.{get_or}
use Rattle.std.specs.Prelude.{Ok, Err}
use Rattle.basics.proofs.TestLaws.{below_or_not}
use Rattle.refusals.specs.declared.Refusal.{Refusal}
use Rattle.refusals.specs.declared.Refusal.TheVariants.{
  EndsEarly,
  OutOfRange,
  WrongClass,
  NoOccurrence,
  NotDefining,
  Undefined,
  LeftOver,
  TooShort,
  CircularIdp,
  CircularEdp,
  TreeSize,
  NoSuchRule,
  BadChild,
  RootNotStart,
  ChildDiffers,
  NotOneParent,
  ValuesTooShort,
}
use Rattle.refusals.specs.Numbers.{number_of, place_of, second_of}
use Rattle.grammar.specs.Verdicts.{Verdict, Good, Refused, ◌then◌}
use Rattle.cases.specs.First.{walk, Earlier, earlier_walk, earlier_place, lower_occurrence, lower_number, FirstCase, GoesBy}

-- a verdict is good or one refusal
pub good_not_refused : (n : Refusal) → Good ≡ Refused n → ⊥
good_not_refused n e = let z : ◌≡◌ {A = ℕ} 0 1 = cc in omega arith

pub same_refused : (m n : Refusal) → Refused m ≡ Refused n → m ≡ n
same_refused m n e = cc

-- two numbers: the first is lower, or the second, or they are equal
data Compared (a b : ℕ) : Type 0 where
  lower : a < b → Compared a b
  same : a ≡ b → Compared a b
  higher : b < a → Compared a b

compared : (a b : ℕ) → Compared a b
compared a b =
    ⊎_elim lower (λ l. ⊎_elim higher (λ m. same (omega arith)) (below_or_not b a)) (below_or_not a b)

-- the refusal of a number and two places; a number that no refusal has is filled in
rebuilt : ℕ → ℕ → ℕ → Refusal
rebuilt k p o =
    get_or
    (TreeSize ∷ EndsEarly p ∷ OutOfRange p ∷ WrongClass p ∷ NoOccurrence p ∷ NotDefining p ∷ Undefined p ∷ LeftOver p ∷ TooShort p
    ∷ CircularIdp p o ∷ CircularEdp p o ∷ TreeSize ∷ TreeSize ∷ NoSuchRule p ∷ BadChild p ∷ RootNotStart ∷ ChildDiffers p
    ∷ NotOneParent p ∷ ValuesTooShort ∷ []) k TreeSize

rebuilds : (n : Refusal) → rebuilt (number_of n) (place_of n) (second_of n) ≡ n
unfolding rebuilt
rebuilds (EndsEarly p) = refl
rebuilds (OutOfRange p) = refl
rebuilds (WrongClass p) = refl
rebuilds (NoOccurrence p) = refl
rebuilds (NotDefining p) = refl
rebuilds (Undefined p) = refl
rebuilds (LeftOver p) = refl
rebuilds (TooShort p) = refl
rebuilds (CircularIdp r o) = refl
rebuilds (CircularEdp r o) = refl
rebuilds TreeSize = refl
rebuilds (NoSuchRule n) = refl
rebuilds (BadChild n) = refl
rebuilds RootNotStart = refl
rebuilds (ChildDiffers n) = refl
rebuilds (NotOneParent n) = refl
rebuilds ValuesTooShort = refl

module _ (g : List ℕ) where
  same_case : (m n : Refusal) → number_of m ≡ number_of n → place_of m ≡ place_of n → second_of m ≡ second_of n → m ≡ n
  same_case m n e f h =
      sym (rebuilds m)
      ∙ (ap (λ (k : ℕ). rebuilt k (place_of m) (second_of m)) e
      ∙ (ap (λ (k : ℕ). rebuilt (number_of n) k (second_of m)) f
      ∙ (ap (λ (k : ℕ). rebuilt (number_of n) (place_of n) k) h ∙ rebuilds n)))

  -- of two cases one is earlier, or they are the same
  pub ordered : (m n : Refusal) → Earlier g m n ⊎ Earlier g n m ⊎ (m ≡ n)
  ordered m n = by_walk (compared (walk g m) (walk g n))
    where
      by_number : walk g m ≡ walk g n → place_of m ≡ place_of n → second_of m ≡ second_of n → Compared (number_of m) (number_of n)
          → Earlier g m n ⊎ Earlier g n m ⊎ (m ≡ n)
      by_number w t s (lower l) = inl (lower_number w t s l)
      by_number w t s (same e) = inr (inr (same_case m n e t s))
      by_number w t s (higher l) = inr (inl (lower_number (sym w) (sym t) (sym s) l))

      by_second : walk g m ≡ walk g n → place_of m ≡ place_of n → Compared (second_of m) (second_of n) → Earlier g m n ⊎ Earlier g n m ⊎ (m ≡ n)
      by_second w t (lower l) = inl (lower_occurrence w t l)
      by_second w t (same e) = by_number w t e (compared (number_of m) (number_of n))
      by_second w t (higher l) = inr (inl (lower_occurrence (sym w) (sym t) l))

      by_place : walk g m ≡ walk g n → Compared (place_of m) (place_of n) → Earlier g m n ⊎ Earlier g n m ⊎ (m ≡ n)
      by_place w (lower l) = inl (earlier_place w l)
      by_place w (same e) = by_second w e (compared (second_of m) (second_of n))
      by_place w (higher l) = inr (inl (earlier_place (sym w) l))

      by_walk : Compared (walk g m) (walk g n) → Earlier g m n ⊎ Earlier g n m ⊎ (m ≡ n)
      by_walk (lower l) = inl (earlier_walk l)
      by_walk (same e) = by_place e (compared (place_of m) (place_of n))
      by_walk (higher l) = inr (inl (earlier_walk l))

  -- one case at most is the first
  first_one : (Case : Refusal → Type 1) (m n : Refusal) → FirstCase g Case m → FirstCase g Case n → m ≡ n
  first_one Case m n v w =
      ⊎_elim (λ e. absurd (w.no_earlier m v.applies e))
      (λ r. ⊎_elim (λ e. absurd (v.no_earlier n w.applies e)) (λ e. e) r) (ordered m n)

  -- what is in a later walk is not earlier
  pub later_walk : (m n : Refusal) → walk g n < walk g m → Earlier g m n → ⊥
  later_walk m n h (earlier_walk l) = omega arith
  later_walk m n h (earlier_place e l) = omega arith
  later_walk m n h (lower_occurrence e f l) = omega arith
  later_walk m n h (lower_number e f s l) = omega arith

  -- a verdict that is good only where no case applies, and whose refusal is the first case, goes by the cases
  pub goes_by : (Case : Refusal → Type 1) (v : Verdict) → (v ≡ Good → (n : Refusal) → ¬ Case n)
      → ((n : Refusal) → v ≡ Refused n → FirstCase g Case n) → GoesBy g Case v
  goes_by Case v none first =
      record {
        good = (none, back v first refl);
        refused = λ n. (first n, λ f. same_refusal v none first refl n f);
      }
    where
      back : (w : Verdict) → ((n : Refusal) → w ≡ Refused n → FirstCase g Case n) → v ≡ w → ((n : Refusal) → ¬ Case n) → v ≡ Good
      back (Ok _) f e h = e
      back (Err n) f e h = absurd (h n (f n refl).applies)

      same_refusal : (w : Verdict) → (w ≡ Good → (n : Refusal) → ¬ Case n) → ((n : Refusal) → w ≡ Refused n → FirstCase g Case n) → v ≡ w
          → (n : Refusal) → FirstCase g Case n → v ≡ Refused n
      same_refusal (Ok _) h f e n q = absurd (h refl n q.applies)
      same_refusal (Err m) h f e n q = e ∙ ap Refused (first_one Case m n (f m refl) q)

  -- a verdict's finding: no case applies, or this is the first
  pub data Found (Case : Refusal → Type 1) (v : Verdict) : Type 1 where
    nothing : v ≡ Good → ((n : Refusal) → ¬ Case n) → Found Case v
    fault : (n : Refusal) → v ≡ Refused n → FirstCase g Case n → Found Case v

  pub by_finding : (Case : Refusal → Type 1) (v : Verdict) → Found Case v → GoesBy g Case v
  by_finding Case v (nothing e h) = goes_by Case v (λ i. h) (λ n i. absurd (good_not_refused n (sym e ∙ i)))
  by_finding Case v (fault m e f) =
      goes_by Case v (λ i. absurd (good_not_refused m (sym i ∙ e))) (λ n i. subst (FirstCase g Case) (same_refused m n (sym e ∙ i)) f)

  -- Two verdicts one after the other, the cases of the second in later walks: together they go by the cases of both.
  module _ (A B Both : Refusal → Type 1) (left : (n : Refusal) → A n → Both n) (right : (n : Refusal) → B n → Both n)
      (either : (n : Refusal) → Both n → A n ⊎ B n) (later : (m n : Refusal) → A m → B n → walk g m < walk g n) where
    first_left : (n : Refusal) → FirstCase g A n → FirstCase g Both n
    first_left n f =
        record {
          applies = left n f.applies;
          no_earlier = λ m c e.
              ⊎_elim (λ a. f.no_earlier m a e) (λ b. later_walk m n (later n m f.applies b) e) (either m c);
        }

    first_right : ((m : Refusal) → ¬ A m) → (n : Refusal) → FirstCase g B n → FirstCase g Both n
    first_right none n f =
        record {
          applies = right n f.applies;
          no_earlier = λ m c e. ⊎_elim (λ a. none m a) (λ b. f.no_earlier m b e) (either m c);
        }

    pub goes_then : (v w : Verdict) → GoesBy g A v → (v ≡ Good → GoesBy g B w) → GoesBy g Both (v then w)
    unfolding ◌then◌
    goes_then (Ok _) w p q =
        goes_by Both w
        (λ e n c. ⊎_elim (λ a. p.good.0 refl n a) (λ b. (q refl).good.0 e n b) (either n c))
        (λ n e. first_right (p.good.0 refl) n (((q refl).refused n).0 e))
    goes_then (Err k) w p q =
        goes_by Both (Refused k) (λ e. absurd (good_not_refused k (sym e)))
        (λ n e. first_left n ((p.refused n).0 e))
