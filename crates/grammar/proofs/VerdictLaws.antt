-- A chain of tests is good exactly where each of its tests passes.
-- Assumes nothing.
use Prim.Native.Nat.{ℕ, zero, suc, ◌<◌}
use mathlib.Core.Path.{◌≡◌, refl, sym, ◌∙◌, ap, subst}
use mathlib.Core.Logic.{⊎_elim}
use mathlib.Core.Bool.{Bool, true, false}
use native.Mathlib.Omega.{arith}
use native.Mathlib.Nat.{not-suc-le-zero}
use lib.Dec.{T}
use Rattle.std.specs.Prelude.{Result, Ok, Err, IsErrAnd}
use Rattle.basics.proofs.TestLaws.{below_suc}
use Rattle.refusals.specs.declared.Refusal.{Refusal}
use Rattle.grammar.specs.Verdicts.{Verdict, Good, ◌then◌, unless, each}

-- A `?` hands out the refusal that came, so its answer is what the law says of that one's.
pub handed_out : {A : Type 0} (r : Result A Refusal) (n : Refusal) → IsErrAnd r (λ e. e ≡ n) → r ≡ Err n
handed_out (Ok x) n h = absurd h
handed_out (Err m) n h = ap (λ (k : Refusal). Err k) h

pub handed : (r s u : Verdict) (n : Refusal) → IsErrAnd r (λ e. e ≡ n) → u ≡ Err n → u ≡ s → r ≡ s
handed r s u n h d e = handed_out r n h ∙ (sym d ∙ e)

-- a good chain is good in both parts
pub then_first : (v w : Verdict) → v then w ≡ Good → v ≡ Good
unfolding ◌then◌
then_first (Ok _) w e = refl
then_first (Err n) w e = e

pub then_second : (v w : Verdict) → v then w ≡ Good → w ≡ Good
unfolding ◌then◌
then_second (Ok _) w e = e
then_second (Err n) w e = absurd (let z : ◌≡◌ {A = ℕ} 0 1 = cc in omega arith)

pub then_good : (v w : Verdict) → v ≡ Good → w ≡ Good → v then w ≡ Good
unfolding ◌then◌
then_good v w e f = ap (λ (u : Verdict). u then w) e ∙ f

pub unless_passes : (b : Bool) (n : Refusal) → unless b n ≡ Good → T b
unfolding unless
unless_passes true n e = tt
unless_passes false n e = let z : ◌≡◌ {A = ℕ} 0 1 = cc in omega arith

pub unless_good : (b : Bool) (n : Refusal) → T b → unless b n ≡ Good
unfolding unless
unless_good true n t = refl
unless_good false n t = absurd t

pub each_at : (n : ℕ) (f : ℕ → Verdict) → each n f ≡ Good → (k : ℕ) → k < n → f k ≡ Good
unfolding each
each_at zero f e k h = absurd (not-suc-le-zero h)
each_at (suc n) f e k h =
    ⊎_elim (λ l. each_at n f (then_first (each n f) (f n) e) k l)
    (λ i. subst (λ (j : ℕ). f j ≡ Good) (sym i) (then_second (each n f) (f n) e)) (below_suc k n h)

pub each_good : (n : ℕ) (f : ℕ → Verdict) → ((k : ℕ) → k < n → f k ≡ Good) → each n f ≡ Good
unfolding each
each_good zero f h = refl
each_good (suc n) f h =
    then_good (each n f) (f n) (each_good n f (λ k l. h k (omega arith))) (h n (omega arith))
