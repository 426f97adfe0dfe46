-- Laws of the verdicts in the form that code meets them: a test that stops answers, and one that passes hands on.
-- Assumes nothing.
use Prim.Native.Nat.{ℕ, zero, suc, ◌+◌, ◌^◌, ◌≤◌, ◌<◌}
use mathlib.Core.Path.{◌≡◌, refl, sym, ◌∙◌, ap, ap₂}
use mathlib.Core.Logic.{⊎_elim}
use mathlib.Core.Bool.{Bool, true, false}
use mathlib.Core.List.{List}
use native.Mathlib.Omega.{arith}
use native.Mathlib.Nat.{not-suc-le-zero}
use native.Mathlib.Numerals.{add-one}
use lib.Dec.{ltb, leb, eqb, leb→le}
use lib.ListN.{length, get_or, get_or-eq_default}
use borrow.Author.Tests.{lt-ltb, le-ltb}
use Rattle.std.specs.Prelude.{Ok, Err}
use Rattle.basics.specs.Tests.{◌and◌, ◌or◌}
use Rattle.basics.proofs.TestLaws.{below_suc}
use Rattle.bits.specs.Bit.{hasb}
use Rattle.bits.proofs.BitLaws.{bit_above, bit_lacks}
use Rattle.refusals.specs.declared.Refusal.{Refusal}
use Rattle.refusals.specs.declared.Refusal.TheVariants.{EndsEarly}
use Rattle.grammar.specs.Verdicts.{Verdict, Good, Refused, ◌then◌, unless, each}
use Rattle.grammar.specs.Table.{nonterminal, mask, argument_words, length_at, functions_at}
use Rattle.grammar.specs.Reading.{present, ranged}
use Rattle.grammar.proofs.AcceptedSymbols.{ranged_passes}
use Rattle.access.specs.ByPlace.{symbol_from, symbol_test, argument_from, arguments_from}

-- a verdict that is no good one answers for the chain
pub stops : (v w u : Verdict) (n : Refusal) → u ≡ v → u ≡ Refused n → u ≡ v then w
unfolding ◌then◌
stops v w u n e f = f ∙ sym (ap (λ (x : Verdict). x then w) (sym e ∙ f))

-- a good one hands on to the rest
pub passes : (v w u a : Verdict) → u ≡ v → u ≡ Good → a ≡ w → a ≡ v then w
unfolding ◌then◌
passes v w u a e f h = h ∙ sym (ap (λ (x : Verdict). x then w) (sym e ∙ f))

-- no verdict is good and refused
pub refused_good : (v : Verdict) (n : Refusal) → v ≡ Refused n → v ≡ Good → ⊥
refused_good v n e f = let z : ◌≡◌ {A = ℕ} 0 1 = cc in omega arith

pub unless_true : (b : Bool) (n : Refusal) → b ≡ true → Good ≡ unless b n
unfolding unless
unless_true b n e = sym (ap (λ (x : Bool). unless x n) e)

pub unless_false : (b : Bool) (n : Refusal) → b ≡ false → Refused n ≡ unless b n
unfolding unless
unless_false b n e = sym (ap (λ (x : Bool). unless x n) e)

pub present_there : (g : List ℕ) (p : ℕ) → p < length g → Good ≡ present g p
unfolding present
present_there g p h = unless_true _ _ (lt-ltb p (length g) h)

pub present_missing : (g : List ℕ) (p : ℕ) → length g ≤ p → Refused (EndsEarly p) ≡ present g p
unfolding present
present_missing g p h = unless_false _ _ (le-ltb p (length g) h)

pub past_end : (g : List ℕ) (p : ℕ) → length g ≤ p → 0 ≡ get_or g p 0
past_end g p h = sym (get_or-eq_default g 0 h)

-- ---- tests joined, as a branch meets them

pub or_first : (a b u : Bool) → u ≡ a → u ≡ true → u ≡ (a or b)
unfolding ◌or◌
or_first a b u e t = t ∙ sym (ap (λ (x : Bool). x or b) (sym e ∙ t))

pub or_second : (a b u v : Bool) → u ≡ a → u ≡ false → v ≡ b → v ≡ (a or b)
unfolding ◌or◌
or_second a b u v e f h = h ∙ sym (ap (λ (x : Bool). x or b) (sym e ∙ f))

pub and_first : (a b u : Bool) → u ≡ a → u ≡ false → u ≡ (a and b)
unfolding ◌and◌
and_first a b u e f = f ∙ sym (ap (λ (x : Bool). x and b) (sym e ∙ f))

pub and_second : (a b u v : Bool) → u ≡ a → u ≡ true → v ≡ b → v ≡ (a and b)
unfolding ◌and◌
and_second a b u v e t h = h ∙ sym (ap (λ (x : Bool). x and b) (sym e ∙ t))

-- ---- loops: the tests passed so far, one more, and the end

pub each_none : (f : ℕ → Verdict) → each 0 f ≡ Good
unfolding each
each_none f = refl

pub each_more : (n : ℕ) (f : ℕ → Verdict) (u : Verdict) → each n f ≡ Good → u ≡ f n → u ≡ Good → each (n + 1) f ≡ Good
unfolding each ◌then◌
each_more n f u e h k = rw add-one (ap (λ (x : Verdict). x then f n) e ∙ (sym h ∙ k))

-- the first test that fails answers for them all
pub each_stop : (n k : ℕ) (f : ℕ → Verdict) (u : Verdict) (m : Refusal) → k < n → each k f ≡ Good → u ≡ f k → u ≡ Refused m → u ≡ each n f
unfolding each ◌then◌
each_stop zero k f u m h e i j = absurd (not-suc-le-zero h)
each_stop (suc n) k f u m h e i j =
    ⊎_elim (λ l. stops (each n f) (f n) u m (each_stop n k f u m l e i j) j)
    (λ q. passes (each n f) (f n) (each k f) u (ap (λ (x : ℕ). each x f) q) e (i ∙ ap f q))
    (below_suc k n h)

pub each_end : (n k : ℕ) (f : ℕ → Verdict) → k ≤ n → n ≤ k → each k f ≡ Good → Good ≡ each n f
each_end n k f h l e = let q : k ≡ n = omega arith in sym e ∙ ap (λ (x : ℕ). each x f) q

-- ---- two chains whose tests are the same, each as far as the tests before it passed

-- each test of two chains is the same, as far as the tests before it passed
pub then_same : (v w z : Verdict) → (v ≡ Good → w ≡ z) → v then w ≡ v then z
unfolding ◌then◌
then_same (Ok _) w z h = h refl
then_same (Err n) w z h = refl

pub each_same : (n : ℕ) (f h : ℕ → Verdict) → ((k : ℕ) → f k ≡ h k) → each n f ≡ each n h
unfolding each
each_same zero f h e = refl
each_same (suc n) f h e = ap₂ (λ (v w : Verdict). v then w) (each_same n f h e) (e n)

-- ---- what a range test that passed says

pub ranged_le : (g : List ℕ) (p a b : ℕ) (u : Verdict) → u ≡ ranged g p (leb a b) → u ≡ Good → a ≤ b
ranged_le g p a b u e h = leb→le a b (ranged_passes g p (leb a b) (sym e ∙ h))

-- ---- a test of what the code holds is the test of what the table holds

pub zero_of : (a b : ℕ) → a ≡ b → eqb a 0 ≡ eqb b 0
zero_of a b e = ap (λ (x : ℕ). eqb x 0) e

pub ltb_of : (a b x y : ℕ) → a ≡ x → b ≡ y → ltb a b ≡ ltb x y
ltb_of a b x y d e = ap₂ ltb d e

pub leb_of : (a b x : ℕ) → a ≡ x → leb a b ≡ leb x b
leb_of a b x e = ap (λ (n : ℕ). leb n b) e

pub mask_of : (m k n a b : ℕ) → a ≡ m → b ≡ 2 ^ n → n ≡ k → ltb a b ≡ ltb m (2 ^ k)
mask_of m k n a b d e f = ap₂ ltb d (e ∙ ap (λ (x : ℕ). 2 ^ x) f)

pub nonterminal_of : (g : List ℕ) (x y : ℕ) (u : Bool) → u ≡ nonterminal g x → x ≡ y → u ≡ nonterminal g y
nonterminal_of g x y u e d = e ∙ ap (nonterminal g) d

pub class_of : (g : List ℕ) (x y : ℕ) (u : Bool)
    → u ≡ (nonterminal g x and eqb (mask g x) 0) → x ≡ y → u ≡ (nonterminal g y and eqb (mask g y) 0)
class_of g x y u e d = e ∙ ap (λ (z : ℕ). nonterminal g z and eqb (mask g z) 0) d

pub fits_of : (b : Bool) (s x y : ℕ) (u : Bool) → u ≡ (b or hasb x s) → x ≡ y → u ≡ (b or hasb y s)
fits_of b s x y u e d = e ∙ ap (λ (z : ℕ). b or hasb z s) d

pub between_of : (l h x y : ℕ) (u : Bool) → u ≡ (leb l x and leb x h) → x ≡ y → u ≡ (leb l y and leb y h)
between_of l h x y u e d = e ∙ ap (λ (n : ℕ). leb l n and leb n h) d

pub ranged_of : (g : List ℕ) (p : ℕ) (a b : Bool) (v : Verdict) → v ≡ ranged g p a → a ≡ b → v ≡ ranged g p b
ranged_of g p a b v e d = e ∙ ap (ranged g p) d

pub unless_of : (a b : Bool) (n : Refusal) (v : Verdict) → v ≡ unless a n → a ≡ b → v ≡ unless b n
unless_of a b n v e d = e ∙ ap (λ (x : Bool). unless x n) d

pub each_of : (f : ℕ → Verdict) (n m : ℕ) (v : Verdict) → v ≡ each n f → n ≡ m → v ≡ each m f
each_of f n m v e d = e ∙ ap (λ (k : ℕ). each k f) d

-- a right side's tests and a count's test, by the numbers that the code holds
pub right_of : (g : List ℕ) (p n m : ℕ) (v : Verdict) → v ≡ each n (λ i. symbol_test g (p + i)) → n ≡ m → v ≡ each m (λ i. symbol_test g (p + i))
right_of g p n m v e d = e ∙ ap (λ (k : ℕ). each k (λ i. symbol_test g (p + i))) d

pub count_of : (g : List ℕ) (p n k : ℕ) (v : Verdict) → v ≡ ranged g (p + 2 + n) (leb k 64) → n ≡ length_at g p → k ≡ functions_at g p
    → v ≡ ranged g (p + 2 + length_at g p) (leb (functions_at g p) 64)
count_of g p n k v e d f = e ∙ ap₂ (λ (m c : ℕ). ranged g (p + 2 + m) (leb c 64)) d f

-- the chain of a function's arguments, by the operation and the count that the code holds
pub arguments_are : (g : List ℕ) (f op n s : ℕ) (v : Verdict) → op ≡ get_or g (f + 1) 0 → n ≡ argument_words op
    → v ≡ each n (λ i. argument_from g (f + 2 + i) (eqb op 0) s) → v ≡ arguments_from g f s
unfolding arguments_from
arguments_are g f op n s v d e h =
    h
    ∙ (ap (λ (m : ℕ). each m (λ i. argument_from g (f + 2 + i) (eqb op 0) s)) e
    ∙ ap (λ (o : ℕ). each (argument_words o) (λ i. argument_from g (f + 2 + i) (eqb o 0) s)) d)

-- ---- views

pub symbol_left : (g : List ℕ) (p i v : ℕ) → i ≡ 0 → v ≡ get_or g p 0 → v ≡ symbol_from g p i
unfolding symbol_from
symbol_left g p i v e h = h ∙ sym (ap (symbol_from g p) e)

pub symbol_right : (g : List ℕ) (p i v : ℕ) → (i ≡ 0 → ⊥) → v ≡ get_or g (p + 1 + i) 0 → v ≡ symbol_from g p i
unfolding symbol_from
symbol_right g p zero v d h = absurd (d refl)
symbol_right g p (suc i) v d h =
    let e : p + 1 + suc i ≡ p + 2 + i = omega arith in
    h ∙ ap (λ (q : ℕ). get_or g q 0) e

-- the number of functions stands after a right side of length n
pub count_at : (g : List ℕ) (p n v : ℕ) → n ≡ length_at g p → v ≡ get_or g (p + 2 + n) 0 → v ≡ functions_at g p
count_at g p n v d e = e ∙ ap (λ (m : ℕ). get_or g (p + 2 + m) 0) d

-- past the width a set has no member
pub member_past : (o s : ℕ) → s < 2 ^ 64 → 64 ≤ o → false ≡ hasb o s
member_past o s h l = sym (bit_lacks o s (bit_above 64 o s h l))
