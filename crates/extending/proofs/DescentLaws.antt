-- The arcs that lead down, made arc by arc and symbol by symbol, and what a member of them says.
-- Assumes nothing.
use Prim.Native.Nat.{ℕ, ◌+◌, ◌*◌, ◌-◌, ◌/◌, ◌%◌, ◌^◌, ◌≤◌, ◌<◌}
use mathlib.Core.Path.{◌≡◌, refl, sym, ◌∙◌, ap, ap₂, subst, subst⁻¹}
use mathlib.Core.Bool.{Bool, true, false, cond}
use mathlib.Core.List.{List}
use native.Mathlib.Omega.{arith}
use native.Mathlib.Numerals.{add-one}
use lib.Dec.{T, ltb, ltb→lt, lt→ltb}
use lib.ListN.{get_or, set, replicate, get_or-append}
use borrow.Author.Tests.{lt-ltb, le-ltb}
use Rattle.bits.specs.Bit.{bit, number, hasb, collect, insert}
use Rattle.bits.proofs.CollectLaws.{bit_collect_above, collect_lt}
use Rattle.bits.proofs.MemberLaws.{hasb_collect, hasb_below}
use Rattle.basics.specs.Tests.{◌and◌}
use Rattle.basics.specs.Lists.{word, tabulate, padded}
use Rattle.basics.proofs.TestLaws.{and_intro, and_left, and_right}
use Rattle.basics.proofs.ListLaws.{length_tabulate, get_d_tabulate}
use Rattle.grammar.specs.Verdicts.{Good}
use Rattle.grammar.specs.Reading.{read_table}
use Rattle.grammar.specs.Table.{symbols, attributes}
use Rattle.grammar.proofs.AcceptedTable.{accepted}
use Rattle.basics.proofs.ListLaws.{padded_none, padded_more}
use Rattle.extending.specs.Descents.{descends, descents_of, order_to, order_of}

-- the test's two ways
pub descends_here : (s : List ℕ) (p count k : ℕ) (t : Bool) → k % 8 < count → t ≡ ltb (get_or s (p + k % 8) 0) (get_or s (p + k / 8) 0)
    → t ≡ descends s p count k
unfolding descends ◌and◌
descends_here s p count k t h e =
    e ∙ sym (ap (λ (b : Bool). b and ltb (word s (p + k % 8)) (word s (p + k / 8))) (lt-ltb (k % 8) count h))

pub descends_past : (s : List ℕ) (p count k : ℕ) → count ≤ k % 8 → false ≡ descends s p count k
unfolding descends ◌and◌
descends_past s p count k h = sym (ap (λ (b : Bool). b and ltb (word s (p + k % 8)) (word s (p + k / 8))) (le-ltb (k % 8) count h))

-- a collected set with one number more looked at: it is put in where the test passes
pub collect_none : (f : ℕ → Bool) → 0 ≡ collect 0 f
unfolding collect
collect_none f = refl

pub collect_put : (f : ℕ → Bool) (k s v : ℕ) (t : Bool) → s ≡ collect k f → t ≡ f k → v ≡ cond t (insert k s) s → v ≡ collect (k + 1) f
unfolding collect insert
collect_put f k s v t e h q =
    q
    ∙ (ap (λ (x : ℕ). cond t (x + (1 - bit k x) * 2 ^ k) x) e
    ∙ (ap (λ (b : ℕ). cond t (collect k f + (1 - b) * 2 ^ k) (collect k f)) (bit_collect_above k k f (omega arith))
    ∙ (either t ∙ (ap (λ (b : Bool). collect k f + number b * 2 ^ k) h ∙ ap (λ (n : ℕ). collect n f) (sym (add-one k))))))
  where
    either : (b : Bool) → cond b (collect k f + 1 * 2 ^ k) (collect k f) ≡ collect k f + number b * 2 ^ k
    either true = refl
    either false = omega arith

pub collect_end : (f : ℕ → Bool) (k n s : ℕ) → s ≡ collect k f → k ≤ n → n ≤ k → s ≡ collect n f
collect_end f k n s e h l = let q : k ≡ n = omega arith in e ∙ ap (λ (m : ℕ). collect m f) q

pub symbol_small : (g : List ℕ) → read_table g ≡ Good → (n x : ℕ) → n ≡ symbols g → x < n → x < 32
symbol_small g good n x e h = omega (arith, (accepted g good).symbols_fit)

pub symbol_inside : (g : List ℕ) (n x : ℕ) → n ≡ symbols g → x < n → x < symbols g
symbol_inside g n x e h = omega arith

pub few_attributes : (g : List ℕ) → read_table g ≡ Good → (x c : ℕ) → x < symbols g → c ≡ attributes g x → c ≤ 8
few_attributes g good x c h q = omega (arith, ((accepted g good).symbol x h).attributes_fit)

pub order_here : (g s : List ℕ) (x count v : ℕ) → count ≡ attributes g x → v ≡ collect (8 * count) (λ k. descends s (8 * x) count k) → v ≡ descents_of g s x
unfolding descents_of
order_here g s x count v c q = q ∙ ap (λ (n : ℕ). collect (8 * n) (λ k. descends s (8 * x) n k)) c

-- symbol by symbol
pub order_start : (g s : List ℕ) → replicate 32 0 ≡ order_to g s 0
unfolding order_to tabulate
order_start g s = sym (padded_none 32)

pub order_turn : (g s arcs : List ℕ) (x v : ℕ) → x < 32 → arcs ≡ order_to g s x → v ≡ descents_of g s x → set arcs x v ≡ order_to g s (x + 1)
unfolding order_to
order_turn g s arcs x v h e q = ap₂ (λ (l : List ℕ) (w : ℕ). set l x w) e q ∙ padded_more 32 x (λ x. descents_of g s x) h

pub order_end : (g s arcs : List ℕ) (x n : ℕ) → arcs ≡ order_to g s x → n ≡ symbols g → x ≤ n → n ≤ x → arcs ≡ order_of g s
unfolding order_of
order_end g s arcs x n e q h l = let z : x ≡ symbols g = omega arith in e ∙ ap (order_to g s) z

-- what a member says, and when a number is one
module _ (g : List ℕ) (good : read_table g ≡ Good) (s : List ℕ) (x : ℕ) (h : x < symbols g) where
  order_word : word (order_of g s) x ≡ descents_of g s x
  unfolding order_of order_to padded
  order_word =
      get_or-append (tabulate (symbols g) (λ x. descents_of g s x)) _ 0 x (omega (arith, length_tabulate (symbols g) (λ x. descents_of g s x)))
      ∙ get_d_tabulate (symbols g) (λ x. descents_of g s x) 0 x h

  pub descent_from : (k : ℕ) → T (hasb k (word (order_of g s) x))
      → (k / 8 < attributes g x) × (k % 8 < attributes g x) × (word s (8 * x + k % 8) < word s (8 * x + k / 8))
  unfolding descents_of descends
  descent_from k t =
      let f : ℕ → Bool = λ k. descends s (8 * x) (attributes g x) k in
      let u : T (hasb k (collect (8 * attributes g x) f)) = subst (λ (n : ℕ). T (hasb k n)) order_word t in
      let l : k < 8 * attributes g x = hasb_below (8 * attributes g x) k (collect (8 * attributes g x) f) (collect_lt (8 * attributes g x) f) u in
      let v : T (f k) = subst (λ (b : Bool). T b) (hasb_collect (8 * attributes g x) k f l) u in
      (omega arith, ltb→lt (k % 8) (attributes g x) (and_left _ _ v), ltb→lt _ _ (and_right _ _ v))

  pub descent_has : (a b : ℕ) → a < attributes g x → b < attributes g x → word s (8 * x + b) < word s (8 * x + a)
      → T (hasb (8 * a + b) (word (order_of g s) x))
  unfolding descents_of descends
  descent_has a b la lb l =
      let small : attributes g x ≤ 8 = ((accepted g good).symbol x h).attributes_fit in
      let ka : a ≡ (8 * a + b) / 8 = omega arith in
      let kb : b ≡ (8 * a + b) % 8 = omega arith in
      subst⁻¹ (λ (n : ℕ). T (hasb (8 * a + b) n)) order_word
      (subst⁻¹ (λ (c : Bool). T c) (hasb_collect (8 * attributes g x) (8 * a + b) (λ k. descends s (8 * x) (attributes g x) k) (omega arith))
      (and_intro _ _ (lt→ltb ((8 * a + b) % 8) (attributes g x) (omega arith))
      (lt→ltb _ _
      (subst (λ (n : ℕ). word s (8 * x + (8 * a + b) % 8) < word s (8 * x + n)) ka
      (subst (λ (n : ℕ). word s (8 * x + n) < word s (8 * x + a)) kb l)))))
