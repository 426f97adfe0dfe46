-- The loop over the nine sets of a symbol: after k of them the words and what is left are those of the definition.
-- Assumes nothing.
use Prim.Native.Nat.{ℕ, suc, ◌+◌, ◌%◌, ◌≤◌, ◌<◌}
use mathlib.Core.Path.{◌≡◌, refl, sym, ◌∙◌, ap, ap₂, subst⁻¹}
use mathlib.Core.Bool.{Bool, cond}
use mathlib.Core.List.{List}
use native.Mathlib.Omega.{arith}
use native.Mathlib.Numerals.{add-one}
use lib.ListN.{length}
use borrow.Author.Tests.{eq-eqb, ne_eqb}
use Rattle.bits.specs.Bit.{minus}
use Rattle.bits.proofs.SetLaws.{minus_lt}
use Rattle.placing.specs.SymbolSets.{class_of, taken_from, numbered, left_after, taken_next, numbered_to}
use Rattle.placing.proofs.SymbolLaws.{taken_lt, length_numbered}

-- the class by the code's test
pub class_odd : (every inherited k r : ℕ) → k % 2 ≡ 1 → r ≡ minus every inherited → r ≡ class_of every inherited k
unfolding class_of
class_odd every inherited k r e h = h ∙ sym (ap (λ (b : Bool). cond b (minus every inherited) inherited) (eq-eqb (k % 2) 1 e))

pub class_even : (every inherited k : ℕ) → (k % 2 ≡ 1 → ⊥) → inherited ≡ class_of every inherited k
unfolding class_of
class_even every inherited k n = sym (ap (λ (b : Bool). cond b (minus every inherited) inherited) (ne_eqb (k % 2) 1 n))

pub record Stepping (entry : List ℕ) (at every inherited arcs : ℕ) (sets : List ℕ) (left k : ℕ) : Type 0 where
  pub count : k ≤ 9
  pub room : at + 8 ≤ length entry
  pub size : length sets ≡ length entry
  pub small : left < 256
  pub words : sets ≡ numbered_to entry at every inherited arcs k
  pub left_is : left ≡ left_after every inherited arcs k

pub stepping_start : (sets : List ℕ) (at every inherited arcs : ℕ) → at + 8 ≤ length sets → every < 256
    → Stepping sets at every inherited arcs sets every 0
unfolding numbered_to left_after
stepping_start sets at every inherited arcs h l =
    record { count = omega arith; room = h; size = refl; small = l; words = refl; left_is = refl }

-- what a set takes has room in the words
pub taken_fits : (arcs left class taken : ℕ) → taken ≡ taken_from arcs left class → left < 256 → taken < 256
taken_fits arcs left class taken e h = subst⁻¹ (λ (n : ℕ). n < 256) e (taken_lt arcs left class h)

pub stepping_turn : (entry : List ℕ) (at every inherited arcs : ℕ) (sets : List ℕ) (left k class taken : ℕ) (next : List ℕ) (rest : ℕ)
    → Stepping entry at every inherited arcs sets left k → k < 9 → class ≡ class_of every inherited (k + 1) → taken ≡ taken_from arcs left class
    → next ≡ numbered sets at taken (k + 1) → rest ≡ minus left taken → Stepping entry at every inherited arcs next rest (k + 1)
unfolding numbered_to left_after taken_next
stepping_turn entry at every inherited arcs sets left k class taken next rest w l e f h q =
    let t : taken ≡ taken_from arcs (left_after every inherited arcs k) (class_of every inherited (suc k)) =
    f ∙ ap₂ (taken_from arcs) w.left_is (e ∙ ap (class_of every inherited) (add-one k)) in
    record {
      count = omega arith;
      room = w.room;
      size = ap length h ∙ (length_numbered sets at taken (k + 1) ∙ w.size);
      small = subst⁻¹ (λ (n : ℕ). n < 256) q (minus_lt 8 left taken w.small);
      words =
          subst⁻¹ (λ (n : ℕ). next ≡ numbered_to entry at every inherited arcs n) (add-one k)
          (h ∙ (ap (λ (n : ℕ). numbered sets at taken n) (add-one k)
          ∙ (ap (λ (s : List ℕ). numbered s at taken (suc k)) w.words
          ∙ ap (λ (n : ℕ). numbered (numbered_to entry at every inherited arcs k) at n (suc k)) t)));
      left_is =
          subst⁻¹ (λ (n : ℕ). rest ≡ left_after every inherited arcs n) (add-one k) (q ∙ ap₂ minus w.left_is t);
    }

pub stepping_finish : (entry : List ℕ) (at every inherited arcs : ℕ) (sets : List ℕ) (left k : ℕ)
    → Stepping entry at every inherited arcs sets left k → 9 ≤ k → sets ≡ numbered_to entry at every inherited arcs 9
stepping_finish entry at every inherited arcs sets left k w h =
    let e : k ≡ 9 = omega (arith, w.count) in w.words ∙ ap (λ (n : ℕ). numbered_to entry at every inherited arcs n) e
