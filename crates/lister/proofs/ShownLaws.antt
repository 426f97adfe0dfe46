-- What is shown after one byte more, and after one text and then another.
-- Assumes nothing.
use Prim.Native.Nat.{ℕ, suc, ◌+◌, ◌≤◌, ◌<◌, min}
use mathlib.Core.Path.{◌≡◌, refl, sym, ◌∙◌, ap, subst, subst⁻¹}
use mathlib.Core.List.{List, [], ◌∷◌, ◌++◌, append_assoc, append-nil}
use native.Mathlib.Omega.{arith}
use lib.ListN.{length, get_or, take, drop, set, length-append, length-take, length-drop, length-set}
use lib.Seq.{take_all, take-nil, length-take-le, take-append-le, drop-cons, set_at, append_snoc}
use Rattle.plans.specs.Buffers.{over}
use Rattle.lister.specs.Shown.{Shows, Adds}

module _ (lent text out : List ℕ) (at : ℕ) (s : Shows lent text out at) where
  shown_size : length out ≡ length lent
  unfolding over
  shown_size =
      let e : length (take (length lent) text) ≡ min (length lent) (length text) = length-take (length lent) text in
      ap length s.shown
      ∙ (length-append (take (length lent) text) (drop (length (take (length lent) text)) lent)
      ∙ omega (arith, length-drop (length (take (length lent) text)) lent, e))

  one_more : (b : ℕ) → at < length out → Shows lent (text ++ (b ∷ [])) (set out at b) (at + 1)
  unfolding over
  one_more b h =
      let room : length text < length lent = omega (arith, s.counted, shown_size) in
      let here : length text ≡ at = omega (arith, s.counted, shown_size) in
      let size : length (text ++ (b ∷ [])) ≡ suc (length text) = omega (arith, length-append text (b ∷ [])) in
      let all : take (length lent) text ≡ text = take_all (length lent) text (omega arith) in
      let more : take (length lent) (text ++ (b ∷ [])) ≡ text ++ (b ∷ []) = take_all (length lent) (text ++ (b ∷ [])) (omega (arith, size)) in
      record {
        counted = omega (arith, size);
        shown =
            ap (λ (l : List ℕ). set l at b)
            (s.shown ∙ (ap (λ (l : List ℕ). l ++ drop (length l) lent) all ∙ ap (λ (l : List ℕ). text ++ l) (drop-cons lent (length text) 0 room)))
            ∙ (set_at text (get_or lent (length text) 0) (drop (suc (length text)) lent) b at here
            ∙ (sym (append_snoc text b (drop (suc (length text)) lent))
            ∙ (ap (λ (n : ℕ). (text ++ (b ∷ [])) ++ drop n lent) (sym size)
            ∙ ap (λ (l : List ℕ). l ++ drop (length l) lent) (sym more))));
      }

  no_room : (b : ℕ) → length out ≤ at → Shows lent (text ++ (b ∷ [])) out at
  no_room b h =
      let full : length lent ≤ length text = omega (arith, s.counted, shown_size) in
      let size : length (text ++ (b ∷ [])) ≡ suc (length text) = omega (arith, length-append text (b ∷ [])) in
      record {
        counted = omega (arith, s.counted, size);
        shown = s.shown ∙ ap (λ (l : List ℕ). over l lent) (sym (take-append-le (length lent) text (b ∷ []) full));
      }

-- the one byte of put
pub put_room : (out : List ℕ) (at b : ℕ) → at < length out → Adds out at (b ∷ []) (set out at b) (at + 1)
put_room out at b h = record { kept = length-set out at b; goes_on = λ lent text s. one_more lent text out at s b h }

pub put_full : (out : List ℕ) (at b : ℕ) → length out ≤ at → Adds out at (b ∷ []) out at
put_full out at b h = record { kept = refl; goes_on = λ lent text s. no_room lent text out at s b h }

-- Texts one after the other.
pub adds_none : (out : List ℕ) (at : ℕ) → Adds out at [] out at
adds_none out at = record { kept = refl; goes_on = λ lent text s. subst⁻¹ (λ (t : List ℕ). Shows lent t out at) (append-nil text) s }

pub adds_then : {o o₁ o₂ x y : List ℕ} {a a₁ a₂ : ℕ} → Adds o a x o₁ a₁ → Adds o₁ a₁ y o₂ a₂ → Adds o a (x ++ y) o₂ a₂
adds_then {o₂ = o₂} {x = x} {y = y} {a₂ = a₂} f g =
    record {
      kept = g.kept ∙ f.kept;
      goes_on = λ lent text s.
          subst (λ (t : List ℕ). Shows lent t o₂ a₂) (append_assoc text x y) (g.goes_on lent (text ++ x) (f.goes_on lent text s));
    }

pub adds_same : {o o₁ x y : List ℕ} {a a₁ : ℕ} → x ≡ y → Adds o a x o₁ a₁ → Adds o a y o₁ a₁
adds_same {o = o} {o₁ = o₁} {a = a} {a₁ = a₁} e f = subst (λ (t : List ℕ). Adds o a t o₁ a₁) e f

-- from the start of a buffer on
pub from_start : {o o₁ x : List ℕ} {a₁ : ℕ} → Adds o 0 x o₁ a₁ → Shows o x o₁ a₁
unfolding over
from_start {o = o} f = f.goes_on o [] (record { counted = omega arith; shown = nothing })
  where
    nothing : o ≡ over (take (length o) []) o
    nothing = sym (ap (λ (l : List ℕ). l ++ drop (length l) o) (take-nil (length o)))

-- what is typed is there to be written out
pub typed_there : (lent text out : List ℕ) (at : ℕ) → Shows lent text out at → at ≡ length (take at out)
typed_there lent text out at s = sym (length-take-le at out (omega (arith, s.counted, shown_size lent text out at s)))
