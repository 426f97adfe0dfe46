-- For every input there is one content of the buffer and one count that meet the contract of `list`, and only one; with the program's buffer
-- that is the whole listing. Assumes nothing.
use Prim.Native.Nat.{ℕ, ◌≤◌, min}
use mathlib.Core.Path.{◌≡◌, refl, sym, ◌∙◌, ap}
use mathlib.Core.List.{List}
use native.Mathlib.Omega.{arith}
use lib.ListN.{length, take}
use lib.Seq.{take_all, take_at}
use Rattle.plans.specs.Buffers.{over}
use Rattle.text.specs.Listing.{listing}
use Rattle.lister.specs.Shown.{lent_bytes, Shows}
use Rattle.lister.proofs.Fits.{listing_fits}

-- the contract of `list` is Shows of the text `listing input`
pub every_input : (lent text : List ℕ) → (out : List ℕ) × (at : ℕ) × Shows lent text out at
every_input lent text =
    (over (take (length lent) text) lent, min (length lent) (length text), record { counted = refl; shown = refl })

pub one_answer : (lent text out₁ out₂ : List ℕ) (at₁ at₂ : ℕ) → Shows lent text out₁ at₁ → Shows lent text out₂ at₂ → (out₁ ≡ out₂) × (at₁ ≡ at₂)
one_answer lent text out₁ out₂ at₁ at₂ v w = (v.shown ∙ sym w.shown, v.counted ∙ sym w.counted)

-- in the buffer that the program lends all of the listing is shown
pub whole_listing : (lent input out : List ℕ) (at : ℕ) → length lent ≡ lent_bytes → Shows lent (listing input) out at → take at out ≡ listing input
unfolding over
whole_listing lent input out at size v =
    let short : length (listing input) ≤ length lent = omega (arith, size, listing_fits input) in
    let all : take (length lent) (listing input) ≡ listing input = take_all (length lent) (listing input) short in
    let count : length (listing input) ≡ at = omega (arith, v.counted) in
    ap (take at) (v.shown ∙ ap (λ (l : List ℕ). over l lent) all) ∙ take_at (listing input) _ at count
