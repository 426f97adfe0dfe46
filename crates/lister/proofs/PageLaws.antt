-- What stands on a page after one byte more, after one text and then another, and what a page that began at the start of its buffer shows.
-- Assumes nothing.
use Prim.Native.Nat.{ℕ, ◌+◌, ◌≤◌, ◌<◌}
use mathlib.Core.Path.{◌≡◌, refl, ◌∙◌, subst, subst⁻¹}
use mathlib.Core.List.{List, [], ◌∷◌, ◌++◌}
use lib.ListN.{length, set}
use Rattle.lister.specs.declared.Page.{Page}
use Rattle.lister.specs.Shown.{Shows, Adds, Types}
use Rattle.lister.proofs.ShownLaws as buffer

-- the one byte of put
pub put_room : (page : Page) (b : ℕ) → page.at < length page.out.now
    → Types page (b ∷ []) (record page { out = record page.out { now = set page.out.now page.at b }; at = page.at + 1 })
put_room page b h = record { same_buffer = refl; adds = buffer.put_room page.out.now page.at b h }

pub put_full : (page : Page) (b : ℕ) → length page.out.now ≤ page.at → Types page (b ∷ []) page
put_full page b h = record { same_buffer = refl; adds = buffer.put_full page.out.now page.at b h }

-- Texts one after the other.
pub types_none : (o : Page) → Types o [] o
types_none o = record { same_buffer = refl; adds = buffer.adds_none o.out.now o.at }

pub types_then : {o o₁ o₂ : Page} {x y : List ℕ} → Types o x o₁ → Types o₁ y o₂ → Types o (x ++ y) o₂
types_then f g = record { same_buffer = f.same_buffer ∙ g.same_buffer; adds = buffer.adds_then f.adds g.adds }

pub types_same : {o o₁ : Page} {x y : List ℕ} → x ≡ y → Types o x o₁ → Types o y o₁
types_same {o} {o₁} e f = subst (λ (t : List ℕ). Types o t o₁) e f

-- a page that began at the start of its buffer shows its text
pub page_shows : {lent out text : List ℕ} (o o₁ : Page) → o.out.now ≡ lent → o.at ≡ 0 → Types o text o₁ → out ≡ o₁.out.now → Shows lent text out o₁.at
page_shows {lent} {out} {text} o o₁ same start t e =
    subst⁻¹ (λ (l : List ℕ). Shows lent text l o₁.at) e
    (subst (λ (l : List ℕ). Shows l text o₁.out.now o₁.at) same
    (buffer.from_start (subst (λ (n : ℕ). Adds o.out.now n text o₁.out.now o₁.at) start t.adds)))
