-- The rows of one rule among those of all: they are lent by themselves, and come back in their place. Assumes nothing.
use Prim.Native.Nat.{ℕ, ◌+◌, ◌*◌, ◌-◌, ◌≤◌, ◌<◌}
use mathlib.Core.Path.{◌≡◌, sym, ◌∙◌, ap, ap₂, subst, subst⁻¹}
use mathlib.Core.Logic.{◌⊎◌, ⊎_elim}
use mathlib.Core.List.{List, ◌++◌}
use native.Mathlib.Omega.{arith}
use lib.ListN.{length, take, drop, length-take, length-drop}
use denote.Ref.{MutBor}
use borrow.Rule.Slice.PartMut.{put_mid, same_len_mid, mid_len, take_put, drop_put}
use Rattle.std.specs.Prelude.{Option, Some, MatchOption}
use Rattle.std.specs.Array.{IsFirstChunk}
use Rattle.std.proofs.lemmas.Option.{MatchOption-at_some}
use Rattle.std.proofs.lemmas.List.{get_or-take, get_or-drop}
use Rattle.std.proofs.lemmas.Slice.{between-put_mid}
use Rattle.basics.specs.Lists.{word}
use Rattle.closing.specs.Rows.{Kept}
use Rattle.inducing.specs.Closes.{Closes}
use Rattle.inducing.specs.Rules.{rule_rows, RuleCloses}

-- a row of the rule
pub rule_row : (rows : List ℕ) (r o : ℕ) → o < 64 → word (rule_rows rows r) o ≡ word rows (64 * r + o)
rule_row rows r o h = get_or-take 64 (drop (64 * r) rows) o 0 h ∙ get_or-drop (64 * r) rows o 0

-- as many as it has
as_many : (r : ℕ) → 64 * r + 64 - 64 * r ≡ 64
as_many r = omega arith

pub rule_rows_length : (rows : List ℕ) (r : ℕ) → 64 * r + 64 ≤ length rows → length (rule_rows rows r) ≡ 64
rule_rows_length rows r room =
    subst (λ (n : ℕ). length (take n (drop (64 * r) rows)) ≡ n) (as_many r) (mid_len (64 * r) (64 * r + 64) rows room)

-- where a rule has its rows, they are there
pub rule_there : (rows : List ℕ) (r among : ℕ) → Kept (rule_rows rows r) among → 64 * r + 64 ≤ length rows
rule_there rows r among k = omega (arith, k.room, length-take 64 (drop (64 * r) rows), length-drop (64 * r) rows)

-- and what follows a place before them has so many
pub rule_fits : (rows later : List ℕ) (r place among : ℕ) → Kept (rule_rows rows r) among → later ≡ drop place rows → place ≤ 64 * r → 64 ≤ length later
rule_fits rows later r place among k e h = omega (arith, rule_there rows r among k, ap length e, length-drop place rows)

-- all rows, with these in the place of the rule's
abbrev pub put_back : List ℕ → ℕ → List ℕ → List ℕ
put_back rows r part = take (64 * r) rows ++ (part ++ drop 64 (drop (64 * r) rows))

-- All rows are split before those of the rule, which are the first 64 of what follows. So they are lent.
module _ (rows front later : List ℕ) (r : ℕ) (before : front ≡ take (64 * r) rows) (behind : later ≡ drop (64 * r) rows) where
  pub rule_lent : (first : Option (MutBor (List ℕ))) (own : MutBor (List ℕ))
      → MatchOption first (length later < 64) (λ y. IsFirstChunk later y.now 64) → first ≡ Some own → own.now ≡ rule_rows rows r
  rule_lent first own w e = (MatchOption-at_some _ _ own e w).same ∙ ap (λ (s : List ℕ). take 64 s) behind

  pub rule_back : (part : List ℕ) → front ++ (part ++ drop 64 later) ≡ put_back rows r part
  rule_back part = ap₂ (λ (s t : List ℕ). s ++ (part ++ drop 64 t)) before behind

module _ (rows part : List ℕ) (r : ℕ) (room : 64 * r + 64 ≤ length rows) (size : length part ≡ length (rule_rows rows r)) where
  back_size : length (put_back rows r part) ≡ length rows
  back_size = same_len_mid (64 * r) 64 rows part size

  part_size : length part ≡ 64 * r + 64 - 64 * r
  part_size = omega (arith, size, rule_rows_length rows r room)

  pub back_rows : rule_rows (put_back rows r part) r ≡ part
  back_rows =
      subst (λ (n : ℕ). take n (drop (64 * r) (put_back rows r part)) ≡ part) (as_many r)
      (between-put_mid (64 * r) 64 rows part (64 * r + 64) (omega arith) part_size)

  back_outside : (j : ℕ) → (j < 64 * r) ⊎ (64 * r + 64 ≤ j) → word (put_back rows r part) j ≡ word rows j
  back_outside j out = ⊎_elim (λ l. below l) (λ l. above l) out
    where
      below : j < 64 * r → word (put_back rows r part) j ≡ word rows j
      below l =
          sym (get_or-take (64 * r) (put_back rows r part) j 0 l)
          ∙ (ap (λ (s : List ℕ). word s j) (take_put (64 * r) 64 rows part (omega arith)) ∙ get_or-take (64 * r) rows j 0 l)

      later : drop (64 * r + 64) (put_back rows r part) ≡ drop (64 * r + 64) rows
      later =
          subst (λ (n : ℕ). drop (64 * r + 64) (put_mid (64 * r) n rows part) ≡ drop (64 * r + 64) rows) (as_many r)
          (drop_put (64 * r) (64 * r + 64) rows part (omega arith) room part_size)

      above : 64 * r + 64 ≤ j → word (put_back rows r part) j ≡ word rows j
      above l =
          let e : 64 * r + 64 + (j - (64 * r + 64)) ≡ j = omega arith in
          subst (λ (i : ℕ). word (put_back rows r part) i ≡ word rows i) e
          (sym (get_or-drop (64 * r + 64) (put_back rows r part) (j - (64 * r + 64)) 0)
          ∙ (ap (λ (s : List ℕ). word s (j - (64 * r + 64))) later ∙ get_or-drop (64 * r + 64) rows (j - (64 * r + 64)) 0))

  pub back_closes : (among : ℕ) (arc : ℕ → ℕ → Type 0) → Closes (rule_rows rows r) among arc part → RuleCloses rows r among arc (put_back rows r part)
  back_closes among arc w =
      record {
        size = back_size;
        outside = back_outside;
        closes = subst⁻¹ (λ (s : List ℕ). Closes (rule_rows rows r) among arc s) back_rows w;
      }
