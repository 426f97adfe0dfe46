-- The rows of a whole grammar say of every two occurrences whether a path leads there, and rows that say the same are the same rows.
-- Assumes nothing.
use Prim.Native.Nat.{ℕ, ◌+◌, ◌*◌, ◌/◌, ◌%◌, ◌^◌, ◌≤◌, ◌<◌}
use mathlib.Core.Path.{◌≡◌, sym, ◌∙◌, ap, subst}
use mathlib.Core.Logic.{⊎_elim}
use mathlib.Core.Bool.{Bool}
use mathlib.Core.List.{List}
use native.Mathlib.Omega.{arith}
use lib.Dec.{T}
use lib.ListN.{length}
use lib.Seq.{ext_get_or}
use Rattle.bits.specs.Bit.{hasb, collect}
use Rattle.bits.proofs.CollectLaws.{collect_lt}
use Rattle.bits.proofs.MemberLaws.{hasb_collect, hasb_below, hasb_ext}
use Rattle.basics.specs.Lists.{word}
use Rattle.basics.proofs.TestLaws.{below_or_not}
use Rattle.grammar.specs.Table.{rules}
use Rattle.closing.specs.Rows.{leads}
use Rattle.inducing.specs.Rules.{rule_rows}
use Rattle.inducing.proofs.LentLaws.{rule_row}
use Rattle.plans.specs.Buffers.{over, rows_of}
use Rattle.plans.proofs.RowWords.{over_length, over_row, over_rest}

module _ (g : List ℕ) (paths : ℕ → ℕ → ℕ → Bool) where
  module _ (lent : List ℕ) where
    -- what the rows say of two occurrences
    pub over_leads : (r o b : ℕ) → r < rules g → o < 64 → b < 64 → leads (rule_rows (over (rows_of g paths) lent) r) o b ≡ paths r o b
    unfolding leads
    over_leads r o b h l m = ap (λ (s : ℕ). hasb b s) (rule_row (over (rows_of g paths) lent) r o l ∙ over_row g paths lent r o h l) ∙ hasb_collect 64 b (λ b. paths r o b) m

    pub over_below : (r o b : ℕ) → r < rules g → o < 64 → T (leads (rule_rows (over (rows_of g paths) lent) r) o b) → b < 64
    unfolding leads
    over_below r o b h l t =
        hasb_below 64 b (collect 64 (λ b. paths r o b)) (collect_lt 64 (λ b. paths r o b)) (subst (λ (s : ℕ). T (hasb b s)) (rule_row (over (rows_of g paths) lent) r o l ∙ over_row g paths lent r o h l) t)

    -- rows that say the same are the same
    pub rows_are : (rows : List ℕ) → length rows ≡ length lent → 64 * rules g ≤ length lent
        → ((j : ℕ) → 64 * rules g ≤ j → word rows j ≡ word lent j) → ((j : ℕ) → j < 64 * rules g → word rows j < 2 ^ 64)
        → ((r o b : ℕ) → r < rules g → o < 64 → b < 64 → leads (rule_rows rows r) o b ≡ paths r o b) → rows ≡ over (rows_of g paths) lent
    unfolding leads
    rows_are rows size room rest fits same =
        ext_get_or 0 rows (over (rows_of g paths) lent) (size ∙ sym (over_length g paths lent room))
        (λ j h. ⊎_elim (λ l. inside j l) (λ l. rest j l ∙ sym (over_rest g paths lent j l)) (below_or_not j (64 * rules g)))
      where
        inside : (j : ℕ) → j < 64 * rules g → word rows j ≡ word (over (rows_of g paths) lent) j
        inside j l =
            let r : ℕ = j / 64 in
            let o : ℕ = j % 64 in
            let e : 64 * r + o ≡ j = omega arith in
            let h : r < rules g = omega arith in
            let m : o < 64 = omega arith in
            hasb_ext 64 (word rows j) (collect 64 (λ b. paths r o b)) (fits j l) (collect_lt 64 (λ b. paths r o b))
            (λ b k.
            ap (λ (i : ℕ). hasb b (word rows i)) (sym e)
            ∙ (ap (λ (i : ℕ). hasb b i) (sym (rule_row rows r o m))
            ∙ same r o b h m k ∙ sym (hasb_collect 64 b (λ b. paths r o b) k)))
            ∙ (sym (over_row g paths lent r o h m) ∙ ap (λ (i : ℕ). word (over (rows_of g paths) lent) i) e)
