-- Four rows closed among themselves, apart from the others: one after the other is the middle. Assumes nothing.
use Prim.Native.Nat.{ℕ, ◌+◌, ◌^◌, ◌≤◌, ◌<◌}
use mathlib.Core.Path.{◌≡◌, sym, ◌∙◌, ap, subst}
use mathlib.Core.Logic.{◌⊎◌, inl, inr, ⊎_elim}
use mathlib.Core.Bool.{cond, not}
use mathlib.Core.List.{List, map}
use native.Mathlib.Omega.{arith}
use lib.Dec.{T, T_not}
use lib.ListN.{length, get_or}
use Rattle.bits.specs.Bit.{hasb, union, remove}
use Rattle.bits.proofs.BitLaws.{bits_ext, bit_of_zero}
use Rattle.bits.proofs.SetLaws.{bit_union}
use Rattle.bits.proofs.MemberLaws.{hasb_below, has_not, none_left, no_member}
use Rattle.basics.specs.Lists.{word}
use Rattle.basics.proofs.TestLaws.{tested, chosen, passed_over, same_or_not, below_or_not}
use Rattle.closing.specs.Closure.{row_by, Anew}
use Rattle.closing.specs.Fours.{OfFour, row_of, RowsOf, Closed}
use Rattle.closing.proofs.RewriteLaws.{still, gone}
use Rattle.closing.proofs.PassLaws.{passed, passed_at, all_anew}
use Rattle.closing.proofs.ClosureLaws.{Closing, closing_start, closing_single, closing_absent, closing_finish}

-- The invariant: the four rows are those of rows in which paths meet at each of the first i of the four.
pub record FourClosing (rows : List ℕ) (here k i : ℕ) (four : List ℕ) : Type 0 where
  pub mid : List ℕ
  pub left : ℕ
  pub closing : Closing rows here left mid
  pub later : (x : ℕ) → T (hasb x left) → k + i ≤ x
  pub earlier : (x : ℕ) → T (hasb x here) → T (not (hasb x left)) → x < k + i
  pub are : RowsOf mid here k 4 four

module _ (rows : List ℕ) (here k : ℕ) (some : OfFour k here) where
  pub four_start : (four : List ℕ) → length rows ≡ 64 → RowsOf rows here k 4 four → FourClosing rows here k 0 four
  four_start four room w =
      record {
        mid = rows;
        left = here;
        closing = closing_start rows here here room (record { within = λ m t. t; meets = λ o j x n s t. absurd (T_not (hasb j here) n t.0) });
        later = λ x t. omega (arith, (some x t).0);
        earlier = λ x t n. absurd (T_not (hasb x here) n t);
        are = w;
      }

  pub four_done : (i : ℕ) (four : List ℕ) → FourClosing rows here k i four → i ≤ 4 → 4 ≤ i → Closed rows here k four
  four_done i four w h l =
      record {
        between = w.mid;
        closure =
            closing_finish rows here w.mid w.left w.closing
            (no_member w.left (λ x t. let a = w.later x t in let b = (some x (w.closing.within x t)).1 in omega (arith, a, b, l)));
        four_rows = w.are;
      }

-- an empty row stays empty, and an empty middle changes nothing
empty_row : (m onward : ℕ) → row_by m onward 0 ≡ 0
unfolding row_by
empty_row m onward = passed_over (hasb m 0) _ _ (none_left m)

empty_middle : (m row : ℕ) → row_by m 0 row ≡ row
unfolding row_by
empty_middle m row =
    ⊎_elim
    (λ t. chosen (hasb m row) _ _ t ∙ bits_ext (union row 0) row (λ i. omega (arith, bit_union i row 0, bit_of_zero i)))
    (λ t. passed_over (hasb m row) _ _ t) (tested (hasb m row))

pub four_closing_turn : (rows : List ℕ) (here k i : ℕ) (four : List ℕ) (onward : ℕ) (after : List ℕ) → here < 2 ^ 64
    → FourClosing rows here k i four → i < 4 → onward ≡ get_or four i 0 → after ≡ map (row_by (k + i) onward) four
    → FourClosing rows here k (i + 1) after
unfolding row_of passed
four_closing_turn rows here k i four onward after small w h e q =
    ⊎_elim
    (λ t.
    record {
      mid = passed w.mid here (k + i);
      left = remove (k + i) w.left;
      closing = closing_single rows here w.mid w.left (k + i) w.closing small (there t);
      later = later;
      earlier = earlier;
      are = record {
        size = v.size ∙ w.are.size;
        are = λ j l. at j l ∙ (ap (λ (n : ℕ). row_by (k + i) n (word four j)) (mine ∙ chosen (hasb (k + i) here) _ _ t) ∙ by_members t j l (tested (hasb (k + j) here)));
      };
    })
    (λ n.
    record {
      mid = w.mid;
      left = remove (k + i) w.left;
      closing = closing_absent rows here w.mid w.left (k + i) w.closing n;
      later = later;
      earlier = earlier;
      are = record {
        size = v.size ∙ w.are.size;
        are = λ j l.
            at j l
            ∙ (ap (λ (x : ℕ). row_by (k + i) x (word four j)) (mine ∙ passed_over (hasb (k + i) here) _ _ n) ∙ (empty_middle (k + i) (word four j) ∙ w.are.are j l));
      };
    })
    (tested (hasb (k + i) here))
  where
    v : Anew four (row_by (k + i) onward) 4 after
    v = all_anew four (row_by (k + i) onward) 4 after w.are.size q

    at : (j : ℕ) → j < 4 → word after j ≡ row_by (k + i) onward (word four j)
    at j l = v.new j l

    mine : onward ≡ cond (hasb (k + i) here) (word w.mid (k + i)) 0
    mine = e ∙ w.are.are i h

    there : T (hasb (k + i) here) → T (hasb (k + i) w.left)
    there t = ⊎_elim (λ s. s) (λ s. absurd (let l = w.earlier (k + i) t s in omega (arith, l))) (tested (hasb (k + i) w.left))

    later : (x : ℕ) → T (hasb x (remove (k + i) w.left)) → k + (i + 1) ≤ x
    later x t =
        let a = w.later x (still (k + i) w.left x t) in
        ⊎_elim (λ q. absurd (T_not (hasb (k + i) (remove (k + i) w.left)) (has_not (k + i) w.left) (subst (λ (y : ℕ). T (hasb y (remove (k + i) w.left))) q t)))
        (λ q. ⊎_elim (λ l. absurd (q (omega (arith, a, l)))) (λ l. l) (below_or_not x (k + (i + 1)))) (same_or_not x (k + i))

    earlier : (x : ℕ) → T (hasb x here) → T (not (hasb x (remove (k + i) w.left))) → x < k + (i + 1)
    earlier x t n = ⊎_elim (λ q. omega (arith, q)) (λ q. let l = w.earlier x t q in omega (arith, l)) (gone (k + i) w.left x n)

    by_members : T (hasb (k + i) here) → (j : ℕ) → j < 4 → T (hasb (k + j) here) ⊎ T (not (hasb (k + j) here))
        → row_by (k + i) (word w.mid (k + i)) (word four j) ≡ row_of (passed w.mid here (k + i)) here (k + j)
    by_members t j l (inl s) =
        let Small-one = hasb_below 64 (k + j) here small s in
        ap (λ (n : ℕ). row_by (k + i) (word w.mid (k + i)) n) (w.are.are j l ∙ chosen (hasb (k + j) here) _ _ s)
        ∙ (sym (passed_at w.mid here (k + i) (k + j) Small-one (omega (arith, w.closing.size, w.closing.room, Small-one)) s)
        ∙ sym (chosen (hasb (k + j) here) _ _ s))
    by_members t j l (inr s) =
        ap (λ (n : ℕ). row_by (k + i) (word w.mid (k + i)) n) (w.are.are j l ∙ passed_over (hasb (k + j) here) _ _ s)
        ∙ (empty_row (k + i) (word w.mid (k + i)) ∙ sym (passed_over (hasb (k + j) here) _ _ s))
