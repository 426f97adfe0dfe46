-- Four middles at a time: the 16 unions of their rows, and what a row gets from them. Assumes nothing.
use Prim.Native.Nat.{ℕ, ◌+◌, ◌-◌, ◌*◌, ◌/◌, ◌%◌, ◌^◌, ◌≤◌, ◌<◌}
use mathlib.Core.Path.{◌≡◌, refl, sym, ◌∙◌, ap, subst, subst⁻¹}
use mathlib.Core.Logic.{inl, inr, ⊎_elim}
use mathlib.Core.Bool.{Bool, true, false, cond}
use mathlib.Core.List.{List}
use native.Mathlib.Omega.{arith}
use native.Mathlib.Nat.{mod-lt}
use lib.Dec.{T, T_not, eqb}
use lib.Pow.{pow_pos}
use lib.ListN.{length, set, length-set, replicate}
use lib.Seq.{get_or-set_same, get_or-set_other}
use Rattle.bits.specs.Bit.{bit, hasb, insert, union}
use Rattle.bits.proofs.BitLaws.{bit_above}
use Rattle.bits.proofs.ShiftLaws.{bit_cut, bit_down}
use Rattle.bits.proofs.MemberLaws.{hasb_below, insert_cases, insert_new, insert_old, union_cases, union_left, union_right, none_left}
use Rattle.basics.specs.Lists.{word}
use Rattle.basics.proofs.TestLaws.{below_or_not, below_suc, chosen, passed_over, tested}
use Rattle.closing.specs.Fours.{OfFour, row_of, RowsOf, Doubled, Unions, four_at, row_by_four}
use Rattle.closing.specs.Closure.{Anew, Gets}
use Rattle.closing.specs.Rows.{leads}
use Rattle.closing.proofs.PassLaws.{anew_turn}

-- ---- the row of a member

pub row_there : (rows : List ℕ) (here m v : ℕ) (t : Bool) → t ≡ hasb m here → t ≡ true → v ≡ word rows m → v ≡ row_of rows here m
unfolding row_of
row_there rows here m v t h y e = e ∙ sym (ap (λ (b : Bool). cond b (word rows m) 0) (sym h ∙ y))

pub no_row : (rows : List ℕ) (here m : ℕ) (t : Bool) → t ≡ hasb m here → t ≡ false → 0 ≡ row_of rows here m
unfolding row_of
no_row rows here m t h n = sym (ap (λ (b : Bool). cond b (word rows m) 0) (sym h ∙ n))

-- ---- doubling a table of unions

pub doubled_start : (before : List ℕ) (count row : ℕ) → Doubled before count row 0 before
doubled_start before count row = record { size = refl; stays = λ s o. refl; once_more = λ s h. absurd (omega (arith, h)) }

pub doubled_turn : (before : List ℕ) (count row s : ℕ) (unions : List ℕ) (v : ℕ) → Doubled before count row s unions → s < count
    → length before ≡ 16 → count ≤ 8 → v ≡ union (word unions s) row → Doubled before count row (s + 1) (set unions (count + s) v)
doubled_turn before count row s unions v w h l small e =
    record {
      size = length-set unions (count + s) v ∙ w.size;
      stays = λ j o. get_or-set_other unions (count + s) j v 0 (λ q. ⊎_elim (λ a. omega (arith, q)) (λ a. omega (arith, q, a)) o)
          ∙ w.stays j (⊎_elim (λ a. inl a) (λ a. inr (omega (arith, a))) o);
      once_more = λ j g. ⊎_elim (λ q. old j q) (λ q. new j q) (below_suc j s (omega (arith, g)));
    }
  where
    new : (j : ℕ) → j ≡ s → word (set unions (count + s) v) (count + j) ≡ union (word before j) row
    new j q =
        subst⁻¹ (λ (i : ℕ). word (set unions (count + s) v) (count + i) ≡ union (word before i) row) q
        (get_or-set_same unions (count + s) v 0 (omega (arith, w.size, l, small, h))
        ∙ (e ∙ ap (λ (x : ℕ). union x row) (w.stays s (inl h))))

    old : (j : ℕ) → j < s → word (set unions (count + s) v) (count + j) ≡ union (word before j) row
    old j h = get_or-set_other unions (count + s) (count + j) v 0 (λ z. omega (arith, z)) ∙ w.once_more j h

pub doubled_finish : (before : List ℕ) (count row s : ℕ) (unions : List ℕ) → Doubled before count row s unions → s ≤ count → count ≤ s
    → Doubled before count row count unions
doubled_finish before count row s unions w h l = let e : s ≡ count = omega arith in subst (λ (n : ℕ). Doubled before count row n unions) e w

-- ---- the unions of four rows

-- a number below 2 ^ i, raised by 2 ^ i, is the set with i put in
above_is : (i s : ℕ) → s < 2 ^ i → 2 ^ i + s ≡ insert i s
unfolding insert
above_is i s h =
    let e : s + (1 - bit i s) * 2 ^ i ≡ s + 1 * 2 ^ i = ap (λ (b : ℕ). s + (1 - b) * 2 ^ i) (bit_above i i s h (omega arith)) in
    omega (arith, e)

module _ (rows : List ℕ) where
  unions_start : (unions : List ℕ) → unions ≡ replicate 16 0 → Unions rows 1 unions
  unions_start unions e =
      record {
        size = ap length e;
        has = λ s i x h m t.
            let z : s ≡ 0 = omega (arith, h) in absurd (T_not (hasb i 0) (none_left i) (subst (λ (y : ℕ). T (hasb i y)) z m));
        sound = λ s x h t.
            let z : s ≡ 0 = omega (arith, h) in
            absurd (T_not (hasb x 0) (none_left x)
            (subst (λ (y : ℕ). T (hasb x (word (replicate 16 0) y))) z (subst (λ (y : List ℕ). T (hasb x (word y s))) e t)));
      }

  -- those that have row i too
  unions_double : (i count row : ℕ) (before after : List ℕ) → count ≡ 2 ^ i → Unions rows count before → row ≡ word rows i
      → Doubled before count row count after → Unions rows (count + count) after
  unions_double i count row before after p w e d =
      record {
        size = d.size ∙ w.size;
        has = λ s j x h m t.
            ⊎_elim (λ l. subst⁻¹ (λ (y : ℕ). T (hasb x y)) (d.stays s (inl l)) (w.has s j x l m t))
            (λ l.
            let q : s ≡ count + (s - count) = omega arith in
            let low : s - count < count = omega arith in
            subst⁻¹ (λ (y : ℕ). T (hasb x (word after y))) q
            (subst⁻¹ (λ (y : ℕ). T (hasb x y)) (d.once_more (s - count) low)
            (⊎_elim
            (λ z.
            union_right x (word before (s - count)) row
            (subst⁻¹ (λ (y : ℕ). T (hasb x y)) e (subst (λ (y : ℕ). T (hasb x (word rows y))) z t)))
            (λ z. union_left x (word before (s - count)) row (w.has (s - count) j x low z t))
            (insert_cases j i (s - count) (subst (λ (y : ℕ). T (hasb j y)) (q ∙ raised_is (s - count) low) m)))))
            (below_or_not s count);
        sound = λ s x h t.
            ⊎_elim (λ l. w.sound s x l (subst (λ (y : ℕ). T (hasb x y)) (d.stays s (inl l)) t))
            (λ l.
            let q : s ≡ count + (s - count) = omega arith in
            let low : s - count < count = omega arith in
            let into : (j : ℕ) → T (hasb j (insert i (s - count))) → T (hasb j s) =
            λ j m. subst⁻¹ (λ (y : ℕ). T (hasb j y)) (q ∙ raised_is (s - count) low) m in
            ⊎_elim (λ z. let f = w.sound (s - count) x low z in (f.0, into f.0 (insert_old f.0 i (s - count) f.1), f.2))
            (λ z. (i, into i (insert_new i (s - count)), subst (λ (y : ℕ). T (hasb x y)) e z))
            (union_cases x (word before (s - count)) row
            (subst (λ (y : ℕ). T (hasb x y)) (d.once_more (s - count) low) (subst (λ (y : ℕ). T (hasb x (word after y))) q t))))
            (below_or_not s count);
      }
    where
      raised_is : (s : ℕ) → s < count → count + s ≡ insert i s
      raised_is s h = ap (λ (n : ℕ). n + s) p ∙ above_is i s (subst (λ (n : ℕ). s < n) p h)

  pub unions_four : (none one two four eight : List ℕ) → none ≡ replicate 16 0 → Doubled none 1 (word rows 0) 1 one → Doubled one 2 (word rows 1) 2 two
      → Doubled two 4 (word rows 2) 4 four → Doubled four 8 (word rows 3) 8 eight → Unions rows 16 eight
  unions_four none one two four eight z a b c d =
      unions_double 3 8 (word rows 3) four eight refl
      (unions_double 2 4 (word rows 2) two four refl
      (unions_double 1 2 (word rows 1) one two refl (unions_double 0 1 (word rows 0) none one refl (unions_start none z) refl a) refl b) refl c) refl d

-- ---- what a row gets

pub four_is : (row k : ℕ) → row / 2 ^ k % 16 ≡ four_at k row
unfolding four_at
four_is row k = refl

pub four_turn : (before : List ℕ) (k : ℕ) (unions : List ℕ) (o : ℕ) (rows : List ℕ) (i v : ℕ) → Anew before (row_by_four k unions) o rows
    → o < length rows → i ≡ four_at k (word rows o) → v ≡ union (word rows o) (word unions i)
    → Anew before (row_by_four k unions) (o + 1) (set rows o v)
unfolding row_by_four
four_turn before k unions o rows i v w h e q =
    anew_turn before (row_by_four k unions) o rows v w h (q ∙ ap (λ (n : ℕ). union (word rows o) (word unions n)) e)

pub four_gets : (rows : List ℕ) (middles k : ℕ) (four unions : List ℕ) → OfFour k middles → RowsOf rows middles k 4 four → Unions four 16 unions
    → Gets rows middles (row_by_four k unions)
unfolding row_by_four leads row_of four_at
four_gets rows middles k four unions some r w =
    record {
      keeps = λ row x t. union_left x row _ t;
      by_way = λ row m x h s t.
          let q : m ≡ k + (m - k) = omega (arith, (some m h).0) in
          let l : m - k < 4 = omega (arith, (some m h).1) in
          union_right x row _
          (w.has (four_at k row) (m - k) x (small row) (subst⁻¹ (λ (b : Bool). T b) (at row (m - k) l) (subst (λ (y : ℕ). T (hasb y row)) q s))
          (subst⁻¹ (λ (y : ℕ). T (hasb x y)) (r.are (m - k) l)
          (subst⁻¹ (λ (y : ℕ). T (hasb x y)) (chosen (hasb (k + (m - k)) middles) _ _ (subst (λ (y : ℕ). T (hasb y middles)) q h))
          (subst (λ (y : ℕ). T (hasb x (word rows y))) q t))));
      sound = λ row x t. ⊎_elim (λ l. inl l) (λ l. inr (via row x (w.sound (four_at k row) x (small row) l))) (union_cases x row _ t);
    }
  where
    small : (row : ℕ) → four_at k row < 16
    small row = mod-lt (row / 2 ^ k) (pow_pos 4)

    at : (row i : ℕ) → i < 4 → hasb i (four_at k row) ≡ hasb (k + i) row
    at row i h = ap (λ (n : ℕ). eqb n 1) (bit_cut 4 i (row / 2 ^ k) h ∙ bit_down k i row)

    via : (row x : ℕ) → (i : ℕ) × T (hasb i (four_at k row)) × T (hasb x (word four i))
        → (m : ℕ) × T (hasb m middles) × T (hasb m row) × T (leads rows m x)
    via row x (i, m, t) =
        let h = hasb_below 4 i (four_at k row) (small row) m in
        let u = subst (λ (y : ℕ). T (hasb x y)) (r.are i h) t in
        ⊎_elim
        (λ r. (k + i, r, subst (λ (b : Bool). T b) (at row i h) m, subst (λ (y : ℕ). T (hasb x y)) (chosen (hasb (k + i) middles) _ _ r) u))
        (λ r. absurd (T_not (hasb x 0) (none_left x) (subst (λ (y : ℕ). T (hasb x y)) (passed_over (hasb (k + i) middles) _ _ r) u)))
        (tested (hasb (k + i) middles))
