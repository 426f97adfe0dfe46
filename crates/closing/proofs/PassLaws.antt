-- Writing rows anew, each from itself, and what leads where afterwards: the paths by way of one of some middles. Assumes nothing.
use Prim.Native.Nat.{ℕ, ◌+◌, ◌-◌, ◌^◌, ◌≤◌, ◌<◌}
use mathlib.Core.Path.{◌≡◌, refl, sym, ◌∙◌, ap, subst, subst⁻¹}
use mathlib.Core.Logic.{◌⊎◌, inl, inr, ⊎_elim}
use mathlib.Core.Bool.{Bool, true, false, cond, not}
use mathlib.Core.List.{List, ◌++◌, map}
use native.Mathlib.Omega.{arith}
use lib.Dec.{T}
use lib.ListN.{length, set, length-set, take, drop, length-drop, length-append, get_or-append, get_or-eq_default}
use lib.Seq.{get_or-set_same, get_or-set_other}
use Rattle.std.proofs.lemmas.List.{length-map, get_or-map, get_or-take, get_or-drop, get_or-append_right, length-take-le}
use Rattle.bits.specs.Bit.{hasb, union}
use Rattle.bits.proofs.MemberLaws.{hasb_below, union_cases, union_left, union_right}
use Rattle.basics.specs.Lists.{word}
use Rattle.basics.proofs.TestLaws.{chosen, passed_over, tested, below_suc}
use Rattle.closing.specs.Rows.{leads, rewritten}
use Rattle.closing.specs.Closure.{row_by, Anew, Gets}
use Rattle.closing.proofs.RewrittenLaws.{rewritten_length, rewritten_idle, rewritten_at}

-- ---- a loop over the first rows

pub anew_start : (before : List ℕ) (g : ℕ → ℕ) → Anew before g 0 before
anew_start before g = record { size = refl; new = λ o h. absurd (omega (arith, h)); rest = λ j o. refl }

pub anew_turn : (before : List ℕ) (g : ℕ → ℕ) (o : ℕ) (rows : List ℕ) (v : ℕ) → Anew before g o rows → o < length rows
    → v ≡ g (word rows o) → Anew before g (o + 1) (set rows o v)
anew_turn before g o rows v w h e =
    record {
      size = length-set rows o v ∙ w.size;
      new = λ i l. ⊎_elim (λ q. old i q) (λ q. now i q) (below_suc i o (omega (arith, l)));
      rest = λ j out.
          get_or-set_other rows o j v 0 (λ q. omega (arith, q, out)) ∙ w.rest j (omega (arith, out));
    }
  where
    now : (i : ℕ) → i ≡ o → word (set rows o v) i ≡ g (word before i)
    now i q =
        subst⁻¹ (λ (n : ℕ). word (set rows o v) n ≡ g (word before n)) q
        (get_or-set_same rows o v 0 h ∙ (e ∙ ap g (w.rest o (omega arith))))

    old : (i : ℕ) → i < o → word (set rows o v) i ≡ g (word before i)
    old i h = get_or-set_other rows o i v 0 (λ z. omega (arith, z)) ∙ w.new i h

-- the rows of a short list, all of them, and the first of a longer one
pub all_anew : (before : List ℕ) (g : ℕ → ℕ) (count : ℕ) (after : List ℕ) → length before ≡ count → after ≡ map g before → Anew before g count after
all_anew before g count after h e =
    record {
      size = ap length e ∙ length-map before g;
      new = λ o l. ap (λ (s : List ℕ). word s o) e ∙ get_or-map g before o 0 0 (omega arith);
      rest = λ j l. get_or-eq_default after 0 {n = j} (omega (arith, ap length e, length-map before g)) ∙ sym (get_or-eq_default before 0 {n = j} (omega arith));
    }

pub first_anew : (before : List ℕ) (g : ℕ → ℕ) (count : ℕ) (part : List ℕ) → count ≤ 64 → length before ≡ 64 → part ≡ map g (take count before)
    → Anew before g count (part ++ drop count before)
first_anew before g count part h l e =
    record {
      size = length-append part (drop count before) ∙ omega (arith, size, length-drop count before);
      new = λ o k.
          get_or-append part (drop count before) 0 o (omega (arith, size))
          ∙ (ap (λ (s : List ℕ). word s o) e
          ∙ (get_or-map g (take count before) o 0 0 (omega (arith, length-take-le count before (omega arith)))
          ∙ ap g (get_or-take count before o 0 k)));
      rest = λ j k.
          get_or-append_right part (drop count before) count j 0 size k
          ∙ (get_or-drop count before (j - count) 0 ∙ ap (λ (i : ℕ). word before i) (omega arith));
    }
  where
    size : length part ≡ count
    size = ap length e ∙ (length-map (take count before) g ∙ length-take-le count before (omega arith))

-- ---- what leads where afterwards

-- the rows of a set with the paths by way of one of some middles, and every other word as it was
pub record Through (before : List ℕ) (among middles : ℕ) (after : List ℕ) : Type 0 where
  pub size : length after ≡ length before
  pub idle : (o : ℕ) → T (not (hasb o among)) → word after o ≡ word before o
  pub keeps : (o x : ℕ) → T (hasb o among) → T (leads before o x) → T (leads after o x)
  pub by_way : (o m x : ℕ) → T (hasb o among) → T (hasb m middles) → T (leads before o m) → T (leads before m x) → T (leads after o x)
  pub sound : (o x : ℕ) → T (hasb o among) → T (leads after o x)
      → T (leads before o x) ⊎ ((m : ℕ) × T (hasb m middles) × T (leads before o m) × T (leads before m x))

gets_through : (rows : List ℕ) (among middles : ℕ) (g : ℕ → ℕ) (after : List ℕ) → Gets rows middles g → length after ≡ length rows
    → ((o : ℕ) → T (not (hasb o among)) → word after o ≡ word rows o)
    → ((o : ℕ) → T (hasb o among) → word after o ≡ g (word rows o)) → Through rows among middles after
unfolding leads
gets_through rows among middles g after w size idle is =
    record {
      size = size;
      idle = idle;
      keeps = λ o x i t. into o x i (w.keeps (word rows o) x t);
      by_way = λ o m x i h s t. into o x i (w.by_way (word rows o) m x h s t);
      sound = λ o x i t. w.sound (word rows o) x (subst (λ (y : ℕ). T (hasb x y)) (is o i) t);
    }
  where
    into : (o x : ℕ) → T (hasb o among) → T (hasb x (g (word rows o))) → T (hasb x (word after o))
    into o x i t = subst⁻¹ (λ (y : ℕ). T (hasb x y)) (is o i) t

-- ---- one middle

-- the rows of a set with the paths by way of m
unfoldable pub passed : List ℕ → ℕ → ℕ → List ℕ
passed rows among m = rewritten rows 0 among (λ o. row_by m (word rows m) (word rows o))

pub by_way : (row m onward v : ℕ) (t : Bool) → t ≡ hasb m row → t ≡ true → v ≡ union row onward → v ≡ row_by m onward row
unfolding row_by
by_way row m onward v t h y e = e ∙ sym (ap (λ (b : Bool). cond b (union row onward) row) (sym h ∙ y))

pub no_by_way : (row m onward : ℕ) (t : Bool) → t ≡ hasb m row → t ≡ false → row ≡ row_by m onward row
unfolding row_by
no_by_way row m onward t h n = sym (ap (λ (b : Bool). cond b (union row onward) row) (sym h ∙ n))

-- where m is the only middle
pub by_gets : (rows : List ℕ) (middles m : ℕ) → T (hasb m middles) → ((i : ℕ) → T (hasb i middles) → i ≡ m)
    → Gets rows middles (row_by m (word rows m))
unfolding row_by leads
by_gets rows middles m member only =
    record {
      keeps = λ row x t.
          ⊎_elim (λ r. subst⁻¹ (λ (y : ℕ). T (hasb x y)) (chosen (hasb m row) _ _ r) (union_left x row _ t))
          (λ r. subst⁻¹ (λ (y : ℕ). T (hasb x y)) (passed_over (hasb m row) _ _ r) t) (tested (hasb m row));
      by_way = λ row i x h s t.
          let e = only i h in
          subst⁻¹ (λ (y : ℕ). T (hasb x y)) (chosen (hasb m row) _ _ (subst (λ (y : ℕ). T (hasb y row)) e s))
          (union_right x row _ (subst (λ (y : ℕ). T (hasb x (word rows y))) e t));
      sound = λ row x t.
          ⊎_elim
          (λ r.
          ⊎_elim (λ l. inl l) (λ l. inr (m, member, r, l))
          (union_cases x row (word rows m) (subst (λ (y : ℕ). T (hasb x y)) (chosen (hasb m row) _ _ r) t)))
          (λ r. inl (subst (λ (y : ℕ). T (hasb x y)) (passed_over (hasb m row) _ _ r) t)) (tested (hasb m row));
    }

module _ (rows : List ℕ) (among m : ℕ) where
  passed_idle : (o : ℕ) → T (not (hasb o among)) → word (passed rows among m) o ≡ word rows o
  unfolding passed
  passed_idle o n =
      let z : 0 + o ≡ o = omega arith in
      subst (λ (j : ℕ). word (passed rows among m) j ≡ word rows j) z (rewritten_idle rows 0 among _ o n)

  pub passed_at : (o : ℕ) → o < 64 → o < length rows → T (hasb o among) → word (passed rows among m) o ≡ row_by m (word rows m) (word rows o)
  unfolding passed
  passed_at o h l i =
      let z : 0 + o ≡ o = omega arith in
      subst (λ (j : ℕ). word (passed rows among m) j ≡ row_by m (word rows m) (word rows o)) z (rewritten_at rows 0 among _ o h (omega arith) i)

pub passed_through : (rows : List ℕ) (among middles m : ℕ) (after : List ℕ) → among < 2 ^ 64 → length rows ≡ 64 → T (hasb m middles)
    → ((i : ℕ) → T (hasb i middles) → i ≡ m) → after ≡ passed rows among m → Through rows among middles after
unfolding passed
passed_through rows among middles m after small room member only e =
    subst⁻¹ (λ (s : List ℕ). Through rows among middles s) e
    (gets_through rows among middles (row_by m (word rows m)) _ (by_gets rows middles m member only)
    (rewritten_length rows 0 among _) (passed_idle rows among m)
    (λ o i. let h = hasb_below 64 o among small i in passed_at rows among m o h (omega arith) i))
