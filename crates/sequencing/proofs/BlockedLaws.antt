-- What is not blocked: the loop's record holds at its start, at every turn and at its end gives what the function promises. Assumes nothing.
use Prim.Native.Nat.{ℕ, ◌+◌, ◌≤◌, ◌<◌}
use mathlib.Core.Path.{◌≡◌, sym, ◌∙◌, ap, subst, subst⁻¹}
use mathlib.Core.Logic.{◌⊎◌, inl, inr, ⊎_elim}
use mathlib.Core.Bool.{Bool, not}
use mathlib.Core.List.{List}
use native.Mathlib.Omega.{arith}
use lib.Dec.{T, T_not}
use lib.ListN.{length, get_or}
use Rattle.basics.specs.Lists.{word}
use Rattle.basics.proofs.TestLaws.{tested, same_or_not}
use Rattle.bits.specs.Bit.{hasb, remove, common, union, minus, lowest, First}
use Rattle.bits.proofs.MemberLaws.{none_left, has_not, has_other, union_cases, union_left, union_right, common_both, both_common, minus_both, both_minus}
use Rattle.bits.proofs.RestLaws.{rest_of}
use Rattle.grammar.specs.Limits.{most_occurrences}
use Rattle.remaining.proofs.MemberWalks.{first_member, was_left, gone, left_less}
use Rattle.remaining.specs.Remaining.{Done}
use Rattle.sequencing.specs.Blocked.{RowsClosed, Unblocked}

-- row o
abbrev row_at : List ℕ → ℕ → ℕ → ℕ
row_at rows base o = get_or rows (base + o) 0

module _ (rows : List ℕ) (base waiting computes : ℕ) where
  -- those that are done block none of the computes that seem ready, and each of the others is blocked
  pub record Blocking (left ready : ℕ) : Type 0 where
    pub room : base + most_occurrences ≤ length rows
    pub closed : RowsClosed rows base
    pub left_waits : (o : ℕ) → T (hasb o left) → T (hasb o waiting)
    pub within : (b : ℕ) → T (hasb b ready) → T (hasb b computes)
    pub by : (b : ℕ) → T (hasb b computes) → T (not (hasb b ready)) → (o : ℕ) × T (hasb o waiting) × T (hasb b (word rows (base + o)))
    pub free : (b o : ℕ) → T (hasb b ready) → T (hasb o waiting) → T (not (hasb o left)) → T (hasb b (word rows (base + o))) → ⊥

  pub blocking_start : (base + most_occurrences ≤ length rows) × RowsClosed rows base → Blocking waiting computes
  blocking_start h =
      record {
        room = h.0;
        closed = h.1;
        left_waits = λ o t. t;
        within = λ b t. t;
        by = λ b t n. absurd (T_not (hasb b computes) n t);
        free = λ b o t u n y. T_not (hasb o waiting) n u;
      }

  -- the lowest that is left is done, and with it all that it leads to
  blocked_less : (left ready o : ℕ) → Blocking left ready → First left o
      → Blocking (minus (remove o left) (row_at rows base o)) (minus ready (row_at rows base o))
  blocked_less left ready o w f =
      record {
        room = w.room;
        closed = w.closed;
        left_waits = λ b t. w.left_waits b (was_left left o b (minus_both b (remove o left) (row_at rows base o) t).0);
        within = λ b t. w.within b (minus_both b ready (row_at rows base o) t).0;
        by = λ b t n.
            ⊎_elim (λ u. (o, w.left_waits o (first_member left o f), u)) (λ u. w.by b t u) (taken ready b n);
        free = λ b k t u n y.
            let z = minus_both b ready (row_at rows base o) t in
            ⊎_elim (λ i. T_not (hasb b (row_at rows base o)) z.1 (w.closed o k b f.small i y))
            (λ i.
            ⊎_elim (λ j. T_not (hasb b (row_at rows base o)) z.1 (subst (λ (x : ℕ). T (hasb b (word rows (base + x)))) j y))
            (λ j. w.free b k z.0 u j y) (gone left o k i))
            (taken (remove o left) k n);
      }
    where
      taken : (s k : ℕ) → T (not (hasb k (minus s (row_at rows base o)))) → T (hasb k (row_at rows base o)) ⊎ T (not (hasb k s))
      taken s k n =
          ⊎_elim
          (λ t.
          ⊎_elim (λ u. inl u) (λ u. absurd (T_not (hasb k (minus s (row_at rows base o))) n (both_minus k s (row_at rows base o) t u)))
          (tested (hasb k (row_at rows base o))))
          (λ t. inr t) (tested (hasb k s))

  pub blocking_turn : (left ready o rest next more : ℕ) → Blocking left ready → First left o → more ≡ minus ready (get_or rows (base + o) 0)
      → rest ≡ remove (lowest 64 left) left → next ≡ minus rest (get_or rows (base + o) 0) → Blocking next more
  blocking_turn left ready o rest next more w f q e n =
      subst⁻¹ (λ (x : ℕ). Blocking x more) (n ∙ ap (λ (x : ℕ). minus x (row_at rows base o)) (rest_of left o rest f e))
      (subst⁻¹ (λ (x : ℕ). Blocking (minus (remove o left) (row_at rows base o)) x) q (blocked_less left ready o w f))

  pub blocking_finish : (left ready : ℕ) → Blocking left ready → left ≡ 0 → Unblocked rows base waiting computes ready
  blocking_finish left ready w e =
      record {
        within = w.within;
        free = λ b o t u y. w.free b o t u (subst⁻¹ (λ (x : ℕ). T (not (hasb o x))) e (none_left o)) y;
        all = λ b t f.
            ⊎_elim (λ u. u) (λ u. let k = w.by b t u in absurd (f k.0 k.1 k.2)) (tested (hasb b ready));
      }

  -- where all computes are blocked
  pub blocking_none : (left ready o more : ℕ) → Blocking left ready → First left o → more ≡ minus ready (get_or rows (base + o) 0) → more ≡ 0
      → Unblocked rows base waiting computes 0
  blocking_none left ready o more w f q e =
      let d = subst (λ (x : ℕ). Blocking (minus (remove o left) (row_at rows base o)) x) (sym q ∙ e) (blocked_less left ready o w f) in
      record {
        within = λ b t. absurd (T_not (hasb b 0) (none_left b) t);
        free = λ b o t u y. T_not (hasb b 0) (none_left b) t;
        all = λ b t f. let k = d.by b t (none_left b) in absurd (f k.0 k.1 k.2);
      }

minus_le : (a b : ℕ) → minus a b ≤ a
unfolding minus
minus_le a b = omega arith

pub blocking_less : (left o rest row next : ℕ) → First left o → rest ≡ remove (lowest 64 left) left → next ≡ minus rest row → next < left
blocking_less left o rest row next f e n =
    let l : rest < left = left_less left o rest f (rest_of left o rest f e) in omega (arith, n, minus_le rest row)

-- After the lowest ready compute: the other ready ones stay so, and what becomes ready is what it leads to.
module _ (rows : List ℕ) (base c v l w d c' v' l' w' d' action o ready : ℕ) where
  pub first_action : First ready o → Done action c' v' l' w' d' o (remove o c) v l (remove o w) d → First ready action
  first_action f e = subst⁻¹ (First ready) e.action_is f

  pub done_action : Done action c' v' l' w' d' o (remove o c) v l (remove o w) d
      → Done action c' v' l' w' d' action (remove action c) v l (remove action w) d
  done_action e = subst⁻¹ (λ (a : ℕ). Done action c' v' l' w' d' a (remove a c) v l (remove a w) d) e.action_is e

  pub ready_after : (leads more woken rest next : ℕ) → Unblocked rows base w c ready → First ready o
      → Done action c' v' l' w' d' o (remove o c) v l (remove o w) d → leads ≡ common (get_or rows (base + o) 0) c' → more ≡ minus leads ready
      → Unblocked rows base w' more woken → rest ≡ remove (lowest 64 ready) ready → next ≡ union rest woken → Unblocked rows base w' c' next
  ready_after leads more woken rest next u f e q m k r n =
      subst⁻¹ (Unblocked rows base w' c') (n ∙ ap (λ (x : ℕ). union x woken) (rest_of ready o rest f r))
      (record {
        within = λ b t.
            ⊎_elim
            (λ i.
            subst⁻¹ (λ (x : ℕ). T (hasb b x)) e.computes_are
            (subst⁻¹ (λ (x : Bool). T x) (has_other o b c (other b ready i)) (u.within b (was_left ready o b i))))
            (λ i.
            (common_both b (row_at rows base o) c'
            (subst (λ (x : ℕ). T (hasb b x)) q
            (minus_both b leads ready (subst (λ (x : ℕ). T (hasb b x)) m (k.within b i))).0)).1)
            (union_cases b (remove o ready) woken t);
        free = λ b x t i y.
            ⊎_elim (λ j. u.free b x (was_left ready o b j) (was_left w o x (subst (λ (z : ℕ). T (hasb x z)) e.waiting_are i)) y)
            (λ j. k.free b x j i y) (union_cases b (remove o ready) woken t);
        all = λ b t g.
            let i : T (hasb b (remove o c)) = subst (λ (x : ℕ). T (hasb b x)) e.computes_are t in
            ⊎_elim
            (λ j. union_left b (remove o ready) woken (subst⁻¹ (λ (x : Bool). T x) (has_other o b ready (other b c i)) j))
            (λ j.
            union_right b (remove o ready) woken
            (k.all b
            (subst⁻¹ (λ (x : ℕ). T (hasb b x)) m
            (both_minus b leads ready
            (subst⁻¹ (λ (x : ℕ). T (hasb b x)) q (both_common b (row_at rows base o) c' (led b i j g) t)) j)) g))
            (tested (hasb b ready));
      })
    where
      other : (b s : ℕ) → T (hasb b (remove o s)) → b ≡ o → ⊥
      other b s t z = T_not (hasb o (remove o s)) (has_not o s) (subst (λ (x : ℕ). T (hasb x (remove o s))) z t)

      led : (b : ℕ) → T (hasb b (remove o c)) → T (not (hasb b ready))
          → ((x : ℕ) → T (hasb x w') → T (hasb b (word rows (base + x))) → ⊥) → T (hasb b (row_at rows base o))
      led b i j g =
          ⊎_elim (λ z. z)
          (λ z.
          absurd (T_not (hasb b ready) j
          (u.all b (was_left c o b i)
          (λ x t y.
          ⊎_elim (λ p. T_not (hasb b (row_at rows base o)) z (subst (λ (h : ℕ). T (hasb b (word rows (base + h)))) p y))
          (λ p. g x (subst⁻¹ (λ (h : ℕ). T (hasb x h)) e.waiting_are (subst⁻¹ (λ (h : Bool). T h) (has_other o x w p) t)) y)
          (same_or_not x o)))))
          (tested (hasb b (row_at rows base o)))
