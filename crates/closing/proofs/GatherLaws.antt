-- The arcs at a position are gathered one attribute after the other: eight bits of its row, put to the places of that attribute.
-- Assumes nothing.
use Prim.Native.Nat.{ℕ, ◌+◌, ◌*◌, ◌-◌, ◌/◌, ◌%◌, ◌^◌, ◌≤◌, ◌<◌}
use mathlib.Core.Path.{◌≡◌, ◌∙◌, ap, ap₂, subst, subst⁻¹}
use mathlib.Core.Logic.{⊎_elim}
use mathlib.Core.Bool.{Bool}
use mathlib.Core.List.{List}
use native.Mathlib.Omega.{arith}
use lib.Dec.{T, ltb, ltb→lt, lt→ltb}
use lib.ListN.{get_or}
use lib.Pow.{shl_lt, pow_mono}
use Rattle.bits.specs.Bit.{hasb, union, field, raised}
use Rattle.bits.proofs.SetLaws.{union_lt}
use Rattle.bits.proofs.CollectLaws.{collect_lt}
use Rattle.bits.proofs.ShiftLaws.{field_lt, has_field, has_raised, raised_low}
use Rattle.bits.proofs.MemberLaws.{hasb_collect, hasb_below, hasb_ext, union_cases, union_left, union_right}
use Rattle.basics.specs.Tests.{◌and◌}
use Rattle.basics.specs.Lists.{word}
use Rattle.basics.proofs.TestLaws.{and_intro, and_left, and_right, same_test, below_or_not}
use Rattle.closing.specs.Rows.{leads, arcs_at}

-- eight places of a set put to others: what stands there afterwards, and back
pub moved_forth : (m n k s : ℕ) → T (hasb k (raised n (field m s))) → (n ≤ k) × (k - n < 8) × T (hasb (m + (k - n)) s)
moved_forth m n k s t =
    ⊎_elim (λ l. absurd (subst (λ (b : Bool). T b) (raised_low n k (field m s) l) t))
    (λ l.
    let u : T (hasb (k - n) (field m s)) = subst (λ (b : Bool). T b) (has_raised n k (field m s) l) t in
    let small : k - n < 8 = hasb_below 8 (k - n) (field m s) (field_lt m s) u in
    (l, small, subst (λ (b : Bool). T b) (has_field m (k - n) s small) u))
    (below_or_not k n)

pub moved_back : (m n k s : ℕ) → n ≤ k → k - n < 8 → T (hasb (m + (k - n)) s) → T (hasb k (raised n (field m s)))
moved_back m n k s l small t =
    subst⁻¹ (λ (b : Bool). T b) (has_raised n k (field m s) l) (subst⁻¹ (λ (b : Bool). T b) (has_field m (k - n) s small) t)

module _ (rows : List ℕ) (i : ℕ) where
  -- what the arcs at a position are, arc by arc
  pub arc_at : (count k : ℕ) → k < 64 → hasb k (arcs_at rows i count) ≡ (ltb (k / 8) count and leads rows (8 * i + k / 8) (8 * i + k % 8))
  unfolding arcs_at
  arc_at count k h = hasb_collect 64 k _ h

  pub arcs_lt : (count : ℕ) → arcs_at rows i count < 2 ^ 64
  unfolding arcs_at
  arcs_lt count = collect_lt 64 _

  -- with no attribute there is no arc
  pub gather_none : 0 ≡ arcs_at rows i 0
  gather_none =
      hasb_ext 64 0 (arcs_at rows i 0) (omega arith) (arcs_lt 0)
      (λ k h.
      same_test (hasb k 0) (hasb k (arcs_at rows i 0)) (λ t. absurd (omega (arith, hasb_below 0 k 0 (omega arith) t)))
      (λ t. absurd (omega (arith, ltb→lt (k / 8) 0 (and_left _ _ (subst (λ (b : Bool). T b) (arc_at 0 k h) t))))))

  -- the bits of the row of attribute a, at its places, fit
  part_lt : (a row : ℕ) → a < 8 → raised (8 * a) (field (8 * i) row) < 2 ^ 64
  unfolding raised
  part_lt a row h =
      omega (arith, shl_lt 8 (8 * a) (field_lt (8 * i) row), pow_mono {i = 8 + 8 * a} {j = 64} (omega arith))

  -- and are its arcs
  part_forth : (a k : ℕ) → k < 64 → T (hasb k (raised (8 * a) (field (8 * i) (word rows (8 * i + a)))))
      → (k / 8 ≡ a) × T (leads rows (8 * i + k / 8) (8 * i + k % 8))
  unfolding leads
  part_forth a k h t =
      let s = moved_forth (8 * i) (8 * a) k (word rows (8 * i + a)) t in
      let e : k / 8 ≡ a = omega (arith, s.0, s.1) in
      let place : 8 * i + a ≡ (8 * i + k / 8) = omega arith in
      let bit_is : 8 * i + (k - 8 * a) ≡ 8 * i + k % 8 = omega (arith, s.0, s.1) in (
        e,
        subst (λ (p : ℕ). T (hasb (8 * i + k % 8) (word rows p))) place
            (subst (λ (p : ℕ). T (hasb p (word rows (8 * i + a)))) bit_is s.2),
      )

  part_back : (a k : ℕ) → k / 8 ≡ a → T (leads rows (8 * i + k / 8) (8 * i + k % 8))
      → T (hasb k (raised (8 * a) (field (8 * i) (word rows (8 * i + a)))))
  unfolding leads
  part_back a k e t =
      let place : 8 * i + a ≡ (8 * i + k / 8) = omega arith in
      let bit_is : 8 * i + (k - 8 * a) ≡ 8 * i + k % 8 = omega arith in
      moved_back (8 * i) (8 * a) k (word rows (8 * i + a)) (omega arith) (omega arith)
      (subst⁻¹ (λ (p : ℕ). T (hasb p (word rows (8 * i + a)))) bit_is
      (subst⁻¹ (λ (p : ℕ). T (hasb (8 * i + k % 8) (word rows p))) place t))

  -- one attribute more
  gather_one : (a : ℕ) → a < 8
      → union (arcs_at rows i a) (raised (8 * a) (field (8 * i) (word rows (8 * i + a)))) ≡ arcs_at rows i (a + 1)
  gather_one a h =
      hasb_ext 64 (union (arcs_at rows i a) (raised (8 * a) (field (8 * i) (word rows (8 * i + a))))) (arcs_at rows i (a + 1))
      (union_lt 64 _ _ (arcs_lt a) (part_lt a _ h)) (arcs_lt (a + 1))
      (λ k l.
      same_test _ _
      (λ t.
      subst⁻¹ (λ (b : Bool). T b) (arc_at (a + 1) k l)
      (⊎_elim
      (λ u.
      let v = subst (λ (b : Bool). T b) (arc_at a k l) u in
      and_intro _ _ (lt→ltb (k / 8) (a + 1) (omega (arith, ltb→lt (k / 8) a (and_left _ _ v)))) (and_right _ _ v))
      (λ u. let v = part_forth a k l u in and_intro _ _ (lt→ltb (k / 8) (a + 1) (omega (arith, v.0))) v.1)
      (union_cases k (arcs_at rows i a) _ t)))
      (λ t.
      let v = subst (λ (b : Bool). T b) (arc_at (a + 1) k l) t in
      ⊎_elim
      (λ u.
      union_left k (arcs_at rows i a) _
      (subst⁻¹ (λ (b : Bool). T b) (arc_at a k l) (and_intro _ _ (lt→ltb (k / 8) a u) (and_right _ _ v))))
      (λ u.
      union_right k (arcs_at rows i a) _
      (part_back a k (omega (arith, ltb→lt (k / 8) (a + 1) (and_left _ _ v))) (and_right _ _ v)))
      (below_or_not (k / 8) a)))

-- The same as the loop meets it.
pub gather_turn : (rows : List ℕ) (i a arcs part next count : ℕ) → arcs ≡ arcs_at rows i a → a < count → count ≤ 8
    → part ≡ raised (8 * a) (field (8 * i) (get_or rows (8 * i + a) 0)) → next ≡ union arcs part → next ≡ arcs_at rows i (a + 1)
gather_turn rows i a arcs part next count e h l q n = n ∙ (ap₂ union e q ∙ gather_one rows i a (omega arith))

pub gather_end : (rows : List ℕ) (i count arcs a : ℕ) → arcs ≡ arcs_at rows i a → a ≤ count → count ≤ a → arcs ≡ arcs_at rows i count
gather_end rows i count arcs a e h l = let f : a ≡ count = omega arith in e ∙ ap (λ (n : ℕ). arcs_at rows i n) f

-- eight places of a set are a small set, wherever they are put
pub field_fits : (n s v : ℕ) → v ≡ field n s → v < 256
field_fits n s v e = subst⁻¹ (λ (x : ℕ). x < 256) e (field_lt n s)

pub moved_is : (set m n places r : ℕ) → places ≡ field m set → r ≡ raised n places → r ≡ raised n (field m set)
moved_is set m n places r p q = q ∙ ap (raised n) p
