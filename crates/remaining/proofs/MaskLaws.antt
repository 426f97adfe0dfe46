-- The masks by their members: which attributes are in a set, which occurrences a visit or a leave makes available, which visits are ready.
-- Assumes nothing.
use Prim.Native.Nat.{ℕ, ◌+◌, ◌*◌, ◌-◌, ◌/◌, ◌%◌, ◌≤◌, ◌<◌}
use mathlib.Core.Path.{◌≡◌, refl, ◌∙◌, ap, subst, subst⁻¹}
use mathlib.Core.Logic.{⊎_elim}
use mathlib.Core.Bool.{Bool}
use mathlib.Core.List.{List}
use native.Mathlib.Omega.{arith}
use lib.Dec.{T, eqb→eq, le→leb, T_not, not_T}
use Rattle.basics.specs.Lists.{word}
use Rattle.bits.specs.Bit.{hasb, raised, common, minus, field}
use Rattle.bits.proofs.BitLaws.{bit_below, bit_has}
use Rattle.bits.proofs.CollectLaws.{collect_lt}
use Rattle.bits.proofs.ShiftLaws.{field_lt, has_field, has_raised, raised_low}
use Rattle.bits.proofs.MemberLaws.{hasb_collect, hasb_below, none_left, no_member, common_both, both_common, minus_both, both_minus}
use Rattle.basics.proofs.TestLaws.{and_intro, and_left, and_right, eq_T, true_T, below_or_not}
use Rattle.grammar.specs.Table.{symbols}
use Rattle.sets.specs.Visits.{set_number, half_up, visits}
use Rattle.access.specs.ByPlace.{symbol_from}
use Rattle.remaining.specs.declared.ByVisit.{ByVisit as Kept}
use Rattle.remaining.specs.RuleSets.{
  of_visit,
  part_by_visit,
  ByVisit,
  inherited_mask,
  synthesized_mask,
  handed_up,
  handed_down,
  Along,
  one_up,
  NextVisit,
  visit_ready,
  ready_visits,
}
use Rattle.remaining.proofs.PartLaws.{set_within, part_at_law, at_part}

-- the table has symbol x
pub record Seen (s : List ℕ) (by : Kept) (x : ℕ) : Type 0 where
  pub even : word by.inherited x ≡ part_by_visit s x 0
  pub odd : word by.synthesized x ≡ part_by_visit s x 1

pub seen_symbol : (g s : List ℕ) (by : Kept) (x : ℕ) → ByVisit g s by → x < symbols g → Seen s by x
seen_symbol g s by x w h = record { even = w.even x h; odd = w.odd x h }

-- attribute a in a word of a symbol's attributes by visit
module _ (s : List ℕ) (x odd word n : ℕ) (is : word ≡ part_by_visit s x odd) (l : n < 8) where
  in_part : (a : ℕ) → T (hasb a (field (8 * n) word)) → (a < 8) × (set_number s x a % 2 ≡ odd) × (visits s x - half_up (set_number s x a) ≡ n)
  unfolding part_by_visit
  in_part a t =
      let h : a < 8 = hasb_below 8 a (field (8 * n) word) (field_lt (8 * n) word) t in
      let k = part_at_law s x odd (8 * n + a) a (omega arith)
      (subst (λ (b : Bool). T b) (hasb_collect 64 (8 * n + a) _ (omega arith))
      (subst (λ (y : ℕ). T (hasb (8 * n + a) y)) is (subst (λ (b : Bool). T b) (has_field (8 * n) a word h) t))) in
      (h, k.0, omega (arith, k.1))

  part_in : (a : ℕ) → a < 8 → set_number s x a % 2 ≡ odd → visits s x - half_up (set_number s x a) ≡ n → T (hasb a (field (8 * n) word))
  unfolding part_by_visit
  part_in a h e f =
      subst⁻¹ (λ (b : Bool). T b) (has_field (8 * n) a word h)
      (subst⁻¹ (λ (y : ℕ). T (hasb (8 * n + a) y)) is
      (subst⁻¹ (λ (b : Bool). T b) (hasb_collect 64 (8 * n + a) _ (omega arith))
      (at_part s x odd (8 * n + a) a (omega arith) e (omega (arith, f)))))

-- an attribute is a member exactly where it is in the set of the visit
module _ (s : List ℕ) (by : Kept) (x n : ℕ) (seen : Seen s by x) (l : n < 8) where
  pub in_inherited : n ≤ visits s x → (a : ℕ) → T (hasb a (inherited_mask by x n)) → (a < 8) × (set_number s x a ≡ 2 * (visits s x + 1 - (n + 1)))
  unfolding of_visit
  in_inherited h a t =
      let k = in_part s x 0 (word by.inherited x) n seen.even l a t in
      (k.0, omega (arith, k.1, k.2, set_within s x a k.0))

  pub inherited_in : n ≤ visits s x → (a : ℕ) → a < 8 → set_number s x a ≡ 2 * (visits s x + 1 - (n + 1)) → T (hasb a (inherited_mask by x n))
  unfolding of_visit
  inherited_in h a k e = part_in s x 0 (word by.inherited x) n seen.even l a k (omega (arith, e)) (omega (arith, e))

  pub in_synthesized : n < visits s x → (a : ℕ) → T (hasb a (synthesized_mask by x n)) → (a < 8) × (set_number s x a ≡ 2 * (visits s x + 1 - (n + 1)) - 1)
  unfolding of_visit
  in_synthesized h a t =
      let k = in_part s x 1 (word by.synthesized x) n seen.odd l a t in
      (k.0, omega (arith, k.1, k.2, set_within s x a k.0))

  pub synthesized_in : n < visits s x → (a : ℕ) → a < 8 → set_number s x a ≡ 2 * (visits s x + 1 - (n + 1)) - 1 → T (hasb a (synthesized_mask by x n))
  unfolding of_visit
  synthesized_in h a k e = part_in s x 1 (word by.synthesized x) n seen.odd l a k (omega (arith, e)) (omega (arith, e))

-- a set of attributes at position i
pub raised_at : (mask i o : ℕ) → mask < 256 → T (hasb o (raised (8 * i) mask)) → (o / 8 ≡ i) × T (hasb (o % 8) mask)
raised_at mask i o small t =
    ⊎_elim (λ l. absurd (subst (λ (b : Bool). T b) (raised_low (8 * i) o _ l) t))
    (λ l.
    let u = subst (λ (b : Bool). T b) (has_raised (8 * i) o mask l) t in
    let h : o - 8 * i < 8 = hasb_below 8 (o - 8 * i) mask small u in
    let e : o - 8 * i ≡ o % 8 = omega arith in
    (omega arith, subst (λ (a : ℕ). T (hasb a mask)) e u))
    (below_or_not o (8 * i))

pub at_raised : (mask i o : ℕ) → o / 8 ≡ i → T (hasb (o % 8) mask) → T (hasb o (raised (8 * i) mask))
at_raised mask i o q t =
    let f : o - 8 * i ≡ o % 8 = omega arith in
    subst⁻¹ (λ (b : Bool). T b) (has_raised (8 * i) o mask (omega arith)) (subst⁻¹ (λ (a : ℕ). T (hasb a mask)) f t)

-- those of the first visit are the lowest eight bits
pub first_inherited : (by : Kept) (x a : ℕ) → a < 8
    → (T (hasb a (inherited_mask by x 0)) → T (hasb a (word by.inherited x))) × (T (hasb a (word by.inherited x)) → T (hasb a (inherited_mask by x 0)))
unfolding of_visit
first_inherited by x a h =
    let none : 8 * 0 + a ≡ a = omega arith in
    let e : hasb a (field (8 * 0) (word by.inherited x)) ≡ hasb a (word by.inherited x) =
    has_field (8 * 0) a (word by.inherited x) h ∙ ap (λ (b : ℕ). hasb b (word by.inherited x)) none in
    (λ t. subst (λ (b : Bool). T b) e t, λ t. subst⁻¹ (λ (b : Bool). T b) e t)

pub inherited_small : (by : Kept) (x n mask : ℕ) → mask ≡ inherited_mask by x n → mask < 256
unfolding of_visit
inherited_small by x n mask e = subst⁻¹ (λ (y : ℕ). y < 256) e (field_lt (8 * n) (word by.inherited x))

pub synthesized_small : (by : Kept) (x n mask : ℕ) → mask ≡ synthesized_mask by x n → mask < 256
unfolding of_visit
synthesized_small by x n mask e = subst⁻¹ (λ (y : ℕ). y < 256) e (field_lt (8 * n) (word by.synthesized x))

-- the table has the symbol of each of these visits, and it has so many
abbrev pub SeenVisits : List ℕ → List ℕ → Kept → ℕ → ℕ → Type 0
SeenVisits g s by p left =
    (b : ℕ) → b < 64 → T (hasb b left) → Seen s by (symbol_from g p (b / 8)) × (b % 8 < visits s (symbol_from g p (b / 8)))

module _ (g s : List ℕ) (by : Kept) (p : ℕ) where
  -- what visit b makes available stands at its child and in the odd set
  module _ (b : ℕ) (seen : Seen s by (symbol_from g p (b / 8))) (inside : b % 8 < visits s (symbol_from g p (b / 8))) where
    pub up_at : (o : ℕ) → T (hasb o (handed_up g by p b))
        → (o / 8 ≡ b / 8)
        × (set_number s (symbol_from g p (b / 8)) (o % 8) ≡ 2 * (visits s (symbol_from g p (b / 8)) + 1 - (b % 8 + 1)) - 1)
    unfolding handed_up
    up_at o t =
        let u = raised_at _ (b / 8) o (synthesized_small by (symbol_from g p (b / 8)) (b % 8) _ refl) t in
        (u.0, (in_synthesized s by (symbol_from g p (b / 8)) (b % 8) seen (omega arith) inside (o % 8) u.1).1)

    pub at_up : (o : ℕ) → o / 8 ≡ b / 8
        → set_number s (symbol_from g p (b / 8)) (o % 8) ≡ 2 * (visits s (symbol_from g p (b / 8)) + 1 - (b % 8 + 1)) - 1
        → T (hasb o (handed_up g by p b))
    unfolding handed_up
    at_up o q e =
        at_raised _ (b / 8) o q (synthesized_in s by (symbol_from g p (b / 8)) (b % 8) seen (omega arith) inside (o % 8) (omega arith) e)

  -- what leave b makes available stands at the left side and in the even set of the next visit
  module _ (b : ℕ) (seen : Seen s by (symbol_from g p 0)) (low : b < 7) (inside : b < visits s (symbol_from g p 0)) where
    pub down_at : (o : ℕ) → T (hasb o (handed_down g by p b))
        → (o < 8) × (set_number s (symbol_from g p 0) o ≡ 2 * (visits s (symbol_from g p 0) + 1 - (b + 2)))
    unfolding handed_down
    down_at o t =
        let u = in_inherited s by (symbol_from g p 0) (b + 1) seen (omega arith) (omega arith) o t in (u.0, omega (arith, u.1))

    pub at_down : (o : ℕ) → o < 8 → set_number s (symbol_from g p 0) o ≡ 2 * (visits s (symbol_from g p 0) + 1 - (b + 2))
        → T (hasb o (handed_down g by p b))
    unfolding handed_down
    at_down o l e = inherited_in s by (symbol_from g p 0) (b + 1) seen (omega arith) (omega arith) o l (omega (arith, e))

module _ (g s : List ℕ) (p : ℕ) where
  -- visit b is ready by the test
  pub record Passes (left waiting b : ℕ) : Type 0 where
    pub next : (k : ℕ) → k < b % 8 → T (hasb (8 * (b / 8) + k) left) → ⊥
    pub handed : (a : ℕ) → a < 8 → T (hasb (8 * (b / 8) + a) waiting)
        → set_number s (symbol_from g p (b / 8)) a ≡ 2 * (visits s (symbol_from g p (b / 8)) + 1 - (b % 8 + 1)) → ⊥

-- the eight places of a child
pub in_child : (i k : ℕ) → T (hasb k (raised (8 * i) 255)) → k / 8 ≡ i
in_child i k t = (raised_at 255 i k (omega arith) t).0

pub child_in : (i k : ℕ) → k / 8 ≡ i → T (hasb k (raised (8 * i) 255))
child_in i k e = at_raised 255 i k e (true_T _ (bit_has (k % 8) 255 (bit_below 8 (k % 8) (omega arith))))

-- The visits of each child that are left are its last ones, and no child has eight: so the next one is that before which none is left.
pub record Rising (left : ℕ) : Type 0 where
  pub later : (b k : ℕ) → b < 64 → T (hasb b left) → k < b % 8 → T (hasb (8 * (b / 8) + k) left) → T (hasb (b - 1) left)
  pub apart : (b : ℕ) → b < 64 → T (hasb b left) → b % 8 ≡ 0 → T (hasb (b - 1) left) → ⊥

module _ (left b : ℕ) (h : b < 64) where
  next_of : Rising left → T (hasb b (minus left (one_up left))) → T (hasb b left) × NextVisit left b
  unfolding one_up
  next_of rising t =
      let u = minus_both b left (one_up left) t in (
        u.0,
        λ k l y.
            T_not (hasb b (one_up left)) u.1
            (subst⁻¹ (λ (x : Bool). T x) (hasb_collect 64 b _ h) (and_intro _ _ (le→leb 1 b (omega arith)) (rising.later b k h u.0 l y))),
      )

  of_next : Rising left → T (hasb b left) → NextVisit left b → T (hasb b (minus left (one_up left)))
  unfolding one_up
  of_next rising t next =
      both_minus b left (one_up left) t
      (not_T (hasb b (one_up left))
      (λ u.
      let y = and_right _ _ (subst (λ (x : Bool). T x) (hasb_collect 64 b _ h) u) in
      ⊎_elim
      (λ i.
      let e : b - 1 ≡ 8 * (b / 8) + (b % 8 - 1) = omega arith in
      next (b % 8 - 1) (omega arith) (subst (λ (x : ℕ). T (hasb x left)) e y))
      (λ i. rising.apart b h t (omega arith) y) (below_or_not 0 (b % 8))))

module _ (g s : List ℕ) (by : Kept) (p left waiting wanted : ℕ) (seen : SeenVisits g s by p left) (rising : Rising left) (along : Along g by p left wanted) where
  -- the visits that are ready
  pub ready_at : (b : ℕ) → T (hasb b (ready_visits left (common wanted waiting))) → (b < 64) × T (hasb b left) × Passes g s p left waiting b
  unfolding ready_visits visit_ready
  ready_at b t =
      let h : b < 64 = hasb_below 64 b (ready_visits left (common wanted waiting)) (collect_lt 64 _) t in
      let u = subst (λ (x : Bool). T x) (hasb_collect 64 b _ h) t in
      let n = next_of left b h rising (and_left _ _ u) in (
        h,
        n.0,
        record {
          next = n.1;
          handed = λ a l y e.
              let o : ℕ = 8 * (b / 8) + a in
              let own : o % 8 ≡ a = omega arith in
              let there : o / 8 ≡ b / 8 = omega arith in
              let v = seen b h n.0 in
              T_not (hasb o 0) (none_left o)
              (subst (λ (x : ℕ). T (hasb o x)) (eqb→eq _ _ (and_right _ _ u))
              (both_common o (common wanted waiting) (raised (8 * (b / 8)) 255)
              (both_common o wanted waiting
              (along.taken b o h n.0 n.1 there
              (subst⁻¹ (λ (y : ℕ). T (hasb y (inherited_mask by (symbol_from g p (b / 8)) (b % 8)))) own
              (inherited_in s by (symbol_from g p (b / 8)) (b % 8) v.0 (omega arith) (omega (arith, v.1)) a l e))) y)
              (child_in (b / 8) o there)));
        },
      )

  pub at_ready : (b : ℕ) → b < 64 → T (hasb b left) → Passes g s p left waiting b → T (hasb b (ready_visits left (common wanted waiting)))
  unfolding ready_visits visit_ready
  at_ready b h i w =
      subst⁻¹ (λ (x : Bool). T x) (hasb_collect 64 b _ h)
      (and_intro _ _ (of_next left b h rising i w.next)
      (eq_T _ _ (no_member (common (common wanted waiting) (raised (8 * (b / 8)) 255))
      (λ o t.
      let v = common_both o (common wanted waiting) (raised (8 * (b / 8)) 255) t in
      let u = common_both o wanted waiting v.0 in
      let k = seen b h i in
      let q : o / 8 ≡ b / 8 = in_child (b / 8) o v.1 in
      let e : o ≡ 8 * (b / 8) + o % 8 = omega arith in
      w.handed (o % 8) (omega arith) (subst (λ (x : ℕ). T (hasb x waiting)) e u.1)
      (in_inherited s by (symbol_from g p (b / 8)) (b % 8) k.0 (omega arith) (omega (arith, k.1)) (o % 8)
      (along.takes b o h i w.next q u.0)).1))))
