-- Which occurrences a rule has and which are defining: the synthesized ones at the left side and the inherited ones at children.
-- A symbol whose mask is 0 has no inherited attribute. Assumes nothing.
use Prim.Native.Nat.{ℕ, ◌+◌, ◌*◌, ◌/◌, ◌%◌, ◌^◌, ◌≤◌, ◌<◌}
use mathlib.Core.Path.{◌≡◌, refl, ◌∙◌, ap, subst⁻¹}
use mathlib.Core.Bool.{Bool, true, false, cond, not}
use mathlib.Core.List.{List}
use native.Mathlib.Omega.{arith}
use native.Mathlib.Nat.{zero-div}
use lib.Dec.{T, eqb, ltb→lt, lt→ltb, leb→le, le→leb, eqb→eq}
use Rattle.basics.proofs.TestLaws.{and_left, and_right, and_intro, eq_T, true_T}
use Rattle.grammar.specs.Table.{
  attributes,
  mask,
  inherited,
  right_length,
  symbol_of,
  position,
  attribute,
  occurrence,
  inherited_at,
  defining_class,
  defining,
}

-- a symbol whose mask is 0 has no inherited attribute
pub none_inherited : (g : List ℕ) (x a : ℕ) → mask g x ≡ 0 → T (inherited g x a) → ⊥
none_inherited g x a e t =
    let one : mask g x / 2 ^ a % 2 ≡ 1 = eqb→eq (mask g x / 2 ^ a % 2) 1 t in
    let none : mask g x / 2 ^ a % 2 ≡ 0 = ap (λ (m : ℕ). m / 2 ^ a % 2) e ∙ ap (λ (m : ℕ). m % 2) (zero-div (2 ^ a)) in
    omega arith

-- an occurrence stands at a position of the rule
pub occurs_inside : (g : List ℕ) (r o : ℕ) → T (occurrence g r o) → position o ≤ right_length g r
unfolding occurrence
occurs_inside g r o t = leb→le (position o) (right_length g r) (and_left _ _ t)

-- its attribute belongs to the symbol there
pub occurs_attribute : (g : List ℕ) (r o : ℕ) → T (occurrence g r o) → attribute o < attributes g (symbol_of g r (position o))
unfolding occurrence
occurs_attribute g r o t = ltb→lt (attribute o) _ (and_right _ _ t)

-- an attribute of the symbol there is an occurrence
pub attribute_occurs : (g : List ℕ) (r i a : ℕ) → i ≤ right_length g r → a < 8 → a < attributes g (symbol_of g r i) → T (occurrence g r (8 * i + a))
unfolding occurrence
attribute_occurs g r i a h s l =
    let p : (8 * i + a) / 8 ≡ i = omega arith in
    let q : (8 * i + a) % 8 ≡ a = omega arith in
    and_intro _ _ (le→leb ((8 * i + a) / 8) (right_length g r) (omega arith))
    (lt→ltb ((8 * i + a) % 8) _ (subst⁻¹ (λ (k : ℕ). k < attributes g (symbol_of g r ((8 * i + a) / 8))) q
    (subst⁻¹ (λ (k : ℕ). a < attributes g (symbol_of g r k)) p l)))

module _ (g : List ℕ) (r o : ℕ) where
  -- a defining occurrence is synthesized at the left side
  pub defining_left : T (defining g r o) → position o ≡ 0 → T (not (inherited_at g r o))
  unfolding defining defining_class
  defining_left t e = go (eqb (position o) 0) (eq_T _ _ e) (and_right _ _ t)
    where
      go : (b : Bool) → T b → T (cond b (not (inherited_at g r o)) (inherited_at g r o)) → T (not (inherited_at g r o))
      go true i u = u
      go false i u = absurd i

  -- and inherited at a child
  pub defining_child : T (defining g r o) → 1 ≤ position o → T (inherited_at g r o)
  unfolding defining defining_class
  defining_child t l = go (eqb (position o) 0) refl (and_right _ _ t)
    where
      go : (b : Bool) → eqb (position o) 0 ≡ b → T (cond b (not (inherited_at g r o)) (inherited_at g r o)) → T (inherited_at g r o)
      go true e u = absurd (let z : position o ≡ 0 = eqb→eq (position o) 0 (true_T (eqb (position o) 0) e) in omega arith)
      go false e u = u

  -- a synthesized occurrence of the left side is defining
  pub left_defining : T (occurrence g r o) → position o ≡ 0 → T (not (inherited_at g r o)) → T (defining g r o)
  unfolding defining defining_class
  left_defining t e u = and_intro _ _ t (go (eqb (position o) 0) (eq_T _ _ e))
    where
      go : (b : Bool) → T b → T (cond b (not (inherited_at g r o)) (inherited_at g r o))
      go true i = u
      go false i = absurd i

  -- and an inherited one of a child
  pub child_defining : T (occurrence g r o) → 1 ≤ position o → T (inherited_at g r o) → T (defining g r o)
  unfolding defining defining_class
  child_defining t l u = and_intro _ _ t (go (eqb (position o) 0) refl)
    where
      go : (b : Bool) → eqb (position o) 0 ≡ b → T (cond b (not (inherited_at g r o)) (inherited_at g r o))
      go true e = absurd (let z : position o ≡ 0 = eqb→eq (position o) 0 (true_T (eqb (position o) 0) e) in omega arith)
      go false e = u
