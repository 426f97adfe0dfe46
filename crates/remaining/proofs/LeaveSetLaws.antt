-- The leaves that are ready, as the code finds them: only the lowest that is left can be, so one test makes the whole set. Assumes nothing.
use Prim.Native.Nat.{ℕ, ◌^◌, ◌≤◌, ◌<◌}
use mathlib.Core.Path.{◌≡◌, sym, ◌∙◌, ap, subst, subst⁻¹}
use mathlib.Core.Logic.{⊎_elim}
use mathlib.Core.Bool.{Bool, true, false, cond}
use mathlib.Core.List.{List}
use native.Mathlib.Omega.{arith}
use mir.Syntax.{w64}
use mir.Val.{Fits}
use lib.Dec.{T, eqb, eqb→eq, leb, leb→le, le→leb, T_not, not_T}
use Rattle.basics.proofs.TestLaws.{
  and_intro,
  and_left,
  and_right,
  tested,
  same_test,
  below_or_not,
  eq_T,
  chosen,
  passed_over,
  or_left,
  or_right,
  or_cases,
  and_passed,
}
use Rattle.bits.specs.Bit.{hasb, collect, insert, remove, union, common, lowest, First}
use Rattle.bits.proofs.SetLaws.{insert_lt, union_lt}
use Rattle.bits.proofs.CollectLaws.{collect_lt}
use Rattle.bits.proofs.MemberLaws.{
  hasb_collect,
  hasb_below,
  hasb_ext,
  none_left,
  no_member,
  insert_cases,
  insert_new,
  union_cases,
  union_left,
  union_right,
}
use Rattle.bits.proofs.RestLaws.{rest_of}
use Rattle.access.specs.ByPlace.{symbol_from}
use Rattle.remaining.specs.declared.ByVisit.{ByVisit as Kept}
use Rattle.remaining.specs.RuleSets.{synthesized_mask, FewLeaves, leave_free, others, leave_ready, ready_leaves}
use Rattle.remaining.proofs.MemberWalks.{first_member, under_first}

module _ (g : List ℕ) (by : Kept) (p computes calls leaves waiting : ℕ) where
  -- a leave that is left and ready
  pub leave_ready_at : (b : ℕ) → T (hasb b (ready_leaves g by p computes calls leaves waiting))
      → (b < 64) × T (hasb b leaves) × T (leave_ready g by p computes calls leaves waiting b)
  unfolding ready_leaves
  leave_ready_at b t =
      let h : b < 64 = hasb_below 64 b (ready_leaves g by p computes calls leaves waiting) (collect_lt 64 _) t in
      let u = subst (λ (x : Bool). T x) (hasb_collect 64 b _ h) t in
      (h, and_left _ _ u, and_right _ _ u)

  pub leave_at_ready : (b : ℕ) → b < 64 → T (hasb b leaves) → T (leave_ready g by p computes calls leaves waiting b)
      → T (hasb b (ready_leaves g by p computes calls leaves waiting))
  unfolding ready_leaves
  leave_at_ready b h t u = subst⁻¹ (λ (x : Bool). T x) (hasb_collect 64 b _ h) (and_intro _ _ t u)

  -- the set of the one, where the test holds
  only : (b : ℕ) (t : Bool) → First leaves b → t ≡ leave_ready g by p computes calls leaves waiting b
      → cond t (insert b 0) 0 ≡ ready_leaves g by p computes calls leaves waiting
  only b t f e =
      hasb_ext 64 _ _ small wide
      (λ k h. same_test (hasb k (cond t (insert b 0) 0)) (hasb k (ready_leaves g by p computes calls leaves waiting)) (there k) (back k))
    where
      wide : ready_leaves g by p computes calls leaves waiting < 2 ^ 64
      wide = unfold ready_leaves in collect_lt 64 _

      small : cond t (insert b 0) 0 < 2 ^ 64
      small = go t
        where
          go : (t : Bool) → cond t (insert b 0) 0 < 2 ^ 64
          go true = insert_lt 64 b 0 f.small (omega arith)
          go false = omega arith

      there : (k : ℕ) → T (hasb k (cond t (insert b 0) 0)) → T (hasb k (ready_leaves g by p computes calls leaves waiting))
      there k u =
          ⊎_elim
          (λ i.
          ⊎_elim
          (λ z.
          subst⁻¹ (λ (y : ℕ). T (hasb y (ready_leaves g by p computes calls leaves waiting))) z
          (leave_at_ready b f.small (first_member leaves b f) (subst (λ (x : Bool). T x) e i)))
          (λ z. absurd (T_not (hasb k 0) (none_left k) z))
          (insert_cases k b 0 (subst (λ (x : ℕ). T (hasb k x)) (chosen t (insert b 0) 0 i) u)))
          (λ i. absurd (T_not (hasb k 0) (none_left k) (subst (λ (x : ℕ). T (hasb k x)) (passed_over t (insert b 0) 0 i) u))) (tested t)

      back : (k : ℕ) → T (hasb k (ready_leaves g by p computes calls leaves waiting)) → T (hasb k (cond t (insert b 0) 0))
      back k u = unfold leave_ready in
          let v = leave_ready_at k u in
          let l : k ≤ lowest 64 leaves = leb→le k (lowest 64 leaves) (and_left _ _ v.2) in
          let z : k ≡ b =
          ⊎_elim (λ m. absurd (under_first leaves b k f m v.1)) (λ m. omega (arith, f.is)) (below_or_not k b) in
          let i : T t = subst⁻¹ (λ (x : Bool). T x) e (subst (λ (y : ℕ). T (leave_ready g by p computes calls leaves waiting y)) z v.2) in
          subst⁻¹ (λ (y : ℕ). T (hasb y (cond t (insert b 0) 0))) z
          (subst⁻¹ (λ (x : ℕ). T (hasb b x)) (chosen t (insert b 0) 0 i) (insert_new b 0))

  pub no_leaves : leaves ≡ 0 → 0 ≡ ready_leaves g by p computes calls leaves waiting
  no_leaves e =
      sym (no_member (ready_leaves g by p computes calls leaves waiting)
      (λ k t. T_not (hasb k 0) (none_left k) (subst (λ (x : ℕ). T (hasb k x)) e (leave_ready_at k t).1)))

  -- the union as the code makes it, of two sets of numbers below 64
  others_by : (r : ℕ) → Fits w64 computes → Fits w64 calls → r ≡ union computes calls → r ≡ others computes calls
  unfolding others
  others_by r hc hv e =
      e
      ∙ hasb_ext 64 (union computes calls) (collect 64 _) (union_lt 64 computes calls hc.fits hv.fits) (collect_lt 64 _)
      (λ k h.
      same_test (hasb k (union computes calls)) _
      (λ t. subst⁻¹ (λ (x : Bool). T x) (hasb_collect 64 k _ h) (⊎_elim (λ u. or_left _ _ u) (λ u. or_right _ _ u) (union_cases k computes calls t)))
      (λ t.
      ⊎_elim (λ u. union_left k computes calls u) (λ u. union_right k computes calls u)
      (or_cases _ _ (subst (λ (x : Bool). T x) (hasb_collect 64 k _ h) t))))

  free_by : (b : ℕ) (t : Bool) → First leaves b
      → t ≡ leave_free (common (synthesized_mask by (symbol_from g p 0) b) waiting) (remove b leaves) (others computes calls)
      → t ≡ leave_ready g by p computes calls leaves waiting b
  unfolding leave_ready
  free_by b t f e = e ∙ sym (and_passed (leb b (lowest 64 leaves)) _ (le→leb b (lowest 64 leaves) (omega (arith, f.is))))

  pub last_leaves : (b later rest r : ℕ) → Fits w64 computes → Fits w64 calls → First leaves b → later ≡ remove (lowest 64 leaves) leaves
      → later ≡ 0 → rest ≡ union computes calls → r ≡ cond (eqb rest 0) (insert b 0) 0 → r ≡ ready_leaves g by p computes calls leaves waiting
  unfolding leave_free
  last_leaves b later rest r hc hv f n z o k =
      k ∙ only b (eqb rest 0) f
      (free_by b (eqb rest 0) f
      (ap (λ (y : ℕ). eqb y 0) (others_by rest hc hv o)
      ∙ sym (chosen (eqb (remove b leaves) 0) _ _ (eq_T (remove b leaves) 0 (sym (rest_of leaves b later f n) ∙ z)))))

  pub next_leaves : (b later x up both r : ℕ) → First leaves b → later ≡ remove (lowest 64 leaves) leaves → (later ≡ 0 → ⊥)
      → x ≡ symbol_from g p 0 → up ≡ synthesized_mask by x b → both ≡ common up waiting → r ≡ cond (eqb both 0) (insert b 0) 0
      → r ≡ ready_leaves g by p computes calls leaves waiting
  unfolding leave_free
  next_leaves b later x up both r f n z e u q k =
      k ∙ only b (eqb both 0) f
      (free_by b (eqb both 0) f
      (ap (λ (y : ℕ). eqb y 0) (q ∙ ap (λ (y : ℕ). common y waiting) (u ∙ ap (λ (y : ℕ). synthesized_mask by y b) e))
      ∙ sym (passed_over (eqb (remove b leaves) 0) _ _
      (not_T (eqb (remove b leaves) 0) (λ t. z (rest_of leaves b later f n ∙ eqb→eq (remove b leaves) 0 t))))))

  -- the next leave is one of few
  pub leave_few : (b : ℕ) → FewLeaves leaves → First leaves b → b < 8
  leave_few b h f = omega (arith, h b (first_member leaves b f))
