-- Which action follows which, as facts: each sentence of document 01 gives a pair that follows, and nothing else does.
-- Assumes nothing.
use Prim.Native.Nat.{ℕ, suc, ◌<◌}
use mathlib.Core.Path.{◌≡◌, refl, sym, ◌∙◌, ap, subst⁻¹}
use mathlib.Core.Logic.{◌⊎◌, inl, inr, ⊎_elim}
use mathlib.Core.List.{List}
use native.Mathlib.Omega.{arith}
use lib.Dec.{T, eqb, eqb→eq, eqb_refl, T_not, not_T}
use Rattle.basics.specs.Tests.{◌and◌, some}
use Rattle.basics.proofs.TestLaws.{and_intro, and_left, and_right, or_left, or_right, or_cases, some_at, some_find, eq_T}
use Rattle.grammar.specs.Limits.{most_occurrences}
use Rattle.grammar.specs.Table.{symbol_of, defining}
use Rattle.sets.specs.Visits.{visits}
use Rattle.order.specs.Computed.{edp}
use Rattle.sequences.specs.Actions.{Action, compute, visit, leave, decode, makes, inherited_of, synthesized_of}
use Rattle.sequences.specs.Follows.{linked, before_visit, before_leave, besides, follows}
use Rattle.sequences.proofs.ActionNumbers.{decode_compute}
use Rattle.sequences.proofs.MakesLaws.{compute_makes}

-- an EDP arc links what two actions make available
pub record LinkedByArc (g ids s : List ℕ) (r : ℕ) (later earlier : Action) : Type 0 where
  pub source : ℕ
  pub goal : ℕ
  pub source_fits : source < most_occurrences
  pub goal_fits : goal < most_occurrences
  pub source_made : T (makes g s r earlier source)
  pub goal_made : T (makes g s r later goal)
  pub arc : T (edp g ids s r source goal)

module _ (g ids s : List ℕ) (r : ℕ) where
  -- the test of a link finds the arc
  pub linked_find : (later earlier : Action) → T (linked g ids s r later earlier) → LinkedByArc g ids s r later earlier
  unfolding linked
  linked_find later earlier t =
      let v = some_find most_occurrences
      (λ b. makes g s r later b and some most_occurrences (λ a. makes g s r earlier a and edp g ids s r a b)) t in
      let w = some_find most_occurrences (λ a. makes g s r earlier a and edp g ids s r a v.0) (and_right _ _ v.2) in
      record {
        source = w.0;
        goal = v.0;
        source_fits = w.1;
        goal_fits = v.1;
        source_made = and_left _ _ w.2;
        goal_made = and_left _ _ v.2;
        arc = and_right _ _ w.2;
      }

  -- and passes where there is one
  pub linked_at : (later earlier : Action) → LinkedByArc g ids s r later earlier → T (linked g ids s r later earlier)
  unfolding linked
  linked_at later earlier w =
      some_at most_occurrences
      (λ b. makes g s r later b and some most_occurrences (λ a. makes g s r earlier a and edp g ids s r a b)) w.goal w.goal_fits
      (and_intro _ _ w.goal_made
      (some_at most_occurrences (λ a. makes g s r earlier a and edp g ids s r a w.goal) w.source w.source_fits
      (and_intro _ _ w.source_made w.arc)))

  -- an action follows a different one for one of two reasons
  pub follows_cases : (later earlier : ℕ) → T (follows g ids s r later earlier)
      → (later ≡ earlier → ⊥) × (LinkedByArc g ids s r (decode later) (decode earlier) ⊎ T (besides g s r (decode later) (decode earlier)))
  unfolding follows
  follows_cases later earlier t = (
    λ e. T_not (eqb later earlier) (and_left _ _ t) (eq_T later earlier e),
    ⊎_elim (λ l. inl (linked_find (decode later) (decode earlier) l)) (λ b. inr b) (or_cases _ _ (and_right _ _ t)),
  )

  -- "An action follows a different one where an EDP arc links what they make available."
  pub follows_linked : (later earlier : ℕ) → (later ≡ earlier → ⊥) → LinkedByArc g ids s r (decode later) (decode earlier)
      → T (follows g ids s r later earlier)
  unfolding follows
  follows_linked later earlier n w =
      and_intro _ _ (not_T (eqb later earlier) (λ t. n (eqb→eq later earlier t)))
      (or_left _ _ (linked_at (decode later) (decode earlier) w))

  follows_besides : (later earlier : ℕ) (x y : Action) → decode later ≡ x → decode earlier ≡ y → (later ≡ earlier → ⊥)
      → T (besides g s r x y) → T (follows g ids s r later earlier)
  unfolding follows
  follows_besides later earlier x y d e n t =
      and_intro _ _ (not_T (eqb later earlier) (λ t. n (eqb→eq later earlier t)))
      (or_right (linked g ids s r (decode later) (decode earlier)) (besides g s r (decode later) (decode earlier))
      (subst⁻¹ (λ (z : Action). T (besides g s r z (decode earlier))) d (subst⁻¹ (λ (z : Action). T (besides g s r x z)) e t)))

  -- "visit r follows visit r - 1"
  pub visit_after_visit : (later earlier i n : ℕ) → decode later ≡ visit i (suc n) → decode earlier ≡ visit i n
      → T (follows g ids s r later earlier)
  unfolding besides before_visit
  visit_after_visit later earlier i n d e =
      follows_besides later earlier (visit i (suc n)) (visit i n) d e
      (λ q. let z : visit i (suc n) ≡ visit i n = sym d ∙ (ap decode q ∙ e) in let y : suc n ≡ n = cc in omega arith)
      (and_intro (eqb i i) (eqb (suc n) (suc n)) (eqb_refl i) (eqb_refl (suc n)))

  -- "and the computes of the child's inherited attributes of that visit"
  pub visit_after_compute : (later i n o : ℕ) → decode later ≡ visit i n → o < most_occurrences → T (inherited_of g s r i n o)
      → T (follows g ids s r later o)
  unfolding besides before_visit
  visit_after_compute later i n o d h t =
      follows_besides later o (visit i n) (compute o) d (decode_compute o h)
      (λ q.
      let z : visit i n ≡ compute o = sym d ∙ (ap decode q ∙ decode_compute o h) in
      let y : ◌≡◌ {A = ℕ} 0 1 = cc in
      omega arith) t

  -- "the last leave follows everything"
  pub last_leave_after : (later earlier : ℕ) → decode later ≡ leave (visits s (symbol_of g r 0)) → (later ≡ earlier → ⊥)
      → T (follows g ids s r later earlier)
  unfolding besides
  last_leave_after later earlier d n =
      follows_besides later earlier (leave (visits s (symbol_of g r 0))) (decode earlier) d refl n
      (or_left (eqb (visits s (symbol_of g r 0)) (visits s (symbol_of g r 0)))
      (before_leave g s r (visits s (symbol_of g r 0)) (decode earlier)) (eqb_refl (visits s (symbol_of g r 0))))

  -- "leave n follows leave n - 1"
  pub leave_after_leave : (later earlier n : ℕ) → decode later ≡ leave (suc n) → decode earlier ≡ leave n
      → T (follows g ids s r later earlier)
  unfolding besides before_leave
  leave_after_leave later earlier n d e =
      follows_besides later earlier (leave (suc n)) (leave n) d e
      (λ q. let z : leave (suc n) ≡ leave n = sym d ∙ (ap decode q ∙ e) in let y : suc n ≡ n = cc in omega arith)
      (or_right (eqb (suc n) (visits s (symbol_of g r 0))) (eqb (suc n) (suc n)) (eqb_refl (suc n)))

  -- "and the computes of the synthesized attributes of visit n"
  pub leave_after_compute : (later n o : ℕ) → decode later ≡ leave n → o < most_occurrences → T (synthesized_of g s r 0 n o)
      → T (follows g ids s r later o)
  unfolding besides before_leave
  leave_after_compute later n o d h t =
      follows_besides later o (leave n) (compute o) d (decode_compute o h)
      (λ q.
      let z : leave n ≡ compute o = sym d ∙ (ap decode q ∙ decode_compute o h) in
      let y : ◌≡◌ {A = ℕ} 0 1 = cc in
      omega arith)
      (or_right (eqb n (visits s (symbol_of g r 0))) (synthesized_of g s r 0 n o) t)

  -- a compute follows the action that makes available what an EDP arc leads from
  pub compute_after : (o earlier a : ℕ) → T (defining g r o) → o < most_occurrences → a < most_occurrences → (o ≡ earlier → ⊥)
      → T (makes g s r (decode earlier) a) → T (edp g ids s r a o) → T (follows g ids s r o earlier)
  compute_after o earlier a t h l n m e =
      follows_linked o earlier n
      (record {
        source = a;
        goal = o;
        source_fits = l;
        goal_fits = h;
        source_made = m;
        goal_made = subst⁻¹ (λ (x : Action). T (makes g s r x o)) (decode_compute o h) (compute_makes g s r o t);
        arc = e;
      })
