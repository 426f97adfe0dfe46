-- A compute is ready exactly where no path leads to it from something that waits: an arc into what is available comes from what is available, so
-- a path from what waits would end in an action that is left and goes before. Assumes nothing.
use Prim.Native.Nat.{ℕ, ◌≤◌, ◌<◌}
use mathlib.Core.Path.{◌≡◌, sym, ◌∙◌, ap, subst, subst⁻¹}
use mathlib.Core.Logic.{⊎_elim}
use mathlib.Core.Bool.{Bool}
use mathlib.Core.List.{List}
use native.Mathlib.Omega.{arith}
use lib.Dec.{T, T_not}
use Rattle.bits.specs.Bit.{hasb}
use Rattle.basics.proofs.TestLaws.{same_or_not}
use Rattle.grammar.specs.Limits.{most_occurrences}
use Rattle.grammar.specs.Table.{symbol_of, inherited_at, defining, position}
use Rattle.relations.specs.Paper.{Path⁺}
use Rattle.relations.specs.Computed.{occurrences}
use Rattle.relations.proofs.PathLaws.{path_sound, path_arc}
use Rattle.sets.specs.Visits.{visits}
use Rattle.order.specs.Computed.{edp, edp_path}
use Rattle.sequences.specs.Actions.{Action, decode, inherited_of, makes}
use Rattle.sequences.specs.Follows.{follows, besides}
use Rattle.sequences.proofs.ActionNumbers.{decode_compute}
use Rattle.sequences.proofs.MakesLaws.{inherited_of_law, makes_compute, compute_made}
use Rattle.grammar.proofs.OccurrenceLaws.{defining_left}
use Rattle.sequences.proofs.FollowsLaws.{follows_cases, follows_linked, compute_after}
use Rattle.sequences.proofs.OrderlyRules.{Orderly, fits, left_nonterminal_law, arc_starts, arc_beside, beside_down}
use Rattle.sequences.proofs.AvailableFirst.{Maker, maker}
use Rattle.sequences.proofs.SequenceLaws.{compute_stands}
use Rattle.sequencing.specs.Going.{Going}
use Rattle.sequencing.proofs.Makers.{Attribute, one_maker, made_attribute, arc_goal, set_high, visit_even, first_unmade}

-- nothing that is left goes before a
abbrev pub Free : List ℕ → List ℕ → List ℕ → ℕ → (ℕ → Bool) → ℕ → Type 0
Free g ids s r left a = (b : ℕ) → T (left b) → T (follows g ids s r a b) → ⊥

-- nothing that waits has a path to o
abbrev pub Quiet : List ℕ → List ℕ → List ℕ → ℕ → ℕ → ℕ → Type 0
Quiet g ids s r w o = (x : ℕ) → T (hasb x w) → T (edp_path g ids s r x o) → ⊥

module _ (g ids s : List ℕ) (r : ℕ) (h : Orderly g ids s r) (five : (x : ℕ) → visits s x ≤ 5) (left : ℕ → Bool) (w : ℕ)
    (going : Going g ids s r left w) where
  -- what waits is an attribute of a nonterminal
  pub waits_attribute : (o : ℕ) → T (hasb o w) → Attribute g r o
  waits_attribute o t = let e = going.waits o t in made_attribute g ids s r h e.0 o (going.actions e.0 e.1) e.2

  -- the compute of an occurrence that waits is left
  pub waiting_left : (o : ℕ) → T (hasb o w) → T (defining g r o) → T (left o)
  waiting_left o t d =
      let e = going.waits o t in
      subst (λ (x : ℕ). T (left x))
      (one_maker g ids s r e.0 o o (going.actions e.0 e.1) (compute_stands g ids s r h o d) e.2
      (compute_made g s r o (fits g ids s r h o (waits_attribute o t).occurs) d)) e.1

  -- an arc into what is available comes from what is available
  back : (y z : ℕ) → T (edp g ids s r y z) → (T (hasb z w) → ⊥) → T (hasb y w) → ⊥
  back y z arc n t = ⊎_elim first made (maker g ids s r h five z goal.occurs goal.there)
    where
      goal : Attribute g r z
      goal = arc_goal g ids s r h y z arc

      e : (e : ℕ) × T (left e) × T (makes g s r (decode e) y)
      e = going.waits y t

      made : Maker g s r z → ⊥
      made m =
          n (going.makers m.0 z
          (⊎_elim (λ q. subst⁻¹ (λ (x : ℕ). T (left x)) q e.1)
          (λ q.
          going.done m.0 e.0 m.1 e.1
          (follows_linked g ids s r m.0 e.0 q
          (record {
            source = y;
            goal = z;
            source_fits = fits g ids s r h y (arc_starts g ids s r h y z arc);
            goal_fits = fits g ids s r h z goal.occurs;
            source_made = e.2;
            goal_made = m.2;
            arc = arc;
          })))
          (same_or_not m.0 e.0)) m.2)

      first : T (inherited_of g s r 0 1 z) → ⊥
      first i =
          let v = inherited_of_law g s r 0 1 z i in
          let u = arc_beside g ids s r h y z arc
          (λ q. T_not (inherited_at g r z) (defining_left g r z q v.0.stands) v.1) in
          let p : position y ≡ 0 = u.same ∙ v.0.stands in
          first_unmade g ids s r h e.0 y (going.actions e.0 e.1) e.2 p
          (omega (
            arith,
            beside_down g ids s r h y z u,
            visit_even g ids s r h 0 1 z (left_nonterminal_law g ids s r h) i,
            set_high g ids s r h y,
            ap (λ (j : ℕ). visits s (symbol_of g r j)) p,
          ))

  path_back : {x z : ℕ} → Path⁺ (λ a b. T (edp g ids s r a b)) x z → (T (hasb z w) → ⊥) → T (hasb x w) → ⊥
  path_back {x} {z} (Path⁺.one t) n = back x z t n
  path_back {x} {z} (Path⁺.more {b = y} p t) n = path_back p (back y z t n)

  -- a compute that nothing left goes before has nothing that waits before it
  last_arc : (o y : ℕ) → T (defining g r o) → Free g ids s r left o → T (edp g ids s r y o) → T (hasb y w) → ⊥
  last_arc o y d f arc t =
      let e : (e : ℕ) × T (left e) × T (makes g s r (decode e) y) = going.waits y t in
      let k : o < most_occurrences = fits g ids s r h o (arc_goal g ids s r h y o arc).occurs in
      f e.0 e.1
      (compute_after g ids s r o e.0 y d k (fits g ids s r h y (arc_starts g ids s r h y o arc))
      (λ q.
      let z : o ≡ y =
      (makes_compute g s r o y (subst (λ (x : Action). T (makes g s r x y)) (ap decode (sym q) ∙ decode_compute o k) e.2)).1 in
      h.acyclic o (Path⁺.one (subst⁻¹ (λ (x : ℕ). T (edp g ids s r x o)) z arc)))
      e.2 arc)

  pub free_quiet : (o : ℕ) → T (defining g r o) → Free g ids s r left o → Quiet g ids s r w o
  unfolding edp_path
  free_quiet o d f x t p = go (path_sound (λ a b. edp g ids s r a b) (occurrences g r) x o p)
    where
      go : Path⁺ (λ a b. T (edp g ids s r a b)) x o → ⊥
      go q = last q d f t
        where
          last : {x o : ℕ} → Path⁺ (λ a b. T (edp g ids s r a b)) x o → T (defining g r o) → Free g ids s r left o → T (hasb x w) → ⊥
          last {x} {o} (Path⁺.one a) d f t = last_arc o x d f a t
          last {x} {o} (Path⁺.more {b = y} q a) d f t = path_back q (last_arc o y d f a) t

  pub quiet_free : (o : ℕ) → T (defining g r o) → o < most_occurrences → Quiet g ids s r w o → Free g ids s r left o
  unfolding edp_path besides
  quiet_free o d k q b l f =
      ⊎_elim
      (λ u.
      let e : o ≡ u.goal =
      (makes_compute g s r o u.goal (subst (λ (x : Action). T (makes g s r x u.goal)) (decode_compute o k) u.goal_made)).1 in
      q u.source (going.makers b u.source l u.source_made)
      (path_arc (λ a b. edp g ids s r a b) (occurrences g r) u.source o
      (subst⁻¹ (λ (x : ℕ). T (edp g ids s r u.source x)) e u.arc)))
      (λ u. subst (λ (x : Action). T (besides g s r x (decode b))) (decode_compute o k) u)
      (follows_cases g ids s r o b f).1
