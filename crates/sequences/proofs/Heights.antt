-- The height of an action, and that every action stands higher than all that it follows, where EDP of the rule has no cycle.
-- A compute stands as high as its occurrence is deep; a visit or a leave as high as the least deep of the attributes that come with it
-- or after it. Assumes nothing.
use Prim.Native.Nat.{ℕ, suc, ◌+◌, ◌*◌, ◌-◌, ◌≤◌, ◌<◌}
use mathlib.Core.Path.{◌≡◌, sym, ◌∙◌, subst, subst⁻¹}
use mathlib.Core.Logic.{⊎_elim}
use mathlib.Core.Bool.{not}
use mathlib.Core.List.{List}
use native.Mathlib.Omega.{arith}
use lib.Dec.{T, eqb, eqb→eq, T_not}
use Rattle.basics.proofs.TestLaws.{and_left, and_right, or_cases, below_or_not}
use Rattle.grammar.specs.Table.{symbol_of, inherited_at, position}
use Rattle.sets.specs.Visits.{visits}
use Rattle.order.specs.Computed.{edp}
use Rattle.sequences.specs.Actions.{Action, compute, visit, leave, none, number_of, decode, is_action, visit_at, makes}
use Rattle.sequences.specs.Follows.{besides, before_visit, before_leave, follows}
use Rattle.sequences.proofs.ActionLaws.{ChildVisit, LeftLeave, ActionIs, computes, visits_child, leaves, action_is}
use Rattle.sequences.proofs.MakesLaws.{OfVisit, inherited_of_law, synthesized_of_law, makes_compute, makes_visit, makes_leave}
use Rattle.grammar.proofs.OccurrenceLaws.{defining_left, defining_child}
use Rattle.sequences.proofs.FollowsLaws.{follows_cases}
use Rattle.sequences.proofs.OrderlyRules.{
  Orderly,
  fits,
  set_synthesized,
  left_nonterminal_law,
  set_inherited,
  set_at,
  same_visit,
  arc_beside,
  beside_down,
  same_synthesized,
  same_inherited,
}
use Rattle.sequences.proofs.Depths.{depth, low, low_at, arc_deeper, low_above, low_falls, low_most, depth_most, low_last}

module _ (g ids s : List ℕ) (r : ℕ) where
  -- the height of an action
  unfoldable pub height : Action → ℕ
  height (compute o) = 32 * depth g ids s r o + 31
  height (visit i n) = 32 * low g ids s r i (2 * (visits s (symbol_of g r i) + 1 - n) - 1) + n
  height (leave n) = 32 * low g ids s r 0 (2 * (visits s (symbol_of g r 0) - n)) + 16 + n
  height none = 0

  module _ (h : Orderly g ids s r) where
    -- what makes an occurrence available is at most as high as its compute would be
    made_visit : (i n o : ℕ) → n ≤ 8 → T (makes g s r (visit i n) o) → height (visit i n) ≤ 32 * depth g ids s r o + 31
    unfolding height
    made_visit i n o l t =
        let m = makes_visit g s r i n o t in
        let w = synthesized_of_law g s r i n o m.1 in
        omega (
          arith,
          low_at g ids s r i (2 * (visits s (symbol_of g r i) + 1 - n) - 1) o (fits g ids s r h o w.0.occurs) w.0.occurs w.0.stands
              (omega (arith, set_synthesized g ids s r h i n o w.0 m.0 w.1)),
        )

    made_leave : (n o : ℕ) → n ≤ 8 → T (makes g s r (leave n) o) → height (leave n) ≤ 32 * depth g ids s r o + 31
    unfolding height
    made_leave n o l t =
        let w = inherited_of_law g s r 0 (suc n) o (makes_leave g s r n o t) in
        omega (
          arith,
          low_at g ids s r 0 (2 * (visits s (symbol_of g r 0) - n)) o (fits g ids s r h o w.0.occurs) w.0.occurs w.0.stands
              (omega (arith, set_inherited g ids s r h 0 (suc n) o w.0 (left_nonterminal_law g ids s r h) w.1)),
        )

    made_compute : (p o : ℕ) → T (makes g s r (compute p) o) → height (compute p) ≤ 32 * depth g ids s r o + 31
    unfolding height
    made_compute p o t =
        let e : p ≡ o = (makes_compute g s r p o t).1 in
        subst⁻¹ (λ (q : ℕ). 32 * depth g ids s r q + 31 ≤ 32 * depth g ids s r o + 31) e (omega arith)

    maker_height : (e o : ℕ) → ActionIs g s r e → T (makes g s r (decode e) o) → height (decode e) ≤ 32 * depth g ids s r o + 31
    maker_height e o (computes p l i d w) t =
        subst⁻¹ (λ (x : Action). height x ≤ 32 * depth g ids s r o + 31) d
        (made_compute p o (subst (λ (x : Action). T (makes g s r x o)) d t))
    maker_height e o (visits_child j n l m i d w) t =
        subst⁻¹ (λ (x : Action). height x ≤ 32 * depth g ids s r o + 31) d
        (made_visit j n o m (subst (λ (x : Action). T (makes g s r x o)) d t))
    maker_height e o (leaves n m i d w) t =
        subst⁻¹ (λ (x : Action). height x ≤ 32 * depth g ids s r o + 31) d
        (made_leave n o m (subst (λ (x : Action). T (makes g s r x o)) d t))

    -- two attributes of one set are made available by one action
    one_visit : (i n a b earlier : ℕ) → ChildVisit g s r i n → OfVisit g s r i n b → T (not (inherited_at g r a)) → position a ≡ position b
        → set_at g s r a ≡ set_at g s r b → ActionIs g s r earlier → T (makes g s r (decode earlier) a) → earlier ≡ number_of (visit i n)
    one_visit i n a b earlier c w u p e (computes q l j d z) t =
        let m = makes_compute g s r q a (subst (λ (x : Action). T (makes g s r x a)) d t) in
        absurd (T_not (inherited_at g r a) u (defining_child g r a m.0 (omega (arith, c.child, w.stands))))
    one_visit i n a b earlier c w u p e (visits_child k m l q j d z) t =
        let v = (synthesized_of_law g s r k m a (makes_visit g s r k m a (subst (λ (x : Action). T (makes g s r x a)) d t)).1).0 in
        let f : visit_at g s r a ≡ visit_at g s r b = same_visit g ids s r h a b p e in
        let x : k ≡ i = sym v.stands ∙ (p ∙ w.stands) in
        let y : m ≡ n = sym v.visit_is ∙ (f ∙ w.visit_is) in
        omega arith
    one_visit i n a b earlier c w u p e (leaves m q j d z) t =
        absurd (T_not (inherited_at g r a) u
        (inherited_of_law g s r 0 (suc m) a (makes_leave g s r m a (subst (λ (x : Action). T (makes g s r x a)) d t))).1)

    one_leave : (n a b earlier : ℕ) → OfVisit g s r 0 (suc n) b → T (inherited_at g r a) → position a ≡ position b
        → set_at g s r a ≡ set_at g s r b → ActionIs g s r earlier → T (makes g s r (decode earlier) a) → earlier ≡ number_of (leave n)
    one_leave n a b earlier w u p e (computes q l j d z) t =
        let m = makes_compute g s r q a (subst (λ (x : Action). T (makes g s r x a)) d t) in
        absurd (T_not (inherited_at g r a) (defining_left g r a m.0 (p ∙ w.stands)) u)
    one_leave n a b earlier w u p e (visits_child k m l q j d z) t =
        absurd (T_not (inherited_at g r a)
        (synthesized_of_law g s r k m a (makes_visit g s r k m a (subst (λ (x : Action). T (makes g s r x a)) d t)).1).1 u)
    one_leave n a b earlier w u p e (leaves m q j d z) t =
        let v = (inherited_of_law g s r 0 (suc m) a (makes_leave g s r m a (subst (λ (x : Action). T (makes g s r x a)) d t))).0 in
        let f : visit_at g s r a ≡ visit_at g s r b = same_visit g ids s r h a b p e in
        let y : suc m ≡ suc n = sym v.visit_is ∙ (f ∙ w.visit_is) in
        omega arith

    -- an EDP arc from a to b puts what makes b above what would compute a, unless one action makes both
    goal_compute : (a b o : ℕ) → T (edp g ids s r a b) → T (makes g s r (compute o) b) → 32 * depth g ids s r a + 32 ≤ height (compute o)
    unfolding height
    goal_compute a b o arc t =
        let e : o ≡ b = (makes_compute g s r o b t).1 in
        subst⁻¹ (λ (q : ℕ). 32 * depth g ids s r a + 32 ≤ 32 * depth g ids s r q + 31) e (omega (arith, arc_deeper g ids s r h a b arc))

    goal_visit : (a b i n earlier : ℕ) → T (edp g ids s r a b) → ChildVisit g s r i n → T (makes g s r (visit i n) b)
        → ActionIs g s r earlier → T (makes g s r (decode earlier) a) → (earlier ≡ number_of (visit i n) → ⊥)
        → 32 * depth g ids s r a + 32 ≤ height (visit i n)
    unfolding height
    goal_visit a b i n earlier arc c t e m differs =
        let v = synthesized_of_law g s r i n b (makes_visit g s r i n b t).1 in
        let u = arc_beside g ids s r h a b arc
        (λ q. T_not (inherited_at g r b) v.1 (defining_child g r b q (omega (arith, c.child, v.0.stands)))) in
        let set : set_at g s r b ≡ 2 * (visits s (symbol_of g r i) + 1 - n) - 1 = set_synthesized g ids s r h i n b v.0 c.nonterminal_there v.1 in
        ⊎_elim
        (λ l.
        omega (
          arith,
          low_above g ids s r h i (2 * (visits s (symbol_of g r i) + 1 - n) - 1) a u.source (u.same ∙ v.0.stands) c.nonterminal_there (omega arith),
        ))
        (λ l.
        let q : set_at g s r a ≡ set_at g s r b = omega (arith, beside_down g ids s r h a b u) in
        absurd (differs (one_visit i n a b earlier c v.0 (same_synthesized g ids s r h a b u q v.1) u.same q e m)))
        (below_or_not (set_at g s r b) (set_at g s r a))

    goal_leave : (a b n earlier : ℕ) → T (edp g ids s r a b) → T (makes g s r (leave n) b) → ActionIs g s r earlier
        → T (makes g s r (decode earlier) a) → (earlier ≡ number_of (leave n) → ⊥)
        → 32 * depth g ids s r a + 32 ≤ height (leave n)
    unfolding height
    goal_leave a b n earlier arc t e m differs =
        let v = inherited_of_law g s r 0 (suc n) b (makes_leave g s r n b t) in
        let u = arc_beside g ids s r h a b arc (λ q. T_not (inherited_at g r b) (defining_left g r b q v.0.stands) v.1) in
        let set : set_at g s r b ≡ 2 * (visits s (symbol_of g r 0) + 1 - suc n) = set_inherited g ids s r h 0 (suc n) b v.0
        (left_nonterminal_law g ids s r h) v.1 in
        ⊎_elim
        (λ l.
        omega (
          arith,
          low_above g ids s r h 0 (2 * (visits s (symbol_of g r 0) - n)) a u.source (u.same ∙ v.0.stands) (left_nonterminal_law g ids s r h) (omega arith),
        ))
        (λ l.
        let q : set_at g s r a ≡ set_at g s r b = omega (arith, beside_down g ids s r h a b u) in
        absurd (differs (one_leave n a b earlier v.0 (same_inherited g ids s r h a b u q v.1) u.same q e m)))
        (below_or_not (set_at g s r b) (set_at g s r a))

    goal_height : (later earlier a b : ℕ) → ActionIs g s r later → ActionIs g s r earlier → (later ≡ earlier → ⊥) → T (edp g ids s r a b)
        → T (makes g s r (decode earlier) a) → T (makes g s r (decode later) b) → 32 * depth g ids s r a + 32 ≤ height (decode later)
    goal_height later earlier a b (computes o l i d w) e differs arc u t =
        subst⁻¹ (λ (x : Action). 32 * depth g ids s r a + 32 ≤ height x) d
        (goal_compute a b o arc (subst (λ (x : Action). T (makes g s r x b)) d t))
    goal_height later earlier a b (visits_child i n l m j d w) e differs arc u t =
        subst⁻¹ (λ (x : Action). 32 * depth g ids s r a + 32 ≤ height x) d
        (goal_visit a b i n earlier arc w (subst (λ (x : Action). T (makes g s r x b)) d t) e u (λ q. differs (j ∙ sym q)))
    goal_height later earlier a b (leaves n m j d w) e differs arc u t =
        subst⁻¹ (λ (x : Action). 32 * depth g ids s r a + 32 ≤ height x) d
        (goal_leave a b n earlier arc (subst (λ (x : Action). T (makes g s r x b)) d t) e u (λ q. differs (j ∙ sym q)))

    -- what an action follows besides stands lower
    visit_higher : (i n earlier : ℕ) → ChildVisit g s r i n → ActionIs g s r earlier → T (before_visit g s r i n (decode earlier))
        → height (decode earlier) < height (visit i n)
    unfolding height before_visit
    visit_higher i n earlier c (computes o l j d w) t =
        let v = inherited_of_law g s r i n o (subst (λ (x : Action). T (before_visit g s r i n x)) d t) in
        subst⁻¹ (λ (x : Action). height x < height (visit i n)) d
        (omega (
          arith,
          low_above g ids s r h i (2 * (visits s (symbol_of g r i) + 1 - n) - 1) o v.0.occurs v.0.stands c.nonterminal_there
              (omega (arith, set_inherited g ids s r h i n o v.0 c.nonterminal_there v.1, c.first, c.last)),
        ))
    visit_higher i n earlier c (visits_child k m l q j d w) t =
        let v = subst (λ (x : Action). T (before_visit g s r i n x)) d t in
        let e : k ≡ i = eqb→eq k i (and_left (eqb k i) (eqb (suc m) n) v) in
        let f : suc m ≡ n = eqb→eq (suc m) n (and_right (eqb k i) (eqb (suc m) n) v) in
        subst⁻¹ (λ (x : Action). height x < height (visit i n)) d
        (subst⁻¹ (λ (p : ℕ). height (visit p m) < height (visit i n)) e
        (omega (
          arith,
          low_falls g ids s r i (2 * (visits s (symbol_of g r i) + 1 - n) - 1) (2 * (visits s (symbol_of g r i) + 1 - m) - 1) (omega arith),
        )))
    visit_higher i n earlier c (leaves m q j d w) t = absurd (subst (λ (x : Action). T (before_visit g s r i n x)) d t)

    leave_higher : (n earlier : ℕ) → LeftLeave g s r n → ActionIs g s r earlier → T (before_leave g s r n (decode earlier))
        → height (decode earlier) < height (leave n)
    unfolding height before_leave
    leave_higher n earlier c (computes o l j d w) t =
        let v = synthesized_of_law g s r 0 n o (subst (λ (x : Action). T (before_leave g s r n x)) d t) in
        subst⁻¹ (λ (x : Action). height x < height (leave n)) d
        (omega (
          arith,
          low_above g ids s r h 0 (2 * (visits s (symbol_of g r 0) - n)) o v.0.occurs v.0.stands (left_nonterminal_law g ids s r h)
              (omega (arith, set_synthesized g ids s r h 0 n o v.0 (left_nonterminal_law g ids s r h) v.1, c.first, c.last)),
        ))
    leave_higher n earlier c (visits_child k m l q j d w) t = absurd (subst (λ (x : Action). T (before_leave g s r n x)) d t)
    leave_higher n earlier c (leaves m q j d w) t =
        let f : suc m ≡ n = eqb→eq (suc m) n (subst (λ (x : Action). T (before_leave g s r n x)) d t) in
        subst⁻¹ (λ (x : Action). height x < height (leave n)) d
        (omega (arith, low_falls g ids s r 0 (2 * (visits s (symbol_of g r 0) - n)) (2 * (visits s (symbol_of g r 0) - m)) (omega arith)))

    -- the last leave stands highest of all
    last_highest : (n earlier : ℕ) → LeftLeave g s r n → n ≡ visits s (symbol_of g r 0) → ActionIs g s r earlier → (earlier ≡ number_of (leave n) → ⊥)
        → height (decode earlier) < height (leave n)
    unfolding height
    last_highest n earlier c e (computes o l j d w) differs =
        subst⁻¹ (λ (x : Action). height x < height (leave n)) d
        (omega (arith, depth_most g ids s r o, low_last g ids s r h n e))
    last_highest n earlier c e (visits_child k m l q j d w) differs =
        subst⁻¹ (λ (x : Action). height x < height (leave n)) d
        (omega (arith, low_most g ids s r k (2 * (visits s (symbol_of g r k) + 1 - m) - 1), low_last g ids s r h n e))
    last_highest n earlier c e (leaves m q j d w) differs =
        let f : m < n = ⊎_elim (λ l. l) (λ l. absurd (differs (omega (arith, w.last)))) (below_or_not m n) in
        subst⁻¹ (λ (x : Action). height x < height (leave n)) d
        (omega (arith, low_most g ids s r 0 (2 * (visits s (symbol_of g r 0) - m)), low_last g ids s r h n e))

    besides_higher : (later earlier : ℕ) → ActionIs g s r later → ActionIs g s r earlier → (later ≡ earlier → ⊥)
        → T (besides g s r (decode later) (decode earlier)) → height (decode earlier) < height (decode later)
    unfolding besides
    besides_higher later earlier (computes o l i d w) e differs t = absurd (subst (λ (x : Action). T (besides g s r x (decode earlier))) d t)
    besides_higher later earlier (visits_child i n l m j d w) e differs t =
        subst⁻¹ (λ (x : Action). height (decode earlier) < height x) d
        (visit_higher i n earlier w e (subst (λ (x : Action). T (besides g s r x (decode earlier))) d t))
    besides_higher later earlier (leaves n m j d w) e differs t =
        subst⁻¹ (λ (x : Action). height (decode earlier) < height x) d
        (⊎_elim (λ u. last_highest n earlier w (eqb→eq n (visits s (symbol_of g r 0)) u) e (λ q. differs (j ∙ sym q)))
        (λ u. leave_higher n earlier w e u)
        (or_cases (eqb n (visits s (symbol_of g r 0))) (before_leave g s r n (decode earlier))
        (subst (λ (x : Action). T (besides g s r x (decode earlier))) d t)))

    -- every action stands higher than all that it follows
    pub follows_higher : (later earlier : ℕ) → T (is_action g s r later) → T (is_action g s r earlier) → T (follows g ids s r later earlier)
        → height (decode earlier) < height (decode later)
    follows_higher later earlier u v t =
        let e = follows_cases g ids s r later earlier t in
        let x = action_is g s r later u in
        let y = action_is g s r earlier v in
        ⊎_elim
        (λ l.
        omega (
          arith,
          maker_height earlier l.source y l.source_made,
          goal_height later earlier l.source l.goal x y e.0 l.arc l.source_made l.goal_made,
        ))
        (λ b. besides_higher later earlier x y e.0 b) e.1
