-- The actions of a rule: which computes, visits and leaves belong to it, and that the list of their numbers has each of them once and rises. They
-- are at most 104, since a symbol has at most five visits. Assumes nothing.
use Prim.Native.Nat.{ℕ, ◌%◌, ◌≤◌, ◌<◌}
use mathlib.Core.Path.{◌≡◌, refl, subst, subst⁻¹}
use mathlib.Core.Bool.{Bool}
use mathlib.Core.List.{List}
use native.Mathlib.Omega.{arith}
use lib.Dec.{T, ltb, leb, lt→ltb, leb→le, le→leb}
use lib.ListN.{length}
use Rattle.basics.specs.Tests.{◌and◌, ◌or◌, count}
use Rattle.basics.specs.Lists.{member}
use Rattle.basics.proofs.TestLaws.{and_intro, and_left, and_right, or_left, or_right, count_mono}
use Rattle.basics.proofs.ListLaws.{member_passing, passing_member}
use Rattle.grammar.specs.Table.{right_length, symbol_of, nonterminal, defining}
use Rattle.sets.specs.Visits.{visits}
use Rattle.sequences.specs.Actions.{
  Action,
  compute,
  visit,
  leave,
  none,
  number_of,
  decode,
  action_numbers,
  most_actions,
  belongs,
  is_action,
  actions_of,
}
use Rattle.sequences.proofs.Rising.{Rising, rising_passing, length_passing}
use Rattle.sequences.proofs.ActionNumbers.{Decoded, is_compute, is_visit, is_leave, is_none, decoded}

-- a visit that belongs to rule r
pub record ChildVisit (g s : List ℕ) (r i n : ℕ) : Type 0 where
  pub child : 1 ≤ i
  pub inside : i ≤ right_length g r
  pub nonterminal_there : T (nonterminal g (symbol_of g r i))
  pub first : 1 ≤ n
  pub last : n ≤ visits s (symbol_of g r i)

-- a leave that belongs to rule r
pub record LeftLeave (g s : List ℕ) (r n : ℕ) : Type 0 where
  pub first : 1 ≤ n
  pub last : n ≤ visits s (symbol_of g r 0)

module _ (g s : List ℕ) (r : ℕ) where
  -- a compute belongs to the rule exactly where its occurrence is defining
  pub compute_belongs : (o : ℕ) → T (defining g r o) → T (belongs g s r (compute o))
  unfolding belongs
  compute_belongs o t = t

  -- and back
  pub belongs_compute : (o : ℕ) → T (belongs g s r (compute o)) → T (defining g r o)
  unfolding belongs
  belongs_compute o t = t

  -- a visit exactly where it is one of the visits of a nonterminal child
  pub visit_belongs : (i n : ℕ) → ChildVisit g s r i n → T (belongs g s r (visit i n))
  unfolding belongs
  visit_belongs i n w =
      and_intro _ _ (le→leb _ _ w.child) (and_intro _ _ (le→leb _ _ w.inside)
      (and_intro _ _ w.nonterminal_there (and_intro _ _ (le→leb _ _ w.first) (le→leb _ _ w.last))))

  -- and back
  pub belongs_visit : (i n : ℕ) → T (belongs g s r (visit i n)) → ChildVisit g s r i n
  unfolding belongs
  belongs_visit i n t =
      let u = and_right _ _ t in
      let v = and_right _ _ u in
      let w = and_right _ _ v in
      record {
        child = leb→le _ _ (and_left _ _ t);
        inside = leb→le _ _ (and_left _ _ u);
        nonterminal_there = and_left _ _ v;
        first = leb→le _ _ (and_left _ _ w);
        last = leb→le _ _ (and_right _ _ w);
      }

  -- a leave exactly where it is one of the left side's
  pub leave_belongs : (n : ℕ) → LeftLeave g s r n → T (belongs g s r (leave n))
  unfolding belongs
  leave_belongs n w = and_intro _ _ (le→leb _ _ w.first) (le→leb _ _ w.last)

  -- and back
  pub belongs_leave : (n : ℕ) → T (belongs g s r (leave n)) → LeftLeave g s r n
  unfolding belongs
  belongs_leave n t = record { first = leb→le _ _ (and_left _ _ t); last = leb→le _ _ (and_right _ _ t) }

  -- none belongs to no rule
  pub belongs_none : T (belongs g s r none) → ⊥
  unfolding belongs
  belongs_none t = t

  -- the actions of rule r, one case each
  pub data ActionIs (a : ℕ) : Type 0 where
    computes : (o : ℕ) → o < 64 → a ≡ number_of (compute o) → decode a ≡ compute o → T (defining g r o) → ActionIs a
    visits_child : (i n : ℕ) → i < 8 → n ≤ 8 → a ≡ number_of (visit i n) → decode a ≡ visit i n → ChildVisit g s r i n → ActionIs a
    leaves : (n : ℕ) → n ≤ 8 → a ≡ number_of (leave n) → decode a ≡ leave n → LeftLeave g s r n → ActionIs a

  -- every action of the rule is one of them
  pub action_is : (a : ℕ) → T (is_action g s r a) → ActionIs a
  unfolding is_action
  action_is a t = go (decoded a)
    where
      go : Decoded a → ActionIs a
      go (is_compute o l e d) = computes o l e d (belongs_compute o (subst (λ (x : Action). T (belongs g s r x)) d t))
      go (is_visit i m l p q e d) =
          visits_child i m l q e d (belongs_visit i m (subst (λ (x : Action). T (belongs g s r x)) d t))
      go (is_leave m p q e d) = leaves m q e d (belongs_leave m (subst (λ (x : Action). T (belongs g s r x)) d t))
      go (is_none l d) = absurd (belongs_none (subst (λ (x : Action). T (belongs g s r x)) d t))

  -- a number is an action of the rule exactly where its action belongs to it
  pub belongs_action : (a : ℕ) (x : Action) → decode a ≡ x → T (belongs g s r x) → T (is_action g s r a)
  unfolding is_action
  belongs_action a x d t = subst⁻¹ (λ (y : Action). T (belongs g s r y)) d t

  -- and back
  pub action_belongs : (a : ℕ) (x : Action) → decode a ≡ x → T (is_action g s r a) → T (belongs g s r x)
  unfolding is_action
  action_belongs a x d t = subst (λ (y : Action). T (belongs g s r y)) d t

  -- the numbers of actions are below 136
  pub action_below : (a : ℕ) → T (is_action g s r a) → a < action_numbers
  action_below a t = go (action_is a t)
    where
      go : ActionIs a → a < action_numbers
      go (computes o l e d w) = omega arith
      go (visits_child i n l m e d w) = omega arith
      go (leaves n m e d w) = omega (arith, w.first)

  -- the list of a rule's actions holds all of them
  pub member_actions : (a : ℕ) → T (is_action g s r a) → T (member a (actions_of g s r))
  unfolding actions_of
  member_actions a t = member_passing action_numbers (λ a. is_action g s r a) a (action_below a t) t

  -- nothing else is listed
  pub actions_member : (a : ℕ) → T (member a (actions_of g s r)) → T (is_action g s r a)
  unfolding actions_of
  actions_member a t = (passing_member action_numbers (λ a. is_action g s r a) a t).1

  -- the listed numbers are below 136
  pub actions_below : (a : ℕ) → T (member a (actions_of g s r)) → a < action_numbers
  actions_below a t = action_below a (actions_member a t)

  -- they rise
  pub actions_rise : Rising (actions_of g s r)
  unfolding actions_of
  actions_rise = rising_passing action_numbers (λ a. is_action g s r a)

-- where an action's number can stand: a compute's, one of five visits of a child above 0, one of five leaves
may_stand : ℕ → Bool
may_stand a = ltb a 64 or (leb 72 a and ltb (a % 8) 5)

stands_104 : count action_numbers may_stand ≡ most_actions
unfolding count ◌or◌ ◌and◌ may_stand
stands_104 = refl

module _ (g s : List ℕ) (r : ℕ) (five : (x : ℕ) → visits s x ≤ 5) where
  action_stands : (a : ℕ) → T (is_action g s r a) → T (may_stand a)
  unfolding may_stand
  action_stands a t = go (action_is g s r a t)
    where
      go : ActionIs g s r a → T (ltb a 64 or (leb 72 a and ltb (a % 8) 5))
      go (computes o l e d w) = or_left (ltb a 64) (leb 72 a and ltb (a % 8) 5) (lt→ltb a 64 (omega arith))
      go (visits_child i n l m e d w) =
          or_right (ltb a 64) (leb 72 a and ltb (a % 8) 5)
          (and_intro (leb 72 a) (ltb (a % 8) 5) (le→leb 72 a (omega (arith, w.child)))
          (lt→ltb (a % 8) 5 (omega (arith, w.first, w.last, five (symbol_of g r i)))))
      go (leaves n m e d w) =
          or_right (ltb a 64) (leb 72 a and ltb (a % 8) 5)
          (and_intro (leb 72 a) (ltb (a % 8) 5) (le→leb 72 a (omega arith))
          (lt→ltb (a % 8) 5 (omega (arith, w.first, w.last, five (symbol_of g r 0)))))

  -- "A sequence has at most 104 actions": a rule has no more
  pub at_most_104 : length (actions_of g s r) ≤ most_actions
  unfolding actions_of
  at_most_104 =
      omega (
        arith,
        length_passing action_numbers (λ a. is_action g s r a),
        stands_104,
        count_mono action_numbers (λ a. is_action g s r a) may_stand (λ a l t. action_stands a t),
      )
