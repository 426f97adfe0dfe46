-- Before the first action all of the rule's actions are left, every occurrence waits that some action makes available, and the three sets have as
-- many members as the rule has actions. Assumes nothing.
use Prim.Native.Nat.{ℕ, zero, suc, ◌+◌, ◌*◌, ◌-◌, ◌/◌, ◌%◌, ◌≤◌, ◌<◌}
use mathlib.Core.Path.{◌≡◌, refl, sym, ◌∙◌, ap, ap₂, subst, subst⁻¹}
use mathlib.Core.Logic.{⊎_elim}
use mathlib.Core.Bool.{Bool, true, false, cond, not}
use mathlib.Core.List.{List}
use native.Mathlib.Omega.{arith}
use native.Mathlib.Nat.{add-suc, add-zero}
use lib.Dec.{T, ltb, lt→ltb, leb→le, le→leb, T_not, not_T}
use lib.ListN.{length}
use Rattle.bits.specs.Bit.{number, hasb, collect}
use Rattle.bits.specs.Bit as bits
use Rattle.bits.proofs.BitLaws.{number_hasb}
use Rattle.bits.proofs.CollectLaws.{collect_lt}
use Rattle.bits.proofs.MemberLaws.{hasb_collect, hasb_below, minus_both, both_minus}
use Rattle.basics.specs.Tests.{count}
use Rattle.basics.specs.Lists.{word}
use Rattle.basics.proofs.TestLaws.{below_or_not, and_intro, and_left, and_right, same_test}
use Rattle.basics.proofs.CountingLaws.{count_gap}
use Rattle.grammar.specs.Table.{right_length, length_at, symbol_of, nonterminal, attributes, occurrence, defining, position, attribute}
use Rattle.relations.specs.Computed.{ids_of}
use Rattle.relations.proofs.Occurrences.{occurs_inside, occurs_attribute}
use Rattle.sets.specs.Visits.{set_number, visits}
use Rattle.access.specs.ByPlace.{symbol_from}
use Rattle.access.proofs.Accessors.{definings_at_rule}
use Rattle.sequences.specs.Actions.{compute, visit, leave, decode, action_numbers, is_action, actions_of, inherited_of, makes}
use Rattle.sequences.proofs.ActionNumbers.{decode_compute, decode_number, decode_leave}
use Rattle.sequences.proofs.ActionLaws.{ChildVisit, LeftLeave, belongs_compute, belongs_visit, belongs_leave, action_belongs, action_below}
use Rattle.sequences.proofs.MakesLaws.{inherited_of_law}
use Rattle.sequences.proofs.Rising.{length_passing}
use Rattle.sequences.proofs.OrderlyRules.{set_at, fits, left_nonterminal_law}
use Rattle.sequences.proofs.SequenceLaws.{compute_stands, visit_stands, leave_stands}
use Rattle.sequences.proofs.AvailableFirst.{maker}
use Rattle.sequencing.specs.Given.{RuleGiven}
use Rattle.remaining.specs.declared.ByVisit.{ByVisit as Kept}
use Rattle.remaining.specs.Remaining.{remains, remaining}
use Rattle.sequencing.specs.Going.{Going}
use Rattle.remaining.specs.RuleSets.{inherited_mask, visits_in, child_in, children_in, made_from, NextVisit, Along, Started}
use Rattle.sequencing.proofs.Makers.{Attribute, made_attribute, visit_even, first_unmade}
use Rattle.sequencing.proofs.OrderSteps.{passing_same}
use Rattle.remaining.proofs.RemainsLaws.{remains_compute, remains_visit, remains_leave, Kind, a_compute, a_visit, a_leave, kind_of}
use Rattle.remaining.proofs.MaskLaws.{in_inherited, inherited_in, first_inherited}
use Rattle.remaining.proofs.BlockSetLaws.{in_visits, visits_has}
use Rattle.sequencing.proofs.GivenLaws.{orderly_rule, five_visits, seen_at, length_is, visits_in_law, symbol_is_law, set_from, visits_from}

-- how many pass in two stretches
count_add : (a b : ℕ) (f : ℕ → Bool) → count (a + b) f ≡ count a f + count b (λ i. f (a + i))
unfolding count
count_add a zero f = ap (λ (n : ℕ). count n f) (add-zero a) ∙ omega arith
count_add a (suc b) f = ap (λ (n : ℕ). count n f) (add-suc a b) ∙ omega (arith, count_add a b f)

-- the members of a set are counted by its bits
count_members : (w s : ℕ) (f : ℕ → Bool) → ((i : ℕ) → i < w → f i ≡ hasb i s) → count w f ≡ bits.count w s
unfolding count bits.count
count_members zero s f e = refl
count_members (suc w) s f e =
    ap₂ (λ (m n : ℕ). m + n) (count_members w s f (λ i h. e i (omega arith)))
    (ap (λ (b : Bool). cond b 1 0) (e w (omega arith)) ∙ (one (hasb w s) ∙ number_hasb w s))
  where
    one : (b : Bool) → cond b 1 0 ≡ number b
    one true = refl
    one false = refl

module _ (g s : List ℕ) (by : Kept) (rows : List ℕ) (p r : ℕ) (given : RuleGiven g s by rows p r) (c v l w d : ℕ) (started : Started g by p c v l w d) where
  -- the visits of a symbol of the rule, in the table
  from_visits : (i n : ℕ) → i ≤ right_length g r → T (hasb n (visits_in by (symbol_from g p i)))
      → T (nonterminal g (symbol_from g p i)) × (n < visits s (symbol_from g p i))
  from_visits i n h t = in_visits g (symbol_from g p i) (visits s (symbol_from g p i)) n (subst (λ (x : ℕ). T (hasb n x)) (visits_in_law g s by rows p r given i h) t)

  visits_from_there : (i n : ℕ) → i ≤ right_length g r → T (nonterminal g (symbol_from g p i)) → n < visits s (symbol_from g p i)
      → T (hasb n (visits_in by (symbol_from g p i)))
  visits_from_there i n h t l =
      subst⁻¹ (λ (x : ℕ). T (hasb n x)) (visits_in_law g s by rows p r given i h) (visits_has g (symbol_from g p i) (visits s (symbol_from g p i)) n t l)

  -- the computes are the defining occurrences
  compute_left : (o : ℕ) → o < 64 → remains c v l o ≡ defining g r o
  compute_left o h =
      remains_compute c v l o h
      ∙ (ap (λ (x : ℕ). hasb o x) (started.computes_are ∙ definings_at_rule g r p given.starts) ∙ hasb_collect 64 o _ h)

  -- the visits those of the nonterminal children
  visit_left : (b : ℕ) → b < 64 → remains c v l (64 + b) ≡ child_in g by.visits p b
  unfolding children_in
  visit_left b h =
      remains_visit c v l b h ∙ (ap (λ (x : ℕ). hasb b x) started.visits_are ∙ hasb_collect 64 b _ h)

  from_visit : (b : ℕ) → T (child_in g by.visits p b) → ChildVisit g s r (b / 8) (b % 8 + 1)
  unfolding child_in visits_in
  from_visit b t =
      let u = and_left _ _ t in
      let i : b / 8 ≤ right_length g r = omega (arith, leb→le (b / 8) (length_at g p) (and_right _ _ u), length_is g s by rows p r given) in
      let x = from_visits (b / 8) (b % 8) i (and_right _ _ t) in
      record {
        child = leb→le 1 (b / 8) (and_left _ _ u);
        inside = i;
        nonterminal_there = subst (λ (y : ℕ). T (nonterminal g y)) (symbol_is_law g s by rows p r given (b / 8)) x.0;
        first = omega arith;
        last = omega (arith, x.1, visits_from g s by rows p r given (b / 8));
      }

  visit_from : (b : ℕ) → ChildVisit g s r (b / 8) (b % 8 + 1) → T (child_in g by.visits p b)
  unfolding child_in visits_in
  visit_from b k =
      and_intro _ _
      (and_intro _ _ (le→leb 1 (b / 8) k.child) (le→leb (b / 8) (length_at g p) (omega (arith, k.inside, length_is g s by rows p r given))))
      (visits_from_there (b / 8) (b % 8) k.inside
      (subst⁻¹ (λ (y : ℕ). T (nonterminal g y)) (symbol_is_law g s by rows p r given (b / 8)) k.nonterminal_there)
      (omega (arith, k.last, visits_from g s by rows p r given (b / 8))))

  -- the leaves those of the left side
  leave_left : (b : ℕ) → T (remains c v l (128 + b)) → b < visits s (symbol_of g r 0)
  leave_left b t =
      omega (
        arith,
        visits_from g s by rows p r given 0,
        (from_visits 0 b (omega arith) (subst (λ (x : ℕ). T (hasb b x)) started.leaves_are (subst (λ (x : Bool). T x) (remains_leave c v l b) t))).1,
      )

  left_leave : (b : ℕ) → b < visits s (symbol_of g r 0) → T (remains c v l (128 + b))
  left_leave b h =
      subst⁻¹ (λ (x : Bool). T x) (remains_leave c v l b)
      (subst⁻¹ (λ (x : ℕ). T (hasb b x)) started.leaves_are
      (visits_from_there 0 b (omega arith)
      (subst⁻¹ (λ (y : ℕ). T (nonterminal g y)) (symbol_is_law g s by rows p r given 0) (left_nonterminal_law g (ids_of g) s r (orderly_rule g s by rows p r given)))
      (omega (arith, visits_from g s by rows p r given 0))))

  -- what is left are the actions of the rule, all of them
  left_action : (a : ℕ) → T (remains c v l a) → T (is_action g s r a)
  left_action a t = go (kind_of a)
    where
      go : Kind a → T (is_action g s r a)
      go (a_compute h) =
          compute_stands g (ids_of g) s r (orderly_rule g s by rows p r given) a (subst (λ (x : Bool). T x) (compute_left a h) t)
      go (a_visit b h e) =
          let f : a ≡ 64 + 8 * (b / 8) + (b % 8 + 1 - 1) = omega arith in
          subst⁻¹ (λ (x : ℕ). T (is_action g s r x)) f
          (visit_stands g (ids_of g) s r (orderly_rule g s by rows p r given) (five_visits g s by rows p r given) (b / 8) (b % 8 + 1)
          (from_visit b (subst (λ (x : Bool). T x) (visit_left b h) (subst (λ (x : ℕ). T (remains c v l x)) e t))))
      go (a_leave b e) =
          let f : a ≡ 128 + (b + 1 - 1) = omega arith in
          let k : b < visits s (symbol_of g r 0) = leave_left b (subst (λ (x : ℕ). T (remains c v l x)) e t) in
          subst⁻¹ (λ (x : ℕ). T (is_action g s r x)) f
          (leave_stands g (ids_of g) s r (orderly_rule g s by rows p r given) (five_visits g s by rows p r given) (b + 1)
          (record { first = omega arith; last = omega arith }))

  action_left : (a : ℕ) → T (is_action g s r a) → T (remains c v l a)
  action_left a t = go (kind_of a)
    where
      go : Kind a → T (remains c v l a)
      go (a_compute h) =
          subst⁻¹ (λ (x : Bool). T x) (compute_left a h)
          (belongs_compute g s r a (action_belongs g s r a (compute a) (decode_compute a h) t))
      go (a_visit b h e) =
          let f : a ≡ 64 + 8 * (b / 8) + (b % 8 + 1 - 1) = omega arith in
          subst⁻¹ (λ (x : ℕ). T (remains c v l x)) e
          (subst⁻¹ (λ (x : Bool). T x) (visit_left b h)
          (visit_from b
          (belongs_visit g s r (b / 8) (b % 8 + 1)
          (action_belongs g s r a (visit (b / 8) (b % 8 + 1))
          (ap decode f ∙ decode_number (visit (b / 8) (b % 8 + 1)) (omega arith, omega arith, omega arith)) t))))
      go (a_leave b e) =
          let f : a - 128 + 1 ≡ b + 1 = omega arith in
          let k : LeftLeave g s r (b + 1) =
          belongs_leave g s r (b + 1)
          (action_belongs g s r a (leave (b + 1))
          (decode_leave a (omega arith) (action_below g s r a t) ∙ ap (λ (n : ℕ). leave n) f) t) in
          subst⁻¹ (λ (x : ℕ). T (remains c v l x)) e (left_leave b (omega (arith, k.last)))

  -- an occurrence of a nonterminal
  from_made : (o : ℕ) → T (made_from g p o) → Attribute g r o
  unfolding made_from occurrence
  from_made o t =
      let x = and_right _ _ t in
      record {
        occurs =
            and_intro _ _ (le→leb (position o) (right_length g r) (omega (arith, leb→le (position o) (length_at g p) (and_left _ _ t), length_is g s by rows p r given)))
            (subst (λ (y : ℕ). T (ltb (attribute o) (attributes g y))) (symbol_is_law g s by rows p r given (position o)) (and_right _ _ x));
        there = subst (λ (y : ℕ). T (nonterminal g y)) (symbol_is_law g s by rows p r given (position o)) (and_left _ _ x);
      }

  made_from_law : (o : ℕ) → Attribute g r o → T (made_from g p o)
  unfolding made_from
  made_from_law o k =
      and_intro _ _ (le→leb (position o) (length_at g p) (omega (arith, occurs_inside g r o k.occurs, length_is g s by rows p r given)))
      (and_intro _ _ (subst⁻¹ (λ (y : ℕ). T (nonterminal g y)) (symbol_is_law g s by rows p r given (position o)) k.there)
      (subst⁻¹ (λ (y : ℕ). T (ltb (attribute o) (attributes g y))) (symbol_is_law g s by rows p r given (position o))
      (lt→ltb _ _ (occurs_attribute g r o k.occurs))))

  -- the left side's inherited ones of visit 1
  from_first : (o : ℕ) → T (hasb o (inherited_mask by (symbol_from g p 0) 0))
      → (position o ≡ 0) × (set_at g s r o ≡ 2 * visits s (symbol_of g r 0))
  from_first o t =
      let k = in_inherited s by (symbol_from g p 0) 0 (seen_at g s by rows p r given 0 (omega arith)) (omega arith) (omega arith) o t in
      let q : position o ≡ 0 = omega (arith, k.0) in
      let z : o % 8 ≡ o = omega (arith, k.0) in (
        q,
        sym (set_from g s by rows p r given 0 o q)
            ∙ (ap (λ (x : ℕ). set_number s (symbol_from g p 0) x) z ∙ (k.1 ∙ omega (arith, visits_from g s by rows p r given 0))),
      )

  first_from : (o : ℕ) → T (inherited_of g s r 0 1 o) → T (hasb o (inherited_mask by (symbol_from g p 0) 0))
  first_from o t =
      let q : position o ≡ 0 = (inherited_of_law g s r 0 1 o t).0.stands in
      let z : o % 8 ≡ o = omega arith in
      inherited_in s by (symbol_from g p 0) 0 (seen_at g s by rows p r given 0 (omega arith)) (omega arith) (omega arith) o (omega arith)
      (ap (λ (x : ℕ). set_number s (symbol_from g p 0) x) (sym z)
      ∙ (set_from g s by rows p r given 0 o q
      ∙ (visit_even g (ids_of g) s r (orderly_rule g s by rows p r given) 0 1 o (left_nonterminal_law g (ids_of g) s r (orderly_rule g s by rows p r given)) t
      ∙ ap (λ (x : ℕ). 2 * (x + 1 - (0 + 1))) (sym (visits_from g s by rows p r given 0)))))

  pub starts_going : Going g (ids_of g) s r (remains c v l) w
  starts_going =
      record {
        actions = left_action;
        done = λ a b i t f. action_left a i;
        waits = λ o t. made o (minus_both o _ _ (subst (λ (x : ℕ). T (hasb o x)) started.waiting_are t));
        makers = λ e o t m.
            let a : Attribute g r o = made_attribute g (ids_of g) s r (orderly_rule g s by rows p r given) e o (left_action e t) m in
            subst⁻¹ (λ (x : ℕ). T (hasb o x)) started.waiting_are
            (both_minus o _ _
            (subst⁻¹ (λ (x : Bool). T x)
            (hasb_collect 64 o (λ o. made_from g p o) (fits g (ids_of g) s r (orderly_rule g s by rows p r given) o a.occurs)) (made_from_law o a))
            (not_T (hasb o (inherited_mask by (symbol_from g p 0) 0))
            (λ u.
            let k = from_first o u in
            first_unmade g (ids_of g) s r (orderly_rule g s by rows p r given) e o (left_action e t) m k.0 k.1)));
      }
    where
      made : (o : ℕ) → T (hasb o (collect 64 (λ o. made_from g p o))) × T (not (hasb o (inherited_mask by (symbol_from g p 0) 0)))
          → (e : ℕ) × T (remains c v l e) × T (makes g s r (decode e) o)
      made o t =
          let h : o < 64 = hasb_below 64 o (collect 64 (λ o. made_from g p o)) (collect_lt 64 _) t.0 in
          let a : Attribute g r o = from_made o (subst (λ (x : Bool). T x) (hasb_collect 64 o (λ o. made_from g p o) h) t.0) in
          ⊎_elim (λ i. absurd (T_not (hasb o (inherited_mask by (symbol_from g p 0) 0)) t.1 (first_from o i)))
          (λ m. (m.0, action_left m.0 m.1, m.2))
          (maker g (ids_of g) s r (orderly_rule g s by rows p r given) (five_visits g s by rows p r given) o a.occurs a.there)

  -- the first visits want what they take along
  first_next : (b : ℕ) → b < 64 → T (hasb b v) → NextVisit v b → b % 8 ≡ 0
  first_next b h t lowest =
      ⊎_elim
      (λ i.
      let k = from_visit b (subst (λ (x : Bool). T x) (visit_left b h) (subst⁻¹ (λ (x : Bool). T x) (remains_visit c v l b h) t)) in
      let z : ℕ = 8 * (b / 8) + 0 in
      let place : z / 8 ≡ b / 8 = omega arith in
      let own : z % 8 + 1 ≡ 1 = omega arith in
      let first : ChildVisit g s r (b / 8) 1 =
      record {
        child = k.child;
        inside = k.inside;
        nonterminal_there = k.nonterminal_there;
        first = omega arith;
        last = omega (arith, k.last);
      } in
      absurd (lowest 0 i
      (subst (λ (x : Bool). T x) (remains_visit c v l z (omega arith))
      (subst⁻¹ (λ (x : Bool). T x) (visit_left z (omega arith))
      (visit_from z (subst⁻¹ (λ (j : ℕ). ChildVisit g s r j (z % 8 + 1)) place (subst⁻¹ (λ (j : ℕ). ChildVisit g s r (b / 8) j) own first)))))))
      (λ i. omega arith) (below_or_not 0 (b % 8))

  pub starts_along : Along g by p v d
  unfolding children_in child_in
  starts_along =
      record {
        takes = λ b o h t lowest q u.
            let k : o < 64 = hasb_below 64 o (children_in g by.inherited p) (collect_lt 64 _) (subst (λ (x : ℕ). T (hasb o x)) started.wanted_are u) in
            let z = subst (λ (x : Bool). T x) (hasb_collect 64 o _ k) (subst (λ (x : ℕ). T (hasb o x)) started.wanted_are u) in
            subst⁻¹ (λ (n : ℕ). T (hasb (o % 8) (inherited_mask by (symbol_from g p (b / 8)) n))) (first_next b h t lowest)
            ((first_inherited by (symbol_from g p (b / 8)) (o % 8) (omega arith)).1
            (subst (λ (j : ℕ). T (hasb (o % 8) (word by.inherited (symbol_from g p j)))) q (and_right _ _ z)));
        taken = λ b o h t lowest q u.
            let k = from_visit b (subst (λ (x : Bool). T x) (visit_left b h) (subst⁻¹ (λ (x : Bool). T x) (remains_visit c v l b h) t)) in
            let z = (first_inherited by (symbol_from g p (b / 8)) (o % 8) (omega arith)).0
            (subst (λ (n : ℕ). T (hasb (o % 8) (inherited_mask by (symbol_from g p (b / 8)) n))) (first_next b h t lowest) u) in
            subst⁻¹ (λ (x : ℕ). T (hasb o x)) started.wanted_are
            (subst⁻¹ (λ (x : Bool). T x) (hasb_collect 64 o _ (omega arith))
            (and_intro _ _
            (and_intro _ _ (le→leb 1 (o / 8) (omega (arith, k.child))) (le→leb (o / 8) (length_at g p) (omega (arith, k.inside, length_is g s by rows p r given))))
            (subst⁻¹ (λ (j : ℕ). T (hasb (o % 8) (word by.inherited (symbol_from g p j)))) q z)));
      }

  pub starts_all : remaining (remains c v l) ≡ actions_of g s r
  unfolding remaining actions_of
  starts_all =
      passing_same action_numbers (remains c v l) (λ a. is_action g s r a)
      (λ a h. same_test (remains c v l a) (is_action g s r a) (left_action a) (action_left a))

  -- the ones of the three sets count the actions
  pub starts_count : bits.count 64 c + bits.count 64 v + bits.count 64 l ≡ length (remaining (remains c v l))
  unfolding remaining
  starts_count =
      let whole : count 192 (remains c v l) ≡ count 136 (remains c v l) =
      count_gap (remains c v l) 136 192 (omega arith) (λ i h k t. omega (arith, action_below g s r i (left_action i t))) in
      omega (
        arith,
        length_passing action_numbers (remains c v l),
        whole,
        count_add 128 64 (remains c v l),
        count_add 64 64 (remains c v l),
        count_members 64 c (remains c v l) (λ i h. remains_compute c v l i h),
        count_members 64 v (λ i. remains c v l (64 + i)) (λ i h. remains_visit c v l i h),
        count_members 64 l (λ i. remains c v l (128 + i)) (λ i h. remains_leave c v l i),
      )
