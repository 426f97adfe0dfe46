-- In a sound sequence the leaves and the visits of each child come in order, so their counts say which of them are done.
-- All leaves are done at the end of the sequence and nowhere before. Assumes nothing.
use Prim.Native.Nat.{ℕ, zero, suc, ◌-◌, ◌≤◌, ◌<◌}
use mathlib.Core.Path.{◌≡◌, refl, sym, ◌∙◌, ap, subst}
use mathlib.Core.Logic.{⊎_elim}
use mathlib.Core.Bool.{Bool, true, false, cond}
use mathlib.Core.List.{List}
use native.Mathlib.Omega.{arith}
use lib.Dec.{T, ltb, eqb, ltb→lt, lt→ltb, eqb→eq, T_not}
use Rattle.basics.proofs.TestLaws.{eq_T, tested, below_or_not, true_T}
use Rattle.basics.proofs.CountingLaws.{count_yes, count_no, count_zero}
use Rattle.grammar.specs.Limits.{most_symbols, most_attributes}
use Rattle.grammar.specs.Table.{symbols, rules, attributes, nonterminal, right_length, symbol_of}
use Rattle.grammar.specs.WellFormed.{WellFormed}
use Rattle.sets.specs.Visits.{set_number, last_set, visits}
use Rattle.sets.proofs.Visits.{highest_least, some_visit}
use Rattle.sequences.specs.Actions.{Action, compute, visit, leave, none, number_of, decode, belongs, is_action}
use Rattle.sequences.proofs.ActionNumbers.{decode_number, decode_injective}
use Rattle.sequences.proofs.ActionLaws.{action_below, belongs_action, belongs_visit, belongs_leave, visit_belongs, leave_belongs}
use Rattle.plans.specs.Sequences.{sequence_length, action_at}
use Rattle.runs.specs.Sound.{Before, RuleSound, Sound}
use Rattle.runs.specs.Counts.{leave_number, visit_number, leaves_done, visits_done}
use Rattle.runs.proofs.Ranks.{Ranks, ranked, all_ranked, ranked_most, reached_done, done_reached}

-- The counts at the start, and from one place to the next.
module _ (p : List ℕ) (r : ℕ) where
  -- at the start no leave is done
  pub leaves_start : leaves_done p r 0 ≡ 0
  unfolding leaves_done
  leaves_start = count_zero (λ j. ltb 0 (leave_number (decode (action_at p r j))))

  -- an action that is no leave leaves the count
  pub leaves_same : (k : ℕ) → leave_number (decode (action_at p r k)) ≡ 0 → leaves_done p r (suc k) ≡ leaves_done p r k
  unfolding leaves_done
  leaves_same k e =
      count_no (λ j. ltb 0 (leave_number (decode (action_at p r j)))) k
      (λ t. omega (arith, ltb→lt 0 (leave_number (decode (action_at p r k))) t))

  -- a leave adds one
  pub leaves_more : (k : ℕ) → 1 ≤ leave_number (decode (action_at p r k)) → leaves_done p r (suc k) ≡ suc (leaves_done p r k)
  unfolding leaves_done
  leaves_more k h =
      count_yes (λ j. ltb 0 (leave_number (decode (action_at p r j)))) k (lt→ltb 0 (leave_number (decode (action_at p r k))) h)

  -- at the start no visit is done
  pub visits_start : (i : ℕ) → visits_done p r i 0 ≡ 0
  unfolding visits_done
  visits_start i = count_zero (λ j. ltb 0 (visit_number i (decode (action_at p r j))))

  -- an action that is no visit of the child leaves the count
  pub visits_same : (i k : ℕ) → visit_number i (decode (action_at p r k)) ≡ 0 → visits_done p r i (suc k) ≡ visits_done p r i k
  unfolding visits_done
  visits_same i k e =
      count_no (λ j. ltb 0 (visit_number i (decode (action_at p r j)))) k
      (λ t. omega (arith, ltb→lt 0 (visit_number i (decode (action_at p r k))) t))

  -- a visit of it adds one
  pub visits_more : (i k : ℕ) → 1 ≤ visit_number i (decode (action_at p r k)) → visits_done p r i (suc k) ≡ suc (visits_done p r i k)
  unfolding visits_done
  visits_more i k h =
      count_yes (λ j. ltb 0 (visit_number i (decode (action_at p r j)))) k
      (lt→ltb 0 (visit_number i (decode (action_at p r k))) h)

-- an action with a leave's number is that leave, one with a visit's that visit
leave_is : (a : Action) (n : ℕ) → leave_number a ≡ suc n → a ≡ leave (suc n)
leave_is (compute o) n e = absurd (omega arith)
leave_is (visit j m) n e = absurd (omega arith)
leave_is (leave m) n e = ap leave e
leave_is none n e = absurd (omega arith)

visit_is_law : (i : ℕ) (a : Action) (n : ℕ) → visit_number i a ≡ suc n → a ≡ visit i (suc n)
visit_is_law i (compute o) n e = absurd (omega arith)
visit_is_law i (visit j m) n e = go (eqb j i) refl e
  where
    go : (b : Bool) → eqb j i ≡ b → cond b m 0 ≡ suc n → visit j m ≡ visit i (suc n)
    go true d e = ap (λ (k : ℕ). visit k m) (eqb→eq j i (true_T (eqb j i) d)) ∙ ap (λ (k : ℕ). visit i k) e
    go false d e = absurd (omega arith)
visit_is_law i (leave m) n e = absurd (omega arith)
visit_is_law i none n e = absurd (omega arith)

-- a visit of the child itself has its number
pub visit_same : (i n : ℕ) → visit_number i (visit i n) ≡ n
visit_same i n = go (eqb i i) (eq_T i i refl)
  where
    go : (b : Bool) → T b → cond b n 0 ≡ n
    go true t = refl
    go false t = absurd t

-- a visit of another child counts nothing
pub visit_other : (i j n : ℕ) → (j ≡ i → ⊥) → visit_number i (visit j n) ≡ 0
visit_other i j n d = go (eqb j i) refl
  where
    go : (b : Bool) → eqb j i ≡ b → cond b n 0 ≡ 0
    go true e = absurd (d (eqb→eq j i (true_T (eqb j i) e)))
    go false e = refl

module _ {g p : List ℕ} (table : WellFormed g) (sound : Sound g p) where
  sets_ten : (x a : ℕ) → x < most_symbols → a < most_attributes → set_number p x a ≤ 10
  sets_ten x a h l =
      ⊎_elim
      (λ c.
      ⊎_elim
      (λ n.
      ⊎_elim (λ e. ((sound.symbol x h).sets a (record { counts = c; nonterminal_is = n; attribute_is = e })).high)
      (λ e. omega (arith, (sound.symbol x h).nothing a l (λ w. omega (arith, w.attribute_is)))) (below_or_not a (attributes g x)))
      (λ n. omega (arith, (sound.symbol x h).nothing a l (λ w. T_not (nonterminal g x) n w.nonterminal_is))) (tested (nonterminal g x)))
      (λ c. omega (arith, (sound.symbol x h).nothing a l (λ w. T_not (ltb x (symbols g)) c w.counts))) (tested (ltb x (symbols g)))

  -- a symbol has at most five visits
  pub visits_five : (x : ℕ) → x < most_symbols → visits p x ≤ 5
  unfolding visits last_set
  visits_five x h = omega (arith, highest_least most_attributes (λ a. set_number p x a) 10 (λ a l. sets_ten x a h l))

  module _ (r : ℕ) (known : r < rules g) where
    -- the rule's part of the plan is sound
    pub rule_sound : RuleSound g p r
    rule_sound = sound.rule r (lt→ltb r (rules g) known)

    symbol_five : (i : ℕ) → i ≤ right_length g r → visits p (symbol_of g r i) ≤ 5
    symbol_five i h =
        visits_five (symbol_of g r i) (omega (arith, (table.rule r known).symbols_fit i h, table.symbols_fit))

    -- every action of the sequence belongs to the rule
    pub belongs_at : (j : ℕ) → j < sequence_length p r → T (belongs g p r (decode (action_at p r j)))
    unfolding is_action
    belongs_at j h = rule_sound.nothing_else j h

    -- two places of one action are the same
    pub same_action : (j k : ℕ) → j < sequence_length p r → k < sequence_length p r → decode (action_at p r j) ≡ decode (action_at p r k) → j ≡ k
    same_action j k h l e =
        rule_sound.once j k h l
        (decode_injective _ _ (action_below g p r _ (rule_sound.nothing_else j h)) (action_below g p r _ (rule_sound.nothing_else k l)) e)

    leave_range : (a : Action) → T (belongs g p r a) → leave_number a ≤ visits p (symbol_of g r 0)
    leave_range (compute o) t = omega arith
    leave_range (visit i n) t = omega arith
    leave_range (leave n) t = (belongs_leave g p r n t).last
    leave_range none t = omega arith

    visit_range : (i : ℕ) (a : Action) → T (belongs g p r a) → visit_number i a ≤ visits p (symbol_of g r i)
    visit_range i (compute o) t = omega arith
    visit_range i (visit j n) t = go (eqb j i) refl
      where
        go : (b : Bool) → eqb j i ≡ b → cond b n 0 ≤ visits p (symbol_of g r i)
        go true e =
            subst (λ (k : ℕ). n ≤ visits p (symbol_of g r k)) (eqb→eq j i (true_T (eqb j i) e)) (belongs_visit g p r j n t).last
        go false e = omega arith
    visit_range i (leave n) t = omega arith
    visit_range i none t = omega arith

    -- an action of the rule stands at a place of its sequence
    pub action_there : (a : Action) → decode (number_of a) ≡ a → T (belongs g p r a)
        → (j : ℕ) × (j < sequence_length p r) × (decode (action_at p r j) ≡ a)
    action_there a e t =
        let b : Before p r (sequence_length p r) (number_of a) = rule_sound.every (number_of a) (belongs_action g p r (number_of a) a e t) in
        (b.place, b.earlier, ap decode b.action_is ∙ e)

    leave_number_law : (j : ℕ) → 1 ≤ leave_number (decode (action_at p r j)) → decode (action_at p r j) ≡ leave (leave_number (decode (action_at p r j)))
    leave_number_law j h = go (leave_number (decode (action_at p r j))) refl h
      where
        go : (n : ℕ) → leave_number (decode (action_at p r j)) ≡ n → 1 ≤ n → decode (action_at p r j) ≡ leave n
        go zero e h = absurd (omega arith)
        go (suc n) e h = leave_is _ n e

    visit_number_law : (i j : ℕ) → 1 ≤ visit_number i (decode (action_at p r j))
        → decode (action_at p r j) ≡ visit i (visit_number i (decode (action_at p r j)))
    visit_number_law i j h = go (visit_number i (decode (action_at p r j))) refl h
      where
        go : (n : ℕ) → visit_number i (decode (action_at p r j)) ≡ n → 1 ≤ n → decode (action_at p r j) ≡ visit i n
        go zero e h = absurd (omega arith)
        go (suc n) e h = visit_is_law i _ n e

    leave_ranks : Ranks (sequence_length p r) (visits p (symbol_of g r 0)) (λ j. leave_number (decode (action_at p r j)))
    leave_ranks =
        record {
          there = λ m h l.
              let w = action_there (leave m) (decode_number (leave m) (h, omega (arith, symbol_five 0 (omega arith))))
              (leave_belongs g p r m (record { first = h; last = l })) in
              (w.0, w.1, ap leave_number w.2);
          range = λ j h. leave_range _ (belongs_at j h);
          rise = λ j k h l a b. rule_sound.leaves_rise j k _ _ h l (leave_number_law j a) (leave_number_law k (omega arith)) b;
          once = λ j k h l a e.
              same_action j k h l (leave_number_law j a ∙ (ap leave e ∙ sym (leave_number_law k (omega arith))));
        }

    -- where a leave is not yet done an action is left
    pub leaves_left : (k : ℕ) → k ≤ sequence_length p r → leaves_done p r k < visits p (symbol_of g r 0) → k < sequence_length p r
    unfolding leaves_done
    leaves_left k h l =
        ⊎_elim (λ s. s)
        (λ s.
        let e : k ≡ sequence_length p r = omega arith in
        absurd (omega (arith, ap (λ (x : ℕ). ranked (λ j. leave_number (decode (action_at p r j))) x) e, all_ranked leave_ranks)))
        (below_or_not k (sequence_length p r))

    -- a leave that the count has reached stands before the place
    pub leave_done : (k n : ℕ) → k ≤ sequence_length p r → 1 ≤ n → n ≤ leaves_done p r k
        → (j : ℕ) × (j < k) × (decode (action_at p r j) ≡ leave n)
    unfolding leaves_done
    leave_done k n h a b =
        let w = reached_done leave_ranks k n h a b in
        (w.0, w.1, leave_number_law w.0 (omega (arith, w.2)) ∙ ap leave w.2)

    -- a leave before the place is reached by the count
    pub done_leave : (k j n : ℕ) → k ≤ sequence_length p r → j < k → decode (action_at p r j) ≡ leave n → n ≤ leaves_done p r k
    unfolding leaves_done
    done_leave k j zero h l e = omega arith
    done_leave k j (suc n) h l e = done_reached leave_ranks k n j h l (ap leave_number e)

    -- "the last leave ends it": with all leaves done the sequence is at its end
    pub leaves_end : (k : ℕ) → k ≤ sequence_length p r → leaves_done p r k ≡ visits p (symbol_of g r 0) → k ≡ sequence_length p r
    leaves_end k h e =
        let w = leave_done k (visits p (symbol_of g r 0)) h (some_visit p (symbol_of g r 0)) (omega arith) in
        let j : ℕ = w.0 in
        let jk : j < k = w.1 in
        let last : j ≡ sequence_length p r - 1 =
        same_action j (sequence_length p r - 1) (omega arith) (omega arith) (w.2 ∙ sym rule_sound.ended) in
        omega arith

    module _ (i : ℕ) (first : 1 ≤ i) (inside : i ≤ right_length g r) (there : T (nonterminal g (symbol_of g r i))) where
      visit_ranks : Ranks (sequence_length p r) (visits p (symbol_of g r i)) (λ j. visit_number i (decode (action_at p r j)))
      visit_ranks =
          record {
            there = λ m h l.
                let w = action_there (visit i m)
                (decode_number (visit i m) (omega (arith, (table.rule r known).length_fits), h, omega (arith, symbol_five i inside)))
                (visit_belongs g p r i m
                (record { child = first; inside = inside; nonterminal_there = there; first = h; last = l })) in
                (w.0, w.1, ap (λ (a : Action). visit_number i a) w.2 ∙ visit_same i m);
            range = λ j h. visit_range i _ (belongs_at j h);
            rise = λ j k h l a b. rule_sound.visits_rise j k i _ _ h l (visit_number_law i j a) (visit_number_law i k (omega arith)) b;
            once = λ j k h l a e.
                same_action j k h l
                (visit_number_law i j a ∙ (ap (λ (n : ℕ). visit i n) e ∙ sym (visit_number_law i k (omega arith))));
          }

      -- the child is visited as often as its symbol asks for
      pub visits_all : visits_done p r i (sequence_length p r) ≡ visits p (symbol_of g r i)
      unfolding visits_done
      visits_all = all_ranked visit_ranks

      -- and at no place more often
      pub visits_most : (k : ℕ) → k ≤ sequence_length p r → visits_done p r i k ≤ visits p (symbol_of g r i)
      unfolding visits_done
      visits_most k h = ranked_most visit_ranks k h

      -- a visit that the count has reached stands before the place
      pub visit_done : (k n : ℕ) → k ≤ sequence_length p r → 1 ≤ n → n ≤ visits_done p r i k
          → (j : ℕ) × (j < k) × (decode (action_at p r j) ≡ visit i n)
      unfolding visits_done
      visit_done k n h a b =
          let w = reached_done visit_ranks k n h a b in
          (w.0, w.1, visit_number_law i w.0 (omega (arith, w.2)) ∙ ap (λ (m : ℕ). visit i m) w.2)

      -- a visit before the place is reached by the count
      pub done_visit : (k j n : ℕ) → k ≤ sequence_length p r → j < k → decode (action_at p r j) ≡ visit i n → n ≤ visits_done p r i k
      unfolding visits_done
      done_visit k j zero h l e = omega arith
      done_visit k j (suc n) h l e =
          done_reached visit_ranks k n j h l (ap (λ (a : Action). visit_number i a) e ∙ visit_same i (suc n))
