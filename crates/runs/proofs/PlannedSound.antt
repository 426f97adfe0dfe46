-- Whatever the planner writes is sound: for an ordered table its set words and sequences, laid into any lent plan, meet each condition of
-- soundness. Assumes nothing.
use Prim.Native.Nat.{ℕ, ◌-◌, ◌≤◌, ◌<◌}
use mathlib.Core.Path.{◌≡◌, refl, sym, ◌∙◌, ap, subst, subst⁻¹}
use mathlib.Core.Logic.{◌⊎◌, inl, inr, ⊎_elim}
use mathlib.Core.Bool.{not}
use mathlib.Core.List.{List}
use native.Mathlib.Omega.{arith}
use lib.Dec.{T, leb, eqb→eq, ltb→lt, lt→ltb, le→leb}
use lib.ListN.{length}
use Rattle.basics.specs.Lists.{word}
use Rattle.basics.proofs.TestLaws.{and_intro, below_or_not, eq_T}
use Rattle.grammar.specs.Limits.{most_symbols, most_attributes}
use Rattle.grammar.specs.Verdicts.{Good}
use Rattle.grammar.specs.Table.{symbols, rules, start, kind, attributes, nonterminal, symbol_of, argument, position, rule_counts}
use Rattle.grammar.specs.Reading.{read_table}
use Rattle.grammar.specs.WellFormed.{WellFormed}
use Rattle.grammar.proofs.AcceptedTable.{accepted}
use Rattle.relations.specs.Computed.{ids_of}
use Rattle.sets.specs.Visits.{set_number, visits}
use Rattle.sets.specs.Paper.{of_class}
use Rattle.sets.specs.Computed.{sets_of}
use Rattle.sets.proofs.SetWords.{word_of_symbol, number_of_other, number_where_nothing, number_nine, number_of_class}
use Rattle.sets.proofs.Visits.{visits_five, some_visit}
use Rattle.order.specs.Paper.{CircularIDP, Ordered}
use Rattle.order.proofs.PaperSets.{set_placed, paper_sets}
use Rattle.bits.specs.Bit.{hasb}
use Rattle.bits.proofs.MemberLaws.{none_left}
use Rattle.relations.proofs.Least.{ids_occurs}
use Rattle.sets.proofs.Classes.{odd_synthesized}
use Rattle.sequences.specs.Actions.{Action, compute, visit, leave, decode, belongs, is_action, makes, inherited_of}
use Rattle.sequences.specs.Order.{sequence_of}
use Rattle.sequences.proofs.OrderlyRules.{Orderly}
use Rattle.sequences.specs.Paper.{DoneBefore}
use Rattle.sequences.proofs.SequenceLaws.{nothing_else_law, each_once, every_action, handed_down_law, handed_up_law}
use Rattle.sequences.proofs.VisitsRise.{visits_rise_law, leaves_rise_law, ended_by_last_leave}
use Rattle.sequences.proofs.AvailableFirst.{arguments_first_law}
use Rattle.sequences.proofs.PlannedSequences.{planned_short, orderly}
use Rattle.plans.specs.Buffers.{over}
use Rattle.plans.specs.Answer.{accepted_plan}
use Rattle.plans.specs.Left.{SequenceStands}
use Rattle.plans.proofs.PlanWords.{numbers_same, sequence_stands}
use Rattle.plans.specs.Sequences.{sequence_length, action_at}
use Rattle.runs.specs.Sound.{SetFits, Exists, Before, FromStart, Available, RuleSound, SymbolSound, Sound}
use Rattle.runs.proofs.SameSets.{visits_same, symbol_small, inherited_forth, synthesized_forth, makes_forth, action_forth}

-- every rule has a first leave
first_leave : (g s : List ℕ) (r : ℕ) → T (is_action g s r 128)
unfolding is_action decode belongs
first_leave g s r = and_intro (leb 1 1) (leb 1 (visits s (symbol_of g r 0))) tt (le→leb 1 (visits s (symbol_of g r 0)) (some_visit s (symbol_of g r 0)))

module _ (g : List ℕ) (good : read_table g ≡ Good) (lent : List ℕ) where
  abbrev s : List ℕ
  s = sets_of g (ids_of g)

  abbrev p : List ℕ
  p = over (accepted_plan g) lent

  same : (x a : ℕ) → x < 32 → a < 8 → set_number p x a ≡ set_number s x a
  same = numbers_same g lent

  module _ (r : ℕ) (h : r < rules g) where
    abbrev out : List ℕ
    out = sequence_of g (ids_of g) s r

    stands : SequenceStands p r out
    stands = sequence_stands g lent r h

    earlier_before : (j a : ℕ) → j ≤ length out → DoneBefore out j a → Before p r j a
    earlier_before j a l w =
        record { place = w.place; earlier = w.earlier; action_is = stands.action_is w.place (omega (arith, w.earlier)) ∙ w.stands_there }

  module _ (none : CircularIDP g → ⊥) (ordered : Ordered g (set_number s)) where
    w : WellFormed g
    w = accepted g good

    module _ (r : ℕ) (c : T (rule_counts g r)) where
      h : r < rules g
      h = ltb→lt r (rules g) c

      o : Orderly g (ids_of g) s r
      o = orderly g good none ordered r c

      five : (x : ℕ) → visits s x ≤ 5
      five x = visits_five g (ids_of g) x

      back : (x a : ℕ) → x < 32 → a < 8 → set_number s x a ≡ set_number p x a
      back x a l m = sym (same x a l m)

      inside : (j : ℕ) → j < sequence_length p r → j < length (sequence_of g (ids_of g) s r)
      inside j l = subst (λ (n : ℕ). j < n) (stands r h).length_is l

      decoded : (j : ℕ) (act : Action) → j < length (sequence_of g (ids_of g) s r) → decode (action_at p r j) ≡ act
          → decode (word (sequence_of g (ids_of g) s r) j) ≡ act
      decoded j act l e = ap decode (sym ((stands r h).action_is j l)) ∙ e

      rule_sound : RuleSound g p r
      rule_sound =
          record {
            fits = omega (arith, (stands r h).length_is, planned_short g r);
            every = λ a t.
                subst⁻¹ (λ (n : ℕ). Before p r n a) (stands r h).length_is
                (earlier_before r h (length (sequence_of g (ids_of g) s r)) a (omega arith)
                (every_action g (ids_of g) s r o a (action_forth g p s w same r h a t)));
            nothing_else = λ j l.
                subst⁻¹ (λ (a : ℕ). T (is_action g p r a)) ((stands r h).action_is j (inside j l))
                (action_forth g s p w back r h _ (nothing_else_law g (ids_of g) s r j (inside j l)));
            once = λ j k l m e.
                each_once g (ids_of g) s r j k (inside j l) (inside k m)
                (sym ((stands r h).action_is j (inside j l)) ∙ (e ∙ (stands r h).action_is k (inside k m)));
            visits_rise = λ j k i m n l q d e less.
                visits_rise_law g (ids_of g) s r o five i m n j k (inside j l) (inside k q) (decoded j (visit i m) (inside j l) d)
                (decoded k (visit i n) (inside k q) e) less;
            leaves_rise = λ j k m n l q d e less.
                leaves_rise_law g (ids_of g) s r o five m n j k (inside j l) (inside k q) (decoded j (leave m) (inside j l) d)
                (decoded k (leave n) (inside k q) e) less;
            ended = last;
            arguments_first = λ j q k i l d f e m. available j (argument g r k i) (inside j l)
                (arguments_first_law g (ids_of g) s r o five j q k i (inside j l) (decoded j (compute q) (inside j l) d) f e m);
            handed_down = λ j i n q l d t.
                earlier_before r h j q (lt_le (inside j l))
                (handed_down_law g (ids_of g) s r o j i n q (inside j l) (decoded j (visit i n) (inside j l) d)
                (inherited_forth g p s w same r h i n q t));
            handed_up = λ j n q l d t.
                earlier_before r h j q (lt_le (inside j l))
                (handed_up_law g (ids_of g) s r o j n q (inside j l) (decoded j (leave n) (inside j l) d)
                (synthesized_forth g p s w same r h 0 n q t));
            zeros = λ j l m. (stands r h).zeros j (subst (λ (n : ℕ). n ≤ j) (stands r h).length_is l) m;
          }
        where
          lt_le : {j n : ℕ} → j < n → j ≤ n
          lt_le l = omega arith

          last : decode (action_at p r (sequence_length p r - 1)) ≡ leave (visits p (symbol_of g r 0))
          last =
              let some : 1 ≤ length (sequence_of g (ids_of g) s r) = some_action in
              ap decode (ap (λ (n : ℕ). action_at p r (n - 1)) (stands r h).length_is ∙ (stands r h).action_is (length (sequence_of g (ids_of g) s r) - 1) (omega arith))
              ∙ (ended_by_last_leave g (ids_of g) s r o five
              ∙ ap leave (sym (visits_same g p s w same (symbol_of g r 0) (symbol_small g p s w same r h 0 (omega arith)))))
            where
              some_action : 1 ≤ length (sequence_of g (ids_of g) s r)
              some_action = let e = every_action g (ids_of g) s r o 128 (first_leave g s r) in omega (arith, e.earlier)

          available : (j a : ℕ) → j < length (sequence_of g (ids_of g) s r)
              → T (not (nonterminal g (symbol_of g r (position a)))) ⊎ (T (inherited_of g s r 0 1 a)
              ⊎ ((e : ℕ) × DoneBefore (sequence_of g (ids_of g) s r) j e × T (makes g s r (decode e) a)))
              → Available g p r j a
          available j a l (inl t) = Available.always (FromStart.of_terminal t)
          available j a l (inr (inl t)) = Available.always (FromStart.of_first_visit (inherited_forth g s p w back r h 0 1 a t))
          available j a l (inr (inr m)) =
              Available.made m.0 (earlier_before r h j m.0 (lt_le l) m.1) (makes_forth g s p w back r h (decode m.0) a m.2)

    set_fits : (x a : ℕ) → Exists g x a → SetFits g p x a
    set_fits x a e =
        let hx : x < symbols g = ltb→lt x (symbols g) e.counts in
        let small : x < 32 = omega (arith, w.symbols_fit) in
        let la : a < 8 = omega (arith, (w.symbol x hx).attributes_fit, e.attribute_is) in
        let equal : set_number p x a ≡ set_number s x a = same x a small la in
        let low : 1 ≤ set_number s x a = set_placed g good none x hx (eqb→eq (kind g x) 0 e.nonterminal_is) a e.attribute_is in
        record {
          low = omega (arith, equal, low);
          high = omega (arith, equal, number_nine g (ids_of g) x a la);
          class = subst⁻¹ (λ (k : ℕ). T (of_class g x k a)) equal (number_of_class g (ids_of g) x a la low);
        }

    nothing_there : (x a : ℕ) → x < most_symbols → a < most_attributes → (Exists g x a → ⊥) → set_number p x a ≡ 0
    nothing_there x a hx ha missing =
        same x a hx ha
        ∙ ⊎_elim
        (λ l.
        number_of_other g (ids_of g) x a
        (λ c k. missing (record { counts = lt→ltb x (symbols g) c; nonterminal_is = eq_T (kind g x) 0 k; attribute_is = l })) ha)
        (λ l. number_where_nothing g (ids_of g) x a l ha) (below_or_not a (attributes g x))

    -- the start's attributes are all synthesized and have no successors: they are in set 1
    start_set_law : (a : ℕ) → a < attributes g (start g) → set_number p (start g) a ≡ 1
    start_set_law a l =
        let x : ℕ = start g in
        let small : start g < 32 = omega (arith, w.start_fits, w.symbols_fit) in
        let la : a < 8 = omega (arith, (w.symbol (start g) w.start_fits).attributes_fit) in
        same (start g) a small la
        ∙ (word_of_symbol g (ids_of g) (start g) a small la
        ∙ ((paper_sets g good none (start g) w.start_fits w.start_nonterminal).each 1 (omega arith)).largest (λ b. b < attributes g (start g))
        (record {
          attribute_of = λ b m. m;
          unplaced = λ b m e. absurd (let z : ⊥ = omega (arith, e.0, e.1) in z);
          class = λ b m. odd_synthesized g (start g) 1 b (subst⁻¹ (λ (n : ℕ). T (not (hasb b n))) w.start_mask (none_left b)) refl;
          successors = λ b c m i. inr (ids_occurs g i).end_fits;
        }) a l)

    symbol_sound : (x : ℕ) → x < most_symbols → SymbolSound g p x
    symbol_sound x h =
        record {
          sets = set_fits x;
          nothing = λ a l. nothing_there x a h l;
          start_set = λ e a. subst⁻¹ (λ (y : ℕ). a < attributes g y → set_number p y a ≡ 1) e (start_set_law a);
        }

    -- whatever the planner writes is sound
    pub planned_sound : Sound g p
    planned_sound = record { symbol = symbol_sound; rule = rule_sound }
