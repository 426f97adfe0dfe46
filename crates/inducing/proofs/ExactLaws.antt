-- Where no rule is stale, the rows hold the paths of IDP and the state is IDS: the rows are closed, have DP and every arc of the state at each
-- position, and hand on nothing new. So nothing is missing, and nothing was ever too much. Assumes nothing.
use Prim.Native.Nat.{ℕ, ◌+◌, ◌*◌, ◌-◌, ◌/◌, ◌%◌, ◌^◌, ◌≤◌, ◌<◌}
use mathlib.Core.Path.{◌≡◌, sym, ◌∙◌, ap, subst, subst⁻¹}
use mathlib.Core.Logic.{⊎_elim}
use mathlib.Core.Bool.{Bool}
use mathlib.Core.List.{List}
use native.Mathlib.Omega.{arith}
use lib.Dec.{T, T_not, eqb→eq, lt→ltb}
use lib.ListN.{length, take, replicate, length-take, get_or-append, get_or-eq_default}
use lib.Seq.{ext_get_or, get_or-take}
use Rattle.bits.specs.Bit.{hasb}
use Rattle.bits.proofs.MemberLaws.{none_left, small_set}
use Rattle.basics.specs.Lists.{word, padded}
use Rattle.basics.proofs.TestLaws.{or_cases, and_intro, and_left, and_right, below_or_not}
use Rattle.basics.proofs.ListLaws.{length_padded, get_d_past}
use Rattle.grammar.specs.Verdicts.{Good}
use Rattle.grammar.specs.Table.{symbols, rules, attributes, symbol_of, position, attribute}
use Rattle.grammar.specs.Reading.{read_table}
use Rattle.grammar.specs.WellFormed.{WellFormed}
use Rattle.grammar.proofs.AcceptedTable.{accepted}
use Rattle.relations.specs.Paper.{IDS, IDP⁺}
use Rattle.relations.specs.Computed.{arc_in, induced_arc, idp, ids_of}
use Rattle.relations.proofs.Least.{ids_occurs}
use Rattle.relations.proofs.Occurrences.{counts_below, occurs_below, occurs_inside, dp_sound, attribute_fits}
use Rattle.relations.proofs.Rounds.{State, ids_state}
use Rattle.relations.proofs.Induced.{ids_symbol}
use Rattle.relations.proofs.ExactIdp.{ArcsSound as Sound, Closed, paths_complete, ids_unique, idp_path_exact}
use Rattle.closing.specs.Rows.{leads, arcs_at}
use Rattle.closing.proofs.GatherLaws.{arc_at}
use Rattle.plans.specs.Buffers.{over, rows_of}
use Rattle.plans.specs.Answer.{idp_paths}
use Rattle.inducing.specs.Rules.{rule_rows, Holds, Frame, Cleared, Arcs, Standing}
use Rattle.inducing.specs.Stale.{Fresh, Stale}
use Rattle.inducing.proofs.RuleRowLaws.{counts}
use Rattle.inducing.proofs.HoldsLaws.{frame_then, path_leads, holds_rows}
use Rattle.inducing.proofs.ClearLaws.{zero_words, cleared_rules}

-- a padded list has the words of the list, and zeros
pub padded_word : (n : ℕ) (xs : List ℕ) (x : ℕ) → word (padded n xs) x ≡ word xs x
unfolding padded
padded_word n xs x =
    ⊎_elim (λ l. get_or-append xs (replicate (n - length xs) 0) 0 x l)
    (λ l.
    get_d_past xs (replicate (n - length xs) 0) 0 x l
    ∙ (zero_words (n - length xs) (x - length xs) ∙ sym (get_or-eq_default xs 0 {n = x} l)))
    (below_or_not x (length xs))

module _ (g : List ℕ) (good : read_table g ≡ Good) where
  formed : WellFormed g
  formed = accepted g good

  -- the words of a state whose arcs are IDS arcs fit, and are 0 past the last symbol
  pub arc_small : (x k : ℕ) → IDS g x (k / 8) (k % 8) → k < 64
  arc_small x k e =
      let h : k / 8 < 8 = attribute_fits g formed x (k / 8) (ids_symbol g formed e) (ids_occurs g e).start_fits in omega arith

  pub arc_symbol : (x k : ℕ) → IDS g x (k / 8) (k % 8) → x < 32
  arc_symbol x k e = omega (arith, ids_symbol g formed e, formed.symbols_fit)

  state_fits : (ids : List ℕ) → Arcs g ids → (x : ℕ) → word ids x < 2 ^ 64
  state_fits ids f x = small_set 64 (word ids x) (λ k t. arc_small x k (f x k t))

  past_symbols : (ids : List ℕ) → Arcs g ids → (x : ℕ) → symbols g ≤ x → word ids x ≡ 0
  past_symbols ids f x h =
      let z : word ids x < 2 ^ 0 = small_set 0 (word ids x) (λ k t. absurd (let l = ids_symbol g formed (f x k t) in omega arith)) in omega arith

  module _ (entry rows ids : List ℕ) (w : Standing g (rules g) rows ids) (f : Frame g entry rows) (v : (r : ℕ) → r < rules g → Fresh g rows ids r) where
    -- the state, a word for each symbol
    s : List ℕ
    s = take (symbols g) ids

    s_length : length s ≡ symbols g
    unfolding s
    s_length = omega (arith, length-take (symbols g) ids, w.sized, formed.symbols_fit)

    s_word : (x : ℕ) → word s x ≡ word ids x
    unfolding s
    s_word x =
        ⊎_elim (λ l. get_or-take (symbols g) ids x 0 l)
        (λ l. get_or-eq_default s 0 {n = x} (omega (arith, s_length)) ∙ sym (past_symbols ids w.arcs x l)) (below_or_not x (symbols g))

    s_state : State g s
    s_state = record { sized = s_length; fits = λ x. subst⁻¹ (λ (n : ℕ). n < 2 ^ 64) (s_word x) (state_fits ids w.arcs x) }

    s_sound : Sound g s
    unfolding arc_in
    s_sound x a b h t =
        let p : (8 * a + b) / 8 ≡ a = omega arith in
        let q : (8 * a + b) % 8 ≡ b = omega arith in
        subst (λ (n : ℕ). IDS g x n b) p
        (subst (λ (n : ℕ). IDS g x ((8 * a + b) / 8) n) q (w.arcs x (8 * a + b) (subst (λ (n : ℕ). T (hasb (8 * a + b) n)) (s_word x) t)))

    -- every computed arc of a rule is in its rows
    induced_leads : (r c d : ℕ) → r < rules g → T (induced_arc g s r c d) → (c < 64) × T (leads (rule_rows rows r) c d)
    unfolding induced_arc arc_in
    induced_leads r c d h t =
        let i : ℕ = position c in
        let k : ℕ = 8 * attribute c + attribute d in
        let t₁ = and_right _ _ t in
        let t₂ = and_right _ _ t₁ in
        let e : position c ≡ position d = eqb→eq _ _ (and_left _ _ t₂) in
        let start : 8 * i + k / 8 ≡ c = omega arith in
        let end : 8 * i + k % 8 ≡ d = omega arith in (
          occurs_below g formed r c (counts g good r h) (and_left _ _ t),
          subst (λ (o : ℕ). T (leads (rule_rows rows r) o d)) start
              (subst (λ (o : ℕ). T (leads (rule_rows rows r) (8 * i + k / 8) o)) end
              ((v r h).spreads i k (occurs_inside g r c (and_left _ _ t))
              (subst (λ (n : ℕ). T (hasb k n)) (s_word (symbol_of g r i)) (and_right _ _ t₂)))),
        )

    arc_leads : (r c d : ℕ) → r < rules g → T (idp g s r c d) → (c < 64) × T (leads (rule_rows rows r) c d)
    unfolding idp
    arc_leads r c d h t = ⊎_elim (λ u. w.holds.has r c d h (h, dp_sound g r c d u)) (λ u. induced_leads r c d h u) (or_cases _ _ t)

    -- so the rows lie between the computed arcs and IDP
    computed : Holds g (λ r a b. T (idp g s r a b)) (λ r a b. IDP⁺ g r a b) rows
    computed =
        record {
          room = w.holds.room;
          kept = w.holds.kept;
          has = λ r c d h t. arc_leads r c d h t;
          within = w.holds.within;
        }

    s_closed : Closed g s
    unfolding arc_in
    s_closed r i x a b u la lb p =
        let h : r < rules g = counts_below g r u.counts in
        let k : ℕ = 8 * a + b in
        let fx : x < symbols g = subst (λ (y : ℕ). y < symbols g) u.symbol_is ((formed.rule r h).symbols_fit i u.inside) in
        let fa : a < 8 = attribute_fits g formed x a fx la in
        let fb : b < 8 = attribute_fits g formed x b fx lb in
        let ka : a ≡ k / 8 = omega arith in
        let kb : b ≡ k % 8 = omega arith in
        let way : T (leads (rule_rows rows r) (8 * i + a) (8 * i + b)) = (path_leads g (λ r a b. T (idp g s r a b)) (λ r a b. IDP⁺ g r a b) rows computed r h p).1 in
        let c : ℕ = attributes g (symbol_of g r i) in
        let room : k / 8 < c = omega (arith, ap (attributes g) u.symbol_is) in
        let here : T (hasb k (arcs_at (rule_rows rows r) i c)) =
        subst⁻¹ (λ (z : Bool). T z) (arc_at (rule_rows rows r) i c k (omega arith))
        (and_intro _ _ (lt→ltb (k / 8) c room)
        (subst (λ (n : ℕ). T (leads (rule_rows rows r) (8 * i + n) (8 * i + k % 8))) ka
        (subst (λ (n : ℕ). T (leads (rule_rows rows r) (8 * i + a) (8 * i + n))) kb way))) in
        subst⁻¹ (λ (n : ℕ). T (hasb k n)) (s_word x)
        (subst (λ (y : ℕ). T (hasb k (word ids y))) u.symbol_is ((v r h).gathers i k u.inside here))

    s_is : s ≡ ids_of g
    s_is = ids_unique g formed s s_state s_sound s_closed

    -- the state is IDS
    state_is : ids ≡ padded 32 (ids_of g)
    state_is =
        ext_get_or 0 ids (padded 32 (ids_of g))
        (w.sized ∙ sym (length_padded 32 (ids_of g) (omega (arith, (ids_state g).sized, formed.symbols_fit))))
        (λ x h. sym (s_word x) ∙ (ap (λ (t : List ℕ). word t x) s_is ∙ sym (padded_word 32 (ids_of g) x)))

    -- the rows hold the paths of IDP
    rows_is : rows ≡ over (rows_of g (idp_paths g (ids_of g))) entry
    unfolding idp_paths
    rows_is =
        holds_rows g (λ r a b. T (idp g s r a b)) (λ r a b. IDP⁺ g r a b) rows computed entry (idp_paths g (ids_of g)) f
        (λ r o b h t. paths_complete g formed s s_closed ((idp_path_exact g good r o b (counts g good r h)).0 t))
        (λ r o b h p. (idp_path_exact g good r o b (counts g good r h)).1 p)

  -- the rows that were lent, then cleared, then gone through
  module _ (cleared rows ids : List ℕ) (w : Stale g cleared (rules g) 0 rows ids) where
    all_fresh : (r : ℕ) → r < rules g → Fresh g rows ids r
    all_fresh r h = w.fresh r h (λ t. T_not (hasb r 0) (none_left r) t)

    pub induced_state : ids ≡ padded 32 (ids_of g)
    induced_state = state_is cleared rows ids w.standing w.frame all_fresh

    pub induced_rows : (entry : List ℕ) (n : ℕ) → n ≡ rules g → Cleared (64 * n) entry cleared → rows ≡ over (rows_of g (idp_paths g (ids_of g))) entry
    induced_rows entry n e c =
        let d : Cleared (64 * rules g) entry cleared = cleared_rules g entry cleared n e c in
        rows_is entry rows ids w.standing (frame_then g entry cleared rows (record { size = d.size; rest = d.rest }) w.frame) all_fresh
