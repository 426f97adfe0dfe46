-- The computed relations are the paper's: for every accepted table ids_of is IDS, and idp over it is IDP with its paths.
-- Any state whose arcs have a reason and that has what its paths induce is that one state. Assumes nothing.
use Prim.Native.Nat.{ℕ, suc, ◌≤◌, ◌<◌}
use mathlib.Core.Path.{◌≡◌, sym, ◌∙◌, subst, subst⁻¹}
use mathlib.Core.Logic.{⊎_elim, ◌↔◌}
use mathlib.Core.Bool.{Bool}
use mathlib.Core.List.{List}
use native.Mathlib.Omega.{arith}
use lib.Dec.{T, eqb→eq, ltb→lt, lt→ltb}
use lib.ListN.{replicate}
use Rattle.basics.specs.Tests.{◌and◌, ◌or◌, some}
use Rattle.basics.proofs.TestLaws.{or_left, or_right, or_cases, and_intro, and_left, and_right, some_at, some_find, eq_T, same_test}
use Rattle.grammar.specs.Limits.{most_attributes}
use Rattle.grammar.specs.Verdicts.{Good}
use Rattle.grammar.specs.Reading.{read_table}
use Rattle.grammar.specs.Table.{symbols, attributes, right_length, symbol_of, occurrence, occurrence_of, position, attribute, rule_counts}
use Rattle.grammar.specs.WellFormed.{WellFormed}
use Rattle.grammar.proofs.AcceptedTable.{accepted}
use Rattle.relations.specs.Paper.{Path⁺, Stands, IDP, IDS, IDP⁺}
use Rattle.relations.specs.Computed.{dp, arc_in, induced_arc, idp, idp_path, induced_at, is_induced, round, rounds, ids_of}
use Rattle.relations.proofs.PathLaws.{path_map, path_sound, path_complete}
use Rattle.relations.proofs.Occurrences.{
  position_of,
  attribute_of,
  occurrence_is,
  counts_below,
  occurs_stands,
  dp_sound,
  dp_complete,
  dp_argument,
  stands_symbol,
  attribute_fits,
  symbol_at,
  stands_occurs,
  occurrences_exact,
}
use Rattle.relations.proofs.Rounds.{
  State,
  arc_inside,
  state_ext,
  empty_arcs,
  round_state,
  round_arcs,
  rounds_keep,
  ids_state,
  ids_keeps,
}
use Rattle.relations.proofs.Least.{paths_idp, ids_occurs}

module _ (g : List ℕ) where
  -- every arc of the state is an IDS arc
  abbrev pub ArcsSound : List ℕ → Type 0
  ArcsSound s = (x a b : ℕ) → b < most_attributes → T (arc_in s x a b) → IDS g x a b

  -- the state has every arc that a path in some rule induces
  abbrev pub Closed : List ℕ → Type 0
  Closed s =
      (r i x a b : ℕ) → Stands g r i x → a < attributes g x → b < attributes g x
      → Path⁺ (λ c d. T (idp g s r c d)) (occurrence_of i a) (occurrence_of i b) → T (arc_in s x a b)

  module _ (s : List ℕ) (f : ArcsSound s) where
    induced_sound : (r a b : ℕ) → T (rule_counts g r) → T (induced_arc g s r a b) → IDP g r a b
    unfolding induced_arc
    induced_sound r a b c t =
        let e : position a ≡ position b = eqb→eq _ _ (and_left _ _ (and_right _ _ (and_right _ _ t))) in
        let at : b ≡ occurrence_of (position a) (attribute b) = omega (arith, occurrence_is b) in
        IDP.induced r (position a) (symbol_of g r (position a)) (attribute a) (attribute b) a b (occurs_stands g r a c (and_left _ _ t))
        (f (symbol_of g r (position a)) (attribute a) (attribute b) (omega arith) (and_right _ _ (and_right _ _ (and_right _ _ t))))
        (occurrence_is a) at

    -- where the state is sound, each computed arc is an IDP arc
    pub idp_sound : (r a b : ℕ) → T (rule_counts g r) → T (idp g s r a b) → IDP g r a b
    unfolding idp
    idp_sound r a b c t =
        ⊎_elim (λ d. IDP.direct r a b (dp_sound g r a b d)) (λ i. induced_sound r a b c i) (or_cases _ _ t)

    -- and each path of them a path of IDP
    pub paths_sound : (r : ℕ) → T (rule_counts g r) → {a b : ℕ} → Path⁺ (λ c d. T (idp g s r c d)) a b → IDP⁺ g r a b
    paths_sound r c p = paths_idp g (path_map (λ a b. idp_sound r a b c) p)

    -- what such a state induces is in IDS
    at_position : (x a b r i : ℕ) → T (rule_counts g r) → i < suc (right_length g r) → a < attributes g x → b < attributes g x
        → T (induced_at g s x a b r i) → IDS g x a b
    unfolding induced_at idp_path
    at_position x a b r i c h la lb t =
        IDS.from r i x a b (record { counts = c; inside = omega arith; symbol_is = eqb→eq _ _ (and_left _ _ t) }) la lb
        (paths_sound r c (path_sound _ _ _ _ (and_right _ _ t)))

    in_rule : (n x a b r : ℕ) → a < attributes g x → b < attributes g x
        → T (rule_counts g r and some n (λ i. induced_at g s x a b r i)) → n ≤ suc (right_length g r) → IDS g x a b
    in_rule n x a b r la lb t h =
        let i = some_find n (λ i. induced_at g s x a b r i) (and_right _ _ t) in
        at_position x a b r i.0 (and_left _ _ t) (omega (arith, i.1)) la lb i.2

    is_induced_sound : (x a b : ℕ) → T (is_induced g s x a b) → IDS g x a b
    unfolding is_induced
    is_induced_sound x a b t =
        let r = some_find _ _ (and_right _ _ (and_right _ _ t)) in
        in_rule _ x a b r.0 (ltb→lt _ _ (and_left _ _ t)) (ltb→lt _ _ (and_left _ _ (and_right _ _ t))) r.2 (omega arith)

  -- a round adds only IDS arcs, so after any number of rounds every arc is one
  round_sound : (s : List ℕ) → ArcsSound s → ArcsSound (round g s)
  round_sound s f x a b h t =
      let l = arc_inside g (round g s) (round_state g s) x a b t in
      ⊎_elim (λ o. f x a b h o) (λ i. is_induced_sound s f x a b i)
      (or_cases _ _ (subst (λ (c : Bool). T c) (round_arcs g s x a b l.0 l.1 h) t))

  pub rounds_sound : (n : ℕ) → ArcsSound (rounds g n (replicate (symbols g) 0))
  rounds_sound n = rounds_keep g ArcsSound round_sound n (replicate (symbols g) 0) (λ x a b h t. absurd (empty_arcs g x a b t))

  pub ids_sound : ArcsSound (ids_of g)
  unfolding ids_of
  ids_sound = rounds_sound _

  module _ (w : WellFormed g) where
    -- the start of a computed arc is an occurrence, so the computed paths are the paths of the computed arcs
    idp_start : (s : List ℕ) (r a b : ℕ) → T (rule_counts g r) → T (idp g s r a b) → T (occurrence g r a)
    unfolding idp induced_arc
    idp_start s r a b c t =
        ⊎_elim (λ d. dp_argument g w r a b c (dp_sound g r a b d)) (λ i. and_left _ _ i) (or_cases _ _ t)

    pub idp_path_computed : (s : List ℕ) (r a b : ℕ) → T (rule_counts g r)
        → T (idp_path g s r a b) ↔ Path⁺ (λ c d. T (idp g s r c d)) a b
    unfolding idp_path
    idp_path_computed s r a b c =
        (λ t. path_sound _ _ _ _ t, λ p. path_complete _ _ (λ d e t. (occurrences_exact g w r d c).1 (idp_start s r d e c t)) p)

    -- an arc of the state stands at each occurrence of its symbol
    arc_induced : (s : List ℕ) (r i x a b : ℕ) → Stands g r i x → a < attributes g x → b < attributes g x → T (arc_in s x a b)
        → T (induced_arc g s r (occurrence_of i a) (occurrence_of i b))
    unfolding induced_arc
    arc_induced s r i x a b v la lb t =
        let h : x < symbols g = stands_symbol g w r i x v in
        let fa : a < most_attributes = attribute_fits g w x a h la in
        let fb : b < most_attributes = attribute_fits g w x b h lb in
        and_intro _ _ (stands_occurs g w r i x a v la) (and_intro _ _ (stands_occurs g w r i x b v lb)
        (and_intro _ _ (eq_T _ _ (position_of i a fa ∙ sym (position_of i b fb)))
        (subst⁻¹ (λ (z : ℕ). T (arc_in s z (attribute (occurrence_of i a)) (attribute (occurrence_of i b)))) (symbol_at g w r i x a v la)
        (subst⁻¹ (λ (c : ℕ). T (arc_in s x c (attribute (occurrence_of i b)))) (attribute_of i a fa)
        (subst⁻¹ (λ (d : ℕ). T (arc_in s x a d)) (attribute_of i b fb) t)))))

    -- where the state is closed, everything that has a reason is computed from it
    module _ (s : List ℕ) (f : Closed s) where
      mutual
        unfolding idp

        pub idp_complete : {r a b : ℕ} → IDP g r a b → T (idp g s r a b)
        idp_complete (IDP.direct r a b d) = or_left _ _ (dp_complete g r a b d)
        idp_complete (IDP.induced r i x a b p q v e h l) =
            subst⁻¹ (λ (n : ℕ). T (dp g r n q or induced_arc g s r n q)) h
            (subst⁻¹ (λ (n : ℕ). T (dp g r (occurrence_of i a) n or induced_arc g s r (occurrence_of i a) n)) l
            (or_right _ _ (arc_induced s r i x a b v (ids_occurs g e).start_fits (ids_occurs g e).end_fits (ids_complete e))))

        pub ids_complete : {x a b : ℕ} → IDS g x a b → T (arc_in s x a b)
        ids_complete (IDS.from r i x a b v la lb p) = f r i x a b v la lb (paths_complete p)

        pub paths_complete : {r a b : ℕ} → IDP⁺ g r a b → Path⁺ (λ c d. T (idp g s r c d)) a b
        paths_complete (IDP⁺.one r a b e) = Path⁺.one (idp_complete e)
        paths_complete (IDP⁺.more r a b c p e) = Path⁺.more (paths_complete p) (idp_complete e)

    -- a path in a rule between attributes of one position induces an arc, so the last state is closed
    path_induces : (s : List ℕ) (r i x a b : ℕ) → Stands g r i x → a < attributes g x → b < attributes g x
        → T (idp_path g s r (occurrence_of i a) (occurrence_of i b)) → T (is_induced g s x a b)
    unfolding is_induced induced_at
    path_induces s r i x a b v la lb t =
        and_intro _ _ (lt→ltb _ _ la) (and_intro _ _ (lt→ltb _ _ lb)
        (some_at _ _ r (counts_below g r v.counts)
        (and_intro _ _ v.counts (some_at _ _ i (omega (arith, v.inside)) (and_intro _ _ (eq_T _ _ v.symbol_is) t)))))

    pub ids_closed : Closed (ids_of g)
    ids_closed r i x a b v la lb p =
        let h : x < symbols g = stands_symbol g w r i x v in
        ids_keeps g x a b h (attribute_fits g w x a h la) (attribute_fits g w x b h lb)
        (path_induces (ids_of g) r i x a b v la lb
        ((idp_path_computed (ids_of g) r (occurrence_of i a) (occurrence_of i b) v.counts).1 p))

    -- a state that is sound and closed is the computed one, whatever the order in which its arcs were found
    pub ids_unique : (s : List ℕ) → State g s → ArcsSound s → Closed s → s ≡ ids_of g
    ids_unique s v f c =
        state_ext g s (ids_of g) v (ids_state g)
        (λ x a b la lb.
        same_test (arc_in s x a b) (arc_in (ids_of g) x a b) (λ t. ids_complete (ids_of g) ids_closed (f x a b lb t))
        (λ t. ids_complete s c (ids_sound x a b lb t)))

-- the computed IDS is IDS
pub ids_exact : (g : List ℕ) → read_table g ≡ Good → (x a b : ℕ) → b < most_attributes → T (arc_in (ids_of g) x a b) ↔ IDS g x a b
ids_exact g good x a b h =
    let w = accepted g good in (λ t. ids_sound g x a b h t, λ e. ids_complete g w (ids_of g) (ids_closed g w) e)

-- the computed IDP is IDP
pub idp_exact : (g : List ℕ) → read_table g ≡ Good → (r a b : ℕ) → T (rule_counts g r) → T (idp g (ids_of g) r a b) ↔ IDP g r a b
idp_exact g good r a b c =
    let w = accepted g good in
    (λ t. idp_sound g (ids_of g) (ids_sound g) r a b c t, λ e. idp_complete g w (ids_of g) (ids_closed g w) e)

-- and its computed paths are its paths
pub idp_path_exact : (g : List ℕ) → read_table g ≡ Good → (r a b : ℕ) → T (rule_counts g r) → T (idp_path g (ids_of g) r a b) ↔ IDP⁺ g r a b
idp_path_exact g good r a b c =
    let w = accepted g good in (
      λ t. paths_sound g (ids_of g) (ids_sound g) r c ((idp_path_computed g w (ids_of g) r a b c).0 t),
      λ p. (idp_path_computed g w (ids_of g) r a b c).1 (paths_complete g w (ids_of g) (ids_closed g w) p),
    )
