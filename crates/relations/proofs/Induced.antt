-- What holds of IDS and IDP of a well-formed table: IDS is transitive, has no arc at a terminal, and has no cycle where IDP has none.
-- The ends of IDP arcs are occurrences, and each IDS arc stands at some position of a rule. Assumes nothing.
use Prim.Native.Nat.{ℕ, ◌<◌}
use mathlib.Core.Path.{◌≡◌, refl, ◌∙◌, ap, subst, subst⁻¹}
use mathlib.Core.Bool.{Bool, true, false, cond, not}
use mathlib.Core.List.{List}
use native.Mathlib.Omega.{arith}
use lib.Dec.{T, eqb, eqb→eq}
use Rattle.bits.specs.Bit.{bit, hasb}
use Rattle.bits.proofs.BitLaws.{bit_of_zero}
use Rattle.basics.proofs.TestLaws.{and_right, true_T}
use Rattle.grammar.specs.Table.{
  symbols,
  rules,
  kind,
  mask,
  symbol_of,
  occurrence,
  occurrence_of,
  position,
  attribute,
  inherited_at,
  defining_class,
  defining,
  rule_counts,
}
use Rattle.grammar.specs.WellFormed.{WellFormed}
use Rattle.grammar.proofs.AcceptedTable.{defining_occurs}
use Rattle.relations.specs.Paper.{Path⁺, OnCycle, Stands, IDP, IDS, IDP⁺}
use Rattle.relations.proofs.PathLaws.{path_closed, path_first, path_last}
use Rattle.relations.proofs.Occurrences.{
  counts_below,
  occurs_inside,
  dp_target,
  dp_argument,
  stands_symbol,
  symbol_at,
  stands_occurs,
}
use Rattle.relations.proofs.Least.{ids_occurs, idp_paths_law}

module _ (g : List ℕ) where
  -- an IDS arc stands at every occurrence of its symbol
  pub ids_at : (r i x a b : ℕ) → Stands g r i x → IDS g x a b → IDP g r (occurrence_of i a) (occurrence_of i b)
  ids_at r i x a b s e = IDP.induced r i x a b (occurrence_of i a) (occurrence_of i b) s e refl refl

  -- two IDS arcs that meet are a path at one position, so they are one arc
  pub ids_transitive : (x a b c : ℕ) → IDS g x a b → IDS g x b c → IDS g x a c
  ids_transitive x a b c d e =
      let f = ids_occurs g d in
      IDS.from f.rule f.place x a c f.stands f.start_fits (ids_occurs g e).end_fits
      (IDP⁺.more f.rule (occurrence_of f.place a) (occurrence_of f.place b) (occurrence_of f.place c) f.way
      (ids_at f.rule f.place x b c f.stands e))

  -- so a path of IDS arcs is one
  pub ids_path : (x : ℕ) {a b : ℕ} → Path⁺ (λ c d. IDS g x c d) a b → IDS g x a b
  ids_path x p = path_closed (ids_transitive x) p

  -- where no rule has a cycle of IDP, no symbol has a cycle of IDS
  pub ids_acyclic : ((r o : ℕ) → T (rule_counts g r) → OnCycle (λ c d. IDP g r c d) o → ⊥)
      → (x a : ℕ) → OnCycle (λ c d. IDS g x c d) a → ⊥
  ids_acyclic none x a p =
      let f = ids_occurs g (ids_path x p) in
      none f.rule (occurrence_of f.place a) f.stands.counts (idp_paths_law g f.way)

  module _ (w : WellFormed g) where
    -- the symbol of an IDS arc is one of the table
    pub ids_symbol : {x a b : ℕ} → IDS g x a b → x < symbols g
    ids_symbol {x} e = let f = ids_occurs g e in stands_symbol g w f.rule f.place x f.stands

    -- the ends of an IDP arc are occurrences of the rule
    pub idp_from : {r a b : ℕ} → T (rule_counts g r) → IDP g r a b → T (occurrence g r a)
    idp_from c (IDP.direct r a b d) = dp_argument g w r a b c d
    idp_from c (IDP.induced r i x a b p q s e f h) =
        subst⁻¹ (λ (o : ℕ). T (occurrence g r o)) f (stands_occurs g w r i x a s (ids_occurs g e).start_fits)

    pub idp_to : {r a b : ℕ} → T (rule_counts g r) → IDP g r a b → T (occurrence g r b)
    idp_to c (IDP.direct r a b d) = defining_occurs g r b (dp_target g w r a b c d)
    idp_to c (IDP.induced r i x a b p q s e f h) =
        subst⁻¹ (λ (o : ℕ). T (occurrence g r o)) h (stands_occurs g w r i x b s (ids_occurs g e).end_fits)

    -- and so are the ends of a path
    pub idp_path_from : {r a b : ℕ} → T (rule_counts g r) → IDP⁺ g r a b → T (occurrence g r a)
    idp_path_from c p = idp_from c (path_first (idp_paths_law g p)).1

    pub idp_path_to : {r a b : ℕ} → T (rule_counts g r) → IDP⁺ g r a b → T (occurrence g r b)
    idp_path_to c p = idp_to c (path_last (idp_paths_law g p)).1

    -- no defining occurrence is a terminal's: the left side is none, and a terminal inherits nothing
    pub defining_nonterminal : (r o : ℕ) → T (rule_counts g r) → kind g (symbol_of g r (position o)) ≡ 1 → T (defining g r o) → ⊥
    unfolding defining defining_class inherited_at
    defining_nonterminal r o c k t = go (eqb (position o) 0) refl (and_right _ _ t)
      where
        x : ℕ
        x = symbol_of g r (position o)

        h : r < rules g
        h = counts_below g r c

        go : (b : Bool) → eqb (position o) 0 ≡ b → T (cond b (not (hasb (attribute o) (mask g x))) (hasb (attribute o) (mask g x))) → ⊥
        go true e u =
            let z : position o ≡ 0 = eqb→eq (position o) 0 (true_T (eqb (position o) 0) e) in
            omega (arith, ap (λ (i : ℕ). kind g (symbol_of g r i)) z, (w.rule r h).left_nonterminal)
        go false e u =
            let m : mask g x ≡ 0 = (w.symbol x ((w.rule r h).symbols_fit (position o) (occurs_inside g r o (defining_occurs g r o t)))).terminal_mask k in
            omega (arith, eqb→eq (bit (attribute o) (mask g x)) 1 u, ap (λ (s : ℕ). bit (attribute o) s) m ∙ bit_of_zero (attribute o))

    -- no arc leads to an attribute of a terminal: a direct one has a defining target, an induced one comes from such an arc
    mutual
      pub idp_terminal : {r a b : ℕ} → T (rule_counts g r) → kind g (symbol_of g r (position b)) ≡ 1 → IDP g r a b → ⊥
      idp_terminal c k (IDP.direct r a b d) = defining_nonterminal r b c k (dp_target g w r a b c d)
      idp_terminal c k (IDP.induced r i x a b p q s e f h) =
          ids_terminal
          (subst (λ (y : ℕ). kind g y ≡ 1) (ap (λ (o : ℕ). symbol_of g r (position o)) h ∙ symbol_at g w r i x b s (ids_occurs g e).end_fits) k) e

      -- IDS of a terminal is empty
      pub ids_terminal : {x a b : ℕ} → kind g x ≡ 1 → IDS g x a b → ⊥
      ids_terminal k (IDS.from r i x a b s h l p) =
          idp_path_terminal s.counts (subst⁻¹ (λ (y : ℕ). kind g y ≡ 1) (symbol_at g w r i x b s l) k) p

      idp_path_terminal : {r a b : ℕ} → T (rule_counts g r) → kind g (symbol_of g r (position b)) ≡ 1 → IDP⁺ g r a b → ⊥
      idp_path_terminal c k (IDP⁺.one r a b e) = idp_terminal c k e
      idp_path_terminal t k (IDP⁺.more r a b c p e) = idp_terminal t k e
