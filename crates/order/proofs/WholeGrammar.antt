-- The sets of a whole grammar: where no IDP has a cycle there are such sets, the computed ones, and only one numbering is these.
-- EDP over them has the same arcs whoever numbered, so a grammar is ordered exactly if neither IDP nor the computed EDP has a cycle. Assumes nothing.
use Prim.Native.Nat.{ℕ, ◌<◌}
use mathlib.Core.Path.{◌≡◌, sym, ◌∙◌, ap}
use mathlib.Core.Logic.{⊎_elim, ◌↔◌}
use mathlib.Core.List.{List}
use native.Mathlib.Omega.{arith}
use lib.Dec.{ltb→lt, lt→ltb}
use Rattle.basics.specs.Lists.{word}
use Rattle.basics.proofs.TestLaws.{same_or_not}
use Rattle.grammar.specs.Limits.{most_symbols, most_attributes}
use Rattle.grammar.specs.Verdicts.{Good}
use Rattle.grammar.specs.Table.{symbols, kind, attributes}
use Rattle.grammar.specs.Reading.{read_table}
use Rattle.grammar.specs.WellFormed.{WellFormed}
use Rattle.grammar.proofs.AcceptedTable.{accepted}
use Rattle.relations.specs.Paper.{IDP, IDS, Path⁺}
use Rattle.relations.specs.Computed.{ids_of}
use Rattle.relations.proofs.PathLaws.{path_map}
use Rattle.relations.proofs.Occurrences.{stands_symbol, attribute_fits}
use Rattle.relations.proofs.Least.{ids_occurs, idp_paths_law}
use Rattle.relations.proofs.Induced.{ids_terminal, ids_symbol}
use Rattle.sets.specs.Visits.{set_number}
use Rattle.sets.specs.Computed.{sets_of, sets_of_symbol}
use Rattle.sets.proofs.Placing.{word_zeros}
use Rattle.sets.proofs.SetWords.{zeros_for_others, nonterminal_or_not, word_of_symbol}
use Rattle.sets.proofs.OneNumbering.{sets_one}
use Rattle.order.specs.Paper.{Nonterminal, PaperSets, EDP, Neighbouring, CircularIDP, Ordered, IsOrdered}
use Rattle.order.proofs.PaperSets.{paper_sets, neighbouring_paths}

-- the computed sets as a function of symbol and attribute
abbrev pub computed_sets : List ℕ → ℕ → ℕ → ℕ
computed_sets g x a = word (sets_of_symbol g (ids_of g) x) a

-- "Sets of a nonterminal" are one numbering
pub one_numbering_law : (g : List ℕ) (s t : ℕ → ℕ → ℕ) → PaperSets g s → PaperSets g t → (x a : ℕ) → s x a ≡ t x a
one_numbering_law g s t v w x a =
    ⊎_elim
    (λ h.
    let n : Nonterminal g x = record { counts = lt→ltb x (symbols g) h.0; kind_is = h.1 } in
    sets_one g x (IDS g x) (s x) (t x) (v.of_symbol x n) (w.of_symbol x n) a)
    (λ q. let f : ¬ Nonterminal g x = λ n. q (ltb→lt x (symbols g) n.counts) n.kind_is in v.nothing x a f ∙ sym (w.nothing x a f))
    (nonterminal_or_not g (ids_of g) x)

module _ (g : List ℕ) (wf : WellFormed g) where
  -- two numberings that agree on the attributes of the table's symbols
  abbrev Alike : (ℕ → ℕ → ℕ) → (ℕ → ℕ → ℕ) → Type 0
  Alike s t = (x a : ℕ) → x < symbols g → a < attributes g x → s x a ≡ t x a

  -- EDP over the one is EDP over the other
  pub edp_along : (s t : ℕ → ℕ → ℕ) → Alike s t → (r c d : ℕ) → EDP g s r c d → EDP g t r c d
  edp_along s t same r c d (EDP.direct p) = EDP.direct p
  edp_along s t same r c d (EDP.within i x a b w e) = EDP.within i x a b w e
  edp_along s t same r c d (EDP.higher i x a b w l) =
      let h : x < symbols g = stands_symbol g wf r i x w.stands in
      EDP.higher i x a b w (omega (arith, same x a h w.first_fits, same x b h w.second_fits, l))

  neighbouring_along : (s t : ℕ → ℕ → ℕ) → Alike s t → (r c d : ℕ) → Neighbouring g s r c d → Neighbouring g t r c d
  neighbouring_along s t same r c d (Neighbouring.direct p) = Neighbouring.direct p
  neighbouring_along s t same r c d (Neighbouring.within i x a b w e) = Neighbouring.within i x a b w e
  neighbouring_along s t same r c d (Neighbouring.next i x a b w l) =
      let h : x < symbols g = stands_symbol g wf r i x w.stands in
      Neighbouring.next i x a b w (omega (arith, same x a h w.first_fits, same x b h w.second_fits, l))

  -- an arc of IDP is one of EDP, whatever the sets: IDS of a terminal is empty
  pub idp_edp : (set : ℕ → ℕ → ℕ) {r a b : ℕ} → IDP g r a b → EDP g set r a b
  idp_edp set (IDP.direct r a b d) = EDP.direct d
  idp_edp set (IDP.induced r i x a b c d s e f h) =
      let w = ids_occurs g e in
      EDP.within i x a b
      (record {
        stands = s;
        nonterminal_there = nonterminal;
        first_fits = w.start_fits;
        second_fits = w.end_fits;
        first_is = f;
        second_is = h;
      }) e
    where
      nonterminal : kind g x ≡ 0
      nonterminal =
          ⊎_elim (λ k. absurd (ids_terminal g wf k e))
          (λ k. omega (arith, (wf.symbol x (ids_symbol g wf e)).kind_fits)) (same_or_not (kind g x) 1)

  -- so an ordered grammar has no cycle in an IDP
  pub ordered_idp : IsOrdered g → CircularIDP g → ⊥
  ordered_idp o k = o.no_cycle k.0 k.2.0 k.1 (path_map (λ c d e. idp_edp o.set e) (idp_paths_law g k.2.1))

module _ (g : List ℕ) (good : read_table g ≡ Good) (none : CircularIDP g → ⊥) where
  -- the sets exist
  pub sets_exist_law : PaperSets g (computed_sets g)
  sets_exist_law =
      record {
        of_symbol = λ x n. paper_sets g good none x (ltb→lt x (symbols g) n.counts) n.kind_is;
        nothing = λ x a q.
            ap (λ (w : List ℕ). word w a)
            (zeros_for_others g (ids_of g) x (λ h k. q (record { counts = lt→ltb x (symbols g) h; kind_is = k })))
            ∙ word_zeros most_attributes a;
      }

  module _ (set : ℕ → ℕ → ℕ) (sets : PaperSets g set) where
    -- the set words of a plan have these numbers
    pub number_is_law : (x a : ℕ) → x < most_symbols → a < most_attributes → set_number (sets_of g (ids_of g)) x a ≡ set x a
    number_is_law x a h l = word_of_symbol g (ids_of g) x a h l ∙ one_numbering_law g (computed_sets g) set sets_exist_law sets x a

    alike : Alike g (accepted g good) (set_number (sets_of g (ids_of g))) set
    alike x a h l =
        number_is_law x a (omega (arith, (accepted g good).symbols_fit)) (attribute_fits g (accepted g good) x a h l)

    alike_back : Alike g (accepted g good) set (set_number (sets_of g (ids_of g)))
    alike_back x a h l = sym (alike x a h l)

    pub edp_same : (r a b : ℕ) → EDP g (set_number (sets_of g (ids_of g))) r a b ↔ EDP g set r a b
    edp_same r a b = (
      edp_along g (accepted g good) (set_number (sets_of g (ids_of g))) set alike r a b,
      edp_along g (accepted g good) set (set_number (sets_of g (ids_of g))) alike_back r a b,
    )

    pub edp_paths_same : (r a b : ℕ) → Path⁺ (EDP g (set_number (sets_of g (ids_of g))) r) a b ↔ Path⁺ (EDP g set r) a b
    edp_paths_same r a b = (path_map (λ c d. (edp_same r c d).0), path_map (λ c d. (edp_same r c d).1))

    -- "000 adds neighbouring sets only; the paths are equal"
    pub neighbouring_same : (r a b : ℕ) → Path⁺ (EDP g set r) a b ↔ Path⁺ (Neighbouring g set r) a b
    neighbouring_same r a b = (
      λ p.
          path_map (neighbouring_along g (accepted g good) (set_number (sets_of g (ids_of g))) set alike r)
          ((neighbouring_paths g good none r a b).0 ((edp_paths_same r a b).1 p)),
      λ p.
          (edp_paths_same r a b).0
          ((neighbouring_paths g good none r a b).1
          (path_map (neighbouring_along g (accepted g good) set (set_number (sets_of g (ids_of g))) alike_back r) p)),
    )

    ordered_along : Ordered g (set_number (sets_of g (ids_of g))) → Ordered g set
    ordered_along f r o c p = f r o c ((edp_paths_same r o o).1 p)

    pub ordered_back : Ordered g set → Ordered g (set_number (sets_of g (ids_of g)))
    ordered_back f r o c p = f r o c ((edp_paths_same r o o).0 p)

-- a grammar is ordered exactly if no IDP and no EDP over the computed sets has a cycle
pub ordered_computed : (g : List ℕ) → read_table g ≡ Good
    → IsOrdered g ↔ ((CircularIDP g → ⊥) × Ordered g (set_number (sets_of g (ids_of g))))
ordered_computed g good = (
  λ o. let none : CircularIDP g → ⊥ = ordered_idp g (accepted g good) o in (none, ordered_back g good none o.set o.are_sets o.no_cycle),
  λ w.
      record {
        set = computed_sets g;
        are_sets = sets_exist_law g good w.0;
        no_cycle = ordered_along g good w.0 (computed_sets g) (sets_exist_law g good w.0) w.1;
      },
)
