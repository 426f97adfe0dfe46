-- The rows start with the paths of IDP, which are paths of EDP too, for no arc of IDS is a terminal's. Rule by rule the arcs that lead
-- down are added; then every arc of EDP is there, and nothing but its paths. Assumes nothing.
use Prim.Native.Nat.{ℕ, ◌+◌, ◌*◌, ◌/◌, ◌%◌, ◌≤◌, ◌<◌}
use mathlib.Core.Path.{◌≡◌, ◌∙◌, ap, subst, subst⁻¹}
use mathlib.Core.Logic.{◌⊎◌, inl, inr, ⊎_elim}
use mathlib.Core.Bool.{Bool}
use mathlib.Core.List.{List}
use native.Mathlib.Omega.{arith}
use lib.Dec.{T}
use lib.ListN.{length, get_or}
use Rattle.bits.specs.Bit.{hasb}
use Rattle.basics.specs.Lists.{word}
use Rattle.basics.proofs.TestLaws.{below_suc}
use Rattle.grammar.specs.Verdicts.{Good}
use Rattle.grammar.specs.Table.{symbols, rules, length_at, right_length, symbol_of}
use Rattle.grammar.specs.Reading.{read_table}
use Rattle.grammar.specs.WellFormed.{WellFormed}
use Rattle.grammar.proofs.AcceptedTable.{accepted}
use Rattle.relations.specs.Paper.{Path⁺, IDP, IDP⁺}
use Rattle.relations.specs.Computed.{ids_of}
use Rattle.relations.proofs.PathLaws.{path_join, path_map}
use Rattle.relations.proofs.Least.{idp_paths_law}
use Rattle.relations.proofs.Occurrences.{occurs_below, stands_symbol, attribute_fits}
use Rattle.relations.proofs.ExactIdp.{idp_path_exact}
use Rattle.relations.proofs.Induced.{idp_path_from, idp_path_to}
use Rattle.sets.specs.Visits.{set_number}
use Rattle.sets.proofs.SetWords.{Numbered, numbered}
use Rattle.order.specs.Paper.{Beside, EDP}
use Rattle.order.proofs.ExactEdp.{edp_path_exact}
use Rattle.order.proofs.WholeGrammar.{idp_edp}
use Rattle.access.specs.Offsets.{RuleOf}
use Rattle.access.specs.ByPlace.{occurrences_at}
use Rattle.access.proofs.Accessors.{rule_starts}
use Rattle.access.proofs.Same.{symbol_same}
use Rattle.closing.specs.Rows.{leads, Kept}
use Rattle.plans.specs.Buffers.{over, rows_of}
use Rattle.plans.specs.Answer.{idp_paths, edp_paths}
use Rattle.inducing.specs.Closes.{Closes}
use Rattle.inducing.specs.Arcs.{SpreadArc, ArcsFit}
use Rattle.inducing.specs.Rules.{occurrences_of, rule_rows, RuleCloses, Holds, Frame}
use Rattle.inducing.proofs.LentLaws.{rule_rows_length, rule_there, put_back}
use Rattle.inducing.proofs.RowLaws.{over_leads, over_below}
use Rattle.inducing.proofs.RuleRowLaws.{counts, occurs_among, standing, attribute_among, among_small}
use Rattle.inducing.proofs.HoldsLaws.{frame_none, frame_then, frame_turn, holds_lower, holds_turn, holds_rows, idp_trans, closes_at}
use Rattle.extending.specs.Descents.{order_of, numbers, Down}
use Rattle.extending.proofs.DescentLaws.{descent_from, descent_has}

-- what the rows have once the first n rules have theirs
abbrev pub Lower : List ℕ → ℕ → ℕ → ℕ → ℕ → Type 0
Lower g n r a b = IDP⁺ g r a b ⊎ ((r < n) × Down g r a b)

abbrev pub Upper : List ℕ → ℕ → ℕ → ℕ → Type 0
Upper g r a b = Path⁺ (EDP g (set_number (numbers g)) r) a b

pub record Extending (g entry : List ℕ) (n : ℕ) (rows : List ℕ) : Type 0 where
  pub bound : n ≤ rules g
  pub holds : Holds g (Lower g n) (Upper g) rows
  pub frame : Frame g entry rows

module _ (g : List ℕ) (good : read_table g ≡ Good) where
  formed : WellFormed g
  formed = accepted g good

  idp_upper : (r a b : ℕ) → IDP⁺ g r a b → Upper g r a b
  idp_upper r a b p = path_map (λ c d e. idp_edp g formed (set_number (numbers g)) e) (idp_paths_law g p)

  -- a member of the arcs that lead down, at a position of a rule
  descent_edp : (r i k c d : ℕ) → r < rules g → i ≤ right_length g r → T (hasb k (word (order_of g (numbers g)) (symbol_of g r i)))
      → c ≡ 8 * i + k / 8 → d ≡ 8 * i + k % 8 → EDP g (set_number (numbers g)) r c d
  unfolding set_number
  descent_edp r i k c d h l t e f =
      let x : ℕ = symbol_of g r i in
      let fx : x < symbols g = (formed.rule r h).symbols_fit i l in
      let m = descent_from g good (numbers g) x fx k t in
      let small : k / 8 < 8 = attribute_fits g formed x (k / 8) fx m.0 in
      let w : Numbered g (ids_of g) x (k / 8) = numbered g (ids_of g) x (k / 8) small (let z = m.2 in omega arith) in
      EDP.higher i x (k / 8) (k % 8)
      (record {
        stands = standing g good r i h l;
        nonterminal_there = w.symbol_is;
        first_fits = m.0;
        second_fits = m.1;
        first_is = e;
        second_is = f;
      }) m.2

  down_edp : (r a b : ℕ) → r < rules g → Down g r a b → EDP g (set_number (numbers g)) r a b
  unfolding right_length
  down_edp r a b h s =
      descent_edp r s.place s.arc.number a b h (let m = s.place_fits in omega arith)
      (subst (λ (x : ℕ). T (hasb s.arc.number (word (order_of g (numbers g)) x))) (symbol_same g r s.place) s.arc.member) s.arc.start s.arc.end

  -- the ends of such an arc are occurrences
  descent_among : (r i k : ℕ) → r < rules g → i ≤ right_length g r → T (hasb k (word (order_of g (numbers g)) (symbol_of g r i)))
      → T (hasb (8 * i + k / 8) (occurrences_of g r)) × T (hasb (8 * i + k % 8) (occurrences_of g r))
  descent_among r i k h l t =
      let m = descent_from g good (numbers g) (symbol_of g r i) ((formed.rule r h).symbols_fit i l) k t in
      (attribute_among g good r i (k / 8) h l m.0, attribute_among g good r i (k % 8) h l m.1)

  down_small : (r a b : ℕ) → r < rules g → Down g r a b → a < 64
  unfolding right_length
  down_small r a b h s =
      subst⁻¹ (λ (o : ℕ). o < 64) s.arc.start
      (among_small g r (8 * s.place + s.arc.number / 8)
      (descent_among r s.place s.arc.number h (let m = s.place_fits in omega arith)
      (subst (λ (x : ℕ). T (hasb s.arc.number (word (order_of g (numbers g)) x))) (symbol_same g r s.place) s.arc.member)).0)

  -- at first: the paths of IDP
  module _ (entry : List ℕ) (room : 64 * rules g ≤ length entry) (e : entry ≡ over (rows_of g (idp_paths g (ids_of g))) entry) where
    leads_idp : (r o b : ℕ) → r < rules g → o < 64 → T (leads (rule_rows entry r) o b) → IDP⁺ g r o b
    unfolding idp_paths
    leads_idp r o b h l t =
        let u : T (leads (rule_rows (over (rows_of g (idp_paths g (ids_of g))) entry) r) o b) = subst (λ (s : List ℕ). T (leads (rule_rows s r) o b)) e t in
        let m : b < 64 = over_below g (idp_paths g (ids_of g)) entry r o b h l u in
        (idp_path_exact g good r o b (counts g good r h)).0
        (subst (λ (c : Bool). T c) (over_leads g (idp_paths g (ids_of g)) entry r o b h l m) u)

    idp_leads : (r a b : ℕ) → r < rules g → IDP⁺ g r a b → (a < 64) × T (leads (rule_rows entry r) a b)
    unfolding idp_paths
    idp_leads r a b h p =
        let la : a < 64 = occurs_below g formed r a (counts g good r h) (idp_path_from g formed (counts g good r h) p) in
        let lb : b < 64 = occurs_below g formed r b (counts g good r h) (idp_path_to g formed (counts g good r h) p) in (
          la,
          subst⁻¹ (λ (s : List ℕ). T (leads (rule_rows s r) a b)) e
              (subst⁻¹ (λ (c : Bool). T c) (over_leads g (idp_paths g (ids_of g)) entry r a b h la lb)
              ((idp_path_exact g good r a b (counts g good r h)).1 p)),
        )

    pub extending_start : Extending g entry 0 entry
    extending_start =
        record {
          bound = omega arith;
          holds = record {
            room = room;
            kept = λ r h. record {
              room = omega (arith, rule_rows_length entry r (omega arith));
              closed = λ o m x ho hm s t. (idp_leads r o x h (idp_trans g r o m x (leads_idp r o m h ho s) (leads_idp r m x h hm t))).1;
              from = λ o x ho t. occurs_among g good r o h (idp_path_from g formed (counts g good r h) (leads_idp r o x h ho t));
              to = λ o x ho t. occurs_among g good r x h (idp_path_to g formed (counts g good r h) (leads_idp r o x h ho t));
            };
            has = λ r a b h d. ⊎_elim (λ p. idp_leads r a b h p) (λ p. absurd (let z = p.0 in omega arith)) d;
            within = λ r o x h l t. idp_upper r o x (leads_idp r o x h l t);
          };
          frame = frame_none g entry;
        }

  -- one rule more
  pub extending_turn : (entry rows : List ℕ) (n count : ℕ) (after : List ℕ) → Extending g entry n rows → count ≡ rules g → n < count
      → RuleCloses rows n (occurrences_of g n) (Down g n) after → Extending g entry (n + 1) after
  extending_turn entry rows n count after w e l v =
      let h : n < rules g = omega arith in
      record {
        bound = omega arith;
        holds =
            holds_turn g (Lower g n) (Lower g (n + 1)) (Upper g) (λ r c d f x y. path_join x y) rows after n (Down g n) w.holds h v
            (λ c d t. Path⁺.one (down_edp n c d h t))
            (λ r c d l t.
            ⊎_elim (λ p. inl (inl p))
            (λ p.
            ⊎_elim (λ m. inl (inr (m, p.1)))
            (λ m. let z : Down g n c d = subst (λ (k : ℕ). Down g k c d) m p.1 in inr (m, down_small n c d h z, z))
            (below_suc r n (let k = p.0 in omega arith))) t);
        frame = frame_then g entry rows after w.frame (frame_turn g rows after n (occurrences_of g n) _ h v);
      }

  -- every arc of EDP is there in the end
  beside_down : (r i x a b m n : ℕ) → Beside g r i x a b m n → set_number (numbers g) x b < set_number (numbers g) x a → Down g r m n
  unfolding set_number right_length
  beside_down r i x a b m n w l =
      let fx : x < symbols g = stands_symbol g formed r i x w.stands in
      let fa : a < 8 = attribute_fits g formed x a fx w.first_fits in
      let fb : b < 8 = attribute_fits g formed x b fx w.second_fits in
      let ka : a ≡ (8 * a + b) / 8 = omega arith in
      let kb : b ≡ (8 * a + b) % 8 = omega arith in
      record {
        place = i;
        place_fits = (let z = w.stands.inside in omega arith);
        arc = record {
          number = 8 * a + b;
          member =
              subst⁻¹ (λ (y : ℕ). T (hasb (8 * a + b) (word (order_of g (numbers g)) y))) (symbol_same g r i ∙ w.stands.symbol_is)
              (descent_has g good (numbers g) x fx a b w.first_fits w.second_fits l);
          start = w.first_is ∙ ap (λ (c : ℕ). 8 * i + c) ka;
          end = w.second_is ∙ ap (λ (c : ℕ). 8 * i + c) kb;
        };
      }

  edp_lower : (r a b : ℕ) → r < rules g → EDP g (set_number (numbers g)) r a b → Lower g (rules g) r a b
  edp_lower r a b h (EDP.direct d) = inl (IDP⁺.one r a b (IDP.direct r a b d))
  edp_lower r m n h (EDP.within i x a b w e) =
      inl (IDP⁺.one r m n (IDP.induced r i x a b m n w.stands e w.first_is w.second_is))
  edp_lower r m n h (EDP.higher i x a b w l) = inr (h, beside_down r i x a b m n w l)

  -- the rows of the next rule
  pub extending_kept : (entry rows : List ℕ) (n count : ℕ) → Extending g entry n rows → count ≡ rules g → n < count → Kept (rule_rows rows n) (occurrences_of g n)
  extending_kept entry rows n count w e h = w.holds.kept n (omega arith)

  pub extending_finish : (entry rows : List ℕ) (n count : ℕ) → Extending g entry n rows → count ≡ rules g → count ≤ n
      → rows ≡ over (rows_of g (edp_paths g (ids_of g) (numbers g))) entry
  unfolding edp_paths
  extending_finish entry rows n count w e h =
      holds_rows g (Lower g (rules g)) (Upper g) rows
      (holds_lower g (Lower g n) (Lower g (rules g)) (Upper g) rows w.holds
      (λ r a b l d. ⊎_elim (λ p. inl p) (λ p. inr (omega arith, p.1)) d)) entry (edp_paths g (ids_of g) (numbers g)) w.frame
      (λ r o b l t. path_map (λ c d x. edp_lower r c d l x) ((edp_path_exact g good (numbers g) r (counts g good r l) o b).0 t))
      (λ r o b l p. (edp_path_exact g good (numbers g) r (counts g good r l) o b).1 p)

-- the arcs by which every rule is extended
pub arcs_are : (g arcs s : List ℕ) → arcs ≡ order_of g s → s ≡ numbers g → arcs ≡ order_of g (numbers g)
arcs_are g arcs s o q = o ∙ ap (order_of g) q

-- one rule by the words that it is read from
module _ (g offsets rows arcs : List ℕ) (r p among : ℕ) (w : RuleOf g offsets r) (e : p ≡ get_or offsets r 0) (a : among ≡ occurrences_at g p)
    (o : arcs ≡ order_of g (numbers g)) where
  pub down_fits : ArcsFit g p among arcs
  unfolding right_length
  down_fits =
      subst⁻¹ (λ (l : List ℕ). ArcsFit g p among l) o
      (subst⁻¹ (λ (n : ℕ). ArcsFit g p n (order_of g (numbers g))) a
      (subst⁻¹ (λ (q : ℕ). ArcsFit g q (occurrences_at g q) (order_of g (numbers g))) (rule_starts g offsets r w p e)
      (λ i l k t.
      descent_among g w.good r i k w.inside l (subst (λ (x : ℕ). T (hasb k (word (order_of g (numbers g)) x))) (symbol_same g r i) t))))

  pub down_closes : (own part back : List ℕ) → Kept (rule_rows rows r) (occurrences_of g r) → own ≡ rule_rows rows r → back ≡ put_back rows r part
      → Closes own among (SpreadArc g p arcs (length_at g p + 1)) part → RuleCloses rows r (occurrences_of g r) (Down g r) back
  down_closes own part back k is in_place u =
      closes_at g rows own part back r p among (λ q. SpreadArc g q (order_of g (numbers g)) (length_at g q + 1)) (rule_starts g offsets r w p e) a (rule_there rows r (occurrences_of g r) k) is in_place
      (subst (λ (l : List ℕ). Closes own among (SpreadArc g p l (length_at g p + 1)) part) o u)
