-- One rule is taken up: it gets the arcs of its symbols and hands on what its paths induce. Every path stays one of IDP and every arc one of
-- IDS; and where the rule, or another, is not touched by a new arc, it has every arc of its symbols. Assumes nothing.
use Prim.Native.Nat.{ℕ, ◌+◌, ◌*◌, ◌/◌, ◌%◌, ◌≤◌, ◌<◌}
use mathlib.Core.Path.{◌≡◌, refl, sym, ◌∙◌, ap, subst, subst⁻¹}
use mathlib.Core.Logic.{◌⊎◌, inl, inr, ⊎_elim}
use mathlib.Core.Bool.{Bool}
use mathlib.Core.List.{List}
use native.Mathlib.Omega.{arith}
use lib.Dec.{T, ltb→lt}
use lib.ListN.{length, get_or}
use Rattle.bits.specs.Bit.{hasb}
use Rattle.bits.proofs.MemberLaws.{hasb_below}
use Rattle.basics.specs.Lists.{word}
use Rattle.basics.proofs.TestLaws.{and_left, and_right, and_intro, below_suc}
use Rattle.grammar.specs.Verdicts.{Good}
use Rattle.grammar.specs.Table.{rules, attributes, length_at, rule_at, right_length, symbol_of, position, attribute, occurrence}
use Rattle.grammar.specs.Reading.{read_table}
use Rattle.grammar.specs.WellFormed.{WellFormed}
use Rattle.grammar.proofs.AcceptedTable.{accepted}
use Rattle.relations.specs.Paper.{DP, IDP, IDS, IDP⁺}
use Rattle.relations.proofs.Least.{ids_occurs}
use Rattle.relations.proofs.Occurrences.{occurs_attribute}
use Rattle.access.specs.Offsets.{RuleOf}
use Rattle.access.specs.ByPlace.{occurrences_at}
use Rattle.access.proofs.Accessors.{rule_starts}
use Rattle.access.proofs.Same.{symbol_same}
use Rattle.closing.specs.Rows.{leads, arcs_at, Kept}
use Rattle.closing.proofs.GatherLaws.{arc_at, arcs_lt}
use Rattle.inducing.specs.Closes.{Closes}
use Rattle.inducing.specs.Arcs.{SpreadArc, OpeningArc, of_rule, of_symbol, ArcsFit, Gathered}
use Rattle.inducing.specs.Rules.{occurrences_of, rule_rows, RuleCloses, Induced, Arcs, Standing}
use Rattle.inducing.specs.Stale.{Naming, Gathering, Fresh, Refreshed}
use Rattle.inducing.proofs.RuleRowLaws.{among_small, among_occurs, standing, attribute_among, dp_arc, arc_dp, dp_small}
use Rattle.inducing.proofs.LentLaws.{put_back, back_rows}
use Rattle.inducing.proofs.HoldsLaws.{rows_other, rows_keep, frame_turn, holds_turn, idp_trans, closes_at, kept_here}

module _ (g : List ℕ) (good : read_table g ≡ Good) where
  formed : WellFormed g
  formed = accepted g good

  -- the ends of an arc of the state are occurrences wherever its symbol stands
  arc_among : (ids : List ℕ) → Arcs g ids → (r i k : ℕ) → r < rules g → i ≤ right_length g r → T (hasb k (word ids (symbol_of g r i)))
      → T (hasb (8 * i + k / 8) (occurrences_of g r)) × T (hasb (8 * i + k % 8) (occurrences_of g r))
  arc_among ids f r i k h l t =
      let w = ids_occurs g (f (symbol_of g r i) k t) in
      (attribute_among g good r i (k / 8) h l w.start_fits, attribute_among g good r i (k % 8) h l w.end_fits)

  arcs_fit : (ids : List ℕ) (r p among : ℕ) → Arcs g ids → r < rules g → p ≡ rule_at g r → among ≡ occurrences_at g p → ArcsFit g p among ids
  unfolding right_length
  arcs_fit ids r p among f h e a =
      subst⁻¹ (λ (s : ℕ). ArcsFit g p s ids) a
      (subst⁻¹ (λ (q : ℕ). ArcsFit g q (occurrences_at g q) ids) e
      (λ i l k t. arc_among ids f r i k h l (subst (λ (x : ℕ). T (hasb k (word ids x))) (symbol_same g r i) t)))

  -- an arc of the state at a position of a rule is a path of IDP
  spread_idp : (ids : List ℕ) → Arcs g ids → (r a b : ℕ) → r < rules g → SpreadArc g (rule_at g r) ids (length_at g (rule_at g r) + 1) a b → IDP⁺ g r a b
  unfolding right_length
  spread_idp ids f r a b h s =
      let i : ℕ = s.place in
      let k : ℕ = s.arc.number in
      let l : i ≤ right_length g r = (let m = s.place_fits in omega arith) in
      IDP⁺.one r a b
      (IDP.induced r i (symbol_of g r i) (k / 8) (k % 8) a b (standing g good r i h l)
      (f (symbol_of g r i) k (subst (λ (x : ℕ). T (hasb k (word ids x))) (symbol_same g r i) s.arc.member)) s.arc.start s.arc.end)

  -- a path between attributes of one position is an arc of IDS
  gathered_ids : (n : ℕ) (rows : List ℕ) → Induced g n rows → (r i k : ℕ) → r < rules g → i ≤ right_length g r
      → T (hasb k (arcs_at (rule_rows rows r) i (attributes g (symbol_of g r i)))) → IDS g (symbol_of g r i) (k / 8) (k % 8)
  gathered_ids n rows w r i k h l t =
      let small : k < 64 = hasb_below 64 k _ (arcs_lt (rule_rows rows r) i (attributes g (symbol_of g r i))) t in
      let short = (formed.rule r h).length_fits in
      let o : 8 * i + k / 8 < 64 = omega (arith, short) in
      let u = subst (λ (b : Bool). T b) (arc_at (rule_rows rows r) i (attributes g (symbol_of g r i)) k small) t in
      let way : T (leads (rule_rows rows r) (8 * i + k / 8) (8 * i + k % 8)) = and_right _ _ u in
      let there : T (occurrence g r (8 * i + k % 8)) = among_occurs g r (8 * i + k % 8) ((w.kept r h).to (8 * i + k / 8) (8 * i + k % 8) o way) in
      let pos : position (8 * i + k % 8) ≡ i = omega arith in
      let att : attribute (8 * i + k % 8) ≡ k % 8 = omega arith in
      IDS.from r i (symbol_of g r i) (k / 8) (k % 8) (standing g good r i h l) (ltb→lt (k / 8) (attributes g (symbol_of g r i)) (and_left _ _ u))
      (subst (λ (a : ℕ). a < attributes g (symbol_of g r i)) att
      (subst (λ (j : ℕ). attribute (8 * i + k % 8) < attributes g (symbol_of g r j)) pos (occurs_attribute g r (8 * i + k % 8) there)))
      (w.within r (8 * i + k / 8) (8 * i + k % 8) h o way)

  -- The rule gets arcs, those of its symbols among them, and all of them paths of IDP. DP of the first n rules was there, and now of the first more.
  module _ (naming rows ids : List ℕ) (n more r p : ℕ) (arc : ℕ → ℕ → Type 0) (mid after : List ℕ) (touched : ℕ) (h : r < rules g) (e : p ≡ rule_at g r)
      (w : Standing g n rows ids) (m : Naming g (rules g) naming) (v : RuleCloses rows r (occurrences_of g r) arc mid)
      (z : Gathering g p (rule_rows mid r) (length_at g p + 1) naming ids after touched)
      (spread : (c d : ℕ) → SpreadArc g (rule_at g r) ids (length_at g (rule_at g r) + 1) c d → arc c d) (inside : (c d : ℕ) → arc c d → IDP⁺ g r c d)
      (split : (q c d : ℕ) → q < rules g → (q < more) × DP g q c d → ((q < n) × DP g q c d) ⊎ ((q ≡ r) × (c < 64) × arc c d)) where
    y : Gathered g (rule_at g r) (rule_rows mid r) (length_at g (rule_at g r) + 1) ids after
    y = subst (λ (s : ℕ). Gathered g s (rule_rows mid r) (length_at g s + 1) ids after) e z.gathered

    holds_mid : Induced g more mid
    holds_mid =
        holds_turn g (λ q a b. (q < n) × DP g q a b) (λ q a b. (q < more) × DP g q a b) (λ q a b. IDP⁺ g q a b) (idp_trans g) rows mid r arc w.holds h v
        inside split

    arcs_after : Arcs g after
    unfolding right_length
    arcs_after x k t =
        ⊎_elim (λ s. w.arcs x k s)
        (λ s.
        let i : ℕ = s.0 in
        let f : symbol_of g r i ≡ x = sym (symbol_same g r i) ∙ s.2 in
        let l : i ≤ right_length g r = (let m = s.1 in omega arith) in
        subst (λ (n : ℕ). IDS g n (k / 8) (k % 8)) f
        (gathered_ids more mid holds_mid r i k h l
        (subst⁻¹ (λ (n : ℕ). T (hasb k (arcs_at (rule_rows mid r) i (attributes g n)))) f s.3)))
        (y.sound x k t)

    -- the arcs of a rule that is not touched are those of before
    before : (q i k : ℕ) → q < rules g → (T (hasb q touched) → ⊥) → i ≤ right_length g q → T (hasb k (word after (symbol_of g q i)))
        → T (hasb k (word ids (symbol_of g q i)))
    before q i k l d b t = ⊎_elim (λ s. s) (λ s. absurd (d s)) (z.touches (symbol_of g q i) k q t (m.has q i l b))

    own : (T (hasb r touched) → ⊥) → Fresh g mid after r
    unfolding right_length
    own d =
        record {
          spreads = λ i k b t.
              (v.closes.grown.has (8 * i + k / 8) (8 * i + k % 8)
              (spread (8 * i + k / 8) (8 * i + k % 8)
              (record {
                place = i;
                place_fits = omega arith;
                arc = record {
                  number = k;
                  member = subst⁻¹ (λ (x : ℕ). T (hasb k (word ids x))) (symbol_same g r i) (before r i k h d b t);
                  start = refl;
                  end = refl;
                };
              }))
              ).1;
          gathers = λ i k b t.
              subst (λ (x : ℕ). T (hasb k (word after x))) (symbol_same g r i)
              (y.has i k (omega arith) (subst⁻¹ (λ (x : ℕ). T (hasb k (arcs_at (rule_rows mid r) i (attributes g x)))) (symbol_same g r i) t));
        }

    others : (q : ℕ) → q < rules g → (q ≡ r → ⊥) → (T (hasb q touched) → ⊥) → Fresh g rows ids q → Fresh g mid after q
    others q l d j f =
        record {
          spreads = λ i k b t.
              let s = before q i k l j b t in
              rows_keep rows mid r (occurrences_of g r) _ v q (8 * i + k / 8) (8 * i + k % 8)
              (among_small g q (8 * i + k / 8) (arc_among ids w.arcs q i k l b s).0) (f.spreads i k b s);
          gathers = λ i k b t.
              let c : ℕ = attributes g (symbol_of g q i) in
              let small : k < 64 = hasb_below 64 k _ (arcs_lt (rule_rows mid q) i c) t in
              let short = (formed.rule q l).length_fits in
              let s = subst (λ (b : Bool). T b) (arc_at (rule_rows mid q) i c k small) t in
              y.keeps (symbol_of g q i) k
              (f.gathers i k b
              (subst⁻¹ (λ (b : Bool). T b) (arc_at (rule_rows rows q) i c k small)
              (and_intro _ _ (and_left _ _ s)
              (subst (λ (b : Bool). T b)
              (rows_other rows mid r (occurrences_of g r) _ v q (8 * i + k / 8) (8 * i + k % 8) d (omega (arith, short))) (and_right _ _ s)))));
        }

    refreshed_by : Refreshed g naming more r rows ids mid after touched
    refreshed_by =
        record {
          standing = record { holds = holds_mid; sized = y.size ∙ w.sized; arcs = arcs_after };
          frame = frame_turn g rows mid r (occurrences_of g r) _ h v;
          own = own;
          others = others;
          grows = y.keeps;
          reason = z.reason;
        }

-- the same of the rule that the offsets lead to
module _ (g offsets naming rows ids : List ℕ) (n r p among : ℕ) (l : RuleOf g offsets r) (e : p ≡ get_or offsets r 0) (w : Standing g n rows ids)
    (a : among ≡ occurrences_at g p) where
  pub refresh_room : 64 * r + 64 ≤ length rows
  refresh_room = omega (arith, w.holds.room, l.inside)

  pub refresh_kept : (own : List ℕ) → own ≡ rule_rows rows r → Kept own among
  refresh_kept own is = kept_here g offsets rows own r p among l e a is (w.holds.kept r l.inside)

  pub refresh_arcs : ArcsFit g p among ids
  refresh_arcs = arcs_fit g l.good ids r p among w.arcs l.inside (rule_starts g offsets r l p e) a

  module _ (own part back after : List ℕ) (touched : ℕ) (is : own ≡ rule_rows rows r) (in_place : back ≡ put_back rows r part)
      (m : Naming g (rules g) naming) (z : Gathering g p part (length_at g p + 1) naming ids after touched) where
    at : p ≡ rule_at g r
    at = rule_starts g offsets r l p e

    -- what the rows that come back have gathered
    gathered : length part ≡ length own → Gathering g p (rule_rows back r) (length_at g p + 1) naming ids after touched
    gathered s =
        subst⁻¹ (λ (o : List ℕ). Gathering g p o (length_at g p + 1) naming ids after touched)
        (ap (λ (o : List ℕ). rule_rows o r) in_place ∙ back_rows rows part r refresh_room (s ∙ ap length is)) z

    closed : (arc : ℕ → ℕ → ℕ → Type 0) → Closes own among (arc p) part → RuleCloses rows r (occurrences_of g r) (arc (rule_at g r)) back
    closed arc u = closes_at g rows own part back r p among arc at a refresh_room is in_place u

    -- again
    pub refreshed : Closes own among (SpreadArc g p ids (length_at g p + 1)) part → Refreshed g naming n r rows ids back after touched
    refreshed u =
        refreshed_by g l.good naming rows ids n n r p (SpreadArc g (rule_at g r) ids (length_at g (rule_at g r) + 1)) back after touched
        l.inside at w m (closed (λ q. SpreadArc g q ids (length_at g q + 1)) u) (gathered u.grown.size) (λ c d s. s)
        (λ c d s. spread_idp g l.good ids w.arcs r c d l.inside s) (λ q c d i s. inl s)

    -- for the first time
    opened : n ≡ r → Closes own among (OpeningArc g p ids) part → Refreshed g naming (r + 1) r rows ids back after touched
    opened q u =
        refreshed_by g l.good naming rows ids n (r + 1) r p (OpeningArc g (rule_at g r) ids) back after touched l.inside at w m
        (closed (λ q. OpeningArc g q ids) u) (gathered u.grown.size) (λ c d s. of_symbol s) inside split
      where
        inside : (c d : ℕ) → OpeningArc g (rule_at g r) ids c d → IDP⁺ g r c d
        inside c d (of_rule s) = IDP⁺.one r c d (IDP.direct r c d (arc_dp g l.good r c d s))
        inside c d (of_symbol s) = spread_idp g l.good ids w.arcs r c d l.inside s

        split : (k c d : ℕ) → k < rules g → (k < r + 1) × DP g k c d → ((k < n) × DP g k c d) ⊎ ((k ≡ r) × (c < 64) × OpeningArc g (rule_at g r) ids c d)
        split k c d i s =
            ⊎_elim (λ j. inl (omega (arith, j, q), s.1))
            (λ j.
            let t : DP g r c d = subst (λ (y : ℕ). DP g y c d) j s.1 in
            inr (j, dp_small g l.good r c d l.inside t, of_rule (dp_arc g l.good r c d t)))
            (below_suc k r (let y = s.0 in omega (arith, y)))

pub opened_now : (g offsets naming rows ids : List ℕ) (r p among : ℕ) (own part back after : List ℕ) (touched : ℕ) → RuleOf g offsets r → p ≡ get_or offsets r 0
    → Standing g r rows ids → among ≡ occurrences_at g p → Naming g (rules g) naming
    → own ≡ rule_rows rows r → back ≡ put_back rows r part → Gathering g p part (length_at g p + 1) naming ids after touched
    → Closes own among (OpeningArc g p ids) part → Refreshed g naming (r + 1) r rows ids back after touched
opened_now g offsets naming rows ids r p among own part back after touched l e w a m is in_place z u =
    opened g offsets naming rows ids r r p among l e w a own part back after touched is in_place m z refl u
