-- The rows of all rules, where arcs are added to those of one: the other rules' rows and the words past them stay.
-- Assumes nothing.
use Prim.Native.Nat.{ℕ, ◌+◌, ◌*◌, ◌/◌, ◌%◌, ◌^◌, ◌≤◌, ◌<◌}
use mathlib.Core.Path.{◌≡◌, refl, sym, ◌∙◌, ap, subst, subst⁻¹}
use mathlib.Core.Logic.{◌⊎◌, inl, inr, ⊎_elim}
use mathlib.Core.Bool.{Bool}
use mathlib.Core.List.{List}
use native.Mathlib.Omega.{arith}
use lib.Dec.{T, T_not}
use lib.ListN.{length, get_or}
use Rattle.bits.proofs.MemberLaws.{small_set, none_left}
use Rattle.bits.specs.Bit.{hasb}
use Rattle.basics.specs.Lists.{word}
use Rattle.basics.proofs.TestLaws.{same_or_not, below_or_not, same_test}
use Rattle.grammar.specs.Table.{rules, rule_at}
use Rattle.relations.specs.Paper.{Path⁺, IDP⁺}
use Rattle.relations.proofs.PathLaws.{path_join, path_map, path_closed}
use Rattle.relations.proofs.Least.{idp_paths_law, paths_idp}
use Rattle.access.specs.Offsets.{RuleOf}
use Rattle.access.specs.ByPlace.{occurrences_at}
use Rattle.access.proofs.Accessors.{rule_starts}
use Rattle.closing.specs.Rows.{leads, Kept}
use Rattle.plans.specs.Buffers.{over, rows_of}
use Rattle.inducing.specs.Closes.{Closes}
use Rattle.inducing.specs.Rules.{occurrences_of, rule_rows, RuleCloses, Holds, Frame}
use Rattle.inducing.proofs.LentLaws.{rule_row, rule_rows_length, put_back, back_closes}
use Rattle.inducing.proofs.RowLaws.{rows_are}
use Rattle.inducing.proofs.RuleRowLaws.{among_small}

-- rows with the same words lead to the same places
same_leads : (before after : List ℕ) (o x : ℕ) → word after o ≡ word before o → leads after o x ≡ leads before o x
unfolding leads
same_leads before after o x e = ap (λ (s : ℕ). hasb x s) e

same_kept : (before after : List ℕ) (among : ℕ) → Kept before among → length after ≡ 64
    → ((o x : ℕ) → o < 64 → leads after o x ≡ leads before o x) → Kept after among
same_kept before after among k room e =
    record {
      room = room;
      closed = λ o m x ho hm s t.
          subst⁻¹ (λ (b : Bool). T b) (e o x ho)
          (k.closed o m x ho hm (subst (λ (b : Bool). T b) (e o m ho) s) (subst (λ (b : Bool). T b) (e m x hm) t));
      from = λ o x ho t. k.from o x ho (subst (λ (b : Bool). T b) (e o x ho) t);
      to = λ o x ho t. k.to o x ho (subst (λ (b : Bool). T b) (e o x ho) t);
    }

-- where arcs are added to the rows of rule q, those of another rule stay, and no path is lost
pub rows_other : (rows after : List ℕ) (q among : ℕ) (arc : ℕ → ℕ → Type 0) → RuleCloses rows q among arc after
    → (r o x : ℕ) → (r ≡ q → ⊥) → o < 64 → leads (rule_rows after r) o x ≡ leads (rule_rows rows r) o x
rows_other rows after q among arc u r o x d m =
    same_leads (rule_rows rows r) (rule_rows after r) o x
    (rule_row after r o m
    ∙ (u.outside (64 * r + o)
    (⊎_elim (λ l. inl (omega arith)) (λ l. ⊎_elim (λ k. inr (omega arith)) (λ k. absurd (d (omega arith))) (below_or_not q r)) (below_or_not r q))
    ∙ sym (rule_row rows r o m)))

pub rows_keep : (rows after : List ℕ) (q among : ℕ) (arc : ℕ → ℕ → Type 0) → RuleCloses rows q among arc after
    → (r a b : ℕ) → a < 64 → T (leads (rule_rows rows r) a b) → T (leads (rule_rows after r) a b)
rows_keep rows after q among arc u r a b m t =
    ⊎_elim
    (λ e. subst⁻¹ (λ (n : ℕ). T (leads (rule_rows after n) a b)) e (u.closes.grown.keeps a b m (subst (λ (n : ℕ). T (leads (rule_rows rows n) a b)) e t)))
    (λ d. subst⁻¹ (λ (c : Bool). T c) (rows_other rows after q among arc u r a b d m) t) (same_or_not r q)

pub frame_none : (g rows : List ℕ) → Frame g rows rows
frame_none g rows = record { size = refl; rest = λ j h. refl }

pub frame_then : (g before mid after : List ℕ) → Frame g before mid → Frame g mid after → Frame g before after
frame_then g before mid after v w = record { size = w.size ∙ v.size; rest = λ j h. w.rest j h ∙ v.rest j h }

pub frame_turn : (g : List ℕ) (rows after : List ℕ) (q among : ℕ) (arc : ℕ → ℕ → Type 0) → q < rules g → RuleCloses rows q among arc after
    → Frame g rows after
frame_turn g rows after q among arc h w = record { size = w.size; rest = λ j l. w.outside j (inr (omega arith)) }

-- another relation that the rows have
pub holds_lower : (g : List ℕ) (lower other upper : ℕ → ℕ → ℕ → Type 0) (rows : List ℕ) → Holds g lower upper rows
    → ((r a b : ℕ) → r < rules g → other r a b → lower r a b) → Holds g other upper rows
holds_lower g lower other upper rows w f =
    record { room = w.room; kept = w.kept; has = λ r a b h d. w.has r a b h (f r a b h d); within = w.within }

module _ (g : List ℕ) (lower more upper : ℕ → ℕ → ℕ → Type 0) (trans : (r a b c : ℕ) → upper r a b → upper r b c → upper r a c)
    (rows after : List ℕ) (q : ℕ) (arc : ℕ → ℕ → Type 0) where
  pub holds_turn : Holds g lower upper rows → q < rules g → RuleCloses rows q (occurrences_of g q) arc after
      → ((a b : ℕ) → arc a b → upper q a b) → ((r a b : ℕ) → r < rules g → more r a b → lower r a b ⊎ ((r ≡ q) × (a < 64) × arc a b))
      → Holds g more upper after
  holds_turn w h u inside split =
      record {
        room = omega (arith, w.room, u.size);
        kept = λ r l.
            ⊎_elim (λ e. subst⁻¹ (λ (n : ℕ). Kept (rule_rows after n) (occurrences_of g n)) e u.closes.kept)
            (λ d. same_kept (rule_rows rows r) (rule_rows after r) (occurrences_of g r) (w.kept r l) (room r l) (λ o x m. rows_other rows after q (occurrences_of g q) arc u r o x d m))
            (same_or_not r q);
        has = λ r a b l d.
            ⊎_elim (λ s. let t = w.has r a b l s in (t.0, rows_keep rows after q (occurrences_of g q) arc u r a b t.0 t.1))
            (λ s. (s.1, subst⁻¹ (λ (n : ℕ). T (leads (rule_rows after n) a b)) s.0 (u.closes.grown.has a b s.2).1)) (split r a b l d);
        within = λ r o x l m t.
            ⊎_elim
            (λ e.
            subst⁻¹ (λ (n : ℕ). upper n o x) e
            (path_closed (trans q)
            (path_map (λ c d s. ⊎_elim (λ f. w.within q c d h f.0 f.1) (λ f. inside c d f) s)
            (u.closes.grown.sound o x m (subst (λ (n : ℕ). T (leads (rule_rows after n) o x)) e t)))))
            (λ d. w.within r o x l m (subst (λ (b : Bool). T b) (rows_other rows after q (occurrences_of g q) arc u r o x d m) t)) (same_or_not r q);
      }
    where
      room : (r : ℕ) → r < rules g → length (rule_rows after r) ≡ 64
      room r l = omega (arith, rule_rows_length after r (omega (arith, w.room, u.size)))

-- empty rows, which have nothing
pub holds_none : (g : List ℕ) (lower upper : ℕ → ℕ → ℕ → Type 0) (rows : List ℕ) → 64 * rules g ≤ length rows
    → ((j : ℕ) → j < 64 * rules g → word rows j ≡ 0) → ((r a b : ℕ) → lower r a b → ⊥) → Holds g lower upper rows
unfolding leads
holds_none g lower upper rows room zeros nothing =
    record {
      room = room;
      kept = λ r h. record {
        room = omega (arith, rule_rows_length rows r (omega arith));
        closed = λ o m x ho hm s t. absurd (none r o m h ho s);
        from = λ o x ho t. absurd (none r o x h ho t);
        to = λ o x ho t. absurd (none r o x h ho t);
      };
      has = λ r a b h d. absurd (nothing r a b d);
      within = λ r o x h l t. absurd (none r o x h l t);
    }
  where
    none : (r o x : ℕ) → r < rules g → o < 64 → T (hasb x (word (rule_rows rows r) o)) → ⊥
    none r o x h l t =
        T_not (hasb x 0) (none_left x) (subst (λ (s : ℕ). T (hasb x s)) (rule_row rows r o l ∙ zeros (64 * r + o) (omega arith)) t)

-- The rows have every path of what they have; so where they stay within those paths, they hold exactly them.
module _ (g : List ℕ) (lower upper : ℕ → ℕ → ℕ → Type 0) (rows : List ℕ) (w : Holds g lower upper rows) where
  pub path_leads : (r : ℕ) → r < rules g → {c d : ℕ} → Path⁺ (lower r) c d → (c < 64) × T (leads (rule_rows rows r) c d)
  path_leads r h p =
      path_closed {R = λ c d. (c < 64) × T (leads (rule_rows rows r) c d)}
      (λ a b c x y. (x.0, (w.kept r h).closed a b c x.0 y.0 x.1 y.1)) (path_map (λ a b t. w.has r a b h t) p)

  row_small : (j : ℕ) → j < 64 * rules g → word rows j < 2 ^ 64
  unfolding leads
  row_small j h =
      let r : ℕ = j / 64 in
      let o : ℕ = j % 64 in
      let e : j ≡ 64 * r + o = omega arith in
      let l : r < rules g = omega arith in
      small_set 64 (word rows j)
      (λ k t.
      among_small g r k
      ((w.kept r l).to o k (omega arith) (subst⁻¹ (λ (s : ℕ). T (hasb k s)) (rule_row rows r o (omega arith)) (subst (λ (n : ℕ). T (hasb k (word rows n))) e t))))

  pub holds_rows : (entry : List ℕ) (paths : ℕ → ℕ → ℕ → Bool) → Frame g entry rows
      → ((r o b : ℕ) → r < rules g → T (paths r o b) → Path⁺ (lower r) o b) → ((r o b : ℕ) → r < rules g → upper r o b → T (paths r o b))
      → rows ≡ over (rows_of g paths) entry
  holds_rows entry paths f down up =
      rows_are g paths entry rows f.size (omega (arith, w.room, f.size)) f.rest row_small
      (λ r o b h l m.
      same_test (leads (rule_rows rows r) o b) (paths r o b) (λ t. up r o b h (w.within r o b h l t)) (λ t. (path_leads r h (down r o b h t)).1))

-- ---- the rows of the rule at a word

pub idp_trans : (g : List ℕ) (r a b c : ℕ) → IDP⁺ g r a b → IDP⁺ g r b c → IDP⁺ g r a c
idp_trans g r a b c p q = paths_idp g (path_join (idp_paths_law g p) (idp_paths_law g q))

-- a set of arcs is added to the rows of the rule at word p, which is rule r: they are lent, and come back
pub closes_at : (g : List ℕ) (rows own part back : List ℕ) (r p among : ℕ) (arc : ℕ → ℕ → ℕ → Type 0) → p ≡ rule_at g r → among ≡ occurrences_at g p
    → 64 * r + 64 ≤ length rows → own ≡ rule_rows rows r → back ≡ put_back rows r part → Closes own among (arc p) part
    → RuleCloses rows r (occurrences_of g r) (arc (rule_at g r)) back
closes_at g rows own part back r p among arc e a room is in_place u =
    subst (λ (q : ℕ). RuleCloses rows r (occurrences_at g q) (arc q) back) e
    (subst (λ (s : ℕ). RuleCloses rows r s (arc p) back) a
    (subst⁻¹ (λ (s : List ℕ). RuleCloses rows r among (arc p) s) in_place
    (back_closes rows part r room (u.grown.size ∙ ap length is) among (arc p) (subst (λ (s : List ℕ). Closes s among (arc p) part) is u))))

-- the rows of a rule are kept for the occurrences that its words name
pub kept_here : (g offsets rows own : List ℕ) (r p among : ℕ) → RuleOf g offsets r → p ≡ get_or offsets r 0 → among ≡ occurrences_at g p
    → own ≡ rule_rows rows r → Kept (rule_rows rows r) (occurrences_of g r) → Kept own among
kept_here g offsets rows own r p among w e a is k =
    subst⁻¹ (λ (o : List ℕ). Kept o among) is
    (subst⁻¹ (λ (s : ℕ). Kept (rule_rows rows r) s) (a ∙ ap (occurrences_at g) (rule_starts g offsets r w p e)) k)
