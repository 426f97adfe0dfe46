-- What a set takes, candidate after candidate: those that are done are taken exactly if they stay.
-- Assumes nothing.
use Prim.Native.Nat.{ℕ, ◌+◌, ◌*◌, ◌^◌, ◌≤◌, ◌<◌}
use mathlib.Core.Path.{◌≡◌, refl, ◌∙◌, ap, subst, subst⁻¹}
use mathlib.Core.Logic.{◌⊎◌, ⊎_elim}
use mathlib.Core.Bool.{Bool, cond, not}
use mathlib.Core.List.{List}
use native.Mathlib.Omega.{arith}
use lib.Dec.{T, eqb, T_not, not_T}
use lib.ListN.{length, set}
use Rattle.bits.specs.Bit.{hasb, common, minus, field, insert, remove, First}
use Rattle.bits.proofs.BitLaws.{bit_has}
use Rattle.bits.proofs.SetLaws.{insert_lt, remove_lt, common_lt}
use Rattle.bits.proofs.CollectLaws.{collect_lt}
use Rattle.bits.proofs.MemberLaws.{hasb_collect, hasb_below, hasb_ext, insert_cases, insert_new, insert_old, has_not, has_other, none_left}
use Rattle.basics.proofs.TestLaws.{and_intro, and_left, and_right, tested, same_test, same_or_not, true_T, T_true, T_false}
use Rattle.closing.proofs.RewriteLaws.{Rewriting, rewriting_start, turn, finish}
use Rattle.placing.specs.SymbolSets.{stays, taken_from, numbered}

-- a member of what is taken is a candidate that is done and stays
pub record Taking (arcs unplaced class left taken : ℕ) : Type 0 where
  pub left_fits : left < 2 ^ 64
  pub taken_fits : taken < 2 ^ 64
  pub within : (a : ℕ) → T (hasb a left) → T (hasb a (common unplaced class))
  pub forth : (a : ℕ) → T (hasb a taken) → T (hasb a (common unplaced class)) × T (stays arcs unplaced class a) × T (not (hasb a left))
  pub back : (a : ℕ) → T (hasb a (common unplaced class)) → T (stays arcs unplaced class a) → T (not (hasb a left)) → T (hasb a taken)

pub taking_start : (arcs unplaced class left : ℕ) → unplaced < 256 → left ≡ common unplaced class → Taking arcs unplaced class left 0
taking_start arcs unplaced class left h e =
    record {
      left_fits = subst⁻¹ (λ (x : ℕ). x < 2 ^ 64) e (common_lt 64 unplaced class (omega arith));
      taken_fits = omega arith;
      within = λ a t. subst (λ (x : ℕ). T (hasb a x)) e t;
      forth = λ a t. absurd (T_not (hasb a 0) (none_left a) t);
      back = λ a t s n. absurd (T_not (hasb a left) n (subst⁻¹ (λ (x : ℕ). T (hasb a x)) e t));
    }

-- a candidate is an attribute
pub candidate_small : (arcs unplaced class left taken a : ℕ) → unplaced < 256 → Taking arcs unplaced class left taken → First left a → a < 8
candidate_small arcs unplaced class left taken a h w f =
    hasb_below 8 a (common unplaced class) (common_lt 8 unplaced class (omega arith)) (w.within a (true_T _ (bit_has a left f.member)))

module _ (arcs unplaced class left taken a : ℕ) (w : Taking arcs unplaced class left taken) (f : First left a) where
  here : T (hasb a left)
  here = true_T _ (bit_has a left f.member)

  earlier : (b : ℕ) → T (hasb b (remove a left)) → T (hasb b left)
  earlier b t =
      ⊎_elim (λ e. absurd (T_not (hasb a (remove a left)) (has_not a left) (subst (λ (x : ℕ). T (hasb x (remove a left))) e t)))
      (λ n. subst (λ (x : Bool). T x) (has_other a b left n) t) (same_or_not b a)

  -- b is no longer left: it was not before, or it is a
  gone : (b : ℕ) → T (not (hasb b (remove a left))) → (b ≡ a) ⊎ T (not (hasb b left))
  gone b t =
      ⊎_elim (λ e. mathlib.Core.Logic.inl e) (λ n. mathlib.Core.Logic.inr (subst (λ (x : Bool). T (not x)) (has_other a b left n) t)) (same_or_not b a)

  still : (b : ℕ) → T (not (hasb b left)) → T (not (hasb b (remove a left)))
  still b t = not_T (hasb b (remove a left)) (λ s. T_not (hasb b left) t (earlier b s))

  turn_yes : T (stays arcs unplaced class a) → Taking arcs unplaced class (remove a left) (insert a taken)
  turn_yes s =
      record {
        left_fits = remove_lt 64 a left w.left_fits;
        taken_fits = insert_lt 64 a taken f.small w.taken_fits;
        within = λ b t. w.within b (earlier b t);
        forth = λ b t.
            ⊎_elim
            (λ e. (
              subst⁻¹ (λ (x : ℕ). T (hasb x (common unplaced class))) e (w.within a here),
              subst⁻¹ (λ (x : ℕ). T (stays arcs unplaced class x)) e s,
              subst⁻¹ (λ (x : ℕ). T (not (hasb x (remove a left)))) e (has_not a left),
            ))
            (λ u. let v = w.forth b u in (v.0, v.1, still b v.2)) (insert_cases b a taken t);
        back = λ b c t n.
            ⊎_elim (λ e. subst⁻¹ (λ (x : ℕ). T (hasb x (insert a taken))) e (insert_new a taken))
            (λ m. insert_old b a taken (w.back b c t m)) (gone b n);
      }

  turn_no : T (not (stays arcs unplaced class a)) → Taking arcs unplaced class (remove a left) taken
  turn_no s =
      record {
        left_fits = remove_lt 64 a left w.left_fits;
        taken_fits = w.taken_fits;
        within = λ b t. w.within b (earlier b t);
        forth = λ b t. let v = w.forth b t in (v.0, v.1, still b v.2);
        back = λ b c t n.
            ⊎_elim (λ e. absurd (T_not (stays arcs unplaced class a) s (subst (λ (x : ℕ). T (stays arcs unplaced class x)) e t)))
            (λ m. w.back b c t m) (gone b n);
      }

-- one candidate more
pub taking_turn : (arcs unplaced class left taken a next more : ℕ) (t : Bool) → Taking arcs unplaced class left taken → First left a
    → next ≡ remove a left → t ≡ stays arcs unplaced class a → more ≡ cond t (insert a taken) taken → Taking arcs unplaced class next more
taking_turn arcs unplaced class left taken a next more t w f e q h =
    subst⁻¹ (λ (x : ℕ). Taking arcs unplaced class x more) e
    (⊎_elim
    (λ s.
    subst⁻¹ (λ (x : ℕ). Taking arcs unplaced class (remove a left) x) (h ∙ ap (λ (b : Bool). cond b (insert a taken) taken) (q ∙ T_true _ s))
    (turn_yes arcs unplaced class left taken a w f s))
    (λ s.
    subst⁻¹ (λ (x : ℕ). Taking arcs unplaced class (remove a left) x) (h ∙ ap (λ (b : Bool). cond b (insert a taken) taken) (q ∙ T_false _ s))
    (turn_no arcs unplaced class left taken a w f s)) (tested (stays arcs unplaced class a)))

-- with nothing left, it is what the set takes
pub taking_finish : (arcs unplaced class left taken : ℕ) → Taking arcs unplaced class left taken → left ≡ 0 → taken ≡ taken_from arcs unplaced class
unfolding taken_from
taking_finish arcs unplaced class left taken w e =
    hasb_ext 64 taken (taken_from arcs unplaced class) w.taken_fits (collect_lt 64 _)
    (λ a h.
    same_test (hasb a taken) (hasb a (taken_from arcs unplaced class))
    (λ t. let v = w.forth a t in subst⁻¹ (λ (x : Bool). T x) (hasb_collect 64 a _ h) (and_intro _ _ v.0 v.1))
    (λ t.
    let v = subst (λ (x : Bool). T x) (hasb_collect 64 a _ h) t in
    w.back a (and_left _ _ v) (and_right _ _ v) (subst⁻¹ (λ (x : ℕ). T (not (hasb a x))) e (none_left a))))

-- the tests of one attribute, as the code makes them
pub stays_by : (arcs unplaced class a bits both past : ℕ) → bits ≡ field (8 * a) arcs → both ≡ common bits unplaced → past ≡ minus both class
    → eqb past 0 ≡ eqb (minus (common (field (8 * a) arcs) unplaced) class) 0
stays_by arcs unplaced class a bits both past e f h =
    ap (λ (x : ℕ). eqb x 0) (h ∙ ap (λ (x : ℕ). minus x class) (f ∙ ap (λ (x : ℕ). common x unplaced) e))

-- the numbers of a set are written one after the other
pub record Numbering (entry : List ℕ) (at taken k : ℕ) (sets : List ℕ) (left : ℕ) : Type 0 where
  pub small : left < 2 ^ 8
  pub room : at + 8 ≤ length entry
  pub size : length sets ≡ length entry
  pub rewriting : Rewriting entry at taken (λ a. k) sets left

pub numbering_place : (entry : List ℕ) (at taken k : ℕ) (sets : List ℕ) (left a : ℕ) → Numbering entry at taken k sets left → First left a
    → at + a < length sets
numbering_place entry at taken k sets left a w f =
    omega (arith, w.room, w.size, hasb_below 8 a left w.small (true_T _ (bit_has a left f.member)))

pub numbering_start : (sets : List ℕ) (at taken k left : ℕ) → at + 8 ≤ length sets → taken < 256 → left ≡ taken → Numbering sets at taken k sets left
numbering_start sets at taken k left h l e =
    subst⁻¹ (λ (x : ℕ). Numbering sets at taken k sets x) e
    (record {
      small = l;
      room = h;
      size = refl;
      rewriting = rewriting_start sets at taken (λ a. k) (λ o t. omega (arith, hasb_below 8 o taken l t));
    })

pub numbering_turn : (entry : List ℕ) (at taken k : ℕ) (sets : List ℕ) (left a next : ℕ) → Numbering entry at taken k sets left → First left a
    → next ≡ remove a left → Numbering entry at taken k (set sets (at + a) k) next
numbering_turn entry at taken k sets left a next w f e =
    let r = turn entry at taken (λ a. k) sets left a next k w.rewriting f e refl in
    record { small = subst⁻¹ (λ (x : ℕ). x < 2 ^ 8) e (remove_lt 8 a left w.small); room = w.room; size = r.size; rewriting = r }

pub numbering_finish : (entry : List ℕ) (at taken k : ℕ) (sets : List ℕ) (left : ℕ) → Numbering entry at taken k sets left → left ≡ 0
    → sets ≡ numbered entry at taken k
unfolding numbered
numbering_finish entry at taken k sets left w e = finish entry at taken (λ a. k) sets left w.rewriting e
