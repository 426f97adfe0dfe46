-- What planning answers and leaves at each stage, by what the searches found.
-- Assumes nothing.
use Prim.Native.Nat.{ℕ, ◌≤◌}
use mathlib.Core.Path.{◌≡◌, refl, sym, ◌∙◌, ap, ap₂, subst⁻¹}
use mathlib.Core.Bool.{Bool, true, false, cond}
use mathlib.Core.List.{List}
use native.Mathlib.Omega.{arith}
use lib.ListN.{length}
use Rattle.std.specs.Prelude.{Result, Option, Some, None, Ok, Err, IsErrAnd}
use Rattle.basics.specs.Lists.{padded}
use Rattle.basics.proofs.TestLaws.{chosen, passed_over, true_T, false_T}
use Rattle.refusals.specs.declared.Refusal.{Refusal}
use Rattle.refusals.specs.declared.Refusal.TheVariants.{CircularIdp, CircularEdp}
use Rattle.grammar.specs.Limits.{most_rules, plan_words, row_words}
use Rattle.grammar.specs.Table.{rules}
use Rattle.grammar.specs.Reading.{read_table}
use Rattle.grammar.specs.Verdicts.{Verdict, Good, Refused, ◌then◌}
use Rattle.grammar.proofs.VerdictLaws.{handed_out}
use Rattle.grammar.proofs.AcceptedTable.{accepted as formed}
use Rattle.relations.specs.Computed.{ids_of}
use Rattle.sets.specs.Computed.{sets_of}
use Rattle.order.specs.Computed.{circular, cycle_rule, cycle_occurrence}
use Rattle.access.proofs.Laws.{stops, passes}
use Rattle.inducing.specs.Cycles.{cycle_in}
use Rattle.inducing.proofs.CycleLaws.{cycle_found, cycle_nothing}
use Rattle.inducing.proofs.ExactLaws.{padded_word}
use Rattle.plans.proofs.RowWords.{rows_length_law, over_length}
use Rattle.placing.proofs.SameSymbolSets.{sets_same}
use Rattle.plans.specs.Buffers.{over, rows_of}
use Rattle.plans.specs.Answer.{
  Outcome,
  untouched,
  circular_idp,
  unordered,
  accepted,
  room,
  idp_paths,
  edp_paths,
  after_idp,
  after_room,
  after_reading,
  outcome,
  answer_of,
  rows_after,
  plan_after,
  accepted_plan,
}
use Rattle.plans.proofs.Answers.{no_idp_cycle_law, no_edp_cycle_law, comes}
use Rattle.plans.proofs.Ordered.{CycleFree, free_accepted}
use Rattle.planner.specs.Answered.{Answered}
use Rattle.planner.specs.Stages.{Noncircular, OrderedStage, Came, sets, after_eight, after_nine}
use Rattle.planner.proofs.RoomLaws.{rows_room, plan_room_law}
use Rattle.planner.proofs.WriteLaws.{over_over}

-- the paths of IDP, of EDP
abbrev idps : List ℕ → ℕ → ℕ → ℕ → Bool
idps g = idp_paths g (ids_of g)

abbrev edps : List ℕ → ℕ → ℕ → ℕ → Bool
edps g = edp_paths g (ids_of g) (sets g)

came_by : (g : List ℕ) (o p : Outcome) (rows₀ plan₀ : List ℕ) (answer : Result ℕ Refusal) (rows plan : List ℕ) → o ≡ p → Came g p rows₀ plan₀ answer rows plan
    → Came g o rows₀ plan₀ answer rows plan
came_by g o p rows₀ plan₀ answer rows plan e w = subst⁻¹ (λ (q : Outcome). Came g q rows₀ plan₀ answer rows plan) e w

-- what the search over all rules found
searched : (g rows : List ℕ) (n : ℕ) (k found : Option (ℕ × ℕ)) → n ≡ rules g → k ≡ cycle_in rows n → k ≡ found → cycle_in rows (rules g) ≡ found
searched g rows n k found m h e = ap (cycle_in rows) (sym m) ∙ (sym h ∙ e)

-- what is written twice
over_again : (g rows₀ rows : List ℕ) (p : ℕ → ℕ → ℕ → Bool) → rows ≡ over (rows_of g p) rows₀ → rows ≡ over (rows_of g p) rows
over_again g rows₀ rows p is =
    is ∙ (sym (over_over (rows_of g p) (rows_of g p) rows₀ (omega arith)) ∙ ap (over (rows_of g p)) (sym is))

over_new : (g rows₀ rows next : List ℕ) (p q : ℕ → ℕ → ℕ → Bool) → rows ≡ over (rows_of g p) rows₀ → next ≡ over (rows_of g q) rows
    → next ≡ over (rows_of g q) rows₀
over_new g rows₀ rows next p q is e =
    e ∙ (ap (over (rows_of g q)) is ∙ over_over (rows_of g q) (rows_of g p) rows₀ (omega (arith, rows_length_law g p, rows_length_law g q)))

-- a search has its room: the rules are few, and the rows keep their length
pub few_rules : (g : List ℕ) (n : ℕ) → read_table g ≡ Good → n ≡ rules g → n ≤ most_rules
few_rules g n w m = omega (arith, (formed g w).rules_fit)

pub rows_kept : (g rows₀ rows : List ℕ) (plan_length : ℕ) (p : ℕ → ℕ → ℕ → Bool) → room g (length rows₀) plan_length ≡ Good
    → rows ≡ over (rows_of g p) rows₀ → length rows ≡ length rows₀
rows_kept g rows₀ rows plan_length p w is =
    ap length is ∙ over_length g p rows₀ (rows_room g (length rows₀) plan_length w)

pub search_room : (g rows₀ rows : List ℕ) (plan_length n : ℕ) (p : ℕ → ℕ → ℕ → Bool) → room g (length rows₀) plan_length ≡ Good → n ≡ rules g
    → rows ≡ over (rows_of g p) rows₀ → row_words n ≤ length rows
search_room g rows₀ rows plan_length n p w m is =
    omega (arith, rows_kept g rows₀ rows plan_length p w is, rows_room g (length rows₀) plan_length w)

-- 9
pub nine_came : (g rows₀ plan₀ rows : List ℕ) (n r o : ℕ) (k : Option (ℕ × ℕ)) → rows ≡ over (rows_of g (idps g)) rows₀ → n ≡ rules g → k ≡ cycle_in rows n
    → k ≡ Some (r, o) → Came g (after_eight g) rows₀ plan₀ (Err (CircularIdp r o)) rows plan₀
unfolding after_room answer_of rows_after plan_after
nine_came g rows₀ plan₀ rows n r o k is m h e =
    let w = cycle_found g (idps g) rows₀ rows is r o (searched g rows n k (Some (r, o)) m h e) in
    let q : CircularIdp r o ≡ CircularIdp (cycle_rule g (idps g)) (cycle_occurrence g (idps g)) = ap₂ (λ (a b : ℕ). CircularIdp a b) w.1 w.2 in
    came_by g (after_eight g) (circular_idp (CircularIdp (cycle_rule g (idps g)) (cycle_occurrence g (idps g)))) rows₀ plan₀ _ rows plan₀
    (chosen (circular g (idps g)) _ _ (true_T _ w.0))
    (record { answers = ap (λ (x : Refusal). Err x) q; rows_are = is; plan_is = refl })

-- past 9
past_nine : (g rows₀ rows : List ℕ) (n : ℕ) (k : Option (ℕ × ℕ)) → rows ≡ over (rows_of g (idps g)) rows₀ → n ≡ rules g → k ≡ cycle_in rows n → k ≡ None
    → circular g (idps g) ≡ false
past_nine g rows₀ rows n k is m h e = cycle_nothing g (idps g) rows₀ rows is (searched g rows n k None m h e)

pub noncircular : (g ids rows₀ rows : List ℕ) (plan_length n : ℕ) (k : Option (ℕ × ℕ)) → room g (length rows₀) plan_length ≡ Good
    → ids ≡ padded 32 (ids_of g) → rows ≡ over (rows_of g (idps g)) rows₀ → n ≡ rules g → k ≡ cycle_in rows n → k ≡ None
    → Noncircular g ids rows plan_length
noncircular g ids rows₀ rows plan_length n k w i is m h e =
    record {
      space = ap (λ (l : ℕ). room g l plan_length) (rows_kept g rows₀ rows plan_length (idps g) w is) ∙ w;
      ids_are = i;
      paths = over_again g rows₀ rows (idps g) is;
      no_idp_cycle = past_nine g rows₀ rows n k is m h e;
    }

after_nine_law : (g : List ℕ) → circular g (idps g) ≡ false → after_eight g ≡ after_nine g
unfolding after_room
after_nine_law g e = passed_over (circular g (idps g)) _ _ (false_T _ e)

-- 10 and a plan leave the paths of EDP
edp_left : (g rows : List ℕ) → rows_after g (after_nine g) rows ≡ over (rows_of g (edps g)) rows
unfolding after_idp rows_after
edp_left g rows =
    either (circular g (edps g)) _
  where
    either : (b : Bool) (n : Refusal) → rows_after g (cond b (unordered n) accepted) rows ≡ over (rows_of g (edps g)) rows
    either true n = refl
    either false n = refl

pub noncircular_came : (g rows₀ plan₀ rows : List ℕ) (answer : Result ℕ Refusal) (next plan : List ℕ) (n : ℕ) (k : Option (ℕ × ℕ))
    → rows ≡ over (rows_of g (idps g)) rows₀ → n ≡ rules g → k ≡ cycle_in rows n → k ≡ None → Came g (after_nine g) rows plan₀ answer next plan
    → Came g (after_eight g) rows₀ plan₀ answer next plan
noncircular_came g rows₀ plan₀ rows answer next plan n k is m h e w =
    came_by g (after_eight g) (after_nine g) rows₀ plan₀ answer next plan (after_nine_law g (past_nine g rows₀ rows n k is m h e))
    (record {
      answers = w.answers;
      rows_are = over_new g rows₀ rows next (idps g) (edps g) is (w.rows_are ∙ edp_left g rows) ∙ sym (edp_left g rows₀);
      plan_is = w.plan_is;
    })

-- the set words are those of IDS
pub sets_are_law : (g ids s rows : List ℕ) (plan_length : ℕ) → Noncircular g ids rows plan_length → s ≡ sets_of g ids
    → s ≡ sets_of g (ids_of g)
sets_are_law g ids s rows plan_length w f =
    f ∙ (ap (sets_of g) w.ids_are ∙ sets_same g (padded 32 (ids_of g)) (ids_of g) (λ x. padded_word 32 (ids_of g) x))

-- 10
pub ten_came : (g rows₀ plan₀ next : List ℕ) (n r o : ℕ) (l : Option (ℕ × ℕ)) → next ≡ over (rows_of g (edps g)) rows₀ → n ≡ rules g → l ≡ cycle_in next n
    → l ≡ Some (r, o) → Came g (after_nine g) rows₀ plan₀ (Err (CircularEdp r o)) next plan₀
unfolding after_idp answer_of rows_after plan_after
ten_came g rows₀ plan₀ next n r o l f m j e =
    let w = cycle_found g (edps g) rows₀ next f r o (searched g next n l (Some (r, o)) m j e) in
    let q : CircularEdp r o ≡ CircularEdp (cycle_rule g (edps g)) (cycle_occurrence g (edps g)) = ap₂ (λ (a b : ℕ). CircularEdp a b) w.1 w.2 in
    came_by g (after_nine g) (unordered (CircularEdp (cycle_rule g (edps g)) (cycle_occurrence g (edps g)))) rows₀ plan₀ _ next plan₀
    (chosen (circular g (edps g)) _ _ (true_T _ w.0))
    (record { answers = ap (λ (x : Refusal). Err x) q; rows_are = f; plan_is = refl })

-- what the plan is written from
pub ordered_ready : (g ids s rows₀ next : List ℕ) (plan_length n : ℕ) (l : Option (ℕ × ℕ)) → next ≡ over (rows_of g (edps g)) rows₀
    → s ≡ sets_of g ids → Noncircular g ids rows₀ plan_length → l ≡ cycle_in next n → n ≡ rules g → l ≡ None
    → OrderedStage g s next plan_length
ordered_ready g ids s rows₀ next plan_length n l f es w j m e =
    record {
      sets_are = sets_are_law g ids s rows₀ plan_length w es;
      size = search_room g rows₀ next plan_length (rules g) (edps g) w.space refl f;
      paths = over_again g rows₀ next (edps g) f;
      no_idp_cycle = w.no_idp_cycle;
      no_edp_cycle = cycle_nothing g (edps g) rows₀ next f (searched g next n l None m j e);
      plan_room = plan_room_law g (length rows₀) plan_length w.space;
    }

-- accepted
pub plan_came : (g ids rows₀ plan₀ next plan : List ℕ) (n : ℕ) (l : Option (ℕ × ℕ)) → read_table g ≡ Good → Noncircular g ids rows₀ (length plan₀)
    → next ≡ over (rows_of g (edps g)) rows₀ → plan ≡ over (accepted_plan g) plan₀ → n ≡ rules g → l ≡ cycle_in next n → l ≡ None
    → Came g (after_nine g) rows₀ plan₀ (Ok (plan_words n)) next plan
unfolding answer_of rows_after plan_after
plan_came g ids rows₀ plan₀ next plan n l good w f p m j e =
    let d = ordered_ready g ids (sets_of g ids) rows₀ next (length plan₀) n l f refl w j m e in
    let o : CycleFree g = record { no_idp_cycle = no_idp_cycle_law g good d.no_idp_cycle; no_edp_cycle = no_edp_cycle_law g good d.no_edp_cycle } in
    came_by g (after_nine g) accepted rows₀ plan₀ _ next plan
    (sym (after_nine_law g d.no_idp_cycle) ∙ (sym (comes g good (length rows₀) (length plan₀) w.space)
    ∙ free_accepted g good (length rows₀) (length plan₀) w.space o))
    (record { answers = ap (λ (k : ℕ). Ok (plan_words k)) m; rows_are = f; plan_is = p })

-- what planning answers and leaves, once the outcome is known
answered_by : (g : List ℕ) (o : Outcome) (rows₀ plan₀ : List ℕ) (answer : Result ℕ Refusal) (rows plan : List ℕ) → outcome g (length rows₀) (length plan₀) ≡ o
    → Came g o rows₀ plan₀ answer rows plan → Answered g rows₀ plan₀ answer rows plan
answered_by g o rows₀ plan₀ answer rows plan e w =
    let v : Came g (outcome g (length rows₀) (length plan₀)) rows₀ plan₀ answer rows plan = came_by g _ o rows₀ plan₀ answer rows plan e w in
    record { answers = v.answers; rows_are = v.rows_are; plan_is = v.plan_is }

-- a refusal before anything is written
untouched_answered : (g rows plan : List ℕ) (n : Refusal) → read_table g then room g (length rows) (length plan) ≡ Refused n
    → Answered g rows plan (Err n) rows plan
unfolding outcome after_reading answer_of rows_after plan_after
untouched_answered g rows plan n e =
    answered_by g (untouched n) rows plan (Err n) rows plan (ap (after_reading g) e)
    (record { answers = refl; rows_are = refl; plan_is = refl })

pub read_refused : (g rows plan : List ℕ) (n : Refusal) → read_table g ≡ Refused n → Answered g rows plan (Err n) rows plan
read_refused g rows plan n e =
    untouched_answered g rows plan n (sym (stops (read_table g) (room g (length rows) (length plan)) (Refused n) n (sym e) refl))

-- planning is refused with what reading or the room refuses
pub refused_so : (g rows plan : List ℕ) (r : Result ℕ Refusal) (n : Refusal) → IsErrAnd r (λ e. e ≡ n) → Answered g rows plan (Err n) rows plan
    → Answered g rows plan r rows plan
refused_so g rows plan r n h w = subst⁻¹ (λ (a : Result ℕ Refusal). Answered g rows plan a rows plan) (handed_out r n h) w

pub room_refused : (g rows plan : List ℕ) (n : Refusal) → read_table g ≡ Good → Refused n ≡ room g (length rows) (length plan)
    → Answered g rows plan (Err n) rows plan
room_refused g rows plan n e h =
    untouched_answered g rows plan n (sym (passes (read_table g) (room g (length rows) (length plan)) Good (Refused n) (sym e) refl h))

-- what came after the room is the outcome
pub relations_answered : (g rows₀ plan₀ : List ℕ) (answer : Result ℕ Refusal) (rows plan : List ℕ) (u : Verdict) → read_table g ≡ Good
    → u ≡ room g (length rows₀) (length plan₀) → u ≡ Good → Came g (after_eight g) rows₀ plan₀ answer rows plan
    → Answered g rows₀ plan₀ answer rows plan
relations_answered g rows₀ plan₀ answer rows plan u e h k w =
    answered_by g (after_eight g) rows₀ plan₀ answer rows plan (comes g e (length rows₀) (length plan₀) (sym h ∙ k)) w

pub space_there : (g : List ℕ) (rows_length plan_length : ℕ) (u : Verdict) → u ≡ room g rows_length plan_length → u ≡ Good
    → room g rows_length plan_length ≡ Good
space_there g rows_length plan_length u h k = sym h ∙ k
