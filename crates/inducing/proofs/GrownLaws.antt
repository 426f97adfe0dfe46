-- Rows with arcs added: where all are there already, and those of two parts. Closed afterwards, the rows have every path. Assumes nothing.
use Prim.Native.Nat.{ℕ, ◌^◌, ◌<◌}
use mathlib.Core.Path.{refl, ◌∙◌}
use mathlib.Core.Logic.{◌⊎◌, inl, inr, ⊎_elim}
use mathlib.Core.List.{List}
use native.Mathlib.Omega.{arith}
use lib.Dec.{T}
use Rattle.bits.specs.Bit.{hasb}
use Rattle.relations.specs.Paper.{Path⁺}
use Rattle.relations.proofs.PathLaws.{path_join, path_into, path_map, path_first, path_last}
use Rattle.closing.specs.Rows.{leads, Arc, Starts, Kept}
use Rattle.closing.specs.Closure.{Closure}
use Rattle.closing.proofs.ClosureLaws.{closure_starts, leads_path, path_leads}
use Rattle.inducing.specs.Closes.{Inside, Grown, Closes}

pub grown_there : (before : List ℕ) (arc : ℕ → ℕ → Type 0) → ((a b : ℕ) → arc a b → (a < 64) × T (leads before a b))
    → Grown before arc before
grown_there before arc there =
    record {
      size = refl;
      keeps = λ o x h t. t;
      has = there;
      sound = λ o x h t. Path⁺.one (inl (h, t));
    }

-- two parts, one after the other
pub grown_then : (before : List ℕ) (mid after : List ℕ) (first second both : ℕ → ℕ → Type 0) → Grown before first mid
    → Grown mid second after → ((c d : ℕ) → both c d → first c d ⊎ second c d) → ((c d : ℕ) → first c d → both c d)
    → ((c d : ℕ) → second c d → both c d) → Grown before both after
grown_then before mid after first second both v w split left right =
    record {
      size = w.size ∙ v.size;
      keeps = λ o x h t. w.keeps o x h (v.keeps o x h t);
      has = λ c d e. ⊎_elim (λ f. let s = v.has c d f in (s.0, w.keeps c d s.0 s.1)) (λ f. w.has c d f) (split c d e);
      sound = λ o x h t.
          path_into
          (λ c d s.
          ⊎_elim (λ f. path_map (λ m n q. ⊎_elim (λ y. inl y) (λ y. inr (left m n y)) q) (v.sound c d f.0 f.1))
          (λ f. Path⁺.one (inr (right c d f))) s) (w.sound o x h t);
    }

-- the same arcs by other words
pub grown_same : (before : List ℕ) (arc other : ℕ → ℕ → Type 0) (after : List ℕ) → Grown before arc after
    → ((c d : ℕ) → arc c d → other c d) → ((c d : ℕ) → other c d → arc c d) → Grown before other after
grown_same before arc other after v forth back =
    record {
      size = v.size;
      keeps = v.keeps;
      has = λ c d e. v.has c d (back c d e);
      sound = λ o x h t. path_map (λ m n q. ⊎_elim (λ y. inl y) (λ y. inr (forth m n y)) q) (v.sound o x h t);
    }

-- arcs between occurrences, added to rows between these
pub grown_starts : (before : List ℕ) (among : ℕ) (arc : ℕ → ℕ → Type 0) (mid : List ℕ) → Kept before among → Inside among arc
    → Grown before arc mid → Starts mid among
grown_starts before among arc mid k inside m o x h t =
    let s = path_first (m.sound o x h t) in ⊎_elim (λ y. k.from o s.0 y.0 y.1) (λ y. (inside o s.0 y).0) s.1

-- and closed
module _ (before : List ℕ) (among : ℕ) (arc : ℕ → ℕ → Type 0) (mid after : List ℕ) (k : Kept before among) (small : among < 2 ^ 64)
    (inside : Inside among arc) (m : Grown before arc mid) (w : Closure mid among after) where
  starts : Starts mid among
  starts = grown_starts before among arc mid k inside m

  ends : (o x : ℕ) → Arc mid o x → T (hasb x among)
  ends o x t =
      let s = path_last (m.sound o x t.0 t.1) in ⊎_elim (λ y. k.to s.0 x y.0 y.1) (λ y. (inside s.0 x y).1) s.1

  path : (o x : ℕ) → o < 64 → T (leads after o x) → Path⁺ (Arc mid) o x
  path = leads_path mid among after small w starts

  back : (o x : ℕ) → Path⁺ (Arc mid) o x → T (leads after o x)
  back = path_leads mid among after small w starts

  pub grown_closes : Closes before among arc after
  grown_closes =
      record {
        grown = record {
          size = w.size ∙ m.size;
          keeps = λ o x h t. back o x (Path⁺.one (h, m.keeps o x h t));
          has = λ a b s. let t = m.has a b s in (t.0, back a b (Path⁺.one t));
          sound = λ o x h t. path_into (λ c d s. m.sound c d s.0 s.1) (path o x h t);
        };
        kept = record {
          room = omega (arith, k.room, w.size, m.size);
          closed = λ o i x ho hi s t. back o x (path_join (path o i ho s) (path i x hi t));
          from = closure_starts mid among after small w starts;
          to = λ o x h t. let l = path_last (path o x h t) in ends l.0 x l.1;
        };
      }
