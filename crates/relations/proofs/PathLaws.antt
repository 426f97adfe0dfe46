-- The computed path against the paper's: what is computed is a path, and every path between the listed numbers is computed.
-- Paths compose, follow a larger relation, and start and end with an arc. Assumes nothing.
use Prim.Native.Nat.{ℕ}
use mathlib.Core.Path.{subst}
use mathlib.Core.Logic.{⊎_elim}
use mathlib.Core.Bool.{Bool}
use mathlib.Core.List.{List, [], ◌∷◌}
use lib.Dec.{T}
use Rattle.basics.specs.Tests.{◌and◌, ◌or◌}
use Rattle.basics.specs.Lists.{member}
use Rattle.basics.proofs.TestLaws.{or_left, or_right, or_cases, and_intro, and_left, and_right}
use Rattle.basics.proofs.ListLaws.{member_cases, member_none}
use Rattle.relations.specs.Paper.{Path⁺}
use Rattle.relations.specs.Paths.{path}

-- a path followed by a path is a path
pub path_join : {R : ℕ → ℕ → Type 0} {a b c : ℕ} → Path⁺ R a b → Path⁺ R b c → Path⁺ R a c
path_join p (Path⁺.one e) = Path⁺.more p e
path_join p (Path⁺.more q e) = Path⁺.more (path_join p q) e

-- a path of one relation is a path of every larger one
pub path_into : {R S : ℕ → ℕ → Type 0} → ((a b : ℕ) → R a b → Path⁺ S a b) → {a b : ℕ} → Path⁺ R a b → Path⁺ S a b
path_into f (Path⁺.one e) = f _ _ e
path_into f (Path⁺.more p e) = path_join (path_into f p) (f _ _ e)

-- a path over one relation is one over another that has its arcs
pub path_map : {R S : ℕ → ℕ → Type 0} → ((a b : ℕ) → R a b → S a b) → {a b : ℕ} → Path⁺ R a b → Path⁺ S a b
path_map f (Path⁺.one {a = a} {b = b} e) = Path⁺.one (f a b e)
path_map f (Path⁺.more {b = b} {c = c} p e) = Path⁺.more (path_map f p) (f b c e)

-- a relation that is closed under joining holds from the start of each of its paths to the end
pub path_closed : {R : ℕ → ℕ → Type 0} → ((a b c : ℕ) → R a b → R b c → R a c) → {a b : ℕ} → Path⁺ R a b → R a b
path_closed t (Path⁺.one e) = e
path_closed t (Path⁺.more {a = a} {b = b} {c = c} p e) = t a b c (path_closed t p) e

-- a path starts with an arc
pub path_first : {R : ℕ → ℕ → Type 0} {a b : ℕ} → Path⁺ R a b → (c : ℕ) × R a c
path_first (Path⁺.one {b = b} e) = (b, e)
path_first (Path⁺.more p e) = path_first p

-- a path ends with an arc
pub path_last : {R : ℕ → ℕ → Type 0} {a b : ℕ} → Path⁺ R a b → (c : ℕ) × R c b
path_last (Path⁺.one {a = a} e) = (a, e)
path_last (Path⁺.more {b = b} p e) = (b, e)

-- a path to h by way of h, or from h by way of h, is one without that detour
once_first : (p q : Bool) → T (p or (p and q)) → T p
once_first p q t = ⊎_elim (λ s. s) (λ s. and_left p q s) (or_cases p (p and q) t)

once_second : (p q : Bool) → T (p or (q and p)) → T p
once_second p q t = ⊎_elim (λ s. s) (λ s. and_right q p s) (or_cases p (q and p) t)

module _ (arc : ℕ → ℕ → Bool) where
  -- what is computed is a path
  pub path_sound : (ms : List ℕ) (a b : ℕ) → T (path arc ms a b) → Path⁺ (λ c d. T (arc c d)) a b
  unfolding path
  path_sound [] a b t = Path⁺.one t
  path_sound (m ∷ ms) a b t =
      ⊎_elim (λ s. path_sound ms a b s)
      (λ s. path_join (path_sound ms a m (and_left _ _ s)) (path_sound ms m b (and_right _ _ s))) (or_cases _ _ t)

  -- an arc is a path
  pub path_arc : (ms : List ℕ) (a b : ℕ) → T (arc a b) → T (path arc ms a b)
  unfolding path
  path_arc [] a b t = t
  path_arc (m ∷ ms) a b t = or_left _ _ (path_arc ms a b t)

  -- two computed paths that meet at a listed number are one
  pub path_composes : (ms : List ℕ) (a m b : ℕ) → T (member m ms) → T (path arc ms a m) → T (path arc ms m b) → T (path arc ms a b)
  unfolding path
  path_composes [] a m b i s t = absurd (member_none m i)
  path_composes (h ∷ ms) a m b i s t =
      ⊎_elim
      (λ e.
      by (once_first _ _ (subst (λ (k : ℕ). T (path arc ms a k or (path arc ms a h and path arc ms h k))) e s))
      (once_second _ _ (subst (λ (k : ℕ). T (path arc ms k b or (path arc ms k h and path arc ms h b))) e t)))
      (λ j.
      ⊎_elim
      (λ am.
      ⊎_elim (λ mb. or_left _ _ (path_composes ms a m b j am mb))
      (λ mhb. by (path_composes ms a m h j am (and_left _ _ mhb)) (and_right _ _ mhb)) (or_cases _ _ t))
      (λ ahm.
      by (and_left _ _ ahm)
      (⊎_elim (λ mb. path_composes ms h m b j (and_right _ _ ahm) mb) (λ mhb. and_right _ _ mhb) (or_cases _ _ t)))
      (or_cases _ _ s))
      (member_cases m h ms i)
    where
      by : T (path arc ms a h) → T (path arc ms h b) → T (path arc ms a b or (path arc ms a h and path arc ms h b))
      by p q =
          or_right (path arc ms a b) (path arc ms a h and path arc ms h b) (and_intro (path arc ms a h) (path arc ms h b) p q)

  -- where every arc starts at a listed number, every path is computed
  pub path_complete : (ms : List ℕ) → ((c d : ℕ) → T (arc c d) → T (member c ms)) → {a b : ℕ} → Path⁺ (λ c d. T (arc c d)) a b
      → T (path arc ms a b)
  path_complete ms f (Path⁺.one {a = a} {b = b} e) = path_arc ms a b e
  path_complete ms f (Path⁺.more {a = a} {b = b} {c = c} p e) =
      path_composes ms a b c (f b c e) (path_complete ms f p) (path_arc ms b c e)
