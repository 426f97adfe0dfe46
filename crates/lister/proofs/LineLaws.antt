-- How the code types a line: digit by digit, number by number.
-- Assumes nothing.
use Prim.Native.Nat.{ℕ, zero, suc, ◌+◌, ◌/◌, ◌%◌, ◌^◌, ◌≤◌, ◌<◌}
use mathlib.Core.Path.{◌≡◌, refl, sym, ◌∙◌, ap, subst, subst⁻¹}
use mathlib.Core.Logic.{⊎_elim}
use mathlib.Core.List.{List, [], ◌∷◌, ◌++◌, append_assoc, append-nil}
use native.Mathlib.Omega.{arith}
use native.Mathlib.Nat.{pow-suc}
use native.Mathlib.Numerals.{add-one}
use lib.Dec.{ltb, lt→ltb, ltb→lt, not_T}
use Rattle.basics.specs.Lists.{tabulate, blocks}
use Rattle.basics.proofs.TestLaws.{chosen, passed_over, below_or_not}
use Rattle.refusals.specs.declared.Refusal.{Refusal}
use Rattle.refusals.specs.Numbers.{number_of, place_of, second_of}
use Rattle.text.specs.Lines.{digits, decimal, spaced, line, refused_word}
use Rattle.text.specs.Listing.{refusal_line}
use Rattle.lister.specs.declared.Page.{Page}
use Rattle.lister.specs.Shown.{Types}
use Rattle.lister.proofs.PageLaws.{types_then, types_same}

-- the digits of a number: a number below ten is its one digit
one_of : (k n : ℕ) → n < 10 → digits (suc k) n ≡ (48 + n) ∷ []
unfolding digits
one_of k n h = chosen (ltb n 10) _ _ (lt→ltb n 10 h)

-- any other is what stands before its last digit, and then that digit
more_of : (k n : ℕ) → 10 ≤ n → digits (suc k) n ≡ digits k (n / 10) ++ ((48 + n % 10) ∷ [])
unfolding digits
more_of k n h = passed_over (ltb n 10) _ _ (not_T (ltb n 10) (λ t. let l : n < 10 = ltb→lt n 10 t in omega arith))

-- leave for one digit more changes nothing where there was leave for all
enough : (k n : ℕ) → n < 10 ^ suc k → digits (suc (suc k)) n ≡ digits (suc k) n
enough zero n h =
    let l : n < 10 = (let z : 10 ^ 1 ≡ 10 = refl in omega (arith, z)) in
    one_of 1 n l ∙ sym (one_of 0 n l)
enough (suc k) n h =
    ⊎_elim (λ l. one_of (suc (suc k)) n l ∙ sym (one_of (suc k) n l))
    (λ l. more_of (suc (suc k)) n l
    ∙ (ap (λ (t : List ℕ). t ++ ((48 + n % 10) ∷ [])) (enough k (n / 10) (omega (arith, pow-suc 10 (suc k)))) ∙ sym (more_of (suc k) n l)))
    (below_or_not n 10)

pub one_digit : {o s o₁ : Page} (n : ℕ) → n < 10 → s ≡ o → Types s ((48 + n % 10) ∷ []) o₁ → Types o (decimal n) o₁
unfolding decimal
one_digit {o₁ = o₁} n l same f =
    let e : n % 10 ≡ n = omega arith in
    subst (λ (p : Page). Types p (digits 20 n) o₁) same (types_same (ap (λ (d : ℕ). (48 + d) ∷ []) e ∙ sym (one_of 19 n l)) f)

pub more_digits : {o o₁ s o₂ : Page} (n : ℕ) → n < 2 ^ 64 → 10 ≤ n → Types o (decimal (n / 10)) o₁ → s ≡ o₁ → Types s ((48 + n % 10) ∷ []) o₂
    → Types o (decimal n) o₂
unfolding decimal
more_digits {o₂ = o₂} n h l f same g =
    let most : 10 ^ 19 ≡ 10000000000000000000 = refl in
    types_same
    (ap (λ (t : List ℕ). t ++ ((48 + n % 10) ∷ [])) (enough 18 (n / 10) (omega (arith, most))) ∙ sym (more_of 19 n l))
    (types_then f (subst (λ (p : Page). Types p ((48 + n % 10) ∷ []) o₂) same g))

pub blank_number : {o o₁ o₂ : Page} (n : ℕ) → Types o (32 ∷ []) o₁ → Types o₁ (decimal n) o₂ → Types o (32 ∷ decimal n) o₂
blank_number n f g = types_then f g

-- A line as far as it has come: its word and the first of its numbers.
spaced_append : (ms ns : List ℕ) → spaced (ms ++ ns) ≡ spaced ms ++ spaced ns
unfolding spaced
spaced_append [] ns = refl
spaced_append (m ∷ ms) ns =
    ap (λ (l : List ℕ). 32 ∷ l)
    (ap (λ (l : List ℕ). decimal m ++ l) (spaced_append ms ns) ∙ sym (append_assoc (decimal m) (spaced ms) (spaced ns)))

pub record Begun (word ns : List ℕ) (o o' : Page) : Type 0 where
  pub typed : Types o (word ++ spaced ns) o'

pub line_word : {o o₁ : Page} {word : List ℕ} → Types o word o₁ → Begun word [] o o₁
unfolding spaced
line_word {word} f = record { typed = types_same (sym (append-nil word)) f }

pub line_number : {o o₁ o₂ : Page} {word : List ℕ} (ns : List ℕ) (n : ℕ) → Begun word ns o o₁ → Types o₁ (32 ∷ decimal n) o₂
    → Begun word (ns ++ (n ∷ [])) o o₂
line_number {word} ns n f g =
    let one : spaced (n ∷ []) ≡ 32 ∷ decimal n = unfold spaced in ap (λ (l : List ℕ). 32 ∷ l) (append-nil (decimal n)) in
    record {
      typed =
          types_same
          (append_assoc word (spaced ns) (32 ∷ decimal n)
          ∙ ap (λ (l : List ℕ). word ++ l) (ap (λ (l : List ℕ). spaced ns ++ l) (sym one) ∙ sym (spaced_append ns (n ∷ []))))
          (types_then f.typed g);
    }

pub line_end : {o o₁ o₂ : Page} {word : List ℕ} (ns : List ℕ) → Begun word ns o o₁ → Types o₁ (10 ∷ []) o₂ → Types o (line word ns) o₂
unfolding line
line_end {word} ns f g = types_same (append_assoc word (spaced ns) (10 ∷ [])) (types_then f.typed g)

-- a loop over n numbers f, behind the first numbers of a line: the first i of them are typed
pub record NumbersTo (word first : List ℕ) (f : ℕ → ℕ) (n : ℕ) (o : Page) (i : ℕ) (o' : Page) : Type 0 where
  pub inside : i ≤ n
  pub begun : Begun word (first ++ tabulate i f) o o'

pub numbers_start : {o o₁ : Page} {word : List ℕ} (first : List ℕ) (f : ℕ → ℕ) (n : ℕ) → Begun word first o o₁ → NumbersTo word first f n o 0 o₁
unfolding tabulate
numbers_start {o} {o₁} {word} first f n b =
    record { inside = omega arith; begun = subst⁻¹ (λ (l : List ℕ). Begun word l o o₁) (append-nil first) b }

pub numbers_turn : {o o₁ o₂ : Page} {word : List ℕ} (first : List ℕ) (f : ℕ → ℕ) (n i v : ℕ) → i < n → NumbersTo word first f n o i o₁
    → Types o₁ (32 ∷ decimal v) o₂ → v ≡ f i → NumbersTo word first f n o (i + 1) o₂
unfolding tabulate
numbers_turn {o} {o₁} {o₂} {word} first f n i v h s t e =
    record {
      inside = omega arith;
      begun =
          subst (λ (l : List ℕ). Begun word l o o₂)
          (append_assoc first (tabulate i f) (v ∷ [])
          ∙ (ap (λ (m : ℕ). first ++ (tabulate i f ++ (m ∷ []))) e ∙ sym (ap (λ (k : ℕ). first ++ tabulate k f) (add-one i))))
          (line_number (first ++ tabulate i f) v s.begun t);
    }

pub numbers_end : {o o₁ o₂ : Page} {word : List ℕ} (first : List ℕ) (f : ℕ → ℕ) (n m i : ℕ) → n ≡ m → n ≤ i → NumbersTo word first f n o i o₁
    → Types o₁ (10 ∷ []) o₂ → Types o (line word (first ++ tabulate m f)) o₂
numbers_end {o} {o₁} {o₂} {word} first f n m i e h s t =
    let all : i ≡ m = omega (arith, s.inside) in
    types_same (ap (λ (k : ℕ). line word (first ++ tabulate k f)) all) (line_end (first ++ tabulate i f) s.begun t)

-- two numbers
pub two_line : {o o₁ o₂ o₃ o₄ : Page} {word : List ℕ} (x y : ℕ) → Types o word o₁ → Types o₁ (32 ∷ decimal x) o₂ → Types o₂ (32 ∷ decimal y) o₃
    → Types o₃ (10 ∷ []) o₄ → Types o (line word (x ∷ y ∷ [])) o₄
two_line x y w s t v = line_end (x ∷ y ∷ []) (line_number (x ∷ []) y (line_number [] x (line_word w) s) t) v

-- the line of a refusal: its three numbers
pub refusal_line_typed : {o o₁ o₂ o₃ o₄ o₅ : Page} (r : Refusal) (x y z : ℕ) → x ≡ number_of r → y ≡ place_of r → z ≡ second_of r
    → Types o refused_word o₁ → Types o₁ (32 ∷ decimal x) o₂ → Types o₂ (32 ∷ decimal y) o₃ → Types o₃ (32 ∷ decimal z) o₄ → Types o₄ (10 ∷ []) o₅
    → Types o (refusal_line r) o₅
unfolding refusal_line
refusal_line_typed r x y z ex ey ez w s t u v =
    types_same
    (ap (λ (k : ℕ). line refused_word (k ∷ y ∷ z ∷ [])) ex
    ∙ (ap (λ (k : ℕ). line refused_word (number_of r ∷ k ∷ z ∷ [])) ey ∙ ap (λ (k : ℕ). line refused_word (number_of r ∷ place_of r ∷ k ∷ [])) ez))
    (line_end (x ∷ y ∷ z ∷ []) (line_number (x ∷ y ∷ []) z (line_number (x ∷ []) y (line_number [] x (line_word w) s) t) u) v)

-- a loop over n blocks f, behind a text: the first i of them are typed
pub record BlocksTo (text : List ℕ) (f : ℕ → List ℕ) (n : ℕ) (o : Page) (i : ℕ) (o' : Page) : Type 0 where
  pub inside : i ≤ n
  pub typed : Types o (text ++ blocks i f) o'

pub blocks_start : {o o₁ : Page} (text : List ℕ) (f : ℕ → List ℕ) (n : ℕ) → Types o text o₁ → BlocksTo text f n o 0 o₁
unfolding blocks
blocks_start text f n t = record { inside = omega arith; typed = types_same (sym (append-nil text)) t }

pub blocks_turn : {o o₁ o₂ : Page} (text : List ℕ) (f : ℕ → List ℕ) (n i : ℕ) → i < n → BlocksTo text f n o i o₁ → Types o₁ (f i) o₂
    → BlocksTo text f n o (i + 1) o₂
unfolding blocks
blocks_turn text f n i h s t =
    record {
      inside = omega arith;
      typed =
          types_same (append_assoc text (blocks i f) (f i) ∙ sym (ap (λ (k : ℕ). text ++ blocks k f) (add-one i))) (types_then s.typed t);
    }

pub blocks_end : {o o₁ : Page} (text : List ℕ) (f : ℕ → List ℕ) (n m i : ℕ) → n ≡ m → n ≤ i → BlocksTo text f n o i o₁ → Types o (text ++ blocks m f) o₁
blocks_end text f n m i e h s =
    let all : i ≡ m = omega (arith, s.inside) in
    types_same (ap (λ (k : ℕ). text ++ blocks k f) all) s.typed
