-- Three errors from their six sums: the places are the roots of the cubic whose coefficients, over the first, are the minors of the
-- Hankel matrix of the sums; once one place is killed, two errors are left.
-- Assumes nothing.
use mathlib.Core.Path.{◌≡◌, sym, ap, ap₂, ◌∙◌, subst}
use mathlib.Core.List.{List, [], ◌∷◌}
use Prim.Native.Nat.{ℕ, suc, ◌<◌}
use native.Mathlib.Omega.{arith}
use lib.ListN.{length, get_or}
use Rattle.gf256.specs.Field.{◌⊕◌, ◌⊗◌, pow, over}
use Rattle.gf256.proofs.Laws.Sum.{⊕-assoc, ⊕-comm, ⊕-left-comm, ⊕-lt, ⊕-self, ⊕-zero-r}
use Rattle.gf256.proofs.Laws.Product.{⊗-lt, ⊗-pos, ⊗-zero-l, ⊗-zero-r, pow-lt, over-unique}
use Rattle.gf256.proofs.Laws.Ring.{ring}
use Rattle.search.specs.Search.{term, Explains, killed_of, cubic, locator_three, TopRoot, determinant, Are, FindsTwo}
use Rattle.std.specs.Prelude.{Option, Some, None, IsSomeAnd}
use Rattle.search.specs.declared.errors.Place.{Place}
use Rattle.search.specs.declared.errors.Error.{Error}
use Rattle.search.proofs.Laws.Errors.{place-at, value-at}
use Rattle.search.specs.declared.solver.Locator.{Locator}
use Rattle.search.proofs.Laws.Moment.{moment, apart, explained-one, explained-two, explained-three, explains-kill}

-- ---- the determinant: linear in its third column, 0 for equal columns, and the same for the columns in any order

det-⊕ : (a b c d e f g h i g' h' i' : ℕ) → determinant a b c d e f (g ⊕ g') (h ⊕ h') (i ⊕ i') ≡ determinant a b c d e f g h i ⊕ determinant a b c d e f g' h' i'
unfolding determinant
det-⊕ a b c d e f g h i g' h' i' = simp ring

det-scale : (a b c d e f g h i p : ℕ) → determinant a b c d e f (p ⊗ g) (p ⊗ h) (p ⊗ i) ≡ p ⊗ determinant a b c d e f g h i
unfolding determinant
det-scale a b c d e f g h i p = simp ring

det-first : (a b c d e f : ℕ) → determinant a b c d e f a b c ≡ 0
unfolding determinant
det-first a b c d e f = simp ring

det-second : (a b c d e f : ℕ) → determinant a b c d e f d e f ≡ 0
unfolding determinant
det-second a b c d e f = simp ring

det-swap : (a b c d e f g h i : ℕ) → determinant a b c g h i d e f ≡ determinant a b c d e f g h i
unfolding determinant
det-swap a b c d e f g h i = simp ring

det-turn : (a b c d e f g h i : ℕ) → determinant d e f g h i a b c ≡ determinant a b c d e f g h i
unfolding determinant
det-turn a b c d e f g h i = simp ring

-- the third column with the others mixed in
det-mixed : (a b c d e f g h i p q r : ℕ)
    → determinant a b c d e f (p ⊗ g ⊕ (q ⊗ d ⊕ r ⊗ a)) (p ⊗ h ⊕ (q ⊗ e ⊕ r ⊗ b)) (p ⊗ i ⊕ (q ⊗ f ⊕ r ⊗ c)) ≡ p ⊗ determinant a b c d e f g h i
det-mixed a b c d e f g h i p q r =
    det-⊕ a b c d e f _ _ _ _ _ _
    ∙ ap₂ ◌⊕◌ (det-scale a b c d e f g h i p)
    (det-⊕ a b c d e f _ _ _ _ _ _
    ∙ ap₂ ◌⊕◌ (det-scale a b c d e f d e f q ∙ ap (◌⊗◌ q) (det-second a b c d e f) ∙ ⊗-zero-r q)
    (det-scale a b c d e f a b c r ∙ ap (◌⊗◌ r) (det-first a b c d e f) ∙ ⊗-zero-r r)
    ∙ ⊕-self 0)
    ∙ ⊕-zero-r _

-- the third column with p times the second added, and with p times the first added
det-add-second : (a b c d e f g h i p : ℕ) → determinant a b c d e f (g ⊕ p ⊗ d) (h ⊕ p ⊗ e) (i ⊕ p ⊗ f) ≡ determinant a b c d e f g h i
det-add-second a b c d e f g h i p =
    det-⊕ a b c d e f _ _ _ _ _ _ ∙ ap (◌⊕◌ (determinant a b c d e f g h i)) (det-scale a b c d e f d e f p ∙ ap (◌⊗◌ p) (det-second a b c d e f) ∙ ⊗-zero-r p) ∙ ⊕-zero-r _

det-add-first : (a b c d e f g h i p : ℕ) → determinant a b c d e f (g ⊕ p ⊗ a) (h ⊕ p ⊗ b) (i ⊕ p ⊗ c) ≡ determinant a b c d e f g h i
det-add-first a b c d e f g h i p =
    det-⊕ a b c d e f _ _ _ _ _ _ ∙ ap (◌⊕◌ (determinant a b c d e f g h i)) (det-scale a b c d e f a b c p ∙ ap (◌⊗◌ p) (det-first a b c d e f) ∙ ⊗-zero-r p) ∙ ⊕-zero-r _

-- ---- sums that go on by p, q and r

ap3 : (f : ℕ → ℕ → ℕ → ℕ) {a a' b b' c c' : ℕ} → a ≡ a' → b ≡ b' → c ≡ c' → f a b c ≡ f a' b' c'
ap3 f p q r = cc

ap9 : {a a' b b' c c' d d' e e' f f' g g' h h' i i' : ℕ} → a ≡ a' → b ≡ b' → c ≡ c' → d ≡ d' → e ≡ e' → f ≡ f' → g ≡ g' → h ≡ h' → i ≡ i'
    → determinant a b c d e f g h i ≡ determinant a' b' c' d' e' f' g' h' i'
ap9 p q r s t u v w x = cc

last-first : (u v w : ℕ) → u ⊕ (v ⊕ w) ≡ w ⊕ (u ⊕ v)
last-first u v w = simp (⊕-assoc, ⊕-left-comm, ⊕-comm)

module _ (s0 s1 s2 s3 s4 s5 p q r : ℕ)
    (e3 : s3 ≡ p ⊗ s2 ⊕ (q ⊗ s1 ⊕ r ⊗ s0)) (e4 : s4 ≡ p ⊗ s3 ⊕ (q ⊗ s2 ⊕ r ⊗ s1)) (e5 : s5 ≡ p ⊗ s4 ⊕ (q ⊗ s3 ⊕ r ⊗ s2)) where
  -- the four minors are the first times 1, p, q and r
  pub minor-p : p ⊗ determinant s0 s1 s2 s1 s2 s3 s2 s3 s4 ≡ determinant s0 s1 s2 s1 s2 s3 s3 s4 s5
  minor-p = sym (ap3 (λ (u v w : ℕ). determinant s0 s1 s2 s1 s2 s3 u v w) e3 e4 e5 ∙ det-mixed s0 s1 s2 s1 s2 s3 s2 s3 s4 p q r)

  pub minor-q : q ⊗ determinant s0 s1 s2 s1 s2 s3 s2 s3 s4 ≡ determinant s0 s1 s2 s2 s3 s4 s3 s4 s5
  minor-q =
      sym
      (ap3 (λ (u v w : ℕ). determinant s0 s1 s2 s2 s3 s4 u v w) (e3 ∙ ⊕-left-comm _ _ _) (e4 ∙ ⊕-left-comm _ _ _) (e5 ∙ ⊕-left-comm _ _ _)
      ∙ det-mixed s0 s1 s2 s2 s3 s4 s1 s2 s3 q p r ∙ ap (◌⊗◌ q) (det-swap s0 s1 s2 s1 s2 s3 s2 s3 s4))

  pub minor-r : r ⊗ determinant s0 s1 s2 s1 s2 s3 s2 s3 s4 ≡ determinant s1 s2 s3 s2 s3 s4 s3 s4 s5
  minor-r =
      sym
      (ap3 (λ (u v w : ℕ). determinant s1 s2 s3 s2 s3 s4 u v w) (e3 ∙ last-first _ _ _) (e4 ∙ last-first _ _ _) (e5 ∙ last-first _ _ _)
      ∙ det-mixed s1 s2 s3 s2 s3 s4 s0 s1 s2 r p q ∙ ap (◌⊗◌ r) (det-turn s0 s1 s2 s1 s2 s3 s2 s3 s4))

-- ---- identities of three terms

step-ring : (a b c x y z : ℕ)
    → a ⊗ x ⊗ x ⊗ x ⊕ (b ⊗ y ⊗ y ⊗ y ⊕ c ⊗ z ⊗ z ⊗ z)
    ≡ (x ⊕ (y ⊕ z)) ⊗ (a ⊗ x ⊗ x ⊕ (b ⊗ y ⊗ y ⊕ c ⊗ z ⊗ z))
    ⊕ ((x ⊗ y ⊕ (x ⊗ z ⊕ y ⊗ z)) ⊗ (a ⊗ x ⊕ (b ⊗ y ⊕ c ⊗ z)) ⊕ x ⊗ (y ⊗ z) ⊗ (a ⊕ (b ⊕ c)))
step-ring a b c x y z = simp ring

factored : (t x y z : ℕ) → cubic (x ⊕ (y ⊕ z)) (x ⊗ y ⊕ (x ⊗ z ⊕ y ⊗ z)) (x ⊗ (y ⊗ z)) t ≡ (t ⊕ x) ⊗ ((t ⊕ y) ⊗ (t ⊕ z))
unfolding cubic
factored t x y z = simp ring

-- the columns of three moments, of the last two of these and of the last alone
columns-ring : (a b c B C D x y z : ℕ)
    → determinant (a ⊕ (b ⊕ c)) (a ⊗ x ⊕ (b ⊗ y ⊕ c ⊗ z)) (a ⊗ x ⊗ x ⊕ (b ⊗ y ⊗ y ⊕ c ⊗ z ⊗ z)) (B ⊕ C) (B ⊗ y ⊕ C ⊗ z) (B ⊗ y ⊗ y ⊕ C ⊗ z ⊗ z) D (D ⊗ z) (D ⊗ z ⊗ z)
    ≡ a ⊗ (B ⊗ D) ⊗ ((x ⊕ y) ⊗ ((x ⊕ z) ⊗ (y ⊕ z)))
unfolding determinant
columns-ring a b c B C D x y z = simp ring

value-ring : (a b c : ℕ) → a ⊕ (b ⊕ c) ⊕ b ⊕ c ≡ a
value-ring a b c = simp ring

-- the sums with x killed, and then y killed, as the second and the third column
killed-columns : (x y s0 s1 s2 s3 s4 : ℕ)
    → determinant s0 s1 s2 s1 s2 s3 s2 s3 s4
    ≡ determinant s0 s1 s2 (s1 ⊕ x ⊗ s0) (s2 ⊕ x ⊗ s1) (s3 ⊕ x ⊗ s2) (s2 ⊕ x ⊗ s1 ⊕ y ⊗ (s1 ⊕ x ⊗ s0)) (s3 ⊕ x ⊗ s2 ⊕ y ⊗ (s2 ⊕ x ⊗ s1)) (s4 ⊕ x ⊗ s3 ⊕ y ⊗ (s3 ⊕ x ⊗ s2))
killed-columns x y s0 s1 s2 s3 s4 =
    sym (det-add-second s0 s1 s2 s1 s2 s3 s2 s3 s4 x) ∙ sym (det-swap s0 s1 s2 s1 s2 s3 _ _ _)
    ∙ sym (det-add-first s0 s1 s2 _ _ _ s1 s2 s3 x) ∙ sym (det-swap s0 s1 s2 _ _ _ _ _ _)
    ∙ sym (det-add-second s0 s1 s2 _ _ _ _ _ _ y)

-- ---- three terms

module _ (k a m b i c : ℕ) (s : List ℕ) (hk : k < 254) (hm : m < k) (hi : i < m) (pa : 0 < a) (ha : a < 256) (pb : 0 < b) (hb : b < 256)
    (pc : 0 < c) (hc : c < 256) (E : Explains 6 (term k a ∷ term m b ∷ term i c ∷ []) s) where
  abbrev X : ℕ
  X = pow 2 k

  abbrev Y : ℕ
  Y = pow 2 m

  abbrev Z : ℕ
  Z = pow 2 i

  -- the coefficients of (x + X)(x + Y)(x + Z)
  abbrev P : ℕ
  P = X ⊕ (Y ⊕ Z)

  abbrev Q : ℕ
  Q = X ⊗ Y ⊕ (X ⊗ Z ⊕ Y ⊗ Z)

  abbrev R : ℕ
  R = X ⊗ (Y ⊗ Z)

  abbrev S : ℕ → ℕ
  S j = get_or s j 0

  sum-at : (j : ℕ) → j < 6 → S j ≡ moment a X j ⊕ (moment b Y j ⊕ moment c Z j)
  sum-at = explained-three 6 k a m b i c s ha hb hc E

  step : (j : ℕ) → j < 3 → S (suc (suc (suc j))) ≡ P ⊗ S (suc (suc j)) ⊕ (Q ⊗ S (suc j) ⊕ R ⊗ S j)
  step j h =
      sum-at (suc (suc (suc j))) (omega arith) ∙ step-ring (moment a X j) (moment b Y j) (moment c Z j) X Y Z
      ∙ sym (ap3 (λ (u v w : ℕ). P ⊗ u ⊕ (Q ⊗ v ⊕ R ⊗ w)) (sum-at (suc (suc j)) (omega arith)) (sum-at (suc j) (omega arith)) (sum-at j (omega arith)))

  -- two terms are left of the sums with the first place killed, and one once the second is killed too
  left-two : Explains 5 (term m (b ⊗ (Y ⊕ X)) ∷ term i (c ⊗ (Z ⊕ X)) ∷ []) (killed_of X s)
  left-two = explains-kill 5 (term k a) (term m b ∷ term i c ∷ []) s (omega arith) E

  left_one : Explains 4 (term i (c ⊗ (Z ⊕ X) ⊗ (Z ⊕ Y)) ∷ []) (killed_of Y (killed_of X s))
  left_one = explains-kill 4 (term m (b ⊗ (Y ⊕ X))) (term i (c ⊗ (Z ⊕ X)) ∷ []) (killed_of X s) (omega arith) left-two

  abbrev M : ℕ
  M = determinant (S 0) (S 1) (S 2) (S 1) (S 2) (S 3) (S 2) (S 3) (S 4)

  byte : (j l : ℕ) → pow 2 j ⊕ pow 2 l < 256
  byte j l = ⊕-lt _ _ (pow-lt 2 j) (pow-lt 2 l)

  abbrev B : ℕ
  B = b ⊗ (Y ⊕ X)

  abbrev C : ℕ
  C = c ⊗ (Z ⊕ X)

  abbrev D : ℕ
  D = C ⊗ (Z ⊕ Y)

  XY : 0 < X ⊕ Y
  XY = apart k m (omega arith) (omega arith) (λ e. omega arith)

  XZ : 0 < X ⊕ Z
  XZ = apart k i (omega arith) (omega arith) (λ e. omega arith)

  YX : 0 < Y ⊕ X
  YX = apart m k (omega arith) (omega arith) (λ e. omega arith)

  YZ : 0 < Y ⊕ Z
  YZ = apart m i (omega arith) (omega arith) (λ e. omega arith)

  ZX : 0 < Z ⊕ X
  ZX = apart i k (omega arith) (omega arith) (λ e. omega arith)

  ZY : 0 < Z ⊕ Y
  ZY = apart i m (omega arith) (omega arith) (λ e. omega arith)

  B-pos : 0 < B
  B-pos = ⊗-pos b _ pb hb YX (byte m k)

  C-pos : 0 < C
  C-pos = ⊗-pos c _ pc hc ZX (byte i k)

  two_at : (j : ℕ) → j < 5 → get_or (killed_of X s) j 0 ≡ moment B Y j ⊕ moment C Z j
  two_at = explained-two 5 m B i C (killed_of X s) (⊗-lt _ _) (⊗-lt _ _) left-two

  one_at : (j : ℕ) → j < 4 → get_or (killed_of Y (killed_of X s)) j 0 ≡ moment D Z j
  one_at = explained-one 4 i D (killed_of Y (killed_of X s)) (⊗-lt _ _) left_one

  M-is : M ≡ a ⊗ (B ⊗ D) ⊗ ((X ⊕ Y) ⊗ ((X ⊕ Z) ⊗ (Y ⊕ Z)))
  M-is =
      killed-columns X Y (S 0) (S 1) (S 2) (S 3) (S 4)
      ∙ ap9 (sum-at 0 (omega arith)) (sum-at 1 (omega arith)) (sum-at 2 (omega arith)) (two_at 0 (omega arith)) (two_at 1 (omega arith)) (two_at 2 (omega arith))
      (one_at 0 (omega arith)) (one_at 1 (omega arith)) (one_at 2 (omega arith))
      ∙ columns-ring a b c B C D X Y Z

  M-pos : 0 < M
  M-pos =
      rw M-is
      (⊗-pos _ _ (⊗-pos a _ pa ha (⊗-pos B D B-pos (⊗-lt _ _) (⊗-pos C _ C-pos (⊗-lt _ _) ZY (byte i m)) (⊗-lt _ _)) (⊗-lt _ _)) (⊗-lt _ _)
      (⊗-pos _ _ XY (byte k m) (⊗-pos _ _ XZ (byte k i) YZ (byte m i)) (⊗-lt _ _)) (⊗-lt _ _))

  M-lt : M < 256
  unfolding determinant
  M-lt = ⊕-lt _ _ (⊗-lt _ _) (⊕-lt _ _ (⊗-lt _ _) (⊗-lt _ _))

  -- the coefficients, over the first minor
  over-P : over (determinant (S 0) (S 1) (S 2) (S 1) (S 2) (S 3) (S 3) (S 4) (S 5)) M ≡ P
  over-P = over-unique _ M P M-pos M-lt (⊕-lt X _ (pow-lt 2 k) (byte m i)) (minor-p _ _ _ _ _ _ P Q R (step 0 (omega arith)) (step 1 (omega arith)) (step 2 (omega arith)))

  over-Q : over (determinant (S 0) (S 1) (S 2) (S 2) (S 3) (S 4) (S 3) (S 4) (S 5)) M ≡ Q
  over-Q =
      over-unique _ M Q M-pos M-lt (⊕-lt _ _ (⊗-lt _ _) (⊕-lt _ _ (⊗-lt _ _) (⊗-lt _ _)))
      (minor-q _ _ _ _ _ _ P Q R (step 0 (omega arith)) (step 1 (omega arith)) (step 2 (omega arith)))

  over-R : over (determinant (S 1) (S 2) (S 3) (S 2) (S 3) (S 4) (S 3) (S 4) (S 5)) M ≡ R
  over-R = over-unique _ M R M-pos M-lt (⊗-lt _ _) (minor-r _ _ _ _ _ _ P Q R (step 0 (omega arith)) (step 1 (omega arith)) (step 2 (omega arith)))

  -- of the places only the three are roots, so the first is the greatest
  root-first : cubic P Q R X ≡ 0
  root-first = factored X X Y Z ∙ ap (λ (p : ℕ). p ⊗ ((X ⊕ Y) ⊗ (X ⊕ Z))) (⊕-self X) ∙ ⊗-zero-l _

  root-above : (j : ℕ) → k < j → j < 254 → cubic P Q R (pow 2 j) ≡ 0 → ⊥
  root-above j h l e =
      omega (
        arith,
        sym (factored (pow 2 j) X Y Z) ∙ e,
        ⊗-pos _ _ (apart j k (omega arith) (omega arith) (λ q. omega arith)) (byte j k)
            (⊗-pos _ _ (apart j m (omega arith) (omega arith) (λ q. omega arith)) (byte j m)
            (apart j i (omega arith) (omega arith) (λ q. omega arith)) (byte j i)) (⊗-lt _ _),
      )

  locator-three : locator_three s ≡ record { a = P; b = Q; c = R }
  unfolding locator_three
  locator-three = λ j. record { a = over-P j; b = over-Q j; c = over-R j }

  top-root : (l : Locator) → l ≡ locator_three s → (o : Option Place) → TopRoot l o → IsSomeAnd o (λ p. p.exponent ≡ k)
  top-root l e o T = (subst (λ (q : Locator). TopRoot q o) (e ∙ locator-three) T).top k hk root-first root-above

  pub no-top-three : (l : Locator) → l ≡ locator_three s → TopRoot l None → ⊥
  no-top-three l e T = top-root l e None T

  pub top-three : (l : Locator) → l ≡ locator_three s → (p : Place) → TopRoot l (Some p) → p.exponent ≡ k
  top-three l e p T = top-root l e (Some p) T

  -- the values, from those that are left once the first place is killed
  second-three : over B (X ⊕ Y) ≡ b
  second-three = over-unique B (X ⊕ Y) b XY (byte k m) hb (ap (◌⊗◌ b) (⊕-comm X Y))

  third-three : over C (X ⊕ Z) ≡ c
  third-three = over-unique C (X ⊕ Z) c XZ (byte k i) hc (ap (◌⊗◌ c) (⊕-comm X Z))

  first_three : S 0 ⊕ b ⊕ c ≡ a
  first_three = ap (λ (p : ℕ). p ⊕ b ⊕ c) (sum-at 0 (omega arith)) ∙ value-ring a b c

  -- ---- what the solver works out

  module _ (r : ℕ) (er : r ≡ k) (x : ℕ) (ex : x ≡ pow 2 r) (l : List ℕ) (el : l ≡ killed_of x s) where
    place : x ≡ X
    place = ex ∙ ap (pow 2) er

    found : (o : Option (List Error)) → FindsTwo 5 l o → IsSomeAnd o (Are (m ∷ i ∷ []) (B ∷ C ∷ []))
    found o F =
        F.finds m B i C (omega arith) hi B-pos (⊗-lt _ _) C-pos (⊗-lt _ _)
        (subst (Explains 5 (term m B ∷ term i C ∷ [])) (sym (el ∙ ap (λ (j : ℕ). killed_of j s) place)) left-two)

    pub no-two-left : FindsTwo 5 l None → ⊥
    no-two-left F = found None F

    module _ (es : List Error) (F : FindsTwo 5 l (Some es)) (n : length es ≡ 2) (d : Error) where
      are : Are (m ∷ i ∷ []) (B ∷ C ∷ []) es
      are = found (Some es) F

      -- a value over the sum of its place and the first one
      value : (v f u j p q : ℕ) → v ≡ q → j ≡ p → f ≡ x ⊕ pow 2 j → u ≡ over v f → u ≡ over q (X ⊕ pow 2 p)
      value v f u j p q ev ej ef eu = eu ∙ ap₂ over ev (ef ∙ ap₂ ◌⊕◌ place (ap (pow 2) ej))

      pub second-place : (get_or es 0 d).place.exponent ≡ m
      second-place = place-at es 0 d (omega arith) ∙ ap (λ (ks : List ℕ). get_or ks 0 0) are.places

      pub third-place : (get_or es 1 d).place.exponent ≡ i
      third-place = place-at es 1 d (omega arith) ∙ ap (λ (ks : List ℕ). get_or ks 1 0) are.places

      pub second-value : (j f u : ℕ) → j ≡ m → f ≡ x ⊕ pow 2 j → u ≡ over (get_or es 0 d).value f → u ≡ b
      second-value j f u ej ef eu = value _ f u j m B (value-at es 0 d (omega arith) ∙ ap (λ (ks : List ℕ). get_or ks 0 0) are.values) ej ef eu ∙ second-three

      pub third-value : (j f u : ℕ) → j ≡ i → f ≡ x ⊕ pow 2 j → u ≡ over (get_or es 1 d).value f → u ≡ c
      third-value j f u ej ef eu = value _ f u j i C (value-at es 1 d (omega arith) ∙ ap (λ (ks : List ℕ). get_or ks 1 0) are.values) ej ef eu ∙ third-three

    pub first-value : (u v q : ℕ) → u ≡ b → v ≡ c → q ≡ S 0 ⊕ u ⊕ v → q ≡ a
    first-value u v q eu ev eq = eq ∙ ap₂ (λ (n j : ℕ). S 0 ⊕ n ⊕ j) eu ev ∙ first_three
