-- Two errors from their sums, in closed form: with D = s0 s2 + s1^2, the sum of the places is (s0 s3 + s1 s2) / D and their product
-- (s1 s3 + s2^2) / D; the places are the roots, and the values follow.
-- Assumes nothing.
use mathlib.Core.Path.{◌≡◌, sym, ap, ap₂, ◌∙◌}
use mathlib.Core.List.{List, [], ◌∷◌}
use Prim.Native.Nat.{ℕ, suc, ◌<◌, ◌≤◌}
use native.Mathlib.Omega.{arith}
use native.Mathlib.Numerals.{add-one, add-two}
use lib.ListN.{get_or}
use Rattle.gf256.specs.Field.{◌⊕◌, ◌⊗◌, pow, over}
use Rattle.gf256.proofs.Laws.Sum.{⊕-lt, ⊕-self, ⊕-cancel}
use Rattle.gf256.proofs.Laws.Product.{⊗-lt, ⊗-pos, ⊗-zero-l, ⊗-zero-r, pow-lt, pow_pos, over-unique}
use Rattle.std.specs.Prelude.{Option, Some, None, IsSomeAnd}
use Rattle.gf256.proofs.Laws.Ring.{ring}
use Rattle.search.specs.Search.{term, Explains, Steps, cubic, locator_two, TopRoot}
use Rattle.search.specs.declared.errors.Place.{Place}
use Rattle.search.specs.declared.solver.Locator.{Locator}
use Rattle.search.proofs.Laws.Moment.{moment, apart, explained-two}

-- ---- identities

step-ring : (p q x z : ℕ) → p ⊗ x ⊗ x ⊕ q ⊗ z ⊗ z ≡ (x ⊕ z) ⊗ (p ⊗ x ⊕ q ⊗ z) ⊕ x ⊗ z ⊗ (p ⊕ q)
step-ring p q x z = simp ring

det-ring : (y w x z : ℕ) → (y ⊕ w) ⊗ (y ⊗ x ⊗ x ⊕ w ⊗ z ⊗ z) ⊕ (y ⊗ x ⊕ w ⊗ z) ⊗ (y ⊗ x ⊕ w ⊗ z) ≡ y ⊗ w ⊗ ((x ⊕ z) ⊗ (x ⊕ z))
det-ring y w x z = simp ring

sum-ring : (s0 s1 a b : ℕ) → a ⊗ (s0 ⊗ (a ⊗ s1 ⊕ b ⊗ s0) ⊕ s1 ⊗ s1) ≡ s0 ⊗ (a ⊗ (a ⊗ s1 ⊕ b ⊗ s0) ⊕ b ⊗ s1) ⊕ s1 ⊗ (a ⊗ s1 ⊕ b ⊗ s0)
sum-ring s0 s1 a b = simp ring

product-ring : (s0 s1 a b : ℕ) → b ⊗ (s0 ⊗ (a ⊗ s1 ⊕ b ⊗ s0) ⊕ s1 ⊗ s1) ≡ s1 ⊗ (a ⊗ (a ⊗ s1 ⊕ b ⊗ s0) ⊕ b ⊗ s1) ⊕ (a ⊗ s1 ⊕ b ⊗ s0) ⊗ (a ⊗ s1 ⊕ b ⊗ s0)
product-ring s0 s1 a b = simp ring

factored : (t x z : ℕ) → cubic (x ⊕ z) (x ⊗ z) 0 t ≡ t ⊗ ((t ⊕ x) ⊗ (t ⊕ z))
unfolding cubic
factored t x z = simp ring

value-ring : (y w x z : ℕ) → y ⊗ (x ⊕ z) ≡ y ⊗ x ⊕ w ⊗ z ⊕ z ⊗ (y ⊕ w)
value-ring y w x z = simp ring

other-ring : (y w : ℕ) → y ⊕ w ⊕ y ≡ w
other-ring y w = simp ring

-- ---- sums that go on by a and b

module _ (s0 s1 s2 s3 a b : ℕ) (e2 : s2 ≡ a ⊗ s1 ⊕ b ⊗ s0) (e3 : s3 ≡ a ⊗ s2 ⊕ b ⊗ s1) where
  sum-from : a ⊗ (s0 ⊗ s2 ⊕ s1 ⊗ s1) ≡ s0 ⊗ s3 ⊕ s1 ⊗ s2
  sum-from = rw (e3, e2) (sum-ring s0 s1 a b)

  product-from : b ⊗ (s0 ⊗ s2 ⊕ s1 ⊗ s1) ≡ s1 ⊗ s3 ⊕ s2 ⊗ s2
  product-from = rw (e3, e2) (product-ring s0 s1 a b)

-- ---- two terms

module _ (n k y m z : ℕ) (s : List ℕ) (hk : k < 254) (hm : m < k) (py : 0 < y) (hy : y < 256) (pz : 0 < z) (hz : z < 256)
    (hn : 4 ≤ n) (E : Explains n (term k y ∷ term m z ∷ []) s) where
  abbrev X : ℕ
  X = pow 2 k

  abbrev Z : ℕ
  Z = pow 2 m

  -- the j-th sum
  sum-at : (j : ℕ) → j < n → get_or s j 0 ≡ moment y X j ⊕ moment z Z j
  sum-at = explained-two n k y m z s hy hz E

  steps : Steps n (X ⊕ Z) (X ⊗ Z) s
  steps = record {
    at = λ j h.
        ap (λ (i : ℕ). get_or s i 0) (add-two j) ∙ sum-at (suc (suc j)) (omega arith)
        ∙ step-ring (moment y X j) (moment z Z j) X Z
        ∙ sym (ap₂ (λ (p q : ℕ). (X ⊕ Z) ⊗ p ⊕ X ⊗ Z ⊗ q) (ap (λ (i : ℕ). get_or s i 0) (add-one j) ∙ sum-at (suc j) (omega arith)) (sum-at j (omega arith)));
  }

  places-apart : 0 < X ⊕ Z
  places-apart = apart k m (omega arith) (omega arith) (λ e. omega arith)

  abbrev pub D : ℕ
  D = get_or s 0 0 ⊗ get_or s 2 0 ⊕ get_or s 1 0 ⊗ get_or s 1 0

  pub D-pos : 0 < D
  D-pos =
      rw (sum-at 0 (omega arith), sum-at 1 (omega arith), sum-at 2 (omega arith), det-ring y z X Z)
      (⊗-pos _ _ (⊗-pos y z py hy pz hz) (⊗-lt y z) (⊗-pos _ _ places-apart sum-byte places-apart sum-byte) (⊗-lt _ _))
    where
      sum-byte : X ⊕ Z < 256
      sum-byte = ⊕-lt X Z (pow-lt 2 k) (pow-lt 2 m)

  D-lt : D < 256
  D-lt = ⊕-lt _ _ (⊗-lt _ _) (⊗-lt _ _)

  -- the closed forms
  sum-two : over (get_or s 0 0 ⊗ get_or s 3 0 ⊕ get_or s 1 0 ⊗ get_or s 2 0) D ≡ X ⊕ Z
  sum-two =
      over-unique _ D (X ⊕ Z) D-pos D-lt (⊕-lt X Z (pow-lt 2 k) (pow-lt 2 m))
      (sum-from _ _ _ _ (X ⊕ Z) (X ⊗ Z) (steps.at 0 (omega arith)) (steps.at 1 (omega arith)))

  product-two : over (get_or s 1 0 ⊗ get_or s 3 0 ⊕ get_or s 2 0 ⊗ get_or s 2 0) D ≡ X ⊗ Z
  product-two =
      over-unique _ D (X ⊗ Z) D-pos D-lt (⊗-lt X Z)
      (product-from _ _ _ _ (X ⊕ Z) (X ⊗ Z) (steps.at 0 (omega arith)) (steps.at 1 (omega arith)))

  -- of the places only the two are roots, so the first is the greatest
  root-first : cubic (X ⊕ Z) (X ⊗ Z) 0 X ≡ 0
  root-first = factored X X Z ∙ ap (λ (p : ℕ). X ⊗ (p ⊗ (X ⊕ Z))) (⊕-self X) ∙ ap (◌⊗◌ X) (⊗-zero-l _) ∙ ⊗-zero-r X

  root-above : (j : ℕ) → k < j → j < 254 → cubic (X ⊕ Z) (X ⊗ Z) 0 (pow 2 j) ≡ 0 → ⊥
  root-above j h l e =
      omega (
        arith,
        sym (factored (pow 2 j) X Z) ∙ e,
        ⊗-pos (pow 2 j) _ (pow_pos j) (pow-lt 2 j)
            (⊗-pos _ _ (apart j k (omega arith) (omega arith) (λ q. omega arith)) (byte j k)
            (apart j m (omega arith) (omega arith) (λ q. omega arith)) (byte j m)) (⊗-lt _ _),
      )
    where
      byte : (i j : ℕ) → pow 2 i ⊕ pow 2 j < 256
      byte i j = ⊕-lt _ _ (pow-lt 2 i) (pow-lt 2 j)

  -- the values
  first_two : over (get_or s 1 0 ⊕ Z ⊗ get_or s 0 0) (X ⊕ Z) ≡ y
  first_two =
      over-unique _ (X ⊕ Z) y places-apart (⊕-lt X Z (pow-lt 2 k) (pow-lt 2 m)) hy
      (value-ring y z X Z ∙ sym (ap₂ (λ (p q : ℕ). p ⊕ Z ⊗ q) (sum-at 1 (omega arith)) (sum-at 0 (omega arith))))

  second-two : get_or s 0 0 ⊕ y ≡ z
  second-two = ap (λ (p : ℕ). p ⊕ y) (sum-at 0 (omega arith)) ∙ other-ring y z

  -- ---- what the solver works out

  module _ (l : Locator) (e : l ≡ locator_two s) where
    a-two : l.a ≡ X ⊕ Z
    unfolding locator_two
    a-two = ap (λ (p : Locator). p.a) e ∙ sum-two

    b-two : l.b ≡ X ⊗ Z
    unfolding locator_two
    b-two = ap (λ (p : Locator). p.b) e ∙ product-two

    c-two : l.c ≡ 0
    unfolding locator_two
    c-two = ap (λ (p : Locator). p.c) e

    pub steps-two : Steps n l.a l.b s
    steps-two = rw (a-two, b-two) steps

    top-root : (o : Option Place) → TopRoot l o → IsSomeAnd o (λ p. p.exponent ≡ k)
    top-root o T = T.top k hk (rw (a-two, b-two, c-two) root-first) (λ j h i q. root-above j h i (rw (a-two, b-two, c-two) at q))

    pub no-top-two : TopRoot l None → ⊥
    no-top-two T = top-root None T

    pub top-two : (p : Place) → TopRoot l (Some p) → p.exponent ≡ k
    top-two p T = top-root (Some p) T

    -- the other place, which is left of the sum of both
    pub other-two : (r v : ℕ) → r ≡ k → v ≡ pow 2 r ⊕ l.a → v ≡ Z
    other-two r v e q = q ∙ ap₂ ◌⊕◌ (ap (pow 2) e) a-two ∙ ⊕-cancel X Z

    pub value-two : (v p u : ℕ) → v ≡ Z → p ≡ get_or s 1 0 ⊕ v ⊗ get_or s 0 0 → u ≡ over p l.a → u ≡ y
    value-two v p u ev ep eu = eu ∙ ap₂ over (ep ∙ ap (λ (q : ℕ). get_or s 1 0 ⊕ q ⊗ get_or s 0 0) ev) a-two ∙ first_two

    pub left-two : (u x : ℕ) → u ≡ y → x ≡ get_or s 0 0 ⊕ u → x ≡ z
    left-two u x eu ex = ex ∙ ap (◌⊕◌ (get_or s 0 0)) eu ∙ second-two
