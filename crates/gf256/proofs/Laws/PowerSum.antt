-- The laws of power sums. Killing a place leaves one sum fewer; so at most k terms, at different places, whose first k sums are 0, have no value but 0.
-- Assumes nothing.
use mathlib.Core.Path.{◌≡◌, refl, sym, ap, ap₂, ◌∙◌}
use mathlib.Core.List.{List, [], ◌∷◌}
use Prim.Native.Nat.{ℕ, zero, suc, ◌≤◌, ◌<◌}
use native.Mathlib.Nat.{le_of_suc-le-suc, not-suc-le-zero, zero-lt-suc}
use native.Mathlib.Omega.{arith}
use lib.ListN.{length}
use Rattle.gf256.specs.Field.{◌⊕◌, ◌⊗◌, pow}
use Rattle.gf256.specs.PowerSum.{Term, power_sum, Without, Apart, ByteTerms, Gone, kill}
use Rattle.gf256.proofs.Laws.Sum.{⊕-self, ⊕-zero-l, ⊕-zero-r, ⊕-four, ⊕-lt, ⊕-zero-eq}
use Rattle.gf256.proofs.Laws.Product.{⊗-comm, ⊗-⊕-r, ⊗-zero-l, ⊗-zero-r, ⊗-one-r, ⊗-lt, ⊗-zero-cancel}
use Rattle.gf256.proofs.Laws.Ring.{ring}

term-kill : (x X Y p : ℕ) → Y ⊗ (X ⊗ p) ⊕ x ⊗ (Y ⊗ p) ≡ (Y ⊗ (X ⊕ x)) ⊗ p
term-kill x X Y p = simp ring

pub kill-sum : (x : ℕ) (es : List Term) (j : ℕ) → power_sum es (suc j) ⊕ x ⊗ power_sum es j ≡ power_sum (kill x es) j
unfolding power_sum pow
kill-sum x [] j = ⊕-zero-l _ ∙ ⊗-zero-r x
kill-sum x (e ∷ es) j =
    ap (◌⊕◌ (e.Y ⊗ (e.X ⊗ pow e.X j) ⊕ power_sum es (suc j))) (⊗-⊕-r x _ _)
    ∙ ⊕-four _ _ _ _
    ∙ ap₂ ◌⊕◌ (term-kill x e.X e.Y (pow e.X j)) (kill-sum x es j)

pub length-kill : (x : ℕ) (es : List Term) → length (kill x es) ≡ length es
length-kill x [] = refl
length-kill x (e ∷ es) = ap suc (length-kill x es)

without-kill : (x y : ℕ) (es : List Term) → Without y es → Without y (kill x es)
without-kill x y [] w = tt
without-kill x y (e ∷ es) w = (w.0, without-kill x y es w.1)

apart-kill : (x : ℕ) (es : List Term) → Apart es → Apart (kill x es)
apart-kill x [] a = tt
apart-kill x (e ∷ es) a = (without-kill x e.X es a.0, apart-kill x es a.1)

bytes-kill : (x : ℕ) (es : List Term) → ByteTerms es → ByteTerms (kill x es)
bytes-kill x [] b = tt
bytes-kill x (e ∷ es) b = (b.0, ⊗-lt _ _, bytes-kill x es b.2)

-- the head is killed by its own X
pub kill-head : (e : Term) (es : List Term) (j : ℕ) → power_sum (kill e.X (e ∷ es)) j ≡ power_sum (kill e.X es) j
unfolding power_sum
kill-head e es j =
    ap (λ (z : ℕ). (e.Y ⊗ z) ⊗ pow e.X j ⊕ power_sum (kill e.X es) j) (⊕-self e.X)
    ∙ ap (λ (z : ℕ). z ⊗ pow e.X j ⊕ power_sum (kill e.X es) j) (⊗-zero-r e.Y)
    ∙ ap (λ (z : ℕ). z ⊕ power_sum (kill e.X es) j) (⊗-zero-l _) ∙ ⊕-zero-l _

-- a product is 0 and one factor is not: the other is
factor : (y p : ℕ) → y < 256 → p < 256 → (p ≡ 0 → ⊥) → y ⊗ p ≡ 0 → y ≡ 0
factor y zero hy hp n e = absurd (n refl)
factor y (suc p) hy hp n e = ⊗-zero-cancel (suc p) y (zero-lt-suc p) hp hy (⊗-comm (suc p) y ∙ e)

gone-kill : (x : ℕ) → x < 256 → (es : List Term) → ByteTerms es → Without x es → Gone (kill x es) → Gone es
gone-kill x h [] b w g = tt
gone-kill x h (e ∷ es) b w g =
    (factor e.Y (e.X ⊕ x) b.1 (⊕-lt _ _ b.0 h) (λ z. w.0 (⊕-zero-eq _ _ z)) g.0, gone-kill x h es b.2 w.1 g.1)

sum-gone : (es : List Term) (j : ℕ) → Gone es → power_sum es j ≡ 0
unfolding power_sum
sum-gone [] j g = refl
sum-gone (e ∷ es) j g = ap₂ ◌⊕◌ (ap (λ (y : ℕ). y ⊗ pow e.X j) g.0 ∙ ⊗-zero-l _) (sum-gone es j g.1) ∙ ⊕-self 0

-- the sums without the head, at one power fewer
fewer : (k : ℕ) (e : Term) (es : List Term) → ((j : ℕ) → j < suc k → power_sum (e ∷ es) j ≡ 0) → (j : ℕ) → j < k → power_sum (kill e.X es) j ≡ 0
fewer k e es s j h =
    sym (kill-head e es j) ∙ sym (kill-sum e.X (e ∷ es) j)
    ∙ ap₂ (λ (p q : ℕ). p ⊕ e.X ⊗ q) (s (suc j) (omega arith)) (s j (omega arith))
    ∙ ⊕-zero-l _ ∙ ⊗-zero-r e.X

head-gone : (e : Term) (es : List Term) → e.Y < 256 → Gone es → power_sum (e ∷ es) 0 ≡ 0 → e.Y ≡ 0
unfolding power_sum pow
head-gone e es h g s =
    sym (⊕-zero-r e.Y ∙ refl) ∙ ap₂ ◌⊕◌ (sym (⊗-one-r e.Y h)) (sym (sum-gone es 0 g)) ∙ s

pub vanish : (k : ℕ) (es : List Term) → length es ≤ k → ByteTerms es → Apart es → ((j : ℕ) → j < k → power_sum es j ≡ 0) → Gone es
vanish zero [] l b a s = tt
vanish zero (e ∷ es) l b a s = absurd (not-suc-le-zero l)
vanish (suc k) [] l b a s = tt
vanish (suc k) (e ∷ es) l b a s =
    let rest : Gone es = gone-kill e.X b.0 es b.2 a.0
    (vanish k (kill e.X es) (rw length-kill (le_of_suc-le-suc l)) (bytes-kill e.X es b.2) (apart-kill e.X es a.1) (fewer k e es s)) in
    (head-gone e es b.1 rest (s 0 (zero-lt-suc k)), rest)
