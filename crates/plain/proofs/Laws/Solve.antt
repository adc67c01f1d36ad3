-- Values at given elements, by as many of their sums: with one element killed, the others' values are left, each times what the two
-- elements differ by.
-- Assumes nothing.
use mathlib.Core.Path.{◌≡◌, refl, sym, ap, ap₂, ◌∙◌}
use mathlib.Core.List.{List, [], ◌∷◌}
use Prim.Native.Nat.{ℕ, zero, suc, ◌-◌, ◌<◌}
use native.Mathlib.Omega.{arith}
use lib.ListN.{get_or}
use Rattle.basics.proofs.Laws.Parts.{same-cons}
use Rattle.gf256.specs.Field.{◌⊕◌, ◌⊗◌, pow, over}
use Rattle.gf256.specs.PowerSum.{Term, power_sum, kill}
use Rattle.gf256.proofs.Laws.Sum.{⊕-assoc, ⊕-self, ⊕-zero-r, ⊕-pos, ⊕-lt}
use Rattle.gf256.proofs.Laws.Product.{⊗-one-r, ⊗-lt, over-unique, pow-inj}
use Rattle.gf256.proofs.Laws.PowerSum.{kill-sum, kill-head}
use Rattle.plain.specs.Plain.{element, Explains, Solves}

abbrev at : ℕ → ℕ → Term
at x y = record { X = x; Y = y }

-- two places have two elements
pub apart : (i j : ℕ) → i < j → j < 254 → element i ≡ element j → ⊥
apart i j l h e = let n : 253 - i ≡ 253 - j = pow-inj (253 - i) (253 - j) (omega arith) (omega arith) e in omega arith

-- ---- the first sum, and a sum with one element killed

-- the first sum is the sum of the values
first-sum : (x y : ℕ) (es : List Term) → y < 256 → power_sum (at x y ∷ es) 0 ≡ y ⊕ power_sum es 0
unfolding power_sum pow
first-sum x y es h = ap (λ (v : ℕ). v ⊕ power_sum es 0) (⊗-one-r y h)

-- of one value, it is that value
lone-sum : (x y : ℕ) → y < 256 → power_sum (at x y ∷ []) 0 ≡ y
unfolding power_sum
lone-sum x y h = first-sum x y [] h ∙ ⊕-zero-r y

-- a value is the first sum, less the sum of the others
rest-value : (x y s v : ℕ) (es : List Term) → y < 256 → s ≡ power_sum (at x y ∷ es) 0 → v ≡ power_sum es 0 → s ⊕ v ≡ y
rest-value x y s v es h e f =
    ap₂ ◌⊕◌ (e ∙ first-sum x y es h) f ∙ ⊕-assoc y _ _ ∙ ap (◌⊕◌ y) (⊕-self (power_sum es 0)) ∙ ⊕-zero-r y

-- what is left of two sums that follow each other once x is killed
killed-sum : (x y s t m : ℕ) (es : List Term) → s ≡ power_sum (at x y ∷ es) m → t ≡ power_sum (at x y ∷ es) (suc m) → t ⊕ x ⊗ s ≡ power_sum (kill x es) m
killed-sum x y s t m es e f = ap₂ (λ (p q : ℕ). p ⊕ x ⊗ q) f e ∙ kill-sum x (at x y ∷ es) m ∙ kill-head (at x y) es m

-- what is left of a value is divided by what the two elements differ by
unkilled : (x y v k : ℕ) → x < 256 → y < 256 → v < 256 → (x ≡ y → ⊥) → k ≡ v ⊗ (y ⊕ x) → over k (y ⊕ x) ≡ v
unkilled x y v k hx hy hv n e = over-unique k (y ⊕ x) v (⊕-pos y x (λ q. n (sym q))) (⊕-lt y x hy hx) hv (sym e)

two-sums : (es : List Term) (v w : ℕ) → v ≡ power_sum es 0 → w ≡ power_sum es 1 → Explains 2 es (v ∷ w ∷ [])
two-sums es v w e f zero h = e
two-sums es v w e f (suc zero) h = f
two-sums es v w e f (suc (suc m)) h = absurd (omega arith)

-- ---- one value, two, three

pub one-solved : (x s : ℕ) → Solves (x ∷ []) (s ∷ []) (s ∷ [])
one-solved x s [] l h E = absurd (omega arith)
one-solved x s (u ∷ v ∷ ys) l h E = absurd (omega arith)
one-solved x s (u ∷ []) l h E = same-cons (E 0 (omega arith) ∙ lone-sum x u h.0) refl

module _ (y z s t : ℕ) (hy : y < 256) (hz : z < 256) (n : y ≡ z → ⊥) where
  pub two-solved : (b c : ℕ) → c ≡ over (t ⊕ y ⊗ s) (z ⊕ y) → b ≡ s ⊕ c → Solves (y ∷ z ∷ []) (s ∷ t ∷ []) (b ∷ c ∷ [])
  two-solved b c ec eb [] l h E = absurd (omega arith)
  two-solved b c ec eb (v ∷ []) l h E = absurd (omega arith)
  two-solved b c ec eb (v ∷ w ∷ u ∷ ys) l h E = absurd (omega arith)
  two-solved b c ec eb (v ∷ w ∷ []) l h E =
      let k : t ⊕ y ⊗ s ≡ w ⊗ (z ⊕ y) = killed-sum y v s t 0 (at z w ∷ []) (E 0 (omega arith)) (E 1 (omega arith)) ∙ lone-sum z (w ⊗ (z ⊕ y)) (⊗-lt _ _) in
      let q : c ≡ w = ec ∙ unkilled y z w _ hy hz h.1.0 n k in
      same-cons (eb ∙ rest-value y v s c (at z w ∷ []) h.0 (E 0 (omega arith)) (q ∙ sym (lone-sum z w h.1.0))) (same-cons q refl)

module _ (x y z s t u p q : ℕ) (hx : x < 256) (hy : y < 256) (hz : z < 256) (nxy : x ≡ y → ⊥) (nxz : x ≡ z → ⊥)
    (left : Solves (y ∷ z ∷ []) (t ⊕ x ⊗ s ∷ u ⊕ x ⊗ t ∷ []) (p ∷ q ∷ [])) where
  pub three-solved : (a b c : ℕ) → b ≡ over p (y ⊕ x) → c ≡ over q (z ⊕ x) → a ≡ s ⊕ (b ⊕ c) → Solves (x ∷ y ∷ z ∷ []) (s ∷ t ∷ u ∷ []) (a ∷ b ∷ c ∷ [])
  three-solved a b c eb ec ea [] l h E = absurd (omega arith)
  three-solved a b c eb ec ea (f ∷ []) l h E = absurd (omega arith)
  three-solved a b c eb ec ea (f ∷ g ∷ []) l h E = absurd (omega arith)
  three-solved a b c eb ec ea (f ∷ g ∷ i ∷ j ∷ ys) l h E = absurd (omega arith)
  three-solved a b c eb ec ea (f ∷ g ∷ i ∷ []) l h E =
      let others : List Term = at y g ∷ at z i ∷ [] in
      let k : p ∷ q ∷ [] ≡ g ⊗ (y ⊕ x) ∷ i ⊗ (z ⊕ x) ∷ [] = left (g ⊗ (y ⊕ x) ∷ i ⊗ (z ⊕ x) ∷ []) refl (⊗-lt _ _, (⊗-lt _ _, tt)) (two-sums (kill x others) _ _
      (killed-sum x f s t 0 others (E 0 (omega arith)) (E 1 (omega arith))) (killed-sum x f t u 1 others (E 1 (omega arith)) (E 2 (omega arith)))) in
      let gb : b ≡ g = eb ∙ unkilled x y g p hx hy h.1.0 nxy (ap (λ (m : List ℕ). get_or m 0 0) k) in
      let ic : c ≡ i = ec ∙ unkilled x z i q hx hz h.1.1.0 nxz (ap (λ (m : List ℕ). get_or m 1 0) k) in
      same-cons (ea ∙ rest-value x f s (b ⊕ c) others h.0 (E 0 (omega arith)) (ap₂ ◌⊕◌ gb (ic ∙ sym (lone-sum z i h.1.1.0)) ∙ sym (first-sum y g (at z i ∷ []) h.1.0))) (same-cons gb (same-cons ic refl))
