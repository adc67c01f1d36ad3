-- The test of the scan for roots: with the logarithms of a and c in hand, a place x is a root of x^3 + a x^2 + b x + c exactly when
-- x^2 + a x + c / x is b.
-- Assumes nothing.
use mathlib.Core.Path.{◌≡◌, sym, ap, ap₂, ◌∙◌}
use Prim.Native.Nat.{ℕ, ◌+◌, ◌-◌, ◌<◌, ◌≤◌}
use mathlib.Core.Logic.{⊎_elim}
use native.Mathlib.Nat.{eq-or-lt_of_le}
use native.Mathlib.Omega.{arith}
use lib.Dec.{lit<}
use Rattle.std.specs.Prelude.{Option, Some, None, MatchOption}
use Rattle.std.specs.Option.{unwrap_or}
use Rattle.gf256.specs.Field.{◌⊕◌, ◌⊗◌, pow}
use Rattle.gf256.specs.Lent.{on_wheel}
use Rattle.gf256.proofs.Laws.Sum.{⊕-self, ⊕-lt, ⊕-zero-eq}
use Rattle.gf256.proofs.Laws.Product.{⊗-zero-l, ⊗-zero-r, ⊗-zero-cancel, pow-lt, pow_pos, pow-add, pow-around, pow-inj}
use Rattle.gf256.proofs.Laws.Lent.{on-below, on-past}
use Rattle.basics.proofs.Laws.Test.{lt-or-le}
use Rattle.gf256.proofs.Laws.Ring.{ring}
use Rattle.search.specs.Search.{cubic, Root, TopRoot, IsPlace}
use Rattle.search.specs.declared.errors.Place.{Place}
use Rattle.search.specs.declared.solver.Locator.{Locator}

-- what a logarithm says
abbrev pub LogOf : ℕ → Option ℕ → Type 0
LogOf a o = MatchOption o (a ≡ 0) (λ k. (k < 255) × (pow 2 k ≡ a))

-- ---- an element's place

pub place-found : (x : ℕ) (p : Place) → pow 2 p.exponent ≡ x → IsPlace x (Some p)
place-found x p e = record { at = λ k h q. pow-inj p.exponent k (omega (arith, p.within)) (omega arith) (e ∙ q) }

pub no-place : (x i : ℕ) → (i < 255) × (pow 2 i ≡ x) → 254 ≤ i → IsPlace x None
no-place x i L h = record { at = λ k b q. let e : i ≡ k = pow-inj i k L.0 (omega arith) (L.1 ∙ q) in omega arith }

pub zero-placeless : (x : ℕ) → x ≡ 0 → IsPlace x None
zero-placeless x z = record { at = λ k b q. omega (arith, pow_pos k) }

-- ---- an index on the wheel that stands for the logarithm of a: 510 for that of 0

pub record Indexes (a i : ℕ) : Type 0 where
  -- a x
  pub times : (k : ℕ) → k < 254 → on_wheel (i + k) ≡ a ⊗ pow 2 k
  -- a / x
  pub into : (k : ℕ) → k < 254 → pow 2 k ⊗ on_wheel (i + 255 - k) ≡ a

zero-indexed : (a i : ℕ) → a ≡ 0 → i ≡ 510 → Indexes a i
zero-indexed a i z e = record {
  times = λ k h. on-past (i + k) (omega arith) ∙ sym (ap (λ (b : ℕ). b ⊗ pow 2 k) z ∙ ⊗-zero-l _);
  into = λ k h. ap (◌⊗◌ (pow 2 k)) (on-past (i + 255 - k) (omega arith)) ∙ ⊗-zero-r _ ∙ sym z;
}

some-indexed : (a i : ℕ) → i < 255 → pow 2 i ≡ a → Indexes a i
some-indexed a i h e = record {
  times = λ k b. on-below (i + k) (omega arith) ∙ pow-add 2 i k ∙ ap (λ (x : ℕ). x ⊗ pow 2 k) e;
  into = λ k b.
      let q : k + (i + 255 - k) ≡ i + 255 = omega arith in
      ap (◌⊗◌ (pow 2 k)) (on-below (i + 255 - k) (omega arith)) ∙ sym (pow-add 2 k _) ∙ ap (pow 2) q ∙ pow-around i ∙ e;
}

pub indexed : (a i : ℕ) (o : Option ℕ) → LogOf a o → i ≡ unwrap_or o 510 → Indexes a i
indexed a i None L e = zero-indexed a i L e
indexed a i (Some k) L e = some-indexed a i (rw e L.0) (rw e L.1)

-- ---- the scan

-- what the scan compares with b
unfoldable pub scanned : ℕ → ℕ → ℕ → ℕ
scanned la lc k = pow 2 (k + k) ⊕ on_wheel (la + k) ⊕ on_wheel (lc + 255 - k)

on-lt : (k : ℕ) → on_wheel k < 256
on-lt k = ⊎_elim (λ (h : k < 510). rw (on-below k h) (pow-lt 2 k)) (λ (h : 510 ≤ k). rw (on-past k h) (lit< tt)) (lt-or-le k 510)

scanned-lt : (la lc k : ℕ) → scanned la lc k < 256
unfolding scanned
scanned-lt la lc k = ⊕-lt _ _ (⊕-lt _ _ (pow-lt 2 _) (on-lt _)) (on-lt _)

scan-ring : (x a b u : ℕ) → x ⊗ (x ⊗ x ⊕ a ⊗ x ⊕ u ⊕ b) ≡ x ⊗ (x ⊗ x) ⊕ (a ⊗ (x ⊗ x) ⊕ (b ⊗ x ⊕ x ⊗ u))
scan-ring x a b u = simp ring

module _ (q : Locator) (la lc : ℕ) (A : Indexes q.a la) (C : Indexes q.c lc) (hb : q.b < 256) where
  -- x times the difference is the cubic
  scan-cubic : (k : ℕ) → k < 254 → pow 2 k ⊗ (scanned la lc k ⊕ q.b) ≡ cubic q.a q.b q.c (pow 2 k)
  unfolding scanned cubic
  scan-cubic k hk =
      let x : ℕ = pow 2 k in
      let u : ℕ = on_wheel (lc + 255 - k) in
      ap₂ (λ (r s : ℕ). x ⊗ (r ⊕ s ⊕ u ⊕ q.b)) (pow-add 2 k k) (A.times k hk)
      ∙ scan-ring x q.a q.b u
      ∙ ap (λ (r : ℕ). x ⊗ (x ⊗ x) ⊕ (q.a ⊗ (x ⊗ x) ⊕ (q.b ⊗ x ⊕ r))) (C.into k hk)

  scan-root : (k : ℕ) → k < 254 → scanned la lc k ≡ q.b → Root q k
  scan-root k hk e =
      sym (scan-cubic k hk) ∙ ap (λ (p : ℕ). pow 2 k ⊗ (p ⊕ q.b)) e ∙ ap (◌⊗◌ (pow 2 k)) (⊕-self q.b) ∙ ⊗-zero-r _

  root-scan : (k : ℕ) → k < 254 → Root q k → scanned la lc k ≡ q.b
  root-scan k hk e =
      ⊕-zero-eq _ q.b
      (⊗-zero-cancel (pow 2 k) _ (pow_pos k) (pow-lt 2 k) (⊕-lt _ q.b (scanned-lt la lc k) hb) (scan-cubic k hk ∙ e))

  -- the scan stops at the greatest root
  pub top-found : (p : Place) → scanned la lc p.exponent ≡ q.b → ((j : ℕ) → p.exponent < j → j < 254 → scanned la lc j ≡ q.b → ⊥) → TopRoot q (Some p)
  top-found p e u = record {
    top = λ m hm root none.
        let k : ℕ = p.exponent in
        ⊎_elim (λ (h : m < k). absurd (none k h p.within (scan-root k p.within e)))
        (λ (h : k ≤ m). ⊎_elim (λ (z : k ≡ m). z) (λ (z : k < m). absurd (u m z hm (root-scan m hm root))) (eq-or-lt_of_le h)) (lt-or-le m k);
  }

  pub top-none : ((j : ℕ) → j < 254 → scanned la lc j ≡ q.b → ⊥) → TopRoot q None
  top-none u = record { top = λ m hm root none. u m hm (root-scan m hm root) }
