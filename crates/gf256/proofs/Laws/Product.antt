-- The laws of the product: those of a field.
-- Assumes nothing.
use mathlib.Core.Path.{◌≡◌, refl, sym, ap, ap₂, ◌∙◌}
use Prim.Native.Nat.{ℕ, zero, suc, ◌+◌, ◌*◌, ◌/◌, ◌%◌, ◌<◌}
use native.Mathlib.Nat.{mul-zero, mul-suc, mul_comm, add_comm, zero-add, suc-add, mod-lt, mod-eq_of_lt, zero-lt-suc}
use native.Mathlib.Omega.{arith}
use lib.Dec.{lit<}
use Rattle.gf256.specs.Field.{◌⊕◌, double, by_bits, ◌⊗◌, pow, inverse, over}
use Rattle.gf256.proofs.Laws.Sum.{⊕-self, ⊕-byte, ⊕-lt, ⊕-zero-eq}
use Rattle.gf256.proofs.Laws.Double.{double-zero, by_bits-⊕-l, by_bits-⊕-r, by_bits-zero-l, by_bits-lt, by_bits-low, by_bits-one, raise, raise-lt, raise-add, by_bits-raise, is-doubling, raise-inj, once-around}

-- ---- commutative and associative, by the powers of 2

by_bits-zero-r : (n a : ℕ) → by_bits n a 0 ≡ 0
unfolding by_bits
by_bits-zero-r zero a = refl
by_bits-zero-r (suc n) a = ap₂ ◌⊕◌ (mul-zero (a % 2)) (ap double (by_bits-zero-r n (a / 2)) ∙ double-zero) ∙ ⊕-self 0

raise-byte : (k : ℕ) → raise k 1 < 256
raise-byte k = raise-lt k 1 (lit< tt)

by_bits-comm : (a b : ℕ) → a < 256 → b < 256 → by_bits 8 a b ≡ by_bits 8 b a
by_bits-comm zero b ha hb = by_bits-zero-l 8 b ∙ sym (by_bits-zero-r 8 b)
by_bits-comm (suc a) zero ha hb = by_bits-zero-r 8 (suc a) ∙ sym (by_bits-zero-l 8 (suc a))
by_bits-comm (suc a) (suc b) ha hb =
    let (i, hi, ei) = is-doubling (suc a) (zero-lt-suc a) ha in
    let (j, hj, ej) = is-doubling (suc b) (zero-lt-suc b) hb in
    rw (← ei, ← ej)
    (by_bits-raise i (raise j 1) (raise-byte j) ∙ sym (raise-add i j 1)
    ∙ ap (λ (n : ℕ). raise n 1) (add_comm i j)
    ∙ raise-add j i 1 ∙ sym (by_bits-raise j (raise i 1) (raise-byte i)))

by_bits-assoc : (a b c : ℕ) → a < 256 → b < 256 → c < 256 → by_bits 8 (by_bits 8 a b) c ≡ by_bits 8 a (by_bits 8 b c)
by_bits-assoc zero b c ha hb hc = simp by_bits-zero-l
by_bits-assoc (suc a) zero c ha hb hc = simp (by_bits-zero-l, by_bits-zero-r)
by_bits-assoc (suc a) (suc b) c ha hb hc =
    let (i, hi, ei) = is-doubling (suc a) (zero-lt-suc a) ha in
    let (j, hj, ej) = is-doubling (suc b) (zero-lt-suc b) hb in
    rw (← ei, ← ej)
    (ap (λ (x : ℕ). by_bits 8 x c) (by_bits-raise i (raise j 1) (raise-byte j) ∙ sym (raise-add i j 1))
    ∙ by_bits-raise (i + j) c hc ∙ raise-add i j c
    ∙ sym (by_bits-raise i (raise j c) (raise-lt j c hc)) ∙ ap (by_bits 8 (raise i 1)) (sym (by_bits-raise j c hc)))

low : (a : ℕ) → a % 256 < 256
low a = mod-lt a (zero-lt-suc 255)

⊗-bytes : (a b : ℕ) → a ⊗ b ≡ by_bits 8 (a % 256) (b % 256)
unfolding ◌⊗◌
⊗-bytes a b = sym (by_bits-low 8 a (b % 256))

pub ⊗-lt : (a b : ℕ) → a ⊗ b < 256
unfolding ◌⊗◌
⊗-lt a b = by_bits-lt 8 a (b % 256) (low b)

pub ⊗-comm : (a b : ℕ) → a ⊗ b ≡ b ⊗ a
⊗-comm a b = ⊗-bytes a b ∙ by_bits-comm _ _ (low a) (low b) ∙ sym (⊗-bytes b a)

pub ⊗-assoc : (a b c : ℕ) → a ⊗ b ⊗ c ≡ a ⊗ (b ⊗ c)
⊗-assoc a b c =
    ⊗-bytes (a ⊗ b) c ∙ ap (λ (x : ℕ). by_bits 8 x (c % 256)) (mod-eq_of_lt (⊗-lt a b) ∙ ⊗-bytes a b)
    ∙ by_bits-assoc _ _ _ (low a) (low b) (low c)
    ∙ ap (by_bits 8 (a % 256)) (sym (mod-eq_of_lt (⊗-lt b c) ∙ ⊗-bytes b c)) ∙ sym (⊗-bytes a (b ⊗ c))

pub ⊗-left-comm : (a b c : ℕ) → a ⊗ (b ⊗ c) ≡ b ⊗ (a ⊗ c)
⊗-left-comm a b c = sym (⊗-assoc a b c) ∙ ap (λ (x : ℕ). x ⊗ c) (⊗-comm a b) ∙ ⊗-assoc b a c

-- ---- distributive; zero and one

pub ⊗-⊕-l : (a b c : ℕ) → (a ⊕ b) ⊗ c ≡ a ⊗ c ⊕ b ⊗ c
unfolding ◌⊗◌
⊗-⊕-l a b c = by_bits-⊕-l 8 a b (c % 256)

pub ⊗-⊕-r : (a b c : ℕ) → a ⊗ (b ⊕ c) ≡ a ⊗ b ⊕ a ⊗ c
unfolding ◌⊗◌
⊗-⊕-r a b c = ap (by_bits 8 a) (⊕-byte b c) ∙ by_bits-⊕-r 8 a (b % 256) (c % 256)

pub ⊗-zero-l : (b : ℕ) → 0 ⊗ b ≡ 0
unfolding ◌⊗◌
⊗-zero-l b = by_bits-zero-l 8 (b % 256)

pub ⊗-zero-r : (a : ℕ) → a ⊗ 0 ≡ 0
⊗-zero-r a = ⊗-comm a 0 ∙ ⊗-zero-l a

pub ⊗-one-l : (b : ℕ) → b < 256 → 1 ⊗ b ≡ b
unfolding ◌⊗◌
⊗-one-l b h = by_bits-one (b % 256) ∙ mod-eq_of_lt h

pub ⊗-one-r : (b : ℕ) → b < 256 → b ⊗ 1 ≡ b
⊗-one-r b h = ⊗-comm b 1 ∙ ⊗-one-l b h

-- ---- powers

pub pow-lt : (x k : ℕ) → pow x k < 256
unfolding pow
pow-lt x zero = lit< tt
pow-lt x (suc k) = ⊗-lt _ _

pub pow-add : (x i j : ℕ) → pow x (i + j) ≡ pow x i ⊗ pow x j
unfolding pow
pow-add x zero j = ap (pow x) (zero-add j) ∙ sym (⊗-one-l _ (pow-lt x j))
pow-add x (suc i) j = ap (pow x) (suc-add i j) ∙ ap (◌⊗◌ x) (pow-add x i j) ∙ sym (⊗-assoc x _ _)

pub pow-mul : (x i j : ℕ) → pow (pow x i) j ≡ pow x (i * j)
unfolding pow
pow-mul x i zero = ap (pow x) (sym (mul-zero i))
pow-mul x i (suc j) = ap (◌⊗◌ (pow x i)) (pow-mul x i j) ∙ sym (pow-add x i (i * j)) ∙ ap (pow x) (add_comm i (i * j) ∙ sym (mul-suc i j))

pub pow-swap : (x i j : ℕ) → pow (pow x i) j ≡ pow (pow x j) i
pow-swap x i j = pow-mul x i j ∙ ap (pow x) (mul_comm i j) ∙ sym (pow-mul x j i)

pub pow-one : (x : ℕ) → x < 256 → pow x 1 ≡ x
unfolding pow
pow-one x h = ⊗-one-r x h

pub one-pow : (k : ℕ) → pow 1 k ≡ 1
unfolding pow
one-pow zero = refl
one-pow (suc k) = ⊗-one-l _ (pow-lt 1 k) ∙ one-pow k

-- ---- the powers of 2

pub two-double : (b : ℕ) → b < 256 → 2 ⊗ b ≡ double b
unfolding ◌⊗◌ raise
two-double b h = ap (by_bits 8 2) (mod-eq_of_lt h) ∙ ap (λ (x : ℕ). by_bits 8 x b) two ∙ by_bits-raise 1 b h
  where
    two : 2 ≡ double 1
    two = unfold double ◌⊕◌ in refl

-- 1 doubled k times is 2 to the power k
pub raise-pow : (k : ℕ) → raise k 1 ≡ pow 2 k
unfolding raise pow
raise-pow zero = refl
raise-pow (suc k) = ap double (raise-pow k) ∙ sym (two-double (pow 2 k) (pow-lt 2 k))

-- once around
pub pow-255 : pow 2 255 ≡ 1
pow-255 = sym (raise-pow 255) ∙ once-around

pub pow-around : (k : ℕ) → pow 2 (k + 255) ≡ pow 2 k
pow-around k = pow-add 2 k 255 ∙ ap (◌⊗◌ (pow 2 k)) pow-255 ∙ ⊗-one-r _ (pow-lt 2 k)

-- so that an exponent may be taken modulo 255
pub pow-mod : (k : ℕ) → pow 2 (k % 255) ≡ pow 2 k
pow-mod k =
    let e : 255 * (k / 255) + k % 255 ≡ k = omega arith in
    let whole : pow 2 (255 * (k / 255)) ≡ 1 = sym (pow-mul 2 255 (k / 255)) ∙ ap (λ (x : ℕ). pow x (k / 255)) pow-255 ∙ one-pow (k / 255) in
    sym (⊗-one-l (pow 2 (k % 255)) (pow-lt 2 (k % 255))) ∙ ap (λ (x : ℕ). x ⊗ pow 2 (k % 255)) (sym whole) ∙ sym (pow-add 2 (255 * (k / 255)) (k % 255)) ∙ ap (pow 2) e

-- each byte but 0 is a power of 2
pub is-power : (a : ℕ) → 0 < a → a < 256 → (k : ℕ) × (k < 255) × (pow 2 k ≡ a)
is-power a p h = let d = is-doubling a p h in (d.0, d.1, sym (raise-pow d.0) ∙ d.2)

-- the powers of 2 below the 255th are different
pub pow-inj : (i j : ℕ) → i < 255 → j < 255 → pow 2 i ≡ pow 2 j → i ≡ j
pow-inj i j hi hj e = raise-inj i j hi hj (raise-pow i ∙ e ∙ sym (raise-pow j))

-- ---- inverses; no zero divisors

pub ⊗-inverse : (a : ℕ) → 0 < a → a < 256 → a ⊗ inverse a ≡ 1
unfolding inverse
⊗-inverse a p h = around (is-power a p h)
  where
    around : (k : ℕ) × (k < 255) × (pow 2 k ≡ a) → a ⊗ pow a 254 ≡ 1
    around d =
        ap (λ (x : ℕ). x ⊗ pow a 254) (sym (pow-one a h)) ∙ sym (pow-add a 1 254) ∙ ap (λ (x : ℕ). pow x 255) (sym d.2)
        ∙ pow-swap 2 d.0 255 ∙ ap (λ (x : ℕ). pow x d.0) pow-255 ∙ one-pow d.0

pub ⊗-zero-cancel : (a b : ℕ) → 0 < a → a < 256 → b < 256 → a ⊗ b ≡ 0 → b ≡ 0
⊗-zero-cancel a b p ha hb e =
    sym (⊗-one-l b hb) ∙ ap (λ (x : ℕ). x ⊗ b) (sym (⊗-inverse a p ha) ∙ ⊗-comm a (inverse a))
    ∙ ⊗-assoc (inverse a) a b ∙ ap (◌⊗◌ (inverse a)) e ∙ ⊗-zero-r (inverse a)

pub ⊗-pos : (a b : ℕ) → 0 < a → a < 256 → 0 < b → b < 256 → 0 < a ⊗ b
⊗-pos a b pa ha pb hb = go (a ⊗ b) refl
  where
    go : (m : ℕ) → a ⊗ b ≡ m → 0 < m
    go zero e = absurd (let z : b ≡ 0 = ⊗-zero-cancel a b pa ha hb e in omega arith)
    go (suc m) e = zero-lt-suc m

pub pow_pos : (k : ℕ) → 0 < pow 2 k
unfolding pow
pow_pos zero = lit< tt
pow_pos (suc k) = ⊗-pos 2 (pow 2 k) (lit< tt) (lit< tt) (pow_pos k) (pow-lt 2 k)

-- a factor but 0 can be taken away
pub ⊗-cancel : (d u w : ℕ) → 0 < d → d < 256 → u < 256 → w < 256 → d ⊗ u ≡ d ⊗ w → u ≡ w
⊗-cancel d u w p hd hu hw e =
    ⊕-zero-eq u w (⊗-zero-cancel d (u ⊕ w) p hd (⊕-lt u w hu hw) (⊗-⊕-r d u w ∙ ap (λ (x : ℕ). x ⊕ d ⊗ w) e ∙ ⊕-self _))

-- ---- the quotient

pub over-lt : (a b : ℕ) → over a b < 256
unfolding over
over-lt a b = ⊗-lt a _

pub over-⊗ : (a b : ℕ) → a < 256 → 0 < b → b < 256 → over a b ⊗ b ≡ a
unfolding over
over-⊗ a b ha p hb = ⊗-assoc a (inverse b) b ∙ ap (◌⊗◌ a) (⊗-comm (inverse b) b ∙ ⊗-inverse b p hb) ∙ ⊗-one-r a ha

-- what times the divisor is the dividend is the quotient
pub over-unique : (a b q : ℕ) → 0 < b → b < 256 → q < 256 → q ⊗ b ≡ a → over a b ≡ q
unfolding over
over-unique a b q p hb hq e =
    ap (λ (x : ℕ). x ⊗ inverse b) (sym e) ∙ ⊗-assoc q b (inverse b) ∙ ap (◌⊗◌ q) (⊗-inverse b p hb) ∙ ⊗-one-r q hq

pub over-zero-l : (b : ℕ) → over 0 b ≡ 0
unfolding over
over-zero-l b = ⊗-zero-l _

pub over-zero-r : (a : ℕ) → over a 0 ≡ 0
unfolding over inverse pow
over-zero-r a = ap (◌⊗◌ a) (⊗-zero-l _) ∙ ⊗-zero-r a
