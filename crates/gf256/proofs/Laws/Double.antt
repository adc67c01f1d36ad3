-- Doubling and the product by bits: both are linear, stay within a byte, and the product by a power of 2 doubles as often.
-- Assumes nothing.
use mathlib.Core.Path.{◌≡◌, refl, sym, ap, ap₂, ◌∙◌}
use mathlib.Core.Bool.{Bool, true, ◌&&◌}
use mathlib.Core.List.{List, [], ◌∷◌}
use Prim.Native.Nat.{ℕ, zero, suc, ◌+◌, ◌*◌, ◌/◌, ◌%◌, ◌^◌, ◌<◌}
use native.Mathlib.Nat.{zero-mul, one-mul, mul_comm, zero-add, suc-add, not-suc-le-zero, le_of_suc-le-suc}
use native.Mathlib.Omega.{arith}
use native.Mathlib.Numerals.{add-one}
use lib.Arith.{lt-one}
use lib.Pow.{field, mod-mod-pow}
use lib.Dec.{T, eqb, ltb, eqb→eq, ltb→lt, lit<}
use lib.ListN.{length, get_or, set, replicate}
use Rattle.gf256.specs.Field.{◌⊕◌, double, by_bits}
use Rattle.basics.proofs.Laws.Test.{below, below_at, both_left, both_right, every, every-at}
use Rattle.gf256.proofs.Laws.Sum.{bit, mod2, ⊕-self, ⊕-zero-l, ⊕-zero-r, ⊕-lt, ⊕-four, ⊕-half, ⊕-odd, ⊕-bit7, ⊕-double, ⊕-bit-mul, bit-mul-⊕}

-- ---- doubling is linear

pub double-⊕ : (a b : ℕ) → double (a ⊕ b) ≡ double a ⊕ double b
unfolding double
double-⊕ a b =
    ap₂ ◌⊕◌ (⊕-double a b)
    (mul_comm 0x11D _ ∙ ap (λ (x : ℕ). x * 0x11D) (⊕-bit7 a b) ∙ ⊕-bit-mul _ _ 0x11D (mod2 _) (mod2 _) ∙ ap₂ ◌⊕◌ (mul_comm _ 0x11D) (mul_comm _ 0x11D))
    ∙ ⊕-four _ _ _ _

pub double-zero : double 0 ≡ 0
unfolding double ◌⊕◌
double-zero = refl

-- ---- the product by bits is linear in each factor

pub by_bits-⊕-r : (n a b c : ℕ) → by_bits n a (b ⊕ c) ≡ by_bits n a b ⊕ by_bits n a c
unfolding by_bits
by_bits-⊕-r zero a b c = sym (⊕-self 0)
by_bits-⊕-r (suc n) a b c =
    ap₂ ◌⊕◌ (bit-mul-⊕ _ b c (mod2 a)) (ap double (by_bits-⊕-r n (a / 2) b c) ∙ double-⊕ _ _) ∙ ⊕-four _ _ _ _

pub by_bits-⊕-l : (n a b c : ℕ) → by_bits n (a ⊕ b) c ≡ by_bits n a c ⊕ by_bits n b c
unfolding by_bits
by_bits-⊕-l zero a b c = sym (⊕-self 0)
by_bits-⊕-l (suc n) a b c =
    ap₂ ◌⊕◌ (ap (λ (x : ℕ). x * c) (⊕-odd a b) ∙ ⊕-bit-mul _ _ c (mod2 a) (mod2 b))
    (ap (λ (x : ℕ). double (by_bits n x c)) (⊕-half a b) ∙ ap double (by_bits-⊕-l n (a / 2) (b / 2) c) ∙ double-⊕ _ _)
    ∙ ⊕-four _ _ _ _

-- ---- doubling a byte gives a byte

double-stays : ℕ → Bool
double-stays a = ltb (double a) 256

stays_all : T (below double-stays 256)
unfolding double-stays double ◌⊕◌
stays_all = tt

root : ℕ → Bool
root b = eqb (by_bits 9 0x11D b) 0

root-all : T (below root 256)
unfolding root by_bits double ◌⊕◌
root-all = tt

pub double-lt : (a : ℕ) → a < 256 → double a < 256
double-lt a h = ltb→lt (double a) 256 (unfold double-stays in below_at double-stays 256 stays_all a h)

-- x^8 + x^4 + x^3 + x^2 + 1 takes each byte to 0
root-zero : (b : ℕ) → b < 256 → by_bits 9 0x11D b ≡ 0
root-zero b h = eqb→eq (by_bits 9 0x11D b) 0 (unfold root in below_at root 256 root-all b h)

bit-mul-lt : (x b : ℕ) → x < 2 → b < 256 → x * b < 256
bit-mul-lt x b hx hb = bit (λ x. x * b < 256) (rw zero-mul (lit< tt)) (rw one-mul hb) x hx

pub by_bits-lt : (n a b : ℕ) → b < 256 → by_bits n a b < 256
unfolding by_bits
by_bits-lt zero a b h = lit< tt
by_bits-lt (suc n) a b h = ⊕-lt _ _ (bit-mul-lt _ b (mod2 a) h) (double-lt _ (by_bits-lt n (a / 2) b h))

pub by_bits-zero-l : (n b : ℕ) → by_bits n 0 b ≡ 0
unfolding by_bits
by_bits-zero-l zero b = refl
by_bits-zero-l (suc n) b = ap₂ ◌⊕◌ (zero-mul b) (ap double (by_bits-zero-l n b) ∙ double-zero) ∙ ⊕-self 0

-- bits past those of a do nothing
by_bits-more : (n a b : ℕ) → a < 2 ^ n → by_bits (suc n) a b ≡ by_bits n a b
unfolding by_bits
by_bits-more zero a b h = ap (λ (x : ℕ). by_bits 1 x b) (lt-one h) ∙ by_bits-zero-l 1 b
by_bits-more (suc n) a b h = ap (λ (x : ℕ). a % 2 * b ⊕ double x) (by_bits-more n (a / 2) b (omega arith))

-- only the n low bits of a count
pub by_bits-low : (n a b : ℕ) → by_bits n (a % 2 ^ n) b ≡ by_bits n a b
unfolding by_bits
by_bits-low zero a b = refl
by_bits-low (suc n) a b =
    ap (λ (m : ℕ). by_bits (suc n) (a % 2 ^ m) b) (sym (add-one n))
    ∙ ap₂ (λ (x y : ℕ). x * b ⊕ double (by_bits n y b)) (mod-mod-pow a n 1) (field a n 1)
    ∙ ap (λ (x : ℕ). a % 2 * b ⊕ double x) (by_bits-low n (a / 2) b)

by_bits-even : (n a b : ℕ) → by_bits (suc n) (2 * a) b ≡ double (by_bits n a b)
unfolding by_bits
by_bits-even n a b =
    let odd : (2 * a) % 2 ≡ 0 = omega arith in
    let half : (2 * a) / 2 ≡ a = omega arith in
    ap₂ (λ (x y : ℕ). x * b ⊕ double (by_bits n y b)) odd half ∙ ap (λ (x : ℕ). x ⊕ double (by_bits n a b)) (zero-mul b) ∙ ⊕-zero-l _

root-bit : (x b : ℕ) → x < 2 → b < 256 → by_bits 9 (0x11D * x) b ≡ 0
root-bit x b hx hb = bit (λ x. by_bits 9 (0x11D * x) b ≡ 0) (by_bits-zero-l 9 b) (root-zero b hb) x hx

-- the product of a's double
by_bits-double : (a b : ℕ) → a < 256 → b < 256 → by_bits 8 (double a) b ≡ double (by_bits 8 a b)
by_bits-double a b ha hb =
    sym (by_bits-more 8 (double a) b (double-lt a ha))
    ∙ unfold double in by_bits-⊕-l 9 (2 * a) (0x11D * (a / 128 % 2)) b
    ∙ ap₂ ◌⊕◌ (by_bits-even 8 a b) (root-bit _ b (mod2 _) hb)
    ∙ ⊕-zero-r _

-- ---- the powers of 2

-- b doubled k times
unfoldable pub raise : ℕ → ℕ → ℕ
raise zero b = b
raise (suc k) b = double (raise k b)

pub raise-lt : (k b : ℕ) → b < 256 → raise k b < 256
unfolding raise
raise-lt zero b h = h
raise-lt (suc k) b h = double-lt _ (raise-lt k b h)

pub raise-add : (i j b : ℕ) → raise (i + j) b ≡ raise i (raise j b)
unfolding raise
raise-add zero j b = ap (λ (x : ℕ). raise x b) (zero-add j)
raise-add (suc i) j b = ap (λ (x : ℕ). raise x b) (suc-add i j) ∙ ap double (raise-add i j b)

pub by_bits-one : (b : ℕ) → by_bits 8 1 b ≡ b
unfolding by_bits
by_bits-one b = ap₂ ◌⊕◌ (one-mul b) (ap double (by_bits-zero-l 7 b) ∙ double-zero) ∙ ⊕-zero-r b

-- the product by a power of 2 doubles as often
pub by_bits-raise : (k b : ℕ) → b < 256 → by_bits 8 (raise k 1) b ≡ raise k b
unfolding raise
by_bits-raise zero b h = by_bits-one b
by_bits-raise (suc k) b h = by_bits-double (raise k 1) b (raise-lt k 1 (lit< tt)) h ∙ ap double (by_bits-raise k b h)

raise-double : (k x : ℕ) → raise k (double x) ≡ double (raise k x)
unfolding raise
raise-double zero x = refl
raise-double (suc k) x = ap double (raise-double k x)

-- x, and after each entry its double
unfoldable pub doublings : ℕ → ℕ → List ℕ
doublings zero x = []
doublings (suc n) x = x ∷ doublings n (double x)

pub doublings-at : (n x k : ℕ) → k < n → get_or (doublings n x) k 0 ≡ raise k x
unfolding doublings raise
doublings-at zero x k h = absurd (not-suc-le-zero h)
doublings-at (suc n) x zero h = refl
doublings-at (suc n) x (suc k) h = doublings-at n (double x) k (le_of_suc-le-suc h) ∙ raise-double k x

pub length-doublings : (n x : ℕ) → length (doublings n x) ≡ n
unfolding doublings
length-doublings zero x = refl
length-doublings (suc n) x = ap suc (length-doublings n (double x))

-- in the list t, k at the entry x, k + 1 at its double, and so on
unfoldable pub ranks : ℕ → ℕ → ℕ → List ℕ → List ℕ
ranks zero k x t = t
ranks (suc n) k x t = ranks n (suc k) (double x) (set t x k)

-- each byte but 0 stands among the doublings of 1, at the place that it is given
unfoldable pub log-right : ℕ → ℕ → Bool
log-right zero k = true
log-right (suc a) k = ltb k 255 && eqb (get_or (doublings 255 1) k 0) (suc a)

-- the place of each byte but 0 among the doublings of 1
unfoldable pub place_list : List ℕ
place_list = ranks 255 0 1 (replicate 256 0)

places-right : T (every log-right 0 place_list)
unfolding log-right place_list ranks doublings double ◌⊕◌
places-right = tt

-- each doubling of 1, up to the 254th, stands at its own place
apart-right : ℕ → ℕ → Bool
apart-right k x = eqb (get_or place_list x 0) k

all_apart : T (every apart-right 0 (doublings 255 1))
unfolding apart-right place_list ranks doublings double ◌⊕◌
all_apart = tt

pub log-at : (t : List ℕ) → length t ≡ 256 → T (every log-right 0 t) → (a : ℕ) → 0 < a → a < 256 → (get_or t a 0 < 255) × (raise (get_or t a 0) 1 ≡ a)
log-at t e r zero p h = absurd (omega arith)
log-at t e r (suc a) p h =
    let k : ℕ = get_or t (suc a) 0 in
    let s : T (ltb k 255 && eqb (get_or (doublings 255 1) k 0) (suc a)) = unfold log-right in every-at log-right t r (suc a) (omega arith) in
    let l : k < 255 = ltb→lt k 255 (both_left (ltb k 255) _ s) in
    (l, sym (doublings-at 255 1 k l) ∙ eqb→eq (get_or (doublings 255 1) k 0) (suc a) (both_right (ltb k 255) _ s))

long : length place_list ≡ 256
unfolding place_list ranks doublings double ◌⊕◌
long = refl

-- each byte but 0 is a doubling of 1
pub is-doubling : (a : ℕ) → 0 < a → a < 256 → (k : ℕ) × (k < 255) × (raise k 1 ≡ a)
is-doubling a p h = let l = log-at place_list long places-right a p h in (get_or place_list a 0, l.0, l.1)

-- the first 255 doublings of 1 are different
pub raise-inj : (i j : ℕ) → i < 255 → j < 255 → raise i 1 ≡ raise j 1 → i ≡ j
raise-inj i j hi hj e = sym (place i hi) ∙ ap (λ (x : ℕ). get_or place_list x 0) e ∙ place j hj
  where
    place : (k : ℕ) → k < 255 → get_or place_list (raise k 1) 0 ≡ k
    place k h =
        ap (λ (x : ℕ). get_or place_list x 0) (sym (doublings-at 255 1 k h))
        ∙ eqb→eq (get_or place_list (get_or (doublings 255 1) k 0) 0) k
        (unfold apart-right in every-at apart-right (doublings 255 1) all_apart k (rw length-doublings h))

pub once-around : raise 255 1 ≡ 1
unfolding raise double ◌⊕◌
once-around = refl
