-- The long division by x^n + g, and by G: its lengths and bytes, its steps, and what it divides: quotient times divisor plus remainder.
-- Assumes nothing.
use mathlib.Core.Path.{◌≡◌, refl, sym, ap, ap₂, ◌∙◌}
use mathlib.Core.List.{List, [], ◌∷◌, ◌++◌, append-nil, append_assoc}
use Prim.Native.Nat.{ℕ, zero, suc, ◌+◌, ◌<◌}
use native.Mathlib.Omega.{arith}
use native.Mathlib.Numerals.{add-one}
use lib.Dec.{lit<}
use lib.ListN.{length, take, get_or, length-append, length-replicate, replicate-append-replicate}
use lib.Seq.{take-suc}
use Rattle.gf256.specs.Field.{◌⊕◌, ◌⊗◌, by_bits, double, pow}
use Rattle.gf256.proofs.Laws.Sum.{⊕-zero-r, ⊕-lt}
use Rattle.gf256.proofs.Laws.Product.{⊗-one-r}
use Rattle.rs.specs.Polynomial.{value_at, ◌⊞◌, scale, zeros, ◌⊠◌}
use Rattle.rs.specs.Codeword.{G, divisor_bytes, next, remainder, parity_of}
use Rattle.basics.specs.Below.{Bytes}
use Rattle.rs.proofs.Laws.Polynomial.{length-⊞, length-scale, ⊞-bytes, scale-bytes, ⊞-comm, ⊞-assoc, ⊞-cancel, ⊞-self, ⊞-zeros-l, ⊞-append}
use Rattle.basics.proofs.Laws.Below.{append-below, replicate-below}

-- ---- lengths and bytes

pub next-length : (g p : List ℕ) (d : ℕ) → length p ≡ length g → length (next g p d) ≡ length g
unfolding next
next-length g [] d e = e
next-length g (p ∷ ps) d e =
    length-⊞ (ps ++ (0 ∷ [])) (scale (p ⊕ d) g) (length-append ps (0 ∷ []) ∙ add-one _ ∙ e ∙ sym (length-scale _ g)) ∙ length-scale _ g

pub remainder-length : (g p ds : List ℕ) → length p ≡ length g → length (remainder g p ds) ≡ length g
unfolding remainder
remainder-length g p [] e = e
remainder-length g p (d ∷ ds) e = remainder-length g (next g p d) ds (next-length g p d e)

pub next-bytes : (g p : List ℕ) (d : ℕ) → Bytes p → Bytes (next g p d)
unfolding next
next-bytes g [] d x = tt
next-bytes g (p ∷ ps) d x = ⊞-bytes _ _ (append-below 256 ps (0 ∷ []) x.1 (replicate-below 256 1 0 (lit< tt))) (scale-bytes _ g)

pub remainder-bytes : (g p ds : List ℕ) → Bytes p → Bytes (remainder g p ds)
unfolding remainder
remainder-bytes g p [] x = x
remainder-bytes g p (d ∷ ds) x = remainder-bytes g (next g p d) ds (next-bytes g p d x)

pub divisor-length : length divisor_bytes ≡ 6
unfolding divisor_bytes
divisor-length = refl

pub parity-length : (d : List ℕ) → length (parity_of d) ≡ 6
unfolding parity_of
parity-length d = remainder-length divisor_bytes (zeros 6) d (sym divisor-length) ∙ divisor-length

pub parity-bytes : (d : List ℕ) → Bytes (parity_of d)
unfolding parity_of
parity-bytes d = remainder-bytes divisor_bytes (zeros 6) d (replicate-below 256 6 0 (lit< tt))

-- ---- one more coefficient

pub remainder-snoc : (g p l : List ℕ) (d : ℕ) → remainder g p (l ++ (d ∷ [])) ≡ next g (remainder g p l) d
unfolding remainder
remainder-snoc g p [] d = refl
remainder-snoc g p (c ∷ l) d = remainder-snoc g (next g p c) l d

pub parity-step : (l : List ℕ) (i : ℕ) → i < length l → next divisor_bytes (parity_of (take i l)) (get_or l i 0) ≡ parity_of (take (i + 1) l)
unfolding parity_of
parity-step l i h =
    sym (ap (λ (n : ℕ). parity_of (take n l)) (add-one i) ∙ ap parity_of (take-suc l i 0 h)
    ∙ remainder-snoc divisor_bytes (zeros 6) (take i l) (get_or l i 0))

-- ---- what is divided is quotient times divisor, plus the remainder

-- the quotient: at each step, what stands at x^n
unfoldable pub quotient_of : List ℕ → List ℕ → List ℕ → List ℕ
quotient_of g p [] = []
quotient_of g p (d ∷ ds) = get_or p 0 0 ⊕ d ∷ quotient_of g (next g p d) ds

pub quotient-length : (g p ds : List ℕ) → length (quotient_of g p ds) ≡ length ds
unfolding quotient_of
quotient-length g p [] = refl
quotient-length g p (d ∷ ds) = ap suc (quotient-length g (next g p d) ds)

-- a multiple comes in and is taken away again
taken-away : (a b c : List ℕ) → length a ≡ length (b ⊞ c) → a ⊞ ((b ⊞ a) ⊞ c) ≡ b ⊞ c
taken-away a b c e = ap (◌⊞◌ a) (ap (λ (z : List ℕ). z ⊞ c) (⊞-comm b a) ∙ ⊞-assoc a b c) ∙ ⊞-cancel a (b ⊞ c) e

-- a sum moved up
moved : (a b : List ℕ) (m : ℕ) → length a ≡ length b → (a ⊞ b) ++ zeros m ≡ (a ++ zeros m) ⊞ (b ++ zeros m)
moved a b m e =
    sym (⊞-append a (zeros m) b (zeros m) e ∙ ap (◌++◌ (a ⊞ b)) (⊞-self (zeros m) ∙ ap (λ (k : ℕ). zeros k) (length-replicate m 0)))

-- a step below its highest power: s is the multiple of the divisor; the later steps come to u and v
step-below : (ps ds s u v : List ℕ) (k n : ℕ) → suc (length ps) ≡ n → length s ≡ n → k ≡ length ds
    → (((ps ++ (0 ∷ [])) ⊞ s) ++ zeros (length ds)) ⊞ (ds ++ zeros n) ≡ u ⊞ v
    → (ps ++ zeros (suc (length ds))) ⊞ (ds ++ zeros n) ≡ (s ++ zeros k) ⊞ u ⊞ v
step-below ps ds s u v k n e l c ih =
    let up : List ℕ = ps ++ (0 ∷ []) in
    let m : ℕ = length ds in
    let ls : length (s ++ zeros m) ≡ length (ds ++ zeros n) = simp (length-append, length-replicate) (omega arith) in
    let lp : length (up ++ zeros m) ≡ length (ds ++ zeros n) = simp (length-append, length-replicate) (omega arith) in
    let lu : length up ≡ length s = simp length-append (omega arith) in
    sym (ap (λ (k : ℕ). (s ++ zeros k) ⊞ u ⊞ v) c ∙ ⊞-assoc (s ++ zeros m) u v
    ∙ ap (◌⊞◌ (s ++ zeros m)) (sym ih ∙ ap (λ (z : List ℕ). z ⊞ (ds ++ zeros n)) (moved up s m lu))
    ∙ taken-away (s ++ zeros m) (up ++ zeros m) (ds ++ zeros n) (ls ∙ sym (length-⊞ _ _ lp))
    ∙ ap (λ (z : List ℕ). z ⊞ (ds ++ zeros n)) (append_assoc ps (0 ∷ []) (zeros m)))

-- x^m p + x^n D = Q (x^n + g) + R, where p is what remained before the m coefficients of D
pub quotient-law : (g p ds : List ℕ) → 0 < length g → length p ≡ length g → Bytes p → Bytes ds
    → (p ++ zeros (length ds)) ⊞ (ds ++ zeros (length g)) ≡ (quotient_of g p ds ⊠ (1 ∷ g)) ⊞ (zeros (length ds) ++ remainder g p ds)
unfolding quotient_of remainder next ◌⊠◌ ◌⊞◌ scale
quotient-law g p [] h e x y = ap (λ (z : List ℕ). z ⊞ zeros (length g)) (append-nil p) ∙ ⊞-comm p (zeros (length g))
quotient-law g [] (d ∷ ds) h e x y = absurd (omega arith)
quotient-law g (p ∷ ps) (d ∷ ds) h e x y =
    let r : List ℕ = next g (p ∷ ps) d in
    let q : List ℕ = quotient_of g r ds in
    ap₂ ◌∷◌ (sym (⊕-zero-r _ ∙ ⊕-zero-r _ ∙ ⊗-one-r (p ⊕ d) (⊕-lt p d x.0 y.0)))
    (step-below ps ds (scale (p ⊕ d) g) (q ⊠ (1 ∷ g)) (zeros (length ds) ++ remainder g r ds) (length q) (length g)
    e (length-scale (p ⊕ d) g) (quotient-length g r ds)
    (quotient-law g r ds h (next-length g (p ∷ ps) d e) (next-bytes g (p ∷ ps) d x) y.1))

-- from a remainder of zeros: x^n D = Q (x^n + g) + R
pub quotient-start : (g ds : List ℕ) → 0 < length g → Bytes ds
    → ds ++ zeros (length g) ≡ (quotient_of g (zeros (length g)) ds ⊠ (1 ∷ g)) ⊞ (zeros (length ds) ++ remainder g (zeros (length g)) ds)
quotient-start g ds h x =
    let n : ℕ = length g in
    let l : n + length ds ≡ length (ds ++ zeros n) = simp (length-append, length-replicate) (omega arith) in
    sym (⊞-zeros-l (ds ++ zeros n))
    ∙ ap (λ (z : List ℕ). z ⊞ (ds ++ zeros n)) (sym (replicate-append-replicate n (length ds) 0 ∙ ap (λ (k : ℕ). zeros k) l))
    ∙ quotient-law g (zeros n) ds h (length-replicate n 0) (replicate-below 256 n 0 (lit< tt)) x

-- ---- G

-- x^6 D = Q G + P
pub quotient-exists : (d : List ℕ) → Bytes d → (q : List ℕ) × (length q ≡ length d) × (d ++ zeros 6 ≡ (q ⊠ G) ⊞ (zeros (length d) ++ parity_of d))
unfolding parity_of divisor_bytes
quotient-exists d x =
    (quotient_of divisor_bytes (zeros 6) d, quotient-length divisor_bytes (zeros 6) d, quotient-start divisor_bytes d (lit< tt) x)

-- G is the product of the x + 2^j, j from 0 to 5
pub divisor-product : (1 ∷ pow 2 0 ∷ []) ⊠ (1 ∷ pow 2 1 ∷ []) ⊠ (1 ∷ pow 2 2 ∷ []) ⊠ (1 ∷ pow 2 3 ∷ []) ⊠ (1 ∷ pow 2 4 ∷ []) ⊠ (1 ∷ pow 2 5 ∷ []) ≡ G
unfolding ◌⊠◌ ◌⊞◌ scale divisor_bytes pow ◌⊗◌ by_bits double ◌⊕◌
divisor-product = refl

pub divisor-root : (j : ℕ) → j < 6 → value_at (pow 2 j) G ≡ 0
unfolding value_at divisor_bytes pow ◌⊗◌ by_bits double ◌⊕◌
divisor-root zero h = refl
divisor-root (suc zero) h = refl
divisor-root (suc (suc zero)) h = refl
divisor-root (suc (suc (suc zero))) h = refl
divisor-root (suc (suc (suc (suc zero)))) h = refl
divisor-root (suc (suc (suc (suc (suc zero))))) h = refl
divisor-root (suc (suc (suc (suc (suc (suc j)))))) h = absurd (omega arith)
