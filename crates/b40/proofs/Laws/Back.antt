-- From numbers to their bits and back, and from bits to their numbers and back, one number or many.
-- Assumes nothing.
use mathlib.Core.Path.{◌≡◌, refl, sym, ap, ap₂, subst, ◌∙◌}
use mathlib.Core.List.{List, [], ◌∷◌, ◌++◌, append_assoc, append-nil}
use Prim.Native.Nat.{ℕ, zero, suc, ◌+◌, ◌*◌, ◌/◌, ◌%◌, ◌^◌, ◌≤◌, ◌<◌}
use native.Mathlib.Nat.{mul-zero, mul-suc, mul_assoc, mul_comm, zero-add, suc-add, pow-succ', one-le-pow, mul-add-div_right, div-eq_of_lt, mul-le-mul_right}
use native.Mathlib.Omega.{arith}
use lib.Dec.{lit<}
use lib.ListN.{length, take, drop, length-drop}
use lib.Pow.{split, high}
use lib.Seq.{take-add, take_at, drop_at, length-take-le}
use Rattle.anc.specs.Word.{bit}
use Rattle.anc.proofs.Laws.Bits.{bit-lt, bit-half}
use Rattle.basics.specs.Below.{Below}
use Rattle.basics.proofs.Laws.Below.{append-below, drop-below, take_below}
use Rattle.basics.proofs.Laws.Parts.{same-cons}
use Rattle.b40.specs.Field.{bits, bits_each, number_of, numbers}
use Rattle.b40.proofs.Laws.Bits.{bits-length, bits-split, number_append}

-- ---- bits are below 2

pub bits_below : (n m : ℕ) → Below 2 (bits n m)
unfolding bits
bits_below zero m = tt
bits_below (suc n) m = (bit-lt n m, bits_below n m)

pub each_below : (n : ℕ) (l : List ℕ) → Below 2 (bits_each n l)
unfolding bits_each
each_below n [] = tt
each_below n (m ∷ l) = append-below 2 (bits n m) (bits_each n l) (bits_below n m) (each_below n l)

-- ---- a number, its bits, and the number again

bits-half : (n m : ℕ) → bits (suc n) m ≡ bits n (m / 2) ++ m % 2 ∷ []
unfolding bits bit
bits-half zero m = let e : m / 2 ^ 0 % 2 ≡ m % 2 = omega arith in ap (λ (b : ℕ). b ∷ []) e
bits-half (suc n) m = same-cons (sym (bit-half n m)) (bits-half n m)

pub number-bits : (n m : ℕ) → m < 2 ^ n → number_of (bits n m) ≡ m
unfolding number_of bits
number-bits zero m h = omega arith
number-bits (suc n) m h =
    let half : number_of (bits n (m / 2)) ≡ m / 2 = number-bits n (m / 2) (omega (arith, pow-succ' 2 n)) in
    ap number_of (bits-half n m) ∙ number_append (bits n (m / 2)) (m % 2 ∷ []) ∙ omega arith

-- ---- bits, their number, and the bits again

pub number_lt : (l : List ℕ) → Below 2 l → number_of l < 2 ^ length l
unfolding number_of
number_lt [] p = lit< tt
number_lt (b ∷ l) p =
    let h : b ≤ 1 = omega (arith, p.0) in
    omega (arith, number_lt l p.1, pow-succ' 2 (length l), mul-le-mul_right (2 ^ length l) h)

even : (a x : ℕ) → (2 * a + x) % 2 ≡ x % 2
even a x = omega arith

-- what stands above the n low bits does not matter
bit_high : (n a m : ℕ) → bit n (2 * a * 2 ^ n + m) ≡ bit n m
unfolding bit
bit_high n a m = ap (λ (x : ℕ). x % 2) (mul-add-div_right (one-le-pow n 2 (omega arith)) (2 * a) m) ∙ even a (m / 2 ^ n)

bits-high : (n a m : ℕ) → bits n (a * 2 ^ n + m) ≡ bits n m
unfolding bits
bits-high zero a m = refl
bits-high (suc n) a m =
    let e : a * 2 ^ suc n ≡ 2 * a * 2 ^ n = ap (λ (x : ℕ). a * x) (pow-succ' 2 n) ∙ sym (mul_assoc a 2 (2 ^ n)) ∙ ap (λ (x : ℕ). x * 2 ^ n) (mul_comm a 2) in
    ap (λ (x : ℕ). bit n (x + m) ∷ bits n (x + m)) e ∙ same-cons (bit_high n a m) (bits-high n (2 * a) m)

-- the n low bits of a number are those of its remainder
pub bits-low : (n m : ℕ) → bits n (m % 2 ^ n) ≡ bits n m
bits-low n m = sym (bits-high n (m / 2 ^ n) (m % 2 ^ n)) ∙ ap (bits n) (split m n)

-- the bits of two numbers, one behind the other, are those of one
pub bits-join : (a b x m : ℕ) → m < 2 ^ b → bits a x ++ bits b m ≡ bits (a + b) (x * 2 ^ b + m)
bits-join a b x m h =
    sym (bits-split a b (x * 2 ^ b + m) ∙ ap₂ (λ (l r : List ℕ). l ++ r) (ap (bits a) (high x b h)) (bits-high b x m))

top_bit : (n b m : ℕ) → b < 2 → m < 2 ^ n → bit n (b * 2 ^ n + m) ≡ b
unfolding bit
top_bit n b m h k =
    let z : m / 2 ^ n ≡ 0 = div-eq_of_lt k in
    ap (λ (x : ℕ). x % 2) (mul-add-div_right (one-le-pow n 2 (omega arith)) b m ∙ ap (λ (x : ℕ). b + x) z) ∙ omega arith

pub bits-number : (l : List ℕ) → Below 2 l → bits (length l) (number_of l) ≡ l
unfolding number_of bits
bits-number [] p = refl
bits-number (b ∷ l) p =
    same-cons (top_bit (length l) b (number_of l) p.0 (number_lt l p.1)) (bits-high (length l) b (number_of l) ∙ bits-number l p.1)

-- ---- many numbers

-- the first n of some bits
pub run-back : (n : ℕ) (l : List ℕ) → Below 2 l → n ≤ length l → bits n (number_of (take n l)) ≡ take n l
run-back n l p h = ap (λ (k : ℕ). bits k (number_of (take n l))) (sym (length-take-le n l h)) ∙ bits-number (take n l) (take_below 2 n l p)

pub each-numbers : (k n : ℕ) (l : List ℕ) → Below 2 l → n * k ≤ length l → bits_each n (numbers k n l) ≡ take (n * k) l
unfolding bits_each numbers
each-numbers zero n l p h = ap (λ (x : ℕ). take x l) (sym (mul-zero n))
each-numbers (suc k) n l p h =
    let e : n + n * k ≡ n * suc k = omega (arith, mul-suc n k) in
    ap₂ (λ (x y : List ℕ). x ++ y) (run-back n l p (omega arith)) (each-numbers k n (drop n l) (drop-below 2 n l p) (omega (arith, length-drop n l)))
    ∙ sym (take-add n (n * k) l) ∙ ap (λ (x : ℕ). take x l) e

-- numbers of n bits, and k more behind them
pub numbers-each : (k n : ℕ) (l r : List ℕ) → Below (2 ^ n) l → numbers (length l + k) n (bits_each n l ++ r) ≡ l ++ numbers k n r
unfolding bits_each numbers
numbers-each k n [] r p = ap (λ (x : ℕ). numbers x n r) (zero-add k)
numbers-each k n (m ∷ l) r p =
    let x : List ℕ = bits_each n l ++ r in
    ap₂ (λ (j : ℕ) (y : List ℕ). numbers j n y) (suc-add (length l) k) (append_assoc (bits n m) (bits_each n l) r)
    ∙ same-cons (ap number_of (take_at (bits n m) x n (bits-length n m)) ∙ number-bits n m p.0)
    (ap (numbers (length l + k) n) (drop_at (bits n m) x n (bits-length n m)) ∙ numbers-each k n l r p.1)

-- and none more
pub numbers-back : (k n : ℕ) (l r : List ℕ) → length l ≡ k → Below (2 ^ n) l → numbers k n (bits_each n l ++ r) ≡ l
unfolding numbers
numbers-back k n l r e p =
    let f : k ≡ length l + 0 = omega arith in
    ap (λ (x : ℕ). numbers x n (bits_each n l ++ r)) f ∙ numbers-each 0 n l r p ∙ append-nil l

-- a number that n bits spell has n bits
pub run-lt : (n : ℕ) (l : List ℕ) → Below 2 l → n ≤ length l → number_of (take n l) < 2 ^ n
run-lt n l p h = subst (λ (k : ℕ). number_of (take n l) < 2 ^ k) (length-take-le n l h) (number_lt (take n l) (take_below 2 n l p))

pub numbers-below : (k n : ℕ) (l : List ℕ) → Below 2 l → n * k ≤ length l → Below (2 ^ n) (numbers k n l)
unfolding numbers
numbers-below zero n l p h = tt
numbers-below (suc k) n l p h =
    (run-lt n l p (omega (arith, mul-suc n k)), numbers-below k n (drop n l) (drop-below 2 n l p) (omega (arith, mul-suc n k, length-drop n l)))

-- one list of numbers behind another
pub each_append : (n : ℕ) (l m : List ℕ) → bits_each n (l ++ m) ≡ bits_each n l ++ bits_each n m
unfolding bits_each
each_append n [] m = refl
each_append n (x ∷ l) m = ap (λ (r : List ℕ). bits n x ++ r) (each_append n l m) ∙ sym (append_assoc (bits n x) (bits_each n l) (bits_each n m))

pub each-one : (n m : ℕ) → bits_each n (m ∷ []) ≡ bits n m
unfolding bits_each
each-one n m = append-nil (bits n m)
