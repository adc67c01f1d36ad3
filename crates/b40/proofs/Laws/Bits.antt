-- Numbers as bits and bits as numbers: how many there are, what stands at each place, and one run of bits behind another.
-- Assumes nothing.
use mathlib.Core.Path.{◌≡◌, refl, sym, ap, ap₂, ◌∙◌}
use mathlib.Core.List.{List, [], ◌∷◌, ◌++◌}
use Prim.Native.Nat.{ℕ, zero, suc, ◌+◌, ◌*◌, ◌/◌, ◌%◌, ◌^◌, ◌≤◌, ◌<◌}
use native.Mathlib.Nat.{mul-zero, zero-mul, mul-suc, mul_assoc, add_comm, add_assoc, add-mul, zero-add, suc-add, le_of_suc-le-suc, not-suc-le-zero}
use native.Mathlib.Omega.{arith}
use lib.ListN.{length, get_or, take, drop, length-append, length-drop}
use lib.Pow.{pow-add, shr-shr}
use lib.Seq.{drop-nil, drop-drop, take-nil, take-append-add, take-append-le, drop-append-le}
use Rattle.anc.specs.Word.{bit}
use Rattle.basics.proofs.Laws.Parts.{same-cons, skip}
use Rattle.b40.specs.Field.{bits, bits_each, number_of, numbers}

-- ---- how many there are

pub bits-length : (n m : ℕ) → length (bits n m) ≡ n
unfolding bits
bits-length zero m = refl
bits-length (suc n) m = ap suc (bits-length n m)

pub each-length : (n : ℕ) (l : List ℕ) → length (bits_each n l) ≡ n * length l
unfolding bits_each
each-length n [] = sym (mul-zero n)
each-length n (m ∷ l) =
    length-append (bits n m) (bits_each n l) ∙ ap₂ ◌+◌ (bits-length n m) (each-length n l) ∙ add_comm n (n * length l) ∙ sym (mul-suc n (length l))

pub numbers-length : (k n : ℕ) (l : List ℕ) → length (numbers k n l) ≡ k
unfolding numbers
numbers-length zero n l = refl
numbers-length (suc k) n l = ap suc (numbers-length k n (drop n l))

-- ---- what stands at a place

pub numbers-at : (k n : ℕ) (l : List ℕ) (i : ℕ) → i < k → get_or (numbers k n l) i 0 ≡ number_of (take n (drop (n * i) l))
unfolding numbers
numbers-at zero n l i h = absurd (not-suc-le-zero h)
numbers-at (suc k) n l zero h = ap (λ (x : ℕ). number_of (take n (drop x l))) (sym (mul-zero n))
numbers-at (suc k) n l (suc i) h =
    let e : n + n * i ≡ n * suc i = omega (arith, mul-suc n i) in
    numbers-at k n (drop n l) i (le_of_suc-le-suc h) ∙ ap (λ (x : List ℕ). number_of (take n x)) (drop-drop (n * i) n l ∙ ap (λ (x : ℕ). drop x l) e)

-- behind the bits of the first w numbers
pub each-drop : (n w : ℕ) (l : List ℕ) → drop (n * w) (bits_each n l) ≡ bits_each n (drop w l)
unfolding bits_each
each-drop n zero l = ap (λ (x : ℕ). drop x (bits_each n l)) (mul-zero n)
each-drop n (suc w) [] = drop-nil (n * suc w)
each-drop n (suc w) (m ∷ l) =
    let e : n * suc w ≡ n + n * w = omega (arith, mul-suc n w) in
    ap (λ (x : ℕ). drop x (bits n m ++ bits_each n l)) e ∙ skip (bits n m) (bits_each n l) n (n * w) (bits-length n m) ∙ each-drop n w l

-- the bits of the first w numbers
pub each_take : (n w : ℕ) (l : List ℕ) → take (n * w) (bits_each n l) ≡ bits_each n (take w l)
unfolding bits_each
each_take n zero l = ap (λ (x : ℕ). take x (bits_each n l)) (mul-zero n)
each_take n (suc w) [] = take-nil (n * suc w)
each_take n (suc w) (m ∷ l) =
    let e : n * suc w ≡ length (bits n m) + n * w = omega (arith, mul-suc n w, bits-length n m) in
    ap (λ (x : ℕ). take x (bits n m ++ bits_each n l)) e ∙ take-append-add (bits n m) (bits_each n l) (n * w)
    ∙ ap (λ (x : List ℕ). bits n m ++ x) (each_take n w l)

-- ---- one run of bits behind another

append-sum : (x a b v w t : ℕ) → t ≡ x * (a * b) → t + (v * b + w) ≡ (x * a + v) * b + w
append-sum x a b v w t e =
    ap (λ (y : ℕ). y + (v * b + w)) (e ∙ sym (mul_assoc x a b)) ∙ sym (add_assoc (x * a * b) (v * b) w) ∙ ap (λ (y : ℕ). y + w) (sym (add-mul (x * a) v b))

pub number_append : (l m : List ℕ) → number_of (l ++ m) ≡ number_of l * 2 ^ length m + number_of m
unfolding number_of
number_append [] m = sym (ap (λ (x : ℕ). x + number_of m) (zero-mul (2 ^ length m)) ∙ zero-add (number_of m))
number_append (x ∷ l) m =
    let e : 2 ^ length (l ++ m) ≡ 2 ^ length l * 2 ^ length m = ap (λ (n : ℕ). 2 ^ n) (length-append l m) ∙ pow-add 2 (length l) (length m) in
    ap (λ (y : ℕ). x * 2 ^ length (l ++ m) + y) (number_append l m)
    ∙ append-sum x (2 ^ length l) (2 ^ length m) (number_of l) (number_of m) (x * 2 ^ length (l ++ m)) (ap (λ (y : ℕ). x * y) e)

bit-split : (a b m : ℕ) → bit (a + b) m ≡ bit a (m / 2 ^ b)
unfolding bit
bit-split a b m = ap (λ (n : ℕ). m / 2 ^ n % 2) (add_comm a b) ∙ ap (λ (x : ℕ). x % 2) (sym (shr-shr m b a))

-- the upper a bits of a number, and then the lower b
pub bits-split : (a b m : ℕ) → bits (a + b) m ≡ bits a (m / 2 ^ b) ++ bits b m
unfolding bits
bits-split zero b m = ap (λ (n : ℕ). bits n m) (zero-add b)
bits-split (suc a) b m = ap (λ (n : ℕ). bits n m) (suc-add a b) ∙ same-cons (bit-split a b m) (bits-split a b m)

-- numbers that lie within the first run
pub numbers-front : (k n : ℕ) (l m : List ℕ) → n * k ≤ length l → numbers k n (l ++ m) ≡ numbers k n l
unfolding numbers
numbers-front zero n l m h = refl
numbers-front (suc k) n l m h =
    let e : n + n * k ≤ length l = omega (arith, mul-suc n k) in
    let g : n ≤ length l = omega arith in
    same-cons (ap number_of (take-append-le n l m g))
    (ap (numbers k n) (drop-append-le n l m g) ∙ numbers-front k n (drop n l) m (omega (arith, length-drop n l)))
