-- A run of bits lies within a few neighbouring numbers, of whatever width, and is a part of the one number that these make together.
-- Assumes nothing.
use mathlib.Core.Path.{◌≡◌, refl, sym, ap, ap₂, ◌∙◌}
use mathlib.Core.List.{List, [], ◌∷◌, ◌++◌}
use Prim.Native.Nat.{ℕ, suc, ◌+◌, ◌*◌, ◌/◌, ◌%◌, ◌^◌, ◌≤◌, ◌<◌}
use native.Mathlib.Nat.{mul-zero, mul-one, mul-le-mul_left}
use native.Mathlib.Numerals.{add-one}
use native.Mathlib.Omega.{arith}
use lib.ListN.{length, get_or, take, drop, set, length-drop}
use lib.Pow.{high, low}
use lib.Seq.{take-add, drop-drop, length-take-le}
use Rattle.basics.proofs.Laws.Parts.{part-entries, filled, filled_more, filled-all}
use Rattle.b40.specs.Field.{bits, bits_each, number_of, numbers}
use Rattle.b40.proofs.Laws.Bits.{each-length, numbers-length, numbers-at, each-drop, each_take, number_append}
use Rattle.b40.proofs.Laws.Back.{each_below, number-bits, run-lt}
use Rattle.basics.proofs.Laws.Below.{drop-below, take_below}
use Rattle.basics.specs.Below.{Below}

-- ---- a run of bits within another

-- o bits stand before the run and s behind it
pub within : (l : List ℕ) → Below 2 l → (o m s : ℕ) → o + m + s ≤ length l
    → number_of (take m (drop o l)) ≡ number_of (take (o + m + s) l) / 2 ^ s % 2 ^ m
within l p o m s h =
    let a : List ℕ = take o l in
    let r : List ℕ = take m (drop o l) in
    let z : List ℕ = take s (drop (o + m) l) in
    let long-r : m ≤ length (drop o l) = omega (arith, length-drop o l) in
    let long-z : s ≤ length (drop (o + m) l) = omega (arith, length-drop (o + m) l) in
    let e : number_of (take (o + m + s) l) ≡ (number_of a * 2 ^ m + number_of r) * 2 ^ s + number_of z =
    ap number_of (take-add (o + m) s l ∙ ap (λ (x : List ℕ). x ++ z) (take-add o m l)) ∙ number_append (a ++ r) z
    ∙ ap₂ (λ (x y : ℕ). x * 2 ^ y + number_of z)
    (number_append a r ∙ ap (λ (y : ℕ). number_of a * 2 ^ y + number_of r) (length-take-le m (drop o l) long-r)) (length-take-le s (drop (o + m) l) long-z) in
    sym (ap (λ (x : ℕ). x / 2 ^ s % 2 ^ m) e
    ∙ ap (λ (x : ℕ). x % 2 ^ m) (high (number_of a * 2 ^ m + number_of r) s (run-lt s (drop (o + m) l) (drop-below 2 (o + m) l p) long-z))
    ∙ low (number_of a) m (run-lt m (drop o l) (drop-below 2 o l p) long-r))

-- ---- neighbouring numbers

-- the number that numbers of n bits make, the first the highest
abbrev pub together : ℕ → List ℕ → ℕ
together n [] = 0
together n (x ∷ l) = x * 2 ^ (n * length l) + together n l

each_number : (n : ℕ) (l : List ℕ) → Below (2 ^ n) l → number_of (bits_each n l) ≡ together n l
unfolding bits_each number_of
each_number n [] p = refl
each_number n (x ∷ l) p =
    number_append (bits n x) (bits_each n l)
    ∙ ap₂ ◌+◌ (ap₂ (λ (y k : ℕ). y * 2 ^ k) (number-bits n x p.0) (each-length n l)) (each_number n l p.1)

-- the bits of the first k numbers
pub front-number : (n k : ℕ) (l : List ℕ) → Below (2 ^ n) l → number_of (take (n * k) (bits_each n l)) ≡ together n (take k l)
front-number n k l p = ap number_of (each_take n k l) ∙ each_number n (take k l) (take_below (2 ^ n) k l p)

two : (n x y : ℕ) → x * 2 ^ (n * 1) + (y * 2 ^ (n * 0) + 0) ≡ x * 2 ^ n + y
two n x y = ap₂ (λ (a b : ℕ). x * 2 ^ a + (y * 2 ^ b + 0)) (mul-one n) (mul-zero n) ∙ omega arith

module _ (n : ℕ) (l : List ℕ) (p : Below (2 ^ n) l) where
  -- m bits from bit n·w + o on lie within the k numbers from place w on, if s bits stand behind them there
  pub window : (w k o m s : ℕ) → w + k ≤ length l → o + m + s ≡ n * k
      → number_of (take m (drop (n * w + o) (bits_each n l))) ≡ together n (take k (drop w l)) / 2 ^ s % 2 ^ m
  window w k o m s h e =
      let d : List ℕ = drop w l in
      let enough : k ≤ length d = omega (arith, length-drop w l) in
      let long : o + m + s ≤ length (bits_each n d) = omega (arith, each-length n d, mul-le-mul_left n enough) in
      let number : number_of (take (o + m + s) (bits_each n d)) ≡ together n (take k d) =
      ap (λ (x : ℕ). number_of (take x (bits_each n d))) e ∙ front-number n k d (drop-below (2 ^ n) w l p) in
      ap (λ (x : List ℕ). number_of (take m x)) (sym (drop-drop o (n * w) (bits_each n l)) ∙ ap (drop o) (each-drop n w l))
      ∙ within (bits_each n d) (each_below n d) o m s long ∙ ap (λ (x : ℕ). x / 2 ^ s % 2 ^ m) number

  -- within two neighbours
  pub pair : (w o m s : ℕ) → w + 1 < length l → o + m + s ≡ n * 2
      → number_of (take m (drop (n * w + o) (bits_each n l))) ≡ (get_or l w 0 * 2 ^ n + get_or l (w + 1) 0) / 2 ^ s % 2 ^ m
  pair w o m s h e =
      let both : together n (take 2 (drop w l)) ≡ get_or l w 0 * 2 ^ n + get_or l (w + 1) 0 =
      ap (together n) (part-entries 2 w l (omega arith)) ∙ two n (get_or l w 0) (get_or l (suc w) 0)
      ∙ ap (λ (i : ℕ). get_or l w 0 * 2 ^ n + get_or l i 0) (sym (add-one w)) in
      window w 2 o m s (omega arith) e ∙ ap (λ (x : ℕ). x / 2 ^ s % 2 ^ m) both

-- ---- places that are filled with such runs

module _ (t n : ℕ) (b old : List ℕ) (long : length old ≡ t) where
  -- place i of t gets the n bits from the given one on, so that all places before j are filled
  pub placed : (now' : List ℕ) (i j from v : ℕ) → now' ≡ filled (numbers t n b) old i → i < t
      → v ≡ number_of (take n (drop from b)) → n * i ≡ from → i + 1 ≡ j → set now' i v ≡ filled (numbers t n b) old j
  placed now' i j from v e h g f q =
      filled_more (numbers t n b) old now' i v e (omega (arith, numbers-length t n b)) (omega arith)
      (numbers-at t n b i h ∙ ap (λ (x : ℕ). number_of (take n (drop x b))) f ∙ sym g) ∙ ap (filled (numbers t n b) old) q

  -- and all places
  pub placed-all : (now' : List ℕ) → now' ≡ filled (numbers t n b) old t → now' ≡ numbers t n b
  placed-all now' e = e ∙ filled-all (numbers t n b) old t (omega (arith, numbers-length t n b)) (omega arith)
