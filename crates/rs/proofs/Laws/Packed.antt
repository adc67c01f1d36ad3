-- The laws of packed numbers: sums of them, their bytes back again, a turn of the division on them, and the table of multiples.
-- Assumes nothing.
use mathlib.Core.Path.{◌≡◌, refl, sym, ap, ap₂, ◌∙◌, subst}
use mathlib.Core.Logic.{⊎_elim}
use mathlib.Core.List.{List, [], ◌∷◌, ◌++◌}
use Prim.Native.Nat.{ℕ, zero, suc, ◌+◌, ◌-◌, ◌*◌, ◌/◌, ◌%◌, ◌^◌, ◌≤◌, ◌<◌}
use native.Mathlib.Nat.{suc_inj, one-mul, pow-suc, le_of_suc-le-suc, eq-or-lt_of_le}
use native.Mathlib.Numerals.{add-one}
use native.Mathlib.Omega.{arith}
use lib.Bits.{bit_xor, xor_block, xor_comm, xor_shifted}
use lib.Dec.{lit<}
use lib.ListN.{length, length-append, length-set, take, drop, get_or, set}
use lib.Pow.{pow_mono}
use lib.Seq.{get_or-set_same, get_or-set_other}
use Rattle.gf256.specs.Field.{◌⊕◌, ◌⊗◌, double, pow}
use Rattle.basics.proofs.Laws.Test.{lt-or-le}
use Rattle.gf256.proofs.Laws.Sum.{⊕-assoc, ⊕-comm, ⊕-self, ⊕-zero-r, ⊕-lt}
use Rattle.gf256.proofs.Laws.Product.{⊗-assoc, ⊗-⊕-l, ⊗-zero-l, ⊗-one-l, two-double}
use Rattle.rs.specs.Polynomial.{◌⊞◌, scale, zeros}
use Rattle.rs.specs.Codeword.{divisor_bytes, next, remainder, parity_of, left_of}
use Rattle.basics.specs.Below.{Bytes}
use Rattle.rs.specs.Packed.{pack, unpack, turn, Multiples, Extended}
use Rattle.rs.proofs.Laws.Polynomial.{length-scale, ⊞-bytes, scale-bytes}
use Rattle.basics.proofs.Laws.Below.{append-below, drop-below}
use Rattle.basics.proofs.Laws.Parts.{entries, all-entries}
use Rattle.rs.proofs.Laws.Division.{parity-length, parity-bytes, parity-step}
use Rattle.rs.proofs.Laws.Codeword.{as_long, left-six, left-long}

-- ---- sums

⊕-block : (a b r s : ℕ) → r < 256 → s < 256 → (a * 256 + r) ⊕ (b * 256 + s) ≡ (a ⊕ b) * 256 + (r ⊕ s)
unfolding ◌⊕◌
⊕-block a b r s h k = xor_block 8 a b r s h k

pub pack-⊞ : (l m : List ℕ) → length l ≡ length m → Bytes l → Bytes m → pack (l ⊞ m) ≡ pack l ⊕ pack m
unfolding pack ◌⊞◌
pack-⊞ [] [] e x y = sym (⊕-self 0)
pack-⊞ [] (b ∷ m) e x y = absurd (omega arith)
pack-⊞ (a ∷ l) [] e x y = absurd (omega arith)
pack-⊞ (a ∷ l) (b ∷ m) e x y =
    ap (λ (n : ℕ). n * 256 + (a ⊕ b)) (pack-⊞ l m (suc_inj e) x.1 y.1) ∙ sym (⊕-block (pack l) (pack m) a b x.0 y.0)

-- the number of six bytes, one by one
pub pack-six : (l : List ℕ) → length l ≡ 6
    → ((((get_or l 5 0 * 256 + get_or l 4 0) * 256 + get_or l 3 0) * 256 + get_or l 2 0) * 256 + get_or l 1 0) * 256 + get_or l 0 0 ≡ pack l
unfolding pack
pack-six l h = let e : pack (entries 6 0 l) ≡ pack l = ap pack (all-entries 6 l h) in omega arith

-- ---- the bytes back again

digit-div : (a r : ℕ) → r < 256 → (a * 256 + r) / 256 ≡ a
digit-div a r h = omega arith

digit-mod : (a r : ℕ) → r < 256 → (a * 256 + r) % 256 ≡ r
digit-mod a r h = omega arith

pub unpack-pack : (n : ℕ) (l : List ℕ) → length l ≡ n → Bytes l → unpack n (pack l) ≡ l
unfolding pack unpack
unpack-pack zero [] e x = refl
unpack-pack zero (b ∷ l) e x = absurd (omega arith)
unpack-pack (suc n) [] e x = absurd (omega arith)
unpack-pack (suc n) (b ∷ l) e x =
    ap₂ (λ (d w : ℕ). d ∷ unpack n w) (digit-mod (pack l) b x.0) (digit-div (pack l) b x.0)
    ∙ ap (λ (m : List ℕ). b ∷ m) (unpack-pack n l (suc_inj e) x.1)

-- ---- the turn is the step

pack-snoc : (l : List ℕ) → pack (l ++ (0 ∷ [])) ≡ pack l
unfolding pack
pack-snoc [] = refl
pack-snoc (a ∷ l) = ap (λ (n : ℕ). n * 256 + a) (pack-snoc l)

-- a byte is added to the lowest digit
⊕-digit : (a r d : ℕ) → r < 256 → d < 256 → (a * 256 + r) ⊕ d ≡ a * 256 + (r ⊕ d)
⊕-digit a r d h k =
    let e : d ≡ 0 * 256 + d = omega arith in
    ap (◌⊕◌ (a * 256 + r)) e ∙ ⊕-block a 0 r d h k ∙ ap (λ (n : ℕ). n * 256 + (r ⊕ d)) (⊕-zero-r a)

-- a turn of a packed remainder with d put in at its head is a step of the division
pub turn-next : (g p : List ℕ) (d : ℕ) → length p ≡ length g → 0 < length p → Bytes p → d < 256
    → turn g (pack p ⊕ d) ≡ pack (next g p d)
unfolding turn pack next
turn-next g [] d e z x k = absurd (omega arith)
turn-next g (p ∷ ps) d e z x k =
    let s : (pack ps * 256 + p) ⊕ d ≡ pack ps * 256 + (p ⊕ d) = ⊕-digit (pack ps) p d x.0 k in
    let h : p ⊕ d < 256 = ⊕-lt p d x.0 k in
    ap₂ (λ (u v : ℕ). u ⊕ pack (scale v g))
    (ap (λ (n : ℕ). n / 256) s ∙ digit-div _ _ h ∙ sym (pack-snoc ps)) (ap (λ (n : ℕ). n % 256) s ∙ digit-mod _ _ h)
    ∙ sym (pack-⊞ (ps ++ (0 ∷ [])) (scale (p ⊕ d) g) (length-append ps (0 ∷ []) ∙ add-one _ ∙ e ∙ sym (length-scale _ g))
    (append-below 256 ps (0 ∷ []) x.1 (lit< tt, tt)) (scale-bytes _ g))

-- ---- multiples add

scale-⊕ : (a b : ℕ) (l : List ℕ) → scale (a ⊕ b) l ≡ scale a l ⊞ scale b l
unfolding scale ◌⊞◌
scale-⊕ a b [] = refl
scale-⊕ a b (c ∷ l) = ap₂ (λ (x : ℕ) (y : List ℕ). x ∷ y) (⊗-⊕-l a b c) (scale-⊕ a b l)

multiple-⊕ : (a b : ℕ) (g : List ℕ) → pack (scale (a ⊕ b) g) ≡ pack (scale a g) ⊕ pack (scale b g)
multiple-⊕ a b g =
    ap pack (scale-⊕ a b g)
    ∙ pack-⊞ (scale a g) (scale b g) (length-scale a g ∙ sym (length-scale b g)) (scale-bytes a g) (scale-bytes b g)

multiple-zero : (g : List ℕ) → pack (scale 0 g) ≡ 0
unfolding pack scale
multiple-zero [] = refl
multiple-zero (a ∷ g) = ap₂ (λ (x y : ℕ). x * 256 + y) (multiple-zero g) (⊗-zero-l a)

-- ---- the loop of the division

-- a turn of the state gives the parity of the bytes so far: of none, and with each byte of one more
pub divide-none : turn divisor_bytes 0 ≡ pack (parity_of [])
unfolding turn parity_of remainder
divide-none = ap (◌⊕◌ 0) (multiple-zero divisor_bytes) ∙ ⊕-self 0 ∙ (unfold pack in refl)

pub divide-more : (l : List ℕ) (i s : ℕ) → i < length l → get_or l i 0 < 256 → turn divisor_bytes s ≡ pack (parity_of (take i l))
    → turn divisor_bytes (s / 256 ⊕ get_or l i 0 ⊕ pack (scale (s % 256) divisor_bytes)) ≡ pack (parity_of (take (i + 1) l))
divide-more l i s h k e =
    let d : ℕ = get_or l i 0 in
    let p : List ℕ = parity_of (take i l) in
    let m : ℕ = pack (scale (s % 256) divisor_bytes) in
    let n : length p ≡ 6 = parity-length (take i l) in
    let opened : s / 256 ⊕ m ≡ turn divisor_bytes s = unfold turn in refl in
    let swapped : s / 256 ⊕ d ⊕ m ≡ pack p ⊕ d
    = ⊕-assoc (s / 256) d m ∙ ap (◌⊕◌ (s / 256)) (⊕-comm d m) ∙ sym (⊕-assoc (s / 256) m d)
    ∙ ap (λ (x : ℕ). x ⊕ d) (opened ∙ e) in
    ap (turn divisor_bytes) swapped
    ∙ turn-next divisor_bytes p d (n ∙ (unfold divisor_bytes in refl)) (omega arith) (parity-bytes (take i l)) k
    ∙ ap pack (parity-step l i h)

-- ---- the remainder of data with six bytes

-- the parity of the first 248 and the last six add up to the remainder
pub remainder-sum : (l : List ℕ) → length l ≡ 254 → Bytes l → pack (parity_of (take 248 l)) ⊕ pack (drop 248 l) ≡ pack (left_of l)
remainder-sum l e b =
    sym (pack-⊞ (parity_of (take 248 l)) (drop 248 l) (as_long l e) (parity-bytes (take 248 l)) (drop-below 256 248 l b)) ∙ ap pack (sym (left-long l e))

left-bytes : (l : List ℕ) → length l ≡ 254 → Bytes l → Bytes (left_of l)
left-bytes l e b = rw (left-long l e) (⊞-bytes _ _ (parity-bytes (take 248 l)) (drop-below 256 248 l b))

-- and its six bytes are what the division leaves
pub left-unpacked : (l : List ℕ) → length l ≡ 254 → Bytes l → unpack 6 (pack (left_of l)) ≡ left_of l
left-unpacked l e b = unpack-pack 6 (left_of l) (left-six l e) (left-bytes l e b)

-- ---- a packed number is 0 exactly where its bytes are

pub pack-zeros : (n : ℕ) → pack (zeros n) ≡ 0
unfolding pack
pack-zeros zero = refl
pack-zeros (suc n) = omega (arith, pack-zeros n)

pub zero-packed : (l : List ℕ) → pack l ≡ 0 → l ≡ zeros (length l)
unfolding pack
zero-packed [] e = refl
zero-packed (b ∷ l) e = ap₂ ◌∷◌ (omega arith) (zero-packed l (omega arith))

-- ---- twice a byte

pub twice-small : (a : ℕ) → a < 128 → a * 2 ≡ 2 ⊗ a
unfolding double
twice-small a h =
    let e : 0x11D * (a / 128 % 2) ≡ 0 = omega arith in
    sym (two-double a (omega arith) ∙ ap (◌⊕◌ (2 * a)) e ∙ ⊕-zero-r (2 * a) ∙ omega arith)

pub twice-large : (a : ℕ) → a < 256 → 128 ≤ a → (a - 128) * 2 ⊕ 0x1D ≡ 2 ⊗ a
unfolding double
twice-large a f h =
    let e : 2 * a ≡ 1 * 256 + (a - 128) * 2 = omega arith in
    let q : a / 128 ≡ 1 = omega arith in
    sym
    (two-double a f ∙ ap₂ ◌⊕◌ e (ap (λ (n : ℕ). 0x11D * (n % 2)) q) ∙ ⊕-block 1 1 ((a - 128) * 2) 0x1D (omega arith) (omega arith)
    ∙ ap (λ (n : ℕ). n * 256 + ((a - 128) * 2 ⊕ 0x1D)) (⊕-self 1) ∙ omega arith)

-- ---- the rows 2^k g

pub scale-scale : (a b : ℕ) (l : List ℕ) → scale a (scale b l) ≡ scale (a ⊗ b) l
unfolding scale
scale-scale a b [] = refl
scale-scale a b (c ∷ l) = ap₂ (λ (x : ℕ) (y : List ℕ). x ∷ y) (sym (⊗-assoc a b c)) (scale-scale a b l)

pub scale_one : (l : List ℕ) → Bytes l → scale 1 l ≡ l
unfolding scale
scale_one [] x = refl
scale_one (c ∷ l) x = ap₂ (λ (y : ℕ) (z : List ℕ). y ∷ z) (⊗-one-l c x.0) (scale_one l x.1)

power_le : (k : ℕ) → k < 8 → 2 ^ k ≤ 128
power_le k h = pow_mono {i = k} {j = 7} (le_of_suc-le-suc h)

-- what a shift gives
pub shifted : (k : ℕ) → k < 8 → 1 * 2 ^ k % 0x1_0000_0000_0000_0000 ≡ 2 ^ k
shifted k h = omega (arith, power_le k h)

-- below 2^8 the powers of 2 in the field are those of numbers
pow-plain : (k : ℕ) → k < 8 → pow 2 k ≡ 2 ^ k
unfolding pow
pow-plain zero h = refl
pow-plain (suc k) h =
    ap (◌⊗◌ 2) (pow-plain k (omega arith)) ∙ sym (twice-small (2 ^ k) (omega (arith, power_le (suc k) h, pow-suc 2 k)))
    ∙ sym (pow-suc 2 k)

-- ---- filling the table

pub extend-more : (size row i x : ℕ) (t u : List ℕ) → size + i < length u → i < size → Extended size i row t u → x ≡ get_or u i 0 ⊕ row
    → Extended size (i + 1) row t (set u (size + i) x)
extend-more size row i x t u l h e w = record {
  long = length-set u (size + i) x ∙ e.long;
  kept = λ j m. get_or-set_other u (size + i) j x 0 (λ q. omega arith) ∙ e.kept j m;
  made = λ j m.
      ⊎_elim
      (λ (q : j ≡ i). ap (λ (n : ℕ). get_or (set u (size + i) x) (size + n) 0) q ∙ get_or-set_same u (size + i) x 0 l ∙ w
      ∙ ap (λ (n : ℕ). n ⊕ row) (e.kept i h ∙ ap (λ (n : ℕ). get_or t n 0) (sym q)))
      (λ (q : j < i). get_or-set_other u (size + i) (size + j) x 0 (λ z. omega arith) ∙ e.made j q)
      (eq-or-lt_of_le (omega arith));
}

-- a power of 2 above a number: their sum in the field is that of numbers
⊕-above : (k i : ℕ) → i < 2 ^ k → i ⊕ 2 ^ k ≡ 2 ^ k + i
unfolding ◌⊕◌
⊕-above k i h =
    xor_comm i (2 ^ k) ∙ ap (λ (n : ℕ). bit_xor n i) (sym (one-mul (2 ^ k))) ∙ xor_shifted 1 k i h ∙ ap (λ (n : ℕ). n + i) (one-mul (2 ^ k))

-- the multiples below 2^k, and each with the row 2^k g added, are those below 2^(k + 1)
multiples-more : (k row : ℕ) (g t u : List ℕ) → Multiples (2 ^ k) g t → row ≡ pack (scale (2 ^ k) g) → Extended (2 ^ k) (2 ^ k) row t u
    → Multiples (2 ^ k + 2 ^ k) g u
multiples-more k row g t u b r x f h =
    ⊎_elim
    (λ (l : f < 2 ^ k). x.kept f l ∙ b f l)
    (λ (l : 2 ^ k ≤ f).
    let i : ℕ = f - 2 ^ k in
    let small : i < 2 ^ k = omega arith in
    let back : 2 ^ k + i ≡ f = omega arith in
    ap (λ (n : ℕ). get_or u n 0) (sym back) ∙ x.made i small ∙ ap₂ ◌⊕◌ (b i small) r ∙ sym (multiple-⊕ i (2 ^ k) g)
    ∙ ap (λ (n : ℕ). pack (scale n g)) (⊕-above k i small ∙ back))
    (lt-or-le f (2 ^ k))

-- after k rows: t has the multiples below 2^k, and the row that comes next is 2^k g
pub record Filling (k : ℕ) (g row t : List ℕ) : Type 0 where
  pub within : k ≤ 8
  pub filled : Multiples (2 ^ k) g t
  pub next_row : row ≡ scale (pow 2 k) g

pub fill_none : (g t : List ℕ) → Bytes g → get_or t 0 0 ≡ 0 → Filling 0 g g t
unfolding pow
fill_none g t b z = record {
  within = omega arith;
  filled = λ f h.
      let e : f ≡ 0 = omega arith in
      ap (λ (n : ℕ). get_or t n 0) e ∙ z ∙ sym (multiple-zero g) ∙ ap (λ (n : ℕ). pack (scale n g)) (sym e);
  next_row = sym (scale_one g b);
}

pub fill_more : (k r : ℕ) (g row row' t u : List ℕ) → k < 8 → Filling k g row t → r ≡ pack row → (size : ℕ) → size ≡ 2 ^ k → Extended size size r t u
    → row' ≡ scale 2 row → Filling (k + 1) g row' u
unfolding pow
fill_more k r g row row' t u h f e size z x d = record {
  within = omega arith;
  filled = λ i l.
      multiples-more k r g t u f.filled (e ∙ ap pack f.next_row ∙ ap (λ (n : ℕ). pack (scale n g)) (pow-plain k h)) (subst (λ (n : ℕ). Extended n n r t u) z x) i
      (omega (arith, pow-suc 2 k, ap (λ (n : ℕ). 2 ^ n) (add-one k)));
  next_row = d ∙ ap (scale 2) f.next_row ∙ scale-scale 2 (pow 2 k) g ∙ ap (λ (n : ℕ). scale (pow 2 n) g) (sym (add-one k));
}

pub fill-size : (k : ℕ) → k < 8 → 1 * 2 ^ k % 0x1_0000_0000_0000_0000 ≤ 128
fill-size k h = rw (shifted k h) (power_le k h)

-- after eight rows they are all there
pub fill-all : (k : ℕ) (g row t : List ℕ) → 8 ≤ k → Filling k g row t → Multiples 256 g t
fill-all k g row t h f = let e : k ≡ 8 = omega (arith, f.within) in subst (λ (n : ℕ). Multiples (2 ^ n) g t) e f.filled
