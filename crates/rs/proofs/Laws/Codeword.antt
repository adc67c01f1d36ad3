-- 254 bytes are a codeword exactly when they have the value 0 at the powers 0 to 5 of 2, so two codewords differ in at least seven places.
-- What a receiver divides has at these powers the values of what it was delivered. And which blocks are refused.
-- Assumes nothing.
use mathlib.Core.Path.{◌≡◌, refl, sym, ap, ap₂, ◌∙◌}
use mathlib.Core.List.{List, ◌++◌}
use mathlib.Core.Logic.{⊎_elim}
use mathlib.Core.Option.{none, some}
use Rattle.std.specs.Prelude.{Ok, Err}
use Prim.Native.Nat.{ℕ, ◌≤◌, ◌<◌}
use native.Mathlib.Omega.{arith}
use lib.ListN.{length, take, drop, length-append, length-drop, length-replicate, take-append-drop}
use lib.Seq.{drop_at, length-take-le}
use borrow.Author.Tests.{eq-eqb, ne_eqb, eqb-true}
use Rattle.refusal.specs.Number.{refusal_plain}
use Rattle.refusal.specs.declared.Reason.TheVariants.{Size}
use Rattle.refusal.specs.Checked.{refusal_in}
use Rattle.refusal.specs.declared.Refusal.{Refusal}
use Rattle.refusal.proofs.Laws.Chain.{require-passed, refusal-in-answer}
use Rattle.gf256.specs.Field.{◌⊕◌, ◌⊗◌, pow}
use Rattle.gf256.proofs.Laws.Sum.{⊕-self, ⊕-zero-l}
use Rattle.gf256.proofs.Laws.Product.{⊗-zero-r}
use Rattle.basics.proofs.Laws.Test.{lt-or-le}
use Rattle.rs.specs.Polynomial.{value_at, ◌⊞◌, zeros, ◌⊠◌}
use Rattle.rs.specs.Codeword.{G, parity_of, left_of, block_refusal, divided_of, Codeword}
use Rattle.basics.specs.Below.{Bytes}
use Rattle.rs.specs.Decode.{changes}
use Rattle.rs.proofs.Laws.Polynomial.{length-⊞, ⊞-self, ⊞-zero-eq, value-⊞, value-append, value-above, value-moved, length-⊠, value-⊠}
use Rattle.basics.proofs.Laws.Below.{append-below, take_below}
use Rattle.rs.proofs.Laws.Division.{divisor-length, parity-length, parity-bytes, quotient-exists, divisor-root}
use Rattle.rs.proofs.Laws.Distance.{changes-via, changes-after, close-equal}

-- at a root of G the parity has the value of the data moved up by six powers
pub parity-value : (d : List ℕ) → Bytes d → (j : ℕ) → j < 6 → value_at (pow 2 j) (parity_of d) ≡ value_at (pow 2 j) d ⊗ pow (pow 2 j) 6
parity-value d x j h =
    let a : ℕ = pow 2 j in
    let (q, l, e) = quotient-exists d x in
    let p : 0 < length G = omega arith in
    let r : List ℕ = zeros (length d) ++ parity_of d in
    let s : length (q ⊠ G) ≡ length r = simp (length-append, length-replicate, parity-length) (omega (arith, length-⊠ q G p, divisor-length)) in
    let z : value_at a (q ⊠ G) ≡ 0 = value-⊠ a q G p ∙ ap (◌⊗◌ (value_at a q)) (divisor-root j h) ∙ ⊗-zero-r _ in
    sym (sym (value-moved a 6 d) ∙ ap (value_at a) e ∙ value-⊞ a (q ⊠ G) r s
    ∙ ap₂ ◌⊕◌ z (value-above a (length d) (parity_of d)) ∙ ⊕-zero-l _)

-- what a receiver divides: the parity of the data bytes, plus the six bytes that were delivered as parity
pub remainder-value : (d m : List ℕ) → length m ≡ 6 → Bytes d → (j : ℕ) → j < 6 → value_at (pow 2 j) (parity_of d ⊞ m) ≡ value_at (pow 2 j) (d ++ m)
remainder-value d m l x j h =
    value-⊞ (pow 2 j) (parity_of d) m (parity-length d ∙ sym l)
    ∙ ap (λ (z : ℕ). z ⊕ value_at (pow 2 j) m) (parity-value d x j h ∙ ap (λ (n : ℕ). value_at (pow 2 j) d ⊗ pow (pow 2 j) n) (sym l))
    ∙ sym (value-append (pow 2 j) d m)

pub parity-vanishes : (d : List ℕ) → Bytes d → (j : ℕ) → j < 6 → value_at (pow 2 j) (d ++ parity_of d) ≡ 0
parity-vanishes d x j h =
    sym (remainder-value d (parity_of d) (parity-length d) x j h) ∙ value-⊞ (pow 2 j) (parity_of d) (parity_of d) refl ∙ ⊕-self _

pub codeword-vanishes : (w : List ℕ) → Codeword w → (j : ℕ) → j < 6 → value_at (pow 2 j) w ≡ 0
codeword-vanishes w c j h =
    ap (value_at (pow 2 j)) (sym (take-append-drop 248 w) ∙ ap (◌++◌ (take 248 w)) c.parity)
    ∙ parity-vanishes (take 248 w) (take_below 256 248 w c.bytes) j h

-- ---- a block is refused exactly when it has another number of bytes than 254

pub block-passes : (l : List ℕ) → length l ≡ 254 → block_refusal l ≡ none
unfolding block_refusal
block-passes l n = rw (eq-eqb _ _ n) refl

pub passes-block : (l : List ℕ) → block_refusal l ≡ none → length l ≡ 254
unfolding block_refusal
passes-block l p = eqb-true _ _ (require-passed _ _ _ p).0

pub block_refused : (l : List ℕ) → (length l ≡ 254 → ⊥) → block_refusal l ≡ some (refusal_plain Size)
unfolding block_refusal
block_refused l n = rw (ne_eqb _ _ n) refl

-- ---- what the division leaves of a block

pub left-short : (l : List ℕ) → (length l ≡ 254 → ⊥) → left_of l ≡ zeros 6
unfolding left_of
left-short l n = rw (block_refused l n) refl

pub left-long : (l : List ℕ) → length l ≡ 254 → left_of l ≡ parity_of (take 248 l) ⊞ drop 248 l
unfolding left_of
left-long l n = rw (block-passes l n) refl

-- what a division answers
module _ (l : List ℕ) where
  pub divided-short : (length l ≡ 254 → ⊥) → divided_of l ≡ Err (refusal_plain Size)
  unfolding divided_of
  divided-short n = rw (block_refused l n) refl

  pub divided-long : length l ≡ 254 → divided_of l ≡ Ok (left_of l)
  unfolding divided_of
  divided-long n = rw (block-passes l n) refl

  -- and what its answer tells
  pub divided-refused : (why : Refusal) → divided_of l ≡ Err why → block_refusal l ≡ some why
  unfolding divided_of
  divided-refused why e = sym (refusal-in-answer (block_refusal l) (left_of l)) ∙ ap refusal_in e

  pub divided-passed : (rest : List ℕ) → divided_of l ≡ Ok rest → (length l ≡ 254) × (rest ≡ left_of l)
  unfolding divided_of
  divided-passed rest e =
      let n = passes-block l (sym (refusal-in-answer (block_refusal l) (left_of l)) ∙ ap refusal_in e) in
      (n, let d = divided-long n in cc)

module _ (l : List ℕ) (n : length l ≡ 254) where
  pub last-six : length (drop 248 l) ≡ 6
  last-six = length-drop 248 l ∙ omega arith

  pub as_long : length (parity_of (take 248 l)) ≡ length (drop 248 l)
  as_long = parity-length (take 248 l) ∙ sym last-six

  pub left-six : length (left_of l) ≡ 6
  left-six = ap length (left-long l n) ∙ length-⊞ _ _ as_long ∙ last-six

  -- it has the values of the block
  pub left-value : Bytes l → (j : ℕ) → j < 6 → value_at (pow 2 j) (left_of l) ≡ value_at (pow 2 j) l
  left-value b j h =
      ap (value_at (pow 2 j)) (left-long l n) ∙ remainder-value (take 248 l) (drop 248 l) last-six (take_below 256 248 l b) j h
      ∙ ap (value_at (pow 2 j)) (take-append-drop 248 l)

  -- it is 0 exactly where the block is a codeword
  pub zero-codeword : Bytes l → left_of l ≡ zeros 6 → Codeword l
  zero-codeword b z = record {
    long = n;
    bytes = b;
    parity = sym (⊞-zero-eq _ _ as_long (sym (left-long l n) ∙ z ∙ ap (λ (k : ℕ). zeros k) (sym last-six)));
  }

pub codeword-zero : (l : List ℕ) → Codeword l → left_of l ≡ zeros 6
codeword-zero l C =
    left-long l C.long ∙ ap (λ (m : List ℕ). parity_of (take 248 l) ⊞ m) C.parity ∙ ⊞-self _
    ∙ ap (λ (k : ℕ). zeros k) (parity-length (take 248 l))

-- ---- codewords are what vanishes, and no two are near each other

-- 254 bytes that are 0 at the six powers differ from the codeword of their data in the parity at most, so they are that codeword
pub vanishing-codeword : (w : List ℕ) → length w ≡ 254 → Bytes w → ((j : ℕ) → j < 6 → value_at (pow 2 j) w ≡ 0) → Codeword w
vanishing-codeword w e b s =
    let d : List ℕ = take 248 w in
    let n : length d ≡ 248 = length-take-le 248 w (omega arith) in
    let long : length (d ++ parity_of d) ≡ 254 = omega (arith, length-append d (parity_of d), parity-length d) in
    let one : w ≡ d ++ parity_of d =
    close-equal 6 w (d ++ parity_of d) (e ∙ sym long) (omega arith) b (append-below 256 d (parity_of d) (take_below 256 248 w b) (parity-bytes d))
    (omega (arith, changes-after 248 w (parity_of d), length-drop 248 w)) (λ j h. s j h ∙ sym (parity-vanishes d (take_below 256 248 w b) j h)) in
    record { long = e; bytes = b; parity = ap (drop 248) one ∙ drop_at d (parity_of d) 248 n }

-- two codewords that differ in at most six places are one
pub codewords-apart : (c w : List ℕ) → Codeword c → Codeword w → changes c w ≤ 6 → c ≡ w
codewords-apart c w C W h =
    close-equal 6 c w (C.long ∙ sym W.long) (omega (arith, W.long)) C.bytes W.bytes h
    (λ j i. codeword-vanishes c C j i ∙ sym (codeword-vanishes w W j i))

-- so two different ones differ in at least seven
pub codeword-distance : (c w : List ℕ) → Codeword c → Codeword w → (c ≡ w → ⊥) → 7 ≤ changes c w
codeword-distance c w C W n = ⊎_elim (λ h. absurd (n (codewords-apart c w C W (omega arith)))) (λ h. h) (lt-or-le (changes c w) 7)

pub codeword-unique : (r c w : List ℕ) → length r ≡ 254 → Codeword c → Codeword w → changes c r ≤ 3 → changes w r ≤ 3 → c ≡ w
codeword-unique r c w e C W hc hw =
    codewords-apart c w C W (omega (arith, changes-via c w r (C.long ∙ sym e) (W.long ∙ sym e)))
