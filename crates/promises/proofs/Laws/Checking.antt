-- A receiver that checks and never repairs: when the check gives each answer; that a packet as it was written passes; that two codewords with
-- different data differ in at least seven bytes, so that no one to six changed bytes pass; and that seven is exact.
-- Assumes nothing.
use mathlib.Core.Path.{◌≡◌, refl, ap}
use mathlib.Core.Bool.{Bool, true, false}
use mathlib.Core.List.{List, ◌++◌}
use Prim.Native.Nat.{ℕ, ◌≤◌}
use native.Mathlib.Omega.{arith}
use Rattle.anc.specs.Words.{low_bytes}
use Rattle.std.specs.Prelude.{Result, Ok}
use Rattle.refusal.specs.declared.Refusal.{Refusal}
use Rattle.rs.specs.Polynomial.{zeros}
use Rattle.rs.specs.Codeword.{G, Codeword}
use Rattle.rs.specs.Decode.{changes}
use Rattle.rs.specs.Check.{verdict_of}
use Rattle.rs.proofs.Laws.Distance.{changes-self}
use Rattle.rs.proofs.Laws.Codeword.{codewords-apart, codeword-distance}
use Rattle.rs.proofs.Laws.Check.{codeword-yes, other-no, short-refused, yes-codeword, no_other, refused-short, zeros-codeword, divisor-codeword, seven-apart, other-data}
use Rattle.reading.specs.Reading.{protected_of}
use Rattle.promises.specs.PacketCalls.{ChecksCodeword, Writes}
use Rattle.promises.specs.Checking.{ThreeAnswers, data_of, Changed}
use Rattle.promises.proofs.Laws.PacketCalls.{checks-codeword-is}
use Rattle.promises.proofs.Laws.Packets.{written-protected}

-- ---- the answers

three : (block : List ℕ) → ThreeAnswers block (verdict_of block)
three block = record {
  says_yes = (yes-codeword block, codeword-yes block);
  says_no = (no_other block, λ (n, c). other-no block n c);
  refuses = (refused-short block, short-refused block);
}

pub check-three : (block : List ℕ) (a : Result Bool Refusal) → ChecksCodeword block a → ThreeAnswers block a
check-three block a K = rw (checks-codeword-is block a K) (three block)

-- yes to the bytes that the protected words of a packet carry, as it was written with correction on
pub check-written : (ci : ℕ) (bytes old words : List ℕ) → Writes true ci bytes old (Ok tt) words → (a : Result Bool Refusal) → ChecksCodeword (low_bytes (protected_of words)) a → a ≡ Ok true
check-written ci bytes old words W a K = (check-three _ a K).says_yes.1 (written-protected true ci bytes old words W refl)

-- ---- what a yes is worth

-- two codewords whose data differ somewhere differ in at least seven of the 254 bytes,
pub data-apart : (c w : List ℕ) → Codeword c → Codeword w → (data_of c ≡ data_of w → ⊥) → 7 ≤ changes c w
data-apart c w C W n = codeword-distance c w C W (λ e. n (ap data_of e))

-- and so do two blocks to which the check answers yes
pub check-apart : (c w : List ℕ) → ChecksCodeword c (Ok true) → ChecksCodeword w (Ok true) → (data_of c ≡ data_of w → ⊥) → 7 ≤ changes c w
check-apart c w C W = data-apart c w ((check-three c (Ok true) C).says_yes.0 refl) ((check-three w (Ok true) W).says_yes.0 refl)

-- a codeword with one to six bytes changed in any way is no codeword,
pub changed-other : (sent arrived : List ℕ) → Codeword sent → Changed sent arrived → Codeword arrived → ⊥
changed-other sent arrived C x A =
    let same : arrived ≡ sent = codewords-apart arrived sent A C x.at_most in
    let unchanged : changes arrived sent ≡ 0 = rw same (changes-self sent) in
    omega (arith, x.at_least)

-- and the check answers no
pub check-changed : (sent arrived : List ℕ) → Codeword sent → Changed sent arrived → (a : Result Bool Refusal) → ChecksCodeword arrived a → a ≡ Ok false
check-changed sent arrived C x a K = (check-three arrived a K).says_no.1 (x.long, changed-other sent arrived C x)

-- seven is exact: yes to 254 zeros and to the coefficients of G behind 247 zeros, whose data differ, and they differ in seven places
pub check-seven : (a b : Result Bool Refusal) → ChecksCodeword (zeros 254) a → ChecksCodeword (zeros 247 ++ G) b
    → (a ≡ Ok true) × (b ≡ Ok true) × (data_of (zeros 254) ≡ data_of (zeros 247 ++ G) → ⊥) × (changes (zeros 254) (zeros 247 ++ G) ≡ 7)
check-seven a b A B = ((check-three _ a A).says_yes.1 zeros-codeword, (check-three _ b B).says_yes.1 divisor-codeword, other-data, seven-apart)
