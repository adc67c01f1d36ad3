-- The sum of low nine bits over a list that is cut, or read word by word, and the checksum made of it.
-- Assumes nothing.
use Rattle.std.proofs.Common.{◌≡◌, ℕ, ◌+◌, ◌%◌, ◌^◌, ◌<◌, List, [], ◌∷◌, ◌++◌, length, get_or, take, drop, sym, ap, ◌∙◌, add-zero, add_assoc, mod-lt, zero-add, add-one, arith, take-append-drop, take-suc}
use native.Mathlib.Nat.{add-mod, mod-add-mod}
use lib.Pow.{mod-mod-pow}
use Rattle.anc.specs.Word.{with_b9, total, checksum_of}

-- ---- the sum

-- of two lists in a row
pub total-append : (xs ys : List ℕ) → total (xs ++ ys) ≡ total xs + total ys
unfolding total
total-append [] ys = sym (zero-add _)
total-append (x ∷ xs) ys = rw (total-append xs ys) (sym (add_assoc _ _ _))

-- of a list cut in two
pub total-cut : (i : ℕ) (ws : List ℕ) → total (take i ws) + total (drop i ws) ≡ total ws
total-cut i ws = sym (total-append (take i ws) (drop i ws)) ∙ ap total (take-append-drop i ws)

-- of the words read so far, and one more
pub total-more : (ws : List ℕ) (i : ℕ) → i < length ws → total (take (i + 1) ws) ≡ total (take i ws) + get_or ws i 0 % 512
unfolding total
total-more ws i h = rw (add-one, take-suc ws i 0, total-append) (ap (λ (k : ℕ). total (take i ws) + k) (add-zero _))

-- a sum of whole words that wraps at 65,536 has the same low nine bits
pub wrap-more : (s t w : ℕ) → s % 512 ≡ t % 512 → (s + w) % 2 ^ 16 % 512 ≡ (t + w % 512) % 512
wrap-more s t w same =
    mod-mod-pow (s + w) 7 9
    ∙ add-mod s w 512
    ∙ ap (λ (n : ℕ). (n + w % 512) % 512) same
    ∙ mod-add-mod t 512 (w % 512)

-- ---- nine bits with b9

-- they make a number of ten bits
pub with_b9-lt : (n : ℕ) → n < 512 → with_b9 n < 1024
unfolding with_b9
with_b9-lt n h = omega arith

-- and stay as its low nine
pub with_b9-low : (n : ℕ) → n < 512 → with_b9 n % 512 ≡ n
unfolding with_b9
with_b9-low n h = omega arith

-- ---- the checksum

-- of a list cut in two, by the two sums
pub checksum-append : (xs ys : List ℕ) → checksum_of (xs ++ ys) ≡ with_b9 ((total xs + total ys) % 512)
unfolding checksum_of
checksum-append xs ys = ap (λ (n : ℕ). with_b9 (n % 512)) (total-append xs ys)

-- it has ten bits
pub checksum-lt : (ws : List ℕ) → checksum_of ws < 1024
unfolding checksum_of
checksum-lt ws = with_b9-lt (total ws % 512) (mod-lt _ (omega arith))

-- its low nine bits are those of the sum
pub checksum-low : (ws : List ℕ) → checksum_of ws % 512 ≡ total ws % 512
unfolding checksum_of
checksum-low ws = with_b9-low (total ws % 512) (mod-lt _ (omega arith))
