-- What repair gives: the codeword that differs from what was delivered in at most three of the 254 bytes, or none.
-- Assumes nothing.
use Rattle.std.specs.Prelude.{◌≡◌, Bool, true, false, cond, ◌&&◌, List, [], ◌∷◌, ◌++◌, map, ℕ, zero, suc, ◌+◌, ◌≤◌, eqb, ltb, length, take, drop}
use Rattle.std.proofs.Math.Option.{Option, none, some, get_or}
use Rattle.basics.specs.Each.{all, same}
use Rattle.refusal.specs.Chain.{require, next, passed}
use Rattle.refusal.specs.Number.{refusal_plain}
use Rattle.refusal.specs.declared.Reason.TheVariants.{BeyondRepair}
use Rattle.refusal.specs.declared.Refusal.{Refusal}
use Rattle.rs.specs.Codeword.{parity_of, block_refusal, Codeword}

-- in how many places two lists of one length differ
unfoldable pub changes : List ℕ → List ℕ → ℕ
changes [] m = 0
changes (a ∷ l) [] = 0
changes (a ∷ l) (b ∷ m) = cond (eqb a b) 0 1 + changes l m

-- c is a codeword within three places of r
pub record Within (r c : List ℕ) : Type 0 where
  pub word : Codeword c
  pub long : length c ≡ length r
  pub near : changes c r ≤ 3

-- is the number a byte?
abbrev pub is_byte : ℕ → Bool
is_byte b = ltb b 256

-- is the list a codeword?
unfoldable pub is_codeword : List ℕ → Bool
is_codeword w = eqb (length w) 254 && all is_byte w && same (drop 248 w) (parity_of (take 248 w))

-- each list that has a value below n in front of one of ls
unfoldable pub fronted : ℕ → List (List ℕ) → List (List ℕ)
fronted zero ls = []
fronted (suc n) ls = map (λ l. n ∷ l) ls ++ fronted n ls

-- every list that differs from l in at most k places without a mark. With no mark left: nothing is left to change; the end; the first byte
-- kept, or any byte there and one place fewer to change. With marks: the end; a marked byte, which may be any byte and costs nothing; the first byte
-- kept since nothing is left to change; the first byte kept, or any byte there and one place fewer to change
unfoldable pub near : List Bool → ℕ → List ℕ → List (List ℕ)
near [] zero l = l ∷ []
near [] (suc k) [] = [] ∷ []
near [] (suc k) (b ∷ l) = map (λ m. b ∷ m) (near [] (suc k) l) ++ fronted 256 (near [] k l)
near (mark ∷ marks) k [] = [] ∷ []
near (true ∷ marks) k (b ∷ l) = fronted 256 (near marks k l)
near (false ∷ marks) zero (b ∷ l) = map (λ m. b ∷ m) (near marks zero l)
near (false ∷ marks) (suc k) (b ∷ l) = map (λ m. b ∷ m) (near marks (suc k) l) ++ fronted 256 (near marks k l)

-- the first list that is a codeword
unfoldable pub first_codeword : List (List ℕ) → Option (List ℕ)
first_codeword [] = none
first_codeword (w ∷ ws) = cond (is_codeword w) (some w) (first_codeword ws)

-- is a list given?
abbrev pub given : Option (List ℕ) → Bool
given none = false
given (some w) = true

-- the codeword within three places of what was delivered
unfoldable pub decode : List ℕ → Option (List ℕ)
decode delivered = first_codeword (near [] 3 delivered)

-- is there one?
unfoldable pub repairable : List ℕ → Bool
repairable delivered = given (decode delivered)

-- the codeword, or where there is none what was delivered
unfoldable pub repaired : List ℕ → List ℕ
repaired delivered = get_or (decode delivered) delivered

-- repair of a block of bytes: 21, 9
unfoldable pub decode_refusal : List ℕ → Option Refusal
decode_refusal block = next (block_refusal block) (require (repairable block) (refusal_plain BeyondRepair) passed)
