-- What repair gives where some of the 254 bytes are marked, since they are known to be bad. With f marks, and e for the number of other bytes that
-- differ from a codeword: the codeword with 2e + f at most 6; where there is none, the one that repair gives without the marks.
-- Assumes nothing.
use Rattle.std.specs.Prelude.{◌≡◌, Bool, true, false, cond, List, [], ◌∷◌, ℕ, ◌+◌, ◌-◌, ◌*◌, ◌/◌, ◌≤◌, eqb, leb, length}
use Rattle.std.proofs.Math.Option.{Option, none, some, get_or}
use Rattle.rs.specs.Codeword.{Codeword}
use Rattle.rs.specs.Decode.{near, first_codeword, given, decode}

-- f: how many places are marked
unfoldable pub marks_in : List Bool → ℕ
marks_in [] = 0
marks_in (mark ∷ marks) = cond mark 1 0 + marks_in marks

-- e: in how many places without a mark two lists of one length differ; where the marks end, there are no more of them
unfoldable pub errors : List Bool → List ℕ → List ℕ → ℕ
errors marks [] m = 0
errors marks (a ∷ l) [] = 0
errors [] (a ∷ l) (b ∷ m) = cond (eqb a b) 0 1 + errors [] l m
errors (true ∷ marks) (a ∷ l) (b ∷ m) = errors marks l m
errors (false ∷ marks) (a ∷ l) (b ∷ m) = cond (eqb a b) 0 1 + errors marks l m

-- 2e + f
abbrev pub cost : List Bool → List ℕ → List ℕ → ℕ
cost marks c r = 2 * errors marks c r + marks_in marks

-- c is a codeword with 2e + f at most 6 against r
pub record WithinMarked (marks : List Bool) (r c : List ℕ) : Type 0 where
  pub word : Codeword c
  pub long : length c ≡ length r
  pub near : cost marks c r ≤ 6

-- the first rule, for at most six marks: the codeword with 2e + f at most 6
unfoldable pub decode_marked : List Bool → List ℕ → Option (List ℕ)
decode_marked marks delivered = cond (leb (marks_in marks) 6) (first_codeword (near marks ((6 - marks_in marks) / 2) delivered)) none

-- what the first gives, and where that is none what the second gives
abbrev pub or_else : Option (List ℕ) → Option (List ℕ) → Option (List ℕ)
or_else none second = second
or_else (some w) second = some w

-- both rules
unfoldable pub decode_both : List Bool → List ℕ → Option (List ℕ)
decode_both marks delivered = or_else (decode_marked marks delivered) (decode delivered)

-- is there a codeword by either rule?
unfoldable pub repairable_marked : List Bool → List ℕ → Bool
repairable_marked marks delivered = given (decode_both marks delivered)

-- the codeword, or where there is none what was delivered
unfoldable pub repaired_marked : List Bool → List ℕ → List ℕ
repaired_marked marks delivered = get_or (decode_both marks delivered) delivered
