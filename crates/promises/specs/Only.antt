-- A contract that allows one outcome: what it lets a caller know of a call fixes what the call returns and what it leaves.
-- Assumes nothing.
use Rattle.std.specs.Prelude.{◌≡◌, List, ℕ}
use borrow.Fn.Kinds.{ParamKind, ResultKind, Dens, Out, res_t, ended_of}
use contract.Lifetimes.{Lfts}
use denote.Triple.Clauses.{AtExit}

-- of n lifetimes, the parameters ps and the result r: `Allowed` is the contract, a claim on input, answer and the parameters at exit
module _ (n : ℕ) (ps : List (ParamKind n)) (r : ResultKind n) where
  -- any two answers that the contract allows for one input are equal
  abbrev pub OneAnswer : Out n ps r → Type 0
  OneAnswer Allowed =
      (κs : Lfts n) (input : Dens κs ps) (a b : (res_t r κs).Denot) (s t : AtExit (ended_of n ps r) κs) → Allowed κs input a s → Allowed κs input b t → a ≡ b

  -- where a part of what was lent is handed out: any two have the same bytes, and lie in the same place
  abbrev pub OnePart : ((κs : Lfts n) → (res_t r κs).Denot → List ℕ) → ((κs : Lfts n) → (res_t r κs).Denot → ℕ × ℕ) → Out n ps r → Type 0
  OnePart bytes place Allowed =
      (κs : Lfts n) (input : Dens κs ps) (a b : (res_t r κs).Denot) (s t : AtExit (ended_of n ps r) κs) → Allowed κs input a s → Allowed κs input b t
      → (bytes κs a ≡ bytes κs b) × (place κs a ≡ place κs b)

  -- of a list that is handed out, but for where it lies, or that stands in the answer: in any two it is the same list
  abbrev pub OneList : ((κs : Lfts n) → (res_t r κs).Denot → List ℕ) → Out n ps r → Type 0
  OneList list Allowed =
      (κs : Lfts n) (input : Dens κs ps) (a b : (res_t r κs).Denot) (s t : AtExit (ended_of n ps r) κs) → Allowed κs input a s → Allowed κs input b t → list κs a ≡ list κs b

  -- where a buffer is lent, of two contracts: an answer that the one allows and an answer that the other allows are equal, and so is what is left
  -- in the buffer
  abbrev pub SameOutcome : ((κs : Lfts n) → AtExit (ended_of n ps r) κs → List ℕ) → Out n ps r → Out n ps r → Type 0
  SameOutcome left Allowed Other =
      (κs : Lfts n) (input : Dens κs ps) (a b : (res_t r κs).Denot) (s t : AtExit (ended_of n ps r) κs) → Allowed κs input a s → Other κs input b t
      → (a ≡ b) × (left κs s ≡ left κs t)

  -- so are any two that the same contract allows
  abbrev pub OneOutcome : ((κs : Lfts n) → AtExit (ended_of n ps r) κs → List ℕ) → Out n ps r → Type 0
  OneOutcome left Allowed = SameOutcome left Allowed Allowed
