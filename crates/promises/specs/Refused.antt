-- A call that refuses: what it was lent is as it was.
-- Assumes nothing.
use Rattle.std.specs.Prelude.{◌≡◌, List, ℕ}
use Rattle.std.proofs.Math.Option.{Option, some}
use borrow.Fn.Kinds.{ParamKind, ResultKind, Dens, Out, res_t, ended_of}
use contract.Lifetimes.{Lfts}
use denote.Triple.Clauses.{AtExit}
use Rattle.refusal.specs.declared.Refusal.{Refusal}

-- ---- which answers are refusals

-- one in which a refusal is found
abbrev pub Tells : {A : Type 0} → (A → Option Refusal) → A → Type 0
Tells refusal_in a = (why : Refusal) × (refusal_in a ≡ some why)

-- for C, one whose number is not 0
abbrev pub NotZero : ℕ → Type 0
NotZero number = number ≡ 0 → ⊥

-- ---- what is kept

-- of n lifetimes, the parameters ps and the result r
module _ (n : ℕ) (ps : List (ParamKind n)) (r : ResultKind n) where
  -- the answers that are refusals
  abbrev pub Refusals : Type 1
  Refusals = (κs : Lfts n) → (res_t r κs).Denot → Type 0

  -- what a lent buffer held before the call, by the call's input
  abbrev pub Entered : Type 0
  Entered = (κs : Lfts n) → Dens κs ps → List ℕ

  -- what it holds after the call, by the parameters at exit
  abbrev pub Left : Type 0
  Left = (κs : Lfts n) → AtExit (ended_of n ps r) κs → List ℕ

  -- where `Allowed`, the contract, lets the answer be a refusal, the buffer holds what it held
  abbrev pub RefusedKeeps : Refusals → Entered → Left → Out n ps r → Type 0
  RefusedKeeps Refuses entered left Allowed =
      (κs : Lfts n) (input : Dens κs ps) (a : (res_t r κs).Denot) (s : AtExit (ended_of n ps r) κs) → Allowed κs input a s → Refuses κs a
      → left κs s ≡ entered κs input
