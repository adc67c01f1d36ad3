-- The place of a refusal: the item's first byte for 11 to 14, the number of a data word for 7, that of a reserved byte for 15, else 0; and the bits
-- beside it for C.
-- Assumes nothing.
use Rattle.std.specs.Prelude.{◌≡◌, Bool, true, false, ◌&&◌, ◌||◌, ℕ, ◌≤◌, leb, eqb}
use mathlib.Core.List.{List, Memᴰ}
use Rattle.std.proofs.Math.Option.{Option, some}
use borrow.Fn.Kinds.{ParamKind, ResultKind, Dens, Out, res_t, ended_of}
use contract.Lifetimes.{Lfts}
use denote.Triple.Clauses.{AtExit}
use Rattle.refusal.specs.Number.{number_of}
use Rattle.refusal.specs.declared.Refusal.{Refusal}
use Rattle.items.specs.Items.{Row, items}

-- ---- the right place

-- is it the number of an item's rule, 11 to 14?
abbrev pub is_rule : ℕ → Bool
is_rule number = leb 11 number && leb number 14

-- an item of the table that is refused with this number has its first byte at this place
pub record ItemAt (number place : ℕ) : Type 0 where
  pub row : Row
  pub listed : Memᴰ row items
  pub reason : number_of row.reason ≡ number
  pub first : row.first ≡ place

-- is it 7, that of a data word?
abbrev pub is_word : ℕ → Bool
is_word number = eqb number 7

-- is it 15, that of the reserved area?
abbrev pub is_reserved : ℕ → Bool
is_reserved number = eqb number 15

-- place is the item's first byte for 11 to 14, the number of a data word, 1 to `last`, for 7, that of a reserved byte, 44 to 107, for 15, else 0;
-- number 0, where nothing is refused, is among the others. With `last` 0 there is no such word, and the number is not 7.
pub record RightPlace (last number place : ℕ) : Type 0 where
  pub of_item : is_rule number ≡ true → ItemAt number place
  pub of_word : is_word number ≡ true → (1 ≤ place) × (place ≤ last)
  pub of_area : is_reserved number ≡ true → (44 ≤ place) × (place ≤ 107)
  pub else_zero : (is_rule number || (is_word number || is_reserved number)) ≡ false → place ≡ 0

-- where there is a refusal, its place is right
pub record RightIn (last : ℕ) (o : Option Refusal) : Type 0 where
  pub right : (why : Refusal) → o ≡ some why → RightPlace last (number_of why.reason) why.place

-- for C: the bits are 1, 2 or 3 beside 7, else 0
pub record BitsBeside (number bits : ℕ) : Type 0 where
  pub of_word : is_word number ≡ true → (1 ≤ bits) × (bits ≤ 3)
  pub else_zero : is_word number ≡ false → bits ≡ 0

-- ---- of the calls

-- of n lifetimes, the parameters ps and the result r
module _ (n : ℕ) (ps : List (ParamKind n)) (r : ResultKind n) where
  -- where `Allowed`, the contract, lets an answer tell a refusal, its place is right
  abbrev pub PlacesRight : ℕ → ((κs : Lfts n) → (res_t r κs).Denot → Option Refusal) → Out n ps r → Type 0
  PlacesRight last refusal_in Allowed =
      (κs : Lfts n) (input : Dens κs ps) (a : (res_t r κs).Denot) (s : AtExit (ended_of n ps r) κs) → Allowed κs input a s → RightIn last (refusal_in κs a)

  -- for C: the number and the place of every answer that it allows are right
  abbrev pub AnswersRight : ℕ → ((κs : Lfts n) → (res_t r κs).Denot → ℕ) → ((κs : Lfts n) → (res_t r κs).Denot → ℕ) → Out n ps r → Type 0
  AnswersRight last number place Allowed =
      (κs : Lfts n) (input : Dens κs ps) (a : (res_t r κs).Denot) (s : AtExit (ended_of n ps r) κs) → Allowed κs input a s
      → RightPlace last (number κs a) (place κs a)

  -- for C: so are the number and the bits
  abbrev pub BitsRight : ((κs : Lfts n) → (res_t r κs).Denot → ℕ) → ((κs : Lfts n) → (res_t r κs).Denot → ℕ) → Out n ps r → Type 0
  BitsRight number bits Allowed =
      (κs : Lfts n) (input : Dens κs ps) (a : (res_t r κs).Denot) (s : AtExit (ended_of n ps r) κs) → Allowed κs input a s
      → BitsBeside (number κs a) (bits κs a)
