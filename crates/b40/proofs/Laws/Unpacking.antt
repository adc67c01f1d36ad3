-- What unpacking answers and leaves by its checks, and what its answers say.
-- Assumes nothing.
use mathlib.Core.Path.{◌≡◌, refl, sym, ap, ◌∙◌}
use mathlib.Core.Bool.{Bool, true, ◌&&◌}
use mathlib.Core.List.{List}
use mathlib.Core.Option.{Option, none, some}
use Prim.Native.Nat.{ℕ, ◌+◌, ◌/◌, ◌%◌, ◌^◌}
use native.Mathlib.Omega.{arith}
use borrow.Author.Tests.{eqb-true}
use lib.Dec.{eqb}
use lib.ListN.{length}
use lib.Pow.{shr_mod}
use Rattle.refusal.specs.Checked.{answer_of, refusal_in}
use Rattle.refusal.specs.declared.Refusal.{Refusal}
use Rattle.refusal.proofs.Laws.Chain.{require-passed, refusal-in-answer}
use Rattle.basics.proofs.Laws.Test.{both_true}
use Rattle.b40.specs.declared.Head.{Head}
use Rattle.b40.specs.Field.{part, yc_of, line_of, offset_of, is_place}
use Rattle.b40.specs.Unpacking.{head_in, unpack_refusal, head_of, unpacked_of}
use Rattle.b40.proofs.Laws.Places.{first_part, first-lt}

module _ (field : List ℕ) (first : ℕ) (n : length field ≡ 328) (e : first ≡ part field 0 32) where
  -- by the number that the first 32 bits spell
  read : (o m s : ℕ) → o + m + s ≡ 32 → first / 2 ^ s % 2 ^ m ≡ part field o m
  read o m s h = ap (λ (x : ℕ). x / 2 ^ s % 2 ^ m) e ∙ first_part field (omega arith) o m s h

  -- the first six need no remainder
  zeros-read : first / 67108864 ≡ part field 0 6
  zeros-read = sym (shr_mod 6 26 (first-lt field first (omega arith) e)) ∙ read 0 6 26 refl

  -- the test of the head, as it is computed
  pub head-tested : (place : Bool) → place ≡ is_place (first / 16384 % 2048) (first / 4 % 4096)
      → (eqb (first / 67108864) 0 && place) ≡ (eqb (part field 0 6) 0 && is_place (line_of field) (offset_of field))
  unfolding line_of offset_of
  head-tested place p = rw (p, zeros-read, read 7 11 14 refl, read 18 12 2 refl)

  pub head_read : ◌≡◌ {A = Head}
      (record { yc = eqb (first / 33554432 % 2) 1; line = first / 16384 % 2048; offset = first / 4 % 4096 })
      (head_of field)
  unfolding head_of yc_of line_of offset_of
  head_read = λ i. record { yc = eqb (read 6 1 25 refl i) 1; line = read 7 11 14 refl i; offset = read 18 12 2 refl i }

-- what unpacking accepts
pub record Holds (field : List ℕ) (room : ℕ) : Type 0 where
  pub long : length field ≡ 328
  pub zeros : part field 0 6 ≡ 0
  pub place : is_place (line_of field) (offset_of field) ≡ true
  pub roomy : room ≡ 262

pub holds : (field : List ℕ) (room : ℕ) → unpack_refusal field room ≡ none → Holds field room
unfolding unpack_refusal
holds field room ok =
    let a = require-passed _ _ _ ok in
    let b = require-passed _ _ _ a.1 in
    let d = both_true (eqb (part field 0 6) 0) (is_place (line_of field) (offset_of field)) b.0 in
    record {
      long = eqb-true (length field) 328 a.0;
      zeros = eqb-true (part field 0 6) 0 d.0;
      place = d.1;
      roomy = eqb-true room 262 (require-passed _ _ _ b.1).0;
    }

-- ---- what the answers say

-- the refusal that an answer tells is the one that the rules give
pub refusal-said : (field : List ℕ) (room : ℕ) → refusal_in (unpacked_of field room) ≡ unpack_refusal field room
unfolding unpacked_of
refusal-said field room = refusal-in-answer (unpack_refusal field room) (head_of field)

-- where they give none it tells the head
pub head-said : (field : List ℕ) (room : ℕ) → unpack_refusal field room ≡ none → head_in (unpacked_of field room) ≡ some (head_of field)
unfolding unpacked_of
head-said field room e = ap (λ (o : Option Refusal). head_in (answer_of o (head_of field))) e
