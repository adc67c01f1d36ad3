-- What packing accepts, and what its answers say.
-- Assumes nothing.
use mathlib.Core.Path.{◌≡◌}
use mathlib.Core.Bool.{true}
use mathlib.Core.List.{List}
use mathlib.Core.Option.{none}
use Prim.Native.Nat.{ℕ}
use borrow.Author.Tests.{eqb-true}
use lib.ListN.{length, take}
use Rattle.refusal.proofs.Laws.Chain.{require-passed, refusal-in}
use Rattle.anc.specs.Words.{flag, narrow}
use Rattle.anc.proofs.Laws.Words.{flag-words}
use Rattle.refusal.specs.Checked.{refusal_in}
use Rattle.b40.specs.Field.{is_place}
use Rattle.b40.specs.Packing.{pack_refusal, packed_of}

-- what packing accepts
pub record Accepts (line offset : ℕ) (words : List ℕ) (room : ℕ) : Type 0 where
  pub long : length words ≡ 262
  pub tens : narrow words ≡ true
  pub flagged : take 3 words ≡ flag
  pub place : is_place line offset ≡ true
  pub roomy : room ≡ 328

pub accepts : (line offset : ℕ) (words : List ℕ) (room : ℕ) → pack_refusal line offset words room ≡ none → Accepts line offset words room
unfolding pack_refusal
accepts line offset words room ok =
    let a = require-passed _ _ _ ok in
    let b = require-passed _ _ _ a.1 in
    let d = require-passed _ _ _ b.1 in
    let p = require-passed _ _ _ d.1 in
    record {
      long = eqb-true (length words) 262 a.0;
      tens = b.0;
      flagged = flag-words words d.0;
      place = p.0;
      roomy = eqb-true room 328 (require-passed _ _ _ p.1).0;
    }

-- the refusal that an answer tells is the one that the rules give
pub refusal-said : (line offset : ℕ) (words : List ℕ) (room : ℕ) → refusal_in (packed_of line offset words room) ≡ pack_refusal line offset words room
unfolding packed_of
refusal-said line offset words room = refusal-in (pack_refusal line offset words room)
