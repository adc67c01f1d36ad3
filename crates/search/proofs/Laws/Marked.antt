-- What repair of 254 bytes with the words that carried them is refused for, and what it leaves.
-- Assumes nothing.
use mathlib.Core.Path.{◌≡◌, refl, sym, ap, ◌∙◌}
use mathlib.Core.Bool.{Bool, true}
use mathlib.Core.List.{List}
use mathlib.Core.Option.{Option, none, some, get_or}
use Prim.Native.Nat.{ℕ}
use borrow.Author.Tests.{eq-eqb}
use lib.Dec.{eqb}
use lib.ListN.{length}
use Rattle.std.specs.Prelude.{Ok, Err}
use Rattle.refusal.specs.Chain.{require, passed, left_by}
use Rattle.refusal.specs.Checked.{checked_of}
use Rattle.refusal.proofs.Laws.Chain.{require-refused}
use Rattle.refusal.specs.Number.{refusal_plain}
use Rattle.refusal.specs.declared.Reason.TheVariants.{Size, BeyondRepair}
use Rattle.refusal.specs.declared.Refusal.{Refusal}
use Rattle.rs.specs.Codeword.{block_refusal, Codeword}
use Rattle.rs.specs.Decode.{given}
use Rattle.rs.specs.Marked.{decode_both, repairable_marked, repaired_marked}
use Rattle.rs.proofs.Laws.Codeword.{block-passes}
use Rattle.rs.proofs.Laws.Marked.{both-self}
use Rattle.search.specs.Marked.{confessed, marked_refusal, marked_leaves}
use Rattle.search.proofs.Laws.First.{AnswerBoth, given-answer}

-- where no codeword is given, what was there stays
left-either : (o : Option (List ℕ)) (block : List ℕ) → left_by (require (given o) (refusal_plain BeyondRepair) passed) (get_or o block) block ≡ get_or o block
left-either none block = refl
left-either (some c) block = refl

module _ (words block : List ℕ) where
  -- what is refused stays as it was
  pub refused-keeps-marked : (why : Refusal) → marked_refusal words block ≡ some why → marked_leaves words block ≡ block
  unfolding marked_leaves
  refused-keeps-marked why e = ap (λ (o : Option Refusal). left_by o (repaired_marked (confessed words) block) block) e

  module _ (n : length words ≡ 254) (m : length block ≡ 254) where
    -- of 254 words and 254 bytes, whether there is a codeword by either rule decides
    pub marked-decides : marked_refusal words block ≡ require (repairable_marked (confessed words) block) (refusal_plain BeyondRepair) passed
    unfolding marked_refusal
    marked-decides = rw (eq-eqb (length words) 254 n, block-passes block m)

    -- the codeword is left, or where there is none the bytes
    pub marked-leaves : marked_leaves words block ≡ repaired_marked (confessed words) block
    unfolding marked_leaves repairable_marked repaired_marked
    marked-leaves =
        ap (λ (o : Option Refusal). left_by o (repaired_marked (confessed words) block) block) marked-decides ∙ left-either (decode_both (confessed words) block) block

  -- ---- what repair says and leaves

  -- another number of words is refused
  pub short-words : (why : Refusal) → require (eqb (length words) 254) (refusal_plain Size) passed ≡ some why
      → (Err why ≡ checked_of (marked_refusal words block)) × (block ≡ marked_leaves words block)
  unfolding marked_refusal
  short-words why r =
      let e : marked_refusal words block ≡ some why = require-refused (eqb (length words) 254) (refusal_plain Size) why _ r in
      (sym (ap checked_of e), sym (refused-keeps-marked why e))

  module _ (n : length words ≡ 254) where
    -- and another number of bytes
    pub short-bytes : (why : Refusal) → block_refusal block ≡ some why → (Err why ≡ checked_of (marked_refusal words block)) × (block ≡ marked_leaves words block)
    unfolding marked_refusal
    short-bytes why o =
        let e : marked_refusal words block ≡ some why = rw (eq-eqb (length words) 254 n, o) refl in
        (sym (ap checked_of e), sym (refused-keeps-marked why e))

    -- of 254 bytes it is said whether there is a codeword by either rule
    pub settled : length block ≡ 254 → (r : Bool) (after : List ℕ) → AnswerBoth (confessed words) block r after
        → (checked_of (require r (refusal_plain BeyondRepair) passed) ≡ checked_of (marked_refusal words block)) × (after ≡ marked_leaves words block)
    settled m r after A = (
      ap (λ (b : Bool). checked_of (require b (refusal_plain BeyondRepair) passed)) A.said ∙ sym (ap checked_of (marked-decides n m)),
      A.left ∙ sym (marked-leaves n m),
    )

    -- a codeword passes
    pub whole : Codeword block → (Ok tt ≡ checked_of (marked_refusal words block)) × (block ≡ marked_leaves words block)
    whole C = settled C.long true block (given-answer (confessed words) block block (both-self (confessed words) block C))
