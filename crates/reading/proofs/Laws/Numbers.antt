-- Which numbers the parts of reading do not refuse with.
-- Assumes nothing.
use mathlib.Core.Path.{◌≡◌, refl}
use mathlib.Core.Bool.{true, false}
use mathlib.Core.List.{List}
use Prim.Native.Nat.{ℕ, ◌<◌}
use native.Mathlib.Omega.{arith}
use borrow.Author.Tests.{ne_eqb, leb-true}
use lib.Dec.{leb, eqb}
use Rattle.basics.specs.Each.{all}
use Rattle.anc.specs.Word.{checksum_of}
use Rattle.refusal.specs.Chain.{require, passed}
use Rattle.refusal.specs.Number.{number_of, refusal_plain}
use Rattle.refusal.specs.declared.Reason.TheVariants.{Checksum, Room}
use Rattle.refusal.proofs.Laws.Chain.{Without, without-passed, without-require, without}
use Rattle.record.specs.Record.{content_refusal}
use Rattle.record.proofs.Laws.Reserved.{content-without}
use Rattle.items.specs.Items.{items}
use Rattle.reading.specs.Reading.{word, summed_of, read_bytes, head_refusal}

-- a number up to 6 is none above it, and one from 10 on none below it
up-to-six : (n : ℕ) → 6 < n → (m : ℕ) → leb m 6 ≡ true → eqb m n ≡ false
up-to-six n h m t = ne_eqb m n (λ e. omega (arith, leb-true m 6 t))

from-ten : (n : ℕ) → n < 10 → (m : ℕ) → leb 10 m ≡ true → eqb m n ≡ false
from-ten n h m t = ne_eqb m n (λ e. omega (arith, leb-true 10 m t))

-- the words up to the header
pub head-without : (n : ℕ) → 6 < n → (ws : List ℕ) → Without n (head_refusal ws)
unfolding head_refusal number_of
head-without n h ws = search (without, up-to-six n h) depth 9

-- what is in the bytes
bytes-without : (n : ℕ) → n < 10 → (bytes : List ℕ) → Without n (content_refusal bytes)
unfolding items all number_of
bytes-without n h bytes = content-without n (leb 10) (from-ten n h) bytes refl refl

-- the checksum, and then what is in the bytes
pub tail-without : (n : ℕ) → n < 10 → (ws : List ℕ)
    → Without n (require (eqb (checksum_of (summed_of ws)) (word ws 261)) (refusal_plain Checksum) (content_refusal (read_bytes ws)))
unfolding number_of
tail-without n h ws = search (without, bytes-without n h, from-ten n h)

-- the room
pub room-without : (n : ℕ) → eqb 23 n ≡ false → (room : ℕ) → Without n (require (eqb room 248) (refusal_plain Room) passed)
unfolding number_of
room-without n d room = without-require (eqb room 248) _ d without-passed
