-- The parts of reading joined: the chain of checks behind the header, the whole chain, and what reading answers and leaves.
-- Assumes nothing.
use mathlib.Core.Path.{◌≡◌, refl, sym, ap, ap₂, ◌∙◌}
use mathlib.Core.Bool.{Bool, true, false, cond}
use mathlib.Core.List.{List, ◌++◌}
use mathlib.Core.Option.{Option, none, some}
use Prim.Native.Nat.{ℕ}
use native.Mathlib.Omega.{arith}
use borrow.Author.Tests.{eqb-true, eq-eqb}
use lib.Dec.{eqb}
use lib.ListN.{length, take, drop}
use lib.Seq.{length-take-le}
use Rattle.refusal.specs.Chain.{require, next}
use Rattle.refusal.specs.Number.{refusal_plain}
use Rattle.refusal.specs.declared.Refusal.{Refusal}
use Rattle.refusal.specs.declared.Reason.TheVariants.{Room}
use Rattle.refusal.proofs.Laws.Chain.{require-passed, next-passed, refusal-in-answer, told}
use Rattle.rs.specs.Decode.{changes}
use Rattle.record.specs.Record.{content_refusal, record_of, record_refusal}
use Rattle.std.specs.Prelude.{Result, Ok, Err}
use Rattle.refusal.specs.Checked.{Checked, answer_of, checked_of, refusal_in}
use Rattle.record.specs.Written.{written_refusal, written}
use Rattle.repair.specs.Protected.{repaired, rewritten, fixed_of}
use Rattle.anc.specs.Words.{sound_words}
use Rattle.refusal.specs.Chain.{left_by}
use Rattle.reading.specs.Reading.{correction_of, index_of, protected_of, read_words, read_bytes, summed_of, read_fixed, head_refusal, protected_refusal, body_refusal, read_refusal, read_into_refusal, read_record}
use Rattle.reading.specs.Answer.{guard_bytes, summed_by, packet_by, tail_refusal, packet_in, packet_of, reading_of, reading_into_of, read_leaves}
use Rattle.reading.specs.declared.Packet.{Packet}
use Rattle.anc.proofs.Laws.Words.{low-words}
use Rattle.repair.proofs.Laws.Repair.{repaired-bytes}
use Rattle.record.proofs.Laws.Reserved.{content-decides}
use Rattle.reading.proofs.Laws.Reader.{guard_bytes-length}
use Rattle.reading.proofs.Laws.Again.{accepted-parts, length_part}

-- ---- the bytes that are read stand for the words that are read

sound-guard : (q : List ℕ) → sound_words (guard_bytes true q) ≡ rewritten q
unfolding guard_bytes rewritten
sound-guard q = ap sound_words (low-words (repaired q) (repaired-bytes q))

summed-guard : (ws : List ℕ) → summed_by (correction_of ws) ws (guard_bytes (correction_of ws) (protected_of ws)) ≡ summed_of ws
unfolding summed_by summed_of read_words
summed-guard ws = ap (λ (l : List ℕ). take 4 (drop 3 ws) ++ l) (go (correction_of ws))
  where
    go : (on : Bool) → cond on (sound_words (guard_bytes on (protected_of ws))) (protected_of ws) ≡ cond on (rewritten (protected_of ws)) (protected_of ws)
    go true = sound-guard (protected_of ws)
    go false = refl

-- the first 248 of them are the data bytes that are read
pub data-guard : (ws : List ℕ) → take 248 (guard_bytes (correction_of ws) (protected_of ws)) ≡ read_bytes ws
unfolding guard_bytes read_bytes read_words
data-guard ws = refl

data-rules : (ws : List ℕ) → length ws ≡ 262 → record_refusal (take 248 (guard_bytes (correction_of ws) (protected_of ws))) ≡ content_refusal (read_bytes ws)
data-rules ws n =
    let g : List ℕ = guard_bytes (correction_of ws) (protected_of ws) in
    content-decides (take 248 g) (length-take-le 248 g (omega (arith, guard_bytes-length (correction_of ws) (protected_of ws), length_part ws n))) ∙ ap (content_refusal) (data-guard ws)

-- ---- behind the header

body-cut : (ws : List ℕ) → length ws ≡ 262
    → body_refusal ws ≡ next (protected_refusal (correction_of ws) (protected_of ws)) (tail_refusal ws (correction_of ws) (guard_bytes (correction_of ws) (protected_of ws)))
unfolding body_refusal tail_refusal
body-cut ws n = sym (rw (summed-guard ws, data-rules ws n) refl)

module _ (ws : List ℕ) (on : Bool) (g : Checked) (n : length ws ≡ 262) (eo : on ≡ correction_of ws) (eg : g ≡ checked_of (protected_refusal on (protected_of ws))) where
  same : protected_refusal (correction_of ws) (protected_of ws) ≡ protected_refusal on (protected_of ws)
  same = ap (λ (b : Bool). protected_refusal b (protected_of ws)) (sym eo)

  pub body-passed : (bytes : List ℕ) (t : Checked) → bytes ≡ guard_bytes on (protected_of ws) → g ≡ Ok tt → t ≡ checked_of (tail_refusal ws on bytes) → t ≡ checked_of (body_refusal ws)
  body-passed bytes t eb p et =
      et ∙ ap₂ (λ (b : Bool) (l : List ℕ). checked_of (tail_refusal ws b l)) eo (eb ∙ ap (λ (b : Bool). guard_bytes b (protected_of ws)) eo)
      ∙ sym (ap checked_of (body-cut ws n ∙ ap (λ (o : Option Refusal). next o (tail_refusal ws (correction_of ws) (guard_bytes (correction_of ws) (protected_of ws)))) (same ∙ told (protected_refusal on (protected_of ws)) g (Ok tt) eg p)))

  pub body_refused : (why : Refusal) → g ≡ Err why → Err why ≡ checked_of (body_refusal ws)
  body_refused why p =
      sym (ap checked_of (body-cut ws n ∙ ap (λ (o : Option Refusal). next o (tail_refusal ws (correction_of ws) (guard_bytes (correction_of ws) (protected_of ws)))) (same ∙ told (protected_refusal on (protected_of ws)) g (Err why) eg p)))

-- ---- the whole chain

module _ (ws : List ℕ) (h : Checked) (eh : h ≡ checked_of (head_refusal ws)) where
  pub head-long : h ≡ Ok tt → length ws ≡ 262
  unfolding head_refusal
  head-long p = eqb-true _ _ (require-passed _ _ _ (told (head_refusal ws) h (Ok tt) eh p)).0

  pub whole-passed : (b : Checked) → h ≡ Ok tt → b ≡ checked_of (body_refusal ws) → b ≡ checked_of (read_refusal ws)
  unfolding read_refusal
  whole-passed b p eb = eb ∙ sym (ap checked_of (ap (λ (o : Option Refusal). next o (body_refusal ws)) (told (head_refusal ws) h (Ok tt) eh p)))

  pub whole-refused : (why : Refusal) → h ≡ Err why → Err why ≡ checked_of (read_refusal ws)
  unfolding read_refusal
  whole-refused why p = sym (ap checked_of (ap (λ (o : Option Refusal). next o (body_refusal ws)) (told (head_refusal ws) h (Err why) eh p)))

  pub left_passed : (l old : List ℕ) → h ≡ Ok tt → l ≡ left_by (head_refusal ws) l old
  left_passed l old p = sym (ap (λ (o : Option Refusal). left_by o l old) (told (head_refusal ws) h (Ok tt) eh p))

  pub left-refused : (why : Refusal) (l old : List ℕ) → h ≡ Err why → old ≡ left_by (head_refusal ws) l old
  left-refused why l old p = sym (ap (λ (o : Option Refusal). left_by o l old) (told (head_refusal ws) h (Err why) eh p))

-- ---- the answer

packet-guard : (ws : List ℕ) → packet_by ws (guard_bytes (correction_of ws) (protected_of ws)) ≡ packet_of ws
unfolding packet_by packet_of read_fixed fixed_of
packet-guard ws = λ i. record { correction = correction_of ws; ci = index_of ws; fixed = go (correction_of ws) i }
  where
    go : (on : Bool) → cond on (changes (protected_of ws) (sound_words (guard_bytes on (protected_of ws)))) 0 ≡ cond on (changes (protected_of ws) (rewritten (protected_of ws))) 0
    go true = ap (changes (protected_of ws)) (sound-guard (protected_of ws))
    go false = refl

module _ (ws : List ℕ) (a : Checked) (ea : a ≡ checked_of (read_refusal ws)) where
  passes : a ≡ Ok tt → read_refusal ws ≡ none
  passes p = told (read_refusal ws) a (Ok tt) ea p

  pub answer-long : a ≡ Ok tt → length ws ≡ 262
  answer-long p = (accepted-parts ws (passes p)).long

  -- the bytes that the checks left
  pub answer-bytes : (bytes old : List ℕ) → a ≡ Ok tt → bytes ≡ left_by (head_refusal ws) (guard_bytes (correction_of ws) (protected_of ws)) old
      → bytes ≡ guard_bytes (correction_of ws) (protected_of ws)
  unfolding read_refusal
  answer-bytes bytes old p e =
      e ∙ ap (λ (o : Option Refusal). left_by o (guard_bytes (correction_of ws) (protected_of ws)) old) (next-passed (head_refusal ws) (body_refusal ws) (passes p)).0

  pub answer-accepted : (bytes : List ℕ) (k : Packet) → a ≡ Ok tt → bytes ≡ guard_bytes (correction_of ws) (protected_of ws) → k ≡ packet_by ws bytes → Ok k ≡ reading_of ws
  unfolding reading_of
  answer-accepted bytes k p e d =
      ap Ok (d ∙ ap (packet_by ws) e ∙ packet-guard ws) ∙ sym (ap (λ (o : Option Refusal). answer_of o (packet_of ws)) (passes p))

  pub answer-refused : (why : Refusal) → a ≡ Err why → Err why ≡ reading_of ws
  unfolding reading_of
  answer-refused why p = sym (ap (λ (o : Option Refusal). answer_of o (packet_of ws)) (told (read_refusal ws) a (Err why) ea p))

  pub answer-room : (bytes : List ℕ) → a ≡ Ok tt → bytes ≡ guard_bytes (correction_of ws) (protected_of ws) → length bytes ≡ 254
  answer-room bytes p e = ap length e ∙ guard_bytes-length (correction_of ws) (protected_of ws) ∙ length_part ws (answer-long p)

  -- ---- with a lent buffer, over which the record of 248 bytes is written

  module _ (source out : List ℕ) (n : length source ≡ 248) (p : a ≡ Ok tt) where
    -- the room is what that is refused for
    into : read_into_refusal ws (length out) ≡ written_refusal source (length out)
    unfolding read_into_refusal written_refusal
    into =
        ap (λ (o : Option Refusal). next o (require (eqb (length out) 248) (refusal_plain Room) none)) (passes p)
        ∙ sym (rw (eq-eqb (length source) 248 n))

    pub left-written : record_of source ≡ read_record ws → written source out ≡ read_leaves ws out
    unfolding written read_leaves
    left-written e = ap₂ (λ (o : Option Refusal) (r : List ℕ). left_by o r out) (sym into) e

    module _ (w : Checked) (ew : w ≡ checked_of (written_refusal source (length out))) where
      into-told : (b : Checked) → w ≡ b → read_into_refusal ws (length out) ≡ refusal_in b
      into-told b q = into ∙ told (written_refusal source (length out)) w b ew q

      pub into-full : (why : Refusal) → w ≡ Err why → Err why ≡ reading_into_of ws (length out)
      unfolding reading_into_of
      into-full why q = sym (ap (λ (o : Option Refusal). answer_of o (packet_of ws)) (into-told (Err why) q))

      pub into-accepted : (bytes : List ℕ) (k : Packet) → w ≡ Ok tt → bytes ≡ guard_bytes (correction_of ws) (protected_of ws) → k ≡ packet_by ws bytes
          → Ok k ≡ reading_into_of ws (length out)
      unfolding reading_into_of
      into-accepted bytes k q e d =
          ap Ok (d ∙ ap (packet_by ws) e ∙ packet-guard ws) ∙ sym (ap (λ (o : Option Refusal). answer_of o (packet_of ws)) (into-told (Ok tt) q))

  module _ (out : List ℕ) (why : Refusal) (p : a ≡ Err why) where
    stopped : read_into_refusal ws (length out) ≡ some why
    unfolding read_into_refusal
    stopped = ap (λ (o : Option Refusal). next o (require (eqb (length out) 248) (refusal_plain Room) none)) (told (read_refusal ws) a (Err why) ea p)

    pub into-refused : Err why ≡ reading_into_of ws (length out)
    unfolding reading_into_of
    into-refused = sym (ap (λ (o : Option Refusal). answer_of o (packet_of ws)) stopped)

    pub left-as-it-was : out ≡ read_leaves ws out
    unfolding read_leaves
    left-as-it-was = sym (ap (λ (o : Option Refusal). left_by o (read_record ws) out) stopped)

-- ---- what the answers say

-- the refusal that an answer tells is the one that the rules give
pub refusal-said : (ws : List ℕ) → refusal_in (reading_of ws) ≡ read_refusal ws
unfolding reading_of
refusal-said ws = refusal-in-answer (read_refusal ws) (packet_of ws)

pub into-refusal-said : (ws : List ℕ) (room : ℕ) → refusal_in (reading_into_of ws room) ≡ read_into_refusal ws room
unfolding reading_into_of
into-refusal-said ws room = refusal-in-answer (read_into_refusal ws room) (packet_of ws)

-- where they give none it tells the packet
pub packet-said : (ws : List ℕ) → read_refusal ws ≡ none → packet_in (reading_of ws) ≡ some (packet_of ws)
unfolding reading_of
packet-said ws e = ap (λ (o : Option Refusal). packet_in (answer_of o (packet_of ws))) e

-- ---- what a caller that lends room for the record learns

into-room : (ws : List ℕ) → read_into_refusal ws 248 ≡ read_refusal ws
unfolding read_into_refusal
into-room ws = go (read_refusal ws)
  where
    go : (o : Option Refusal) → next o none ≡ o
    go none = refl
    go (some why) = refl

-- an answer tells its case
by-accepted : (o : Option Refusal) (q p : Packet) → answer_of o q ≡ Ok p → (o ≡ none) × (p ≡ q)
by-accepted none q p e = (refl, cc)
by-accepted (some why) q p e = let z : ◌≡◌ {A = ℕ} 0 1 = cc in absurd (omega arith)

by-refused : (o : Option Refusal) (q : Packet) (why : Refusal) → answer_of o q ≡ Err why → o ≡ some why
by-refused none q why e = let z : ◌≡◌ {A = ℕ} 0 1 = cc in absurd (omega arith)
by-refused (some no') q why e = cc

module _ (ws old : List ℕ) (r : Result Packet Refusal) (n : length old ≡ 248) (er : r ≡ reading_into_of ws (length old)) where
  room_by : read_into_refusal ws (length old) ≡ read_refusal ws
  room_by = ap (read_into_refusal ws) n ∙ into-room ws

  reading-told : answer_of (read_refusal ws) (packet_of ws) ≡ r
  unfolding reading_into_of
  reading-told = sym (er ∙ ap (λ (o : Option Refusal). answer_of o (packet_of ws)) room_by)

  -- accepted: no check refuses, the packet is that of the words, and their record is left
  pub accepted-is : (p : Packet) → r ≡ Ok p → (read_refusal ws ≡ none) × (p ≡ packet_of ws) × (read_leaves ws old ≡ read_record ws)
  unfolding read_leaves
  accepted-is p e =
      let told = by-accepted (read_refusal ws) (packet_of ws) p (reading-told ∙ e) in
      (told.0, told.1, ap (λ (o : Option Refusal). left_by o (read_record ws) old) (room_by ∙ told.0))

  -- refused: for that
  pub refused-is : (why : Refusal) → r ≡ Err why → read_refusal ws ≡ some why
  refused-is why e = by-refused (read_refusal ws) (packet_of ws) why (reading-told ∙ e)

-- only room for a record is accepted
pub accepted-room : (ws : List ℕ) (room : ℕ) (p : Packet) → reading_into_of ws room ≡ Ok p → room ≡ 248
unfolding reading_into_of read_into_refusal
accepted-room ws room p e =
    eqb-true _ _ (require-passed _ _ _ (next-passed (read_refusal ws) _ (by-accepted (read_into_refusal ws room) (packet_of ws) p e).0).1).0

-- where no check refuses: the packet is that of the words, and their record is left
pub read-accepts : (ws : List ℕ) → read_refusal ws ≡ none → reading_of ws ≡ Ok (packet_of ws)
unfolding reading_of
read-accepts ws e = ap (λ (o : Option Refusal). answer_of o (packet_of ws)) e

pub into-accepts : (ws old : List ℕ) → read_refusal ws ≡ none → length old ≡ 248
    → (reading_into_of ws (length old) ≡ Ok (packet_of ws)) × (read_leaves ws old ≡ read_record ws)
unfolding reading_into_of read_leaves
into-accepts ws old e n =
    let ok : read_into_refusal ws (length old) ≡ none = ap (read_into_refusal ws) n ∙ into-room ws ∙ e in
    (ap (λ (o : Option Refusal). answer_of o (packet_of ws)) ok, ap (λ (o : Option Refusal). left_by o (read_record ws) old) ok)
