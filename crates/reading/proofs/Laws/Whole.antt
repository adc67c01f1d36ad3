-- Read and written again, a packet is the same 262 words exactly when nothing was fixed and its places that aren't read were zero; with
-- something fixed and those places zero, the words are the rewritten ones.
-- Assumes nothing.
use mathlib.Core.Path.{◌≡◌, refl, sym, ap, ◌∙◌}
use mathlib.Core.Bool.{Bool, true, false}
use mathlib.Core.List.{List, ◌++◌, append_assoc}
use mathlib.Core.Option.{none}
use Prim.Native.Nat.{ℕ, ◌≤◌}
use native.Mathlib.Omega.{arith}
use lib.ListN.{length, take, drop, take-append-drop}
use lib.Seq.{drop-drop, length-take-le}
use Rattle.basics.specs.Below.{Bytes}
use Rattle.rs.proofs.Laws.Distance.{changes-zero}
use Rattle.basics.proofs.Laws.Below.{take_below}
use Rattle.repair.proofs.Laws.Repair.{repaired-codeword}
use Rattle.refusal.proofs.Laws.Chain.{require-passed}
use Rattle.repair.specs.Protected.{rewritten, fixed_of}
use Rattle.anc.specs.Words.{low_bytes}
use Rattle.writing.specs.Layout.{packet_words}
use Rattle.reading.specs.Reading.{correction_of, index_of, protected_of, read_words, read_bytes, read_record, read_refusal, read_fixed, protected_refusal, Clean, rewritten_packet}
use Rattle.record.proofs.Laws.Record.{record-bytes}
use Rattle.record.specs.Reserved.{reserved_area}
use Rattle.record.proofs.Laws.Record.{record-keeps}
use Rattle.record.proofs.Laws.Stored.{CleanRecord, record-clean}
use Rattle.anc.proofs.Laws.Words.{low-bytes, low_bytes-length, sound_words-length}
use Rattle.reading.proofs.Laws.RoundTrip.{written-reads, written-fixed}
use Rattle.reading.proofs.Laws.Again.{Accepted, accepted-parts, length_part, again}

-- ---- what is read

-- the protected words as they are read are 254
length-read : (ws : List ℕ) → Accepted ws → (on : Bool) → correction_of ws ≡ on → length (read_words ws) ≡ 254
unfolding read_words protected_refusal rewritten
length-read ws A true e =
    let p = require-passed _ _ _ (rw e at A.guarded) in
    rw e (sound_words-length _ ∙ (repaired-codeword (protected_of ws) p.0).long)
length-read ws A false e = rw e (length_part ws A.long)

pub read_length : (ws : List ℕ) → read_refusal ws ≡ none → length (read_bytes ws) ≡ 248
unfolding read_bytes
read_length ws e =
    let A = accepted-parts ws e in
    length-take-le 248 (low_bytes (read_words ws)) (omega (arith, low_bytes-length (read_words ws), length-read ws A (correction_of ws) refl))

pub read-bytes : (ws : List ℕ) → Bytes (read_bytes ws)
unfolding read_bytes
read-bytes ws = take_below 256 248 (low_bytes (read_words ws)) (low-bytes (read_words ws))

-- the record that is read has in the reserved area what was there
pub read-reserved : (ws : List ℕ) → read_refusal ws ≡ none → reserved_area (read_record ws) ≡ reserved_area (read_bytes ws)
unfolding read_record
read-reserved ws e = record-keeps (read_bytes ws) (read_length ws e) (accepted-parts ws e).rules

-- nothing in it is refused, and it is its own record
pub read-clean : (ws : List ℕ) → read_refusal ws ≡ none → CleanRecord (read_record ws)
unfolding read_record
read-clean ws e = record-clean (read_bytes ws) (read_length ws e) (accepted-parts ws e).rules

-- nothing fixed: the protected words are read as they were delivered
unchanged : (ws : List ℕ) → Accepted ws → read_fixed ws ≡ 0 → (on : Bool) → correction_of ws ≡ on → read_words ws ≡ protected_of ws
unfolding read_words read_fixed fixed_of
unchanged ws A f true e =
    let n : length (protected_of ws) ≡ length (rewritten (protected_of ws)) = length_part ws A.long ∙ sym (unfold read_words in rw e at (length-read ws A true e)) in
    rw e (sym (changes-zero (protected_of ws) (rewritten (protected_of ws)) n (rw e at f)))
unchanged ws A f false e = rw e refl

-- the three parts of a packet: seven words, of which the header is the last, the protected words, and the checksum
pub packet-parts : (ws : List ℕ) → take 7 ws ++ protected_of ws ++ drop 261 ws ≡ ws
unfolding protected_of
packet-parts ws =
    append_assoc (take 7 ws) _ _
    ∙ ap (λ (l : List ℕ). take 7 ws ++ (take 254 (drop 7 ws) ++ l)) (sym (drop-drop 254 7 ws)) ∙ ap (λ (l : List ℕ). take 7 ws ++ l) (take-append-drop 254 (drop 7 ws))
    ∙ take-append-drop 7 ws

-- ---- written again

-- the packet of the record that is read, with its index and correction bit
abbrev pub packet_again : List ℕ → List ℕ
packet_again ws = packet_words (correction_of ws) (index_of ws) (read_record ws)

-- with the places that aren't read zero the words written are the rewritten ones
pub write_read : (ws : List ℕ) → read_refusal ws ≡ none → Clean ws → packet_again ws ≡ rewritten_packet ws
write_read ws e c = ap (packet_words (correction_of ws) (index_of ws)) c ∙ again ws e

-- and the same words where nothing was fixed
pub write-read-same : (ws : List ℕ) → read_refusal ws ≡ none → Clean ws → read_fixed ws ≡ 0 → packet_again ws ≡ ws
unfolding rewritten_packet
write-read-same ws e c f =
    write_read ws e c ∙ ap (λ (l : List ℕ). take 7 ws ++ l ++ drop 261 ws) (unchanged ws (accepted-parts ws e) f (correction_of ws) refl) ∙ packet-parts ws

pub index-small : (ws : List ℕ) → index_of ws ≤ 15
unfolding index_of
index-small ws = omega arith

-- the same words only then
pub same-write-read : (ws : List ℕ) → read_refusal ws ≡ none → packet_again ws ≡ ws → Clean ws × (read_fixed ws ≡ 0)
unfolding read_record
same-write-read ws e s =
    let r : List ℕ = read_record ws in
    let C = read-clean ws e in
    let b : Bytes r = record-bytes (read_bytes ws) (read-bytes ws) in
    let R = written-reads (correction_of ws) (index_of ws) r (index-small ws) C.long b C.rules in
    (sym (sym (ap read_bytes s) ∙ R.bytes), sym (ap read_fixed s) ∙ written-fixed (correction_of ws) (index_of ws) r (index-small ws) C.long b)
