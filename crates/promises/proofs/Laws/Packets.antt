-- Packets, as the calls write, read, follow and repair them: which are beyond repair, that what is written is read again and carries a codeword,
-- that what is read is written again, and that repair gives back what was sent.
-- Assumes nothing.
use mathlib.Core.Path.{◌≡◌, refl, sym, ap, ◌∙◌, subst}
use mathlib.Core.Bool.{Bool, true, false, not}
use mathlib.Core.List.{List, ◌++◌}
use mathlib.Core.Logic.{◌⊎◌}
use mathlib.Core.Option.{Option, none, some}
use Prim.Native.Nat.{ℕ}
use lib.ListN.{length, length-append}
use native.Mathlib.Omega.{arith}
use Rattle.basics.specs.Below.{Bytes}
use Rattle.basics.specs.Each.{all}
use Rattle.anc.specs.Words.{low_bytes, narrow, sound_words}
use Rattle.anc.specs.Word.{is_sound}
use Rattle.anc.proofs.Laws.Words.{low_bytes-length, sound_words-length, low-words, words-narrow, narrow-append}
use Rattle.rs.specs.Codeword.{parity_of, Codeword}
use Rattle.rs.specs.Decode.{changes, Within}
use Rattle.rs.specs.Marked.{WithinMarked}
use Rattle.search.specs.Marked.{confessed}
use Rattle.refusal.specs.Number.{refusal_plain}
use Rattle.refusal.specs.declared.Reason.TheVariants.{BeyondRepair}
use Rattle.refusal.specs.declared.Refusal.{Refusal}
use Rattle.record.specs.Record.{record_of}
use Rattle.record.proofs.Laws.Record.{record-bytes}
use Rattle.record.proofs.Laws.Stored.{CleanRecord, record-clean}
use Rattle.std.specs.Prelude.{Result, Ok}
use Rattle.refusal.specs.Checked.{Checked, refusal_in}
use Rattle.repair.specs.Protected.{repair_refusal}
use Rattle.repair.proofs.Laws.Repair.{refusal-said as repair-said, repair-answers, passed-allowed}
use Rattle.repair.proofs.Laws.Reach.{repair-beyond}
use Rattle.repair.proofs.Laws.Damage.{behind-cost}
use Rattle.writing.specs.Layout.{packet_words}
use Rattle.writing.specs.Writing.{written_words}
use Rattle.writing.specs.Written.{written_of}
use Rattle.writing.proofs.Laws.Layout.{written-codeword, protected-on}
use Rattle.writing.proofs.Laws.Writing.{Wrote, done-wrote, wrote-done}
use Rattle.reading.specs.declared.Packet.{Packet}
use Rattle.reading.specs.Reading.{correction_of, index_of, protected_of, read_fixed, head_refusal, read_refusal, read_into_refusal, read_record}
use Rattle.reading.specs.Answer.{packet_of, read_leaves}
use Rattle.reading.proofs.Laws.Answer.{refusal-said, into-refusal-said, accepted-is, accepted-room, read-accepts, into-accepts}
use Rattle.reading.proofs.Laws.Beyond.{not-nine, read-beyond, into-beyond, read_off, into-off}
use Rattle.reading.proofs.Laws.Carried.{Reads}
use Rattle.reading.proofs.Laws.RoundTrip.{written-reads, written-packet}
use Rattle.reading.proofs.Laws.Whole.{read-clean, index-small, packet_again, write_read, write-read-same, same-write-read}
use Rattle.follower.specs.declared.Follower.{Follower}
use Rattle.follower.specs.declared.Followed.{Followed}
use Rattle.follower.specs.Follower.{shown_by}
use Rattle.follower.proofs.Laws.Follow.{refusal-heard, accepted-holds}
use Rattle.promises.specs.Calls.{Follows}
use Rattle.promises.specs.PacketCalls.{Writes, ReadsPacket, ReadsInto, Repairs}
use Rattle.promises.specs.Packets.{BeyondExactly, WrittenAgain}
use Rattle.promises.proofs.Laws.Arrival.{sent-protected}
use Rattle.promises.proofs.Laws.Calls.{follows_is}
use Rattle.promises.proofs.Laws.PacketCalls.{writes-is, writes-leaves, reads-packet-is, reads-into-is, reads-into-leaves, repairs-is, repairs-leaves}

-- ---- the refusal that each call tells

pub read-tells : (words : List ℕ) (a : Result Packet Refusal) → ReadsPacket words a → read_refusal words ≡ refusal_in a
read-tells words a R = sym (ap refusal_in (reads-packet-is words a R) ∙ refusal-said words)

pub into-tells : (words old : List ℕ) (a : Result Packet Refusal) (left : List ℕ) → ReadsInto words old a left → read_into_refusal words (length old) ≡ refusal_in a
into-tells words old a left R = sym (ap refusal_in (reads-into-is words old a left R) ∙ into-refusal-said words (length old))

pub follow-tells : (f : Follower) (words : List ℕ) (a : Followed) → Follows f words a → read_refusal words ≡ refusal_in a.heard
follow-tells f words a F = sym (ap (λ (x : Followed). refusal_in x.heard) (follows_is f words a F) ∙ refusal-heard f words)

repair-tells : (words old : List ℕ) (a : Result ℕ Refusal) (left : List ℕ) → Repairs words old a left → repair_refusal words (length old) ≡ refusal_in a
repair-tells words old a left R = sym (ap refusal_in (repairs-is words old a left R) ∙ repair-said words (length old))

-- ---- beyond repair: with correction on, in words that pass the checks before 9, exactly when no codeword is within reach

told : (o p : Option Refusal) (guarded : List ℕ) → o ≡ p → BeyondExactly o guarded → BeyondExactly p guarded
told o p guarded e t = subst (λ (q : Option Refusal). BeyondExactly q guarded) e t

module _ (words : List ℕ) (head : head_refusal words ≡ none) (on : correction_of words ≡ true) where
  pub read-packet-beyond : (a : Result Packet Refusal) → ReadsPacket words a → BeyondExactly (refusal_in a) (protected_of words)
  read-packet-beyond a R = told _ _ (protected_of words) (read-tells words a R) (read-beyond words head on)

  -- into any room
  pub read-into-beyond : (old : List ℕ) (a : Result Packet Refusal) (left : List ℕ) → ReadsInto words old a left → BeyondExactly (refusal_in a) (protected_of words)
  read-into-beyond old a left R = told _ _ (protected_of words) (into-tells words old a left R) (into-beyond words head on (length old))

  -- at any follower
  pub follow-beyond : (f : Follower) (a : Followed) → Follows f words a → BeyondExactly (refusal_in a.heard) (protected_of words)
  follow-beyond f a F = told _ _ (protected_of words) (follow-tells f words a F) (read-beyond words head on)

-- repair alone, of 254 words of ten bits, into any room
pub repair-alone-beyond : (words : List ℕ) → length words ≡ 254 → narrow words ≡ true
    → (old : List ℕ) (a : Result ℕ Refusal) (left : List ℕ) → Repairs words old a left → BeyondExactly (refusal_in a) words
repair-alone-beyond words n w old a left R = told _ _ words (repair-tells words old a left R) (repair-beyond words (length old) n w)

-- with correction off, never
module _ (words : List ℕ) (off : correction_of words ≡ false) where
  pub read-packet-off : (a : Result Packet Refusal) → ReadsPacket words a → refusal_in a ≡ some (refusal_plain BeyondRepair) → ⊥
  read-packet-off a R e = not-nine (read_off words off) (read-tells words a R ∙ e)

  pub read-into-off : (old : List ℕ) (a : Result Packet Refusal) (left : List ℕ) → ReadsInto words old a left → refusal_in a ≡ some (refusal_plain BeyondRepair) → ⊥
  read-into-off old a left R e = not-nine (into-off words off (length old)) (into-tells words old a left R ∙ e)

  pub follow-off : (f : Follower) (a : Followed) → Follows f words a → refusal_in a.heard ≡ some (refusal_plain BeyondRepair) → ⊥
  follow-off f a F e = not-nine (read_off words off) (follow-tells f words a F ∙ e)

-- ---- written and read again, a record is the same

module _ (on : Bool) (ci : ℕ) (bytes old words : List ℕ) (W : Writes on ci bytes old (Ok tt) words) where
  wrote : Wrote on ci bytes old
  wrote = done-wrote on ci bytes old (sym (writes-is on ci bytes old (Ok tt) words W))

  clean : CleanRecord (record_of bytes)
  clean = record-clean bytes wrote.long wrote.rules

  are_bytes : Bytes (record_of bytes)
  are_bytes = record-bytes bytes W.are_bytes

  words_are : words ≡ packet_words on ci (record_of bytes)
  unfolding written_words
  words_are = writes-leaves on ci bytes old (Ok tt) words W ∙ wrote.left

  pub reads : Reads words on ci (record_of bytes)
  reads = rw words_are (written-reads on ci (record_of bytes) wrote.index clean.long are_bytes clean.rules)

  pub packet : packet_of words ≡ record { correction = on; ci = ci; fixed = 0 }
  packet = ap packet_of words_are ∙ written-packet on ci (record_of bytes) wrote.index clean.long are_bytes clean.rules

  pub record-read : read_record words ≡ record_of bytes
  record-read = reads.rec ∙ clean.own

  pub written_read : (room : List ℕ) (a : Result Packet Refusal) (left : List ℕ) → ReadsInto words room a left → length room ≡ 248
      → (a ≡ Ok (record { correction = on; ci = ci; fixed = 0 })) × (left ≡ record_of bytes)
  written_read room a left R n =
      let A = into-accepts words room reads.accepted n in
      (reads-into-is words room a left R ∙ A.0 ∙ ap (λ (p : Packet). Ok p) packet, reads-into-leaves words room a left R ∙ A.1 ∙ record-read)

  -- and where the packet alone is asked for
  pub written-read-packet : (a : Result Packet Refusal) → ReadsPacket words a → a ≡ Ok (record { correction = on; ci = ci; fixed = 0 })
  written-read-packet a R = reads-packet-is words a R ∙ read-accepts words reads.accepted ∙ ap (λ (p : Packet). Ok p) packet

  -- any follower takes it in, and then shows the record
  pub written-followed : (f : Follower) (a : Followed) → Follows f words a → (refusal_in a.heard ≡ none) × (shown_by a.follower ≡ record_of bytes)
  written-followed f a F = (
    sym (follow-tells f words a F) ∙ reads.accepted,
    ap (λ (x : Followed). shown_by x.follower) (follows_is f words a F) ∙ (accepted-holds f words reads.accepted).shown ∙ record-read,
  )

  -- with correction on, the bytes that the protected words carry are a codeword
  pub written-protected : on ≡ true → Codeword (low_bytes (protected_of words))
  written-protected e =
      let r : List ℕ = record_of bytes in
      let C = written-codeword r clean.long are_bytes in
      let protected : protected_of words ≡ sound_words (r ++ parity_of r) =
      ap protected_of (words_are ∙ ap (λ (b : Bool). packet_words b ci r) e) ∙ sent-protected ci r wrote.index clean are_bytes ∙ protected-on r in
      subst Codeword (sym (ap low_bytes protected ∙ low-words (r ++ parity_of r) C.bytes)) C

-- ---- read and written again: the same words exactly when nothing was fixed and the places that aren't read were zero

module _ (words room : List ℕ) (p : Packet) (left : List ℕ) (R : ReadsInto words room (Ok p) left) where
  pub accepted : (read_refusal words ≡ none) × (p ≡ packet_of words) × (read_leaves words room ≡ read_record words)
  accepted =
      let e = reads-into-is words room (Ok p) left R in
      accepted-is words room (Ok p) (accepted-room words (length room) p (sym e)) e p refl

  pub record-left : left ≡ read_record words
  record-left = reads-into-leaves words room (Ok p) left R ∙ accepted.2

  pub read-written : (old : List ℕ) (answer : Checked) (again : List ℕ) → Writes p.correction p.ci left old answer again → length old ≡ 262
      → WrittenAgain words p answer again
  unfolding packet_of written_words
  read-written old answer again W n =
      let ok = accepted.0 in
      let C = read-clean words ok in
      let on : p.correction ≡ correction_of words = ap (λ (x : Packet). x.correction) accepted.1 in
      let ci : p.ci ≡ index_of words = ap (λ (x : Packet). x.ci) accepted.1 in
      let fixed : p.fixed ≡ read_fixed words = ap (λ (x : Packet). x.fixed) accepted.1 in
      let said = writes-is p.correction p.ci left old answer again W in
      let done : answer ≡ Ok tt =
      said ∙ (λ i. written_of (ci i) (record-left i) (n i)) ∙ wrote-done (index_of words) (read_record words) C.long (index-small words) C.rules in
      let are : again ≡ packet_again words =
      writes-leaves p.correction p.ci left old answer again W ∙ (done-wrote p.correction p.ci left old (sym said ∙ done)).left
      ∙ (λ i. packet_words (on i) (ci i) (record_of (record-left i))) ∙ ap (packet_words (correction_of words) (index_of words)) C.own in
      record {
        done = done;
        same = (
          λ s. let (c, z) = same-write-read words ok (sym are ∙ s) in (fixed ∙ z, c),
          λ (z, c). are ∙ write-read-same words ok c (sym fixed ∙ z),
        );
        rewritten = λ c. are ∙ write_read words ok c;
      }

-- ---- repair alone gives back what was sent, and counts the words that differ from it

pub repair-gives-back : (words old : List ℕ) (a : Result ℕ Refusal) (left c : List ℕ) → Repairs words old a left → narrow words ≡ true → length old ≡ 254
    → WithinMarked (confessed words) (low_bytes words) c → (a ≡ Ok (changes words (sound_words c))) × (left ≡ sound_words c)
repair-gives-back words old a left c R w m W =
    let A = repair-answers c words old W w m in
    (repairs-is words old a left R ∙ A.0, repairs-leaves words old a left R ∙ A.1)

-- what it gives are the words of a codeword that one of the two rules allows
pub repair-allowed : (words old : List ℕ) (n : ℕ) (left : List ℕ) → Repairs words old (Ok n) left
    → (c : List ℕ) × (WithinMarked (confessed words) (low_bytes words) c ⊎ Within (low_bytes words) c) × (left ≡ sound_words c)
repair-allowed words old n left R =
    let (c, W, e) = passed-allowed words old (repair-tells words old (Ok n) left R) in (c, W, repairs-leaves words old (Ok n) left R ∙ e)

-- ---- what the rule of the marks costs

-- where the six parity words confess, any 248 bytes in sound words are read as they stand: a change among them is left to the checksum
pub six-unnoticed : (bytes us old : List ℕ) (a : Result ℕ Refusal) (left : List ℕ) → Repairs (sound_words bytes ++ us) old a left → length bytes ≡ 248 → Bytes bytes → length us ≡ 6
    → narrow us ≡ true → all (λ u. not (is_sound u)) us ≡ true → length old ≡ 254 → left ≡ sound_words (bytes ++ parity_of bytes)
six-unnoticed bytes us old a left R n b m w u o =
    let C = written-codeword bytes n b in
    let words : List ℕ = sound_words bytes ++ us in
    let long : length (low_bytes words) ≡ 254 = low_bytes-length words ∙ length-append (sound_words bytes) us ∙ omega (arith, sound_words-length bytes) in
    (repair-gives-back words old a left (bytes ++ parity_of bytes) R (narrow-append (sound_words bytes) us (words-narrow bytes b) w) o
    (record { word = C; long = C.long ∙ sym long; near = omega (arith, behind-cost bytes us (parity_of bytes) b u) })).1
