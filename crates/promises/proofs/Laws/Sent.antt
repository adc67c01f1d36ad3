-- A send, at any desk value: only the room decides, and the bytes go out as they stand, with correction on; and one desk made by hand with its words.
-- Assumes nothing.
use mathlib.Core.Path.{◌≡◌, ap, ◌∙◌}
use mathlib.Core.Bool.{true}
use mathlib.Core.List.{List, [], ◌∷◌, ◌++◌}
use Prim.Native.Nat.{ℕ, ◌%◌}
use native.Mathlib.Omega.{arith}
use lib.ListN.{length, replicate}
use borrow.Author.Tests.{ne_eqb}
use Rattle.gf256.specs.Field.{◌⊕◌, ◌⊗◌, by_bits, double}
use Rattle.anc.specs.Word.{word_of, with_b9, bit, ones, parity_of as even_parity, total, checksum_of}
use Rattle.anc.specs.Words.{sound_words, flag}
use Rattle.rs.specs.Polynomial.{◌⊞◌, scale}
use Rattle.rs.specs.Codeword.{parity_of, remainder, next, divisor_bytes}
use Rattle.writing.specs.Layout.{kind, header_word, protected_words, summed_words, packet_words}
use Rattle.writing.proofs.Laws.Layout.{packet-carries}
use Rattle.reading.specs.Reading.{correction_of}
use Rattle.reading.proofs.Laws.Carried.{carried-correction}
use Rattle.steps.specs.Steps.{depth}
use Rattle.desk.specs.declared.Desk.{Desk}
use Rattle.desk.specs.declared.Turn.{Turn}
use Rattle.desk.specs.Desk.{no_step, send_refusal, sent, send_leaves}
use Rattle.promises.specs.Calls.{Sends}
use Rattle.promises.specs.Sent.{SentAsTheyStand}
use Rattle.promises.proofs.Laws.Calls.{sends-is, sends-leaves}

pub sent-as-they-stand : (d : Desk) (old : List ℕ) (t : Turn) (left : List ℕ) → Sends d old t left → SentAsTheyStand d old t left
unfolding sent send_refusal send_leaves
sent-as-they-stand d old t left S = record {
  done = λ n. ap (λ (x : Turn). x.checked) (sends-is d old t left S) ∙ rw n;
  words = λ n. sends-leaves d old t left S ∙ rw n;
  index = λ n. ap (λ (x : Turn). x.desk.ci) (sends-is d old t left S) ∙ rw n;
  no_room = λ n. ap (λ (x : Turn). x.checked) (sends-is d old t left S) ∙ rw (ne_eqb (length old) 262 n);
  kept = λ n. sends-leaves d old t left S ∙ rw (ne_eqb (length old) 262 n);
}

-- so that no packet that is sent has correction off
pub always-on : (d : Desk) (old : List ℕ) (t : Turn) (left : List ℕ) → Sends d old t left → length old ≡ 262 → correction_of left ≡ true
always-on d old t left S n =
    let ci : ℕ = d.ci % 16 in
    ap correction_of ((sent-as-they-stand d old t left S).words n ∙ packet-carries true ci d.bytes)
    ∙ carried-correction true ci d.bytes (protected_words true d.bytes) (omega arith)

-- ---- a desk made by hand: no station code, byte 44, which is reserved, in use, and CI 200

abbrev hand : Desk
hand = record { bytes = replicate 43 0 ++ 1 ∷ replicate 204 0; ci = 200; steps = replicate depth no_step; count = 0 }

pub hand-words : (old : List ℕ) (t : Turn) (left : List ℕ) → Sends hand old t left → length old ≡ 262
    → left ≡ (0x000 ∷ 0x3FF ∷ 0x3FF ∷ 0x25F ∷ 0x1FE ∷ 0x2FF ∷ 0x288 ∷ []) ++ replicate 43 0x200 ++ 0x101 ∷ replicate 204 0x200 ++ (0x1E0 ∷ 0x176 ∷ 0x1F8 ∷ 0x126 ∷ 0x1DC ∷ 0x295 ∷ 0x1CA ∷ [])
unfolding packet_words summed_words kind flag header_word protected_words sound_words word_of with_b9 bit ones even_parity total checksum_of parity_of remainder next divisor_bytes ◌⊞◌ scale ◌⊗◌ by_bits double ◌⊕◌
hand-words old t left S n = (sent-as-they-stand hand old t left S).words n
