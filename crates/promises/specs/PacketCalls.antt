-- The calls of word, codeword, record and packet, through their contracts: which answers, and what left in a lent buffer, a contract allows.
-- Assumes nothing.
use Rattle.std.specs.Prelude.{◌≡◌, Bool, List, ℕ, Result}
use borrow.Fn.Kinds.{Dens, ended_of}
use contract.Lifetimes.{Lfts}
use denote.Triple.Clauses.{AtExit}
use Rattle.basics.specs.Below.{Bytes}
use Rattle.refusal.specs.Checked.{Checked}
use Rattle.refusal.specs.declared.Refusal.{Refusal}
use Rattle.soundness.specs.Check.{Soundness}
use Rattle.soundness.proofs.check_word.Kinds as check-word-types
use Rattle.soundness.proofs.check_word.Reads as check-word-contract
use Rattle.soundness.proofs.check_words.Kinds as check-words-types
use Rattle.soundness.proofs.check_words.Reads as check-words-contract
use Rattle.rs.proofs.check_codeword.Kinds as check-codeword-types
use Rattle.rs.proofs.check_codeword.Reads as check-codeword-contract
use Rattle.record.proofs.record_refusal.Kinds as record-refusal-types
use Rattle.record.proofs.record_refusal.Reads as record-refusal-contract
use Rattle.view.specs.declared.RecordView.{RecordView}
use Rattle.view.proofs.read_record.Kinds as read-record-types
use Rattle.view.proofs.read_record.Reads as read-record-contract
use Rattle.writing.proofs.write_packet.Kinds as write-types
use Rattle.writing.proofs.write_packet.Reads as write-contract
use Rattle.reading.specs.declared.Packet.{Packet}
use Rattle.reading.proofs.read_packet.Kinds as read-types
use Rattle.reading.proofs.read_packet.Reads as read-contract
use Rattle.reading.proofs.read_packet_into.Kinds as read-into-types
use Rattle.reading.proofs.read_packet_into.Reads as read-into-contract
use Rattle.repair.proofs.repair.Kinds as repair-types
use Rattle.repair.proofs.repair.Reads as repair-contract

-- In each of these, `input` is what the call was given and `exit` what its parameters are once it has returned; `allowed` is the contract.

-- the word is checked
pub record ChecksWord (word : ℕ) (answer : Soundness) : Type 0 where
  pub κs : Lfts 0
  pub input : Dens κs check-word-types.ps
  pub exit : AtExit (ended_of 0 check-word-types.ps check-word-types.r) κs
  pub given : input.0 ≡ word
  pub allowed : check-word-contract.Learnt κs input answer exit

-- each of the words is checked
pub record ChecksWords (words : List ℕ) (answer : Checked) : Type 0 where
  pub κs : Lfts 1
  pub input : Dens κs check-words-types.ps
  pub exit : AtExit (ended_of 1 check-words-types.ps check-words-types.r) κs
  pub lent : input.0.now ≡ words
  pub allowed : check-words-contract.Learnt κs input answer exit

-- it is checked whether the block is a codeword
pub record ChecksCodeword (block : List ℕ) (answer : Result Bool Refusal) : Type 0 where
  pub κs : Lfts 1
  pub input : Dens κs check-codeword-types.ps
  pub exit : AtExit (ended_of 1 check-codeword-types.ps check-codeword-types.r) κs
  pub lent : input.0.now ≡ block
  pub allowed : check-codeword-contract.Learnt κs input answer exit

-- bytes are checked as those of a record
pub record ChecksRecord (bytes : List ℕ) (answer : Checked) : Type 0 where
  pub κs : Lfts 1
  pub input : Dens κs record-refusal-types.ps
  pub exit : AtExit (ended_of 1 record-refusal-types.ps record-refusal-types.r) κs
  pub lent : input.0.now ≡ bytes
  pub allowed : record-refusal-contract.Learnt κs input answer exit

-- they are read as a record
pub record ReadsRecord (bytes : List ℕ) (answer : Result RecordView Refusal) : Type 0 where
  pub κs : Lfts 1
  pub input : Dens κs read-record-types.ps
  pub exit : AtExit (ended_of 1 read-record-types.ps read-record-types.r) κs
  pub lent : input.0.now ≡ bytes
  pub allowed : read-record-contract.Learnt κs input answer exit

-- bytes are written as a packet, with correction on or off and an index, into a buffer that holds `old`, in which `left` is then left
pub record Writes (on : Bool) (ci : ℕ) (bytes old : List ℕ) (answer : Checked) (left : List ℕ) : Type 0 where
  pub κs : Lfts 2
  pub input : Dens κs write-types.ps
  pub exit : AtExit (ended_of 2 write-types.ps write-types.r) κs
  pub correction : input.0 ≡ on
  pub index : input.1.0 ≡ ci
  pub lent : input.1.1.0.now ≡ bytes
  pub are_bytes : Bytes bytes
  pub room : input.1.1.1.0.now ≡ old
  pub leaves : exit.1.1.1.0.now ≡ left
  pub allowed : write-contract.Learnt κs input answer exit

-- the words are read as a packet
pub record ReadsPacket (words : List ℕ) (answer : Result Packet Refusal) : Type 0 where
  pub κs : Lfts 1
  pub input : Dens κs read-types.ps
  pub exit : AtExit (ended_of 1 read-types.ps read-types.r) κs
  pub lent : input.0.now ≡ words
  pub allowed : read-contract.Learnt κs input answer exit

-- the words are read as a packet, and its record into a buffer that holds `old`, in which `left` is then left
pub record ReadsInto (words old : List ℕ) (answer : Result Packet Refusal) (left : List ℕ) : Type 0 where
  pub κs : Lfts 2
  pub input : Dens κs read-into-types.ps
  pub exit : AtExit (ended_of 2 read-into-types.ps read-into-types.r) κs
  pub lent : input.0.now ≡ words
  pub room : input.1.0.now ≡ old
  pub leaves : exit.1.0.now ≡ left
  pub allowed : read-into-contract.Learnt κs input answer exit

-- protected words are repaired into a buffer that holds `old`, in which `left` is then left
pub record Repairs (words old : List ℕ) (answer : Result ℕ Refusal) (left : List ℕ) : Type 0 where
  pub κs : Lfts 2
  pub input : Dens κs repair-types.ps
  pub exit : AtExit (ended_of 2 repair-types.ps repair-types.r) κs
  pub lent : input.0.now ≡ words
  pub room : input.1.0.now ≡ old
  pub leaves : exit.1.0.now ≡ left
  pub allowed : repair-contract.Learnt κs input answer exit
