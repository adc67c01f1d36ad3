-- The answers of the crates as plain structs for C: for every case of an answer its number, its place and its values.
-- Number 0 is done. Beside a refusal, what the call would have given is 0; beside 7 stand the wrong bits of the word.
-- Assumes nothing.
use Rattle.std.specs.Prelude.{Bool, false, ℕ, Result, Ok, Err, Some, None}
use Rattle.std.proofs.Math.Option.{Option, none, some}
use Rattle.refusal.specs.Number.{number_of, bits_of, bits_in}
use Rattle.refusal.specs.declared.Refusal.{Refusal}
use Rattle.refusal.specs.Checked.{refusal_in}
use Rattle.soundness.specs.Check.{Soundness}
use Rattle.reading.specs.declared.Packet.{Packet}
use Rattle.b40.specs.declared.Head.{Head}
use Rattle.desk.specs.declared.Turn.{Turn}
use Rattle.sequence.specs.declared.Kind.{Kind}
use Rattle.sequence.specs.declared.Kind.TheVariants.{First, Next, Repeat, Conflict}
use Rattle.follower.specs.declared.Arrival.{Arrival}
use Rattle.follower.specs.declared.Follower.{Follower}
use Rattle.follower.specs.declared.Followed.{Followed}
use Rattle.answers.specs.declared.AyAnswer.{AyAnswer}
use Rattle.answers.specs.declared.AyWord.{AyWord}
use Rattle.answers.specs.declared.AyVerdict.{AyVerdict}
use Rattle.answers.specs.declared.AyPacket.{AyPacket}
use Rattle.answers.specs.declared.AyRepaired.{AyRepaired}
use Rattle.answers.specs.declared.AyField.{AyField}
use Rattle.answers.specs.declared.AyTurn.{AyTurn}
use Rattle.answers.specs.declared.AyFollowed.{AyFollowed}

-- ---- number and place

-- a refusal: its number on the fixed list, and its place
abbrev pub refused_for : Refusal → AyAnswer
refused_for why = record { number = number_of why.reason; place = why.place }

-- nothing is refused: number 0, place 0
abbrev pub done : AyAnswer
done = record { number = 0; place = 0 }

-- the refusal, where there is one
unfoldable pub answer_by : Option Refusal → AyAnswer
answer_by none = done
answer_by (some why) = refused_for why

-- ---- word

-- a refusal, and the bits that it carries: 1 b8, 2 b9, 3 both; 0 with every number but 7
abbrev pub refused_with : Refusal → AyWord
refused_with why = record { number = number_of why.reason; place = why.place; bits = bits_in why.reason }

-- what the word check answered: which bits are wrong
unfoldable pub word_from : Soundness → AyWord
word_from (Ok None) = record { number = 0; place = 0; bits = 0 }
word_from (Ok (Some wrong)) = record { number = 0; place = 0; bits = bits_of wrong }
word_from (Err why) = refused_with why

-- ---- codeword

-- what the check answered: are the bytes a codeword?
unfoldable pub verdict_from : Result Bool Refusal → AyVerdict
verdict_from (Ok codeword) = record { number = 0; place = 0; codeword = codeword }
verdict_from (Err why) = record { number = number_of why.reason; place = why.place; codeword = false }

-- ---- packet

-- what reading answered: the packet's correction bit, index and fixed words
unfoldable pub packet_from : Result Packet Refusal → AyPacket
packet_from (Ok p) = record { number = 0; place = 0; bits = 0; correction = p.correction; ci = p.ci; fixed = p.fixed }
packet_from (Err why) =
    record { number = number_of why.reason; place = why.place; bits = bits_in why.reason; correction = false; ci = 0; fixed = 0 }

-- what repair answered: the fixed words
unfoldable pub repaired_from : Result ℕ Refusal → AyRepaired
repaired_from (Ok n) = record { number = 0; place = 0; fixed = n }
repaired_from (Err why) = record { number = number_of why.reason; place = why.place; fixed = 0 }

-- ---- field

-- what unpacking answered: Y/C, line and offset
unfoldable pub field_from : Result Head Refusal → AyField
field_from (Ok h) = record { number = 0; place = 0; yc = h.yc; line = h.line; offset = h.offset }
field_from (Err why) = record { number = number_of why.reason; place = why.place; yc = false; line = 0; offset = 0 }

-- ---- desk

-- what a call of the desk answered: the desk handed back, and the answer
unfoldable pub turn_from : Turn → AyTurn
turn_from t =
    record { desk = t.desk; number = (answer_by (refusal_in t.checked)).number; place = (answer_by (refusal_in t.checked)).place }

-- ---- follower

-- 1 FIRST, 2 NEXT, 3 REPEAT, 4 CONFLICT; 0 is none of them
unfoldable pub kind_number : Kind → ℕ
kind_number First = 1
kind_number Next = 2
kind_number Repeat = 3
kind_number Conflict = 4

-- what was heard: the kind of the packet, its index, fixed words, missed packets and onsets
unfoldable pub heard_from : Follower → Result Arrival Refusal → AyFollowed
heard_from f (Ok a) =
    record {
      follower = f;
      number = 0;
      place = 0;
      bits = 0;
      kind = kind_number a.kind;
      ci = a.ci;
      fixed = a.fixed;
      missed = a.missed;
      onsets = a.onsets;
    }
heard_from f (Err why) =
    record {
      follower = f;
      number = number_of why.reason;
      place = why.place;
      bits = bits_in why.reason;
      kind = 0;
      ci = 0;
      fixed = 0;
      missed = 0;
      onsets = 0;
    }

-- the follower handed back, and what it heard
unfoldable pub followed_from : Followed → AyFollowed
followed_from x = heard_from x.follower x.heard
