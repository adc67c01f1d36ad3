-- The lines of demand 3 are not few: every call can be made on them, any packet on a line can be damaged by words that are not sound and by words
-- that are, and one line with damage, repeats, a repeated frame, drops, thirteen of them in a row, and a refused send is worked out.
-- Assumes nothing.
use mathlib.Core.Path.{◌≡◌, refl, sym, ap, ◌∙◌}
use mathlib.Core.Bool.{Bool, true, false}
use mathlib.Core.List.{List, [], ◌∷◌, ◌++◌}
use Prim.Native.Nat.{ℕ, zero, suc, ◌+◌, ◌≤◌}
use native.Mathlib.Omega.{arith}
use denote.Bor.{Bor}
use denote.MutBor.{MutBor}
use lib.Dec.{lit<}
use lib.ListN.{length, take, drop, replicate, length-append, length-drop}
use Rattle.basics.specs.Each.{all}
use Rattle.basics.proofs.Laws.Test.{never}
use Rattle.basics.specs.Below.{Bytes}
use Rattle.basics.proofs.Laws.Below.{drop-below}
use Rattle.rules.specs.Rules.{sound_rule, sound_byte, one_of}
use Rattle.items.specs.Items.{items}
use Rattle.items.specs.Item.{row_of, refused_in, item_refusal, clean_in, clean_of, put_item}
use Rattle.anc.specs.Word.{bit, ones, is_sound}
use Rattle.anc.specs.Words.{narrow}
use Rattle.anc.proofs.Laws.Words.{narrow-append, narrow_below, below-narrow}
use Rattle.refusal.specs.Checked.{checked_of}
use Rattle.soundness.specs.Check.{soundness_of, words_refusal}
use Rattle.rs.specs.Check.{verdict_of}
use Rattle.writing.specs.Written.{written_of, write_leaves}
use Rattle.repair.specs.Repair.{repaired_of, repair_leaves}
use Rattle.rs.specs.Marked.{marks_in}
use Rattle.search.specs.Marked.{confessed}
use Rattle.repair.proofs.Laws.Damage.{worth, length-worth, front-damage}
use Rattle.reading.specs.Answer.{reading_of, reading_into_of, read_leaves}
use Rattle.reading.specs.Reading.{protected_of}
use Rattle.desk.specs.declared.Desk.{Desk}
use Rattle.desk.specs.Desk.{opened, edited, undone, sent, send_leaves, opening as desk-opening}
use Rattle.desk.specs.Model.{fresh, edit_m, undo_to, send_m}
use Rattle.follower.specs.declared.Follower.{Follower}
use Rattle.follower.specs.Follower.{ceiling, followed, shown_by, shown_refusal, shown_leaves, opened as begun}
use Rattle.follower.proofs.Laws.Count.{counted-true}
use Rattle.lines.specs.Shown.{shown}
use Rattle.lines.proofs.Laws.Shown.{shown-sized}
use Rattle.promises.specs.Calls.{Opens, Edits, Undoes, Sends, Begins, Follows, Looks, LooksInto, Shows}
use Rattle.promises.specs.PacketCalls.{ChecksWord, ChecksWords, ChecksCodeword, Writes, ReadsPacket, ReadsInto, Repairs}
use Rattle.promises.specs.Line.{Delivers, Heard, Fate, unsent, waiting, dropped, delivered, Sent, Scene, opening as start, sent as send-to, turned, lost, heard, Line, opens, turns, sends, no_room, drops, delivers, repeats, repeats-earlier}
use Rattle.promises.specs.History.{edits, undoes}
use Rattle.promises.proofs.Laws.Line.{Ordinary, waiting-ordinary, latest-ordinary, earlier-ordinary, demand-3}

-- ---- every call can be made, and answers what its contract says

-- a reference to a value
abbrev lend : {X : Type 0} → X → Bor X
lend x = record { ref_ptr = (0, 0); now = x }

-- a reference through which it may be changed
abbrev lend_mut : {X : Type 0} → X → MutBor X
lend_mut x = record { ref_ptr = (0, 0); ghost_name = 0; now = x }

pub open-call : (on : Bool) → Opens on (opened on)
open-call on = record { κs = tt; input = (on, tt); exit = (on, tt); correction = refl; allowed = refl }

pub edit-call : (d : Desk) (item : ℕ) (bytes : List ℕ) → Bytes bytes → Edits d item bytes (edited d item bytes)
edit-call d item bytes b =
    record {
      κs = ([], tt);
      input = (d, (item, (lend bytes, tt)));
      exit = (d, (item, (lend bytes, tt)));
      own = refl;
      number = refl;
      lent = refl;
      are_bytes = b;
      allowed = refl;
    }

pub undo-call : (d : Desk) → Undoes d (undone d)
undo-call d = record { κs = tt; input = (d, tt); exit = (d, tt); own = refl; allowed = refl }

pub send-call : (d : Desk) (old : List ℕ) → Sends d old (sent d (length old)) (send_leaves d old)
send-call d old =
    record {
      κs = ([], tt);
      input = (d, (lend_mut old, tt));
      exit = (d, (lend_mut (send_leaves d old), tt));
      own = refl;
      lent = refl;
      leaves = refl;
      allowed = (refl, refl);
    }

pub begin-call : Begins begun
begin-call = record { κs = tt; input = tt; exit = tt; allowed = refl }

pub follow-call : (f : Follower) (words : List ℕ) → Follows f words (followed f words)
follow-call f words = record { κs = ([], tt); input = (f, (lend words, tt)); exit = (f, (lend words, tt)); own = refl; lent = refl; allowed = refl }

pub look-call : (f : Follower) → Looks f (shown_by f)
look-call f = record { κs = tt; input = (f, tt); exit = (f, tt); own = refl; allowed = refl }

pub look-into-call : (f : Follower) (old : List ℕ) → LooksInto f old (checked_of (shown_refusal (length old))) (shown_leaves f old)
look-into-call f old =
    record {
      κs = ([], tt);
      input = (f, (lend_mut old, tt));
      exit = (f, (lend_mut (shown_leaves f old), tt));
      own = refl;
      lent = refl;
      leaves = refl;
      allowed = (refl, refl);
    }

pub check-word-call : (word : ℕ) → ChecksWord word (soundness_of word)
check-word-call word = record { κs = tt; input = (word, tt); exit = (word, tt); given = refl; allowed = refl }

pub check-words-call : (words : List ℕ) → ChecksWords words (checked_of (words_refusal words))
check-words-call words = record { κs = ([], tt); input = (lend words, tt); exit = (lend words, tt); lent = refl; allowed = refl }

pub check-codeword-call : (block : List ℕ) → ChecksCodeword block (verdict_of block)
check-codeword-call block = record { κs = ([], tt); input = (lend block, tt); exit = (lend block, tt); lent = refl; allowed = refl }

pub write-call : (on : Bool) (ci : ℕ) (bytes old : List ℕ) → Bytes bytes → Writes on ci bytes old (written_of ci bytes (length old)) (write_leaves on ci bytes old)
write-call on ci bytes old b =
    record {
      κs = ([], ([], tt));
      input = (on, (ci, (lend bytes, (lend_mut old, tt))));
      exit = (on, (ci, (lend bytes, (lend_mut (write_leaves on ci bytes old), tt))));
      correction = refl;
      index = refl;
      lent = refl;
      are_bytes = b;
      room = refl;
      leaves = refl;
      allowed = (refl, refl);
    }

pub read-packet-call : (words : List ℕ) → ReadsPacket words (reading_of words)
read-packet-call words = record { κs = ([], tt); input = (lend words, tt); exit = (lend words, tt); lent = refl; allowed = refl }

pub read-into-call : (words old : List ℕ) → ReadsInto words old (reading_into_of words (length old)) (read_leaves words old)
read-into-call words old =
    record {
      κs = ([], ([], tt));
      input = (lend words, (lend_mut old, tt));
      exit = (lend words, (lend_mut (read_leaves words old), tt));
      lent = refl;
      room = refl;
      leaves = refl;
      allowed = (refl, refl);
    }

pub repair-call : (words old : List ℕ) → Repairs words old (repaired_of words (length old)) (repair_leaves words old)
repair-call words old =
    record {
      κs = ([], ([], tt));
      input = (lend words, (lend_mut old, tt));
      exit = (lend words, (lend_mut (repair_leaves words old), tt));
      lent = refl;
      room = refl;
      leaves = refl;
      allowed = (refl, refl);
    }

pub show-call : (field : List ℕ) → Shows field (shown field)
show-call field = record { κs = ([], tt); input = (lend field, tt); exit = (lend field, tt); lent = refl; allowed = shown-sized field (shown field) refl }

-- ---- any packet on a line can be damaged so

-- other words in the first protected places
abbrev pub struck : List ℕ → List ℕ → List ℕ
struck words us = take 7 words ++ (us ++ drop (length us) (protected_of words)) ++ drop 261 words

narrow-drop : (n : ℕ) (p : List ℕ) → narrow p ≡ true → narrow (drop n p) ≡ true
narrow-drop n p w = below-narrow (drop n p) (drop-below 1024 n p (narrow_below p w))

-- by words of ten bits: those that are not sound count once, and the others twice
pub strike : (words us : List ℕ) → Ordinary words → narrow us ≡ true → worth us ≤ 6 → Delivers words (struck words us)
strike words us o w h =
    let p : List ℕ = protected_of words in
    let few : length us ≤ length p = omega (arith, o.long, length-worth us) in
    record {
      protected = us ++ drop (length us) p;
      long = simp (length-append, length-drop) (omega (arith, o.long));
      ten_bits = narrow-append us _ w (narrow-drop (length us) p o.ten_bits);
      few = omega (arith, front-damage us p few o.sound);
      rest = refl;
    }

-- ---- on from any line

-- a buffer for the words
abbrev room : List ℕ
room = replicate 262 0

-- is a packet on the line?
abbrev waits : Fate → Bool
waits unsent = false
waits waiting = true
waits dropped = false
waits (delivered bytes h) = false

-- an edit, an undo and a send
abbrev edited-on : Scene → ℕ → List ℕ → Scene
edited-on s item bytes = turned s (edited s.desk item bytes).desk (edit_m item bytes s.history)

abbrev undone-on : Scene → Scene
undone-on s = turned s (undone s.desk).desk (undo_to s.history.earlier s.history)

abbrev sent-on : Scene → Scene
sent-on s = send-to s (sent s.desk 262).desk (send_leaves s.desk room)

-- a packet is delivered with damage
abbrev heard-on : Scene → Sent → List ℕ → ℕ → Scene
heard-on s packet us repeated = heard s packet.bytes (followed s.follower (struck packet.words us)) repeated

module _ (s : Scene) (l : Line s) where
  pub edit-on : (item : ℕ) (bytes : List ℕ) → Bytes bytes → Line (edited-on s item bytes)
  edit-on item bytes b = turns l (edits (edit-call s.desk item bytes b))

  pub undo-on : Line (undone-on s)
  undo-on = turns l (undoes (undo-call s.desk))

  pub send-on : waits s.latest.fate ≡ false → Line (sent-on s)
  send-on free = sends l (λ e. never (sym (ap waits e) ∙ free)) refl (send-call s.desk room)

  -- a send that is refused for its room, also while a packet is on the line
  pub no-room-on : (old : List ℕ) → (length old ≡ 262 → ⊥) → Line (turned s (sent s.desk (length old)).desk s.history)
  no-room-on old n = no_room l n (send-call s.desk old)

  module _ (us : List ℕ) (w : narrow us ≡ true) (h : worth us ≤ 6) where
    pub deliver-on : s.latest.fate ≡ waiting → (s.begun ≡ true → s.gap ≤ 13) → Line (heard-on s s.latest us s.repeated)
    deliver-on q few = delivers l q few (strike _ us (waiting-ordinary s l q) w h) (follow-call s.follower _)

    -- a repeat, of the packet sent last and of the one before it
    module _ {bytes : List ℕ} {before : Heard} (q : s.latest.fate ≡ delivered bytes before) where
      pub repeat-on : Line (heard-on s s.latest us (s.repeated + 1))
      repeat-on = repeats l q (strike _ us (latest-ordinary s l _ _ q) w h) (follow-call s.follower _)

      pub repeat-earlier-on : {bytes' : List ℕ} {before' : Heard} → s.earlier.fate ≡ delivered bytes' before' → Line (heard-on s s.earlier us (s.repeated + 1))
      repeat-earlier-on q' = repeats-earlier l q q' (strike _ us (earlier-ordinary s l _ _ q _ _ q') w h) (follow-call s.follower _)

-- so many packets are sent, and each is dropped
abbrev losing : ℕ → Scene → Scene
losing zero s = s
losing (suc n) s = lost (sent-on (losing n s))

module _ (s : Scene) (l : Line s) (free : waits s.latest.fate ≡ false) where
  still-free : (n : ℕ) → waits (losing n s).latest.fate ≡ false
  still-free zero = free
  still-free (suc n) = refl

  pub lose-on : (n : ℕ) → Line (losing n s)
  lose-on zero = l
  lose-on (suc n) = drops (send-on (losing n s) (lose-on n) (still-free n)) refl

-- ---- a line worked out

-- six words that confess; two that do and two that don't; three that don't
abbrev six-confess : List ℕ
six-confess = 0x000 ∷ 0x001 ∷ 0x002 ∷ 0x3FD ∷ 0x3FE ∷ 0x3FF ∷ []

abbrev two-and-two : List ℕ
two-and-two = 0x003 ∷ 0x101 ∷ 0x004 ∷ 0x203 ∷ []

abbrev three-silent : List ℕ
three-silent = 0x101 ∷ 0x102 ∷ 0x203 ∷ []

pub confess : (marks_in (confessed six-confess) ≡ 6) × (marks_in (confessed two-and-two) ≡ 2) × (marks_in (confessed three-silent) ≡ 0)
unfolding marks_in confessed is_sound ones bit
confess = (refl, refl, refl)

-- the packet of this record was delivered last, after so many were missed and so many deliveries were repeats
pub record Reached (bytes : List ℕ) (missed repeated : ℕ) : Type 0 where
  pub scene : Scene
  pub line : Line scene
  pub answer : Heard
  pub latest : scene.latest.fate ≡ delivered bytes answer
  pub shown : shown_by scene.follower ≡ bytes
  pub counted-missed : scene.follower.missed ≡ missed
  pub counted-repeated : scene.follower.repeated ≡ repeated

-- the opening record with the current sound mode 5.1, 0x12
abbrev pub five-one : List ℕ
five-one = put_item 6 (0x12 ∷ []) desk-opening

-- in a frame that is repeated twice, after its first packet came the second time, and after its second did; and after thirteen that were dropped
pub record Worked : Type 0 where
  pub earlier-again : Reached desk-opening 0 3
  pub latest-again : Reached five-one 0 4
  pub after-thirteen : Reached desk-opening 13 4

reached : (s : Scene) (l : Line s) (bytes : List ℕ) (h : Heard) → s.latest.fate ≡ delivered bytes h → s.missed ≤ ceiling → s.repeated ≤ ceiling → Reached bytes s.missed s.repeated
reached s l bytes h w km kr =
    let A = demand-3 s l bytes h w in
    record {
      scene = s;
      line = l;
      answer = h;
      latest = w;
      shown = A.shown;
      counted-missed = A.missed ∙ counted-true s.missed km;
      counted-repeated = A.repeated ∙ counted-true s.repeated kr;
    }

-- Each scene is named by the number of deliveries so far. The desk opens and sends; a send into no room is refused while the packet is on the line; the packet arrives with six words that confess. An edit; the
-- next packet arrives with two that do and two that don't.
abbrev waits-first : Scene
waits-first = sent-on (start (opened true).desk begun)

abbrev refused-once : Scene
refused-once = turned waits-first (sent waits-first.desk 0).desk waits-first.history

abbrev one : Scene
one = heard-on refused-once refused-once.latest six-confess 0

abbrev waits-second : Scene
waits-second = sent-on (edited-on one 6 (0x12 ∷ []))

abbrev two : Scene
two = heard-on waits-second waits-second.latest two-and-two 0

two-line : Line two
unfolding narrow all is_sound ones bit
two-line =
    let l1 = no-room-on waits-first (send-on _ (opens (open-call true) begin-call) refl) [] (λ e. omega arith) in
    let l2 = deliver-on refused-once l1 six-confess refl (omega arith) refl (λ e. never (sym e)) in
    deliver-on waits-second (send-on _ (edit-on one l2 6 (0x12 ∷ []) (lit< tt, tt)) refl) two-and-two refl (omega arith) refl (λ e. omega arith)

-- The frame of these two is repeated twice, each time with other damage.
abbrev three : Scene
three = heard-on two two.earlier three-silent 1

abbrev four : Scene
four = heard-on three three.latest six-confess 2

abbrev five : Scene
five = heard-on four four.earlier two-and-two 3

abbrev six : Scene
six = heard-on five five.latest three-silent 4

five-line : Line five
unfolding narrow all is_sound ones bit
five-line =
    let l3 = repeat-earlier-on two two-line three-silent refl (omega arith) refl refl in
    let l4 = repeat-on three l3 six-confess refl (omega arith) refl in
    repeat-earlier-on four l4 two-and-two refl (omega arith) refl refl

six-line : Line six
unfolding narrow all is_sound ones bit
six-line = repeat-on five five-line three-silent refl (omega arith) refl

-- An undo; thirteen packets are dropped, and the next one arrives.
abbrev waits-last : Scene
waits-last = sent-on (losing 13 (undone-on six))

abbrev last : Scene
last = heard-on waits-last waits-last.latest six-confess 4

last_line : Line last
unfolding narrow all is_sound ones bit
last_line = deliver-on waits-last (send-on _ (lose-on _ (undo-on six six-line) refl 13) refl) six-confess refl (omega arith) refl (λ e. omega arith)

pub worked : Worked
unfolding fresh edit_m send_m item_refusal refused_in clean_of clean_in row_of items sound_rule sound_byte one_of all
worked =
    record {
      earlier-again = reached five five-line desk-opening _ refl (omega arith) (omega arith);
      latest-again = reached six six-line five-one _ refl (omega arith) (omega arith);
      after-thirteen = reached last last_line desk-opening _ refl (omega arith) (omega arith);
    }
