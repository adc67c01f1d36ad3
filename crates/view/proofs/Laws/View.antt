-- The view loses nothing: what passes the rules can be worked out from its view and its private area.
-- Assumes nothing.
use mathlib.Core.Path.{◌≡◌, refl, ap, sym, ◌∙◌}
use mathlib.Core.Bool.{true, false, cond, ◌&&◌}
use mathlib.Core.List.{List, [], ◌∷◌, ◌++◌, flatten, map}
use mathlib.Core.Logic.{◌⊎◌, ⊎_elim}
use mathlib.Core.Option.{none}
use Prim.Native.Nat.{ℕ, ◌+◌, ◌*◌, ◌/◌, ◌%◌, ◌^◌, ◌≤◌, ◌<◌}
use native.Mathlib.Nat.{mod-lt}
use native.Mathlib.Omega.{arith}
use lib.Dec.{eqb}
use lib.ListN.{length, take, drop, get_or, replicate}
use Rattle.std.proofs.lemmas.Bool.Decides.{nat_tests}
use Rattle.std.proofs.lemmas.Bool.{cases_Bool}
use Rattle.rules.specs.Rules.{decimal, time_byte, same_sent, time_rule, only_bit, low_half, bit_for, picture_rule, picture_clean}
use Rattle.record.specs.Record.{laid_out, record_of, broken}
use Rattle.items.specs.Items.{Row, items, part}
use Rattle.std.specs.Prelude.{Option, Some, None}
use Rattle.view.specs.View.{count_of, count_byte, time_word_of, milliseconds_of, time_of, bit_set, picture_of, sound_of, countdown_of, counter_of, counters_of, countdowns_of, pair_of, quad_of, view_of, packed, time_word_byte, milliseconds_bytes, time_bytes, bit_back, picture_bytes, sound_mode_byte, countdown_byte, counter_byte, counters_bytes, countdowns_bytes, pair_bytes, quad_bytes, bytes_of}
use Rattle.record.proofs.Laws.Record.{record-halves}
use Rattle.basics.proofs.Laws.Parts.{entries, part-entries, same-cons}

-- two lists that are joined
same-join : {a b l m : List ℕ} → a ≡ b → l ≡ m → a ++ l ≡ b ++ m
same-join e f = λ i. e i ++ f i

-- ---- the rules, one by one

-- each item keeps its rule
abbrev pub Keeps : List Row → List ℕ → Type 0
Keeps [] bytes = Unit {0}
Keeps (i ∷ is) bytes = (i.rule (part i bytes) ≡ true) × Keeps is bytes

-- where no rule is broken each is kept
pub none-broken : (is : List Row) (bytes : List ℕ) → broken is bytes ≡ none → Keeps is bytes
unfolding broken
none-broken [] bytes e = tt
none-broken (i ∷ is) bytes e = (grind arith, none-broken is bytes (grind arith))

-- ---- time

pub time-word-back : (low high b : ℕ) → time_byte low high b ≡ true → time_word_byte (time_word_of b) ≡ b
unfolding time_word_byte time_word_of time_byte packed decimal
time-word-back low high b e = grind (arith, nat_tests)

pub milliseconds-back : (h l : ℕ) → time_byte 0 9 h ≡ true → time_byte 0 99 l ≡ true → same_sent (eqb h 0xFF) (eqb l 0xFF) ≡ true
    → milliseconds_bytes (milliseconds_of h l) ≡ h ∷ l ∷ []
unfolding milliseconds_bytes milliseconds_of time_byte packed decimal
milliseconds-back h l eh el same = grind (arith, nat_tests)

-- the nine bytes of the time
pub time-back : (bytes : List ℕ) → time_rule (entries 9 8 bytes) ≡ true → time_bytes (time_of bytes) ≡ entries 9 8 bytes
unfolding time_bytes time_of time_rule
time-back bytes e =
    same-cons (time-word-back 0 99 _ (grind arith))
    (same-cons (time-word-back 1 12 _ (grind arith))
    (same-cons (time-word-back 1 31 _ (grind arith))
    (same-cons (time-word-back 0 6 _ (grind arith))
    (same-cons (time-word-back 0 23 _ (grind arith))
    (same-cons (time-word-back 0 59 _ (grind arith))
    (same-cons (time-word-back 0 59 _ (grind arith))
    (milliseconds-back _ _ (grind arith) (grind arith) (grind arith))))))))

-- ---- picture

-- a binary digit, tested and put back
digit-back : (d k : ℕ) → d < 2 → cond (eqb d 1) k 0 ≡ d * k
digit-back d k h = grind (arith, nat_tests)

bit-back : (i b : ℕ) → bit_back i (bit_set i b) ≡ only_bit i b
unfolding only_bit
bit-back i b = digit-back (b / 2 ^ i % 2) (2 ^ i) (mod-lt (b / 2 ^ i) (omega arith))

-- a bit that is read for one W0
bit-for-back : (v w i b : ℕ) → bit_back i (eqb w v && bit_set i b) ≡ bit_for v w i b
unfolding bit_for
bit-for-back v w i b = grind (arith, nat_tests, bit-back)

-- W0 is 0x00, or 0x80 and a format
picture-cases : (w : List ℕ) → picture_rule w ≡ true
    → (eqb (get_or w 0 0) 0x00 ≡ true) ⊎ ((eqb (get_or w 0 0) 0x00 ≡ false) × (0x80 + get_or w 0 0 % 128 ≡ get_or w 0 0))
unfolding picture_rule
picture-cases w e = grind (arith, nat_tests)

-- W0 to W3 come back cleaned
pub picture-back : (a b c d : ℕ) → picture_rule (a ∷ b ∷ c ∷ d ∷ []) ≡ true
    → picture_bytes (picture_of a b c d) ≡ picture_clean (a ∷ b ∷ c ∷ d ∷ [])
unfolding picture_bytes picture_of picture_clean
picture-back a b c d e =
    ⊎_elim
    (λ w. rw w)
    (λ w. rw w.0
    (same-cons w.1
    (same-cons (λ i. bit-for-back 0x85 a 7 b i + bit-back 6 b i + low_half b)
    (same-cons (λ i. bit-back 7 c i + bit-for-back 0x81 a 6 c i + bit-back 5 c i + low_half c)
    (same-cons (λ i. bit-for-back 0x82 a 6 d i + bit-back 0 d i) refl)))))
    (picture-cases (a ∷ b ∷ c ∷ d ∷ []) e)

-- ---- a cleaned picture mode says what it said before

-- each part of W1, W2 and W3, cleaned
module _ (w b : ℕ) where
  abbrev w1 : ℕ
  w1 = bit_for 0x85 w 7 b + only_bit 6 b + low_half b

  abbrev w2 : ℕ
  w2 = only_bit 7 b + bit_for 0x81 w 6 b + only_bit 5 b + low_half b

  abbrev w3 : ℕ
  w3 = bit_for 0x82 w 6 b + only_bit 0 b

  transport-again : (eqb w 0x85 && bit_set 7 w1) ≡ (eqb w 0x85 && bit_set 7 b)
  unfolding bit_for only_bit low_half
  transport-again = grind (arith, nat_tests)

  progressive-again : bit_set 6 w1 ≡ bit_set 6 b
  unfolding bit_for only_bit low_half
  progressive-again = grind (arith, nat_tests)

  rate-again : w1 % 16 ≡ b % 16
  unfolding bit_for only_bit low_half
  rate-again = grind (arith, nat_tests)

  wide-again : bit_set 7 w2 ≡ bit_set 7 b
  unfolding bit_for only_bit low_half
  wide-again = grind (arith, nat_tests)

  samples-again : (eqb w 0x81 && bit_set 6 w2) ≡ (eqb w 0x81 && bit_set 6 b)
  unfolding bit_for only_bit low_half
  samples-again = grind (arith, nat_tests)

  display-again : bit_set 5 w2 ≡ bit_set 5 b
  unfolding bit_for only_bit low_half
  display-again = grind (arith, nat_tests)

  sampling-again : w2 % 16 ≡ b % 16
  unfolding bit_for only_bit low_half
  sampling-again = grind (arith, nat_tests)

  link-again : (eqb w 0x82 && bit_set 6 w3) ≡ (eqb w 0x82 && bit_set 6 b)
  unfolding bit_for only_bit
  link-again = grind (arith, nat_tests)

  ten-again : bit_set 0 w3 ≡ bit_set 0 b
  unfolding bit_for only_bit
  ten-again = grind (arith, nat_tests)

-- cleaned, there are still four bytes
clean-entries : (w : List ℕ) → picture_clean w ≡ entries 4 0 (picture_clean w)
unfolding picture_clean
clean-entries w = grind (arith, nat_tests)

-- the view is that of the bytes before
picture-again : (w : List ℕ) → let k : List ℕ = picture_clean w in
    picture_of (get_or k 0 0) (get_or k 1 0) (get_or k 2 0) (get_or k 3 0) ≡ picture_of (get_or w 0 0) (get_or w 1 0) (get_or w 2 0) (get_or w 3 0)
unfolding picture_clean picture_of low_half
picture-again w =
    let a : ℕ = get_or w 0 0 in
    let b : ℕ = get_or w 1 0 in
    let c : ℕ = get_or w 2 0 in
    let d : ℕ = get_or w 3 0 in
    ⊎_elim (λ e. rw e)
    (λ (e : eqb a 0x00 ≡ false). rw (e, e)
    (λ i.
    Some
    (record {
      format = a % 128;
      transport_progressive = transport-again a b i;
      progressive = progressive-again a b i;
      frame_rate = rate-again a b i;
      wide_picture = wide-again a c i;
      samples_960 = samples-again a c i;
      wide_display = display-again a c i;
      sampling = sampling-again a c i;
      second_link = link-again a d i;
      ten_bits = ten-again a d i;
    })))
    (cases_Bool (eqb a 0x00))

-- ---- the other items

pub sound_back : (b : ℕ) → sound_mode_byte (sound_of b) ≡ b
unfolding sound_mode_byte sound_of
sound_back b = grind (arith, nat_tests)

count-back : (b : ℕ) → count_byte (count_of b) ≡ b
unfolding count_byte count_of
count-back b = grind (arith, nat_tests)

pub countdown-back : (b : ℕ) → countdown_byte (countdown_of b) ≡ b
countdown-back b = count-back b

pub counter-back : (b : ℕ) → counter_byte (counter_of b) ≡ b
counter-back b = count-back b

-- and four of them in a row
module _ (of : ℕ → Option ℕ) (byte : Option ℕ → ℕ) (back : (b : ℕ) → byte (of b) ≡ b) where
  four-back : (a b c d : ℕ) → map byte (of a ∷ of b ∷ of c ∷ of d ∷ []) ≡ a ∷ b ∷ c ∷ d ∷ []
  four-back a b c d = same-cons (back a) (same-cons (back b) (same-cons (back c) (same-cons (back d) refl)))

pub counters-back : (bytes : List ℕ) → counters_bytes (counters_of bytes) ≡ entries 4 33 bytes
unfolding counters_bytes counters_of
counters-back bytes = four-back counter_of counter_byte counter-back _ _ _ _

pub countdowns-back : (bytes : List ℕ) → countdowns_bytes (countdowns_of bytes) ≡ entries 4 37 bytes
unfolding countdowns_bytes countdowns_of
countdowns-back bytes = four-back countdown_of countdown_byte countdown-back _ _ _ _

-- the first of several bytes
low_byte : (a m : ℕ) → a < 256 → (a + 256 * m) % 256 ≡ a
low_byte a m h = omega arith

pub pair-back : (a b : ℕ) → a < 256 → pair_bytes (pair_of a b) ≡ a ∷ b ∷ []
unfolding pair_bytes
pair-back a b ha = grind arith

pub quad-back : (a b c d : ℕ) → a < 256 → b < 256 → c < 256 → quad_bytes (quad_of a b c d) ≡ a ∷ b ∷ c ∷ d ∷ []
unfolding quad_bytes
quad-back a b c d ha hb hc = grind arith

-- ---- the whole

module _ (bytes : List ℕ) (long : length bytes ≡ 248) where
  -- a part of the first 248 bytes
  within : (n i : ℕ) → i + n ≤ 248 → take n (drop i bytes) ≡ entries n i bytes
  within n i h = part-entries n i bytes (omega arith)

  module _ (small : (i : ℕ) → get_or bytes i 0 < 256) (keeps : broken items bytes ≡ none) where
    -- the items before the private area, cleaned, are the way back from the view
    items_back : laid_out 1 (take 12 items) bytes ≡ bytes_of (view_of bytes)
    unfolding laid_out items part flatten bytes_of view_of
    items_back =
        let at : ℕ → ℕ = λ i. get_or bytes i 0 in
        let kept : Keeps items bytes = none-broken items bytes keeps in
        let w2 : take 9 (drop 8 bytes) ≡ entries 9 8 bytes = within 9 8 (omega arith) in
        let w3 : take 4 (drop 17 bytes) ≡ entries 4 17 bytes = within 4 17 (omega arith) in
        let w4 : take 4 (drop 21 bytes) ≡ entries 4 21 bytes = within 4 21 (omega arith) in
        ap (λ (rest : List ℕ). take 8 bytes ++ rest)
        (same-join (w2 ∙ sym (time-back bytes (ap time_rule (sym w2) ∙ kept.1.0)))
        (same-join (ap picture_clean w3 ∙ sym (picture-back (at 17) (at 18) (at 19) (at 20) (ap picture_rule (sym w3) ∙ kept.1.1.0)))
        (same-join (ap picture_clean w4 ∙ sym (picture-back (at 21) (at 22) (at 23) (at 24) (ap picture_rule (sym w4) ∙ kept.1.1.1.0)))
        (same-join (within 1 25 (omega arith) ∙ sym (same-cons (countdown-back (at 25)) refl))
        (same-join (within 1 26 (omega arith) ∙ sym (same-cons (sound_back (at 26)) refl))
        (same-join (within 1 27 (omega arith) ∙ sym (same-cons (sound_back (at 27)) refl))
        (same-join (within 1 28 (omega arith) ∙ sym (same-cons (countdown-back (at 28)) refl))
        (same-join (within 4 29 (omega arith) ∙ sym (quad-back (at 29) (at 30) (at 31) (at 32) (small 29) (small 30) (small 31)))
        (same-join (within 4 33 (omega arith) ∙ sym (counters-back bytes))
        (same-join (within 4 37 (omega arith) ∙ sym (countdowns-back bytes))
        (same-join (within 2 41 (omega arith) ∙ sym (pair-back (at 41) (at 42) (small 41))) refl)))))))))))

    -- the record, from the view and the private area
    pub view-whole : record_of bytes ≡ bytes_of (view_of bytes) ++ replicate 64 0 ++ drop 107 bytes
    view-whole = record-halves bytes long ∙ ap (λ (l : List ℕ). l ++ replicate 64 0 ++ drop 107 bytes) items_back

  -- these items as 43 entries
  abbrev listed : List ℕ
  listed =
      entries 17 0 bytes
      ++ entries 4 0 (picture_clean (entries 4 17 bytes))
      ++ entries 4 0 (picture_clean (entries 4 21 bytes))
      ++ entries 18 25 bytes

  items-listed : laid_out 1 (take 12 items) bytes ≡ listed
  unfolding laid_out items part
  items-listed =
      same-join (within 8 0 (omega arith))
      (same-join (within 9 8 (omega arith))
      (same-join (ap picture_clean (within 4 17 (omega arith)) ∙ clean-entries (entries 4 17 bytes))
      (same-join (ap picture_clean (within 4 21 (omega arith)) ∙ clean-entries (entries 4 21 bytes))
      (same-join (within 1 25 (omega arith))
      (same-join (within 1 26 (omega arith))
      (same-join (within 1 27 (omega arith))
      (same-join (within 1 28 (omega arith))
      (same-join (within 4 29 (omega arith))
      (same-join (within 4 33 (omega arith))
      (same-join (within 4 37 (omega arith))
      (same-join (within 2 41 (omega arith)) refl)))))))))))

  -- the view doesn't see what cleaning takes away
  pub view-of-record : view_of (record_of bytes) ≡ view_of bytes
  unfolding view_of time_of counters_of countdowns_of
  view-of-record =
      ap view_of (record-halves bytes long ∙ ap (λ (l : List ℕ). l ++ replicate 64 0 ++ drop 107 bytes) items-listed)
      ∙ (λ i.
      record {
        station = sym (within 8 0 (omega arith)) i;
        time = time_of bytes;
        picture = picture-again (entries 4 17 bytes) i;
        next_picture = picture-again (entries 4 21 bytes) i;
        picture_countdown = countdown_of (get_or bytes 25 0);
        sound = sound_of (get_or bytes 26 0);
        next_sound = sound_of (get_or bytes 27 0);
        sound_countdown = countdown_of (get_or bytes 28 0);
        triggers = quad_of (get_or bytes 29 0) (get_or bytes 30 0) (get_or bytes 31 0) (get_or bytes 32 0);
        counters = counters_of bytes;
        countdowns = countdowns_of bytes;
        status = pair_of (get_or bytes 41 0) (get_or bytes 42 0);
      })

-- ---- worked values

time-value : (time_word_of 0x59 ≡ Some 59) × (time_word_of 0xFF ≡ None) × (milliseconds_of 0x09 0x87 ≡ Some 987)
unfolding time_word_of milliseconds_of decimal
time-value = (refl, refl, refl)

sound-value : (sound_of 0x91 ≡ Some (record { mode = 0x11; downmix = 4 })) × (sound_of 0x00 ≡ None)
unfolding sound_of
sound-value = (refl, refl)

-- 0x85 reads b7 of W1, and neither b6 of W2 nor b6 of W3
picture-value :
    picture_of 0x85 0xC3 0xE5 0x41
    ≡ Some
    (record {
      format = 5;
      transport_progressive = true;
      progressive = true;
      frame_rate = 3;
      wide_picture = true;
      samples_960 = false;
      wide_display = true;
      sampling = 5;
      second_link = false;
      ten_bits = true;
    })
unfolding picture_of low_half
picture-value = refl
