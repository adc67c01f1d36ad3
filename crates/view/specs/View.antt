-- The view of the record: what its bytes stand for, and the way back from the view to the items' bytes in the record.
-- Assumes nothing.
use Rattle.std.specs.Prelude.{Bool, cond, Option, Some, None, ◌&&◌, ℕ, ◌+◌, ◌*◌, ◌/◌, ◌%◌, ◌^◌, eqb, take, get_or}
use mathlib.Core.List.{List, [], ◌∷◌, flatten, map}
use Rattle.rules.specs.Rules.{decimal, low_half}
use Rattle.view.specs.declared.Time.{Time}
use Rattle.view.specs.declared.Picture.{Picture}
use Rattle.view.specs.declared.Sound.{Sound}
use Rattle.view.specs.declared.RecordView.{RecordView}

-- ---- the view of each kind of item

-- a byte of the time: 0xFF is not sent
unfoldable pub time_word_of : ℕ → Option ℕ
time_word_of b = cond (eqb b 0xFF) None (Some (decimal b))

-- hundreds of milliseconds, then tens and units: the rules see to it that both are sent or neither is
unfoldable pub milliseconds_of : ℕ → ℕ → Option ℕ
milliseconds_of h l = cond (eqb h 0xFF) None (Some (decimal h * 100 + decimal l))

-- is bit i set, b0 the lowest?
abbrev pub bit_set : ℕ → ℕ → Bool
bit_set i b = eqb (b / 2 ^ i % 2) 1

-- W0 to W3: W0 is 0x00 for an unused mode, else 0x80 and the format; three bits are read for one format alone
unfoldable pub picture_of : ℕ → ℕ → ℕ → ℕ → Option Picture
picture_of w0 w1 w2 w3 =
    cond (eqb w0 0x00) None
    (Some
    (record {
      format = w0 % 128;
      transport_progressive = eqb w0 0x85 && bit_set 7 w1;
      progressive = bit_set 6 w1;
      frame_rate = low_half w1;
      wide_picture = bit_set 7 w2;
      samples_960 = eqb w0 0x81 && bit_set 6 w2;
      wide_display = bit_set 5 w2;
      sampling = low_half w2;
      second_link = eqb w0 0x82 && bit_set 6 w3;
      ten_bits = bit_set 0 w3;
    }))

-- b4 to b0 are the mode and b7 to b5 the downmix; 0x00 is an unused mode
unfoldable pub sound_of : ℕ → Option Sound
sound_of b = cond (eqb b 0x00) None (Some (record { mode = b % 32; downmix = b / 32 }))

-- a count of 0 to 254: 0xFF is none
unfoldable pub count_of : ℕ → Option ℕ
count_of b = cond (eqb b 0xFF) None (Some b)

-- 0xFF is not running
abbrev pub countdown_of : ℕ → Option ℕ
countdown_of b = count_of b

-- 0xFF is not in use
abbrev pub counter_of : ℕ → Option ℕ
counter_of b = count_of b

-- ---- the view of the whole; bytes are counted from 0

unfoldable pub time_of : List ℕ → Time
time_of bytes =
    record {
      year = time_word_of (get_or bytes 8 0);
      month = time_word_of (get_or bytes 9 0);
      day = time_word_of (get_or bytes 10 0);
      weekday = time_word_of (get_or bytes 11 0);
      hour = time_word_of (get_or bytes 12 0);
      minute = time_word_of (get_or bytes 13 0);
      second = time_word_of (get_or bytes 14 0);
      milliseconds = milliseconds_of (get_or bytes 15 0) (get_or bytes 16 0);
    }

-- four in a row, from byte i on, each as `of` has it
abbrev pub counts_of : (ℕ → Option ℕ) → List ℕ → ℕ → List (Option ℕ)
counts_of of bytes i = of (get_or bytes i 0) ∷ of (get_or bytes (i + 1) 0) ∷ of (get_or bytes (i + 2) 0) ∷ of (get_or bytes (i + 3) 0) ∷ []

unfoldable pub counters_of : List ℕ → List (Option ℕ)
counters_of bytes = counts_of counter_of bytes 33

unfoldable pub countdowns_of : List ℕ → List (Option ℕ)
countdowns_of bytes = counts_of countdown_of bytes 37

-- bytes as a number, the first lowest
abbrev pub pair_of : ℕ → ℕ → ℕ
pair_of a b = a + 256 * b

abbrev pub quad_of : ℕ → ℕ → ℕ → ℕ → ℕ
quad_of a b c d = a + 256 * b + 65536 * c + 16777216 * d

unfoldable pub view_of : List ℕ → RecordView
view_of bytes =
    record {
      station = take 8 bytes;
      time = time_of bytes;
      picture = picture_of (get_or bytes 17 0) (get_or bytes 18 0) (get_or bytes 19 0) (get_or bytes 20 0);
      next_picture = picture_of (get_or bytes 21 0) (get_or bytes 22 0) (get_or bytes 23 0) (get_or bytes 24 0);
      picture_countdown = countdown_of (get_or bytes 25 0);
      sound = sound_of (get_or bytes 26 0);
      next_sound = sound_of (get_or bytes 27 0);
      sound_countdown = countdown_of (get_or bytes 28 0);
      triggers = quad_of (get_or bytes 29 0) (get_or bytes 30 0) (get_or bytes 31 0) (get_or bytes 32 0);
      counters = counters_of bytes;
      countdowns = countdowns_of bytes;
      status = pair_of (get_or bytes 41 0) (get_or bytes 42 0);
    }

-- ---- the way back

-- a number below 100 as a packed decimal byte
unfoldable pub packed : ℕ → ℕ
packed n = n / 10 * 16 + n % 10

unfoldable pub time_word_byte : Option ℕ → ℕ
time_word_byte (Some n) = packed n
time_word_byte None = 0xFF

unfoldable pub milliseconds_bytes : Option ℕ → List ℕ
milliseconds_bytes (Some n) = packed (n / 100) ∷ packed (n % 100) ∷ []
milliseconds_bytes None = 0xFF ∷ 0xFF ∷ []

unfoldable pub time_bytes : Time → List ℕ
time_bytes t =
    time_word_byte t.year
    ∷ time_word_byte t.month
    ∷ time_word_byte t.day
    ∷ time_word_byte t.weekday
    ∷ time_word_byte t.hour
    ∷ time_word_byte t.minute
    ∷ time_word_byte t.second
    ∷ milliseconds_bytes t.milliseconds

-- a bit in its place
abbrev pub bit_back : ℕ → Bool → ℕ
bit_back i t = cond t (2 ^ i) 0

unfoldable pub picture_bytes : Option Picture → List ℕ
picture_bytes None = 0 ∷ 0 ∷ 0 ∷ 0 ∷ []
picture_bytes (Some p) =
    (0x80 + p.format)
    ∷ (bit_back 7 p.transport_progressive + bit_back 6 p.progressive + p.frame_rate)
    ∷ (bit_back 7 p.wide_picture + bit_back 6 p.samples_960 + bit_back 5 p.wide_display + p.sampling)
    ∷ (bit_back 6 p.second_link + bit_back 0 p.ten_bits)
    ∷ []

unfoldable pub sound_mode_byte : Option Sound → ℕ
sound_mode_byte None = 0
sound_mode_byte (Some s) = s.downmix * 32 + s.mode

unfoldable pub count_byte : Option ℕ → ℕ
count_byte (Some n) = n
count_byte None = 0xFF

abbrev pub countdown_byte : Option ℕ → ℕ
countdown_byte o = count_byte o

abbrev pub counter_byte : Option ℕ → ℕ
counter_byte o = count_byte o

unfoldable pub counters_bytes : List (Option ℕ) → List ℕ
counters_bytes q = map counter_byte q

unfoldable pub countdowns_bytes : List (Option ℕ) → List ℕ
countdowns_bytes q = map countdown_byte q

unfoldable pub pair_bytes : ℕ → List ℕ
pair_bytes n = n % 256 ∷ n / 256 ∷ []

unfoldable pub quad_bytes : ℕ → List ℕ
quad_bytes n = n % 256 ∷ n / 256 % 256 ∷ n / 65536 % 256 ∷ n / 16777216 ∷ []

-- the 43 bytes of the items
unfoldable pub bytes_of : RecordView → List ℕ
bytes_of v =
    flatten
    (v.station
    ∷ time_bytes v.time
    ∷ picture_bytes v.picture
    ∷ picture_bytes v.next_picture
    ∷ (countdown_byte v.picture_countdown ∷ [])
    ∷ (sound_mode_byte v.sound ∷ [])
    ∷ (sound_mode_byte v.next_sound ∷ [])
    ∷ (countdown_byte v.sound_countdown ∷ [])
    ∷ quad_bytes v.triggers
    ∷ counters_bytes v.counters
    ∷ countdowns_bytes v.countdowns
    ∷ pair_bytes v.status
    ∷ [])
