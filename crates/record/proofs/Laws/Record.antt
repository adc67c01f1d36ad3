-- The record of 248 bytes: the runs that it is made of, what stands at each place of it, that it is a record itself and is refused for
-- the same but for the reserved area, and how it is written over the bytes.
-- Assumes nothing.
use mathlib.Core.Path.{◌≡◌, refl, sym, ap, ◌∙◌}
use mathlib.Core.List.{List, [], ◌∷◌, ◌++◌, append-nil, append_assoc}
use mathlib.Core.Option.{none}
use Prim.Native.Nat.{ℕ, ◌+◌, ◌<◌}
use native.Mathlib.Nat.{zero-add}
use native.Mathlib.Omega.{arith}
use lib.ListN.{length, get_or, take, drop, replicate, length-append, length-drop, get_or-replicate, take-append-drop}
use lib.Seq.{length-take-le, take_all, take_at, drop_at, drop-drop, get_or-drop}
use lib.Dec.{lit<}
use borrow.Rule.Slice.PartMut.{put_mid}
use Rattle.rules.specs.Rules.{picture_clean}
use Rattle.record.specs.Reserved.{reserved_area}
use Rattle.record.specs.Record.{laid_out, record_of, broken, content_refusal, record_refusal}
use Rattle.items.specs.Items.{Row, items, part}
use Rattle.record.specs.Written.{written_refusal, written}
use Rattle.basics.specs.Below.{Bytes}
use Rattle.basics.proofs.Laws.Below.{entry-below, append-below, take_below, drop-below, replicate-below}
use Rattle.basics.proofs.Laws.Parts.{run_length, join, skip, part_same, entry-same, over}
use Rattle.record.proofs.Laws.Checks.{six_checks}
use Rattle.record.proofs.Laws.Reserved.{area-at, zero-content, content-zero, content-decides}
use Rattle.rules.proofs.Laws.Clean.{clean-length, clean-bytes, clean-again, clean-rule}

-- ---- six runs: up to the picture modes, the two modes, from there to the reserved area, that, and the private area

abbrev pub runs : (a p q b z d : List ℕ) → List ℕ
runs a p q b z d = a ++ (p ++ (q ++ (b ++ (z ++ d))))

-- what stands in each run
record Runs (r a p q b z d : List ℕ) : Type 0 where
  front : take 17 r ≡ a
  current : take 4 (drop 17 r) ≡ p
  next : take 4 (drop 21 r) ≡ q
  middle : take 18 (drop 25 r) ≡ b
  reserved : take 64 (drop 43 r) ≡ z
  private : drop 107 r ≡ d

runs-are : (a p q b z d : List ℕ) → length a ≡ 17 → length p ≡ 4 → length q ≡ 4 → length b ≡ 18 → length z ≡ 64
    → Runs (runs a p q b z d) a p q b z d
runs-are a p q b z d la lp lq lb lz =
    let after-a : drop 17 (runs a p q b z d) ≡ p ++ (q ++ (b ++ (z ++ d))) = drop_at a _ 17 la in
    let after-p : drop 21 (runs a p q b z d) ≡ q ++ (b ++ (z ++ d)) = skip a _ 17 4 la ∙ drop_at p _ 4 lp in
    let after-q : drop 25 (runs a p q b z d) ≡ b ++ (z ++ d) = skip a _ 17 8 la ∙ skip p _ 4 4 lp ∙ drop_at q _ 4 lq in
    let after-b : drop 43 (runs a p q b z d) ≡ z ++ d =
    skip a _ 17 26 la ∙ skip p _ 4 22 lp ∙ skip q _ 4 18 lq ∙ drop_at b _ 18 lb in
    let after-z : drop 107 (runs a p q b z d) ≡ d =
    skip a _ 17 90 la ∙ skip p _ 4 86 lp ∙ skip q _ 4 82 lq ∙ skip b _ 18 64 lb ∙ drop_at z _ 64 lz in
    record {
      front = take_at a _ 17 la;
      current = rw after-a (take_at p _ 4 lp);
      next = rw after-p (take_at q _ 4 lq);
      middle = rw after-q (take_at b _ 18 lb);
      reserved = rw after-b (take_at z _ 64 lz);
      private = after-z;
    }

-- ---- a table laid out in two

-- the number of the byte behind these items; n where there are none
abbrev past_of : ℕ → List Row → ℕ
past_of n [] = n
past_of n (i ∷ is) = past_of (i.first + i.long) is

laid_on : (n : ℕ) (is js : List Row) (bytes : List ℕ) → laid_out n (is ++ js) bytes ≡ laid_out n is bytes ++ laid_out (past_of n is) js bytes
unfolding laid_out
laid_on n [] js bytes = refl
laid_on n (i ∷ is) js bytes = rw (laid_on (i.first + i.long) is js bytes) (simp append_assoc)

-- ---- the runs of the record

-- the picture mode behind s bytes, cleaned
abbrev pub mode_at : ℕ → List ℕ → List ℕ
mode_at s bytes = picture_clean (take 4 (drop s bytes))

-- a run, the one behind it, and what follows
join-on : (l : List ℕ) (s n m : ℕ) (x : List ℕ) → take n (drop s l) ++ (take m (drop (s + n) l) ++ x) ≡ take (n + m) (drop s l) ++ x
join-on l s n m x = sym (append_assoc (take n (drop s l)) (take m (drop (s + n) l)) x) ∙ ap (λ (r : List ℕ). r ++ x) (join l s n m _ refl)

middle-join : (l x : List ℕ)
    → take 1 (drop 25 l) ++ (take 1 (drop 26 l) ++ (take 1 (drop 27 l) ++ (take 1 (drop 28 l) ++ (take 4 (drop 29 l) ++ (take 4 (drop 33 l) ++ (take 4 (drop 37 l) ++ (take 2 (drop 41 l) ++ x))))))) ≡ take 18 (drop 25 l) ++ x
middle-join l x =
    join-on l 25 1 1 _ ∙ join-on l 25 2 1 _ ∙ join-on l 25 3 1 _ ∙ join-on l 25 4 4 _ ∙ join-on l 25 8 4 _ ∙ join-on l 25 12 4 _ ∙ join-on l 25 16 2 x

-- the private area as the item that it is
abbrev pub private_run : List ℕ → List ℕ
private_run bytes = take 141 (drop 107 bytes)

pub record-runs : (bytes : List ℕ) → record_of bytes ≡ runs (take 17 bytes) (mode_at 17 bytes) (mode_at 21 bytes) (take 18 (drop 25 bytes)) (replicate 64 0) (private_run bytes)
unfolding record_of laid_out items part
record-runs bytes =
    join-on bytes 0 8 9 _
    ∙ ap (λ (r : List ℕ). take 17 bytes ++ (mode_at 17 bytes ++ (mode_at 21 bytes ++ r)))
    (middle-join bytes _ ∙ ap (λ (r : List ℕ). take 18 (drop 25 bytes) ++ (replicate 64 0 ++ r)) (append-nil (private_run bytes)))

module _ (bytes : List ℕ) (h : length bytes ≡ 248) where
  l17 : length (take 17 bytes) ≡ 17
  l17 = length-take-le 17 bytes (omega arith)

  l18 : length (take 18 (drop 25 bytes)) ≡ 18
  l18 = run_length bytes 25 18 (omega arith)

  l141 : length (private_run bytes) ≡ 141
  l141 = run_length bytes 107 141 (omega arith)

  -- all that is behind the reserved area
  pub private-rest : private_run bytes ≡ drop 107 bytes
  private-rest = take_all 141 (drop 107 bytes) (simp length-drop (omega arith))

  -- the items before the reserved area, that, and the private area
  pub record-halves : record_of bytes ≡ laid_out 1 (take 12 items) bytes ++ replicate 64 0 ++ drop 107 bytes
  unfolding record_of laid_out items part
  record-halves =
      laid_on 1 (take 12 items) (drop 12 items) bytes
      ∙ ap (λ (d : List ℕ). laid_out 1 (take 12 items) bytes ++ (replicate 64 0 ++ d)) (append-nil (private_run bytes) ∙ private-rest)
      ∙ sym (append_assoc (laid_out 1 (take 12 items) bytes) (replicate 64 0) (drop 107 bytes))

  pub record-length : length (record_of bytes) ≡ 248
  record-length =
      rw (record-runs bytes)
      (simp (length-append, l17, clean-length, l18, l141) (omega arith))

  record-in-runs : Runs (record_of bytes) (take 17 bytes) (mode_at 17 bytes) (mode_at 21 bytes) (take 18 (drop 25 bytes)) (replicate 64 0) (private_run bytes)
  record-in-runs =
      rw (record-runs bytes)
      (runs-are (take 17 bytes) (mode_at 17 bytes) (mode_at 21 bytes) (take 18 (drop 25 bytes)) (replicate 64 0) (private_run bytes)
      l17 (clean-length (take 4 (drop 17 bytes))) (clean-length (take 4 (drop 21 bytes))) l18 refl)

  -- up to the picture modes it is the bytes
  pub record-front : take 17 (record_of bytes) ≡ take 17 bytes
  record-front = record-in-runs.front

  -- the picture modes are cleaned
  pub record-current : take 4 (drop 17 (record_of bytes)) ≡ mode_at 17 bytes
  record-current = record-in-runs.current

  pub record-next : take 4 (drop 21 (record_of bytes)) ≡ mode_at 21 bytes
  record-next = record-in-runs.next

  -- from there to the reserved area it is the bytes
  pub record-middle : take 18 (drop 25 (record_of bytes)) ≡ take 18 (drop 25 bytes)
  record-middle = record-in-runs.middle

  -- the reserved area is zero
  pub record-reserved : reserved_area (record_of bytes) ≡ replicate 64 0
  unfolding reserved_area
  record-reserved = record-in-runs.reserved

  -- the private area is the bytes
  pub record-private : drop 107 (record_of bytes) ≡ drop 107 bytes
  record-private = record-in-runs.private ∙ private-rest

  -- ---- what stands at each place

  pub record-at-front : (i : ℕ) → i < 17 → get_or (record_of bytes) i 0 ≡ get_or bytes i 0
  record-at-front i k =
      let same : get_or (record_of bytes) (0 + i) 0 ≡ get_or bytes (0 + i) 0 = entry-same (record_of bytes) bytes 0 17 i record-front k in
      rw zero-add at same

  pub record-at-middle : (i : ℕ) → i < 18 → get_or (record_of bytes) (25 + i) 0 ≡ get_or bytes (25 + i) 0
  record-at-middle i k = entry-same (record_of bytes) bytes 25 18 i record-middle k

  pub record-at-reserved : (i : ℕ) → i < 64 → get_or (record_of bytes) (43 + i) 0 ≡ 0
  record-at-reserved i k = sym (area-at (record_of bytes) i k) ∙ ap (λ (l : List ℕ). get_or l i 0) record-reserved ∙ get_or-replicate 64 i 0 0 k

  pub record-at-private : (i : ℕ) → get_or (record_of bytes) (107 + i) 0 ≡ get_or bytes (107 + i) 0
  record-at-private i = sym (get_or-drop 107 (record_of bytes) i 0) ∙ ap (λ (l : List ℕ). get_or l i 0) record-private ∙ get_or-drop 107 bytes i 0

  -- ---- the record of a record is itself, and is refused for its items as the bytes are; never for its reserved area

  pub record-idem : record_of (record_of bytes) ≡ record_of bytes
  record-idem =
      record-runs (record_of bytes)
      ∙ rw (record-front, record-current, record-next, record-middle, record-private, clean-again (take 4 (drop 17 bytes)), clean-again (take 4 (drop 21 bytes)))
      (sym (record-runs bytes))

  pub record-rules : broken items (record_of bytes) ≡ broken items bytes
  record-rules =
      let station : take 8 (record_of bytes) ≡ take 8 bytes = part_same (record_of bytes) bytes 0 17 0 8 record-front (omega arith) in
      let time : take 9 (drop 8 (record_of bytes)) ≡ take 9 (drop 8 bytes) = part_same (record_of bytes) bytes 0 17 8 9 record-front (omega arith) in
      let current : get_or (record_of bytes) 26 0 ≡ get_or bytes 26 0 = record-at-middle 1 (omega arith) in
      let next : get_or (record_of bytes) 27 0 ≡ get_or bytes 27 0 = record-at-middle 2 (omega arith) in
      six_checks (record_of bytes) record-length
      ∙ rw (station, time, record-current, record-next, clean-rule (take 4 (drop 17 bytes)), clean-rule (take 4 (drop 21 bytes)), current, next)
      (sym (six_checks bytes h))

  pub record-content : content_refusal (record_of bytes) ≡ broken items bytes
  record-content = zero-content (record_of bytes) record-reserved ∙ record-rules

  pub record-refusal : record_refusal (record_of bytes) ≡ broken items bytes
  record-refusal = content-decides (record_of bytes) record-length ∙ record-content

  -- ---- nothing of the reserved area is lost in the record of bytes that are not refused

  pub record-keeps : content_refusal bytes ≡ none → reserved_area (record_of bytes) ≡ reserved_area bytes
  record-keeps e = record-reserved ∙ sym (content-zero bytes h e)

-- ---- its entries are bytes

module _ (bytes : List ℕ) (f : Bytes bytes) where
  mode-bytes : (at : ℕ) → Bytes (picture_clean (take 4 (drop at bytes)))
  mode-bytes at =
      let w : List ℕ = take 4 (drop at bytes) in
      clean-bytes w (entry-below 256 w (lit< tt) (take_below 256 4 (drop at bytes) (drop-below 256 at bytes f)) 0)

  pub record-bytes : Bytes (record_of bytes)
  record-bytes =
      rw (record-runs bytes)
      (append-below 256 (take 17 bytes) _ (take_below 256 17 bytes f)
      (append-below 256 (picture_clean (take 4 (drop 17 bytes))) _ (mode-bytes 17)
      (append-below 256 (picture_clean (take 4 (drop 21 bytes))) _ (mode-bytes 21)
      (append-below 256 (take 18 (drop 25 bytes)) _ (take_below 256 18 (drop 25 bytes) (drop-below 256 25 bytes f))
      (append-below 256 (replicate 64 0) (private_run bytes) (replicate-below 256 64 0 (lit< tt)) (take_below 256 141 (drop 107 bytes) (drop-below 256 107 bytes f)))))))

-- ---- how it is written: the bytes, and over them the two picture modes and the zeros

three-over : (a p r q b s z : List ℕ) → length a ≡ 17 → length p ≡ 4 → length q ≡ 4 → length b ≡ 18 → drop 4 r ≡ b ++ s
    → put_mid 43 64 (put_mid 21 4 (a ++ (p ++ r)) q) z ≡ runs a p q b z (drop 64 s)
three-over a p r q b s z la lp lq lb e =
    let l21 : length (a ++ p) ≡ 21 = simp length-append (omega arith) in
    let l43 : length (a ++ (p ++ (q ++ b))) ≡ 43 = simp length-append (omega arith) in
    let one : put_mid 21 4 (a ++ (p ++ r)) q ≡ (a ++ (p ++ (q ++ b))) ++ s =
    rw (← append_assoc a p r) (over (a ++ p) r q 21 4 l21 ∙ rw e (simp append_assoc)) in
    rw one (over (a ++ (p ++ (q ++ b))) s z 43 64 l43 ∙ simp append_assoc)

over-bytes : (bytes p q z : List ℕ) → length bytes ≡ 248 → length p ≡ 4 → length q ≡ 4
    → put_mid 43 64 (put_mid 21 4 (put_mid 17 4 bytes p) q) z ≡ runs (take 17 bytes) p q (take 18 (drop 25 bytes)) z (private_run bytes)
over-bytes bytes p q z h lp lq =
    let rest : drop 4 (drop 4 (drop 17 bytes)) ≡ take 18 (drop 25 bytes) ++ drop 43 bytes =
    rw (drop-drop 4 17 bytes, drop-drop 4 21 bytes, ← drop-drop 18 25 bytes) (sym (take-append-drop 18 (drop 25 bytes))) in
    let last : drop 64 (drop 43 bytes) ≡ private_run bytes = drop-drop 64 43 bytes ∙ sym (private-rest bytes h) in
    three-over (take 17 bytes) p (drop 4 (drop 17 bytes)) q (take 18 (drop 25 bytes)) (drop 43 bytes) z (l17 bytes h) lp lq (l18 bytes h) rest ∙ rw last

module _ (bytes out : List ℕ) where
  pub record-fits : length bytes ≡ 248 → length out ≡ 248 → written_refusal bytes (length out) ≡ none
  unfolding written_refusal
  record-fits h o = rw (h, o)

  pub record-written : length bytes ≡ 248 → length out ≡ 248 → (x p q z : List ℕ) → x ≡ bytes
      → p ≡ mode_at 17 bytes → q ≡ mode_at 21 bytes → z ≡ replicate 64 0
      → put_mid 43 64 (put_mid 21 4 (put_mid 17 4 x p) q) z ≡ written bytes out
  unfolding written
  record-written h o x p q z ex ep eq ez =
      rw (ex, ep, eq, ez, record-fits h o)
      (over-bytes bytes (mode_at 17 bytes) (mode_at 21 bytes) (replicate 64 0) h (clean-length (take 4 (drop 17 bytes))) (clean-length (take 4 (drop 21 bytes))) ∙ sym (record-runs bytes))
