-- The laws of decode: it gives the codeword that differs from what was delivered in at most three places, of which there is at most one,
-- and none exactly where there is no such codeword. And what repair answers by it.
-- Assumes nothing.
use mathlib.Core.Path.{◌≡◌, refl, sym, ap, ap₂, ◌∙◌, subst}
use mathlib.Core.Bool.{Bool, true, false, cond, ◌&&◌}
use mathlib.Core.List.Memᴰ
use mathlib.Core.List.{List, [], ◌∷◌, ◌++◌, map, Memᴰ}
use mathlib.Core.Logic.{◌⊎◌, inl, inr, ⊎_elim}
use mathlib.Core.Option.{Option, none, some, get_or, some-ne-none}
use Prim.Native.Nat.{ℕ, zero, suc, ◌+◌, ◌≤◌, ◌<◌}
use native.Mathlib.Nat.{suc_inj}
use native.Mathlib.Omega.{arith}
use lib.Dec.{eqb}
use borrow.Author.Tests.{eq-eqb, eqb-true}
use lib.ListN.{length, drop}
use Rattle.basics.specs.Each.{all, same}
use Rattle.basics.proofs.Laws.Test.{both_true, never, lt-or-le}
use Rattle.basics.proofs.Laws.Each.{same-equal, same_self}
use Rattle.refusal.specs.Chain.{require, passed}
use Rattle.std.specs.Prelude.{Err}
use Rattle.refusal.specs.Checked.{checked_of}
use Rattle.refusal.specs.Number.{refusal_plain}
use Rattle.refusal.specs.declared.Reason.TheVariants.{BeyondRepair}
use Rattle.refusal.specs.declared.Refusal.{Refusal}
use Rattle.rs.specs.Codeword.{block_refusal, Codeword}
use Rattle.basics.specs.Below.{Bytes}
use Rattle.basics.proofs.Laws.Below.{all-below, below_all}
use Rattle.rs.specs.Decode.{changes, Within, is_byte, is_codeword, fronted, near, first_codeword, given, decode, repairable, repaired, decode_refusal}
use Rattle.rs.proofs.Laws.Distance.{differ, place, differ-le, differ_same, differ-zero, changes-zero, changes-self}
use Rattle.rs.proofs.Laws.Errors.{errors-self, errors-none}
use Rattle.rs.specs.Marked.{errors}
use Rattle.rs.proofs.Laws.Codeword.{block-passes, codeword-unique}

-- ---- the test

pub true-codeword : (w : List ℕ) → is_codeword w ≡ true → Codeword w
unfolding is_codeword
true-codeword w t =
    let parts = both_true (eqb (length w) 254 && all is_byte w) _ t in
    let front = both_true (eqb (length w) 254) (all is_byte w) parts.0 in
    record { long = eqb-true (length w) 254 front.0; bytes = all-below 256 w front.1; parity = same-equal _ _ parts.1 }

pub codeword-true : (w : List ℕ) → Codeword w → is_codeword w ≡ true
unfolding is_codeword
codeword-true w c =
    ap₂ ◌&&◌ (ap₂ ◌&&◌ (eq-eqb (length w) 254 c.long) (below_all 256 w c.bytes))
    (ap (same (drop 248 w)) (sym c.parity) ∙ same_self (drop 248 w))

-- ---- the lists near a list

no-entries : (m : List ℕ) → length m ≡ 0 → m ≡ []
no-entries [] e = refl
no-entries (x ∷ m) e = absurd (omega arith)

fronted-mem : (n x : ℕ) (l : List ℕ) (ls : List (List ℕ)) → x < n → Memᴰ l ls → Memᴰ (x ∷ l) (fronted n ls)
unfolding fronted
fronted-mem zero x l ls h m = absurd (omega arith)
fronted-mem (suc n) x l ls h m =
    ⊎_elim (λ b. Memᴰ.append_right (map (λ k. n ∷ k) ls) (fronted-mem n x l ls b m))
    (λ b. Memᴰ.append_left (fronted n ls) (Memᴰ.cast (ap (λ (y : ℕ). y ∷ l) (omega arith)) (Memᴰ.map (λ k. n ∷ k) m)))
    (lt-or-le x n)

mem-fronted : (n : ℕ) (m : List ℕ) (ls : List (List ℕ)) → Memᴰ m (fronted n ls) → (x : ℕ) × (l : List ℕ) × Memᴰ l ls × (x ∷ l ≡ m)
unfolding fronted
mem-fronted zero m ls h = absurd (Memᴰ.not-nil h)
mem-fronted (suc n) m ls h =
    ⊎_elim (λ a. let (l, i, e) = Memᴰ.of_map (λ k. n ∷ k) ls a in (n, l, i, e)) (λ a. mem-fronted n m ls a) (Memᴰ.append_cases (map (λ k. n ∷ k) ls) h)

-- m has l's length and differs from it in at most k places without a mark
pub record Close (marks : List Bool) (k : ℕ) (l m : List ℕ) : Type 0 where
  pub long : length m ≡ length l
  pub few : errors marks m l ≤ k

close-self : (marks : List Bool) (k : ℕ) (l m : List ℕ) → m ≡ l → Close marks k l m
close-self marks k l m e = subst (Close marks k l) (sym e) (record { long = refl; few = omega (arith, errors-self marks l) })

-- a first place without a mark, in front of places with other marks
module _ (all-marks marks : List Bool) (b : ℕ) (l : List ℕ) (plain : (x : ℕ) (m : List ℕ) → errors all-marks (x ∷ m) (b ∷ l) ≡ differ x b + errors marks m l) where
  close-kept : (k : ℕ) (m : List ℕ) → Memᴰ m (map (λ n. b ∷ n) (near marks k l)) → ((n : List ℕ) → Memᴰ n (near marks k l) → Close marks k l n)
      → Close all-marks k (b ∷ l) m
  close-kept k m h f =
      let (n, i, e) = Memᴰ.of_map (λ n. b ∷ n) (near marks k l) h in
      let c = f n i in
      subst (Close all-marks k (b ∷ l)) e (record { long = ap suc c.long; few = omega (arith, plain b n, differ_same b b refl) })

  close-changed : (k : ℕ) (m : List ℕ) → Memᴰ m (fronted 256 (near marks k l)) → ((n : List ℕ) → Memᴰ n (near marks k l) → Close marks k l n)
      → Close all-marks (suc k) (b ∷ l) m
  close-changed k m h f =
      let (x, n, i, e) = mem-fronted 256 m (near marks k l) h in
      let c = f n i in
      subst (Close all-marks (suc k) (b ∷ l)) e (record { long = ap suc c.long; few = omega (arith, plain x n, differ-le x b) })

  close-either : (k : ℕ) (m : List ℕ) → Memᴰ m (map (λ n. b ∷ n) (near marks (suc k) l) ++ fronted 256 (near marks k l))
      → ((n : List ℕ) → Memᴰ n (near marks (suc k) l) → Close marks (suc k) l n) → ((n : List ℕ) → Memᴰ n (near marks k l) → Close marks k l n)
      → Close all-marks (suc k) (b ∷ l) m
  close-either k m h f g =
      ⊎_elim (λ a. close-kept (suc k) m a f) (λ a. close-changed k m a g) (Memᴰ.append_cases (map (λ n. b ∷ n) (near marks (suc k) l)) h)

-- a marked one
close-free : (marks : List Bool) (k b : ℕ) (l m : List ℕ) → Memᴰ m (fronted 256 (near marks k l))
    → ((n : List ℕ) → Memᴰ n (near marks k l) → Close marks k l n) → Close (true ∷ marks) k (b ∷ l) m
unfolding errors
close-free marks k b l m h f =
    let (x, n, i, e) = mem-fronted 256 m (near marks k l) h in
    let c = f n i in
    subst (Close (true ∷ marks) k (b ∷ l)) e (record { long = ap suc c.long; few = omega arith })

-- each member of near is close
pub near-close : (marks : List Bool) (k : ℕ) (l m : List ℕ) → Memᴰ m (near marks k l) → Close marks k l m
unfolding near errors
near-close [] zero l m h = close-self [] 0 l m (Memᴰ.eq_of_singleton h)
near-close [] (suc k) [] m h = close-self [] (suc k) [] m (Memᴰ.eq_of_singleton h)
near-close [] (suc k) (b ∷ l) m h = close-either [] [] b l (λ x n. refl) k m h (near-close [] (suc k) l) (near-close [] k l)
near-close (mark ∷ marks) k [] m h = close-self (mark ∷ marks) k [] m (Memᴰ.eq_of_singleton h)
near-close (true ∷ marks) k (b ∷ l) m h = close-free marks k b l m h (near-close marks k l)
near-close (false ∷ marks) zero (b ∷ l) m h = close-kept (false ∷ marks) marks b l (λ x n. refl) 0 m h (near-close marks zero l)
near-close (false ∷ marks) (suc k) (b ∷ l) m h =
    close-either (false ∷ marks) marks b l (λ x n. refl) k m h (near-close marks (suc k) l) (near-close marks k l)

-- a first place without a mark: it is kept, or it is one of those that may be changed
kept-mem : (ls : List (List ℕ)) (a x : ℕ) (m : List ℕ) → x ≡ a → Memᴰ m ls → Memᴰ (x ∷ m) (map (λ n. a ∷ n) ls)
kept-mem ls a x m e h = Memᴰ.cast (ap (λ (z : ℕ). z ∷ m) e) (Memᴰ.map (λ n. a ∷ n) h)

either-mem : (k e a x : ℕ) (m : List ℕ) (same_left fewer-left : List (List ℕ)) → x < 256 → differ x a + e ≤ suc k
    → (e ≤ suc k → Memᴰ m same_left) → (e ≤ k → Memᴰ m fewer-left) → Memᴰ (x ∷ m) (map (λ n. a ∷ n) same_left ++ fronted 256 fewer-left)
either-mem k e a x m s f i h g q =
    place (λ z. z + e ≤ suc k → Memᴰ (x ∷ m) (map (λ n. a ∷ n) s ++ fronted 256 f)) x a
    (λ t h. Memᴰ.append_left (fronted 256 f) (kept-mem s a x m t (g (omega arith))))
    (λ n h. Memᴰ.append_right (map (λ n. a ∷ n) s) (fronted-mem 256 x m f i (q (omega arith))))
    h

-- each list of bytes that is close is a member
pub close-near : (marks : List Bool) (k : ℕ) (l m : List ℕ) → Bytes m → Close marks k l m → Memᴰ m (near marks k l)
unfolding near errors
close-near [] zero l m b c = Memᴰ.head (changes-zero m l c.long (omega (arith, errors-none m l)))
close-near [] (suc k) [] m b c = Memᴰ.head (no-entries m c.long)
close-near [] (suc k) (a ∷ l) [] b c = absurd (omega arith)
close-near [] (suc k) (a ∷ l) (x ∷ m) b c =
    either-mem k (errors [] m l) a x m (near [] (suc k) l) (near [] k l) b.0 c.few
    (λ h. close-near [] (suc k) l m b.1 (record { long = suc_inj c.long; few = h })) (λ h. close-near [] k l m b.1 (record { long = suc_inj c.long; few = h }))
close-near (mark ∷ marks) k [] m b c = Memᴰ.head (no-entries m c.long)
close-near (mark ∷ marks) k (a ∷ l) [] b c = absurd (omega arith)
close-near (true ∷ marks) k (a ∷ l) (x ∷ m) b c = fronted-mem 256 x m (near marks k l) b.0 (close-near marks k l m b.1 (record { long = suc_inj c.long; few = c.few }))
close-near (false ∷ marks) zero (a ∷ l) (x ∷ m) b c =
    kept-mem (near marks 0 l) a x m (differ-zero x a (omega arith)) (close-near marks zero l m b.1 (record { long = suc_inj c.long; few = omega arith }))
close-near (false ∷ marks) (suc k) (a ∷ l) (x ∷ m) b c =
    either-mem k (errors marks m l) a x m (near marks (suc k) l) (near marks k l) b.0 c.few
    (λ h. close-near marks (suc k) l m b.1 (record { long = suc_inj c.long; few = h })) (λ h. close-near marks k l m b.1 (record { long = suc_inj c.long; few = h }))

-- ---- the first codeword

pub first-is : (ws : List (List ℕ)) (c : List ℕ) → first_codeword ws ≡ some c → Codeword c × Memᴰ c ws
unfolding first_codeword
first-is [] c e = absurd (let z : ◌≡◌ {A = ℕ} 0 1 = cc in omega arith)
first-is (w ∷ ws) c e = go (is_codeword w) (true-codeword w) e (first-is ws c)
  where
    go : (t : Bool) → (t ≡ true → Codeword w) → cond t (some w) (first_codeword ws) ≡ some c → (first_codeword ws ≡ some c → Codeword c × Memᴰ c ws)
        → Codeword c × Memᴰ c (w ∷ ws)
    go true W q f = let p : c ≡ w = cc in (subst Codeword (sym p) (W refl), Memᴰ.head p)
    go false W q f = ((f q).0, Memᴰ.tail (f q).1)

pub first_found : (ws : List (List ℕ)) (c : List ℕ) → Codeword c → Memᴰ c ws → (w : List ℕ) × (first_codeword ws ≡ some w)
unfolding first_codeword
first_found [] c C h = absurd (Memᴰ.not-nil h)
first_found (w ∷ ws) c C h = go (is_codeword w) (λ e. codeword-true w (subst Codeword e C)) (first_found ws c C) (Memᴰ.cases_cons h)
  where
    go : (t : Bool) → (c ≡ w → t ≡ true) → (Memᴰ c ws → (x : List ℕ) × (first_codeword ws ≡ some x)) → (c ≡ w) ⊎ Memᴰ c ws
        → (x : List ℕ) × (cond t (some w) (first_codeword ws) ≡ some x)
    go true p f m = (w, refl)
    go false p f (inl e) = never (sym (p e))
    go false p f (inr m) = f m

-- ---- decode

pub decode-sound : (r c : List ℕ) → decode r ≡ some c → Within r c
unfolding decode
decode-sound r c e =
    let (C, m) = first-is _ c e in
    let q = near-close [] _ r c m in
    record { word = C; long = q.long; near = omega (arith, q.few, errors-none c r) }

pub decode-complete : (r c : List ℕ) → Codeword c → length c ≡ length r → changes c r ≤ 3 → decode r ≡ some c
unfolding decode
decode-complete r c C l h =
    let (w, e) = first_found (near [] 3 r) c C (close-near [] 3 r c C.bytes (record { long = l; few = omega (arith, errors-none c r) })) in
    let W = decode-sound r w e in
    e ∙ ap some (codeword-unique r w c (sym l ∙ C.long) W.word C W.near h)

-- none where there is no such codeword
pub decode-none : (r : List ℕ) → ((c : List ℕ) → Codeword c → length c ≡ length r → changes c r ≤ 3 → ⊥) → decode r ≡ none
decode-none r n = go (decode r) refl
  where
    go : (o : Option (List ℕ)) → decode r ≡ o → decode r ≡ none
    go none e = e
    go (some c) e = let W = decode-sound r c e in absurd (n c W.word W.long W.near)

-- and there only
pub none-decode : (r : List ℕ) → decode r ≡ none → (c : List ℕ) → Codeword c → length c ≡ length r → changes c r ≤ 3 → ⊥
none-decode r e c C l h = let z : ◌≡◌ {A = ℕ} 0 1 = cc (decode-complete r c C l h) in omega arith

pub decode-self : (c : List ℕ) → Codeword c → decode c ≡ some c
decode-self c C = decode-complete c c C refl (omega (arith, changes-self c))

pub decode-short : (r : List ℕ) → (length r ≡ 254 → ⊥) → decode r ≡ none
decode-short r n = decode-none r (λ c C l h. n (sym l ∙ C.long))

-- ---- what repair answers, by what decode gives

-- of what was delivered, what is said and what is left
pub record Answer (before : List ℕ) (r : Bool) (after : List ℕ) : Type 0 where
  pub said : r ≡ repairable before
  pub left : after ≡ repaired before

pub some-answer : (l c : List ℕ) → decode l ≡ some c → Answer l true c
unfolding repairable repaired
some-answer l c e = record { said = sym (ap given e); left = sym (ap (λ o. get_or o l) e) }

pub none-answer : (l : List ℕ) → decode l ≡ none → Answer l false l
unfolding repairable repaired
none-answer l e = record { said = sym (ap given e); left = sym (ap (λ o. get_or o l) e) }

pub codeword-answer : (l : List ℕ) → Codeword l → Answer l true l
codeword-answer l C = some-answer l l (decode-self l C)

-- of 254 bytes, whether there is such a codeword decides
pub decode-decides : (l : List ℕ) → length l ≡ 254 → decode_refusal l ≡ require (repairable l) (refusal_plain BeyondRepair) passed
unfolding decode_refusal
decode-decides l n = rw (block-passes l n)

-- what is refused stays as it was
pub refused-keeps : (l : List ℕ) (why : Refusal) → decode_refusal l ≡ some why → repaired l ≡ l
unfolding repaired
refused-keeps l why r = go (decode l) refl
  where
    go : (o : Option (List ℕ)) → decode l ≡ o → get_or o l ≡ l
    go none e = refl
    go (some c) e =
        let W = decode-sound l c e in
        let y : repairable l ≡ true = sym (some-answer l c e).said in
        absurd (some-ne-none why (sym r ∙ decode-decides l (sym W.long ∙ W.word.long) ∙ ap (λ (b : Bool). require b (refusal_plain BeyondRepair) passed) y))

-- another number of bytes than 254 is refused
pub size-refused : (l : List ℕ) (why : Refusal) → block_refusal l ≡ some why → (Err why ≡ checked_of (decode_refusal l)) × (l ≡ repaired l)
unfolding decode_refusal
size-refused l why e =
    let o : decode_refusal l ≡ some why = rw e refl in (sym (ap checked_of o), sym (refused-keeps l why o))

-- and of 254 bytes it is said whether there is such a codeword
pub answered : (l after : List ℕ) (r : Bool) → length l ≡ 254 → Answer l r after
    → (checked_of (require r (refusal_plain BeyondRepair) passed) ≡ checked_of (decode_refusal l)) × (after ≡ repaired l)
answered l after r n A =
    (ap (λ (t : Bool). checked_of (require t (refusal_plain BeyondRepair) passed)) A.said ∙ sym (ap checked_of (decode-decides l n)), A.left)
