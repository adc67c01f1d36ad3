-- The laws of decode with marks: what is given is a codeword that one of the two rules allows, and a codeword with 2e + f at most 6 is what is
-- given. Where nothing is marked, both rules are one.
-- Assumes nothing.
use mathlib.Core.Path.{◌≡◌, refl, ap, ◌∙◌}
use mathlib.Core.Bool.{Bool, true, false, cond}
use mathlib.Core.List.{List}
use mathlib.Core.Logic.{◌⊎◌, inl, inr, ⊎_elim}
use mathlib.Core.Option.{Option, none, some}
use Prim.Native.Nat.{ℕ, ◌-◌, ◌/◌, ◌≤◌, ◌<◌}
use native.Mathlib.Omega.{arith}
use borrow.Author.Tests.{le-leb, leb-true}
use Rattle.basics.proofs.Laws.Test.{lt-or-le}
use Rattle.rs.specs.Codeword.{Codeword}
use Rattle.rs.specs.Decode.{Within, near, decode}
use Rattle.rs.specs.Marked.{marks_in, WithinMarked, decode_marked, or_else, decode_both}
use Rattle.rs.proofs.Laws.Codeword.{codewords-apart}
use Rattle.rs.proofs.Laws.Errors.{errors-self, errors-unmarked, errors-via}
use Rattle.rs.proofs.Laws.Decode.{near-close, close-near, first-is, first_found, decode-sound, decode-complete, none-decode, decode-self}

-- at most one codeword has 2e + f at most 6: two of them differ in at most f + e + e' places
pub marked-unique : (marks : List Bool) (r c w : List ℕ) → WithinMarked marks r c → WithinMarked marks r w → c ≡ w
marked-unique marks r c w C W = codewords-apart c w C.word W.word (omega (arith, errors-via marks c w r C.long W.long))

-- ---- the first rule

-- what is given under a test has passed it
tested : (t : Bool) (o : Option (List ℕ)) (c : List ℕ) → cond t o none ≡ some c → (t ≡ true) × (o ≡ some c)
tested true o c e = (refl, e)
tested false o c e = absurd (let z : ◌≡◌ {A = ℕ} 0 1 = cc in omega arith)

pub marked-sound : (marks : List Bool) (r c : List ℕ) → decode_marked marks r ≡ some c → WithinMarked marks r c
unfolding decode_marked
marked-sound marks r c e =
    let (t, f) = tested _ _ c e in
    let (C, m) = first-is _ c f in
    let q = near-close marks _ r c m in
    record { word = C; long = q.long; near = omega (arith, leb-true (marks_in marks) _ t, q.few) }

pub marked-complete : (marks : List Bool) (r c : List ℕ) → WithinMarked marks r c → decode_marked marks r ≡ some c
marked-complete marks r c W =
    let (w, e) = first_found (near marks ((6 - marks_in marks) / 2) r) c W.word
    (close-near marks ((6 - marks_in marks) / 2) r c W.word.bytes (record { long = W.long; few = omega (arith, W.near) })) in
    let found : decode_marked marks r ≡ some w = unfold decode_marked in rw (le-leb (marks_in marks) 6 (omega (arith, W.near))) e in
    found ∙ ap some (marked-unique marks r w c (marked-sound marks r w found) W)

-- none where there is no such codeword
marked-none : (marks : List Bool) (r : List ℕ) → ((c : List ℕ) → WithinMarked marks r c → ⊥) → decode_marked marks r ≡ none
marked-none marks r n = go (decode_marked marks r) refl
  where
    go : (o : Option (List ℕ)) → decode_marked marks r ≡ o → decode_marked marks r ≡ none
    go none e = e
    go (some c) e = absurd (n c (marked-sound marks r c e))

-- ---- both rules

-- one of two, and the first of them
one_of : (o p : Option (List ℕ)) (c : List ℕ) → or_else o p ≡ some c → (o ≡ some c) ⊎ (p ≡ some c)
one_of none p c e = inr e
one_of (some w) p c e = inl e

first_of : (o p : Option (List ℕ)) (c : List ℕ) → o ≡ some c → or_else o p ≡ some c
first_of o p c e = ap (λ (q : Option (List ℕ)). or_else q p) e

second-of : (o p : Option (List ℕ)) → o ≡ none → or_else o p ≡ p
second-of o p e = ap (λ (q : Option (List ℕ)). or_else q p) e

-- a codeword with 2e + f at most 6 is what is given
pub both-complete : (marks : List Bool) (r c : List ℕ) → WithinMarked marks r c → decode_both marks r ≡ some c
unfolding decode_both
both-complete marks r c W = first_of _ _ c (marked-complete marks r c W)

-- where there is none, the marks do not count
pub none_both : (marks : List Bool) (r : List ℕ) → decode_marked marks r ≡ none → decode_both marks r ≡ decode r
unfolding decode_both
none_both marks r e = second-of _ _ e

pub both-second : (marks : List Bool) (r : List ℕ) → ((c : List ℕ) → WithinMarked marks r c → ⊥) → decode_both marks r ≡ decode r
both-second marks r n = none_both marks r (marked-none marks r n)

-- what is given is a codeword that one of the rules allows
pub both-sound : (marks : List Bool) (r c : List ℕ) → decode_both marks r ≡ some c → WithinMarked marks r c ⊎ Within r c
unfolding decode_both
both-sound marks r c e = ⊎_elim (λ f. inl (marked-sound marks r c f)) (λ f. inr (decode-sound r c f)) (one_of _ _ c e)

-- and one is, where one of them allows any
pub both-given : (marks : List Bool) (r c : List ℕ) → WithinMarked marks r c ⊎ Within r c → (w : List ℕ) × (decode_both marks r ≡ some w)
both-given marks r c (inl W) = (c, both-complete marks r c W)
both-given marks r c (inr W) = go (decode_marked marks r) refl
  where
    go : (o : Option (List ℕ)) → decode_marked marks r ≡ o → (w : List ℕ) × (decode_both marks r ≡ some w)
    go none e = (c, none_both marks r e ∙ decode-complete r c W.word W.long W.near)
    go (some w) e = (w, both-complete marks r w (marked-sound marks r w e))

-- with nothing marked both rules are one
pub both-unmarked : (marks : List Bool) (r : List ℕ) → marks_in marks ≡ 0 → decode_both marks r ≡ decode r
both-unmarked marks r z = go (decode r) refl
  where
    go : (o : Option (List ℕ)) → decode r ≡ o → decode_both marks r ≡ o
    go none e = both-second marks r (λ c W. none-decode r e c W.word W.long (omega (arith, W.near, errors-unmarked marks c r z))) ∙ e
    go (some c) e =
        let W = decode-sound r c e in
        both-complete marks r c (record { word = W.word; long = W.long; near = omega (arith, W.near, errors-unmarked marks c r z) })

-- a codeword is its own answer, whatever is marked
pub both-self : (marks : List Bool) (c : List ℕ) → Codeword c → decode_both marks c ≡ some c
both-self marks c C =
    ⊎_elim (λ (h : marks_in marks < 7). both-complete marks c c (record { word = C; long = refl; near = omega (arith, errors-self marks c) }))
    (λ (h : 7 ≤ marks_in marks). both-second marks c (λ w W. omega (arith, W.near)) ∙ decode-self c C) (lt-or-le (marks_in marks) 7)
