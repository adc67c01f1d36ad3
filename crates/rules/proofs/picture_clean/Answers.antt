-- `rules::picture_clean` meets its contract.
-- Assumes nothing.
use mathlib.Core.Path.{◌≡◌}
use mathlib.Core.Bool.{cond}
use native.Mathlib.Omega.{arith}
use lib.Dec.{eqb}
use lib.ListN.{get_or}
use Rattle.std.proofs.lemmas.Bool.Decides.{nat_tests}
use Rattle.rules.specs.Rules.{picture_clean, bit_for}
use Rattle.rules.proofs.Laws.Rules.{scans-read, aspects-read, link_read}
use Rattle.rules.proofs.picture_clean.Goals as goal

pub returns : goal.returns
unfolding picture_clean bit_for
returns c =
    let w = c.args.w in
    let scans : c.if-w.scans ≡ cond (eqb (get_or w 0 0) 0x85) 0xCF 0x4F = grind (arith, nat_tests) in
    let aspects : c.if-w-2.aspects ≡ cond (eqb (get_or w 0 0) 0x81) 0xEF 0xAF = grind (arith, nat_tests) in
    let link : c.if-w-3.link ≡ cond (eqb (get_or w 0 0) 0x82) 0x41 0x01 = grind (arith, nat_tests) in
    let w1 = scans-read (eqb (get_or w 0 0) 0x85) (get_or w 1 0) (omega arith) in
    let w2 = aspects-read (eqb (get_or w 0 0) 0x81) (get_or w 2 0) (omega arith) in
    let w3 = link_read (eqb (get_or w 0 0) 0x82) (get_or w 3 0) (omega arith) in
    rw (scans, aspects, link, w1, w2, w3) (grind arith)
