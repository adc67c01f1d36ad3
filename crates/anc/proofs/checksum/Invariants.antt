-- `anc::checksum` meets its contract. The loop's invariant: modulo 512 the sum is that of the words passed.
-- Assumes nothing.
use Rattle.std.proofs.Common.{◌≡◌, ◌%◌, take}
use Rattle.anc.specs.Word.{total}
use Rattle.anc.proofs.checksum.Given as goal

abbrev pub invariant-loop-word : goal.invariant-loop-word
invariant-loop-word l = l.sum % 512 ≡ total (take l.word-index l.words) % 512
