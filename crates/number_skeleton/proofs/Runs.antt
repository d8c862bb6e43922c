-- Runs of a byte at the front of a word.
use Rattle.std.proofs.Common.{ℕ, ◌≤◌, List, length}
use Rattle.std.proofs.lemmas.List.Sums.{prefix_len-le-length}
use Rattle.number_skeleton.specs.Bytes.{is_byte, is_inner, run_len, piece_len}

-- a run is within its word
pub run_within : (byte : ℕ) (word : List ℕ) → run_len byte word ≤ length word
unfolding run_len
run_within byte word = prefix_len-le-length (is_byte byte) word

-- a piece is within its text
pub piece_within : (text : List ℕ) → piece_len text ≤ length text
unfolding piece_len
piece_within text = prefix_len-le-length is_inner text
