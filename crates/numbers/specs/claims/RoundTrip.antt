-- "Lists and bytes go round": what is written is read back, and what is read is written back.
-- Assumes nothing.
use Rattle.std.specs.Prelude.{◌≡◌, List, ℕ, ◌≤◌, ℤ, length}
use Rattle.numbers.specs.law.Groups.{encode}
use Rattle.numbers.specs.law.Reading.{all, read_of}
use Rattle.numbers.specs.claims.CodecInputs.{Numbers, Bytes}
use Rattle.numbers.specs.inside.RoundTripLaws.{read_encoded, encode_read}

-- Every list of 64-bit numbers, written and read back where the list has room for it, is the same list.
pub written_read : (list : List ℤ) (room : ℕ) → Numbers list → length list ≤ room → read_of (encode list) room ≡ record { stored = list; ended = all }
unfolding read_of
written_read list room f h = read_encoded list room 0 f h

-- Whenever a byte string reads without refusal, the writer makes just these bytes of the numbers read.
pub read_written : (bytes : List ℕ) (room : ℕ) → Bytes bytes → (read_of bytes room).ended ≡ all → encode (read_of bytes room).stored ≡ bytes
unfolding read_of
read_written bytes room f e = encode_read room 0 bytes f e
