-- The laws of a reader of bytes in memory.
use Rattle.std.specs.Prelude.{◌≡◌, ℕ, ◌+◌, ◌-◌, ◌*◌, ◌/◌, ◌<◌, Bool, List, [], length, take, drop, Some, if◌then◌else◌}
use Rattle.std.specs.Prelude.{None}
use Rattle.std.specs.declared.io.ErrorKind.TheVariants.{UnexpectedEof}
use Rattle.bitstream_number.specs.Word.{Order, bits}
use Rattle.bitstream_order.specs.Refusal.{Refusal}
use Rattle.bitstream_stream.specs.Reading.Reads.{ReaderState}

-- the number of bytes that hold the bits taken of the first byte: 1, or 0
abbrev pub held : ℕ → ℕ
held bit = (bit + 7) / 8

-- the bits left to read of bytes, if some bits of the first byte are taken
abbrev pub rest_bits : Order → List ℕ → ℕ → List Bool
rest_bits o bytes bit = drop bit (bits o bytes)

-- the number of bits taken, where `bit` bits of the first byte left are taken
abbrev pub taken_bits : List ℕ → List ℕ → ℕ → ℕ
taken_bits all bytes bit = 8 * (length all - length bytes) + bit

-- The state of a reader of all these bytes. The bytes left start at the byte that holds the next bit, and `bit` bits
-- of that byte are taken. A byte with some bits taken is fetched, and its other bits are queued.
abbrev pub memory_state : Order → List ℕ → List ℕ → ℕ → Bool → List Refusal → ReaderState
memory_state o all bytes bit failed refusals = record {
  queue = if failed then [] else rest_bits o (take (held bit) bytes) bit;
  bytes = Some (drop (held bit) bytes);
  taken = taken_bits all bytes bit;
  fetched = (taken_bits all bytes bit + 7) / 8;
  failed = failed;
  refusals = refusals;
  references = [];
}

-- a failed request at the end of the bytes, which loses none of them
pub record EndsInMemory (refusal : Refusal) : Type 0 where
  pub left : List ℕ
  pub kind : refusal.kind ≡ UnexpectedEof
  pub before : refusal.before ≡ Some left
  pub after : refusal.after ≡ Some left
  pub few : length left < refusal.wanted

-- The failed request for one byte more than are left.
abbrev pub end_of : List ℕ → Refusal
end_of left = record {
  kind = UnexpectedEof;
  wanted = length left + 1;
  capacity = None;
  before = Some left;
  after =
      Some left;
}
