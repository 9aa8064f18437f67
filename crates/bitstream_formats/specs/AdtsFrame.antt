-- The frames of ADTS.
use Rattle.std.specs.Prelude.{ℕ, ◌+◌, ◌*◌, ◌≤◌, if◌then◌else◌}
use Rattle.bitstream_formats.specs.declared.adts_header.AdtsHeader.{AdtsHeader}

-- the bytes before the first raw data block: the header, and with a checksum also that and the places of all blocks but
-- the first one
abbrev pub header_bytes : AdtsHeader → ℕ
header_bytes header = if header.protection_absent then 7 else 9 + 2 * header.blocks

-- the frame is as long as its header
abbrev pub HasHeader : AdtsHeader → Type 0
HasHeader header = header_bytes header ≤ header.frame_length
