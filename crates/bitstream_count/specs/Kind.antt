-- The kind of the `io::Error` for each error.
use Rattle.std.specs.declared.io.ErrorKind.{ErrorKind}
use Rattle.std.specs.declared.io.ErrorKind.TheVariants.{InvalidInput, InvalidData, StorageFull, UnexpectedEof, Other}
use Rattle.std.specs.declared.io.ErrorKind.TheVariants as kinds
use Rattle.bitstream_count.specs.declared.error.Error.{Error}
use Rattle.bitstream_count.specs.declared.error.Error.TheVariants.{ReadBits, Checked, NoSignBit, BoolWidth, NonZeroWidth, VariableWidthOverflow, RedundantGroup, CounterOverflow, RunTooLong, EndOfInput, Stream, OutOfMemory, Place, Failed}

-- the kind of the `io::Error` that an error converts to
abbrev pub kind_of : Error → ErrorKind
kind_of ReadBits = InvalidInput
kind_of (Checked c) = InvalidInput
kind_of NoSignBit = InvalidInput
kind_of BoolWidth = InvalidInput
kind_of NonZeroWidth = InvalidInput
kind_of VariableWidthOverflow = StorageFull
kind_of RedundantGroup = InvalidData
kind_of CounterOverflow = StorageFull
kind_of RunTooLong = InvalidData
kind_of EndOfInput = UnexpectedEof
kind_of (Stream kind) = kind
kind_of OutOfMemory = kinds.OutOfMemory
kind_of Place = InvalidInput
kind_of Failed = Other
