-- The bits of a code word.
use Rattle.std.specs.Prelude.{Bool, List}
use Rattle.bitstream_number.specs.Word.{High, word}
use Rattle.bitstream_stream.specs.declared.write.code_word.CodeWord.{CodeWord}

-- the bits of a code word, the first one first
abbrev pub code_bits : CodeWord → List Bool
code_bits w = word High w.bits w.high
