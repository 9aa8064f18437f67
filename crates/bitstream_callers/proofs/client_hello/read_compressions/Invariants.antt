-- Made by `./format` from formats/client_hello.fields: edit that file and make this one anew.
use Rattle.bitstream_callers.specs.ClientHello.{becomes_client_hello, compression_read}
use Rattle.bitstream_io.specs.Grows.{PartsRead}
use Rattle.bitstream_callers.proofs.client_hello.read_compressions.Given as goal

-- the items so far were read
abbrev pub invariant-loop : goal.invariant-loop
invariant-loop g l =
    let K = g.R.BitRead.source in
    PartsRead K becomes_client_hello (compression_read K.order) l.counter l.initial.reader l.found.items l.reader
