use Rattle.std.proofs.Common.{rules, ◌≡◌, to_z, of_z, w64}
use Rattle.bitstream_stream.proofs.Shared.{exit_is}
use Rattle.bitstream_stream.proofs.Reading.SeekLemmas.{goes_there, goes_on, asks_in_vain}
use Rattle.bitstream_stream.proofs.read.reader.BitReader.seek_bits.Goals as goal

pub returns-in-Start : goal.returns-in-Start
returns-in-Start g c = rw c.in-Start.is (goes_there (search rules) c.go_to.ensures)

pub returns-in-End : goal.returns-in-End
returns-in-End g c =
    let kept : to_z w64 (of_z w64 c.in-End.back) ≡ c.in-End.back = search rules in
    rw c.in-End.is (rw kept at c.go_back.ensures)

pub returns-in_err-place-in-Current : goal.returns-in_err-place-in-Current
returns-in_err-place-in-Current g c =
    let kept : to_z w64 (of_z w64 c.in-Current.on) ≡ c.in-Current.on = search rules in
    rw c.in-Current.is (rw kept at (asks_in_vain (exit_is _ c.from_residual.ensures.1)
    c.in_err-place-in-Current.ensures.asks))

pub returns-in_ok-place-in-Current : goal.returns-in_ok-place-in-Current
returns-in_ok-place-in-Current g c =
    let kept : to_z w64 (of_z w64 c.in-Current.on) ≡ c.in-Current.on = search rules in
    rw c.in-Current.is (rw kept at (goes_on c.in_ok-place-in-Current.ensures.asks c.go_to-in-Current.ensures))
