use Rattle.std.proofs.Common.{◌++◌}
use Rattle.bitstream_io.proofs.CallerLemmas.{is_error}
use Rattle.bitstream_io.proofs.WriteParts.{all_append, all_stop}
use Rattle.flac_codec.specs.Coded.{coded_writes}
use Rattle.flac_codec.specs.Header.{block_size_writes, codes_writes, sample_rate_writes}
use Rattle.flac_codec.proofs.heading.write_parts.Goals as goal

pub returns-in_err-write_codes : goal.returns-in_err-write_codes
returns-in_err-write_codes g c =
    let K = g.W.BitWrite.sink in
    let h = c.args.header.now in
    let codes = codes_writes K.order c.args.codes in
    let number = coded_writes K.order h.number in
    let size = block_size_writes K.order c.args.codes.block_size h.block_size in
    let rate = sample_rate_writes K.order c.args.codes.sample_rate h.sample_rate in
    all_stop K codes (number ++ (size ++ rate)) _ _ _ _ (is_error _ _ c.from_residual.ensures.1) c.in_err-write_codes.ensures

pub returns-in_err-write_coded : goal.returns-in_err-write_coded
returns-in_err-write_coded g c =
    let K = g.W.BitWrite.sink in
    let h = c.args.header.now in
    let codes = codes_writes K.order c.args.codes in
    let number = coded_writes K.order h.number in
    let size = block_size_writes K.order c.args.codes.block_size h.block_size in
    let rate = sample_rate_writes K.order c.args.codes.sample_rate h.sample_rate in
    all_append K codes (number ++ (size ++ rate)) _ _ _ _ c.in_ok-write_codes.ensures
    (all_stop K number (size ++ rate) _ _ _ _ (is_error _ _ c.from_residual-in_err-write_coded.ensures.1)
    c.in_err-write_coded.ensures)

pub returns-in_err-write_block_size : goal.returns-in_err-write_block_size
returns-in_err-write_block_size g c =
    let K = g.W.BitWrite.sink in
    let h = c.args.header.now in
    let codes = codes_writes K.order c.args.codes in
    let number = coded_writes K.order h.number in
    let size = block_size_writes K.order c.args.codes.block_size h.block_size in
    let rate = sample_rate_writes K.order c.args.codes.sample_rate h.sample_rate in
    all_append K codes (number ++ (size ++ rate)) _ _ _ _ c.in_ok-write_codes.ensures
    (all_append K number (size ++ rate) _ _ _ _ c.in_ok-write_coded.ensures
    (all_stop K size rate _ _ _ _ (is_error _ _ c.from_residual-in_err-write_block_size.ensures.1)
    c.in_err-write_block_size.ensures))

pub returns : goal.returns
returns g c =
    let K = g.W.BitWrite.sink in
    let h = c.args.header.now in
    let codes = codes_writes K.order c.args.codes in
    let number = coded_writes K.order h.number in
    let size = block_size_writes K.order c.args.codes.block_size h.block_size in
    let rate = sample_rate_writes K.order c.args.codes.sample_rate h.sample_rate in
    all_append K codes (number ++ (size ++ rate)) _ _ _ _ c.in_ok-write_codes.ensures
    (all_append K number (size ++ rate) _ _ _ _ c.in_ok-write_coded.ensures
    (all_append K size rate _ _ _ _ c.in_ok-write_block_size.ensures c.write_sample_rate.ensures))
