use Rattle.std.proofs.Common.{◌∙◌, ap, refl, subst, sym}
use Rattle.bitstream_io.specs.Callers.{OutOfMemory}
use Rattle.flac_codec.specs.Checksum.{crc8}
use Rattle.flac_codec.specs.Frame.{header_at, IsFoundIn}
use Rattle.flac_codec.proofs.FoundLemmas.{header-found}
use Rattle.flac_codec.proofs.LosslessLemmas.{matched_error}
use Rattle.flac_codec.proofs.framing.encode_header.Goals as goal

pub returns-in_err-bytes : goal.returns-in_err-bytes
returns-in_err-bytes c = matched_error _ _ OutOfMemory _ c.from_residual.ensures.1 c.in_err-bytes.ensures

pub returns-in_err-push : goal.returns-in_err-push
returns-in_err-push c = matched_error _ _ OutOfMemory _ c.from_residual-in_err-push.ensures.1 refl

pub returns : goal.returns
returns c =
    subst (λ bytes. IsFoundIn header_at bytes c.args.header.now) (sym c.in_ok-push.ensures.items)
    (header-found c.in_ok-bytes.bytes.items c.args.header.now c.crc8-checksum.result c.in_ok-bytes.ensures
    (c.crc8-checksum.ensures ∙ ap crc8 c.as_slice.ensures.value))
