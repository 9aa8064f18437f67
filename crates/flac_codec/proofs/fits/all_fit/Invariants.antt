use Rattle.std.proofs.Common.{take}
use Rattle.std.specs.List.{All}
use Rattle.flac_codec.specs.Encodable.{IsChannel}
use Rattle.flac_codec.proofs.fits.all_fit.Given as goal

-- the channels so far are whole, and fit
abbrev pub invariant-loop-channel : goal.invariant-loop-channel
invariant-loop-channel l = All (λ channel. IsChannel l.width l.size channel.items) (take l.channel-index l.channels)
