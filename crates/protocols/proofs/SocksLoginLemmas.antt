-- Made by `./format` from formats/socks_login.fields: edit that file and make this one anew.
-- A written `SocksLogin` is read back, and its number of bits.
use Rattle.protocols.specs.SocksLogin.{socks_login_decoder, socks_login_writes, socks_login_size, socks_login_format, socks_login_bits, Fits}
use Rattle.protocols.specs.declared.socks_login.SocksLogin.{SocksLogin}
use Rattle.std.proofs.Common.{◌≡◌, ◌++◌, ◌∷◌, [], Ok, refl}
use Rattle.bitstream_io.proofs.CallerLemmas.{RoundTrip, Packs}
use Rattle.bitstream_io.specs.Callers.{Order, High, align, write_sequence}

-- a written value is read back
pub socks_login_goes : (o : Order) (value : SocksLogin) → Fits value
    → RoundTrip (socks_login_decoder o) (socks_login_writes o value) (Ok value)
socks_login_goes = socks_login_format.round_trip

-- each write is accepted, and the value's size is the number of bits written
pub socks_login_packs : (o : Order) (value : SocksLogin) → Fits value
    → Packs (socks_login_writes o value) (socks_login_size o value)
socks_login_packs = socks_login_format.packs

-- the bits, of which a search is to see no part
pub told : (value : SocksLogin)
    → write_sequence (socks_login_writes High value ++ align ∷ []) 0 ≡ socks_login_bits value
unfolding socks_login_bits
told value = refl
