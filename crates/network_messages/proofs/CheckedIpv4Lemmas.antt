-- Made by `./format` from formats/checked_ipv4.fields: edit that file and make this one anew.
-- A written `CheckedIpv4` is read back, and its number of bits.
use Rattle.network_messages.specs.CheckedIpv4.{checked_ipv4_decoder, checked_ipv4_writes, checked_ipv4_size, checked_ipv4_bits, Fits, start_number, start_cases}
use Rattle.std.proofs.Common.{refl, arith}
use Rattle.bitstream_format.specs.Format.{Own as OwnFormat, field, own_field}
use Rattle.network_messages.specs.declared.checked_ipv4.CheckedIpv4.{CheckedIpv4}
use Rattle.network_messages.specs.declared.checked_ipv4.CheckedIpv4Error.{CheckedIpv4Error}
use Rattle.std.proofs.Common.{◌≡◌, ◌++◌, ◌∷◌, [], Result, Ok}
use Rattle.bitstream_io.proofs.CallerLemmas.{RoundTrip, Packs, unsigned-back, pure-back, unsigned-written, packs-none, packs-more, packs-part, packs-is}
use Rattle.bitstream_format.proofs.ChecksLemmas.{sum16-small, verified-back}
use Rattle.bitstream_io.specs.Callers.{Order, High, align, write_sequence}
use Rattle.bitstream_format.specs.Checks.{bytes1, bytes2, bytes4, sum16}
use Rattle.bitstream_format.specs.Atoms as atom

-- a written value is read back
pub checked_ipv4_goes : (o : Order) (value : CheckedIpv4) → Fits value
    → RoundTrip (checked_ipv4_decoder o) (checked_ipv4_writes o value) (Ok value)
checked_ipv4_goes o value fits =
    (own_field {B = CheckedIpv4} start_cases (λ (s : CheckedIpv4). s.start)).round_trip o value _ _ _ tt tt ((field {W =
    (Result CheckedIpv4 CheckedIpv4Error)} (atom.unsigned 8 8 refl) (λ (s : CheckedIpv4). s.service)).round_trip o
    value _ _ _ fits.service tt ((field {W = (Result CheckedIpv4 CheckedIpv4Error)} (atom.unsigned 16 16 refl) (λ (s
    : CheckedIpv4). s.length)).round_trip o value _ _ _ fits.length tt ((field {W = (Result CheckedIpv4
    CheckedIpv4Error)} (atom.unsigned 16 16 refl) (λ (s : CheckedIpv4). s.identification)).round_trip o value _ _ _
    fits.identification tt ((field {W = (Result CheckedIpv4 CheckedIpv4Error)} (atom.unsigned 16 16 refl) (λ (s :
    CheckedIpv4). s.fragment)).round_trip o value _ _ _ fits.fragment tt ((field {W = (Result CheckedIpv4
    CheckedIpv4Error)} (atom.unsigned 8 8 refl) (λ (s : CheckedIpv4). s.time)).round_trip o value _ _ _ fits.time tt
    ((field {W = (Result CheckedIpv4 CheckedIpv4Error)} (atom.unsigned 8 8 refl) (λ (s : CheckedIpv4).
    s.protocol)).round_trip o value _ _ _ fits.protocol tt (unsigned-back o 16 _ _ 16 (sum16 (bytes1 (start_number
    value.start) ++ bytes1 value.service ++ bytes2 value.length ++ bytes2 value.identification ++ bytes2
    value.fragment ++ bytes1 value.time ++ bytes1 value.protocol ++ bytes4 value.source ++ bytes4 value.target)) _
    refl (sum16-small (bytes1 (start_number value.start) ++ bytes1 value.service ++ bytes2 value.length ++ bytes2
    value.identification ++ bytes2 value.fragment ++ bytes1 value.time ++ bytes1 value.protocol ++ bytes4
    value.source ++ bytes4 value.target)) ((field {W = (Result CheckedIpv4 CheckedIpv4Error)} (atom.unsigned 32 32
    refl) (λ (s : CheckedIpv4). s.source)).round_trip o value _ _ _ fits.source tt ((field {W = (Result CheckedIpv4
    CheckedIpv4Error)} (atom.unsigned 32 32 refl) (λ (s : CheckedIpv4). s.target)).round_trip o value _ _ _
    fits.target tt (verified-back (sum16 (bytes1 (start_number value.start) ++ bytes1 value.service ++ bytes2
    value.length ++ bytes2 value.identification ++ bytes2 value.fragment ++ bytes1 value.time ++ bytes1
    value.protocol ++ bytes4 value.source ++ bytes4 value.target)) _ _ _ (pure-back _)))))))))))

-- each write is accepted, and the value's size is the number of bits written
pub checked_ipv4_packs : (o : Order) (value : CheckedIpv4) → Fits value
    → Packs (checked_ipv4_writes o value) (checked_ipv4_size o value)
checked_ipv4_packs o value fits =
    packs-is (packs-part ((own_field {B = CheckedIpv4} start_cases (λ (s : CheckedIpv4). s.start)).packs o value tt tt)
    (packs-part ((field {W = (Result CheckedIpv4 CheckedIpv4Error)} (atom.unsigned 8 8 refl) (λ (s : CheckedIpv4).
    s.service)).packs o value fits.service tt) (packs-part ((field {W = (Result CheckedIpv4 CheckedIpv4Error)}
    (atom.unsigned 16 16 refl) (λ (s : CheckedIpv4). s.length)).packs o value fits.length tt) (packs-part ((field {W
    = (Result CheckedIpv4 CheckedIpv4Error)} (atom.unsigned 16 16 refl) (λ (s : CheckedIpv4).
    s.identification)).packs o value fits.identification tt) (packs-part ((field {W = (Result CheckedIpv4
    CheckedIpv4Error)} (atom.unsigned 16 16 refl) (λ (s : CheckedIpv4). s.fragment)).packs o value fits.fragment tt)
    (packs-part ((field {W = (Result CheckedIpv4 CheckedIpv4Error)} (atom.unsigned 8 8 refl) (λ (s : CheckedIpv4).
    s.time)).packs o value fits.time tt) (packs-part ((field {W = (Result CheckedIpv4 CheckedIpv4Error)}
    (atom.unsigned 8 8 refl) (λ (s : CheckedIpv4). s.protocol)).packs o value fits.protocol tt) (packs-more
    (unsigned-written o 16 16 (sum16 (bytes1 (start_number value.start) ++ bytes1 value.service ++ bytes2
    value.length ++ bytes2 value.identification ++ bytes2 value.fragment ++ bytes1 value.time ++ bytes1
    value.protocol ++ bytes4 value.source ++ bytes4 value.target)) refl (sum16-small (bytes1 (start_number
    value.start) ++ bytes1 value.service ++ bytes2 value.length ++ bytes2 value.identification ++ bytes2
    value.fragment ++ bytes1 value.time ++ bytes1 value.protocol ++ bytes4 value.source ++ bytes4 value.target)))
    (packs-part ((field {W = (Result CheckedIpv4 CheckedIpv4Error)} (atom.unsigned 32 32 refl) (λ (s : CheckedIpv4).
    s.source)).packs o value fits.source tt) (packs-part ((field {W = (Result CheckedIpv4 CheckedIpv4Error)}
    (atom.unsigned 32 32 refl) (λ (s : CheckedIpv4). s.target)).packs o value fits.target tt) (packs-none)))))))))))
    (omega arith)

-- the format, with its laws
abbrev pub checked_ipv4_format : OwnFormat CheckedIpv4Error CheckedIpv4
checked_ipv4_format = record {
  read = checked_ipv4_decoder;
  write = checked_ipv4_writes;
  size = checked_ipv4_size High;
  facts = λ value. Fits value ∷ [];
  round_trip = checked_ipv4_goes;
  packs = checked_ipv4_packs;
  besides = λ value. Fits value ∷ [];
  accepted = λ o value at fits all. fits;
}

-- the bits, of which a search is to see no part
pub told : (value : CheckedIpv4)
    → write_sequence (checked_ipv4_writes High value ++ align ∷ []) 0 ≡ checked_ipv4_bits value
unfolding checked_ipv4_bits
told value = refl
